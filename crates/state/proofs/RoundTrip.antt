-- The round trip: a state's bytes stand for it, bytes that stand for a state are that state's, and two buffers that stand for one state are equal.
use mathlib.Core.Path.{sym, ap, ◌∙◌}
use Rattle.state.specs.State.{state_bytes}
use Rattle.state.specs.RoundTrip.{RoundTrip}
use Rattle.state.proofs.StateTrip.{state_stands, state_again, state_in_fields, state_back}

pub round_trip : RoundTrip
round_trip = record {
  read_again = λ m f. (state_stands m f, state_again m f);
  written_back = λ bytes small h. (state_in_fields bytes small h, state_back bytes small h);
  one_buffer = λ x y s t h k e. sym (state_back x s h) ∙ ap state_bytes e ∙ state_back y t k;
}
