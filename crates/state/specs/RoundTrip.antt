-- The round trip between states and their bytes, as one statement. `proofs/RoundTrip.antt` proves it.
use Rattle.std.specs.Prelude.{◌≡◌, true, List, ℕ}
use Rattle.image.specs.RoundTrip.{Bytes}
use Rattle.drive.specs.declared.State.{State}
use Rattle.state.specs.State.{state_bytes}
use Rattle.state.specs.Reading.{stands_state, state_in}
use Rattle.state.specs.Fields.{InFields}

pub record RoundTrip : Type 0 where
  -- a state's bytes stand for it: reading what was written gives the same state
  pub read_again : (m : State) → InFields m → (stands_state (state_bytes m) ≡ true) × (state_in (state_bytes m) ≡ m)
  -- bytes that stand for a state are that state's bytes
  pub written_back : (bytes : List ℕ) → Bytes bytes → stands_state bytes ≡ true → InFields (state_in bytes) × (state_bytes (state_in bytes) ≡ bytes)
  -- so two different buffers that stand for states stand for different ones
  pub one_buffer : (x y : List ℕ) → Bytes x → Bytes y → stands_state x ≡ true → stands_state y ≡ true → state_in x ≡ state_in y → x ≡ y
