-- What the bound asks of a model besides agreement's laws: what an instruction and a join do to the span.
use Rattle.std.specs.Prelude.{ℕ, ◌+◌, ◌≤◌, max, ◌≡◌, true}
use Rattle.agreement.specs.Plain.{one, two}
use Rattle.agreement.specs.Picks.{Model}

-- `Empty`: of a frame without a task
module _ {F S : Type 0} (M : Model F S) (Empty : F → Type 0) (span : F → ℕ) where
  open M use {slots, step}
  open slots use {running, join, depth, vacant, at, put}

  pub record SpanLaws : Type 0 where
    pub of_one : (f g : F) → running f ≡ true → step f ≡ one g → span g ≡ span f + 1
    pub of_two : (f p c : F) → running f ≡ true → step f ≡ two p c → (span p ≡ span f + 1) × (span c ≡ span f + 1)
    pub of_join : (a b : F) → span (join a b) ≡ max (span a) (span b)
    pub of_vacant : span vacant ≡ 0
    -- a slot without a task has no open fork
    pub empty_depth : (f : F) → Empty f → depth f ≡ 0
    -- after a put each slot's span is that of the frame put or the one before
    pub put_span : (m : S) (k : ℕ) (f : F) (i n : ℕ) → span f ≤ n → span (at m i) ≤ n → span (at (put m k f) i) ≤ n
