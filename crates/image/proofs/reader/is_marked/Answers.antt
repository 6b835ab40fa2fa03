-- `is_marked` meets its contract.
use Rattle.std.proofs.Common.{◌≡◌, ◌≤◌, ℕ, List, [], ◌∷◌, length, Bool, true, false, arith, ap₂, refl, sym, ◌∙◌, eq-eqb}
use Rattle.std.specs.List.{starts_with}
use Rattle.std.proofs.Math.Bool.{◌&&◌, and-true}
use Rattle.std.proofs.Math.Dec.{eqb}
use borrow.Author.Tests.{ne_eqb, eqb-true, eqb-false}
use Rattle.image.specs.Doors.{mark_in}
use Rattle.image.specs.Layout.{mark}
use Rattle.image.proofs.reader.is_marked.Goals as goal

turned : (a b : ℕ) → eqb a b ≡ eqb b a
turned a b = go (eqb b a) refl
  where
    go : (t : Bool) → eqb b a ≡ t → eqb a b ≡ eqb b a
    go true e = eq-eqb a b (sym (eqb-true b a e)) ∙ sym e
    go false e = ne_eqb a b (λ z. eqb-false b a e (sym z)) ∙ sym e

marked : (image : List ℕ) → 8 ≤ length image → starts_with eqb image mark ≡ mark_in image
unfolding mark_in
marked [] h = absurd (omega arith)
marked (a ∷ []) h = absurd (omega arith)
marked (a ∷ b ∷ []) h = absurd (omega arith)
marked (a ∷ b ∷ c ∷ rest) h = ap₂ ◌&&◌ (turned 84 a) (ap₂ ◌&&◌ (turned 80 b) (and-true (eqb 66 c) ∙ turned 66 c))

pub returns : goal.returns
returns c = c.starts_with.ensures.value ∙ marked c.args.image.now c.requires
