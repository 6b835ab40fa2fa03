-- `limits_of` meets its contract: the limits are worked out of the table, and the flags of the table are the definition's.
use Rattle.image.proofs.questions.limits_of.Goals as goal
use Rattle.image.specs.declared.questions.Fields.{Fields}
use Rattle.image.specs.declared.questions.Limits.{Limits}
use Rattle.image.specs.declared.questions.TheConstants.{FIELDS, NONE}
use Rattle.image.specs.Questions.{fields}
use Rattle.image.specs.Limits.{flags_of, limit_row, no_opcode, limits_of}
use Rattle.std.specs.Prelude.{map}
use Rattle.std.proofs.Common.{◌≡◌, ◌∙◌, refl, sym, ◌∷◌, ℕ, zero, suc, ◌-◌, ◌≤◌, slice_index_or, arith}
use Rattle.std.proofs.lemmas.List.{get_or-map}
use borrow.Author.Tests.{ne_eqb}
use Rattle.image.proofs.Limiting.{row_of}

abbrev row : Fields → Limits
row f = limit_row (flags_of f)

of-opcode : (n : ℕ) → limits_of (suc n) ≡ limit_row (slice_index_or fields n 0)
unfolding limits_of
of-opcode n = let e : suc n - 1 ≡ n = omega arith in rw (ne_eqb (suc n) 0 (λ z. omega arith), e)

by-opcode : (n : ℕ) (d : Limits) → n ≤ 17 → slice_index_or (no_opcode ∷ map row FIELDS) n d ≡ limits_of n
unfolding limits_of
by-opcode zero d h = refl
by-opcode (suc n) d h =
    get_or-map row FIELDS n NONE d (omega arith) ∙ row_of FIELDS n NONE refl refl (omega arith) ∙ sym (of-opcode n)

pub returns : goal.returns
returns c = by-opcode c.args.opcode (record { r = 0; s = 0; least = 0; most = 0 }) c.requires
