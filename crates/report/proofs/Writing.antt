-- Texts written one after the other.
use mathlib.Core.Path.{◌≡◌, refl, ap, ap₂, ◌∙◌}
use mathlib.Core.List.{List, ◌++◌, append_assoc}
use Prim.Native.Nat.{ℕ, ◌+◌, ◌-◌, ◌≤◌}
use native.Mathlib.Omega.{arith}
use lib.ListN.{length, length-append}
use lib.Seq.{sets, sets-eq, drop-drop}
use borrow.Rule.Slice.PartMut.{put_mid}
use Rattle.int64.proofs.Stores.{sets-append}
use Rattle.report.specs.Words.{Written}

pub written_then : {m k : ℕ} {l l₁ l₂ : List ℕ} {at n p : ℕ} {xs ys : List ℕ} → Written m l at xs l₁ n → Written k l₁ n ys l₂ p
    → Written (m + k) l at (xs ++ ys) l₂ p
written_then {l = l} {at = at} {xs = xs} {ys = ys} a b = record {
  stored = b.stored ∙ ap₂ (λ (t : List ℕ) (i : ℕ). sets t i ys) a.stored a.ends ∙ sets-append l at xs ys;
  ends = omega (arith, a.ends, b.ends, length-append xs ys);
  short = omega (arith, a.short, b.short);
}

-- a text known by another name, and to a wider bound
pub written_as : {m : ℕ} {l l₁ : List ℕ} {at n : ℕ} {xs : List ℕ} (k : ℕ) (ys : List ℕ) → Written m l at xs l₁ n → xs ≡ ys → m ≤ k
    → Written k l at ys l₁ n
written_as {l = l} {at = at} k ys a e h = record {
  stored = a.stored ∙ ap (sets l at) e;
  ends = a.ends ∙ ap (λ (t : List ℕ). at + length t) e;
  short = omega (arith, a.short);
}

-- a word copied to its place
pub word_written : (l ys word : List ℕ) (at e : ℕ) → e ≡ at + length word → e ≤ length l → ys ≡ word → Written (length word) l at word (put_mid at (e - at) l ys) e
word_written l ys word at e p h q =
    let size : e - at ≡ length word = omega arith in
    record {
      stored = rw (q, size, sets-eq word l at (omega arith), drop-drop, append_assoc) refl;
      ends = p;
      short = omega arith;
    }
