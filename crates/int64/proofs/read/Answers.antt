-- `int64::read` meets its contract: the bytes are put before the number of those after them, the last first.
use Rattle.std.proofs.Common.{◌≡◌, ℕ, suc, ◌+◌, ◌-◌, ◌*◌, ◌^◌, ◌<◌, ◌≤◌, arith, ◌∙◌, ap, List, get_or, refl}
use Rattle.std.proofs.Math.Nat.{pow-le-pow_right}
use native.Mathlib.Nat.{pow-succ'}
use Rattle.int64.specs.Little.{little, NumberAt}
use Rattle.int64.proofs.read.Goals as goal

room : (i : ℕ) → i < 8 → 256 ^ i ≤ 256 ^ 7
room i h =
    let least : i ≤ 7 = omega arith in
    pow-le-pow_right (omega arith) least

-- one byte more, before them
byte_before : (bs : List ℕ) (i at next x b y : ℕ) → next ≡ suc at → NumberAt i bs next x → b < 256 → b ≡ get_or bs at 0 → y ≡ 256 * x + b → NumberAt (suc i) bs at y
unfolding little
byte_before bs i at next x b y e n h is sum =
    record {
      equal = omega (arith, sum, is, n.equal, ap (little i bs) e);
      below = rw (pow-succ' 256 i) (omega (arith, h, n.below, sum));
    }

pub loop-i-init : goal.loop-i-init
unfolding little
loop-i-init g c = record { equal = refl; below = omega arith }

pub overflow_mul-x : goal.overflow_mul-x
overflow_mul-x g c = let l = c.loop-i in omega (arith, l.invariant.below, room l.i (omega (arith, c.requires.size, c.loop-i-test.true)))

pub overflow_add-x : goal.overflow_add-x
overflow_add-x g c =
    let l = c.loop-i in
    omega (arith, l.invariant.below, room l.i (omega (arith, c.requires.size, c.loop-i-test.true)), c.from.ensures, (c.type_inv.bytes (c.args.at + (g.row.N - 1 - l.i))).fits)

pub loop-i-preserved : goal.loop-i-preserved
loop-i-preserved g c =
    let l = c.loop-i in
    let at : ℕ = c.args.at + (g.row.N - suc l.i) in
    let place : c.args.at + (g.row.N - 1 - l.i) ≡ at = omega arith in
    let is : c.from.result ≡ get_or c.args.bytes.now at 0 = c.from.ensures ∙ ap (λ (k : ℕ). get_or c.args.bytes.now k 0) place in
    let next : l.i + 1 ≡ suc l.i = omega arith in
    rw next
    (byte_before c.args.bytes.now l.i at (c.args.at + (g.row.N - l.i)) l.x c.from.result _ (omega (arith, c.loop-i-test.true)) l.invariant (omega (arith, is, (c.type_inv.bytes at).fits)) is refl)

pub returns : goal.returns
returns g c =
    let l = c.loop-i in
    let all : l.i ≡ g.row.N = omega (arith, c.loop-i-test.false, l.auto.i-end) in
    let place : c.args.at + (g.row.N - l.i) ≡ c.args.at = omega (arith, all) in
    record {
      equal = l.invariant.equal ∙ ap (little l.i c.args.bytes.now) place ∙ ap (λ (n : ℕ). little n c.args.bytes.now c.args.at) all;
      below = rw all at l.invariant.below;
    }
