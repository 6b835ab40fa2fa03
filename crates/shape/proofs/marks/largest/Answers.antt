-- `largest` meets its contract.
use Rattle.std.proofs.Common.{◌≡◌, ◌/◌, ◌<◌, sym, ◌∙◌, subst, arith}
use Rattle.std.proofs.lemmas.Grind.{common_steps}
use Rattle.shape.specs.Codes.{LargestSlots}
use Rattle.shape.proofs.Largest.{largest_start, largest_same, largest_more}
use Rattle.shape.proofs.marks.largest.Goals as goal

pub loop-j-init : goal.loop-j-init
loop-j-init g c = λ of post. largest_start (λ j. j / g.row.WIDTH) of

pub loop-j-preserved-then-at-eq0 : goal.loop-j-preserved-then-at-eq0
loop-j-preserved-then-at-eq0 g c = λ of post.
    let l = c.loop-j in
    largest_same (λ j. j / g.row.WIDTH) of l.j l.marks (l.invariant of post)
    (sym (post l.j c.mark-at.result c.loop-j-test.true c.mark-at.ensures) ∙ c.if-at-eq0.true)

pub loop-j-preserved : goal.loop-j-preserved
loop-j-preserved g c = λ of post.
    let l = c.loop-j in
    let e : c.mark-at.result ≡ of l.j = post l.j c.mark-at.result c.loop-j-test.true c.mark-at.ensures in
    let inside : l.j / g.row.WIDTH < 64 = grind (arith, common_steps, c.requires.full, c.requires.width, c.loop-j-test.true) in
    largest_more (λ j. j / g.row.WIDTH) of l.j l.marks (l.invariant of post) inside c.max.result
    (omega (arith, c.max.ensures))
    (omega (arith, c.max.ensures, e))
    (λ n p q. omega (arith, c.max.ensures, e))

pub returns : goal.returns
returns g c = λ of post.
    let l = c.loop-j in
    subst (λ n. LargestSlots (λ j. j / g.row.WIDTH) of n l.marks) (omega arith) (l.invariant of post)
