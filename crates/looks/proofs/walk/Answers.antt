-- `walk` meets its contract: each turn is a look, and at the end the walk stays.
use Rattle.std.proofs.Common.{ap, sym, ◌∙◌, length, arith}
use Rattle.task.specs.declared.Task.{Task}
use Rattle.task.specs.Frames.{no_task}
use Rattle.looks.specs.Looking.{looked, walked}
use Rattle.looks.proofs.LookLaws.{walk_look, walk_end}
use Rattle.looks.proofs.walk.Goals as goal

pub loop-t-preserved : goal.loop-t-preserved
loop-t-preserved c =
    let ts = c.args.tasks.now in
    let l = c.loop-t.l in
    ap (walked ts) (c.look_at-l.ensures.0 ∙ ap (λ (t : Task). looked l t (length ts)) (c.in-Some.ensures.lookup.3.1 no_task))
    ∙ walk_look ts l (omega (arith, c.in-Some.ensures))
    ∙ c.loop-t.invariant

pub returns : goal.returns
returns c = sym (walk_end c.args.tasks.now c.loop-t.l (omega (arith, c.in_default.ensures))) ∙ c.loop-t.invariant
