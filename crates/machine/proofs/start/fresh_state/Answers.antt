-- `fresh_state` meets its contract.
use Rattle.std.proofs.Common.{◌≡◌, ℕ, w64, rules, arith}
use Rattle.machine.specs.Starting.{empty, fresh}
use Rattle.machine.proofs.start.fresh_state.Goals as goal
use mathlib.Core.Path.{ap, ◌∙◌}
use lib.ListN.{get_or}
use lib.Seq.{sets}
use Rattle.task.specs.Frames.{zero_register, integers}
use Rattle.task.specs.Stretches.{reads}
use Rattle.machine.proofs.Filling.{filled_more, filled_none, filled-empty}
use mir.ValLaws.{to_z-of_z}
use lib.IntN.{pos}

pub loop-i-init : goal.loop-i-init
loop-i-init c = filled_none _ c.args.registers.now

pub loop-i-preserved : goal.loop-i-preserved
loop-i-preserved c =
    let registers = c.args.registers.now in
    let here = c.loop-i in
    let more = filled_more _ here.bank registers here.i here.invariant in
    rw (to_z-of_z w64 (get_or registers here.i (pos 0)) (search rules)) more

pub returns : goal.returns
unfolding fresh
returns c =
    let a = c.args in
    let all : c.loop-i.i ≡ 16 = omega (arith, c.loop-i-test.false, c.loop-i.auto.i-end) in
    let filled =
    c.loop-i.invariant ∙ ap (λ (n : ℕ). sets (empty a.places a.interval).bank 0 (reads zero_register (integers a.registers.now) 0 n)) all in
    rw (filled, filled-empty 2048, c.unforked.ensures, c.vacant_task-vacant.ensures)
