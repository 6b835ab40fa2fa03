-- `join_parent` meets its contract.
use Rattle.evaluator.specs.Hands.{kept_of, joined_of}
use mathlib.Core.Path.{◌≡◌, refl, ap, ◌∙◌}
use Prim.Native.Nat.{suc, ◌*◌, ◌-◌, ◌/◌}
use native.Mathlib.Omega.{arith}
use lib.ListN.{get_or}
use Rattle.image.specs.declared.Block.{Block}
use Rattle.image.specs.Layout.{block_of}
use Rattle.image.proofs.Accepted.{accepted}
use Rattle.task.specs.declared.Status.TheVariants.{Running, Faulted}
use Rattle.task.specs.Frames.{fault_of}
use Rattle.task.specs.Step.{copied, first_fault}
use Rattle.task.specs.Execute.{status_by}
use Rattle.evaluator.specs.declared.Hand.{Hand}
use Rattle.evaluator.specs.Banks.{bank_of, bank_at}
use Rattle.evaluator.proofs.CloseLaws.{fault_in, none_in, top-inside, can_join, continuation-inside, joint-faulted, joint-running, join_leads, leads_same}
use Rattle.evaluator.proofs.Hand.join_parent.Goals as goal

pub offset_bounds-rows-at : goal.offset_bounds-rows-at
offset_bounds-rows-at c = omega (arith, top-inside c.args.program.now.cells.now c.args.self c.args.rows.now c.requires.0 c.requires.1 c.requires.2)

pub bounds-rows-at : goal.bounds-rows-at
bounds-rows-at c = omega (arith, top-inside c.args.program.now.cells.now c.args.self c.args.rows.now c.requires.0 c.requires.1 c.requires.2)

pub offset_bounds-rows-at-2 : goal.offset_bounds-rows-at-2
offset_bounds-rows-at-2 c = omega (arith, top-inside c.args.program.now.cells.now c.args.self c.args.rows.now c.requires.0 c.requires.1 c.requires.2)

pub bounds-rows-at-2 : goal.bounds-rows-at-2
bounds-rows-at-2 c = omega (arith, top-inside c.args.program.now.cells.now c.args.self c.args.rows.now c.requires.0 c.requires.1 c.requires.2)

pub joined-requires : goal.joined-requires
joined-requires c =
    let q = c.requires in
    can_join c.args.program.now.cells.now c.args.self c.args.rows.now q.0 q.1 (c.args.self.depth - 1) (omega (arith, q.2)) q.2 q.3

pub returns-in-Faulted : goal.returns-in-Faulted
returns-in-Faulted c =
    let cells = c.args.program.now.cells.now in
    let h = c.args.self in
    let rows = c.args.rows.now in
    let q = c.requires in
    let d = h.depth - 1 in
    let deep : h.depth ≡ suc d = omega (arith, q.2) in
    let n = c.in-Faulted.field-0 in
    let first = fault_in (first_fault (fault_of (kept_of rows.sides d).status) (fault_of h.status)) n c.joined_status-status.ensures c.in-Faulted.is in
    let e = c.joined.ensures ∙ ap (λ s. joined_of h (kept_of rows.sides d) s 0 0) c.in-Faulted.is in
    record {
      depth_lt_depth = (omega (arith, ap (λ (x : Hand). x.depth) e, q.2), ap (λ (x : Hand). x.left) e);
      leads_to = λ words interval.
          join_leads cells h rows q.0 q.1 d deep c.args.program.now.accepted q.3 words interval (Faulted n) 0 0 refl rows.registers q.0.full.sized
          (joint-faulted cells h rows q.0 q.1 d deep n first) e;
      same_records = refl;
      same_sides = refl;
      same_pile = refl;
    }

pub block-block-requires : goal.block-block-requires
block-block-requires c =
    let cells = c.args.program.now.cells.now in
    let h = c.args.self in
    let rows = c.args.rows.now in
    let q = c.requires in
    let d = h.depth - 1 in
    let deep : h.depth ≡ suc d = omega (arith, q.2) in
    continuation-inside cells h rows q.0 q.1 d deep

pub first-first-requires : goal.first-first-requires
first-first-requires c =
    let cells = c.args.program.now.cells.now in
    let h = c.args.self in
    let rows = c.args.rows.now in
    let q = c.requires in
    let d = h.depth - 1 in
    let deep : h.depth ≡ suc d = omega (arith, q.2) in
    let ok = accepted cells c.args.program.now.accepted in
    let b = get_or rows.records d 0 / 4294967296 in
    let l = (ok.block b (continuation-inside cells h rows q.0 q.1 d deep)).label_below in
    omega (arith, ap (λ (x : Block). x.label) c.block-block.ensures, l)

pub join_registers-requires : goal.join_registers-requires
join_registers-requires c =
    let q = c.requires in
    (q.0.full, top-inside c.args.program.now.cells.now c.args.self c.args.rows.now q.0 q.1 q.2)

pub overflow_mul-first : goal.overflow_mul-first
overflow_mul-first c =
    let cells = c.args.program.now.cells.now in
    let h = c.args.self in
    let rows = c.args.rows.now in
    let q = c.requires in
    let d = h.depth - 1 in
    let deep : h.depth ≡ suc d = omega (arith, q.2) in
    let ok = accepted cells c.args.program.now.accepted in
    let b = get_or rows.records d 0 / 4294967296 in
    let l = (ok.block b (continuation-inside cells h rows q.0 q.1 d deep)).label_below in
    omega (
      arith,
      c.first-first.ensures,
      ap (λ (x : Block). (block_of cells x.label).first) c.block-block.ensures,
      (ok.block (block_of cells b).label l).first_below,
      ok.few_instructions,
    )

pub joined-requires-2 : goal.joined-requires-2
joined-requires-2 c =
    let q = c.requires in
    can_join c.args.program.now.cells.now c.args.self c.args.rows.now q.0 q.1 (c.args.self.depth - 1) (omega (arith, q.2)) q.2 q.3

pub returns : goal.returns
returns c =
    let cells = c.args.program.now.cells.now in
    let h = c.args.self in
    let rows = c.args.rows.now in
    let q = c.requires in
    let d = h.depth - 1 in
    let deep : h.depth ≡ suc d = omega (arith, q.2) in
    let k = kept_of rows.sides d in
    let b = get_or rows.records d 0 / 4294967296 in
    let none-first = none_in (first_fault (fault_of k.status) (fault_of h.status)) c.joined_status-status.ensures c.in_default.not-Faulted in
    let m = c.join_registers.ensures in
    let now = c.join_registers.new.self in
    let t = c.block-block in
    let first = c.first-first in
    let pc = 4 * first.result in
    let e = c.joined-2.ensures ∙ ap (λ s. joined_of h k s pc k.height) (c.joined_status-status.ensures ∙ ap status_by none-first) in
    let f : first.result ≡ (block_of cells (block_of cells b).label).first = first.ensures ∙ ap (λ (x : Block). (block_of cells x.label).first) t.ensures in
    let w = m.registers_after ∙ ap (λ (y : Block). copied (bank_of rows.registers) y.pairs y.packed (bank_at rows.banks d)) t.ensures in
    record {
      depth_lt_depth = (omega (arith, ap (λ (x : Hand). x.depth) e, q.2), ap (λ (x : Hand). x.left) e);
      leads_to = λ words interval. leads_same cells words interval m.same_banks m.same_records m.same_sides m.same_pile
          (join_leads cells h rows q.0 q.1 d deep c.args.program.now.accepted q.3 words interval Running pc k.height (omega arith) now.registers m.sized
          (joint-running cells h rows q.0 q.1 d deep none-first q.3 pc (omega (arith, f)) now.registers w) e);
      same_records = m.same_records;
      same_sides = m.same_sides;
      same_pile = m.same_pile;
    }
