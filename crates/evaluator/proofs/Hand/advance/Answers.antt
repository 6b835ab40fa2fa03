-- `advance` meets its contract.
use Rattle.std.proofs.Common.{◌≡◌, ◌-◌}
use mathlib.Core.Path.{◌≡◌, ap, ◌∙◌}
use Prim.Native.Nat.{suc, ◌-◌}
use native.Mathlib.Omega.{arith}
use Rattle.evaluator.specs.declared.Hand.{Hand}
use Rattle.evaluator.proofs.ActLaws.{starts}
use Rattle.evaluator.proofs.CloseLaws.{top-inside, span_small, turn_leads}
use Rattle.evaluator.proofs.RoundLaws.{leads_on, still-left, still_deep, depth_most, low_small, less-left, less-ended, less_deep}
use Rattle.evaluator.proofs.Hand.advance.Goals as goal

pub run_hand-ran-requires : goal.run_hand-ran-requires
run_hand-ran-requires c =
    let code = c.args.code.now in
    let e = c.in-Running.is in
    (starts code.program.cells.now code.words.now code.interval c.args.self c.args.rows.now c.requires.0 e, e)

pub returns-in-On : goal.returns-in-On
returns-in-On c =
    let h = c.args.self in
    let r = c.run_hand-ran in
    let x = r.ensures.leads_to c.requires.0 in
    let some = still-left h.status h.left h.depth c.in-Running.is c.requires.1 in
    record {
      result_bound = less-left c.args.code.now.program.cells.now h r.result.hand r.new.rows x.point (omega (arith, rw c.in-On.is at r.ensures.rests.when_spent, some));
      leads_to = x;
    }

pub returns-in_default-way : goal.returns-in_default-way
returns-in_default-way c =
    let code = c.args.code.now in
    let r = c.run_hand-ran in
    let y = c.act in
    record {
      result_bound = less-left code.program.cells.now c.args.self y.result y.new.rows y.ensures.leads_to.point (omega (arith, y.ensures.left_lt_left, r.ensures.rests.fewer));
      leads_to = leads_on code.program.cells.now code.words.now code.interval (r.ensures.leads_to c.requires.0) y.ensures.leads_to;
    }

pub bounds : goal.bounds
bounds c =
    let h = c.args.self in
    let n = c.in_default.not-Running in
    omega (arith, top-inside c.args.code.now.program.cells.now h c.args.rows.now c.requires.0 n (still_deep h.status h.left h.depth n c.requires.1))

pub offset_bounds-rows-self : goal.offset_bounds-rows-self
offset_bounds-rows-self c =
    let h = c.args.self in
    omega (arith, depth_most c.args.code.now.program.cells.now h c.args.rows.now c.requires.0)

pub take_child-requires : goal.take_child-requires
take_child-requires c =
    let cells = c.args.code.now.program.cells.now in
    let h = c.args.self in
    let rows = c.args.rows.now in
    let p = c.requires.0 in
    let n = c.in_default.not-Running in
    let low = still_deep h.status h.left h.depth n c.requires.1 in
    let d = h.depth - 1 in
    let deep : h.depth ≡ suc d = omega (arith, low) in
    (low, depth_most cells h rows p, p.span_least, p.limited, span_small cells h rows p n d deep, low_small cells h rows p)

pub returns-in-Running-status : goal.returns-in-Running-status
returns-in-Running-status c =
    let code = c.args.code.now in
    let h = c.args.self in
    let rows = c.args.rows.now in
    let p = c.requires.0 in
    let n = c.in_default.not-Running in
    let low = still_deep h.status h.left h.depth n c.requires.1 in
    let d = h.depth - 1 in
    let deep : h.depth ≡ suc d = omega (arith, low) in
    let t = c.take_child in
    let w = c.in-Running-status.is in
    let y = t.ensures in
    record {
      result_bound = less-ended h t.result n (ap (λ (x : Hand). x.left) y.value) (ap (λ (x : Hand). x.depth) y.value) (ap (λ (x : Hand). x.status) y.value ∙ w);
      leads_to = turn_leads code.program.cells.now h rows p n d deep code.words.now code.interval w t.new.rows y.exchanged y.keeps y.value y.same_records y.same_pile;
    }

pub returns : goal.returns
returns c =
    let code = c.args.code.now in
    let y = c.join_parent in
    record {
      result_bound = less_deep c.args.self y.result c.in_default.not-Running y.ensures.depth_lt_depth.1 y.ensures.depth_lt_depth.0;
      leads_to = y.ensures.leads_to code.words.now code.interval;
    }
