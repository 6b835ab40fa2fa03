-- `evaluate` meets its contract.
use Rattle.std.proofs.Common.{rules}
use Rattle.arms.specs.Registers.{Sized}
use mathlib.Core.Path.{sym, ◌∙◌}
use Rattle.evaluator.proofs.RoundLaws.{start_rows, start_full, start_point, start-found, end_spent, ends_as, closes}
use Rattle.evaluator.proofs.flat.evaluate.Goals as goal

pub run_all-z-requires : goal.run_all-z-requires
run_all-z-requires c =
    let code = c.args.code.now in
    let registers = c.args.registers.now in
    let sized : Sized registers.nums registers.kinds = search rules in
    start_point code.program.cells.now code.program.accepted c.args.places c.args.budget (start_rows registers) c.requires (start_full registers sized) c.first.ensures

pub returns : goal.returns
returns c =
    let code = c.args.code.now in
    let cells = code.program.cells.now in
    let words = code.words.now in
    let registers = c.args.registers.now in
    let sized : Sized registers.nums registers.kinds = search rules in
    let z = c.run_all-z in
    let x = z.ensures.leads_to in
    let over = z.ensures.depth_value in
    record {
      finds = (
        _,
        ends_as cells words code.interval z.result z.new.rows x.point over ∙ sym x.its_same_end
            ∙ start-found cells code.program.accepted c.args.places c.args.budget (start_rows registers) c.requires (start_full registers sized) words code.interval c.first.ensures,
      );
      left_value = end_spent cells words code.interval z.result z.new.rows x.point over;
      closes = closes cells words code.interval z.result z.new.rows x.point over;
    }
