-- `write_front` meets its contract.
use Rattle.std.proofs.Common.{◌≡◌, ℕ, List, ◌∙◌, ap, length, get_or, arith}
use lib.Seq.{sets}
use Rattle.image.specs.Layout.{rows}
use Rattle.task.specs.Frames.{zero_register}
use Rattle.state.specs.Numbers.{value_numbers, in_bytes}
use Rattle.report.proofs.ReportLaws.{report_placed}
use Rattle.report.proofs.bytes.write_front.Goals as goal

pub returns : goal.returns
returns c =
    let r = c.args.r.now in
    let e = c.end_numbers.ensures in
    let sixteen : length r.registers ≡ 16 = omega arith in
    let line : ℕ → List ℕ = λ (i : ℕ). in_bytes (value_numbers (get_or r.registers i zero_register).value) in
    report_placed r c.args.out.now _ _ _ _ _
    (ap (λ xs. get_or xs 0 0) e)
    (ap (λ xs. get_or xs 1 0) e)
    c.write_numbers.ensures
    c.write_numbers-2.ensures
    (c.write_registers.ensures ∙ ap (λ (n : ℕ). sets c.write_numbers-2.new.out 40 (rows line n)) sixteen)
