-- `write_text` meets its contract.
use Rattle.std.proofs.Common.{◌≡◌, ◌⊎◌, inl, inr, ℕ, true, ap}
use Rattle.drive.specs.declared.End.{End}
use Rattle.drive.specs.declared.End.TheVariants.{Halt, Fault}
use Rattle.drive.specs.Ending.{is_end}
use Rattle.report.specs.Text.{text_of}
use Rattle.report.proofs.Writing.{written_then}
use Rattle.report.proofs.Lines.{spent_text, ended_text, from_front}
use Rattle.report.proofs.text.write_text.Goals as goal

end_is : (e : End) → (e ≡ Halt) ⊎ ((n : ℕ) × (e ≡ Fault n)) → is_end e ≡ true
end_is e (inl h) = ap is_end h
end_is e (inr h) = ap is_end h.1

pub returns-in-NotEnded : goal.returns-in-NotEnded
returns-in-NotEnded c =
    let r = c.args.r in
    from_front (text_of r) (written_then c.write_end-work.ensures c.write_line-next.ensures) (spent_text r (ap is_end c.in-NotEnded.is))

pub returns-in-Halt : goal.returns-in-Halt
returns-in-Halt c =
    let r = c.args.r in
    from_front (text_of r) (written_then (written_then c.write_end-work.ensures c.write_line-next.ensures) c.write_results.ensures)
    (ended_text r (end_is (r.end) c.in-Halt.is))
