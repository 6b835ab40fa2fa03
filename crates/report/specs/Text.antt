-- The report's text, as document 01 prints it: a list of bytes, the word beside its bytes. 10 ends a line.
use Rattle.std.specs.Prelude.{Bool, true, false, List, [], ◌∷◌, ◌++◌, ℕ, get_or}
use Rattle.image.specs.Layout.{rows}
use Rattle.task.specs.declared.Value.{Value}
use Rattle.task.specs.declared.Value.TheVariants.{Int, Label, Record}
use Rattle.task.specs.declared.Register.{Register}
use Rattle.task.specs.Frames.{zero_register}
use Rattle.drive.specs.declared.End.{End}
use Rattle.drive.specs.declared.End.TheVariants.{NotEnded, Halt, Fault}
use Rattle.drive.specs.Ending.{is_end}
use Rattle.report.specs.declared.Report.{Report}
use Rattle.report.specs.Words.{decimal, signed, line}

abbrev pub end_line : End → List ℕ
-- end spent
end_line NotEnded = 101 ∷ 110 ∷ 100 ∷ 32 ∷ 115 ∷ 112 ∷ 101 ∷ 110 ∷ 116 ∷ 10 ∷ []
-- end halt
end_line Halt = 101 ∷ 110 ∷ 100 ∷ 32 ∷ 104 ∷ 97 ∷ 108 ∷ 116 ∷ 10 ∷ []
-- end fault n
end_line (Fault n) = line (101 ∷ 110 ∷ 100 ∷ 32 ∷ 102 ∷ 97 ∷ 117 ∷ 108 ∷ 116 ∷ 32 ∷ []) n

-- work n
abbrev pub work_line : ℕ → List ℕ
work_line n = line (119 ∷ 111 ∷ 114 ∷ 107 ∷ 32 ∷ []) n

-- span n
abbrev pub span_line : ℕ → List ℕ
span_line n = line (115 ∷ 112 ∷ 97 ∷ 110 ∷ 32 ∷ []) n

abbrev pub value_text : Value → List ℕ
-- int z
value_text (Int z) = (32 ∷ 105 ∷ 110 ∷ 116 ∷ 32 ∷ []) ++ signed z
-- lab b
value_text (Label b) = (32 ∷ 108 ∷ 97 ∷ 98 ∷ 32 ∷ []) ++ decimal b
-- rec c d
value_text (Record c d) = (32 ∷ 114 ∷ 101 ∷ 99 ∷ 32 ∷ []) ++ decimal c ++ (32 ∷ []) ++ decimal d

-- r, the register's number and its value
unfoldable pub register_line : ℕ → Value → List ℕ
register_line i v = (114 ∷ []) ++ decimal i ++ value_text v ++ (10 ∷ [])

unfoldable pub register_lines : List Register → ℕ → List ℕ
register_lines registers n = rows (λ i. register_line i (get_or registers i zero_register).value) n

-- a job that has not ended reports the work alone
abbrev pub result_lines : Bool → Report → List ℕ
result_lines true r = span_line r.span ++ register_lines r.registers 16
result_lines false r = []

unfoldable pub text_of : Report → List ℕ
text_of r = end_line r.end ++ work_line r.work ++ result_lines (is_end r.end) r

-- refused n
abbrev pub refused_text : ℕ → List ℕ
refused_text n = line (114 ∷ 101 ∷ 102 ∷ 117 ∷ 115 ∷ 101 ∷ 100 ∷ 32 ∷ []) n

-- room for the longest text
abbrev pub text_room : ℕ
text_room = 1024
