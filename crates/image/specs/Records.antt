-- A record's questions, wherever it stands: the code puts them to the records of an image and to those of a program buffer.
use Rattle.std.specs.Prelude.{Bool, ℕ}
use Rattle.image.specs.declared.Block.{Block}
use Rattle.image.specs.declared.Instruction.{Instruction}
use Rattle.image.specs.Questions.{ask, in_order, annotated, laid_out, ends_block, same}

-- block b, whose predecessor starts at `before`: 6, then 7
abbrev pub block_record_no : ℕ → ℕ → ℕ → ℕ → ℕ → Block → ℕ
block_record_no version blocks instructions b before k =
    ask (in_order instructions b before k.first) 6 (ask (annotated version blocks k) 7 0)

-- an instruction, last in its block or not, where there are this many opcodes: 8, then 9
abbrev pub instruction_record_no : ℕ → ℕ → Bool → Instruction → ℕ
instruction_record_no opcodes blocks last x = ask (laid_out opcodes blocks x) 8 (ask (same (ends_block x.opcode) last) 9 0)
