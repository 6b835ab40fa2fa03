-- The computed tests of one slot's frame, for question 20: a live task's, and a vacant slot's.
use Rattle.std.specs.Prelude.{Bool, true, false, ◌&&◌, ◌||◌, ℕ, zero, suc, ◌+◌, ◌^◌, eqb, ltb, leb, pos, length, get_or}
use Rattle.int64.specs.Equal.{eq_z}
use Rattle.image.specs.Program.{Program}
use Rattle.task.specs.declared.Value.{Value}
use Rattle.task.specs.declared.Value.TheVariants.{Int, Label, Record}
use Rattle.task.specs.declared.Status.{Status}
use Rattle.task.specs.declared.Status.TheVariants.{Vacant, Running, Waiting, Halted, Faulted}
use Rattle.task.specs.declared.Fork.{Fork}
use Rattle.task.specs.declared.Task.{Task}
use Rattle.task.specs.declared.Frame.{Frame}
use Rattle.task.specs.Frames.{zero_fork, stack_length}
use Rattle.task.specs.Step.{register, entry}

-- the test passes at i, i + 1, .. (n of them)
unfoldable pub every : (ℕ → Bool) → ℕ → ℕ → Bool
every test zero i = true
every test (suc n) i = elim (test i) [ true ↦ every test n (i + 1) | false ↦ false ]

-- ---- Registers

-- block b is a join target of the program
unfoldable pub is_target : Program → ℕ → Bool
is_target program b = ltb b program.blocks && eqb (program.block b).annotation 2

-- every label of a live register is below B, every record's continuation a join target
abbrev pub value_fits : Program → Value → Bool
value_fits program (Int z) = true
value_fits program (Label b) = ltb b program.blocks
value_fits program (Record c d) = is_target program c

abbrev pub is_zero : Value → Bool
is_zero (Int z) = eq_z z (pos 0)
is_zero (Label b) = false
is_zero (Record c d) = false

-- 16 integers 0
abbrev pub registers_zero : Frame → Bool
registers_zero f = every (λ i. is_zero (register f i)) 16 0

-- ---- Stacks

-- an entry below the stack's height fits as a register does; an entry that is not in use is the integer 0
abbrev pub entry_fits : Program → Bool → Value → Bool
entry_fits program true v = value_fits program v
entry_fits program false v = is_zero v

-- a height of at most 32, and each of the 32 entries
abbrev pub stack_fits : Program → Frame → Bool
stack_fits program f =
    leb f.task.height stack_length && every (λ i. entry_fits program (ltb i f.task.height) (entry f i)) stack_length 0

-- height 0, and 32 integers 0
abbrev pub stack_empty : Frame → Bool
stack_empty f = eqb f.task.height 0 && every (λ i. is_zero (entry f i)) stack_length 0

-- ---- Forks

abbrev pub is_zero_fork : Fork → Bool
is_zero_fork k = eqb k.continuation 0 && eqb k.depth 0

-- an open fork names a join target; an entry that is not in use is 0
abbrev pub fork_fits : Program → Bool → Fork → Bool
fork_fits program true k = is_target program k.continuation
fork_fits program false k = is_zero_fork k

-- ---- Status

-- a task that is not running has pc and counter 0
abbrev pub at_rest : Task → Bool
at_rest t = eqb t.pc 0 && eqb t.counter 0

-- the fault list of a version: 31 to 38, and of version 2 also 42 and 43
abbrev pub fault_listed : ℕ → ℕ → Bool
fault_listed version n = (leb 31 n && leb n 38) || (eqb version 2 && (eqb n 42 || eqb n 43))

-- Waiting only below depth 0, Halted only at depth 0, Faulted with a number of the version's fault list, 16 integers 0 and height 0
abbrev pub status_fits : ℕ → Frame → Status → Bool
status_fits version f Vacant = false
status_fits version f Running = true
status_fits version f Waiting = ltb 0 f.task.depth && at_rest f.task
status_fits version f Halted = eqb f.task.depth 0 && at_rest f.task
status_fits version f (Faulted n) = fault_listed version n && (at_rest f.task && (eqb f.task.height 0 && registers_zero f))

-- ---- A slot's frame

-- the arrays have their lengths, as in the code they always have
abbrev pub is_full : Frame → Bool
is_full f = eqb (length f.registers) 16 && (eqb (length f.task.forks) 6 && eqb (length f.stack) stack_length)

-- a live task with 2 ^ h places in a job of 2 ^ D: at depth D - h, its number of open forks
unfoldable pub formed : Program → ℕ → ℕ → Frame → Bool
formed program D h f =
    is_full f
    && (eqb f.task.places (2 ^ h)
    && (eqb (f.task.depth + h) D
    && (ltb f.task.pc program.instructions
    && (status_fits program.version f f.task.status
    && (every (λ i. fork_fits program (ltb i f.task.depth) (get_or f.task.forks i zero_fork)) 6 0
    && (every (λ i. value_fits program (register f i)) 16 0 && stack_fits program f))))))

abbrev pub is_vacant_status : Status → Bool
is_vacant_status Vacant = true
is_vacant_status Running = false
is_vacant_status Waiting = false
is_vacant_status Halted = false
is_vacant_status (Faulted n) = false

-- the frame is `vacant`
unfoldable pub is_vacant : Frame → Bool
is_vacant f =
    is_full f
    && (is_vacant_status f.task.status
    && (eqb f.task.places 0
    && (eqb f.task.span 0
    && (eqb f.task.depth 0
    && (at_rest f.task
    && (every (λ i. is_zero_fork (get_or f.task.forks i zero_fork)) 6 0 && (registers_zero f && stack_empty f)))))))

-- counter and span are at most the work: a fact of a state, and of no frame alone
abbrev pub within : ℕ → Frame → Bool
within work f = leb f.task.counter work && leb f.task.span work
