-- The state's slots: slot k has the task record k, the 16 registers of the bank from 16·k on, and the 32 values of the stacks from 32·k on.
use Rattle.std.specs.Prelude.{◌≡◌, ℕ, ◌+◌, ◌*◌, length, get_or, set}
use Rattle.std.proofs.lemmas.List.Edits.{sets}
use Rattle.agreement.specs.Slots.{Slots}
use Rattle.image.specs.Program.{Program}
use Rattle.task.specs.declared.Frame.{Frame}
use Rattle.task.specs.Frames.{bank_length, stack_length, stacks_length, zero_register, vacant, no_task, running}
use Rattle.task.specs.Step.{join}
use Rattle.task.specs.Stretches.{reads}
use Rattle.drive.specs.declared.State.{State}

-- the frame at slot k
abbrev pub at : State → ℕ → Frame
at m k = record {
  task = get_or m.tasks k no_task;
  registers = reads zero_register m.bank (16 * k) 16;
  stack = reads zero_register m.stacks (32 * k) stack_length;
}

-- a frame put at slot k
abbrev pub put : State → ℕ → Frame → State
put m k f = record {
  places = m.places;
  interval = m.interval;
  work = m.work;
  bank = sets m.bank (16 * k) (reads zero_register f.registers 0 16);
  stacks = sets m.stacks (32 * k) (reads zero_register f.stack 0 stack_length);
  tasks = set m.tasks k f.task;
}

-- the arrays have their lengths, as in the code they always have
pub record Sized (m : State) : Type 0 where
  pub of_bank : length m.bank ≡ bank_length
  pub of_stacks : length m.stacks ≡ stacks_length
  pub of_tasks : length m.tasks ≡ 64

-- 1 more work
abbrev pub ticked : State → State
ticked m =
    record { places = m.places; interval = m.interval; work = m.work + 1; bank = m.bank; stacks = m.stacks; tasks = m.tasks }

-- 64 slots, whose tasks join as the program says
abbrev pub slots_of : Program → Slots Frame State
slots_of program = record {
  running = running;
  join = join program;
  depth = λ f. f.task.depth;
  places = λ f. f.task.places;
  vacant = vacant;
  at = at;
  put = put;
  size = 64;
}
