-- The test of a case that antt computes. It leaves out what laws say: see `Enough`.
use mathlib.Core.Bool.{Bool, true, false, ◌&&◌}
use mathlib.Core.List.{List, [], ◌∷◌}
use Prim.Native.Nat.{ℕ}
use lib.Dec.{eqb, leb}
use lib.ListN.{length}
use Rattle.int64.specs.Equal.{eq_z}
use Rattle.image.specs.Doors.{image_no}
use Rattle.agreement.specs.Plain.{Ran, out, ran}
use Rattle.agreement.specs.Picks.{play}
use Rattle.task.specs.declared.Value.{Value}
use Rattle.task.specs.declared.Value.TheVariants.{Int, Label, Record}
use Rattle.task.specs.declared.Frame.{Frame}
use Rattle.task.specs.Step.{register}
use Rattle.drive.specs.declared.End.{End}
use Rattle.drive.specs.declared.End.TheVariants.{NotEnded, Halt, Fault}
use Rattle.drive.specs.Ending.{end_of, job_ended}
use Rattle.drive.specs.Settings.{places_allowed, interval_allowed}
use Rattle.task.specs.Frames.{work_limit}
use Rattle.orders.specs.Demand.{Job, evaluation}
use Rattle.orders.proofs.Plays.{model_of_job, fresh_job}
use Rattle.cases.specs.Cases.{Given, Held, held, Case, job_of, orders_of}

-- the test passes at each element
abbrev pub every : {A : Type 0} → (A → Bool) → List A → Bool
every test [] = true
every test (x ∷ xs) = test x && every test xs

-- ---- The outcome

abbrev pub same_end : End → End → Bool
same_end NotEnded y = false
same_end Halt NotEnded = false
same_end Halt Halt = true
same_end Halt (Fault k) = false
same_end (Fault n) NotEnded = false
same_end (Fault n) Halt = false
same_end (Fault n) (Fault k) = eqb n k

abbrev pub same_value : Value → Value → Bool
same_value (Int x) (Int y) = eq_z x y
same_value (Int x) (Label b) = false
same_value (Int x) (Record c d) = false
same_value (Label a) (Int y) = false
same_value (Label a) (Label b) = eqb a b
same_value (Label a) (Record c d) = false
same_value (Record a b) (Int y) = false
same_value (Record a b) (Label c) = false
same_value (Record a b) (Record c d) = eqb a c && eqb b d

abbrev pub holds : Frame → Held → Bool
holds f (held r v) = same_value (register f r) v

abbrev pub shows : Case → Frame → ℕ → Bool
shows x f work =
    same_end (end_of f) x.outcome.end
    && (eqb work x.outcome.work
    && (eqb f.task.span x.outcome.span && (every (holds f) x.outcome.registers && eqb f.task.places x.given.places)))

abbrev pub evaluates : Case → Ran Frame → Bool
evaluates x out = false
evaluates x (ran e work) = shows x e work

-- ---- The case

-- questions 11 to 14
abbrev pub startable : Given → Bool
startable g =
    places_allowed g.places && (interval_allowed g.interval && (eqb (length g.registers) 16 && leb (length g.words) 4096))

-- by agreement's model, whose picks put no questions to the program and make no shape test
abbrev pub ends_in : Job → List ℕ → Bool
ends_in j ks = job_ended (play (model_of_job j) (fresh_job j) ks)

-- the evaluation has no more fuel than the work expected, so that a wrong one that does not end is soon refused
abbrev pub passes : Case → Bool
passes x =
    let j = job_of x in
    eqb (image_no x.given.image) 0
    && (startable x.given
    && (leb x.outcome.work work_limit && (evaluates x (evaluation j x.outcome.work) && every (ends_in j) (orders_of x))))
