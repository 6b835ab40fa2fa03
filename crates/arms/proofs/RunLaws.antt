-- The loop of turns is `serial`'s run.
use mathlib.Core.Path.{◌≡◌, refl, ap, ◌∙◌, sym, subst}
use mathlib.Core.Bool.{true}
use mathlib.Core.List.{List}
use Prim.Native.Nat.{ℕ, zero, suc, ◌+◌, ◌*◌, ◌-◌, ◌/◌, ◌<◌, ◌≤◌}
use native.Mathlib.Omega.{arith}
use lib.IntN.{ℤ}
use Rattle.image.specs.Layout.{instruction_count, program_of}
use Rattle.agreement.specs.Plain.{one}
use Rattle.serial.specs.Serial.{Pending, held, taken, run}
use Rattle.serial.proofs.Equations.{onward-runs, run_step}
use Rattle.task.specs.declared.Register.{Register}
use Rattle.task.specs.declared.Fork.{Fork}
use Rattle.task.specs.declared.Frame.{Frame}
use Rattle.task.specs.Frames.{running}
use Rattle.task.specs.Choices.{chosen}
use Rattle.task.specs.Step.{step}
use Rattle.task.proofs.Formation.{Formed, formed_is, its_is_formed}
use Rattle.task.proofs.StepKeeps.{step_one}
use Rattle.task.proofs.Counts.{within_is, is_within, within_more, step-one-within}
use Rattle.image.proofs.Accepted.{accepted}
use Rattle.image.specs.Questions.{program_no}
use Rattle.arms.specs.declared.Way.{Way}
use Rattle.arms.specs.Registers.{registers_of, Sized}
use Rattle.arms.specs.Stacks.{Stacked, stack_of}
use Rattle.arms.specs.Turns.{frame_at, rules, At, Starts, Ends, Runs}

module _ (cells : List ℕ) (words : List ℤ) (interval : ℕ) where
  -- a step to one task that runs on
  run-one : (n : ℕ) (f g : Frame) (s : Pending Frame) → running f ≡ true → step (program_of cells) words (chosen interval) f ≡ one g → running g ≡ true
      → run (rules cells words interval) (suc n) (held f s) ≡ run (rules cells words interval) n (held g s)
  run-one n f g s r e h =
      run_step (rules cells words interval) n f s r
      ∙ ap (λ x. run (rules cells words interval) n (taken (rules cells words interval) s x)) e
      ∙ ap (λ x. run (rules cells words interval) n x) (onward-runs (rules cells words interval) g s h)

  module _ (accept : program_no cells ≡ 0) (places depth pc beat left : ℕ) (u : Stacked) (before : List Register) where
    pub runs-start : pc ≡ 4 * (pc / 4) → pc / 4 < instruction_count cells → left ≤ beat → Runs cells words interval places depth pc beat left u before
        pc beat left u before
    runs-start a h l = record {
      same_run = λ forks span s. rw same;
      keeps_formed = λ forks span D h r x. rw same x;
      keeps_within = λ forks span W x. rw (same, same) x;
      aligned = a;
      inside = h;
      counted = l;
      beat_most = omega arith;
      fewer = omega arith;
    }
      where
        same : (span : ℕ) → span + (left - left) ≡ span
        same span = omega arith

    -- one instruction more
    pub runs_on_lem : (pc' beat' left' : ℕ) (u' : Stacked) (after : List Register) (pc'' beat'' : ℕ) (u'' : Stacked) (next : List Register) → 0 < left'
        → Runs cells words interval places depth pc beat left u before pc' beat' left' u' after
        → ((forks : List Fork) (span : ℕ)
        → step (program_of cells) words (chosen interval) (frame_at places depth forks (pc' / 4) (beat' - (left' - 1 + 1)) span u' after)
        ≡ one (frame_at places depth forks (pc'' / 4) (beat'' - (left' - 1)) (span + 1) u'' next))
        → pc'' ≡ 4 * (pc'' / 4) → pc'' / 4 < instruction_count cells → left' - 1 ≤ beat'' → beat'' ≤ beat'
        → Runs cells words interval places depth pc beat left u before pc'' beat'' (left' - 1) u'' next
    runs_on_lem pc' beat' zero u' after pc'' beat'' u'' next p h t al ins cn bm = absurd (omega arith)
    runs_on_lem pc' beat' (suc n) u' after pc'' beat'' u'' next p h t al ins cn bm = record {
      same_run = λ forks span s. h.same_run forks span s ∙ run-one n (here forks span) (there forks span) s refl (steps forks span) refl ∙ rw less;
      keeps_formed = λ forks span D k r x.
          its_is_formed (program_of cells) D k (there forks span)
          (step_one cells (accepted cells accept) D r words (chosen interval) k (here forks span) (there forks span)
          (formed_is (program_of cells) D k (here forks span) (h.keeps_formed forks span D k r x)) refl (steps forks span));
      keeps_within = λ forks span W x.
          is_within (W + (left - (suc n - 1))) (there forks span)
          (within_more (omega (arith, h.fewer))
          (step-one-within (program_of cells) words (chosen interval) (W + (left - suc n)) (here forks span) (there forks span)
          (within_is (W + (left - suc n)) (here forks span) (h.keeps_within forks span W x)) (steps forks span)));
      aligned = al;
      inside = ins;
      counted = cn;
      beat_most = omega (arith, bm, h.beat_most);
      fewer = omega (arith, h.fewer);
    }
      where
        -- before it, and after it
        here : List Fork → ℕ → Frame
        here forks span = frame_at places depth forks (pc' / 4) (beat' - suc n) (span + (left - suc n)) u' after

        there : List Fork → ℕ → Frame
        there forks span = frame_at places depth forks (pc'' / 4) (beat'' - (suc n - 1)) (span + (left - (suc n - 1))) u'' next

        less : suc n - 1 ≡ n
        less = omega arith

        steps : (forks : List Fork) (span : ℕ) → step (program_of cells) words (chosen interval) (here forks span) ≡ one (there forks span)
        steps forks span =
            let e = t forks (span + (left - suc n)) in
            let c : suc n - 1 + 1 ≡ suc n = omega arith in
            let w : span + (left - suc n) + 1 ≡ span + (left - (suc n - 1)) = omega (arith, h.fewer) in
            rw (c, w) at e

-- a turn that was none: the instruction there is one that the task does not carry out by itself
pub stops : (cells : List ℕ) (words : List ℤ) (interval places depth : ℕ) (way : Way) (pc beat left : ℕ) (before after : List Register)
    → 0 < left → after ≡ before → Ends cells words interval places depth way pc (beat - (left - 1 + 1)) before
    → Ends cells words interval places depth way pc (beat - left) after
stops cells words interval places depth way pc beat left before after some kept e =
    let same : left - 1 + 1 ≡ left = omega (arith, some) in
    subst (Ends cells words interval places depth way pc (beat - left)) (sym kept)
    (subst (λ n. Ends cells words interval places depth way pc (beat - n) before) same e)

-- ---- at a turn of the loop

module _ {cells : List ℕ} {words : List ℤ} {interval places depth budget begun start low piled pc beat left height : ℕ}
    (nums kinds pile tags nums' kinds' pile' tags' : List ℕ) (b : Starts cells nums kinds pile tags places depth budget begun start low piled)
    (r : Runs cells words interval places depth start begun budget (stack_of pile tags low piled) (registers_of nums kinds) pc beat left
    (stack_of pile' tags' low height) (registers_of nums' kinds')) where
  formed-now : Formed (program_of cells) b.rank b.height
      (frame_at places depth b.forks (pc / 4) (beat - left) (b.span + (budget - left)) (stack_of pile' tags' low height) (registers_of nums' kinds'))
  formed-now = formed_is (program_of cells) b.rank b.height _ (r.keeps_formed b.forks b.span b.rank b.height b.room b.its_is_formed)

  pub height-now : height ≤ 32
  height-now = formed-now.height_most

  pub turn_at : Sized nums' kinds' → 0 < left → At cells nums' kinds' depth (left - 1) beat pc
  turn_at sized some = record {
    sized = sized;
    on_place = r.aligned;
    inside_program = r.inside;
    counter_least = omega (arith, r.counted, some);
    values_fit = formed-now.values_fit;
    depth_most = omega (arith, formed-now.has_depth, b.room);
  }
