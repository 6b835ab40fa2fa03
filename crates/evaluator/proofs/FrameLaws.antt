-- The loop over frames, however they are kept: one law for each way round.
use mathlib.Core.Path.{◌≡◌, refl, sym, ap, ◌∙◌}
use mathlib.Core.Bool.{Bool, true, false}
use mathlib.Core.List.{List, [], ◌∷◌}
use Prim.Native.Nat.{ℕ, zero, suc, ◌-◌, ◌<◌, ◌≤◌}
use native.Mathlib.Omega.{arith}
use lib.IntN.{ℤ}
use Rattle.image.specs.Layout.{program_of}
use Rattle.image.specs.Questions.{program_no}
use Rattle.image.proofs.Accepted.{accepted}
use Rattle.agreement.specs.Plain.{one, two, Rules}
use Rattle.serial.specs.Serial.{to_come, finished, Pending, held, onward, taken, run, spent, done}
use Rattle.serial.proofs.Equations.{onward-runs, onward-ends, onward-turns, onward-joins, run-spent, run_step, run-done}
use Rattle.task.specs.declared.Frame.{Frame}
use Rattle.task.specs.Frames.{running, work_limit}
use Rattle.task.specs.Choices.{chosen}
use Rattle.task.specs.Step.{step, join}
use Rattle.task.proofs.Formation.{formed_is, its_is_formed}
use Rattle.task.proofs.StepKeeps.{step_one, step_two}
use Rattle.task.proofs.JoinKeeps.{join_formed}
use Rattle.task.proofs.Counts.{within_is, is_within, within_more, step-one-within, step-two-within, join-within}
use Rattle.arms.specs.Turns.{rules}
use Rattle.evaluator.specs.Sides.{open_by, open_of, Good}
use Rattle.evaluator.specs.Hands.{pending_from}

-- ---- pending forks

-- those of the innermost n depend on nothing else
pub pending_same : (f g : ℕ → Frame) (n : ℕ) → ((i : ℕ) → i < n → f i ≡ g i) → pending_from f n ≡ pending_from g n
unfolding pending_from
pending_same f g zero h = refl
pending_same f g (suc n) h =
    ap (λ x. open_of x ∷ pending_from f n) (h n (omega arith)) ∙ ap (λ l. open_of (g n) ∷ l) (pending_same f g n (λ i l. h i (omega arith)))

pub pending_top : (f : ℕ → Frame) (n : ℕ) (t : Bool) → running (f n) ≡ t → pending_from f (suc n) ≡ open_by t (f n) ∷ pending_from f n
unfolding pending_from
pending_top f n t q = ap (λ b. open_by b (f n) ∷ pending_from f n) q

pub pending_none : (f : ℕ → Frame) → pending_from f 0 ≡ []
unfolding pending_from
pending_none f = refl

module _ (cells : List ℕ) (words : List ℤ) (interval : ℕ) where
  abbrev R : Rules Frame
  R = rules cells words interval

  -- ---- an instruction of a running task

  module _ (own : Frame) (left : ℕ) (some : 0 < left) (most : left ≤ work_limit) (runs : running own ≡ true) where
    run-less : (n : ℕ) (s : Pending Frame) → 0 < n → run R n (held own s) ≡ run R (n - 1) (taken R s (step (program_of cells) words (chosen interval) own))
    run-less zero s p = absurd (omega arith)
    run-less (suc n) s p = let q : suc n - 1 ≡ n = omega arith in run_step R n own s runs ∙ rw q

    goes : (s : Pending Frame) → run R left (onward R own s) ≡ run R (left - 1) (taken R s (step (program_of cells) words (chosen interval) own))
    goes s = ap (run R left) (onward-runs R own s runs) ∙ run-less left s some

    enough : suc (work_limit - left) ≤ work_limit - (left - 1)
    enough = omega (arith, some, most)

    pub one-run : (g : Frame) → step (program_of cells) words (chosen interval) own ≡ one g → (s : Pending Frame)
        → run R left (onward R own s) ≡ run R (left - 1) (onward R g s)
    one-run g e s = goes s ∙ ap (λ x. run R (left - 1) (taken R s x)) e

    pub two_run : (p c : Frame) → step (program_of cells) words (chosen interval) own ≡ two p c → (s : Pending Frame)
        → run R left (onward R own s) ≡ run R (left - 1) (onward R p (to_come c ∷ s))
    two_run p c e s = goes s ∙ ap (λ x. run R (left - 1) (taken R s x)) e

    module _ (accept : program_no cells ≡ 0) (D h : ℕ) (room : D ≤ 6) (good : Good cells D h (work_limit - left) own) where
      pub one-good : (g : Frame) → step (program_of cells) words (chosen interval) own ≡ one g → Good cells D h (work_limit - (left - 1)) g
      one-good g e = record {
        its_is_formed = its_is_formed (program_of cells) D h g
            (step_one cells (accepted cells accept) D room words (chosen interval) h own g (formed_is (program_of cells) D h own good.its_is_formed) runs e);
        is_within = is_within _ g (within_more enough
            (step-one-within (program_of cells) words (chosen interval) (work_limit - left) own g (within_is (work_limit - left) own good.is_within) e));
      }

      pub two_good : (p c : Frame) → step (program_of cells) words (chosen interval) own ≡ two p c
          → (j : ℕ) × (h ≡ suc j) × Good cells D j (work_limit - (left - 1)) p × Good cells D j (work_limit - (left - 1)) c
      two_good p c e =
          let f = step_two cells (accepted cells accept) D room words (chosen interval) h own p c (formed_is (program_of cells) D h own good.its_is_formed) runs e in
          let w = step-two-within (program_of cells) words (chosen interval) (work_limit - left) own p c (within_is (work_limit - left) own good.is_within) e in (
            f.0,
            f.1,
            record { its_is_formed = its_is_formed (program_of cells) D f.0 p f.2; is_within = is_within _ p (within_more enough w.0) },
            record { its_is_formed = its_is_formed (program_of cells) D f.0 c f.3; is_within = is_within _ c (within_more enough w.1) },
          )

  -- ---- a task that has ended its side

  module _ (own : Frame) (left : ℕ) (ended : running own ≡ false) (kept : ℕ → Frame) (d : ℕ) where
    pub turn-run : (kept' : ℕ → Frame) → running (kept d) ≡ true → kept' d ≡ own → ((i : ℕ) → i < d → kept' i ≡ kept i)
        → run R left (onward R own (pending_from kept (suc d))) ≡ run R left (onward R (kept d) (pending_from kept' (suc d)))
    turn-run kept' r e h =
        ap (λ s. run R left (onward R own s)) (pending_top kept d true r)
        ∙ ap (run R left) (onward-turns R own (kept d) (pending_from kept d) ended)
        ∙ ap (λ s. run R left (onward R (kept d) (finished own ∷ s))) (sym (pending_same kept' kept d h))
        ∙ ap (λ f. run R left (onward R (kept d) (finished f ∷ pending_from kept' d))) (sym e)
        ∙ ap (λ s. run R left (onward R (kept d) s)) (sym (pending_top kept' d false (ap running e ∙ ended)))

    pub join-run : (kept' : ℕ → Frame) → running (kept d) ≡ false → ((i : ℕ) → i < d → kept' i ≡ kept i)
        → run R left (onward R own (pending_from kept (suc d))) ≡ run R left (onward R (join (program_of cells) (kept d) own) (pending_from kept' d))
    join-run kept' r h =
        ap (λ s. run R left (onward R own s)) (pending_top kept d false r)
        ∙ ap (run R left) (onward-joins R (kept d) own (pending_from kept d) ended)
        ∙ ap (λ s. run R left (onward R (join (program_of cells) (kept d) own) s)) (sym (pending_same kept' kept d h))

  pub join-good : program_no cells ≡ 0 → (D h W : ℕ) → D ≤ 6 → h < D → (p c : Frame) → Good cells D h W p → Good cells D h W c
      → Good cells D (suc h) W (join (program_of cells) p c)
  join-good accept D h W room below p c x y = record {
    its_is_formed = its_is_formed (program_of cells) D (suc h) (join (program_of cells) p c)
        (join_formed cells (accepted cells accept) D room h p c (formed_is (program_of cells) D h p x.its_is_formed) (formed_is (program_of cells) D h c y.its_is_formed) below);
    is_within = is_within W (join (program_of cells) p c)
        (join-within (program_of cells) W p c (within_is W p x.is_within) (within_is W c y.is_within));
  }

  -- ---- the end

  pub run-over : (own : Frame) (left : ℕ) (kept : ℕ → Frame) → running own ≡ false → run R left (onward R own (pending_from kept 0)) ≡ done own left
  run-over own left kept r =
      ap (λ s. run R left (onward R own s)) (pending_none kept) ∙ ap (run R left) (onward-ends R own r) ∙ run-done R left own [] r

  pub run_out : (own : Frame) (s : Pending Frame) → running own ≡ true → run R 0 (onward R own s) ≡ spent
  run_out own s r = ap (run R 0) (onward-runs R own s r) ∙ run-spent R own s r
