-- Instructions of the task in hand, by itself and not: each leads to another point of the run, from which the same is found.
use mathlib.Core.Path.{◌≡◌, refl, sym, ap, subst, ◌∙◌}
use mathlib.Core.Bool.{true}
use mathlib.Core.List.{List, ◌∷◌}
use Prim.Native.Nat.{ℕ, suc, ◌+◌, ◌*◌, ◌-◌, ◌/◌, ◌<◌, ◌≤◌}
use native.Mathlib.Omega.{arith}
use lib.IntN.{ℤ}
use Rattle.facts.proofs.Tests.{both_true, by_order}
use Rattle.image.specs.Layout.{version_of, instruction_of, program_of}
use Rattle.image.specs.Questions.{program_no}
use Rattle.agreement.specs.Plain.{one, two, Rules}
use Rattle.serial.specs.Serial.{to_come, held, onward, run}
use Rattle.serial.proofs.Equations.{onward-runs}
use Rattle.task.specs.declared.Status.TheVariants.{Running}
use Rattle.task.specs.declared.Fork.{Fork}
use Rattle.task.specs.declared.Frame.{Frame}
use Rattle.task.specs.declared.Kind.{Kind}
use Rattle.task.specs.declared.Kind.TheVariants.{Stores, Goes, Pushes, Pops, Waits, Halts, Faults, Forks}
use Rattle.task.specs.declared.Executed.{Executed}
use Rattle.task.specs.Frames.{is_running, work_limit}
use Rattle.task.specs.Choices.{chosen}
use Rattle.task.specs.Formed.{fault_listed, formed, within}
use Rattle.task.specs.Step.{step}
use Rattle.task.proofs.Executing.{made_by, step-executed}
use Rattle.task.proofs.Formation.{Formed, formed_is, listed-within}
use Rattle.arms.specs.declared.Stopped.{Stopped}
use Rattle.evaluator.specs.declared.Hand.{Hand}
use Rattle.evaluator.specs.declared.Kept.{Kept}
use Rattle.arms.specs.declared.Registers.{Registers}
use Rattle.arms.specs.declared.Pile.{Pile}
use Rattle.evaluator.specs.declared.Rows.{Rows}
use Rattle.arms.specs.Registers.{Sized}
use Rattle.evaluator.specs.Banks.{bank_of, forks_of, Nested}
use Rattle.arms.specs.Stacks.{Stacked, stack_of}
use Rattle.arms.specs.Turns.{frame_at, rules, executed_of, Starts, RunsUntil}
use Rattle.evaluator.specs.Sides.{Good, CanStep, made_of}
use Rattle.evaluator.specs.Hands.{frame_from, kept_of, low_of, hand_frame, kept_frame, pending_from, Point, LeadsTo}
use Rattle.evaluator.specs.Hands.{hand_side, stepped_in, own_frame, Applied}
use Rattle.evaluator.proofs.GoodLaws.{good_more, good_depth}
use Rattle.evaluator.proofs.ForkLaws.{nested_same, nested_opened}
use Rattle.evaluator.proofs.StackLaws.{low_top, low_same, low_most}
use Rattle.evaluator.proofs.HandLaws.{with_own, kept-stays}
use Rattle.evaluator.proofs.OpeningLaws.{opened_under}
use Rattle.evaluator.proofs.FrameLaws.{pending_same, pending_top, one-run, two_run, one-good, two_good}

module _ (cells : List ℕ) (words : List ℤ) (interval : ℕ) (h : Hand) (rows : Rows) (p : Point cells h rows) (runs : h.status ≡ Running) where
  abbrev R : Rules Frame
  R = rules cells words interval

  -- the task in hand, as a running one
  abbrev f : Frame
  f = own_frame h rows

  -- its stack
  abbrev own_stack : Stacked
  own_stack = stack_of rows.pile.nums rows.pile.kinds h.low h.height

  pub own_is : hand_frame h rows ≡ f
  own_is = ap (λ w. frame_from w h.places h.depth (forks_of rows.records h.depth) (h.pc / 4) (h.beat - h.left) (h.spun - h.left) own_stack (bank_of rows.registers)) runs

  pub good : Good cells p.rank p.height (work_limit - h.left) f
  good = subst (Good cells p.rank p.height (work_limit - h.left)) own_is p.own_good

  formed-here : Formed (program_of cells) p.rank p.height f
  formed-here = formed_is (program_of cells) p.rank p.height f good.its_is_formed

  -- ---- by itself

  pub starts : Starts cells rows.registers.nums rows.registers.kinds rows.pile.nums rows.pile.kinds h.places h.depth h.left h.beat h.pc h.low h.height
  starts = record {
    rank = p.rank;
    height = p.height;
    forks = forks_of rows.records h.depth;
    span = h.spun - h.left;
    room = p.room;
    its_is_formed = good.its_is_formed;
    lies = record {
      pile_full = p.full.pile_full;
      tags_full = p.full.tags_full;
      low_most = omega (arith, p.piled.own_low, low_most rows.sides h.depth, formed-here.has_depth, p.room);
    };
    sized = p.full.sized;
    on_place = p.on_place;
    inside_program = formed-here.pc_below;
    counter_least = p.counter_least;
  }

  module _ (z : Stopped) (g : Registers) (u : Pile) (sized : Sized g.nums g.kinds)
      (t : RunsUntil cells words interval h.places h.depth h.pc h.beat h.left h.low h.height rows.pile.nums rows.pile.kinds
      (bank_of rows.registers) z u.nums u.kinds (bank_of g)) where
    abbrev h' : Hand
    h' = record {
      status = Running;
      places = h.places;
      depth = h.depth;
      pc = z.pc;
      beat = z.beat;
      left = z.left;
      spun = h.spun;
      low = h.low;
      height = z.height;
    }

    abbrev rows' : Rows
    rows' = with_own rows g u

    abbrev o : List Fork
    o = forks_of rows.records h.depth

    span_is : h.spun - h.left + (h.left - z.left) ≡ h.spun - z.left
    span_is = omega (arith, t.runs.fewer, p.span_least)

    work_is : work_limit - h.left + (h.left - z.left) ≡ work_limit - z.left
    work_is = omega (arith, t.runs.fewer, p.limited)

    abbrev after : ℕ → Frame
    after span = frame_at h.places h.depth o (z.pc / 4) (z.beat - z.left) span (stack_of u.nums u.kinds h.low z.height) (bank_of g)

    same_kept : (i : ℕ) → i < h.depth → kept_frame rows' i ≡ kept_frame rows i
    same_kept i l = kept-stays h rows g u i t.same_below p.piled l

    good-after : Good cells p.rank p.height (work_limit - z.left) (after (h.spun - z.left))
    good-after = record {
      its_is_formed = ap (λ n. formed (program_of cells) p.rank p.height (after n)) (sym span_is)
          ∙ t.runs.keeps_formed o (h.spun - h.left) p.rank p.height p.room good.its_is_formed;
      is_within = ap (λ n. within n (after (h.spun - z.left))) (sym work_is) ∙ ap (λ n. within (work_limit - h.left + (h.left - z.left)) (after n)) (sym span_is)
          ∙ t.runs.keeps_within o (h.spun - h.left) (work_limit - h.left) good.is_within;
    }

    pub run_leads : LeadsTo cells words interval h rows h' rows'
    run_leads = record {
      point = record {
        rank = p.rank;
        height = p.height;
        room = p.room;
        limited = omega (arith, t.runs.fewer, p.limited);
        own_good = good-after;
        kept_good = λ i l. subst (Good cells p.rank (p.rank - (i + 1)) (work_limit - z.left)) (sym (same_kept i l))
            (good_more cells p.rank (p.rank - (i + 1)) (kept_frame rows i) (omega (arith, t.runs.fewer)) (p.kept_good i l));
        full = record {
          sized = sized;
          banks_full = p.full.banks_full;
          banks_sized = p.full.banks_sized;
          records_full = p.full.records_full;
          sides_full = p.full.sides_full;
          pile_full = t.same_below.still_lies.pile_full;
          tags_full = t.same_below.still_lies.tags_full;
        };
        piled = record { own_low = p.piled.own_low; none_yet = p.piled.none_yet };
        nested = p.nested;
        on_place = t.runs.aligned;
        kept_on_place = p.kept_on_place;
        counter_least = t.runs.counted;
        span_least = omega (arith, t.runs.fewer, p.span_least);
      };
      its_same_end =
          let s = pending_from (kept_frame rows) h.depth in
          ap (λ x. run R h.left (onward R x s)) own_is
          ∙ ap (run R h.left) (onward-runs R f s refl)
          ∙ t.runs.same_run o (h.spun - h.left) s
          ∙ ap (λ n. run R z.left (held (after n) s)) span_is
          ∙ ap (run R z.left) (sym (onward-runs R (after (h.spun - z.left)) s refl))
          ∙ ap (λ x. run R z.left (onward R (after (h.spun - z.left)) x)) (sym (pending_same (kept_frame rows') (kept_frame rows) h.depth same_kept));
    }

  -- ---- one that it does not carry out by itself

  module _ (some : 0 < h.left) where
    pub can_step : CanStep cells (hand_side h rows.records rows.registers)
    can_step = record {
      rank = p.rank;
      height = p.height;
      before = work_limit - h.left;
      stack = own_stack.values;
      room = p.room;
      below_limit = omega (arith, some);
      good = good;
      runs = refl;
    }

    pub height_most : h.height ≤ 32
    height_most = formed-here.height_most

    module _ (accept : program_no cells ≡ 0) (e : Executed) (ee : e ≡ executed_of (program_of cells) words (chosen interval) f) (r : ℕ) (er : r ≡ (instruction_of cells (h.pc / 4)).r) where
      made_of_lem : (k : Kind) (n : ℕ) (d : Executed) → made_by k f n d ≡ made_of k f n d
      made_of_lem Stores n d = refl
      made_of_lem Goes n d = refl
      made_of_lem Pushes n d = refl
      made_of_lem Pops n d = refl
      made_of_lem Waits n d = refl
      made_of_lem Halts n d = refl
      made_of_lem Faults n d = refl
      made_of_lem Forks n d = refl

      pub steps-to : step (program_of cells) words (chosen interval) f ≡ made_of e.kind f r e
      steps-to =
          step-executed (program_of cells) words (chosen interval) f
          ∙ ap (λ (d : Executed). made_by d.kind f (instruction_of cells (h.pc / 4)).r d) (sym ee)
          ∙ ap (λ n. made_by e.kind f n e) (sym er)
          ∙ made_of_lem e.kind r e

      -- a fault's number is one of the list
      pub fault_least : e.kind ≡ Faults → 3 ≤ e.fault
      fault_least k =
          let g = one-good cells words interval f h.left some p.limited refl accept p.rank p.height p.room good _
          (steps-to ∙ ap (λ y. made_of y f r e) k) in
          let x = formed_is (program_of cells) p.rank p.height _ g.its_is_formed in
          let y = listed-within (version_of cells) e.fault (both_true (fault_listed (version_of cells) e.fault) _ x.its_status_fits).0 in
          omega (arith, y.0)

      pub fork_room : e.kind ≡ Forks → h.depth < 6
      fork_room k =
          let g = two_good cells words interval f h.left some p.limited refl accept p.rank p.height p.room good _ _
          (steps-to ∙ ap (λ y. made_of y f r e) k) in
          omega (arith, formed-here.has_depth, p.room, g.1)

      module _ (z : Hand) (rows' : Rows) (a : Applied h rows r e z rows') where
        made_is : step (program_of cells) words (chosen interval) f ≡ stepped_in e.kind (hand_frame z rows') (kept_frame rows' h.depth)
        made_is = steps-to ∙ sym a.made

        below-good : (i : ℕ) → i < h.depth → Good cells p.rank (p.rank - (i + 1)) (work_limit - z.left) (kept_frame rows' i)
        below-good i l = subst (Good cells p.rank (p.rank - (i + 1)) (work_limit - z.left)) (sym (a.same_below i l))
            (good_more cells p.rank (p.rank - (i + 1)) (kept_frame rows i) (omega (arith, a.less)) (p.kept_good i l))

        below-place : (i : ℕ) → i < h.depth → (kept_of rows'.sides i).pc ≡ 4 * ((kept_of rows'.sides i).pc / 4)
        below-place i l = subst (λ n. n ≡ 4 * (n / 4)) (sym (ap (λ (k : Kept). k.pc) (a.same_kept i l))) (p.kept_on_place i l)

        same_pending : pending_from (kept_frame rows') h.depth ≡ pending_from (kept_frame rows) h.depth
        same_pending = pending_same (kept_frame rows') (kept_frame rows) h.depth a.same_below

        -- where the stacks of those inside them begin
        same_lows : low_of rows'.sides h.depth ≡ low_of rows.sides h.depth
        same_lows = low_same rows.sides rows'.sides h.depth a.same_kept

        below_none : (i : ℕ) → i < h.depth → (kept_of rows'.sides i).status ≡ Running → (kept_of rows'.sides i).height ≡ 0
        below_none i l w =
            let e = a.same_kept i l in
            ap (λ (k : Kept). k.height) e ∙ p.piled.none_yet i l (sym (ap (λ (k : Kept). k.status) e) ∙ w)

        alone_leads : step (program_of cells) words (chosen interval) f ≡ one (hand_frame z rows') → LeadsTo cells words interval h rows z rows'
        alone_leads st =
            let s = pending_from (kept_frame rows) h.depth in
            let g : Good cells p.rank p.height (work_limit - z.left) (hand_frame z rows') =
            subst (λ n. Good cells p.rank p.height (work_limit - n) (hand_frame z rows')) (sym a.less)
            (one-good cells words interval f h.left some p.limited refl accept p.rank p.height p.room good (hand_frame z rows') st) in
            let d : z.depth ≡ h.depth = omega (arith, formed-here.has_depth, good_depth cells p.rank p.height (work_limit - z.left) (hand_frame z rows') g) in
            record {
              point = record {
                rank = p.rank;
                height = p.height;
                room = p.room;
                limited = omega (arith, a.less, p.limited);
                own_good = g;
                kept_good = λ i l. below-good i (omega (arith, d, l));
                full = a.still_full;
                piled = record {
                  own_low = a.same_low ∙ p.piled.own_low ∙ sym same_lows ∙ ap (low_of rows'.sides) (sym d);
                  none_yet = λ i l w. below_none i (omega (arith, d, l)) w;
                };
                nested = subst (Nested rows'.records) (sym d) (nested_same rows.records rows'.records h.depth a.same_forks p.nested);
                on_place = a.on_place;
                kept_on_place = λ i l. below-place i (omega (arith, d, l));
                counter_least = a.counter_least;
                span_least = omega (arith, a.less, a.same_spun, p.span_least);
              };
              its_same_end =
                  ap (λ x. run R h.left (onward R x s)) own_is
                  ∙ one-run cells words interval f h.left some p.limited refl (hand_frame z rows') st s
                  ∙ ap (λ n. run R n (onward R (hand_frame z rows') s)) (sym a.less)
                  ∙ ap (λ x. run R z.left (onward R (hand_frame z rows') x)) (sym same_pending)
                  ∙ ap (λ n. run R z.left (onward R (hand_frame z rows') (pending_from (kept_frame rows') n))) (sym d);
            }

        fork_leads : e.kind ≡ Forks → step (program_of cells) words (chosen interval) f ≡ two (hand_frame z rows') (kept_frame rows' h.depth)
            → LeadsTo cells words interval h rows z rows'
        fork_leads k st =
            let q = ap (λ (x : Kept). x.pc) (a.child_kept k) in
            let child-place : (kept_of rows'.sides h.depth).pc ≡ 4 * ((kept_of rows'.sides h.depth).pc / 4) = omega (arith, q) in
            let s = pending_from (kept_frame rows) h.depth in
            let c = kept_frame rows' h.depth in
            let t = two_good cells words interval f h.left some p.limited refl accept p.rank p.height p.room good (hand_frame z rows') c st in
            let g : Good cells p.rank t.0 (work_limit - z.left) (hand_frame z rows') =
            subst (λ n. Good cells p.rank t.0 (work_limit - n) (hand_frame z rows')) (sym a.less) t.2 in
            let gc : Good cells p.rank t.0 (work_limit - z.left) c = subst (λ n. Good cells p.rank t.0 (work_limit - n) c) (sym a.less) t.3 in
            let d : z.depth ≡ suc h.depth =
            omega (arith, formed-here.has_depth, t.1, good_depth cells p.rank t.0 (work_limit - z.left) (hand_frame z rows') g) in
            record {
              point = record {
                rank = p.rank;
                height = t.0;
                room = p.room;
                limited = omega (arith, a.less, p.limited);
                own_good = g;
                kept_good = λ i l. by_order i h.depth (λ b. below-good i b)
                    (λ b.
                    let q : p.rank - (i + 1) ≡ t.0 = omega (arith, b, formed-here.has_depth, t.1) in
                    subst (λ n. Good cells p.rank n (work_limit - z.left) (kept_frame rows' i)) (sym q)
                    (subst (λ m. Good cells p.rank t.0 (work_limit - z.left) (kept_frame rows' m)) (sym b) gc))
                    (λ b. absurd (omega (arith, b, d, l)));
                full = a.still_full;
                piled = record {
                  own_low = a.same_low ∙ p.piled.own_low ∙ sym same_lows ∙ sym (low_top rows'.sides h.depth (ap (λ (x : Kept). x.status) (a.child_kept k)))
                      ∙ ap (low_of rows'.sides) (sym d);
                  none_yet = λ i l w. by_order i h.depth (λ b. below_none i b w)
                      (λ b. ap (λ m. (kept_of rows'.sides m).height) b ∙ ap (λ (x : Kept). x.height) (a.child_kept k))
                      (λ b. absurd (omega (arith, b, d, l)));
                };
                nested = subst (Nested rows'.records) (sym d) (nested_opened rows.records rows'.records h.depth a.same_forks p.nested (a.record_kept k)
                    (opened_under (program_of cells) words (chosen interval) f ee k));
                on_place = a.on_place;
                kept_on_place = λ i l. by_order i h.depth (λ b. below-place i b)
                    (λ b. subst (λ m. (kept_of rows'.sides m).pc ≡ 4 * ((kept_of rows'.sides m).pc / 4)) (sym b) child-place)
                    (λ b. absurd (omega (arith, b, d, l)));
                counter_least = a.counter_least;
                span_least = omega (arith, a.less, a.same_spun, p.span_least);
              };
              its_same_end =
                  ap (λ x. run R h.left (onward R x s)) own_is
                  ∙ two_run cells words interval f h.left some p.limited refl (hand_frame z rows') c st s
                  ∙ ap (λ n. run R n (onward R (hand_frame z rows') (to_come c ∷ s))) (sym a.less)
                  ∙ ap (λ x. run R z.left (onward R (hand_frame z rows') (to_come c ∷ x))) (sym same_pending)
                  ∙ ap (λ x. run R z.left (onward R (hand_frame z rows') x)) (sym (pending_top (kept_frame rows') h.depth true
                  (ap (λ (x : Kept). is_running x.status) (a.child_kept k))))
                  ∙ ap (λ n. run R z.left (onward R (hand_frame z rows') (pending_from (kept_frame rows') n))) (sym d);
            }

        leads_by : (k : Kind) → e.kind ≡ k → step (program_of cells) words (chosen interval) f ≡ stepped_in k (hand_frame z rows') (kept_frame rows' h.depth)
            → LeadsTo cells words interval h rows z rows'
        leads_by Stores q st = alone_leads st
        leads_by Goes q st = alone_leads st
        leads_by Pushes q st = alone_leads st
        leads_by Pops q st = alone_leads st
        leads_by Waits q st = alone_leads st
        leads_by Halts q st = alone_leads st
        leads_by Faults q st = alone_leads st
        leads_by Forks q st = fork_leads q st

        pub act_leads : LeadsTo cells words interval h rows z rows'
        act_leads = leads_by e.kind refl made_is
