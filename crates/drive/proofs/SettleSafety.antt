-- In a state of the shape settling is safe, and each join keeps that.
use Prim.Native.Nat.{ℕ, suc, ◌+◌, ◌*◌, ◌-◌, ◌%◌, ◌^◌, ◌≤◌, ◌<◌}
use mathlib.Core.Path.{◌≡◌, refl, sym, ap, ◌∙◌, subst⁻¹}
use mathlib.Core.Logic.{⊎_elim}
use mathlib.Core.Bool.{true}
use mathlib.Core.List.{List}
use mathlib.Core.Option.{Option, none, some}
use native.Mathlib.Omega.{arith}
use native.Mathlib.Nat.{pow-suc, pow-le-pow_right, mul_assoc, add-mul, le-mul_of_pos_right}
use lib.Dec.{ltb}
use lib.Pow.{pow-add, pow_pos}
use lib.IntN.{ℤ}
use lib.ListN.{get_or, set}
use lib.Seq.{get_or-set_other}
use borrow.Author.Tests.{lt-ltb}
use Rattle.task.specs.Choices.{chosen}
use Rattle.agreement.specs.Plain.{one}
use Rattle.agreement.specs.Slots.{due, merged, settle}
use Rattle.image.specs.Layout.{block_count, program_of}
use Rattle.image.specs.Questions.{program_no}
use Rattle.task.specs.declared.Frame.{Frame}
use Rattle.task.specs.Frames.{zero_fork, vacant, fault_of, running}
use Rattle.task.specs.Step.{first_fault, joined_by, join, step}
use Rattle.task.specs.Execute.{Joinable}
use Rattle.task.proofs.Formation.{Formed, target_below}
use Rattle.task.proofs.JoinKeeps.{length-copied}
use Rattle.drive.specs.declared.State.{State}
use Rattle.drive.specs.Slots.{at, put, Sized, slots_of}
use Rattle.drive.specs.Settings.{rank}
use Rattle.drive.proofs.SlotLaws.{Full, at-full, put_sized, put_frames}
use Rattle.drive.proofs.RankLaws.{rank-small}
use Rattle.drive.proofs.Models.{Allowed, laws_hold}
use Rattle.drive.proofs.ShapeLaws.{Fits}
use Rattle.drive.proofs.SettleLaws.{due-sides, settle_goes}
use Rattle.drive.proofs.ShapeSlots.{fits-framed, running-formed}
use Rattle.drive.proofs.Stacking.{Stacked, vacant_stacked, formed_stacked, join_stacked}

-- ---- what the joins that fall due need of a state

pub record JoinSafe (cells : List ℕ) (f : Frame) : Type 0 where
  -- with all its forks joined the task has at most 64 places
  pub places_fit : f.task.places * 2 ^ f.task.depth ≤ 64
  pub depth_fits : f.task.depth ≤ 6
  -- each open fork names a block
  pub forks_name : (i : ℕ) → i < f.task.depth → (get_or f.task.forks i zero_fork).continuation < block_count cells
  pub stacked : Stacked f

-- in every slot
abbrev pub SettleSafe : List ℕ → State → Type 0
SettleSafe cells m = (i : ℕ) → i < 64 → JoinSafe cells (at m i)

-- ---- one frame

vacant_safe : (cells : List ℕ) → JoinSafe cells vacant
vacant_safe cells = record {
  places_fit = omega arith;
  depth_fits = omega arith;
  forks_name = λ i h. absurd (omega arith);
  stacked = vacant_stacked;
}

pub formed_safe : (cells : List ℕ) (D h : ℕ) (f : Frame) → D ≤ 6 → Formed (program_of cells) D h f → JoinSafe cells f
formed_safe cells D h f room x =
    let all : f.task.places * 2 ^ f.task.depth ≡ 2 ^ D =
    ap (λ p. p * 2 ^ f.task.depth) x.has_places ∙ sym (pow-add 2 h f.task.depth) ∙ ap (λ n. 2 ^ n) (omega (arith, x.has_depth)) in
    let most : 2 ^ D ≤ 64 = pow-le-pow_right (omega arith) room in
    record {
      places_fit = omega arith;
      depth_fits = omega (arith, x.has_depth);
      forks_name = λ i p. let t : ltb i f.task.depth ≡ true = lt-ltb i f.task.depth p in
          target_below (program_of cells) _ (rw t at (x.its_forks_fit i (omega (arith, x.has_depth))));
      stacked = formed_stacked (program_of cells) D h f x;
    }

-- ---- a join

half : (n e : ℕ) → n * 2 ^ suc e ≤ 64 → n * 2 ^ e ≤ 32
half n e h =
    let q : n * 2 ^ suc e ≡ n * 2 ^ e * 2 = ap (λ x. n * x) (pow-suc 2 e) ∙ sym (mul_assoc n (2 ^ e) 2) in
    omega arith

module _ (cells : List ℕ) (a b : Frame) (x : JoinSafe cells a) (y : JoinSafe cells b) (inside : 0 < a.task.depth)
    (same : b.task.depth ≡ a.task.depth) where
  closed : (f : Frame) → f.task.places ≡ a.task.places + b.task.places → f.task.depth ≡ a.task.depth - 1
      → f.task.forks ≡ set a.task.forks (a.task.depth - 1) zero_fork → Stacked f → JoinSafe cells f
  closed f is-both is-outward is-closed on =
      let e = a.task.depth - 1 in
      let d : a.task.depth ≡ suc e = omega arith in
      let p : a.task.places * 2 ^ suc e ≤ 64 = rw (← d) x.places_fit in
      let q : b.task.places * 2 ^ suc e ≤ 64 = rw (← d, ← same) y.places_fit in
      record {
        places_fit = rw (is-both, is-outward)
            (omega (arith, half _ e p, half _ e q, add-mul a.task.places b.task.places (2 ^ e)));
        depth_fits = omega (arith, x.depth_fits);
        forks_name = λ i h. rw (is-closed, get_or-set_other a.task.forks e i zero_fork zero_fork (omega arith)) (x.forks_name i (omega arith));
        stacked = on;
      }

  both-fit : a.task.places + b.task.places ≤ 64
  both-fit =
      let e = a.task.depth - 1 in
      let d : a.task.depth ≡ suc e = omega arith in
      let p : a.task.places * 2 ^ suc e ≤ 64 = rw (← d) x.places_fit in
      let q : b.task.places * 2 ^ suc e ≤ 64 = rw (← d, ← same) y.places_fit in
      omega (arith, half _ e p, half _ e q, le-mul_of_pos_right a.task.places (pow_pos e), le-mul_of_pos_right b.task.places (pow_pos e))

  join_safe : JoinSafe cells (join (program_of cells) a b)
  unfolding join
  join_safe = go (first_fault (fault_of a.task.status) (fault_of b.task.status)) (join_stacked (program_of cells) a b x.stacked)
    where
      go : (o : Option ℕ) → let g = joined_by o (program_of cells) (get_or a.task.forks (a.task.depth - 1) zero_fork).continuation a b in
          Stacked g → JoinSafe cells g
      go none on = closed _ refl refl refl on
      go (some n) on = closed _ refl refl refl on

-- ---- every slot

-- two sides whose join is due are as its code asks
pub due_joinable : (cells : List ℕ) (m : State) (q w d : ℕ) → program_no cells ≡ 0 → SettleSafe cells m → 0 < d → due (slots_of (program_of cells)) m q w d ≡ true
    → Joinable cells (at m q).task (at m (q + w)).task
due_joinable cells m q w d ok all left e =
    let s = due-sides cells m q w d e in
    let inside : 0 < (at m q).task.depth = omega (arith, s.parent_depth) in
    let p = all q (omega (arith, s.has_room)) in
    record {
      accepted_program = ok;
      depth_least = inside;
      depth_most = p.depth_fits;
      places_most = both-fit cells (at m q) (at m (q + w)) p (all (q + w) s.has_room) inside (s.child_depth ∙ sym s.parent_depth);
      continuation_below = p.forks_name ((at m q).task.depth - 1) (omega arith);
    }

put_safe : (cells : List ℕ) (m : State) (k : ℕ) (f : Frame) → Sized m → Full f → k < 64 → SettleSafe cells m → JoinSafe cells f
    → SettleSafe cells (put m k f)
put_safe cells m k f sized full below all x i h = put_frames (JoinSafe cells) m k f i sized full below x (all i h)

-- a joined task has its registers and its stack
join-full : (cells : List ℕ) (a b : Frame) → Full a → Full (join (program_of cells) a b)
unfolding join
join-full cells a b full = go (first_fault (fault_of a.task.status) (fault_of b.task.status))
  where
    go : (o : Option ℕ) → Full (joined_by o (program_of cells) (get_or a.task.forks (a.task.depth - 1) zero_fork).continuation a b)
    go none = (length-copied b.registers _ _ a.registers ∙ full.0, full.1)
    go (some n) = (refl, refl)

merged_safe : (cells : List ℕ) (m : State) (q w : ℕ) → Sized m → q + w < 64 → SettleSafe cells m → 0 < (at m q).task.depth
    → (at m (q + w)).task.depth ≡ (at m q).task.depth → SettleSafe cells (merged (slots_of (program_of cells)) m q w)
merged_safe cells m q w sized room all inside same =
    put_safe cells (put m (q + w) vacant) q (join (program_of cells) (at m q) (at m (q + w)))
    (put_sized m (q + w) vacant sized) (join-full cells (at m q) (at m (q + w)) (at-full m q)) (omega arith)
    (put_safe cells m (q + w) vacant sized (refl, refl) room all (vacant_safe cells))
    (join_safe cells (at m q) (at m (q + w)) (all q (omega arith)) (all (q + w) room) inside same)

-- ---- a turn of settling

-- the join of the fork at slot q, whose sides have w places each, is due at depth d for the task in slot k
pub record Turn (cells : List ℕ) (m : State) (k d q w : ℕ) : Type 0 where
  pub has_room : q + w < 64
  pub its_goes_on : settle (slots_of (program_of cells)) d m k ≡ settle (slots_of (program_of cells)) (d - 1) (merged (slots_of (program_of cells)) m q w) q
  pub stays_safe : SettleSafe cells (merged (slots_of (program_of cells)) m q w)

pub turn : (cells : List ℕ) (m : State) (k d q w : ℕ) → Sized m → SettleSafe cells m → 0 < d → (at m k).task.places ≡ w → q ≡ k - k % (2 * w)
    → due (slots_of (program_of cells)) m q w d ≡ true → Turn cells m k d q w
turn cells m k d q w sized all left hw hq e =
    let s = due-sides cells m q w d e in
    let inside : 0 < (at m q).task.depth = omega (arith, s.parent_depth) in
    let same : (at m (q + w)).task.depth ≡ (at m q).task.depth = s.child_depth ∙ sym s.parent_depth in
    record {
      has_room = s.has_room;
      its_goes_on = settle_goes cells m k d q w left hw hq e;
      stays_safe = merged_safe cells m q w sized s.has_room all inside same;
    }

-- ---- a state of the shape

module _ {cells : List ℕ} {interval places : ℕ} (allowed : Allowed cells interval places) (m : State) (x : Fits cells interval places m) where
  room : rank places ≤ 6
  room = rank-small places allowed.its_places_allowed

  pub fits_safe : SettleSafe cells m
  fits_safe i below = ⊎_elim
      (λ (e : at m i ≡ vacant). subst⁻¹ (JoinSafe cells) e (vacant_safe cells))
      (λ (f : (h : ℕ) × Formed (program_of cells) (rank places) h (at m i)). formed_safe cells (rank places) f.0 (at m i) room f.1)
      (fits-framed allowed m x i below)

  -- the frame that an instruction leaves is safe to put back, and to settle
  pub put_back_safe : (words : List ℤ) (k : ℕ) (g : Frame) → k < 64 → running (at m k) ≡ true → step (program_of cells) words (chosen interval) (at m k) ≡ one g
      → SettleSafe cells (put m k g)
  put_back_safe words k g below runs e =
      let f = running-formed allowed m x k below runs in
      let y = (laws_hold allowed words).step_one f.0 (at m k) g f.1 runs e in
      put_safe cells m k g x.sized (y.registers_full, y.stack_full) below fits_safe (formed_safe cells (rank places) f.0 g room y)
