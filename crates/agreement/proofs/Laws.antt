-- What the proof asks of a model: which frames and states are well formed, and that nothing leads out of them.
use Prim.Native.Nat.{ℕ, suc, ◌+◌, ◌^◌, ◌≤◌, ◌<◌}
use mathlib.Core.Path.{◌≡◌}
use mathlib.Core.Logic.{◌≢◌}
use mathlib.Core.Bool.{true, false}
use Rattle.agreement.specs.Plain.{one, two}
use Rattle.agreement.specs.Picks.{Model}

pub record Forms (F S : Type 0) : Type 1 where
  -- the job has 2 ^ D places
  pub D : ℕ
  -- a state that keeps what is put in it
  pub Sound : S → Type 0
  -- a frame that comes back as it was put
  pub Fine : F → Type 0
  -- a frame without a task
  pub Empty : F → Type 0
  -- a task of 2 ^ h places
  pub Formed : ℕ → F → Type 0

module _ {F S : Type 0} (M : Model F S) (K : Forms F S) where
  open M use {slots, step, job_places, work, tick}
  open slots use {running, join, depth, places, vacant, at, put, size}
  open K use {D, Sound, Fine, Empty, Formed}

  pub record Laws : Type 0 where
    -- sizes
    pub places_power : job_places ≡ 2 ^ D
    pub places_fit : 2 ^ D ≤ size
    -- frames
    pub formed_fine : (h : ℕ) (f : F) → Formed h f → Fine f
    pub formed_places : (h : ℕ) (f : F) → Formed h f → places f ≡ 2 ^ h
    pub formed_depth : (h : ℕ) (f : F) → Formed h f → depth f + h ≡ D
    pub vacant_fine : Fine vacant
    pub vacant_empty : Empty vacant
    pub empty_idle : (f : F) → Empty f → running f ≡ false
    -- one instruction, and a join. At a fork the parent's side goes on running
    pub step_one : (h : ℕ) (f g : F) → Formed h f → running f ≡ true → step f ≡ one g → Formed h g
    pub step_two : (h : ℕ) (f p c : F) → Formed h f → running f ≡ true → step f ≡ two p c
        → (j : ℕ) × (h ≡ suc j) × Formed j p × Formed j c × (running p ≡ true)
    pub join_formed : (h : ℕ) (a b : F) → Formed h a → Formed h b → running a ≡ false → running b ≡ false → h < D
        → Formed (suc h) (join a b)
    -- states
    pub put_sound : (m : S) (k : ℕ) (f : F) → Sound m → Fine f → Sound (put m k f)
    pub put_same : (m : S) (k : ℕ) (f : F) → Sound m → Fine f → k < size → at (put m k f) k ≡ f
    pub put_other : (m : S) (k : ℕ) (f : F) (i : ℕ) → Fine f → i ≢ k → at (put m k f) i ≡ at m i
    pub put_work : (m : S) (k : ℕ) (f : F) → work (put m k f) ≡ work m
    pub tick_sound : (m : S) → Sound m → Sound (tick m)
    pub tick_at : (m : S) (i : ℕ) → at (tick m) i ≡ at m i
    pub tick_work : (m : S) → work (tick m) ≡ work m + 1
