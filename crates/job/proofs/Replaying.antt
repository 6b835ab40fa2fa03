-- An accepted job, replayed: what was read of its bytes is what start is given.
use mathlib.Core.Path.{◌≡◌, refl, ◌∙◌}
use mathlib.Core.Bool.{true}
use mathlib.Core.List.{List}
use Prim.Native.Nat.{ℕ, ◌+◌, ◌≤◌}
use native.Mathlib.Omega.{arith}
use lib.IntN.{ℤ}
use lib.ListN.{length}
use borrow.Author.Tests.{leb-true}
use Rattle.image.specs.Layout.{cells_in}
use Rattle.image.specs.Doors.{unless_refused, image_no}
use Rattle.image.proofs.Asked.{or_else_both}
use Rattle.drive.specs.declared.State.{State}
use Rattle.machine.specs.Starting.{start_no, start_no_by, empty}
use Rattle.machine.proofs.StartLaws.{start_accepted}
use Rattle.orders.specs.Demand.{WhateverTheOrder, start_on, played}
use Rattle.orders.specs.Replay.{job_of, replayed}
use Rattle.orders.proofs.Demand.{demand_3}
use Rattle.job.specs.Job.{image_size, job_image, job_places, job_interval, job_registers, job_words, word_count, ends_exactly, length_no, job_no}
use Rattle.job.specs.Replay.{job_in, replay_of}
use Rattle.job.proofs.Asking.{length-asked}
use Rattle.state.proofs.Integers.{length-integers}

module _ (bytes : List ℕ) (accepted : job_no bytes ≡ 0) where
  parts : (length_no bytes ≡ 0) × (start_no_by (cells_in (job_image bytes)) (job_places bytes) (job_interval bytes) 16 (word_count bytes) ≡ 0)
  unfolding job_no
  parts =
      let a = or_else_both (length_no bytes) _ accepted in
      let b = or_else_both (image_no (job_image bytes)) _ a.1 in
      (a.0, b.1)

  pub accepted-ends : ends_exactly bytes ≡ true
  accepted-ends = length-asked bytes (length_no bytes) refl parts.0

  pub start-agrees : start_no (cells_in (job_image bytes)) (job_places bytes) (job_interval bytes) (job_registers bytes) (job_words bytes) ≡ 0
  start-agrees = rw (length-integers bytes (5 + image_size bytes) 16, length-integers bytes (135 + image_size bytes) (word_count bytes)) parts.1

  word-length : length (job_words bytes) ≡ word_count bytes
  word-length = length-integers bytes (135 + image_size bytes) (word_count bytes)

  pub few_words : word_count bytes ≤ 4096
  few_words =
      let s = start_accepted (cells_in (job_image bytes)) (job_places bytes) (job_interval bytes) (job_registers bytes) (job_words bytes) start-agrees in
      omega (arith, leb-true (length (job_words bytes)) 4096 s.lent.few_words, word-length)

  module _ {cells : List ℕ} {places interval : ℕ} {registers words : List ℤ} (p : cells ≡ cells_in (job_image bytes))
      (q : places ≡ job_places bytes) (r : interval ≡ job_interval bytes) (s : registers ≡ job_registers bytes) (t : words ≡ job_words bytes) where
    pub starts : start_no cells places interval registers words ≡ 0
    starts = (λ i. start_no (p i) (q i) (r i) (s i) (t i)) ∙ start-agrees

    pub replay_agrees : (order : List ℕ) (m : State) → m ≡ replayed 0 (job_of cells places interval registers words) order → m ≡ replay_of bytes order
    unfolding unless_refused
    replay_agrees order m e =
        e ∙ (λ i. let j = job_of (p i) (q i) (r i) (s i) (t i) in played j (start_on j (empty 0 0)) order)

  -- demand 3 of the order
  pub whatever_the_order : (order : List ℕ) → WhateverTheOrder (job_in bytes) (start_on (job_in bytes) (empty 0 0)) order
  whatever_the_order order = demand_3 (job_in bytes) start-agrees (empty 0 0) order
