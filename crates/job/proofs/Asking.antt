-- The questions of a job, put one after the other, and what a cleared program buffer holds after them.
use mathlib.Core.Path.{◌≡◌, sym, ap, ◌∙◌}
use mathlib.Core.Bool.{true}
use mathlib.Core.List.{List}
use Prim.Native.Nat.{ℕ}
use lib.ListN.{length, replicate}
use borrow.Author.Tests.{eq-eqb, ne_eqb}
use Rattle.image.specs.Layout.{program_cells, cells_in}
use Rattle.image.specs.Doors.{image_no, write_no, unless_refused}
use Rattle.image.specs.Walked.{scanned}
use Rattle.image.specs.declared.refusal.Refusal.{Refusal}
use Rattle.image.specs.Refusals.{number}
use Rattle.image.proofs.Refusals.{no_decides}
use Rattle.image.proofs.Asked.{ask_yes, or_else_yes, or_else_both}
use Rattle.image.specs.Questions.{or_else, program_no}
use Rattle.image.proofs.RoundTrip.{read_writes}
use Rattle.image.proofs.Walked.{scanned-accepted}
use Rattle.machine.specs.Starting.{settings_no, start_no_by}
use Rattle.job.specs.Job.{job_image, job_places, job_interval, word_count, ends_exactly, length_no, job_no, job_scanned}

-- an input that question 10 lets pass ends exactly
pub length-asked : (bytes : List ℕ) (r : ℕ) → r ≡ length_no bytes → r ≡ 0 → ends_exactly bytes ≡ true
length-asked bytes r e z = (ask_yes (ends_exactly bytes) 10 0 tt (sym e ∙ z)).0

-- the program of an accepted image was asked about by the reader
pub read_program : (image : List ℕ) → image_no image ≡ 0 → program_no (cells_in image) ≡ 0
unfolding write_no
read_program image e = (or_else_both (program_no (cells_in image)) _ (read_writes image e)).0

-- so start's own questions are left
pub settings_left : (cells : List ℕ) (places interval registers words : ℕ) → program_no cells ≡ 0
    → settings_no places interval registers words (length cells) ≡ start_no_by cells places interval registers words
unfolding start_no_by
settings_left cells places interval registers words e = sym (or_else_yes (program_no cells) _ e)

module _ (bytes : List ℕ) where
  abbrev start : ℕ
  start = start_no_by (cells_in (job_image bytes)) (job_places bytes) (job_interval bytes) 16 (word_count bytes)

  pub scanned-none : (length_no bytes ≡ 0 → ⊥) → job_scanned bytes ≡ replicate program_cells 0
  unfolding job_scanned unless_refused
  scanned-none e = rw (ne_eqb (length_no bytes) 0 e)

  pub scanned-image : length_no bytes ≡ 0 → job_scanned bytes ≡ scanned (job_image bytes)
  unfolding job_scanned unless_refused
  scanned-image e = rw (eq-eqb (length_no bytes) 0 e)

  -- of an accepted job it is the image's program
  pub asked-program : job_no bytes ≡ 0 → job_scanned bytes ≡ cells_in (job_image bytes)
  unfolding job_no
  asked-program e =
      let p = or_else_both (length_no bytes) (or_else (image_no (job_image bytes)) start) e in
      scanned-image p.0 ∙ scanned-accepted (job_image bytes) (or_else_both (image_no (job_image bytes)) start p.1).0

  pub refused_by_length : (r : Refusal) → number r ≡ length_no bytes → number r ≡ job_no bytes
  unfolding job_no
  refused_by_length r e = sym (no_decides r (length_no bytes) (or_else (image_no (job_image bytes)) start) e)

  module _ (fits : length_no bytes ≡ 0) where
    pub refused_by_image : (r : Refusal) → number r ≡ image_no (job_image bytes) → number r ≡ job_no bytes
    unfolding job_no
    refused_by_image r e =
        sym
        (or_else_yes (length_no bytes) (or_else (image_no (job_image bytes)) start) fits
        ∙ no_decides r (image_no (job_image bytes)) start e)

    pub answered-by-start : (cells : List ℕ) (places interval words r : ℕ) → image_no (job_image bytes) ≡ 0
        → cells ≡ cells_in (job_image bytes) → places ≡ job_places bytes → interval ≡ job_interval bytes → words ≡ word_count bytes
        → r ≡ start_no_by cells places interval 16 words → r ≡ job_no bytes
    unfolding job_no
    answered-by-start cells places interval words r i hc hp hi hw e =
        e
        ∙ ap (λ (x : List ℕ). start_no_by x places interval 16 words) hc
        ∙ ap (λ (x : ℕ). start_no_by (cells_in (job_image bytes)) x interval 16 words) hp
        ∙ ap (λ (x : ℕ). start_no_by (cells_in (job_image bytes)) (job_places bytes) x 16 words) hi
        ∙ ap (λ (x : ℕ). start_no_by (cells_in (job_image bytes)) (job_places bytes) (job_interval bytes) 16 x) hw
        ∙ sym
        (or_else_yes (length_no bytes) (or_else (image_no (job_image bytes)) start) fits
        ∙ or_else_yes (image_no (job_image bytes)) start i)
