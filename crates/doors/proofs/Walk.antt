-- Tests computed in one walk over a state's arrays and a program's cells, with what several questions look at found once: the definitions
-- look each entry up from the array's front. They are equal.
use mathlib.Core.Path.{◌≡◌, refl, sym, ap, ◌∙◌}
use mathlib.Core.Bool.{Bool, true, false, not, cond, ◌&&◌}
use mathlib.Core.List.{List, [], ◌∷◌}
use Prim.Native.Nat.{ℕ, zero, suc, ◌+◌, ◌*◌, ◌-◌, ◌^◌, ◌<◌}
use native.Mathlib.Omega.{arith}
use lib.Dec.{eqb, ltb, leb}
use lib.IntN.{ℤ}
use lib.ListN.{length, get_or, drop}
use borrow.Author.Tests.{ltb-true}
use Rattle.facts.proofs.Tests.{by-test}
use Rattle.image.specs.Program.{Program}
use Rattle.image.specs.declared.Instruction.{Instruction}
use Rattle.image.specs.Layout.{program_cells, block_cell, instruction_cell, instruction_from, program_of, version_of, block_count, instruction_count}
use Rattle.image.specs.Layout.{instruction_of, cells_in}
use Rattle.image.specs.Questions.{ask, or_else, first_no, version_no, counts_no, program_block_no, block_no, last_opcode, ends_block, laid_out}
use Rattle.image.specs.Questions.{last_in_block, same, instruction_no, records_no, program_no}
use Rattle.image.specs.Doors.{header_no, image_no}
use Rattle.agreement.specs.Slots.{Slots, side_ended}
use Rattle.agreement.specs.Shape.{Tests, hollow, lone, tiles, shaped}
use Rattle.task.specs.declared.Register.{Register}
use Rattle.task.specs.declared.Task.{Task}
use Rattle.task.specs.declared.Frame.{Frame}
use Rattle.task.specs.Frames.{zero_fork, zero_register, stack_length, vacant, no_task, running}
use Rattle.task.specs.Step.{join}
use Rattle.task.specs.Stretches.{reads}
use Rattle.task.specs.Formed.{every, is_zero, is_zero_fork, at_rest, is_full, formed, is_vacant_status, is_vacant, within}
use Rattle.drive.specs.declared.State.{State}
use Rattle.drive.specs.Slots.{at, slots_of}
use Rattle.drive.specs.Settings.{rank, places_allowed, interval_allowed}
use Rattle.drive.specs.Shape.{shape}
use Rattle.machine.specs.Starting.{most_words, settings_no, start_no_by}
use Rattle.machine.specs.Picking.{call_no, state_no_by}
use Rattle.machine.specs.Dispatching.{lanes_allowed, dispatch_no_by}
use Rattle.report.specs.Report.{report_of}
use Rattle.report.specs.Text.{text_of, refused_text}
use Rattle.job.specs.Job.{job_image, job_places, job_interval, word_count, length_no, job_no}
use Rattle.job.specs.Run.{run_in, report_in, text_in}

-- ---- A list from its front

-- its first n elements, and d past its end
unfoldable pub front : {A : Type 0} → A → ℕ → List A → List A
front d zero l = []
front d (suc n) [] = d ∷ front d n []
front d (suc n) (x ∷ l) = x ∷ front d n l

-- whether the test passes at each of them
unfoldable pub passes_all : {A : Type 0} → (A → Bool) → A → ℕ → List A → Bool
passes_all p d zero l = true
passes_all p d (suc n) [] = elim (p d) [ true ↦ passes_all p d n [] | false ↦ false ]
passes_all p d (suc n) (x ∷ l) = elim (p x) [ true ↦ passes_all p d n l | false ↦ false ]

drop_at : {A : Type 0} (a : ℕ) (l : List A) (b : ℕ) (d : A) → get_or (drop a l) b d ≡ get_or l (a + b) d
drop_at zero l b d = ap (λ (k : ℕ). get_or l k d) (let e : b ≡ 0 + b = omega arith in e)
drop_at (suc a) [] b d = refl
drop_at (suc a) (x ∷ l) b d =
    drop_at a l b d ∙ ap (λ (k : ℕ). get_or (x ∷ l) k d) (let e : suc (a + b) ≡ suc a + b = omega arith in e)

reads-drop : {A : Type 0} (d : A) (a : ℕ) (l : List A) (b n : ℕ) → reads d (drop a l) b n ≡ reads d l (a + b) n
unfolding reads
reads-drop d a l b zero = refl
reads-drop d a l b (suc n) =
    let e : a + suc b ≡ suc (a + b) = omega arith in
    let rest = reads-drop d a l (suc b) n ∙ ap (λ (k : ℕ). reads d l k n) e in
    λ i. drop_at a l b d i ∷ rest i

reads-front : {A : Type 0} (d : A) (n : ℕ) (l : List A) → reads d l 0 n ≡ front d n l
unfolding reads front
reads-front d zero l = refl
reads-front d (suc n) [] = let rest = sym (reads-drop d 1 [] 0 n) ∙ reads-front d n [] in λ i. d ∷ rest i
reads-front d (suc n) (x ∷ l) = let rest = sym (reads-drop d 1 (x ∷ l) 0 n) ∙ reads-front d n l in λ i. x ∷ rest i

every_shift : (f : ℕ → Bool) (n k : ℕ) → every f n (k + 1) ≡ every (λ i. f (i + 1)) n k
unfolding every
every_shift f zero k = refl
every_shift f (suc n) k = λ i. elim (f (k + 1)) [ true ↦ every_shift f n (k + 1) i | false ↦ false ]

module _ {A : Type 0} (p : A → Bool) (d : A) where
  next-at : (x : A) (l : List A) (i : ℕ) → get_or (x ∷ l) (i + 1) d ≡ get_or l i d
  next-at x l i = ap (λ (k : ℕ). get_or (x ∷ l) k d) (let e : i + 1 ≡ suc i = omega arith in e)

  every_front : (n : ℕ) (l : List A) → every (λ i. p (get_or l i d)) n 0 ≡ passes_all p d n l
  unfolding every passes_all
  every_front zero l = refl
  every_front (suc n) [] =
      let rest = every_shift (λ i. p (get_or [] i d)) n 0 ∙ every_front n [] in
      λ j. elim (p d) [ true ↦ rest j | false ↦ false ]
  every_front (suc n) (x ∷ l) =
      let here : every (λ i. p (get_or (x ∷ l) (i + 1) d)) n 0 ≡ every (λ i. p (get_or l i d)) n 0 = λ j. every (λ i. p (next-at x l i j)) n 0 in
      let rest = every_shift (λ i. p (get_or (x ∷ l) i d)) n 0 ∙ here ∙ every_front n l in
      λ j. elim (p x) [ true ↦ rest j | false ↦ false ]

-- ---- The frames of n slots, whose tasks, registers and stacks the arrays begin with

unfoldable pub frames_of : ℕ → List Task → List Register → List Register → List Frame
frames_of zero ts rs vs = []
frames_of (suc n) ts rs vs =
    record { task = get_or ts 0 no_task; registers = front zero_register 16 rs; stack = front zero_register stack_length vs }
    ∷ frames_of n (drop 1 ts) (drop 16 rs) (drop stack_length vs)

-- past the last slot as the state has it
abbrev pub frame_in : List Frame → State → ℕ → Frame
frame_in frames m k = cond (ltb k 64) (get_or frames k vacant) (at m k)

abbrev pub walked_at : State → ℕ → Frame
walked_at m = let frames = frames_of 64 m.tasks m.bank m.stacks in frame_in frames m

frames_at : (k n : ℕ) (ts : List Task) (rs vs : List Register) → k < n
    → get_or (frames_of n ts rs vs) k vacant
    ≡ record { task = get_or ts k no_task; registers = reads zero_register rs (16 * k) 16; stack = reads zero_register vs (32 * k) stack_length }
unfolding frames_of
frames_at k zero ts rs vs h = absurd (omega arith)
frames_at zero (suc n) ts rs vs h = λ i. record {
  task = get_or ts 0 no_task;
  registers = sym (reads-front zero_register 16 rs) i;
  stack = sym (reads-front zero_register stack_length vs) i;
}
frames_at (suc k) (suc n) ts rs vs h =
    let e : 16 + 16 * k ≡ 16 * suc k = omega arith in
    let f : 32 + 32 * k ≡ 32 * suc k = omega arith in
    let t = drop_at 1 ts k no_task ∙ ap (λ (j : ℕ). get_or ts j no_task) (let g : 1 + k ≡ suc k = omega arith in g) in
    let r = reads-drop zero_register 16 rs (16 * k) 16 ∙ ap (λ (j : ℕ). reads zero_register rs j 16) e in
    let v = reads-drop zero_register 32 vs (32 * k) stack_length ∙ ap (λ (j : ℕ). reads zero_register vs j stack_length) f in
    frames_at k n (drop 1 ts) (drop 16 rs) (drop stack_length vs) (omega arith)
    ∙ (λ i. record { task = t i; registers = r i; stack = v i })

walked_at_lem : (m : State) (k : ℕ) → at m k ≡ walked_at m k
walked_at_lem m k =
    by-test (ltb k 64)
    (λ t. rw t (sym (frames_at k 64 m.tasks m.bank m.stacks (ltb-true k 64 t))))
    (λ t. rw t refl)

-- ---- A vacant slot's frame, each of its lists in one walk

abbrev pub zero_at : Register → Bool
zero_at r = is_zero r.value

abbrev pub walked_vacant : Frame → Bool
walked_vacant f =
    is_full f
    && (is_vacant_status f.task.status
    && (eqb f.task.places 0
    && (eqb f.task.span 0
    && (eqb f.task.depth 0
    && (at_rest f.task
    && (passes_all is_zero_fork zero_fork 6 f.task.forks
    && (passes_all zero_at zero_register 16 f.registers
    && (eqb f.task.height 0 && passes_all zero_at zero_register stack_length f.stack))))))))

vacant-walked : (f : Frame) → is_vacant f ≡ walked_vacant f
unfolding is_vacant
vacant-walked f =
    let forks = every_front is_zero_fork zero_fork 6 f.task.forks in
    let registers = every_front zero_at zero_register 16 f.registers in
    let stack = every_front zero_at zero_register stack_length f.stack in
    λ j.
    is_full f
    && (is_vacant_status f.task.status
    && (eqb f.task.places 0
    && (eqb f.task.span 0
    && (eqb f.task.depth 0 && (at_rest f.task && (forks j && (registers j && (eqb f.task.height 0 && stack j))))))))

-- ---- The test looks at no more of a state than its frames

abbrev pub framed : Program → Slots Frame (ℕ → Frame)
framed program = record {
  running = running;
  join = join program;
  depth = λ f. f.task.depth;
  places = λ f. f.task.places;
  vacant = vacant;
  at = λ g k. g k;
  put = λ g k f. g;
  size = 64;
}

module _ (program : Program) (tests : Tests Frame) (m : State) where
  hollow-same : (n a : ℕ) → hollow (slots_of program) tests n m a ≡ hollow (framed program) tests n (at m) a
  unfolding hollow
  hollow-same zero a = refl
  hollow-same (suc n) a = ap (λ (t : Bool). tests.is_vacant (at m a) && t) (hollow-same n (suc a))

  lone_same : (b h : ℕ) → lone (slots_of program) tests m b h ≡ lone (framed program) tests (at m) b h
  lone_same b h = ap (λ (t : Bool). tests.is_formed h (at m b) && t) (hollow-same (2 ^ h - 1) (suc b))

  tiles-same : (D h b : ℕ) → tiles (slots_of program) tests D h m b ≡ tiles (framed program) tests D h (at m) b
  unfolding tiles
  tiles-same D zero b = lone_same b zero
  tiles-same D (suc h) b = λ i. elim (eqb (at m b).task.depth (D - suc h)) [
    | true ↦ lone_same b (suc h) i
    | false ↦ tiles-same D h b i
        && (tiles-same D h (b + 2 ^ h) i
        && not (side_ended (slots_of program) m b (D - h) && side_ended (slots_of program) m (b + 2 ^ h) (D - h)))
  ]

  shaped-same : (D : ℕ) → shaped (slots_of program) tests D m ≡ shaped (framed program) tests D (at m)
  shaped-same D = λ i. tiles-same D D 0 i && hollow-same (64 - 2 ^ D) (2 ^ D) i

-- of a state of these settings and work, with these frames and this test of a vacant one
abbrev pub shape_of : (Frame → Bool) → Program → ℕ → ℕ → ℕ → (ℕ → Frame) → Bool
shape_of empty program places interval work g =
    let D = rank places in
    places_allowed places
    && (interval_allowed interval
    && (shaped (framed program) (record { is_vacant = empty; is_formed = formed program D }) D g
    && every (λ i. within work (g i)) 64 0))

abbrev pub walked_shape : Program → State → Bool
walked_shape program m = shape_of walked_vacant program m.places m.interval m.work (walked_at m)

pub shape-walked : (program : Program) (m : State) → shape program m ≡ walked_shape program m
unfolding shape
shape-walked program m =
    let D = rank m.places in
    let t = shaped-same program (record { is_vacant = is_vacant; is_formed = formed program D }) m D in
    let same : at m ≡ walked_at m = λ i k. walked_at_lem m k i in
    (λ i. places_allowed m.places && (interval_allowed m.interval && (t i && every (λ k. within m.work (at m k)) 64 0)))
    ∙ (λ i. shape_of (λ f. vacant-walked f i) program m.places m.interval m.work (same i))

-- ---- A program's questions, with the buffer's length counted once and each instruction found once

abbrev pub found : List ℕ → ℕ → Instruction
found cells i = instruction_from (drop (instruction_cell i) cells) 0

found-same : (cells : List ℕ) (i : ℕ) → instruction_of cells i ≡ found cells i
found-same cells i =
    let at = instruction_cell i in
    let first : at ≡ at + 0 = omega arith in
    let opcode = ap (λ (k : ℕ). get_or cells k 0) first ∙ sym (drop_at at cells 0 0) in
    λ j. record {
      opcode = opcode j;
      r = sym (drop_at at cells 1 0) j;
      s = sym (drop_at at cells 2 0) j;
      kind = sym (drop_at at cells 3 0) j;
      operand = sym (drop_at at cells 4 0) j;
    }

abbrev pub found_no : List ℕ → Instruction → ℕ → ℕ
found_no cells x i =
    ask (laid_out (last_opcode (version_of cells)) (block_count cells) x) 8
    (ask (same (ends_block x.opcode) (last_in_block (program_of cells) i)) 9 0)

-- of a buffer of n cells
abbrev pub counted_no : List ℕ → ℕ → ℕ
counted_no cells n =
    or_else (first_no (λ b. ask (leb (block_cell b + 6) n) 6 (program_block_no (program_of cells) b)) (block_count cells) 0)
    (first_no (λ i. ask (leb (instruction_cell i + 5) n) 8 (found_no cells (found cells i) i)) (instruction_count cells) 0)

abbrev pub quick_records : List ℕ → ℕ
quick_records cells = counted_no cells (length cells)

pub records_quick : (cells : List ℕ) → records_no cells ≡ quick_records cells
unfolding records_no block_no instruction_no
records_quick cells = λ j.
    or_else (first_no (λ b. ask (leb (block_cell b + 6) (length cells)) 6 (program_block_no (program_of cells) b)) (block_count cells) 0)
    (first_no (λ i. ask (leb (instruction_cell i + 5) (length cells)) 8 (found_no cells (found-same cells i j) i)) (instruction_count cells) 0)

abbrev pub quick_no : List ℕ → ℕ
quick_no cells = or_else (version_no (version_of cells)) (or_else (counts_no (block_count cells) (instruction_count cells)) (quick_records cells))

pub program_quick : (cells : List ℕ) → program_no cells ≡ quick_no cells
unfolding program_no
program_quick cells = λ j.
    or_else (version_no (version_of cells)) (or_else (counts_no (block_count cells) (instruction_count cells)) (records_quick cells j))

abbrev pub quick_image : List ℕ → ℕ
quick_image bytes = or_else (header_no bytes) (quick_records (cells_in bytes))

pub image_quick : (bytes : List ℕ) → image_no bytes ≡ quick_image bytes
unfolding image_no
image_quick bytes = ap (or_else (header_no bytes)) (records_quick (cells_in bytes))

-- ---- The calls' questions with both

abbrev pub quick_call : List ℕ → List ℤ → ℕ
quick_call cells words =
    or_else (quick_no cells) (ask (leb (length words) most_words) 14 (ask (eqb (length cells) program_cells) 15 0))

call_quick : (cells : List ℕ) (words : List ℤ) → call_no cells (length words) ≡ quick_call cells words
call_quick cells words =
    ap (λ (n : ℕ). or_else n (ask (leb (length words) most_words) 14 (ask (eqb (length cells) program_cells) 15 0))) (program_quick cells)

abbrev pub walked_no : List ℕ → List ℤ → State → ℕ
walked_no cells words m = or_else (quick_call cells words) (ask (walked_shape (program_of cells) m) 20 0)

pub state_walked : (cells : List ℕ) (words : List ℤ) (m : State) → state_no_by cells (length words) m ≡ walked_no cells words m
unfolding state_no_by
state_walked cells words m = λ j. or_else (call_quick cells words j) (ask (shape-walked (program_of cells) m j) 20 0)

abbrev pub walked_lanes_no : List ℕ → List ℤ → ℕ → State → ℕ
walked_lanes_no cells words lanes m =
    or_else (quick_call cells words) (ask (lanes_allowed lanes) 41 (ask (walked_shape (program_of cells) m) 20 0))

pub lanes_walked : (cells : List ℕ) (words : List ℤ) (lanes : ℕ) (m : State)
    → dispatch_no_by cells (length words) lanes m ≡ walked_lanes_no cells words lanes m
unfolding dispatch_no_by
lanes_walked cells words lanes m = λ j.
    or_else (call_quick cells words j) (ask (lanes_allowed lanes) 41 (ask (shape-walked (program_of cells) m j) 20 0))

-- ---- A job's questions, with its image and its cells found once

abbrev pub quick_start : List ℕ → ℕ → ℕ → ℕ → ℕ → ℕ
quick_start cells places interval registers words = or_else (quick_no cells) (settings_no places interval registers words (length cells))

pub start_quick : (cells : List ℕ) (places interval registers words : ℕ)
    → start_no_by cells places interval registers words ≡ quick_start cells places interval registers words
unfolding start_no_by
start_quick cells places interval registers words =
    ap (λ (n : ℕ). or_else n (settings_no places interval registers words (length cells))) (program_quick cells)

abbrev pub quick_job : List ℕ → ℕ
quick_job bytes =
    let image = job_image bytes in
    let cells = cells_in image in
    or_else (length_no bytes)
    (or_else (or_else (header_no image) (quick_records cells)) (quick_start cells (job_places bytes) (job_interval bytes) 16 (word_count bytes)))

pub job_quick : (bytes : List ℕ) → job_no bytes ≡ quick_job bytes
unfolding job_no
job_quick bytes = λ j.
    or_else (length_no bytes)
    (or_else (image_quick (job_image bytes) j)
    (start_quick (cells_in (job_image bytes)) (job_places bytes) (job_interval bytes) 16 (word_count bytes) j))

-- what the run program prints, with the job run once
abbrev pub quick_text : List ℕ → ℕ → List ℕ
quick_text bytes budget =
    let n = quick_job bytes in
    let r = run_in bytes budget in
    cond (eqb n 0) (text_of (report_of r.state r.picks)) (refused_text n)

pub text_quick : (bytes : List ℕ) (budget : ℕ) → text_in bytes budget ≡ quick_text bytes budget
unfolding text_in
text_quick bytes budget = ap (λ (n : ℕ). cond (eqb n 0) (text_of (report_in bytes budget)) (refused_text n)) (job_quick bytes)
