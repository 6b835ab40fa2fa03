-- Where the loop's course goes on: the stretches of each. Only the loop's small functions cite these.
use Rattle.std.specs.Prelude.{Bool, true, false, cond, Option, Some, None, List, [], ◌∷◌, ℕ, ◌+◌, ◌-◌, eqb, ltb, leb, drop}
use Rattle.task.specs.Frames.{work_limit}
use Rattle.turns.specs.declared.course.Course.{Course}
use Rattle.turns.specs.declared.course.Course.TheVariants.{Passes, Listed, Rounds}
use Rattle.turns.specs.declared.course.Position.{Position}
use Rattle.turns.specs.declared.course.Next.{Next}
use Rattle.turns.specs.declared.course.Next.TheVariants.{First, Over}
use Rattle.turns.specs.Rows.{slot_in}

-- the next stretch's first position. Or it is over: there is none
pub record Stretch : Type 0 where
  pub over : Bool
  pub first : Position

-- its first position alone
abbrev pub first_of : Stretch → Option Position
first_of s = cond s.over None (Some s.first)

-- before the first stretch, and behind the last
abbrev pub nowhere : ℕ → ℕ → Position
nowhere begun until = record { slot = 0; ahead = 0; until = until; begun = begun; row = 0; rest = 0; last = 0 }

abbrev pub done : ℕ → Stretch
done begun = record { over = true; first = nowhere begun 0 }

-- as the code answers it
abbrev pub stretch_of : Next → Stretch
stretch_of (First p) = record { over = false; first = p }
stretch_of (Over begun) = done begun

-- one without a row, from this slot on
abbrev pub walk_from : ℕ → ℕ → ℕ → ℕ → Stretch
walk_from slot ahead until begun =
    record { over = false; first = record { slot = slot; ahead = ahead; until = until; begun = begun; row = 0; rest = 0; last = 0 } }

-- the work after so many picks, at most the limit
abbrev pub stop_at : ℕ → ℕ → ℕ
stop_at work picks = cond (ltb picks (work_limit - work)) (work + picks) work_limit

-- of passes there is one
abbrev pub next_pass : ℕ → ℕ → ℕ → ℕ → ℕ → Stretch
next_pass slot picks begun places work = cond (eqb begun 0) (walk_from slot places (stop_at work picks) 1) (done begun)

-- of an order, whose slots from the one numbered `begun` on are listed
unfoldable pub next_listed : List ℕ → ℕ → ℕ → ℕ → Stretch
next_listed [] begun places work = done begun
next_listed (k ∷ ks) begun places work = elim (ltb k places) [
  | true ↦ walk_from k 1 (stop_at work 1) (begun + 1)
  | false ↦ next_listed ks (begun + 1) places work
]

-- along the row from its first slot on, up to this round
abbrev pub round_from : ℕ → ℕ → ℕ → Position
round_from row begun last = record { slot = slot_in row; ahead = 1; until = work_limit; begun = begun; row = row; rest = row; last = last }

-- of rounds, where the job has not ended and the work is below its limit
abbrev pub next_round : ℕ → ℕ → ℕ → Bool → ℕ → Stretch
next_round rounds begun work ended row =
    cond ended (done begun)
    (cond (leb work_limit work) (done begun)
    (cond (leb rounds begun) (done begun)
    (record { over = false; first = round_from row (begun + 1) rounds })))

abbrev pub next_stretch : Course → List ℕ → ℕ → ℕ → ℕ → Bool → ℕ → Stretch
next_stretch (Passes slot picks) order begun places work ended row = next_pass slot picks begun places work
next_stretch Listed order begun places work ended row = next_listed (drop begun order) begun places work
next_stretch (Rounds lanes rounds) order begun places work ended row = next_round rounds begun work ended row

-- the lanes of a round
abbrev pub lanes_of : Course → ℕ
lanes_of (Passes slot picks) = 0
lanes_of Listed = 0
lanes_of (Rounds lanes rounds) = lanes

-- the rounds of a course of which so many stretches are begun
abbrev pub rounds_of : Course → ℕ → ℕ
rounds_of (Passes slot picks) begun = 0
rounds_of Listed begun = 0
rounds_of (Rounds lanes rounds) begun = begun
