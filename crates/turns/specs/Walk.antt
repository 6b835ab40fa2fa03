-- The walk along a stretch. Only the loop's small functions cite these.
use Rattle.std.specs.Prelude.{Bool, cond, not, ◌&&◌, ℕ, ◌+◌, ◌-◌, ◌/◌, eqb, ltb, leb}
use Rattle.turns.specs.declared.course.Position.{Position}
use Rattle.turns.specs.Rows.{slot_in}

-- nothing has stopped it, the work is below that at which the stretch stops, and there are places to go by
abbrev pub walks_on : Bool → ℕ → Position → Bool
walks_on stopped work p = not stopped && (ltb work p.until && ltb 0 p.ahead)

-- the slot behind the w places of slot k
abbrev pub behind : ℕ → ℕ → ℕ → ℕ
behind places k w = cond (ltb (k + w) places) (k + w) 0

-- at another slot, with so many places ahead
abbrev pub to : ℕ → ℕ → Position → Position
to slot ahead p =
    record { slot = slot; ahead = ahead; until = p.until; begun = p.begun; row = p.row; rest = p.rest; last = p.last }

-- nothing runs in w places
abbrev pub gone_by : ℕ → ℕ → Position → Position
gone_by places w p = to (behind places p.slot w) (p.ahead - w) p

-- a pick of passes, whose task runs on in its w places: behind them, or at the same slot where they are all that are ahead
abbrev pub passed_on : ℕ → ℕ → Position → Position
passed_on places w p = cond (leb p.ahead w) p (to (behind places p.slot w) places p)

-- at the first of these slots, which are left of a round, along a row that is taken up to round `last`
abbrev pub taking : ℕ → ℕ → ℕ → Position → Position
taking rest begun last p =
    record { slot = slot_in rest; ahead = p.ahead; until = p.until; begun = begun; row = p.row; rest = rest; last = last }

-- another round takes the same row
abbrev pub goes_again : ℕ → Position → Bool
goes_again work p = ltb p.begun p.last && ltb work p.until

-- a pick of a round, whose task runs on
abbrev pub round_on : ℕ → Position → Position
round_on work p =
    cond (ltb 0 (p.rest / 128)) (taking (p.rest / 128) p.begun p.last p)
    (cond (goes_again work p) (taking p.row (p.begun + 1) p.last p) (to p.slot 0 p))

-- a task was picked and runs on in its w places; the work counts the pick
abbrev pub picked_on : ℕ → ℕ → ℕ → Position → Position
picked_on places work w p = cond (eqb p.row 0) (passed_on places w p) (round_on work p)

-- along a row that no later round takes
abbrev pub left_of : ℕ → Position → Position
left_of slot p =
    record { slot = slot; ahead = 0; until = p.until; begun = p.begun; row = p.row; rest = p.rest; last = 0 }

-- it forked or ended its side, and w of its places are gone by
abbrev pub stopped_at : ℕ → ℕ → Position → Position
stopped_at places w p =
    cond (eqb p.row 0) (to (behind places p.slot w) places p)
    (cond (ltb 0 (p.rest / 128)) (taking (p.rest / 128) p.begun 0 p) (left_of p.slot p))

-- the places of a slot where nothing runs
abbrev pub width : ℕ → ℕ
width places = cond (ltb places 1) 1 places
