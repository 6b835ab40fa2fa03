-- Which P and which interval are allowed.
use Rattle.std.specs.Prelude.{Bool, cond, ◌&&◌, ◌||◌, ℕ, eqb, ltb, leb}

-- P is 1, 2, 4, 8, 16, 32 or 64: its power of two; 7 for any other number
unfoldable pub rank : ℕ → ℕ
rank places =
    cond (eqb places 1) 0
    (cond (eqb places 2) 1
    (cond (eqb places 4) 2
    (cond (eqb places 8) 3
    (cond (eqb places 16) 4
    (cond (eqb places 32) 5
    (cond (eqb places 64) 6 7))))))

abbrev pub places_allowed : ℕ → Bool
places_allowed places = ltb (rank places) 7

abbrev pub interval_allowed : ℕ → Bool
interval_allowed interval = eqb interval 0 || (leb 8 interval && leb interval 65535)
