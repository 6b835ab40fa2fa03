-- A list of slots as a course: each slot in turn, those passed over that questions 21 to 24 refuse.
use Rattle.std.specs.Prelude.{true, false, List, [], ◌∷◌, ℕ, eqb, ℤ, length}
use Rattle.drive.specs.declared.State.{State}
use Rattle.drive.specs.Issue.{slot_no}
use Rattle.drive.specs.Courses.{over, turn, Chooser, Run, begun, follows}

-- it keeps the slots that are left
unfoldable pub listed : Chooser (List ℕ)
listed m [] = over
listed m (k ∷ ks) = elim (eqb (slot_no m k) 0) [ true ↦ turn k ks | false ↦ listed m ks ]

-- the whole list
abbrev pub list_from : List ℕ → List ℤ → State → List ℕ → Run (List ℕ)
list_from cells words m ks = follows cells words listed (length ks) (begun m ks)
