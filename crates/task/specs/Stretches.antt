-- A stretch of a list.
use Rattle.std.specs.Prelude.{List, [], ◌∷◌, ℕ, zero, suc, get_or}

-- n elements from b on: n of them whatever the list's length, d past its end
unfoldable pub reads : {A : Type 0} → A → List A → ℕ → ℕ → List A
reads d l b zero = []
reads d l b (suc n) = get_or l b d ∷ reads d l (suc b) n
