-- The fields of a record: one text, and the place where each field ends.
use Rattle.std.specs.Prelude.{◌≡◌, ℕ, zero, suc, ◌+◌, ◌-◌, ◌≤◌, List, [], ◌∷◌, take, drop}

-- the fields that end at these places of a text, from a start on, with one byte behind each
unfoldable pub cut_from : ℕ → List ℕ → List ℕ → List (List ℕ)
cut_from start [] text = []
cut_from start (end ∷ ends) text = take (end - start) (drop start text) ∷ cut_from (end + 1) ends text

-- fields end at these places, from a start on, and the byte behind the last is that before the place `stop`
unfoldable pub AreEnds : ℕ → List ℕ → ℕ → Type 0
AreEnds start [] stop = start ≡ stop
AreEnds start (end ∷ ends) stop = (start ≤ end) × AreEnds (end + 1) ends stop

-- where a field begins: one byte behind the field before it
unfoldable pub start_of : ℕ → List ℕ → ℕ → ℕ
start_of start ends zero = start
start_of start [] (suc i) = start
start_of start (end ∷ ends) (suc i) = start_of (end + 1) ends i
