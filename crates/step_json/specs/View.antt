-- The plain lists of the code's lists.
use Rattle.std.specs.Prelude.{ℕ, List, map}
use Rattle.std.specs.Global.{Vec}

-- the contents of such vectors
abbrev pub groups_view : List (Vec ℕ) → List (List ℕ)
groups_view groups = map (λ (numbers : Vec ℕ). numbers.items) groups
