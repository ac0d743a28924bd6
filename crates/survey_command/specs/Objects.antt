-- The parts of the object of the answer of `survey`.
use Rattle.std.specs.Prelude.{ℕ, List, [], ◌∷◌, codes, decimal}
use Rattle.json.specs.Json.{Json, number}

-- how many vertices, arrows and bidirected edges there are
abbrev pub graph_members : (vertices directed bidirected : ℕ) → List (List ℕ × Json)
graph_members vertices directed bidirected =
    (codes "vertices", number (decimal vertices)) ∷ (codes "directed", number (decimal directed)) ∷ (codes "bidirected", number (decimal bidirected)) ∷ []

-- how many effects with a formula, and with a hedge
abbrev pub tally_members : (formulas hedges : ℕ) → List (List ℕ × Json)
tally_members formulas hedges = (codes "formulas", number (decimal formulas)) ∷ (codes "hedges", number (decimal hedges)) ∷ []
