-- How the answer of a comparison is printed.
use Rattle.std.specs.Prelude.{ℕ, List, [], ◌∷◌, ◌++◌, codes}
use Rattle.mixed_graph.specs.Vocabulary.{name_of}
use Rattle.m_separation.specs.declared.paths.OpenPath.{OpenPath}
use Rattle.answer_text.specs.Vocabulary.{printed, set_text, path_text}
use Rattle.markov_equivalence.specs.declared.comparison.Difference.{Difference}
use Rattle.markov_equivalence.specs.declared.sides.Side.{Side}
use Rattle.markov_equivalence.specs.declared.sides.Side.TheVariants.{First, Second}
use Rattle.markov_equivalence.specs.Vocabulary.{other_side}
use Rattle.targets.specs.declared.query.Sets.{Sets}
use Rattle.replies.specs.Vocabulary.{query_text}

-- the first of the two graphs, or the second
abbrev pub which : Side → List ℕ
which First = codes "first"
which Second = codes "second"

-- ---- graphs that differ

-- `{A}`
abbrev pub braced : List (List ℕ) → ℕ → List ℕ
braced names v = 123 ∷ printed (name_of names v) ++ 125 ∷ []

-- `{A} from {B} given {C}`
abbrev pub pair_text : List (List ℕ) → Difference → List ℕ
pair_text names d = braced names d.a ++ (codes " from " ++ (braced names d.b ++ (codes " given " ++ set_text names d.given.bits)))

-- the line of the separation: `separated in the first alone: {A} from {B} given {C}`
abbrev pub separation_text : List (List ℕ) → Difference → List ℕ
separation_text names d = codes "separated in the " ++ (which d.holds_in ++ (codes " alone: " ++ (pair_text names d ++ 10 ∷ [])))

-- the graph that isn't the one of the separation has the edge or the collider: ` in the second`
abbrev pub place_text : Difference → List ℕ
place_text d = codes " in the " ++ (which (other_side d.holds_in) ++ 10 ∷ [])

-- `not equivalent: edge A,B in the second`, and the separation
abbrev pub edge_text : List (List ℕ) → Difference → List ℕ
edge_text names d = codes "not equivalent: edge " ++ (printed (name_of names d.a) ++ (44 ∷ printed (name_of names d.b)
    ++ (place_text d ++ separation_text names d)))

-- `not equivalent: collider A,M,B in the second`, and the separation
abbrev pub collider_text : List (List ℕ) → Difference → ℕ → List ℕ
collider_text names d m = codes "not equivalent: collider " ++ (printed (name_of names d.a) ++ (44 ∷ printed (name_of names m)
    ++ (44 ∷ printed (name_of names d.b) ++ (place_text d ++ separation_text names d))))

-- ---- graphs that don't differ

-- the line of two graphs that don't differ
abbrev pub equivalent_text : List ℕ
equivalent_text = codes "equivalent" ++ 10 ∷ []

-- that line, and `separated in both: X from Y given W`
abbrev pub separated_text : List (List ℕ) → Sets → List ℕ
separated_text names s = equivalent_text ++ (codes "separated in both: " ++ (query_text names s.x.bits s.y.bits s.given.bits ++ 10 ∷ []))

-- an open path of one graph: `open in the first: A -> B`
abbrev pub open_text : Side → List (List ℕ) → OpenPath → List ℕ
open_text side names p = codes "open in the " ++ (which side ++ (codes ": " ++ (path_text names p.vertices p.marks p.count ++ 10 ∷ [])))

-- the line of graphs that don't differ, and an open path of each
abbrev pub connected_text : List (List ℕ) → (first second : OpenPath) → List ℕ
connected_text names first second = equivalent_text ++ (open_text First names first ++ open_text Second names second)
