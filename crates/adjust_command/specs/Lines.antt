-- The printed answers of `adjust`.
use Rattle.std.specs.Prelude.{ℕ, Bool, true, false, List, [], ◌∷◌, ◌++◌, codes}
use Rattle.mixed_graph.specs.declared.sets.VSet.{VSet}
use Rattle.mixed_graph.specs.Vocabulary.{name_of}
use Rattle.answer_text.specs.Vocabulary.{printed, set_text}
use Rattle.replies.specs.Vocabulary.{open_text}
use Rattle.adjustment.specs.declared.criteria.AdjFault.{AdjFault}
use Rattle.adjustment.specs.declared.criteria.AdjFault.TheVariants.{Forbidden, Unblocked}
use Rattle.adjustment.specs.Vocabulary.{adjustment_formula}
use Rattle.prob_expr.specs.Vocabulary.{effect_on}
use Rattle.answer_text.specs.declared.signs.Notation.TheVariants as notations
use Rattle.identify_text.specs.Vocabulary.{answer_in}

-- a set on a line of its own
abbrev pub set_line : List (List ℕ) → ℕ → List ℕ
set_line names set = set_text names set ++ codes "\n"

-- `admissible: {Z}`, and then the effect with the adjustment formula of that set
abbrev pub admissible_text : List (List ℕ) → (x y z : ℕ) → List ℕ
admissible_text names x y z = codes "admissible: " ++ (set_line names z ++ answer_in notations.Plain names (effect_on x y) (adjustment_formula x y z))

-- `forbidden: Z`, with a member that is forbidden
abbrev pub forbidden_line : List (List ℕ) → ℕ → List ℕ
forbidden_line names v = codes "forbidden: " ++ (printed (name_of names v) ++ codes "\n")

-- what breaks a criterion: that member, or the open path
abbrev pub fault_line : List (List ℕ) → AdjFault → List ℕ
fault_line names (Forbidden v) = forbidden_line names v
fault_line names (Unblocked path) = open_text names path.vertices path.marks path.count

-- `not admissible: {Z}`, and then what breaks the criterion
abbrev pub not_admissible_text : List (List ℕ) → ℕ → AdjFault → List ℕ
not_admissible_text names z fault = codes "not admissible: " ++ (set_line names z ++ fault_line names fault)

-- each set on a line of its own
abbrev pub set_lines : List (List ℕ) → List VSet → List ℕ
set_lines names [] = []
set_lines names (s ∷ rest) = set_line names s.bits ++ set_lines names rest

-- the line `more` where there are more
abbrev pub more_line : Bool → List ℕ
more_line true = codes "more\n"
more_line false = []

-- the sets, and whether there are more
abbrev pub listing_text : List (List ℕ) → List VSet → Bool → List ℕ
listing_text names sets more = set_lines names sets ++ more_line more
