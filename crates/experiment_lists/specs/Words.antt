-- Experiments in a word: one to eight lists of names, joined by `;`.
use Rattle.std.specs.Prelude.{ℕ, ◌≡◌, ◌==◌, ◌≤◌, Bool, true, false, not, List, [], ◌∷◌, ◌++◌, length, Option, Some, None, codes}
use Rattle.std.specs.List.{list_all}
use Rattle.command_words.specs.Vocabulary.{Item, bare, quoted, IsItems, unbraced}

-- lists of names, as their bytes
abbrev pub Lists : Type 0
Lists = List (List (List ℕ))

-- no `;`
abbrev pub is_undivided_byte : ℕ → Bool
is_undivided_byte b = not (b == 59)

-- an item without quotes holds no `;`
abbrev pub is_undivided : Item → Bool
is_undivided (bare name) = list_all is_undivided_byte name
is_undivided (quoted name) = true

-- the text is the list of these names, between braces or without them; it isn't `{}`, and no item without quotes holds a `;`
pub record IsExperiment (text : List ℕ) (names : List (List ℕ)) : Type 0 where
  pub filled : text ≡ codes "{}" → ⊥
  pub list : IsItems (unbraced text) names
  pub undivided : list_all is_undivided (list.first ∷ list.more) ≡ true

-- the text is one or more experiments joined by `;`
abbrev pub AreJoinedBySemicolons : List ℕ → Lists → Type 0
AreJoinedBySemicolons text [] = ⊥
AreJoinedBySemicolons text (names ∷ []) = IsExperiment text names
AreJoinedBySemicolons text (names ∷ next ∷ others) = (part rest : List ℕ) × (text ≡ part ++ 59 ∷ rest) × IsExperiment part names
    × AreJoinedBySemicolons rest (next ∷ others)

-- the text is one to eight experiments, with these names
pub record AreExperiments (text : List ℕ) (lists : Lists) : Type 0 where
  pub joined : AreJoinedBySemicolons text lists
  pub few : length lists ≤ 8

-- the value is there, and is these experiments
abbrev pub AreNeededExperiments : Option (List ℕ) → Lists → Type 0
AreNeededExperiments None lists = ⊥
AreNeededExperiments (Some text) lists = AreExperiments text lists

-- the value is these experiments; where it is missing, there are none
abbrev pub AreOptionalExperiments : Option (List ℕ) → Lists → Type 0
AreOptionalExperiments None lists = lists ≡ []
AreOptionalExperiments (Some text) lists = AreExperiments text lists

-- there is a name
abbrev pub is_filled : List (List ℕ) → Bool
is_filled [] = false
is_filled (n ∷ ns) = true

-- at most eight lists, each with a name: what experiments in a word are
pub record AreFilled (lists : Lists) : Type 0 where
  pub few : length lists ≤ 8
  pub filled : list_all is_filled lists ≡ true
