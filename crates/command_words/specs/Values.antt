-- What the values of words give a request.
use Rattle.std.specs.Prelude.{ℕ, ◌≡◌, true, List, [], Option, Some, None, codes}
use Rattle.command_words.specs.Form.{Text, Row, Use, is_among, positional_names, value_names, word_of, value_of}
use Rattle.command_words.specs.Lists.{IsList}
use Rattle.command_words.specs.Numbers.{IsNumber}

-- the value of an option is the list of these names; neither is there, or both are
abbrev pub IsListed : Option Text → Option (List (List ℕ)) → Type 0
IsListed None None = Unit {0}
IsListed None (Some names) = ⊥
IsListed (Some text) None = ⊥
IsListed (Some text) (Some names) = IsList text names

-- the value of an option is the list of these names; there are none where it isn't there
abbrev pub IsListedOrEmpty : Option Text → List (List ℕ) → Type 0
IsListedOrEmpty None names = names ≡ []
IsListedOrEmpty (Some text) names = IsList text names

-- the value is there, and is the list of these names
abbrev pub IsRequiredList : Option Text → List (List ℕ) → Type 0
IsRequiredList None names = ⊥
IsRequiredList (Some text) names = IsList text names

-- the value is there, and is this number in its range
abbrev pub IsRequiredNumber : Option Text → (low high number : ℕ) → Type 0
IsRequiredNumber None low high number = ⊥
IsRequiredNumber (Some text) low high number = IsNumber text low high number

-- the value is this number in its range, or isn't there and the number is the default
abbrev pub IsNumberOr : (default : ℕ) → Option Text → (low high number : ℕ) → Type 0
IsNumberOr default None low high number = number ≡ default
IsNumberOr default (Some text) low high number = IsNumber text low high number

-- the two inputs aren't both standard input
abbrev pub AreTwoInputs : Text → Text → Type 0
AreTwoInputs file second = file ≡ codes "-" → second ≡ codes "-" → ⊥

-- the row has the positional and the two options of a subject
abbrev pub HasSubject : Row → Type 0
HasSubject row = (is_among (positional_names row) (codes "file") ≡ true) × (is_among (value_names row) (codes "x") ≡ true)
    × (is_among (value_names row) (codes "y") ≡ true)

-- the uses name what a question is about: the file, and the lists x and y where they are given
pub record IsSubject (row : Row) (uses : List Use) (file : Text) (x y : Option (List (List ℕ))) : Type 0 where
  pub is_file : word_of row uses (codes "file") ≡ Some file
  pub is_x : IsListed (value_of uses (codes "x")) x
  pub is_y : IsListed (value_of uses (codes "y")) y
