-- The values of words are one list or one number.
use Rattle.std.proofs.Common.{◌≡◌, ℕ, List, Option, Some, None, refl, sym, ap, ◌∙◌}
use Rattle.std.proofs.lemmas.Option.{same_Some}
use Rattle.command_words.specs.Form.{Text}
use Rattle.command_words.specs.Lists.{IsList}
use Rattle.command_words.proofs.ListLaw.{list_is_read}
use Rattle.command_words.specs.Values.{IsListed, IsListedOrEmpty, IsRequiredList, IsRequiredNumber, IsNumberOr}

-- a text is a list of names in one way at most
pub one_list : (text : List ℕ) (a b : List (List ℕ)) → IsList text a → IsList text b → b ≡ a
one_list text a b s t = same_Some b a (sym (list_is_read text b t) ∙ list_is_read text a s)

-- so is a text that may be left out, which then gives no list
pub one_listed : (text : Option Text) (a b : Option (List (List ℕ))) → IsListed text a → IsListed text b → b ≡ a
one_listed None None None s t = refl
one_listed None None (Some b) s t = absurd t
one_listed None (Some a) b s t = absurd s
one_listed (Some text) None b s t = absurd s
one_listed (Some text) (Some a) None s t = absurd t
one_listed (Some text) (Some a) (Some b) s t = ap (λ (names : List (List ℕ)). Some names) (one_list text a b s t)

-- so is one that gives the empty list where it is left out
pub one_listed_or_empty : (text : Option Text) (a b : List (List ℕ)) → IsListedOrEmpty text a → IsListedOrEmpty text b → b ≡ a
one_listed_or_empty None a b s t = t ∙ sym s
one_listed_or_empty (Some text) a b s t = one_list text a b s t

-- so is one that may not be left out
pub one_needed_list : (text : Option Text) (a b : List (List ℕ)) → IsRequiredList text a → IsRequiredList text b → b ≡ a
one_needed_list None a b s t = absurd s
one_needed_list (Some text) a b s t = one_list text a b s t

-- a text that may not be left out is one number at most
pub one_needed_number : (text : Option Text) (low high a b : ℕ) → IsRequiredNumber text low high a → IsRequiredNumber text low high b → b ≡ a
one_needed_number None low high a b s t = absurd s
one_needed_number (Some text) low high a b s t = sym t.value ∙ s.value

-- so is one in whose place a default stands where it is left out
pub one_number_or : (default : ℕ) (text : Option Text) (low high a b : ℕ) → IsNumberOr default text low high a → IsNumberOr default text low high b → b ≡ a
one_number_or default None low high a b s t = t ∙ sym s
one_number_or default (Some text) low high a b s t = sym t.value ∙ s.value
