-- Where no way is asked for by the lists of four values, none is asked for by any lists of the same values.
use Rattle.std.proofs.Common.{◌≡◌, ℕ, List, Option, Some, None, sym, ◌∙◌}
use Rattle.std.proofs.lemmas.Option.{none-some}
use Rattle.command_words.specs.Vocabulary.{Text, IsListed, IsListedOrEmpty}
use Rattle.command_words.proofs.OneValue.{one_listed, one_listed_or_empty}
use Rattle.bounds_command.specs.Ways.{Way, way_for}

-- the lists of four values
pub record AreListed (sets givens is us : Option Text) : Type 0 where
  pub set : Option (List (List ℕ))
  pub given : List (List ℕ)
  pub instruments : List (List ℕ)
  pub strata : List (List ℕ)
  pub is_set : IsListed sets set
  pub is_given : IsListedOrEmpty givens given
  pub are_instruments : IsListedOrEmpty is instruments
  pub are_strata : IsListedOrEmpty us strata

-- the way that they ask for
abbrev pub way_in : (sets givens is us : Option Text) → AreListed sets givens is us → Option Way
way_in sets givens is us l = way_for l.set l.given l.instruments l.strata

pub one_way : (sets givens is us : Option Text) (l k : AreListed sets givens is us) → way_in sets givens is us k ≡ way_in sets givens is us l
one_way sets givens is us l k = λ i. way_for (one_listed sets l.set k.set l.is_set k.is_set i)
    (one_listed_or_empty givens l.given k.given l.is_given k.is_given i)
    (one_listed_or_empty is l.instruments k.instruments l.are_instruments k.are_instruments i)
    (one_listed_or_empty us l.strata k.strata l.are_strata k.are_strata i)

pub no_way : (sets givens is us : Option Text) (l k : AreListed sets givens is us) (w : Way) → None ≡ way_in sets givens is us l
    → way_in sets givens is us k ≡ Some w → ⊥
no_way sets givens is us l k w none some = none-some w (none ∙ sym (one_way sets givens is us l k) ∙ some)
