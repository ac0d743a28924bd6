-- By what an effect is bounded.
use Rattle.std.specs.Prelude.{ℕ, List, [], ◌∷◌, Option, Some, None}
use Rattle.command_words.specs.Vocabulary.{names_in}
use Rattle.bounds_command.specs.declared.way.Way.{Way as CodeWay}
use Rattle.bounds_command.specs.declared.way.Way.TheVariants.{Instruments, Adjusting}

-- by the levels of instruments in strata, under a condition: lists of names that may be empty; or by adjusting for the set of these names
pub data Way : Type 0 where
  by_instruments : (given instruments strata : List (List ℕ)) → Way
  by_adjusting : (set : List (List ℕ)) → Way

-- the way
abbrev pub way_of : CodeWay → Way
way_of (Instruments given instruments strata) = by_instruments (names_in given) (names_in instruments) (names_in strata)
way_of (Adjusting set) = by_adjusting (names_in set)

-- the way that is asked for: strata are named only where instruments are, and a set excludes a condition, instruments and strata
abbrev pub way_for : Option (List (List ℕ)) → (given instruments strata : List (List ℕ)) → Option Way
way_for None given (n ∷ ns) strata = Some (by_instruments given (n ∷ ns) strata)
way_for None given [] (n ∷ ns) = None
way_for None given [] [] = Some (by_instruments given [] [])
way_for (Some set) (n ∷ ns) instruments strata = None
way_for (Some set) [] (n ∷ ns) strata = None
way_for (Some set) [] [] (n ∷ ns) = None
way_for (Some set) [] [] [] = Some (by_adjusting set)
