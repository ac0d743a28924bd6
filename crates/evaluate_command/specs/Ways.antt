-- How a formula is found.
use Rattle.std.specs.Prelude.{ℕ, ◌≡◌, Bool, true, false, List, [], ◌∷◌, Option, Some, None}
use Rattle.command_words.specs.Vocabulary.{names_in}
use Rattle.adjust_command.specs.Queries.{Query}
use Rattle.adjust_command.specs.Vocabulary.{by_set, by_back_door}
use Rattle.evaluate_command.specs.declared.way.Way.{Way as CodeWay}
use Rattle.evaluate_command.specs.declared.way.Way.TheVariants as way

-- by the identification procedure; by adjusting for the set of these names, where it meets the adjustment criterion or the back-door criterion; or by
-- the procedure for effects under a condition, the vertices of these names. A procedure's formula may be shortened.
pub data Way : Type 0 where
  by_procedure : (short : Bool) → Way
  by_adjusting : (back_door : Bool) → List (List ℕ) → Way
  by_condition : (short : Bool) → List (List ℕ) → Way

-- the way
abbrev pub way_of : CodeWay → Way
way_of (way.Procedure short) = by_procedure short
way_of (way.Adjusting set back_door) = by_adjusting back_door (names_in set)
way_of (way.Given given short) = by_condition short (names_in given)

-- one formula is found in this way: it is that of a procedure, or of a set
abbrev pub FixesFormula : Way → Type 0
FixesFormula (by_procedure short) = short ≡ false
FixesFormula (by_adjusting back_door set) = Unit {0}
FixesFormula (by_condition short given) = short ≡ false

-- the way that is asked for: a set excludes a condition and a short formula, and the back-door criterion needs a set
abbrev pub way_for : Option (List (List ℕ)) → (given : List (List ℕ)) → (back_door short : Bool) → Option Way
way_for None [] false short = Some (by_procedure short)
way_for None [] true short = None
way_for None (n ∷ ns) false short = Some (by_condition short (n ∷ ns))
way_for None (n ∷ ns) true short = None
way_for (Some set) [] back_door false = Some (by_adjusting back_door set)
way_for (Some set) [] back_door true = None
way_for (Some set) (n ∷ ns) back_door short = None

-- what `adjust` is asked for a set
abbrev pub criterion_query : (back_door : Bool) → List (List ℕ) → Query
criterion_query false set = by_set set
criterion_query true set = by_back_door set
