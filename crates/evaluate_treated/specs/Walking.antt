-- Of which table values are had, and what the functions promise that give them.
use Rattle.std.specs.Prelude.{ℕ, ◌≡◌, Bool, List, All}
use Rattle.mixed_graph.specs.Vocabulary.{has, members_below}
use Rattle.count_rows.specs.Vocabulary.{Table}
use Rattle.count_table.specs.Vocabulary.{AreCounts}
use Rattle.evaluate_command.specs.declared.answer.Values.{Values}
use Rattle.paired_values.specs.declared.fault.PairFault.{PairFault}
use Rattle.paired_values.specs.Values.{IsBelow}
use Rattle.paired_values.specs.Vocabulary.{AreValuesOver, IsWhyNone, plain_values, read_in}
use Rattle.evaluate_treated.specs.Effects.{PlainAmong, IsIdentified, paired_in}
use Rattle.evaluate_treated.specs.Right.{CoversAmong, NoModelHas, ShowsCounts, shown_in}

-- the effect is identified, and the table is one of counts of the vertices that are read for it
pub record IsOver (e : PlainAmong) (t : Table) : Type 0 where
  pub identified : IsIdentified e
  pub counts : AreCounts t
  pub vertices : t.vertices ≡ members_below (has (read_in (paired_in e))) 64

-- the values at the printed cells, and what they stand for
pub record AreShown (is_exact : Bool) (e : PlainAmong) (t : Table) (values : Values) : Type 0 where
  pub evaluated : AreValuesOver is_exact (paired_in e) t values
  pub counts : All (ShowsCounts is_exact e e.reading t) (plain_values values)
  pub effects : All (CoversAmong (shown_in is_exact e.reading) e t) (plain_values values)

-- why there are none: where a value would be below 0, no model has the counts
pub record IsNone (is_exact : Bool) (e : PlainAmong) (t : Table) (fault : PairFault) : Type 0 where
  pub why : IsWhyNone is_exact (paired_in e) t fault
  pub none : (cell : List ℕ) → IsBelow cell fault → NoModelHas e.graph t
