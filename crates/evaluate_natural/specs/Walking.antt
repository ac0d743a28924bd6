-- Of which table values are had.
use Rattle.std.specs.Prelude.{◌≡◌}
use Rattle.mixed_graph.specs.Vocabulary.{has, members_below}
use Rattle.count_rows.specs.Vocabulary.{Table}
use Rattle.count_table.specs.Vocabulary.{AreCounts}
use Rattle.paired_values.specs.Vocabulary.{read_in}
use Rattle.evaluate_natural.specs.Effects.{PlainNested, IsIdentified, paired_in}

-- the effect is identified, and the table is one of counts of the vertices that are read for it
pub record IsOver (e : PlainNested) (t : Table) : Type 0 where
  pub identified : IsIdentified e
  pub counts : AreCounts t
  pub vertices : t.vertices ≡ members_below (has (read_in (paired_in e))) 64
