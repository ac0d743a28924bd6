-- The first pair that a graph implies and counts break, where it is asked for.
use Rattle.std.specs.Prelude.{◌≡◌, Bool, true, false, List, Option, None, IfSome}
use Rattle.mixed_graph.specs.Vocabulary.{MixedGraph}
use Rattle.count_rows.specs.Vocabulary.{Table}
use Rattle.count_table.specs.Vocabulary.{total}
use Rattle.count_eval.specs.Vocabulary.{weights_in, is_used}
use Rattle.natural_bounds.specs.Vocabulary.{HasNoModel}
use Rattle.implications.specs.declared.pairs.Implication.{Implication}
use Rattle.implications.specs.Vocabulary.{AreImplications}
use Rattle.broken_pairs.specs.Vocabulary.{IsFirstBroken}

-- it is the first pair that the graph implies and the counts break, and then no model that fits the graph, positive or not, has the counts; or they break none
pub record IsFirstBreak (g : MixedGraph) (t : Table) (broken : Option Implication) : Type 0 where
  pub list : List Implication
  pub implied : AreImplications g list
  pub first : IsFirstBroken t list broken
  pub no_model : IfSome broken (λ i. HasNoModel g (is_used t) (weights_in g.vertices t) (total t.rows))

-- the same where it is asked for, else none
abbrev pub IsBreak : (matched : Bool) → MixedGraph → Table → Option Implication → Type 0
IsBreak true g t broken = IsFirstBreak g t broken
IsBreak false g t broken = broken ≡ None
