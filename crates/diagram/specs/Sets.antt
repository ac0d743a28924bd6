-- The lists of a question about a diagram: those that are given, or else the vertices that it marks.
use Rattle.std.specs.Prelude.{ℕ, List, Option, option_map}
use Rattle.std.specs.Borrow.{Bor}
use Rattle.std.specs.Global.{Vec}
use Rattle.mixed_graph.specs.Vocabulary.{texts}
use Rattle.dag_reader.specs.declared.graph.ReadGraph.{ReadGraph}
use Rattle.targets.specs.Vocabulary.{listed, Lists, EffectLists, RuleLists}
use Rattle.diagram.specs.declared.sets.Marked.{Marked}
use Rattle.diagram.specs.declared.sets.Marked.TheVariants.{Exposures, Outcomes, Adjusted}

-- the names of a list, where an option gives one
abbrev pub Names : Type 0
Names = Option (List (List ℕ))

-- the names of a list that is lent
abbrev pub lent : Option (Bor (List (Vec ℕ))) → Names
lent list = option_map (λ s. texts s.now) list

-- the vertices of a graph that are marked so
abbrev pub marked : ReadGraph → Marked → ℕ
marked g Exposures = g.exposures.bits
marked g Outcomes = g.outcomes.bits
marked g Adjusted = g.adjusted.bits

-- the names of a list that is given, or else those of the marked vertices
abbrev pub names_or : ReadGraph → Marked → Names → List (List ℕ)
names_or g mark list = listed g.names (marked g mark) list

-- the lists of an effect, on a graph with these observed names: those that are given, or else the exposures and the outcomes
abbrev pub effect_lists : ReadGraph → (observed : List (List ℕ)) → (x y : Names) → EffectLists
effect_lists g observed x y = record {
  all = g.names;
  observed = observed;
  x = listed g.names g.exposures.bits x;
  y = listed g.names g.outcomes.bits y;
}

-- the lists of a query, of which the third is that of the adjusted vertices where it isn't given
abbrev pub query_lists : ReadGraph → (observed : List (List ℕ)) → (x y given : Names) → Lists
query_lists g observed x y given = record {
  all = g.names;
  observed = observed;
  x = listed g.names g.exposures.bits x;
  y = listed g.names g.outcomes.bits y;
  given = listed g.names g.adjusted.bits given;
}

-- the lists of a rule, none of which has a default
abbrev pub rule_lists : ReadGraph → (observed : List (List ℕ)) → (y x z given : List (List ℕ)) → RuleLists
rule_lists g observed y x z given = record { all = g.names; observed = observed; y = y; x = x; z = z; given = given }
