-- Which answers of `implications` are right: the pairs of observed vertices that some set separates, and how far counts are from each.
use Rattle.std.specs.Prelude.{ℕ, ◌≡◌, ◌≢◌, ◌<◌, ◌≤◌, List, length, Option, Some, None, Result, Ok, Err, IfSome}
use Rattle.command_words.specs.Vocabulary.{Text}
use Rattle.mixed_graph.specs.Vocabulary.{MixedGraph, graph_of}
use Rattle.dag_reader.specs.declared.graph.ReadGraph.{ReadGraph}
use Rattle.targets.specs.declared.fault.TargetFault.{TargetFault}
use Rattle.count_rows.specs.declared.fault.CountFault.{CountFault}
use Rattle.count_rows.specs.Vocabulary.{Field, Table}
use Rattle.count_rows.specs.declared.fault.CountFault.TheVariants as counts
use Rattle.count_table.specs.Vocabulary.{total, text_fault}
use Rattle.count_eval.specs.Vocabulary.{weights_in, is_used}
use Rattle.natural_bounds.specs.Vocabulary.{HasNoModel}
use Rattle.count_answers.specs.Vocabulary.{HoldsCounts}
use Rattle.implications.specs.Vocabulary.{IsSeparable, AreIndependentGivenSome}
use Rattle.implications_command.specs.Pairs.{PlainPairs, ArePairs, pairs_in}
use Rattle.implications_command.specs.Used.{used_in}
use Rattle.implications_command.specs.Differences.{AreMeasured, first_broken}
use Rattle.implications_command.specs.declared.differences.Measured.{Measured}
use Rattle.implications_command.specs.declared.answer.Answer.{Answer}
use Rattle.implications_command.specs.declared.answer.Answer.TheVariants.{NoPairs, Pairs, Differences}
use Rattle.implications_command.specs.declared.fault.CountsFault.{CountsFault}
use Rattle.implications_command.specs.declared.fault.CountsFault.TheVariants.{TooLong, Faulty, NoMemory}

-- ---- before the counts

-- no set separates any two vertices of the graph, and no two are independent given a set in each model that fits
pub record HasNoPairs (q : MixedGraph) : Type 0 where
  pub none : (a b : ℕ) → IsSeparable q a b → ⊥
  pub dependent : (a b : ℕ) → AreIndependentGivenSome q a b → ⊥

-- the answer of an observed graph without counts: its pairs, or that there is none
abbrev pub Lists : ReadGraph → Answer → Type 0
Lists g NoPairs = HasNoPairs (graph_of g.graph)
Lists g (Pairs list) = ArePairs (pairs_in g list.items)
Lists g (Differences t measured) = ⊥

-- the answer for which counts that are given aren't read: there is no pair
abbrev pub ListsNone : ReadGraph → Answer → Type 0
ListsNone g NoPairs = HasNoPairs (graph_of g.graph)
ListsNone g a = ⊥

-- the answer on the graph alone, by whether counts are given; it is never refused
abbrev pub IsForGraph : Option Text → ReadGraph → Result Answer TargetFault → Type 0
IsForGraph None g (Ok a) = Lists g a
IsForGraph (Some counts) g (Ok a) = ListsNone g a
IsForGraph counts g (Err fault) = ⊥

-- ---- over the bytes of counts

-- where one of these differences isn't 0, no model that fits the graph, positive or not, has the counts
abbrev pub IsRefuted : MixedGraph → Table → List Measured → Type 0
IsRefuted g t measured = IfSome (first_broken measured) (λ i. HasNoModel g (is_used t) (weights_in g.vertices t) (total t.rows))

-- the pairs with their differences over the table of the bytes
abbrev pub Measures : PlainPairs → Option Field → List ℕ → Answer → Type 0
Measures p count bytes (Differences t measured) = HoldsCounts p.names (used_in p.list) count bytes t × AreMeasured p.graph t p.list measured.items
    × IsRefuted p.graph t measured.items
Measures p count bytes a = ⊥

-- the bytes are no counts of the vertices of the pairs: their text has this fault
pub record IsFaulty (p : PlainPairs) (count : Option Field) (bytes : List ℕ) (fault : CountFault) : Type 0 where
  pub small : length bytes ≤ 67108864
  pub no_memory : fault ≢ counts.NoMemory
  pub found : text_fault bytes p.names (used_in p.list) count ≡ Some fault

-- what is wrong with the bytes
abbrev pub IsCountsFault : PlainPairs → Option Field → List ℕ → CountsFault → Type 0
IsCountsFault p count bytes TooLong = 67108864 < length bytes
IsCountsFault p count bytes (Faulty fault) = IsFaulty p count bytes fault
IsCountsFault p count bytes NoMemory = ⊥

-- the answer for pairs and the bytes of counts, or what is wrong with these
abbrev pub IsForCounts : PlainPairs → Option Field → List ℕ → Result Answer CountsFault → Type 0
IsForCounts p count bytes (Ok a) = Measures p count bytes a
IsForCounts p count bytes (Err fault) = IsCountsFault p count bytes fault
