-- Which answers of `instruments` are right: the conditional instruments for the effect of x on y, with their strata, in the observed graph.
use Rattle.std.specs.Prelude.{ℕ, ◌≡◌, ◌==◌, Bool, true, false, ◌||◌, List, [], ◌∷◌, Some, Result, Ok, Err}
use Rattle.mixed_graph.specs.declared.sets.VSet.{VSet}
use Rattle.mixed_graph.specs.Vocabulary.{has, MixedGraph, graph_of}
use Rattle.targets.specs.declared.query.Sets.{Sets}
use Rattle.targets.specs.declared.fault.TargetFault.{TargetFault}
use Rattle.targets.specs.Vocabulary.{AreSets, IsTargetFault}
use Rattle.targets.specs.Targets as targets
use Rattle.natural_bounds.specs.Vocabulary.{IsInstrument}
use Rattle.instrument_sets.specs.declared.instruments.Candidate.{Candidate}
use Rattle.instrument_sets.specs.Vocabulary.{AreCandidates}
use Rattle.diagram.specs.declared.diagram.Diagram.{Diagram}
use Rattle.diagram.specs.Vocabulary.{Names, query_lists}
use Rattle.instruments_command.specs.declared.answer.Answer.{Answer}
use Rattle.instruments_command.specs.declared.answer.Answer.TheVariants.{Listed, NoInstrument}

-- there is a set
abbrev pub is_some_set : List VSet → Bool
is_some_set [] = false
is_some_set (s ∷ sets) = true

-- some vertex has a set of strata
abbrev pub have_strata : List Candidate → Bool
have_strata [] = false
have_strata (c ∷ list) = is_some_set c.strata.sets.items || have_strata list

-- no vertex is an instrument for the effect of x on y, in any strata
abbrev pub HasNoInstrument : MixedGraph → (x y : ℕ → Bool) → Type 0
HasNoInstrument q x y = (z : ℕ) (w : ℕ → Bool) → IsInstrument q x y (λ v. v == z) w → ⊥

-- The answer for sets of the observed graph q: each vertex outside x and y with its minimal sets of strata, at most so many of each; some vertex has one.
-- Or no vertex is an instrument.
abbrev pub Lists : (most : ℕ) → MixedGraph → Sets → Answer → Type 0
Lists most q s (Listed of list) =
    (of ≡ s) × AreCandidates q (has s.x.bits) (has s.y.bits) most list.items × (have_strata list.items ≡ true)
Lists most q s (NoInstrument of) = (of ≡ s) × HasNoInstrument q (has s.x.bits) (has s.y.bits)

-- the answer for the sets that lists name
pub record IsForLists (most : ℕ) (q : MixedGraph) (l : targets.Lists) (a : Answer) : Type 0 where
  pub sets : Sets
  pub named : AreSets l sets.x.bits sets.y.bits sets.given.bits
  pub listed : Lists most q sets a

-- the answer for lists of names, or the fault of these
abbrev pub IsForNames : (most : ℕ) → MixedGraph → targets.Lists → Result Answer TargetFault → Type 0
IsForNames most q l (Ok a) = IsForLists most q l a
IsForNames most q l (Err fault) = IsTargetFault l fault

-- the answer on a diagram, in its observed graph: for the lists that are given, or else the exposures and the outcomes
abbrev pub IsInstrumentsAnswer : Diagram → (x y : Names) → (most : ℕ) → Result Answer TargetFault → Type 0
IsInstrumentsAnswer d x y most = IsForNames most (graph_of d.observed.graph) (query_lists d.read d.observed.names x y (Some []))
