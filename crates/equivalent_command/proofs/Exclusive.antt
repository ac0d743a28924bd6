-- Right answers of two graphs end alike, and a second graph that has one isn't refused; a first graph that is refused isn't accepted.
use Rattle.std.proofs.Common.{◌≡◌, ◌⊎◌, ℕ, Bool, true, false, List, Option, Some, None, Result, Ok, Err, inl, inr, refl, sym, ◌∙◌, subst, arith}
use Rattle.mixed_graph.specs.Vocabulary.{MixedGraph, graph_of}
use Rattle.markov_equivalence.specs.Vocabulary.{HasArrowsAlone, AreEquivalent}
use Rattle.dag_reader.specs.declared.graph.ReadGraph.{ReadGraph}
use Rattle.dag_reader.specs.Vocabulary.{AreSame}
use Rattle.dag_reader.proofs.OneReading.{reads_either}
use Rattle.targets.specs.declared.fault.TargetFault.{TargetFault}
use Rattle.targets.specs.declared.query.Sets.{Sets}
use Rattle.targets.specs.Vocabulary.{IsTargetFault}
use Rattle.diagram.specs.declared.diagram.Diagram.{Diagram}
use Rattle.diagram.proofs.OneDiagram.{AreSameDiagrams, same_drawing, same_query_lists}
use Rattle.diagram.proofs.OneObserved.{same_as}
use Rattle.replies.specs.declared.outcome.Outcome.TheVariants.{Yes, No}
use Rattle.replies.proofs.OneGraph.{one_holding}
use Rattle.replies.proofs.OneTarget.{no_fault_of}
use Rattle.told.specs.Vocabulary.{target_refusal, outcome_in}
use Rattle.equivalent_command.specs.Numbers.{HaveSameNames, on_names}
use Rattle.equivalent_command.specs.Faults.{IsBidirectedFault, IsOtherName, in_first, in_second}
use Rattle.equivalent_command.specs.Queries.{AreAsked, IsListsFault}
use Rattle.equivalent_command.specs.Requests.{Query}
use Rattle.equivalent_command.specs.Right.{IsAcceptedFirst, IsFirstGraphFault, IsForFirst, Decides, AreComparable, ObservedFault, IsForText}
use Rattle.equivalent_command.specs.Right.{IsSecondFault, IsForSecond}
use Rattle.equivalent_command.specs.SecondFaults.{second_refusal}
use Rattle.equivalent_command.specs.Telling.{outcome_of, equivalent_telling}
use Rattle.equivalent_command.specs.declared.answer.Answer.{Answer}
use Rattle.equivalent_command.specs.declared.answer.Answer.TheVariants.{Alike, Separated, Connected, Edge, Collider}
use Rattle.equivalent_command.specs.declared.second.SecondFault.{SecondFault}
use Rattle.equivalent_command.specs.declared.second.SecondFault.TheVariants.{TooLong, Faulty, Unlike, NoMemory}

both_ways : (b : Bool) → b ≡ true → b ≡ false → ⊥
both_ways b e f = absurd (grind (arith, e, f))

-- ---- the first graph

-- a graph with a bidirected edge has not arrows alone
arrows_or_not : (q : MixedGraph) (names : List (List ℕ)) (f : TargetFault) → HasArrowsAlone q → IsBidirectedFault q names f → ⊥
arrows_or_not q names f arrows b = both_ways (q.both b.a b.b) b.first.edge (arrows b.a b.b)

lists_or_sets : (d e : Diagram) → AreSameDiagrams d e → (l : Option Query) (s : Option Sets) (f : TargetFault) → IsListsFault d l f → AreAsked e l s → ⊥
lists_or_sets d e same None s f a b = a
lists_or_sets d e same (Some q) None f a b = b
lists_or_sets d e same (Some q) (Some s) f a b = no_fault_of _ q.y q.x f b.no_fault b.some_y b.some_x
    (subst (λ k. IsTargetFault k f) (sym (same_query_lists (Some q.x) (Some q.y) (Some q.given) d e same)) a)

fault_or_accepted : (d e : Diagram) → AreSameDiagrams d e → (l : Option Query) (s : Option Sets) (f : TargetFault) → IsFirstGraphFault d l f
    → IsAcceptedFirst e l s → ⊥
fault_or_accepted d e same l s f (IsFirstGraphFault.listed is) a = lists_or_sets d e same l s f is a.asked
fault_or_accepted d e same l s f (IsFirstGraphFault.bidirected t asked is) a =
    arrows_or_not (graph_of d.observed.graph) d.observed.names f (subst HasArrowsAlone (sym (same_drawing d e same)) a.arrows) is

-- a first graph that is refused isn't accepted
pub first_alone : (d e : Diagram) → AreSameDiagrams d e → (l : Option Query) (a : Result Answer TargetFault) (s : Option Sets) → IsForFirst d l a
    → IsAcceptedFirst e l s → ⊥
first_alone d e same l (Ok a) s f g = f
first_alone d e same l (Err fault) s f g = fault_or_accepted d e same l s fault f g

pub first_alike : (d e : Diagram) (l : Option Query) (a b : Result Answer TargetFault) → IsForFirst d l a → IsForFirst e l b
    → outcome_in equivalent_telling target_refusal a ≡ outcome_in equivalent_telling target_refusal b
first_alike d e l (Ok a) b f g = absurd f
first_alike d e l (Err fault) (Ok b) f g = absurd g
first_alike d e l (Err fault) (Err other) f g = refl

-- ---- both graphs

-- the answer is yes for equivalent graphs alone
kind : (p q : MixedGraph) (s : Option Sets) (a : Answer) → Decides p q s a
    → ((outcome_of a ≡ Yes) × AreEquivalent p q) ⊎ ((outcome_of a ≡ No) × (AreEquivalent p q → ⊥))
kind p q s Alike h = inl (refl, h.0.equivalent)
kind p q s (Separated of) h = inl (refl, h.0.equivalent)
kind p q s (Connected of first second) h = inl (refl, h.0.equivalent)
kind p q s (Edge d) h = let is = h.0.pair in inr (refl, λ e. is.differs (e.skeleton d.a d.b is.ascends))
kind p q s (Collider d m) h = let is = h.0.triple.here in inr (refl, λ e. is.differs (e.colliders d.a d.b m is.ascends))

end_alike : (p q : MixedGraph) (s t : Option Sets) (a b : Answer) → Decides p q s a → Decides p q t b → outcome_of a ≡ outcome_of b
end_alike p q s t a b f g = elim (kind p q s a f) [
  | inl x ↦ elim (kind p q t b g) [
    | inl y ↦ x.0 ∙ sym y.0
    | inr y ↦ absurd (y.1 x.1)
  ]
  | inr x ↦ elim (kind p q t b g) [
    | inl y ↦ absurd (x.1 y.1)
    | inr y ↦ x.0 ∙ sym y.0
  ]
]

module _ (g g' h h' : ReadGraph) (s : AreSame g g') (t : AreSame h h') where
  same_first : graph_of g'.graph ≡ graph_of g.graph
  same_first = same_as (graph_of g'.graph) (graph_of g.graph) s.vertices s.arrows s.spouses

  same_second : graph_of h'.graph ≡ graph_of h.graph
  same_second = same_as (graph_of h'.graph) (graph_of h.graph) t.vertices t.arrows t.spouses

  compared_alike : (k l : Option Sets) (a b : Answer) → Decides (graph_of g.graph) (on_names g.names h.names (graph_of h.graph)) k a
      → Decides (graph_of g'.graph) (on_names g'.names h'.names (graph_of h'.graph)) l b → outcome_of a ≡ outcome_of b
  compared_alike k l a b x y =
      let moved : on_names g'.names h'.names (graph_of h'.graph) ≡ on_names g.names h.names (graph_of h.graph) =
      λ i. on_names (s.names i) (t.names i) (same_second i) in
      end_alike (graph_of g.graph) (on_names g.names h.names (graph_of h.graph)) k l a b x
      (subst (λ (m : MixedGraph). Decides m (on_names g.names h.names (graph_of h.graph)) l b) same_first
      (subst (λ (m : MixedGraph). Decides (graph_of g'.graph) m l b) moved y))

  -- graphs that are compared have the same names and arrows alone
  like : (fault : TargetFault) → AreComparable g h → ObservedFault g'.names (graph_of h'.graph) h'.names fault → ⊥
  like fault a is = go is
    where
      names : HaveSameNames g'.names h'.names
      names = subst (λ (ns : List (List ℕ)). HaveSameNames ns h'.names) (sym s.names)
          (subst (λ (ns : List (List ℕ)). HaveSameNames g.names ns) (sym t.names) a.names)

      other_name : (name : List ℕ) → IsOtherName g'.names h'.names name → ⊥
      other_name name (in_first v is at) = both_ways _ (names.first v is.below) is.alone
      other_name name (in_second v among is at) = both_ways _ (names.second v is.below) is.alone

      go : ObservedFault g'.names (graph_of h'.graph) h'.names fault → ⊥
      go (ObservedFault.bidirected is) = arrows_or_not (graph_of h'.graph) h'.names fault (subst HasArrowsAlone (sym same_second) a.second_arrows) is
      go (ObservedFault.other_names only is) = other_name is.name is.first

-- a second graph that has an answer isn't refused
answered_or_refused : (d d' : Diagram) → AreSameDiagrams d d' → (second : List ℕ) (s : Option Sets) (a : Answer) (fault : SecondFault)
    → IsForText d.observed s second a → IsSecondFault d'.observed second fault → ⊥
answered_or_refused d d' same second s a TooLong is long = absurd (let small = is.holds.small in omega (arith, small, long))
answered_or_refused d d' same second s a (Faulty bytes fault) is f = reads_either second is.diagram.read fault is.holds.reads f.no_memory f.reads
answered_or_refused d d' same second s a (Unlike fault) is u =
    like d.observed d'.observed is.diagram.observed u.diagram.observed same.observed
    (one_holding second is.diagram u.diagram is.holds u.holds).observed fault is.compared.comparable u.unlike
answered_or_refused d d' same second s a NoMemory is f = f

pub second_alike : (d e : Diagram) → AreSameDiagrams d e → AreSameDiagrams e d → (s t : Option Sets) (second : List ℕ) (a b : Result Answer SecondFault)
    → IsForSecond d.observed s second a → IsForSecond e.observed t second b
    → outcome_in equivalent_telling second_refusal a ≡ outcome_in equivalent_telling second_refusal b
second_alike d e same back s t second (Ok a) (Ok b) f g =
    compared_alike d.observed e.observed f.diagram.observed g.diagram.observed same.observed
    (one_holding second f.diagram g.diagram f.holds g.holds).observed s t a b f.compared.decided g.compared.decided
second_alike d e same back s t second (Ok a) (Err fault) f g = absurd (answered_or_refused d e same second s a fault f g)
second_alike d e same back s t second (Err fault) (Ok b) f g = absurd (answered_or_refused e d back second t b fault g f)
second_alike d e same back s t second (Err fault) (Err other) f g = refl
