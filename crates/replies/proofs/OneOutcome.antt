-- Outcomes that exclude each other make one outcome.
use Rattle.std.proofs.Common.{◌≡◌, ◌⊎◌, ℕ, List, inl, inr, sym, subst, ◌∙◌}
use Rattle.mixed_graph.specs.Vocabulary.{MixedGraph, graph_of}
use Rattle.diagram.specs.declared.diagram.Diagram.{Diagram}
use Rattle.diagram.proofs.OneDiagram.{AreSameDiagrams, same_drawing}
use Rattle.replies.specs.declared.outcome.Outcome.{Outcome}
use Rattle.replies.specs.OneOutcome.{OneOutcome, IsAnswerOn}
use Rattle.replies.specs.Told.{Told}
use Rattle.replies.proofs.OneGraph.{one_holding}

-- two outcomes of an answer can't both be
abbrev pub Exclude : (Outcome → Told → Type 0) → Outcome → Outcome → Type 0
Exclude answer o p = (told other : Told) → answer o told → answer p other → ⊥

-- the outcome is one of three
abbrev pub IsOneOf : (a b c : Outcome) → Outcome → Type 0
IsOneOf a b c o = (o ≡ a) ⊎ ((o ≡ b) ⊎ (o ≡ c))

-- an answer with three outcomes, of which each excludes the others, has one
pub one_of_three : (a b c : Outcome) (answer : Outcome → Told → Type 0) → ((o : Outcome) (told : Told) → answer o told → IsOneOf a b c o)
    → Exclude answer a b → Exclude answer a c → Exclude answer b c → OneOutcome answer
one_of_three a b c answer among ab ac bc o p told other x y = go (among o told x) (among p other y)
  where
    of_o : (k : Outcome) → o ≡ k → answer k told
    of_o k e = subst (λ (j : Outcome). answer j told) e x

    of_p : (k : Outcome) → p ≡ k → answer k other
    of_p k e = subst (λ (j : Outcome). answer j other) e y

    go : IsOneOf a b c o → IsOneOf a b c p → o ≡ p
    go (inl e) (inl f) = e ∙ sym f
    go (inl e) (inr (inl f)) = absurd (ab told other (of_o a e) (of_p b f))
    go (inl e) (inr (inr f)) = absurd (ac told other (of_o a e) (of_p c f))
    go (inr (inl e)) (inl f) = absurd (ab other told (of_p a f) (of_o b e))
    go (inr (inl e)) (inr (inl f)) = e ∙ sym f
    go (inr (inl e)) (inr (inr f)) = absurd (bc told other (of_o b e) (of_p c f))
    go (inr (inr e)) (inl f) = absurd (ac other told (of_p a f) (of_o c e))
    go (inr (inr e)) (inr (inl f)) = absurd (bc other told (of_p b f) (of_o c e))
    go (inr (inr e)) (inr (inr f)) = e ∙ sym f

-- ---- answers on diagrams

-- an answer that has one outcome on diagrams that are the same has one on the diagram that the bytes hold
pub one_on_diagram : (bytes : List ℕ) (answer : Diagram → Outcome → Told → Type 0)
    → ((d e : Diagram) → AreSameDiagrams d e → (o p : Outcome) (told other : Told) → answer d o told → answer e p other → o ≡ p)
    → OneOutcome (IsAnswerOn bytes answer)
one_on_diagram bytes answer once o p told other a b = once a.diagram b.diagram
    (one_holding bytes a.diagram b.diagram a.holds b.holds) o p told other a.given b.given

-- the same of an answer for lists in the observed graph
pub one_for_diagrams : {L : Type 0} (bytes : List ℕ) (lists : Diagram → L) (answer : MixedGraph → L → Outcome → Told → Type 0)
    → ((d e : Diagram) → AreSameDiagrams d e → lists e ≡ lists d)
    → ((d : Diagram) → OneOutcome (answer (graph_of d.observed.graph) (lists d)))
    → OneOutcome (IsAnswerOn bytes (λ d. answer (graph_of d.observed.graph) (lists d)))
one_for_diagrams {L} bytes lists answer same once = one_on_diagram bytes (λ d. answer (graph_of d.observed.graph) (lists d)) go
  where
    go : (d e : Diagram) → AreSameDiagrams d e → (o p : Outcome) (told other : Told) → answer (graph_of d.observed.graph) (lists d) o told
        → answer (graph_of e.observed.graph) (lists e) p other → o ≡ p
    go d e s o p told other a b = once d o p told other a
        (subst (λ (l : L). answer (graph_of d.observed.graph) l p other) (same d e s)
        (subst (λ (q : MixedGraph). answer q (lists e) p other) (sym (same_drawing d e s)) b))
