-- The graph of a rule is one, and what a rule asks is a separation in it.
use Rattle.std.proofs.Common.{ℕ, ◌≡◌, Bool, true, ◌||◌, refl, sym, ap, ◌∙◌, subst}
use mathlib.Core.Path.{fun_ext}
use Rattle.std.proofs.lemmas.Bool.{true_from_ne_false}
use Rattle.mixed_graph.specs.Vocabulary.{MixedGraph, IsMixedGraph}
use Rattle.finite_models.proofs.Bools.{same_truth}
use Rattle.m_separation.specs.Vocabulary.{IsSeparated}
use Rattle.do_rules.specs.Cuts.{cut_into, cut_out}
use Rattle.do_rules.proofs.Fewer.{graph_into, graph_out}
use Rattle.do_rules.specs.Rules.{IsFarPart, IsRuleGraph, IsBlockedFor}
use Rattle.do_rules.specs.declared.rules.Rule.{Rule}
use Rattle.do_rules.specs.declared.rules.Rule.TheVariants.{One, Two, Three}

far_same : (g : MixedGraph) (x z w p q : ℕ → Bool) → IsFarPart g x z w p → IsFarPart g x z w q → p ≡ q
far_same g x z w p q a b = fun_ext (λ v. same_truth (p v) (q v) (λ e. kept p q a b v e) (λ e. kept q p b a v e))
  where
    kept : (p q : ℕ → Bool) → IsFarPart g x z w p → IsFarPart g x z w q → (v : ℕ) → p v ≡ true → q v ≡ true
    kept p q a b v e = true_from_ne_false (q v) (λ f. a.no_ancestor v e (b.complete v (a.inside v e) f))

-- a rule has one graph for its sets
pub one_graph : (r : Rule) (g : MixedGraph) (x z w : ℕ → Bool) (h k : MixedGraph) → IsRuleGraph r g x z w h → IsRuleGraph r g x z w k → h ≡ k
one_graph One g x z w h k a b = a ∙ sym b
one_graph Two g x z w h k a b = a ∙ sym b
one_graph Three g x z w h k a b = a.2 ∙ ap (λ p. cut_into (cut_into g x) p) (far_same g x z w a.0 b.0 a.1 b.1) ∙ sym b.2

-- it is a graph, on the same vertices
pub cut_graph : (r : Rule) (g : MixedGraph) → IsMixedGraph g → (x z w : ℕ → Bool) (h : MixedGraph) → IsRuleGraph r g x z w h → IsMixedGraph h
    × (h.vertices ≡ g.vertices)
cut_graph One g valid x z w h is = subst (λ k. IsMixedGraph k × (k.vertices ≡ g.vertices)) (sym is) (graph_into g x valid, refl)
cut_graph Two g valid x z w h is = subst (λ k. IsMixedGraph k × (k.vertices ≡ g.vertices)) (sym is) (graph_out (cut_into g x) z (graph_into g x valid), refl)
cut_graph Three g valid x z w h is =
    subst (λ k. IsMixedGraph k × (k.vertices ≡ g.vertices)) (sym is.2) (graph_into (cut_into g x) is.0 (graph_into g x valid), refl)

module _ (g : MixedGraph) (x y z w : ℕ → Bool) where
  -- what rule 1 asks holds where x and w separate y from z in the graph without the edges into x
  pub asked_of_one : IsSeparated (cut_into g x) y z (λ v. x v || w v) → IsBlockedFor One g x y z w
  asked_of_one sep = record { graph = cut_into g x; is_graph = refl; separated = sep }

  -- what rule 2 asks holds where they do so without the edges into x and the arrows out of z
  pub asked_of_two : IsSeparated (cut_out (cut_into g x) z) y z (λ v. x v || w v) → IsBlockedFor Two g x y z w
  asked_of_two sep = record { graph = cut_out (cut_into g x) z; is_graph = refl; separated = sep }

  -- what rule 3 asks holds where they do so without the edges into x and into the far part of z
  pub asked_of_three : (part : ℕ → Bool) → IsFarPart g x z w part → IsSeparated (cut_into (cut_into g x) part) y z (λ v. x v || w v)
      → IsBlockedFor Three g x y z w
  asked_of_three part far sep = record { graph = cut_into (cut_into g x) part; is_graph = (part, far, refl); separated = sep }
