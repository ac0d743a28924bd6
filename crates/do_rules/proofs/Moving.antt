-- Separation and open paths stay where the graph and the given set are equal; the far part of rule 3.
use Rattle.std.proofs.Common.{ℕ, ◌≡◌, Bool, not, ◌&&◌, ◌↔◌, IsTrue, List, sym, subst, ◌∙◌, refl}
use mathlib.Core.Path.{fun_ext}
use Rattle.std.proofs.lemmas.Bool.{not-true, true_from_ne_false}
use Rattle.mixed_graph.specs.Vocabulary.{MixedGraph, IsAncestor}
use Rattle.m_separation.specs.declared.marks.Mark.{Mark}
use Rattle.m_separation.specs.Vocabulary.{IsOpenPath, IsSeparated}
use Rattle.do_rules.specs.Cuts.{cut_into}
use Rattle.finite_models.proofs.Bools.{not_both, and_first, and_second}
use Rattle.do_rules.specs.Rules.{IsFarPart}

pub separated_moved : (h g : MixedGraph) (y z t t' : ℕ → Bool) → h ≡ g → ((v : ℕ) → t v ≡ t' v) → IsSeparated h y z t → IsSeparated g y z t'
separated_moved h g y z t t' e f sep = subst (λ k. IsSeparated k y z t') e (subst (λ r. IsSeparated h y z r) (fun_ext f) sep)

pub open_moved : (h g : MixedGraph) (y z t t' : ℕ → Bool) (vertices : List ℕ) (marks : List Mark) (count : ℕ) → h ≡ g → ((v : ℕ) → t v ≡ t' v) →
    IsOpenPath h y z t vertices marks count → IsOpenPath g y z t' vertices marks count
open_moved h g y z t t' vertices marks count e f p =
    subst (λ k. IsOpenPath k y z t' vertices marks count) e (subst (λ r. IsOpenPath h y z r vertices marks count) (fun_ext f) p)

-- what is left of z without the ancestors of w
pub far_part : (g h : MixedGraph) (x z w above part : ℕ → Bool) → h ≡ cut_into g x → ((v : ℕ) → IsTrue (above v) ↔ IsAncestor h w v) →
    ((v : ℕ) → part v ≡ (z v && not (above v))) → IsFarPart g x z w part
far_part g h x z w above part e anc is = record {
  inside = λ v p. and_first (z v) (not (above v)) (sym (is v) ∙ p);
  no_ancestor = λ v p a. not_both (above v) ((ancestors v).1 a) (not-true (above v) (and_second (z v) (not (above v)) (sym (is v) ∙ p)));
  complete = λ v zv none. (ancestors v).0 (true_from_ne_false (above v) (λ out. not_both (part v) (is v ∙ rw (zv, out) refl) none));
}
  where
    ancestors : (v : ℕ) → IsTrue (above v) ↔ IsAncestor (cut_into g x) w v
    ancestors v = subst (λ k. IsTrue (above v) ↔ IsAncestor k w v) e (anc v)
