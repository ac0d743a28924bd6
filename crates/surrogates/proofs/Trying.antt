-- A factor of the graph without z, as a try of the graph.
use Rattle.std.proofs.Common.{ℕ, ◌≡◌, ◌≤◌, ◌==◌, true, List, length, Result, Ok, Err, refl, sym, subst, eqb-true}
use Rattle.std.specs.Prelude.{IfOk, IfErr}
use Rattle.hedge.specs.Vocabulary.{IsJoinedSet}
use Rattle.identify.specs.declared.factors.district_factor.Factor.{Factor}
use Rattle.identify.specs.declared.factors.district_factor.FactorFault.{FactorFault}
use Rattle.identify.specs.declared.factors.district_factor.FactorFault.TheVariants.{Stopped}
use Rattle.identify.specs.declared.wanted.Wanted.TheVariants.{Derivation}
use Rattle.identify.specs.Vocabulary.{IsMadeFactor, IsFactorFault}
use Rattle.identify.specs.declared.factors.district_factor.FactorFault.TheVariants.{NoMemory}
use Rattle.do_derivation.specs.Vocabulary.{lemma_view, steps_view}
use Rattle.identification_theory.specs.Vocabulary.{AreFactorSteps, AreAncestorsIn, IsFactor, IsStopped, Source}
use Rattle.mixed_graph.specs.Vocabulary.{has, IsMixedGraph, MixedGraph, IsOrder, Within, all, is_apart, minus}
use Rattle.prob_expr.specs.View.{view}
use Rattle.std.specs.Prelude.{map}
use Rattle.surrogates.proofs.Induced.{link_in}
use Rattle.surrogates.proofs.Rooms.{c_room}
use Rattle.surrogates.specs.Surrogates.{without}
use Rattle.surrogates.specs.Tries.{IsTried, IsTryFault}

module _ (g : MixedGraph) (ok : IsMixedGraph g) (z c : ℕ) (off : is_apart z c ≡ true) (low : Within g.vertices (has c)) (h : MixedGraph)
    (same : h ≡ without g z) where
  pub joined_in : IsJoinedSet g c → IsJoinedSet h c
  joined_in j = subst (λ (h : MixedGraph). IsJoinedSet h c) (sym same)
      (λ u v iu iv. link_in g (minus (all g.vertices) z) (has c) (λ w. w == v) (c_room g ok z c off low)
      (λ w e. subst (λ w. has (minus (all g.vertices) z) w ≡ true) (sym (eqb-true w v e)) (c_room g ok z c off low v iv)) u (j u v iu iv))

  pub low_in : Within h.vertices (has c)
  low_in = subst (λ (h : MixedGraph). Within h.vertices (has c)) (sym same) low

  module _ (order : List ℕ) (is_order : IsOrder h order (length order)) where
    tried : (k : ℕ) (f : Factor) → IsMadeFactor Derivation h order z c k f → length f.defs.items ≤ 64 → length f.lemmas.items ≡ length f.defs.items
        → IsTried g z c k f
    tried k f is few paired = record {
      derived = record {
        made = record {
          a = is.a;
          ancestors = subst (λ (h : MixedGraph). AreAncestorsIn h (all h.vertices) c is.a) same is.ancestors;
          order = order;
          is_order = subst (λ h. IsOrder h order (length order)) same is_order;
          factor = subst (λ h. IsFactor h order c is.a (Source.Under z) k (map view f.defs.items) (view f.value)) same is.factor;
        };
        steps = subst (λ h. AreFactorSteps h order c is.a (Source.Under z) k (map lemma_view f.lemmas.items) (steps_view f.steps.items)) same (is.steps refl);
      };
      few = few;
      paired = paired;
    }

    pub tried_ok : (k : ℕ) (r : Result Factor FactorFault) → IfOk r (IsMadeFactor Derivation h order z c k) → IfOk r (λ f. length f.defs.items ≤ 64)
        → IfOk r (λ f. length f.lemmas.items ≡ length f.defs.items) → IfOk r (IsTried g z c k)
    tried_ok k (Ok f) is few paired = tried k f is few paired
    tried_ok k (Err e) is few paired = tt

  pub tried_err : (r : Result Factor FactorFault) → IfErr r (IsFactorFault h c) → IfErr r (IsTryFault g z c)
  tried_err (Ok f) is = tt
  tried_err (Err (Stopped big)) is = record {
    a = is.a;
    ancestors = subst (λ (h : MixedGraph). AreAncestorsIn h (all h.vertices) c is.a) same is.ancestors;
    stop = subst (λ h. IsStopped h c is.a big.bits) same is.stop;
  }
  tried_err (Err NoMemory) is = tt
