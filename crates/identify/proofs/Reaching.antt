-- The rounds of a factor, one after the other.
use Rattle.std.proofs.Common.{◌≡◌, ◌≢◌, ℕ, ◌+◌, ◌^◌, ◌<◌, List, [], ◌∷◌, ◌++◌, map, sym, ap, ◌∙◌, subst, append_assoc, add-one}
use Rattle.std.proofs.lemmas.List.{map-append, append-nil}
use Rattle.mixed_graph.specs.declared.sets.VSet.{VSet}
use Rattle.mixed_graph.specs.Vocabulary.{MixedGraph, IsMixedGraph, minus}
use Rattle.hedge.specs.Vocabulary.{IsDistrict, IsInside}
use Rattle.prob_expr.specs.Tree.{Tree, sum}
use Rattle.prob_expr.specs.View.{view}
use Rattle.prob_expr.specs.declared.expr.Expr.{Expr}
use Rattle.do_derivation.specs.Plans.{Plan, Plans}
use Rattle.do_derivation.specs.declared.steps.Lemma.{Lemma}
use Rattle.do_derivation.specs.Vocabulary.{PlainLemma, steps_view, lemma_view}
use Rattle.identification_theory.specs.Vocabulary.{AreAncestorsIn, Source, IsFactor, IsStopped, cut_steps, AreFactorSteps}
use Rattle.identify.specs.declared.factors.body.Body.{Body}
use Rattle.identify.specs.declared.wanted.Wanted.{Wanted}
use Rattle.identify.specs.declared.wanted.Wanted.TheVariants.{Derivation}
use Rattle.identify.specs.Bodies.{IsBodyOf}
use Rattle.identify.proofs.Shrinking.{size, fewer, district_inside, district_holds, ancestors_inside}
use Rattle.identify.specs.Rounds.{IsSummed, IsDone, IsFurther}

module _ (wanted : Wanted) (g : MixedGraph) (order : List ℕ) (c a : ℕ) (from : Source) where
  pub done_whole : (t : ℕ) (found : Body) → IsDistrict g a c t → t ≡ c → IsBodyOf wanted g order from a t found → IsDone wanted g order c a from found
  done_whole t found d e b = subst (λ u. IsDistrict g a c u → IsBodyOf wanted g order from a u found → IsDone wanted g order c a from found) (sym e)
      (λ d b. record { factor = λ k. IsFactor.whole d b.value; steps = λ w k. AreFactorSteps.whole d (b.steps w) }) d b

  pub done_summed : (t a2 : ℕ) (whole found : Body) → IsDistrict g a c t → t ≢ c → AreAncestorsIn g t c a2 → a2 ≡ c → IsBodyOf wanted g order from a t whole
      → IsSummed wanted (minus t a2) whole found → IsDone wanted g order c a from found
  done_summed t a2 whole found d larger leads e b s =
      let leads_c : AreAncestorsIn g t c c = subst (λ u. AreAncestorsIn g t c u) e leads in
      record {
        factor = λ k. subst (λ x. IsFactor g order c a from k [] x) (sym (s.value ∙ ap (λ u. sum (minus t u) (view whole.value)) e))
            (IsFactor.summed d larger leads_c b.value);
        steps = λ w k. subst (λ x. AreFactorSteps g order c a from k [] x) (sym (s.steps w ∙ ap (λ u. cut_steps (minus t u) (steps_view whole.steps.items)) e))
            (AreFactorSteps.summed d larger leads_c (b.steps w));
      }

-- the next set has fewer members
pub shrinks : (wanted : Wanted) (g : MixedGraph) (valid : IsMixedGraph g) (order : List ℕ) (c a : ℕ) (from : Source) (a2 : ℕ) (found : Body)
    → IsFurther wanted g order c a from a2 found → IsInside c a → a < 2 ^ 64 → size a2 < size a
shrinks wanted g valid order c a from a2 found k inside fits =
    fewer a2 k.t a fits (ancestors_inside g c k.t a2 k.leads (district_holds g valid c a inside k.t k.district))
    (district_inside g valid c a inside k.t k.district) k.smaller

-- whatever completes the factor from the set a and its source on completes the definitions made so far to the whole factor, and so for the steps and for a stop
pub record Reaching (wanted : Wanted) (g : MixedGraph) (order : List ℕ) (origin : Source) (c start first a : ℕ) (from : Source) (next : ℕ) (defs : List Expr)
    (lemmas : List Lemma) : Type 0 where
  pub factored : (ds : List Tree) (e : Tree) → IsFactor g order c a from next ds e → IsFactor g order c start origin first (map view defs ++ ds) e
  pub stepped : wanted ≡ Derivation → (ls : List PlainLemma) (l : Plans) → AreFactorSteps g order c a from next ls l
      → AreFactorSteps g order c start origin first (map lemma_view lemmas ++ ls) l
  pub stopped : (big : ℕ) → IsStopped g c a big → IsStopped g c start big

module _ (wanted : Wanted) (g : MixedGraph) (order : List ℕ) (origin : Source) (c start first : ℕ) where
  pub reaching_none : (defs : List Expr) (lemmas : List Lemma) → defs ≡ [] → lemmas ≡ []
      → Reaching wanted g order origin c start first start origin first defs lemmas
  reaching_none defs lemmas no_defs no_lemmas = record {
    factored = λ ds e r. subst (λ x. IsFactor g order c start origin first (map view x ++ ds) e) (sym no_defs) r;
    stepped = λ w ls l r. subst (λ x. AreFactorSteps g order c start origin first (map lemma_view x ++ ls) l) (sym no_lemmas) r;
    stopped = λ big r. r;
  }

  pub reaching_further : (a : ℕ) (from : Source) (a2 : VSet) (next : ℕ) (defs defs' : List Expr) (lemmas lemmas' : List Lemma) (found : Body) (lemma : Lemma)
      → IsFurther wanted g order c a from a2.bits found →
      defs' ≡ defs ++ found.value ∷ [] → lemmas' ≡ lemmas ++ lemma ∷ [] → lemma_view lemma
      ≡ record { set = a2.bits; plan = Plan.Then (steps_view found.steps.items) } →
      Reaching wanted g order origin c start first a from next defs lemmas
      → Reaching wanted g order origin c start first a2.bits (Source.Defined next) (next + 1) defs' lemmas'
  reaching_further a from a2 next defs defs' lemmas lemmas' found lemma k more_defs more_lemmas is so_far = record {
    factored = λ ds e r. subst (λ x. IsFactor g order c start origin first x e) (defs_are ds)
        (so_far.factored (sum (minus k.t a2.bits) (view k.whole.value) ∷ ds) e
        (IsFactor.further k.district k.larger k.leads k.smaller k.more k.is_whole.value
        (subst (λ n. IsFactor g order c a2.bits (Source.Defined next) n ds e) (add-one next) r)));
    stepped = λ w ls l r. subst (λ x. AreFactorSteps g order c start origin first x l) (lemmas_are w ls)
        (so_far.stepped w (record { set = a2.bits; plan = Plan.Then (cut_steps (minus k.t a2.bits) (steps_view k.whole.steps.items)) } ∷ ls) l
        (AreFactorSteps.further k.district k.larger k.leads k.smaller k.more (k.is_whole.steps w)
        (subst (λ n. AreFactorSteps g order c a2.bits (Source.Defined next) n ls l) (add-one next) r)));
    stopped = λ big r. so_far.stopped big (IsStopped.later k.district k.larger k.leads k.smaller k.more r);
  }
    where
      defs_are : (ds : List Tree) → map view defs ++ (sum (minus k.t a2.bits) (view k.whole.value) ∷ ds) ≡ map view defs' ++ ds
      defs_are ds = ap (λ x. map view defs ++ (x ∷ ds)) (sym k.is_summed.value) ∙ sym (append_assoc (map view defs) (view found.value ∷ []) ds)
          ∙ sym (ap (λ x. x ++ ds) (ap (map view) more_defs ∙ map-append view defs (found.value ∷ [])))

      lemmas_are : wanted ≡ Derivation → (ls : List PlainLemma) → map lemma_view lemmas ++ (record {
        set = a2.bits;
        plan = Plan.Then (cut_steps (minus k.t a2.bits) (steps_view k.whole.steps.items));
      } ∷ ls) ≡ map lemma_view lemmas' ++ ls
      lemmas_are w ls = ap (λ (x : PlainLemma). map lemma_view lemmas ++ (x ∷ ls))
          (ap (λ p. record { set = a2.bits; plan = Plan.Then p }) (sym (k.is_summed.steps w)) ∙ sym is)
          ∙ sym (append_assoc (map lemma_view lemmas) (lemma_view lemma ∷ []) ls)
          ∙ sym (ap (λ x. x ++ ls) (ap (map lemma_view) more_lemmas ∙ map-append lemma_view lemmas (lemma ∷ [])))

  -- the end: what is left is nothing
  pub reached : (a : ℕ) (from : Source) (next : ℕ) (defs : List Expr) (lemmas : List Lemma) (found : Body) → IsDone wanted g order c a from found
      → Reaching wanted g order origin c start first a from next defs lemmas →
      IsFactor g order c start origin first (map view defs) (view found.value)
      × (wanted ≡ Derivation → AreFactorSteps g order c start origin first (map lemma_view lemmas) (steps_view found.steps.items))
  reached a from next defs lemmas found d so_far = (
    subst (λ x. IsFactor g order c start origin first x (view found.value)) (append-nil (map view defs))
        (so_far.factored [] (view found.value) (d.factor next)),
    λ w. subst (λ x. AreFactorSteps g order c start origin first x (steps_view found.steps.items)) (append-nil (map lemma_view lemmas))
        (so_far.stepped w [] (steps_view found.steps.items) (d.steps w next)),
  )
