-- An accepted derivation's formula has the value of the effect.
use Rattle.std.proofs.Common.{ℕ, suc, ◌≡◌, ◌<◌, Bool, true, false, cond, eqb, ltb, not, refl, sym, ap, ◌∙◌, ◌&&◌, subst, List, [], ◌∷◌, ◌++◌, length}
use Rattle.std.proofs.Common.{get_or, length-append, append_assoc, append-nil, arith, eqb-true, ltb-true}
use lib.ListN.{get_or-append}
use lib.Seq.{get_or-append_seam}
use Rattle.mixed_graph.specs.Vocabulary.{has, MixedGraph, IsMixedGraph, minus, all, is_empty, is_below}
use Rattle.fractions.specs.Vocabulary.{Fraction, over, IsEqual}
use Rattle.fractions.proofs.FractionLaws.{equal_sym}
use Rattle.finite_models.specs.Vocabulary.{FiniteModel, Fits, IsAssignment, IsPositiveModel}
use Rattle.finite_models.proofs.Bools.{and_first, and_second}
use Rattle.prob_expr.specs.Vocabulary.{is_term, PlainFormula, PlainTarget, weights_of, term_value, value, values_from, value_of, effect}
use Rattle.prob_expr.specs.Tree.{Tree, prob}
use Rattle.mixed_graph.proofs.MaskLaws.{has_none, has_all_above, below_has, filled_from}
use Rattle.do_derivation.specs.Accepts.{Accepts, Define, start_of, sets_of, are_sets}
use Rattle.do_derivation.specs.Plans.{PlainLemma, PlainDerivation}
use Rattle.do_derivation.specs.Sound.{AcceptedIsEffect, StepKeepsValue}
use Rattle.do_derivation.proofs.TermSets.{IsTerm, minus_left, minus_taken, term_from, term_filled}
use Rattle.do_derivation.proofs.TreeTerms.{terms_of}
use Rattle.prob_expr.proofs.ValueLaws.{ArePositive, next_positive}
use Rattle.do_derivation.proofs.Keeps

-- a lemma's term
pub start_term : (n l : ℕ) → is_below n l ≡ true → IsTerm n l (minus (all n) l) 0
start_term n l e = record {
  of_below = λ v. below_has n l v e;
  doing_below = λ v h. below v (minus_left (all n) l v h);
  given_below = λ v h. absurd (grind (arith, h, has_none v));
  of_doing = λ v h. minus_taken (all n) l v h;
  of_given = λ v h. has_none v;
  doing_given = λ v h. has_none v;
}
  where
    below : (v : ℕ) → has (all n) v ≡ true → v < n
    below v h = go (ltb v n) refl
      where
        go : (b : Bool) → ltb v n ≡ b → v < n
        go true k = ltb-true v n k
        go false k = absurd (grind (arith, h, has_all_above n v (let d : v < n → ⊥ = λ lt. absurd (grind (arith, k, lt)) in omega arith)))

module _ (g : MixedGraph) (ok : IsMixedGraph g) (m : FiniteModel) (fit : Fits g m) (positive : IsPositiveModel m) where
  -- each has the value of its lemma's term
  abbrev pub AreCited : List ℕ → (ℕ → (ℕ → ℕ) → Fraction) → Type 0
  AreCited ls q = (k : ℕ) (s : ℕ → ℕ) → k < length ls → IsAssignment m.vertices m.size s
      → IsEqual (q k s) (term_value (weights_of m) (get_or ls k 0) (minus (all g.vertices) (get_or ls k 0)) 0 s)

  next_cited : (q : ℕ → (ℕ → ℕ) → Fraction) (ls : List ℕ) (l : ℕ) (d : Tree) → ArePositive g ok m fit positive q → AreCited ls q → is_below g.vertices l ≡ true
      → ((s : ℕ → ℕ) → IsAssignment m.vertices m.size s → IsEqual (value (weights_of m) q d s) (term_value (weights_of m) l (minus (all g.vertices) l) 0 s))
      → AreCited (ls ++ (l ∷ [])) (λ j s. cond (eqb j (length ls)) (value (weights_of m) q d s) (q j s))
  next_cited q ls l d p c low h j s lt w = go (eqb j (length ls)) refl
    where
      go : (b : Bool) → eqb j (length ls) ≡ b → IsEqual (cond b (value (weights_of m) q d s) (q j s))
          (term_value (weights_of m) (get_or (ls ++ (l ∷ [])) j 0) (minus (all g.vertices) (get_or (ls ++ (l ∷ [])) j 0)) 0 s)
      go true e = rw (ap (λ i. get_or (ls ++ (l ∷ [])) i 0) (eqb-true j (length ls) e) ∙ get_or-append_seam ls l [] 0) (h s w)
      go false e =
          let below : j < length ls = (let d : j ≡ length ls → ⊥ = λ same. absurd (grind (arith, same, e)) in omega (arith, length-append ls (l ∷ []))) in
          rw (get_or-append ls (l ∷ []) 0 j below) (c j s below w)

  -- the lemmas' definitions have their values
  pub define_cited : (before : List ℕ) (ls : List PlainLemma) (ds : List Tree) (q : ℕ → (ℕ → ℕ) → Fraction) → are_sets g.vertices (sets_of ls) ≡ true
      → Define g before ls ds → ArePositive g ok m fit positive q → AreCited before q
      → ArePositive g ok m fit positive (values_from (weights_of m) q (length before) ds)
      × AreCited (before ++ sets_of ls) (values_from (weights_of m) q (length before) ds)
  define_cited before [] [] q sets h p c = (p, subst (λ x. AreCited x q) (sym (append-nil before)) c)
  define_cited before [] (d ∷ ds) q sets h p c = absurd h
  define_cited before (l ∷ ls) [] q sets h p c = absurd h
  define_cited before (l ∷ ls) (d ∷ ds) q sets h p c =
      let own = and_first (is_below g.vertices l.set && not (is_empty l.set)) (are_sets g.vertices (sets_of ls)) sets in
      let low = and_first (is_below g.vertices l.set) (not (is_empty l.set)) own in
      let kept = Keeps.step_kept g ok m fit positive q p before c l.plan (start_of g.vertices l.set) d
      (start_term g.vertices l.set low, filled_from l.set (and_second (is_below g.vertices l.set) (not (is_empty l.set)) own)) h.0 in
      let long : length (before ++ (l.set ∷ [])) ≡ suc (length before) = length-append before (l.set ∷ []) ∙ omega arith in
      let q' : ℕ → (ℕ → ℕ) → Fraction = λ j s. cond (eqb j (length before)) (value (weights_of m) q d s) (q j s) in
      let rest = define_cited (before ++ (l.set ∷ [])) ls ds q' (and_second (is_below g.vertices l.set && not (is_empty l.set))
      (are_sets g.vertices (sets_of ls)) sets) h.1
      (next_positive g ok m fit positive (length before) q d p) (next_cited q before l.set d p c low
      (λ s w. equal_sym (value (weights_of m) q (start_of g.vertices l.set) s) (value (weights_of m) q d s)
      (Keeps.kept_same g ok m fit positive q p before c (start_of g.vertices l.set) d kept s w))) in (
        subst (λ k. ArePositive g ok m fit positive (values_from (weights_of m) q' k ds)) long rest.0,
        subst (λ k. AreCited (before ++ (l.set ∷ sets_of ls)) (values_from (weights_of m) q' k ds)) long
            (subst (λ x. AreCited x (values_from (weights_of m) q' (length (before ++ (l.set ∷ []))) ds)) (append_assoc before (l.set ∷ []) (sets_of ls))
            rest.1),
      )

  pub accepted_equal : (allowed : List ℕ) (t : PlainTarget) (f : PlainFormula) (d : PlainDerivation) → is_term g.vertices t.y t.x t.given ≡ true
      → Accepts g allowed t f d
      → (s : ℕ → ℕ) → IsAssignment m.vertices m.size s → IsEqual (value_of (weights_of m) f s) (effect m t s)
  accepted_equal allowed t f d whole a s w =
      let defs = define_cited [] d.lemmas f.defs (λ j s. over 1 1) a.sets a.define (λ k s w. record { top = omega arith; bottom = omega arith })
      (λ k s lt w. absurd (omega arith)) in
      let q = values_from (weights_of m) (λ j s. over 1 1) 0 f.defs in
      let kept = Keeps.step_kept g ok m fit positive q defs.0 (sets_of d.lemmas) defs.1 d.main (prob t.y t.x t.given) f.main
      (term_from g.vertices t.y t.x t.given whole, term_filled g.vertices t.y t.x t.given whole) a.main in
      equal_sym (effect m t s) (value_of (weights_of m) f s) (Keeps.kept_same g ok m fit positive q defs.0 (sets_of d.lemmas) defs.1 (prob t.y t.x t.given)
      f.main kept s w)

-- the formula of an accepted derivation is the effect, its terms under the allowed interventions
pub accepted_is_effect : AcceptedIsEffect
accepted_is_effect = λ g ok allowed t f d whole a. (a.listed, λ m fit positive s w. accepted_equal g ok m fit positive allowed t f d whole a s w)

-- a step keeps the value at each assignment, in each positive model that fits the graph
pub step_keeps_value : StepKeepsValue
step_keeps_value = λ g ok lemmas p e e' terms made m fit positive q have s w.
    Keeps.kept_same g ok m fit positive q have.positive lemmas have.cited e e'
    (Keeps.step_kept g ok m fit positive q have.positive lemmas have.cited p e e' (terms_of g.vertices e terms) made) s w
