-- An effect among the treated has one formula, and that one list of factors.
use Rattle.std.proofs.Common.{ℕ, ◌≡◌, ◌≢◌, ◌⊎◌, true, refl, sym, ap₂, ◌∙◌, subst, List, [], ◌∷◌}
use Rattle.mixed_graph.specs.Vocabulary.{has, MixedGraph, IsAncestor, minus, one, common, union}
use Rattle.mixed_graph.proofs.Masks.{same_from_has}
use Rattle.finite_models.proofs.Bools.{not_both}
use Rattle.hedge.specs.Vocabulary.{IsLinked, IsSetOf}
use Rattle.prob_expr.specs.Tree.{Tree, prob, sum, product, quotient, named, tree}
use Rattle.prob_expr.specs.Vocabulary.{Trees, no_trees, PlainFormula}
use Rattle.do_derivation.specs.Vocabulary.{as_one}
use Rattle.identification_theory.specs.Vocabulary.{sum_if}
use Rattle.identification_theory.proofs.Orders.{one_order}
use Rattle.identification_theory.proofs.Unique.{one_set}
use Rattle.treated_id.specs.Terms.{name_of, AreNames, IsParentOf, IsTerm, AreTerms, with_first, IsFormula, IsFormulaBy}
use Rattle.treated_id.specs.Terms.AreTerms.{skip, take}
use Rattle.factor_values.specs.Vocabulary.{PlainFactor, PlainFactors}
use Rattle.named_factors.specs.Named.{IsFactorOfTerm, IsFactorOf, AreFactorsOf, AreNamedFactors, factors_in, body_in}

-- ---- terms

-- names are one set
pub one_names : (n x seen set a b : ℕ) → AreNames n x seen set a → AreNames n x seen set b → a ≡ b
one_names n x seen set a b h k = one_set a b (λ (k : ℕ). (u : ℕ) × (has set u ≡ true) × (k ≡ name_of n x seen u)) h k

-- what a term is given is one set
one_given : (g : MixedGraph) (x a v c d : ℕ) → IsTerm g x a v c → IsTerm g x a v d → c ≡ d
one_given g x a v c d t u = one_names g.vertices x t.near t.pillow c d t.names
    (subst (λ p. AreNames g.vertices x t.near p d) (sym pillows) (subst (λ k. AreNames g.vertices x k u.pillow d) (sym nears) u.names))
  where
    nears : t.near ≡ u.near
    nears = one_set t.near u.near (IsLinked g (has a) (has (one v))) t.district u.district

    pillows : t.pillow ≡ u.pillow
    pillows = one_set t.pillow u.pillow (λ w. (w ≢ v) × ((has t.near w ≡ true) ⊎ IsParentOf g t.near w)) t.is_pillow
        (subst (λ k. IsSetOf u.pillow (λ w. (w ≢ v) × ((has k w ≡ true) ⊎ IsParentOf g k w))) (sym nears) u.is_pillow)

one_terms : (g : MixedGraph) (x s c p : ℕ) (o : List ℕ) (ts us : Trees) → AreTerms g x s c p o ts → AreTerms g x s c p o us → ts ≡ us
one_terms g x s c p [] no_trees no_trees h k = refl
one_terms g x s c p [] (tree t ts) us h k = elim h [ ]
one_terms g x s c p [] no_trees (tree u us) h k = elim k [ ]
one_terms g x s c p (v ∷ o) ts us (skip e r) (skip f q) = one_terms g x s c (union p (one v)) o ts us r q
one_terms g x s c p (v ∷ o) ts (tree u us) (skip e r) (take i t q) = absurd (not_both (has (minus s c) v) i e)
one_terms g x s c p (v ∷ o) (tree t ts) us (take i k r) (skip e q) = absurd (not_both (has (minus s c) v) i e)
one_terms g x s c p (v ∷ o) (tree t ts) (tree u us) (take {given = a} i k r) (take {given = b} j l q) =
    ap₂ (λ d rest. tree (prob (one v) 0 d) rest) (one_given g x (union c (common s (union p (one v)))) v a b k l)
    (one_terms g x s c (union p (one v)) o ts us r q)

-- ---- the formula
by_order : (g : MixedGraph) (o : List ℕ) (x y z : ℕ) (f h : PlainFormula) → IsFormulaBy g o x y z f → IsFormulaBy g o x y z h → f ≡ h
by_order g o x y z f h a b = λ i. record {
  defs = (a.defs ∙ sym b.defs) i;
  main = (a.main ∙ (λ j. sum_if (minus (ss j) (union (union x z) y)) (as_one (with_first (minus (cs j) (union x z)) (givens j) (terms j)))) ∙ sym b.main) i;
}
  where
    ss : a.s ≡ b.s
    ss = one_set a.s b.s (IsAncestor g (has (union (union x z) y))) a.are_s b.are_s

    cs : a.c ≡ b.c
    cs = one_set a.c b.c (IsAncestor g (has (union x z))) a.are_c b.are_c

    givens : a.given ≡ b.given
    givens = one_names g.vertices x x (union x z) a.given b.given a.are_given b.are_given

    terms : a.terms ≡ b.terms
    terms = one_terms g x a.s a.c 0 o a.terms b.terms a.are_terms
        (subst (λ k. AreTerms g x a.s k 0 o b.terms) (sym cs) (subst (λ k. AreTerms g x k b.c 0 o b.terms) (sym ss) b.are_terms))

pub one_formula : (g : MixedGraph) (x y z : ℕ) (f h : PlainFormula) → IsFormula g x y z f → IsFormula g x y z h → f ≡ h
one_formula g x y z f h a b = by_order g a.order x y z f h a.by
    (subst (λ o. IsFormulaBy g o x y z h) (one_order g b.order a.order b.is_order a.is_order) b.by)

-- ---- its factors
one_factor : (n x a c : ℕ) (f h : PlainFactor) → IsFactorOfTerm n x a c f → IsFactorOfTerm n x a c h → f ≡ h
one_factor n x a c f h t u = λ i. record {
  second = same_from_has f.second h.second (λ v. t.second v ∙ sym (u.second v)) i;
  formula = (t.formula ∙ (λ j. record { defs = []; main = prob (ofs j) 0 (givens j) }) ∙ sym u.formula) i;
}
  where
    ofs : t.of ≡ u.of
    ofs = same_from_has t.of u.of (λ v. t.are_of v ∙ sym (u.are_of v))

    givens : t.given ≡ u.given
    givens = same_from_has t.given u.given (λ v. t.are_given v ∙ sym (u.are_given v))

one_of_tree : (n x : ℕ) (t : Tree) (f h : PlainFactor) → IsFactorOf n x t f → IsFactorOf n x t h → f ≡ h
one_of_tree n x (prob a b c) f h t u = one_factor n x a c f h t u
one_of_tree n x (sum s e) f h t u = absurd t
one_of_tree n x (product ts) f h t u = absurd t
one_of_tree n x (quotient p q) f h t u = absurd t
one_of_tree n x (named k) f h t u = absurd t

one_factors : (n x : ℕ) (ts : Trees) (fs hs : List PlainFactor) → AreFactorsOf n x ts fs → AreFactorsOf n x ts hs → fs ≡ hs
one_factors n x no_trees [] [] a b = refl
one_factors n x no_trees (f ∷ fs) hs a b = absurd a
one_factors n x no_trees [] (h ∷ hs) a b = absurd b
one_factors n x (tree t ts) [] hs a b = absurd a
one_factors n x (tree t ts) (f ∷ fs) [] a b = absurd b
one_factors n x (tree t ts) (f ∷ fs) (h ∷ hs) a b = ap₂ (λ (k : PlainFactor) ks. k ∷ ks) (one_of_tree n x t f h a.0 b.0) (one_factors n x ts fs hs a.1 b.1)

pub one_list : (n x : ℕ) (main : Tree) (e k : PlainFactors) → AreNamedFactors n x main e → AreNamedFactors n x main k → e ≡ k
one_list n x main e k a b = λ i. record {
  summed = (a.summed ∙ sym b.summed) i;
  factors = one_factors n x (factors_in (body_in main)) e.factors k.factors a.factors b.factors i;
  given = (a.given ∙ sym b.given) i;
}
