-- A step makes an expression of terms of one, whatever the model: the law on values at the model in which each vertex has one value.
use Rattle.std.proofs.Common.{ℕ, zero, suc, ◌≡◌, ◌≤◌, ◌<◌, true, false, cond, refl, sym, ◌∙◌, subst, get_or, length, arith}
use Rattle.mixed_graph.specs.Vocabulary.{MixedGraph, minus, all}
use Rattle.fractions.specs.Vocabulary.{Fraction, IsEqual, IsPositive}
use Rattle.fractions.proofs.FractionLaws.{equal_refl}
use Rattle.finite_models.specs.Vocabulary.{FiniteModel, Fits, IsAssignment, IsPositiveModel, rounds, solution}
use Rattle.finite_models.proofs.Solutions.{agree_from}
use Rattle.prob_expr.specs.Vocabulary.{weights_of, term_value}
use Rattle.do_derivation.specs.Sound.{StepKeepsTerms}
use Rattle.prob_expr.proofs.ValueLaws.{term_positive}
use Rattle.do_derivation.proofs.TreeTerms.{terms_of, terms_test}
use Rattle.do_derivation.proofs.Keeps

-- one value for each vertex, and no causes
abbrev single : ℕ → FiniteModel
single n = record { vertices = n; size = λ v. 1; causes = 0; values = λ j. 1; weight = λ j i. 1; serves = λ j v. false; mechanism = λ v s u. 0 }

single_fits : (g : MixedGraph) → Fits g (single g.vertices)
single_fits g = record {
  vertices = refl;
  positive_size = λ v lt. omega arith;
  positive_weight = λ j lt. absurd (omega arith);
  some_child = λ j lt. absurd (omega arith);
  child_below = λ j v lt e. absurd (omega arith);
  joined = λ j u v lt e f ne. absurd (omega arith);
  reads = λ v lt s t u w a b. refl;
  below = λ v lt s u a b. omega arith;
}

all_zero : (n k : ℕ) (u : ℕ → ℕ) (v : ℕ) → rounds (single n) k u v ≡ 0
all_zero n zero u v = refl
all_zero n (suc k) u v = refl

single_positive : (n : ℕ) → IsPositiveModel (single n)
single_positive n s w =
    subst (λ b. 1 ≤ cond b 1 0) (sym (agree_from n (λ v. true) (solution (single n) (λ j. 0)) s
    (λ v lt e. all_zero n n (λ j. 0) v ∙ (let l = w v lt in omega (arith, l))))) (omega arith)

-- all terms of what a step makes are terms, where those of what it is made of are
pub step_keeps_terms : StepKeepsTerms
step_keeps_terms = λ g ok lemmas p e e' terms made.
    let m = single g.vertices in
    let fit = single_fits g in
    let positive = single_positive g.vertices in
    let q : ℕ → (ℕ → ℕ) → Fraction = λ j s. term_value (weights_of m) (get_or lemmas j 0) (minus (all g.vertices) (get_or lemmas j 0)) 0 s in
    let defined : (j : ℕ) (s : ℕ → ℕ) → IsAssignment m.vertices m.size s → IsPositive (q j s) =
    λ j s w. term_positive g ok m fit positive (get_or lemmas j 0) (minus (all g.vertices) (get_or lemmas j 0)) 0 s w in
    let cited : (j : ℕ) (s : ℕ → ℕ) → j < length lemmas → IsAssignment m.vertices m.size s → IsEqual (q j s) (q j s) =
    λ j s lt w. equal_refl (q j s) (defined j s w).bottom in
    terms_test g.vertices e' (Keeps.kept_terms g ok m fit positive q defined lemmas cited e e'
    (Keeps.step_kept g ok m fit positive q defined lemmas cited p e e' (terms_of g.vertices e terms) made))
