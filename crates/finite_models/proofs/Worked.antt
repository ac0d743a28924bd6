-- A worked model, computed from the definitions: it fits its graph and is positive.
use Rattle.std.proofs.Common.{ℕ, zero, suc, ◌≡◌, ◌<◌, ◌≤◌, Bool, true, false, ◌&&◌, cond, eqb, refl, sym, ◌∙◌, ap₂, IsTrue, arith, eqb-true}
use Rattle.mixed_graph.specs.Vocabulary.{MixedGraph}
use Rattle.finite_models.specs.Models.{FiniteModel, Fits, IsAssignment, IsPositiveModel, event_weight, weight_of, total}
use Rattle.finite_models.proofs.SumLaws.{eqb-refl}

-- X -> Y; cause 0 on X and cause 1 on Y, each with the weights 3 and 1; X has the value of cause 0, Y tells whether X and cause 1 differ
two : FiniteModel
two = record {
  vertices = 2;
  size = λ v. 2;
  causes = 2;
  values = λ j. 2;
  weight = λ j i. cond (eqb i 0) 3 1;
  serves = λ j v. eqb j v;
  mechanism = λ v s u. cond (eqb v 0) (u 0) (cond (eqb (s 0) (u 1)) 0 1);
}

-- X and Y are 0 with weight 9 of 16
observed : weight_of two (λ v. false) (λ v. true) (λ v. 0) ≡ 9
unfolding two
observed = refl

-- under do(X) at 0 they are so with weight 12
intervened : weight_of two (λ v. eqb v 0) (λ v. true) (λ v. 0) ≡ 12
unfolding two
intervened = refl

all : total two ≡ 16
unfolding two
all = refl

-- its graph
edge : MixedGraph
edge = record { vertices = 2; arrow = λ u v. eqb u 0 && eqb v 1; both = λ u v. false }

below_two : (P : ℕ → Type 0) → P 0 → P 1 → (n : ℕ) → n < 2 → P n
below_two P z o zero h = z
below_two P z o (suc zero) h = o
below_two P z o (suc (suc n)) h = absurd (omega arith)

-- the conditions can be met
fits : Fits edge two
unfolding two edge
fits = record {
  vertices = refl;
  positive_size = λ v lt. omega arith;
  positive_weight = λ j lt. omega arith;
  some_child = λ j lt. (j, eqb-refl j);
  child_below = λ j v lt e. let same : j ≡ v = eqb-true j v e in omega arith;
  joined = λ j u v lt e f ne. absurd (ne (sym (eqb-true j u e) ∙ eqb-true j v f));
  reads = below_two
      (λ v. (s t u w : ℕ → ℕ) → ((p : ℕ) → IsTrue (eqb p 0 && eqb v 1) → s p ≡ t p) → ((j : ℕ) → j < 2 → IsTrue (eqb j v) → u j ≡ w j) →
      cond (eqb v 0) (u 0) (cond (eqb (s 0) (u 1)) 0 1) ≡ cond (eqb v 0) (w 0) (cond (eqb (t 0) (w 1)) 0 1))
      (λ s t u w hp hc. hc 0 (omega arith) refl)
      (λ s t u w hp hc. ap₂ (λ a b. cond (eqb a b) 0 1) (hp 0 refl) (hc 1 (omega arith) refl));
  below = below_two
      (λ v. (s u : ℕ → ℕ) → IsAssignment 2 (λ v. 2) s → IsAssignment 2 (λ j. 2) u → cond (eqb v 0) (u 0) (cond (eqb (s 0) (u 1)) 0 1) < 2)
      (λ s u hs hu. hu 0 (omega arith))
      (λ s u hs hu. bit (eqb (s 0) (u 1)));
}
  where
    bit : (b : Bool) → cond b 0 1 < 2
    bit true = omega arith
    bit false = omega arith

-- each of the four assignments has a positive weight
positive : IsPositiveModel two
unfolding two
positive s within = below_two (λ a. (b : ℕ) → b < 2 → s 0 ≡ a → s 1 ≡ b → 1 ≤ event_weight two (λ v. true) s)
    (below_two (λ b. s 0 ≡ 0 → s 1 ≡ b → 1 ≤ event_weight two (λ v. true) s) (λ e f. rw (e, f) (omega arith)) (λ e f. rw (e, f) (omega arith)))
    (below_two (λ b. s 0 ≡ 1 → s 1 ≡ b → 1 ≤ event_weight two (λ v. true) s) (λ e f. rw (e, f) (omega arith)) (λ e f. rw (e, f) (omega arith)))
    (s 0) (within 0 (omega arith)) (s 1) (within 1 (omega arith)) refl refl
