-- The bow graph X -> Y, X <-> Y: its hedge meets the conditions, and the weights of its two models are computed from the definitions.
use Rattle.std.proofs.Common.{ℕ, zero, suc, ◌≡◌, ◌<◌, ◌≤◌, Bool, true, false, cond, eqb, not, refl, sym, ◌&&◌, ◌||◌, List, [], ◌∷◌, map, arith, eqb-true}
use Rattle.mixed_graph.specs.Vocabulary.{MixedGraph}
use Rattle.finite_models.specs.Vocabulary.{FiniteModel, weight_of, total}
use Rattle.counter_models.specs.Hedges.{ParityHedge, IsParityHedge, IsTree, IsNumbered, IsWholeHedge, links_of, privates}
use Rattle.counter_models.specs.ParityPairs.{first_model, second_model, event_even}

-- the bow graph X -> Y, X <-> Y
abbrev bow : ParityHedge
bow = record {
  big = λ v. eqb v 0 || eqb v 1;
  small = λ v. eqb v 1;
  roots = λ v. eqb v 1;
  kept = λ v. eqb v 1;
  target = λ v. eqb v 1;
  choice = λ v. 1;
  carry = λ v. 0;
  inner = [];
  outer = record { entry = 0; partner = 1 } ∷ [];
  small_cause = λ v. 1;
  kept_cause = λ v. 2;
  causes = 3;
}

abbrev first : FiniteModel
first = first_model 2 bow

abbrev second : FiniteModel
second = second_model 2 bow

abbrev at : ℕ → ℕ → ℕ
at y v = cond (eqb v 0) 0 y

abbrev x : ℕ → Bool
x v = eqb v 0

abbrev y : ℕ → Bool
y v = eqb v 1

-- the weight of each value of Y under the intervention that sets X to 0
abbrev weights : FiniteModel → List ℕ
weights m = map (λ i. weight_of m x y (at i)) (0 ∷ 1 ∷ 2 ∷ 3 ∷ [])

first_weights : weights first ≡ 12 ∷ 4 ∷ 4 ∷ 12 ∷ []
first_weights = refl

second_weights : weights second ≡ 18 ∷ 2 ∷ 6 ∷ 6 ∷ []
second_weights = refl

both_9 : weight_of first (λ v. false) (λ v. true) (at 0) ≡ 9
both_9 = refl

both_9' : weight_of second (λ v. false) (λ v. true) (at 0) ≡ 9
both_9' = refl

abbrev g : MixedGraph
g = record { vertices = 2; arrow = λ u v. eqb u 0 && eqb v 1; both = λ u v. (eqb u 0 && eqb v 1) || (eqb u 1 && eqb v 0) }

is_one : (v : ℕ) (P : ℕ → Type 0) → eqb v 1 ≡ true → P 1 → P v
is_one v P e p = rw (eqb-true v 1 e) p

big_cases : (v : ℕ) (P : ℕ → Type 0) → (eqb v 0 || eqb v 1) ≡ true → P 0 → P 1 → P v
big_cases zero P e a b = a
big_cases (suc zero) P e a b = b
big_cases (suc (suc v)) P e a b = absurd (grind (arith, e))

hedge : IsParityHedge g (λ v. eqb v 0) bow
hedge = record {
  big_low = λ v e. big_cases v (λ v. v < 2) e (omega arith) (omega arith);
  small_big = λ v e. is_one v (λ v. (eqb v 0 || eqb v 1) ≡ true) e refl;
  roots_small = λ v e. e;
  small_outside = λ v e. is_one v (λ v. eqb v 0 ≡ false) e refl;
  kept_low = λ v e. is_one v (λ v. v < 2) e (omega arith);
  kept_outside = λ v e. is_one v (λ v. eqb v 0 ≡ false) e refl;
  roots_kept = λ v e. e;
  choice_arrow = λ v e r. big_cases v (λ v. eqb v 1 ≡ false → g.arrow v 1 ≡ true) e (λ o. refl) (λ o. absurd (grind (arith, o))) r;
  choice_big = λ v e r. refl;
  choice_small = λ v e r. refl;
  carry_arrow = λ v e r. absurd (grind (arith, e, r));
  carry_kept = λ v e r. absurd (grind (arith, e, r));
  inner_inside = tt;
  inner_low = tt;
  outer_low = (omega arith, omega arith, tt);
  outer_rooted = (refl, tt);
  own_low = λ v e. omega arith;
  top_low = λ v e. omega arith;
  own_high = λ v e. omega arith;
  top_high = λ v e. omega arith;
  links_low = omega arith;
  cut = 0;
  cut_x = refl;
  cut_listed = refl;
}

tree : IsTree 2 bow
tree = record { first = 1; first_low = omega arith; apart = tt; ordered = tt; all = λ v e ne. absurd (ne (eqb-true v 1 e)); outer = (refl, refl, tt) }

numbered : IsNumbered bow
numbered = record {
  holder = λ j. 1;
  is_own = λ j. eqb j 1;
  own_holder = λ v e. sym (eqb-true v 1 e);
  top_holder = λ v e. sym (eqb-true v 1 e);
  own_is = λ v e. refl;
  top_is = λ v e. refl;
  apart = ((λ e. absurd (grind (arith, e))), tt);
  ordered = (tt, tt);
  listed = λ v e. outsider v e;
}
  where
    outsider : (v : ℕ) → ((eqb v 0 || eqb v 1) && not (eqb v 1)) ≡ true → (eqb v 0 || false) ≡ true
    outsider zero e = refl
    outsider (suc zero) e = absurd (grind (arith, e))
    outsider (suc (suc v)) e = absurd (grind (arith, e))

once : (j : ℕ) → links_of bow ≤ j → j < 3 → privates 2 bow j ≡ true
once zero le lt = absurd (omega arith)
once (suc zero) le lt = refl
once (suc (suc zero)) le lt = refl
once (suc (suc (suc j))) le lt = absurd (omega arith)

whole : IsWholeHedge g (λ v. eqb v 0) bow
whole = record {
  hedge = hedge;
  tree = tree;
  numbered = numbered;
  once = once;
  inner_joined = tt;
  outer_joined = (refl, tt);
  target_outside = λ v e. is_one v (λ v. eqb v 0 ≡ false) e refl;
}

total_first : total first ≡ 32
total_first = refl

even_first : event_even first bow x (λ v. 0) ≡ 16
even_first = refl

even_second : event_even second bow x (λ v. 0) ≡ 20
even_second = refl
