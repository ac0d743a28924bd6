-- Where a model matches the counts, separation makes the cross difference of the counts zero.
use Rattle.std.proofs.Common.{ℕ, zero, suc, ◌+◌, ◌*◌, ◌≡◌, ◌<◌, ◌≤◌, Bool, true, false, ◌||◌, IsTrue, refl, sym, ap, ◌∙◌, arith}
use Rattle.std.specs.Prelude.{pos, ◌-ℤ◌}
use Rattle.std.proofs.lemmas.Bool.{or_right}
use Rattle.std.proofs.lemmas.Int.{ints}
use Rattle.mixed_graph.specs.Vocabulary.{has, MixedGraph, IsMixedGraph}
use Rattle.finite_models.specs.Vocabulary.{sum_below, product_below, set_at, sum_over, FiniteModel, Fits, IsAssignment, event_weight, total as model_total}
use Rattle.finite_models.proofs.SumLaws.{set_at-same, set_at-other, over-mul-right}
use Rattle.finite_models.proofs.Weights.{weight_of-none}
use Rattle.do_rules.proofs.RuleThree.{scaled}
use Rattle.count_rows.specs.Vocabulary.{Table, counted}
use Rattle.count_table.specs.Vocabulary.{total}
use Rattle.count_eval.specs.Vocabulary.{is_used}
use Rattle.implications.specs.declared.pairs.Implication.{Implication}
use Rattle.implications.specs.Vocabulary.{only, IsImplication}
use Rattle.implications.proofs.Listing.{independent}
use Rattle.implied_differences.specs.Differences.{whole_of, first_of_pair, second_of_pair, left, right, difference}
use Rattle.implied_differences.specs.Laws.{IsMatchedBy, MatchedDifferencesVanish}

-- ---- the sum of the weights of all worlds is positive

least : (k : ℕ) (f h : ℕ → ℕ) → ((x : ℕ) → x < k → h x ≤ f x) → sum_below k h ≤ sum_below k f
least zero f h le = omega arith
least (suc k) f h le = let a = least k f h (λ x lt. le x (omega arith)) in let b = le k (omega arith) in omega (arith, a, b)

times : (a b : ℕ) → 1 ≤ a → b ≤ a * b
times zero b le = absurd (omega arith)
times (suc a) b le = let e : suc a * b ≡ b + a * b = omega arith in omega (arith, e)

worlds_positive : (values : ℕ → ℕ) (w : ℕ → ℕ → ℕ) (n : ℕ) (b : ℕ → ℕ) → ((j : ℕ) → j < n → 1 ≤ sum_below (values j) (w j))
    → 1 ≤ sum_over (λ j. true) values n (λ u. product_below n (λ j. w j (u j))) b
worlds_positive values w zero b h = omega arith
worlds_positive values w (suc n) b h =
    let le = least (values n) (λ x. sum_over (λ j. true) values n (λ u. product_below n (λ j. w j (u j)) * w n (u n)) (set_at b n x)) (w n)
    (λ x lt. let e = over-mul-right (λ j. true) values n (λ u. product_below n (λ j. w j (u j))) (λ u. w n (u n)) (set_at b n x)
    (λ c i y il t. ap (w n) (set_at-other c i y n (omega arith))) in
    let f : w n (set_at b n x n) ≡ w n x = ap (w n) (set_at-same b n x) in
    let p = times (sum_over (λ j. true) values n (λ u. product_below n (λ j. w j (u j))) (set_at b n x)) (w n (set_at b n x n))
    (worlds_positive values w n (set_at b n x) (λ j jl. h j (omega arith))) in
    omega (arith, e, f, p)) in
    let some = h n (omega arith) in
    omega (arith, le, some)

total_positive : (g : MixedGraph) (m : FiniteModel) → Fits g m → 1 ≤ model_total m
total_positive g m fit = worlds_positive m.values m.weight m.causes (λ j. 0) fit.positive_weight

-- ---- from weights to counts

-- from P Q = R S and P c = p t, .. to p q = r s
matched : (P Q R S p q r s c t : ℕ) → 1 ≤ t → P * c ≡ p * t → Q * c ≡ q * t → R * c ≡ r * t → S * c ≡ s * t → P * Q ≡ R * S → p * q ≡ r * s
matched P Q R S p q r s c t le hp hq hr hs h = scaled (p * q) (r * s) t le
    (scaled (t * (p * q)) (t * (r * s)) t le (squares p q t ∙ sym (ap (λ x. x * (q * t)) hp) ∙ sym (ap (λ x. (P * c) * x) hq)
    ∙ swapped P Q c ∙ ap (λ x. x * (c * c)) h ∙ sym (swapped R S c) ∙ ap (λ x. (R * c) * x) hs ∙ ap (λ x. x * (s * t)) hr ∙ sym (squares r s t)))
  where
    squares : (p q t : ℕ) → t * (t * (p * q)) ≡ (p * t) * (q * t)
    squares p q t = omega arith

    swapped : (P Q c : ℕ) → (P * c) * (Q * c) ≡ (P * Q) * (c * c)
    swapped P Q c = omega arith

no_difference : (x y : ℕ) → x ≡ y → pos x -ℤ pos y ≡ pos 0
no_difference x y e = omega (arith, ints)

module _ (g : MixedGraph) (ok : IsMixedGraph g) (i : Implication) (is : IsImplication g i) (t : Table)
    (used : (v : ℕ) → IsTrue (whole_of i v) → IsTrue (is_used t v))
    (m : FiniteModel) (by : IsMatchedBy g t m) (s : ℕ → ℕ) (within : IsAssignment m.vertices m.size s) where
  scaled_at : (a : ℕ → Bool) → ((v : ℕ) → a v ≡ true → is_used t v ≡ true) → event_weight m a s * total t.rows ≡ counted t.vertices t.rows a s * model_total m
  scaled_at a u = ap (λ n. n * total t.rows) (sym (weight_of-none m (λ v. false) a s (λ v. refl))) ∙ by.matched.weights a u s within

  given_used : (v : ℕ) → has i.given.bits v ≡ true → is_used t v ≡ true
  given_used v h = used v (or_right (only i.a v) (only i.b v || has i.given.bits v) (or_right (only i.b v) (has i.given.bits v) h))

  first_used : (v : ℕ) → first_of_pair i v ≡ true → is_used t v ≡ true
  first_used v h = used v (wider (only i.a v) (only i.b v) (has i.given.bits v) h)
    where
      wider : (x y z : Bool) → (x || z) ≡ true → (x || (y || z)) ≡ true
      wider true y z f = refl
      wider false y z f = or_right y z f

  second_used : (v : ℕ) → second_of_pair i v ≡ true → is_used t v ≡ true
  second_used v h = used v (or_right (only i.a v) (only i.b v || has i.given.bits v) h)

  products : left t i s ≡ right t i s
  products =
      matched (event_weight m (whole_of i) s) (event_weight m (has i.given.bits) s) (event_weight m (first_of_pair i) s) (event_weight m (second_of_pair i) s)
      (counted t.vertices t.rows (whole_of i) s) (counted t.vertices t.rows (has i.given.bits) s) (counted t.vertices t.rows (first_of_pair i) s)
      (counted t.vertices t.rows (second_of_pair i) s)
      (total t.rows) (model_total m) (total_positive g m by.fits) (scaled_at (whole_of i) used) (scaled_at (has i.given.bits) given_used)
      (scaled_at (first_of_pair i) first_used) (scaled_at (second_of_pair i) second_used)
      (independent g ok i is m by.fits s)

  pub vanishes : difference t i s ≡ pos 0
  vanishes = no_difference (left t i s) (right t i s) products

pub matched_differences_vanish : MatchedDifferencesVanish
matched_differences_vanish g ok i is t used m by s within = vanishes g ok i is t used m by s within
