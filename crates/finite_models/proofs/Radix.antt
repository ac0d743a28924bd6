-- A sum over the points of a box by one counter.
use Rattle.std.proofs.Common.{ℕ, zero, suc, ◌+◌, ◌*◌, ◌≡◌, refl, ap, ◌∙◌, arith}
use Rattle.finite_models.specs.Sums.{sum_below}

pub sum_below-split : (a b : ℕ) (f : ℕ → ℕ) → sum_below (a + b) f ≡ sum_below a f + sum_below b (λ i. f (a + i))
sum_below-split a zero f = let e : a + 0 ≡ a = omega arith in rw e (omega arith)
sum_below-split a (suc b) f = let e : a + suc b ≡ suc (a + b) = omega arith in rw e (ap (λ n. n + f (a + b)) (sum_below-split a b f) ∙ omega arith)

pub sum_below-product : (a b : ℕ) (f : ℕ → ℕ) → sum_below (a * b) f ≡ sum_below a (λ i. sum_below b (λ j. f (i * b + j)))
sum_below-product zero b f = let e : 0 * b ≡ 0 = omega arith in rw e refl
sum_below-product (suc a) b f =
    let e : suc a * b ≡ a * b + b = omega arith in
    rw e (sum_below-split (a * b) b f ∙ ap (λ n. n + sum_below b (λ j. f (a * b + j))) (sum_below-product a b f))
