-- An inequality of weights in a model that fits holds in a positive one.
use Rattle.std.proofs.Common.{ℕ, suc, ◌+◌, ◌*◌, ◌≡◌, ◌<◌, ◌≤◌, refl, sym, ap, subst, arith}
use Rattle.finite_models.specs.Vocabulary.{weight_of}
use Rattle.walk_models.specs.Laws.{BelowIsPositive}
use Rattle.walk_models.proofs.Nearness.{each_is_near}

pub times : (a b c d : ℕ) → a ≤ b → c ≤ d → a * c ≤ b * d
times a b c d le le' = grind (arith, le, le')

cancel : (s a b : ℕ) → s * a < s * b → a < b
cancel s a b lt = grind (arith, lt, (λ (l : b ≤ a). times s s b a (omega arith) l))

-- with k above e * (a + b + e): (k a + e)(k b + e) is below k² c d where a b is below c d
enough : (a b cd e : ℕ) → a * b < cd → (k : ℕ) → k ≡ suc (e * (a + b + e)) → (k * a + e) * (k * b + e) < (k * k) * cd
enough a b cd e lt k is =
    let one : 1 ≤ k = omega (arith, is) in
    omega (arith, times (k * k) (k * k) (suc (a * b)) cd (omega arith) lt, ap (λ t. k * t) is, times 1 k (e * e) (e * e) one (omega arith), one)

-- k A ≤ s (k a + e), k B ≤ s (k b + e), s c ≤ C, s d ≤ D
lifted : (k s e a b c d A B C D : ℕ) → 1 ≤ k → 1 ≤ s → k * A ≤ s * (k * a + e) → k * B ≤ s * (k * b + e) → s * c ≤ C → s * d ≤ D
    → (k * a + e) * (k * b + e) < (k * k) * (c * d) → A * B < C * D
lifted k s e a b c d A B C D k1 s1 ha hb hc hd lt = cancel (k * k) (A * B) (C * D) (combined (k * a + e) (k * b + e) lt
    (times (k * A) (s * (k * a + e)) (k * B) (s * (k * b + e)) ha hb))
  where
    low : (k * k) * ((s * c) * (s * d)) ≤ (k * k) * (C * D)
    low = times (k * k) (k * k) ((s * c) * (s * d)) (C * D) (omega arith) (times (s * c) C (s * d) D hc hd)

    combined : (p q : ℕ) → p * q < (k * k) * (c * d) → (k * A) * (k * B) ≤ (s * p) * (s * q) → (k * k) * (A * B) < (k * k) * (C * D)
    combined p q h up = omega (arith, up, low, times (s * s) (s * s) (suc (p * q)) ((k * k) * (c * d)) (omega arith) h, times 1 s 1 s s1 s1)

pub below_is_positive : BelowIsPositive
below_is_positive = λ g ok m fit two s a b c d h.
    let near = each_is_near g ok m fit in
    let e = near.0 in
    let wa = weight_of m a.doing a.of s in
    let wb = weight_of m b.doing b.of s in
    let k = suc (e * (wa + wb + e)) in
    let p = near.1 k (omega arith) in
    record {
      model = p.0;
      fits = p.1.fits;
      positive = p.1.positive;
      two = p.1.two two;
      at = s;
      less = record {
        within = λ v lt. subst (λ t. s v < t) (sym (p.1.size v)) (h.within v (subst (λ t. v < t) p.1.vertices lt));
        below = lifted k p.1.scale e wa wb (weight_of m c.doing c.of s) (weight_of m d.doing d.of s)
            (weight_of p.0 a.doing a.of s) (weight_of p.0 b.doing b.of s) (weight_of p.0 c.doing c.of s) (weight_of p.0 d.doing d.of s)
            (omega arith) p.1.some
            (p.1.most a.doing a.of s h.within) (p.1.most b.doing b.of s h.within) (p.1.least c.doing c.of s h.within) (p.1.least d.doing d.of s h.within)
            (enough wa wb (weight_of m c.doing c.of s * weight_of m d.doing d.of s) e h.below k refl);
      };
    }
