-- The names of a set, and the weights of terms over names.
use Rattle.std.proofs.Common.{ℕ, ◌≡◌, ◌≢◌, ◌<◌, Bool, true, false, cond, eqb, not, refl, sym, ap, ap₂, ◌∙◌, ◌||◌, ◌&&◌, arith, nat_lt, ltb-true}
use Rattle.std.proofs.lemmas.Bool.{lt-ltb, ne_eqb, eqb-true}
use mathlib.Core.Path.{fun_ext}
use Rattle.mixed_graph.specs.Vocabulary.{has, MixedGraph, IsMixedGraph, one, minus}
use Rattle.mixed_graph.proofs.MaskLaws.{has_one, has_minus}
use Rattle.finite_models.specs.Vocabulary.{FiniteModel, Fits, IsAssignment, event_weight}
use Rattle.finite_models.proofs.Bools.{and_first, and_second, not_both, same_truth}
use Rattle.treated_models.specs.Vocabulary.{with_one, read_near, prime_of, as_observed, plain_in, primed_in, with_primes}
use Rattle.treated_models.proofs.Primes.{prime_behind, prime_one, observed_weight}
use Rattle.treated_id.specs.Terms.{name_of, AreNames}

-- ---- names of a set of vertices
module _ (n x seen set names : ℕ) (are : AreNames n x seen set names) (low : (w : ℕ) → has set w ≡ true → w < n) where
  -- the own names among them
  pub names_plain : (w : ℕ) → plain_in n (has names) w ≡ (has set w && not (has x w && has seen w))
  names_plain w = same_truth (plain_in n (has names) w) (has set w && not (has x w && has seen w)) there back
    where
      pair : (p q : Bool) → p ≡ true → q ≡ false → (p && not q) ≡ true
      pair p q h k = grind (arith, h, k)

      there : (nat_lt w n && has names w) ≡ true → (has set w && not (has x w && has seen w)) ≡ true
      there e = let k = are.sound w (and_second (nat_lt w n) (has names w) e) in go k.0 k.1 k.2 (has x k.0 && has seen k.0) refl
        where
          go : (u : ℕ) → has set u ≡ true → w ≡ name_of n x seen u → (b : Bool) → (has x u && has seen u) ≡ b
              → (has set w && not (has x w && has seen w)) ≡ true
          go u i q true b =
              let l : w < n = ltb-true w n (and_first (nat_lt w n) (has names w) e) in
              let p : w ≡ prime_of n x u = rw b at q in
              absurd (omega (arith, l, p, prime_behind n x u))
          go u i q false b = let p : w ≡ u = rw b at q in rw p (pair (has set u) (has x u && has seen u) i b)

      back : (has set w && not (has x w && has seen w)) ≡ true → (nat_lt w n && has names w) ≡ true
      back e =
          let i : has set w ≡ true = and_first (has set w) (not (has x w && has seen w)) e in
          let b : (has x w && has seen w) ≡ false = off (has x w && has seen w) (and_second (has set w) (not (has x w && has seen w)) e) in
          let l : nat_lt w n ≡ true = lt-ltb w n (low w i) in
          let k : has names w ≡ true = are.complete w (w, i, rw b refl) in
          rw (l, k) refl
        where
          off : (p : Bool) → not p ≡ true → p ≡ false
          off p h = grind (arith, h)

  -- the primed names among them
  pub names_primed : ((w : ℕ) → has x w ≡ true → w < n) → (w : ℕ) → primed_in n x (has names) w ≡ ((has x w && has seen w) && has set w)
  names_primed x_low w = same_truth (primed_in n x (has names) w) ((has x w && has seen w) && has set w) there back
    where
      there : (has x w && has names (prime_of n x w)) ≡ true → ((has x w && has seen w) && has set w) ≡ true
      there e = let k = are.sound (prime_of n x w) (and_second (has x w) (has names (prime_of n x w)) e) in go k.0 k.1 k.2 (has x k.0 && has seen k.0) refl
        where
          go : (u : ℕ) → has set u ≡ true → prime_of n x w ≡ name_of n x seen u → (b : Bool) → (has x u && has seen u) ≡ b
              → ((has x w && has seen w) && has set w) ≡ true
          go u i q true b =
              let p : prime_of n x w ≡ prime_of n x u = rw b at q in
              let xw = and_first (has x w) (has names (prime_of n x w)) e in
              let same : w ≡ u = prime_one n x w u (x_low w xw) (low u i) xw (and_first (has x u) (has seen u) b) p in
              rw same (rw (b, i) refl)
          go u i q false b =
              let p : prime_of n x w ≡ u = rw b at q in
              absurd (omega (arith, low u i, p, prime_behind n x w))

      back : ((has x w && has seen w) && has set w) ≡ true → (has x w && has names (prime_of n x w)) ≡ true
      back e =
          let b : (has x w && has seen w) ≡ true = and_first (has x w && has seen w) (has set w) e in
          let i : has set w ≡ true = and_second (has x w && has seen w) (has set w) e in
          let xw : has x w ≡ true = and_first (has x w) (has seen w) b in
          let k : has names (prime_of n x w) ≡ true = are.complete (prime_of n x w) (w, i, rw b refl) in
          rw (xw, k) refl

-- ---- weights of observed terms
module _ (g : MixedGraph) (ok : IsMixedGraph g) (m : FiniteModel) (fit : Fits g m) (x : ℕ) (x_low : (w : ℕ) → has x w ≡ true → w < m.vertices)
    (t : ℕ → ℕ) (within : IsAssignment m.vertices m.size t) where
  abbrev obs : ℕ → ℕ
  obs = as_observed m.vertices x t

  -- the names stand for the vertices of b, those of p of which are read as observed
  pub weight_is : (names b p : ℕ → Bool) → ((w : ℕ) → plain_in m.vertices names w ≡ (b w && not (p w))) → ((w : ℕ) → primed_in m.vertices x names w ≡ p w)
      → ((w : ℕ) → p w ≡ true → b w ≡ true) → (q : ℕ → ℕ) → ((w : ℕ) → cond (p w) (obs w) (t w) ≡ q w)
      → (with_primes m x).weight (has 0) names t ≡ event_weight m b q
  weight_is names b p plain primed inside q values =
      observed_weight g ok m fit x names (λ v e. primed v ∙ off (b v) (p v) (sym (plain v) ∙ e)) t within
      ∙ ap₂ (event_weight m)
      (fun_ext (λ v. ap₂ (λ i j. i || j) (plain v) (primed v) ∙ whole (b v) (p v) (inside v)))
      (fun_ext (λ v. ap (λ i. cond i (obs v) (t v)) (primed v) ∙ values v))
    where
      off : (b p : Bool) → (b && not p) ≡ true → p ≡ false
      off b p h = grind (arith, h)

      whole : (b p : Bool) → (p ≡ true → b ≡ true) → ((b && not p) || p) ≡ b
      whole b p h = grind (arith, h)

  module _ (v near pillow given : ℕ) (vl : v < m.vertices) (out : has x v ≡ false) (are : AreNames m.vertices x near pillow given)
      (low : (w : ℕ) → has pillow w ≡ true → w < m.vertices) (rest : (w : ℕ) → has near w ≡ true → w ≢ v → has pillow w ≡ true)
      (s : ℕ → ℕ) (same : (w : ℕ) → has x w ≡ true → t w ≡ s w) where
    abbrev seen : ℕ → Bool
    seen w = has x w && has near w

    seen_in : (w : ℕ) → seen w ≡ true → has pillow w ≡ true
    seen_in w e = rest w (and_second (has x w) (has near w) e) (λ q. not_both (has x w) (and_first (has x w) (has near w) e) (ap (has x) q ∙ out))

    values : (w : ℕ) → cond (seen w) (obs w) (t w) ≡ read_near (has x) (has near) s obs w
    values w = go (has x w) (has near w) refl
      where
        go : (i j : Bool) → has x w ≡ i → cond (i && j) (cond i (t (prime_of m.vertices x w)) (t w)) (t w)
            ≡ cond (i && not j) (s w) (cond i (t (prime_of m.vertices x w)) (t w))
        go true true e = refl
        go true false e = same w e
        go false true e = refl
        go false false e = refl

    primed : (w : ℕ) → primed_in m.vertices x (has given) w ≡ seen w
    primed w = names_primed m.vertices x near pillow given are low x_low w ∙ kept (seen w) (has pillow w) (seen_in w)
      where
        kept : (p b : Bool) → (p ≡ true → b ≡ true) → (p && b) ≡ p
        kept p b h = grind (arith, h)

    pub bottom_is : (with_primes m x).weight (has 0) (has given) t ≡ event_weight m (has pillow) (read_near (has x) (has near) s obs)
    bottom_is = weight_is (has given) (has pillow) seen (names_plain m.vertices x near pillow given are low) primed seen_in
        (read_near (has x) (has near) s obs) values

    pub top_is : (with_primes m x).weight (has 0) (λ k. has (one v) k || has given k) t
        ≡ event_weight m (with_one (has pillow) v) (read_near (has x) (has near) s obs)
    top_is = weight_is (λ k. has (one v) k || has given k) (with_one (has pillow) v) seen
        (λ w. ap (λ e. nat_lt w m.vertices && (e || has given w)) (has_one v w)
        ∙ plain (nat_lt w m.vertices) (eqb w v) (has given w) (has pillow w) (seen w) (names_plain m.vertices x near pillow given are low w)
        (λ e. lt-ltb w m.vertices (let q = eqb-true w v e in omega (arith, q, vl)))
        (λ e. let q = eqb-true w v e in let o : has x w ≡ false = ap (has x) q ∙ out in rw o refl))
        (λ w. ap (λ e. has x w && (e || has given (prime_of m.vertices x w))) (has_one v (prime_of m.vertices x w)
        ∙ ne_eqb (prime_of m.vertices x w) v (λ q. absurd (omega (arith, q, vl, prime_behind m.vertices x w)))) ∙ primed w)
        (λ w e. left (has pillow w) (eqb w v) (seen_in w e)) (read_near (has x) (has near) s obs) values
      where
        plain : (l e i b p : Bool) → (l && i) ≡ (b && not p) → (e ≡ true → l ≡ true) → (e ≡ true → p ≡ false) → (l && (e || i)) ≡ ((b || e) && not p)
        plain l true i b p h j k = rw (j refl, k refl) (bools b)
          where
            bools : (b : Bool) → true ≡ ((b || true) && true)
            bools b = grind arith
        plain l false i b p h j k = h ∙ bools b p
          where
            bools : (b p : Bool) → (b && not p) ≡ ((b || false) && not p)
            bools b p = grind arith

        left : (p q : Bool) → p ≡ true → (p || q) ≡ true
        left p q h = grind (arith, h)

  -- the term of the rest of a set c, given all of e inside it, x in e as observed
  module _ (c e given : ℕ) (c_low : (w : ℕ) → has c w ≡ true → w < m.vertices) (e_in : (w : ℕ) → has e w ≡ true → has c w ≡ true)
      (x_in : (w : ℕ) → has x w ≡ true → has e w ≡ true) (are : AreNames m.vertices x x e given) where
    observed_values : (w : ℕ) → cond (has x w) (obs w) (t w) ≡ obs w
    observed_values w = go (has x w)
      where
        go : (i : Bool) → cond i (cond i (t (prime_of m.vertices x w)) (t w)) (t w) ≡ cond i (t (prime_of m.vertices x w)) (t w)
        go true = refl
        go false = refl

    e_low : (w : ℕ) → has e w ≡ true → w < m.vertices
    e_low w i = c_low w (e_in w i)

    first_primed : (w : ℕ) → primed_in m.vertices x (has given) w ≡ has x w
    first_primed w = names_primed m.vertices x x e given are e_low x_low w ∙ kept (has x w) (has e w) (x_in w)
      where
        kept : (p b : Bool) → (p ≡ true → b ≡ true) → ((p && p) && b) ≡ p
        kept p b h = grind (arith, h)

    first_plain : (w : ℕ) → plain_in m.vertices (has given) w ≡ (has e w && not (has x w))
    first_plain w = names_plain m.vertices x x e given are e_low w ∙ bools (has e w) (has x w)
      where
        bools : (p q : Bool) → (p && not (q && q)) ≡ (p && not q)
        bools p q = grind arith

    pub first_bottom : (with_primes m x).weight (has 0) (has given) t ≡ event_weight m (has e) obs
    first_bottom = weight_is (has given) (has e) (has x) first_plain first_primed x_in obs observed_values

    pub first_top : (with_primes m x).weight (has 0) (λ k. has (minus c e) k || has given k) t ≡ event_weight m (has c) obs
    first_top = weight_is (λ k. has (minus c e) k || has given k) (has c) (has x)
        (λ w. ap (λ i. nat_lt w m.vertices && (i || has given w)) (has_minus c e w)
        ∙ plain (nat_lt w m.vertices) (has c w) (has e w) (has given w) (has x w) (first_plain w) (λ i. lt-ltb w m.vertices (c_low w i)) (e_in w) (x_in w))
        (λ w. ap (λ i. has x w && (i || has given (prime_of m.vertices x w))) (behind w) ∙ first_primed w)
        (λ w i. e_in w (x_in w i)) obs observed_values
      where
        plain : (l c e i p : Bool) → (l && i) ≡ (e && not p) → (c ≡ true → l ≡ true) → (e ≡ true → c ≡ true) → (p ≡ true → e ≡ true)
            → (l && ((c && not e) || i)) ≡ (c && not p)
        plain l true true i p h j k o = h
        plain l true false i true h j k o = absurd (grind (arith, o refl))
        plain l true false i false h j k o = rw (j refl) refl
        plain l false true i p h j k o = absurd (grind (arith, k refl))
        plain l false false i true h j k o = absurd (grind (arith, o refl))
        plain l false false i false h j k o = h

        behind : (w : ℕ) → has (minus c e) (prime_of m.vertices x w) ≡ false
        behind w = has_minus c e (prime_of m.vertices x w) ∙ go (has c (prime_of m.vertices x w)) refl
          where
            go : (i : Bool) → has c (prime_of m.vertices x w) ≡ i → (has c (prime_of m.vertices x w) && not (has e (prime_of m.vertices x w))) ≡ false
            go true i = absurd (let l = c_low (prime_of m.vertices x w) i in omega (arith, l, prime_behind m.vertices x w))
            go false i = rw i refl
