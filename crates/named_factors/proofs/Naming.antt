-- The factors of a formula over names have its value.
use Rattle.std.proofs.Common.{ℕ, zero, suc, ◌+◌, ◌*◌, ◌≡◌, ◌<◌, ◌≤◌, Bool, true, false, cond, refl, sym, ap, ap₂, ◌∙◌, ◌||◌, ◌&&◌, subst, arith, nat_lt, mul-pos}
use Rattle.std.proofs.Common.{List, [], ◌∷◌}
use mathlib.Core.Path.{fun_ext}
use Rattle.std.proofs.lemmas.Bool.{false≢true}
use Rattle.mixed_graph.specs.Vocabulary.{has, MixedGraph, IsMixedGraph}
use Rattle.mixed_graph.proofs.Masks.{has-zero}
use Rattle.fractions.specs.Vocabulary.{Fraction, over, add, add_below, mul, div, IsEqual}
use Rattle.fractions.proofs.FractionLaws.{mul-one}
use Rattle.finite_models.specs.Vocabulary.{set_at, FiniteModel, Fits, IsAssignment, IsPositiveModel, event_weight, weight_of}
use Rattle.finite_models.proofs.Bools.{not_both}
use Rattle.finite_models.proofs.Following.{follows_of}
use Rattle.finite_models.proofs.Positive.{positive_weight}
use Rattle.finite_models.proofs.SumLaws.{set_at-other}
use Rattle.finite_models.proofs.Weights.{weight_of-none}
use Rattle.prob_expr.specs.Tree.{Tree, prob, sum, product, quotient, named, tree}
use Rattle.prob_expr.specs.Vocabulary.{Trees, no_trees, PlainFormula, weights_of, value, product_value, values_from, value_of, term_value, add_over}
use Rattle.prob_expr.proofs.Boxes.{assignment_set}
use Rattle.treated_models.specs.Vocabulary.{IsSingle, NamesOnce, EachNamesOnce, prime_of, as_observed, plain_in, primed_in, with_primes, joined}
use Rattle.treated_models.proofs.NamedOnce.{weight_seen}
use Rattle.treated_models.proofs.Primes.{vertex_plain, prime_behind, plain_within}
use Rattle.treated_id.proofs.Points.{event_reads}
use Rattle.factor_values.specs.Vocabulary.{PlainFactor, read_at, chance_of, factors_product, factors_value}
use Rattle.named_factors.specs.Named.{IsFactorOfTerm, IsFactorOf, AreFactorsOf, factors_in, summed_in, body_in, FactorsEqualNamed}

below_same : (k : ℕ) (f g : ℕ → Fraction) → ((i : ℕ) → i < k → f i ≡ g i) → add_below k f ≡ add_below k g
below_same zero f g h = refl
below_same (suc k) f g h = ap₂ add (below_same k f g (λ i lt. h i (omega arith))) (h k (omega arith))

-- sums over names as sums over vertices, at points of a property that levels of summed vertices keep
module _ (u : ℕ → Bool) (size size' : ℕ → ℕ) (n : ℕ) (P : (ℕ → ℕ) → Type 0) (low : (i : ℕ) → u i ≡ true → i < n)
    (sizes : (i : ℕ) → i < n → size' i ≡ size i) (kept : (c : ℕ → ℕ) (i k : ℕ) → u i ≡ true → k < size i → P c → P (set_at c i k))
    (f g : (ℕ → ℕ) → Fraction) (same : (c : ℕ → ℕ) → P c → f c ≡ g c) where
  over_below : (k : ℕ) → k ≤ n → (b : ℕ → ℕ) → P b → add_over u size' k f b ≡ add_over u size k g b
  over_below zero le b p = same b p
  over_below (suc k) le b p = go (u k) refl (λ c pc. over_below k (omega arith) c pc)
    where
      go : (v : Bool) → u k ≡ v → ((c : ℕ → ℕ) → P c → add_over u size' k f c ≡ add_over u size k g c)
          → cond v (add_below (size' k) (λ i. add_over u size' k f (set_at b k i))) (add_over u size' k f b)
          ≡ cond v (add_below (size k) (λ i. add_over u size k g (set_at b k i))) (add_over u size k g b)
      go true e ih = ap (λ j. add_below j (λ i. add_over u size' k f (set_at b k i))) (sizes k (omega arith))
          ∙ below_same (size k) (λ i. add_over u size' k f (set_at b k i)) (λ i. add_over u size k g (set_at b k i))
          (λ i lt. ih (set_at b k i) (kept b k i e lt p))
      go false e ih = ih b p

  over_names : (more : ℕ) (b : ℕ → ℕ) → P b → add_over u size' (n + more) f b ≡ add_over u size n g b
  over_names zero b p = ap (λ k. add_over u size' k f b) (let r : n + 0 ≡ n = omega arith in r) ∙ over_below n (omega arith) b p
  over_names (suc more) b p = ap (λ k. add_over u size' k f b) (let r : n + suc more ≡ suc (n + more) = omega arith in r)
      ∙ go (u (n + more)) refl (over_names more b p)
    where
      go : (v : Bool) → u (n + more) ≡ v → add_over u size' (n + more) f b ≡ add_over u size n g b
          → cond v (add_below (size' (n + more)) (λ i. add_over u size' (n + more) f (set_at b (n + more) i))) (add_over u size' (n + more) f b)
          ≡ add_over u size n g b
      go true e ih = absurd (let l = low (n + more) e in omega (arith, l))
      go false e ih = ih

-- where a term names each vertex once at most, so does what it is given
given_once : (n x a c : ℕ) → IsSingle n x (λ v. has a v || has c v) → IsSingle n x (has c)
given_once n x a c single v e = less (has x v) (has a (prime_of n x v)) (has c (prime_of n x v)) (single v (more (nat_lt v n) (has a v) (has c v) e))
  where
    more : (l p q : Bool) → (l && q) ≡ true → (l && (p || q)) ≡ true
    more l p q h = grind (arith, h)

    less : (i p q : Bool) → (i && (p || q)) ≡ false → (i && q) ≡ false
    less i p q h = grind (arith, h)

module _ (g : MixedGraph) (ok : IsMixedGraph g) (m : FiniteModel) (fit : Fits g m) (x : ℕ) where
  module _ (s : ℕ → ℕ) (within : IsAssignment (with_primes m x).vertices (with_primes m x).size s) where
    abbrev obs : ℕ → ℕ
    obs = as_observed m.vertices x s

    abbrev event : (ℕ → Bool) → ℕ → Bool
    event a v = plain_in m.vertices a v || primed_in m.vertices x a v

    abbrev point : (ℕ → Bool) → ℕ → ℕ
    point a = joined (primed_in m.vertices x a) s obs

    -- a term has the value of its factor
    module _ (a b c : ℕ) (none : b ≡ 0) (single : IsSingle m.vertices x (λ v. has a v || has c v)) (f : PlainFactor) (is : IsFactorOfTerm m.vertices x a c f)
      where
        abbrev both : ℕ → Bool
        both v = has a v || has c v

        abbrev read : ℕ → ℕ
        read = read_at f.second s obs

        both_vertices : ◌≡◌ {A = ℕ → Bool} (λ v. has is.of v || has is.given v) (event both)
        both_vertices = fun_ext (λ v. ap₂ (λ i j. i || j) (is.are_of v) (is.are_given v)
            ∙ bools (nat_lt v m.vertices) (has x v) (has a v) (has c v) (has a (prime_of m.vertices x v)) (has c (prime_of m.vertices x v)))
          where
            bools : (l i a c p q : Bool) → (((l && a) || (i && p)) || ((l && c) || (i && q))) ≡ ((l && (a || c)) || (i && (p || q)))
            bools l i a c p q = grind arith

        read_point : read ≡ point both
        read_point = fun_ext (λ v. ap (λ k. cond k (obs v) (s v)) (is.second v))

        top_is : (with_primes m x).weight (has b) both s ≡ weight_of m (has 0) (λ v. has is.of v || has is.given v) read
        top_is = weight_seen g ok m fit x both single s within b none
            ∙ sym (ap₂ (event_weight m) both_vertices read_point)
            ∙ sym (weight_of-none m (has 0) (λ v. has is.of v || has is.given v) read (λ v. has-zero v))

        given_vertices : ◌≡◌ {A = ℕ → Bool} (has is.given) (event (has c))
        given_vertices = fun_ext is.are_given

        -- a vertex that is given by its own name isn't named by its primed one
        reads_given : (v : ℕ) → v < m.vertices → event (has c) v ≡ true → point (has c) v ≡ read v
        reads_given v lt e = sym (ap (λ k. cond k (obs v) (s v)) (is.second v)
            ∙ go (nat_lt v m.vertices) (has x v) (has a v) (has c v) (has a (prime_of m.vertices x v)) (has c (prime_of m.vertices x v)) e (single v))
          where
            go : (l i a c p q : Bool) → ((l && c) || (i && q)) ≡ true → ((l && (a || c)) ≡ true → (i && (p || q)) ≡ false)
                → cond (i && (p || q)) (obs v) (s v) ≡ cond (i && q) (obs v) (s v)
            go l false a c p q h k = refl
            go l true a c p true h k = ap (λ j. cond j (obs v) (s v)) (let r : (p || true) ≡ true = grind arith in r)
            go true true a true true false h k = absurd (let d = k (let r : (true && (a || true)) ≡ true = grind arith in r) in false≢true (sym d))
            go l true a c false false h k = refl
            go true true a false true false h k = absurd (false≢true h)
            go false true a c true false h k = absurd (false≢true h)

        bottom_is : (with_primes m x).weight (has b) (has c) s ≡ weight_of m (has 0) (has is.given) read
        bottom_is = weight_seen g ok m fit x (has c) (given_once m.vertices x a c single) s within b none
            ∙ event_reads m (event (has c)) (point (has c)) read reads_given
            ∙ sym (ap (λ (i : ℕ → Bool). event_weight m i read) given_vertices)
            ∙ sym (weight_of-none m (has 0) (has is.given) read (λ v. has-zero v))

        pub term_is : term_value (with_primes m x) a b c s ≡ value_of (weights_of m) f.formula read
        term_is = ap₂ over top_is bottom_is ∙ sym (ap (λ (h : PlainFormula). value_of (weights_of m) h read) is.formula)

    one_is : (q : ℕ → (ℕ → ℕ) → Fraction) (e : Tree) (f : PlainFactor) → NamesOnce m.vertices x e → IsFactorOf m.vertices x e f
        → value (with_primes m x) q e s ≡ value_of (weights_of m) f.formula (read_at f.second s obs)
    one_is q (prob a b c) f once is = term_is a b c once.0 once.1 f is
    one_is q (sum u e) f once is = absurd is
    one_is q (product ts) f once is = absurd is
    one_is q (quotient e h) f once is = absurd is
    one_is q (named k) f once is = absurd is

    product_is : (q : ℕ → (ℕ → ℕ) → Fraction) (ts : Trees) (fs : List PlainFactor) → EachNamesOnce m.vertices x ts → AreFactorsOf m.vertices x ts fs
        → product_value (with_primes m x) q ts s ≡ factors_product (weights_of m) fs s obs
    product_is q no_trees [] once are = refl
    product_is q no_trees (f ∷ fs) once are = absurd are
    product_is q (tree t ts) [] once are = absurd are
    product_is q (tree t ts) (f ∷ fs) once are = ap₂ mul (one_is q t f once.0 are.0) (product_is q ts fs once.1 are.1)

    alone_is : (q : ℕ → (ℕ → ℕ) → Fraction) (e : Tree) (fs : List PlainFactor) → NamesOnce m.vertices x e → AreFactorsOf m.vertices x (tree e no_trees) fs
        → value (with_primes m x) q e s ≡ factors_product (weights_of m) fs s obs
    alone_is q e fs once are = sym (mul-one (value (with_primes m x) q e s)) ∙ product_is q (tree e no_trees) fs (once, tt) are

    body_is : (q : ℕ → (ℕ → ℕ) → Fraction) (e : Tree) (fs : List PlainFactor) → NamesOnce m.vertices x e → AreFactorsOf m.vertices x (factors_in e) fs
        → value (with_primes m x) q e s ≡ factors_product (weights_of m) fs s obs
    body_is q (product ts) fs once are = product_is q ts fs once are
    body_is q (prob a b c) fs once are = alone_is q (prob a b c) fs once are
    body_is q (sum u e) fs once are = alone_is q (sum u e) fs once are
    body_is q (quotient e h) fs once are = alone_is q (quotient e h) fs once are
    body_is q (named k) fs once are = alone_is q (named k) fs once are

  -- at other levels of summed vertices what was observed of x stays
  module _ (q : ℕ → (ℕ → ℕ) → Fraction) (u : ℕ) (low : (v : ℕ) → has u v ≡ true → v < m.vertices) (off : (v : ℕ) → has u v ≡ true → has x v ≡ false)
      (e : Tree) (fs : List PlainFactor) (once : NamesOnce m.vertices x e) (are : AreFactorsOf m.vertices x (factors_in e) fs) (s : ℕ → ℕ)
      (within : IsAssignment (with_primes m x).vertices (with_primes m x).size s) where
    record IsPoint (c : ℕ → ℕ) : Type 0 where
      inside : IsAssignment (with_primes m x).vertices (with_primes m x).size c
      primes : (v : ℕ) → c (prime_of m.vertices x v) ≡ s (prime_of m.vertices x v)

    kept : (c : ℕ → ℕ) (i k : ℕ) → has u i ≡ true → k < m.size i → IsPoint c → IsPoint (set_at c i k)
    kept c i k ui lt p = record {
      inside = assignment_set (with_primes m x).vertices (with_primes m x).size c i k (rw (ap m.size (vertex_plain m.vertices x i (low i ui))) lt) p.inside;
      primes = λ v. set_at-other c i k (prime_of m.vertices x v)
          (λ same. absurd (let l = low i ui in omega (arith, same, l, prime_behind m.vertices x v))) ∙ p.primes v;
    }

    -- the factors read only members of x at their second levels
    seen_in : (second : ℕ) → ((v : ℕ) → has second v ≡ true → has x v ≡ true) → (c : ℕ → ℕ) → IsPoint c
        → read_at second c (as_observed m.vertices x c) ≡ read_at second c (as_observed m.vertices x s)
    seen_in second inside c p = fun_ext (λ v. go v (has second v) refl (has x v) refl)
      where
        go : (v : ℕ) (i : Bool) → has second v ≡ i → (j : Bool) → has x v ≡ j
            → cond i (cond j (c (prime_of m.vertices x v)) (c v)) (c v) ≡ cond i (cond j (s (prime_of m.vertices x v)) (s v)) (c v)
        go v true e true h = p.primes v
        go v true e false h = absurd (not_both (has x v) (inside v e) h)
        go v false e j h = refl

    seconds : (t : Tree) (f : PlainFactor) → IsFactorOf m.vertices x t f → (v : ℕ) → has f.second v ≡ true → has x v ≡ true
    seconds (prob a b c) f is v h = first (has x v) (has a (prime_of m.vertices x v) || has c (prime_of m.vertices x v)) (sym (is.second v) ∙ h)
      where
        first : (i p : Bool) → (i && p) ≡ true → i ≡ true
        first i p h = grind (arith, h)
    seconds (sum u e) f is v h = absurd is
    seconds (product ts) f is v h = absurd is
    seconds (quotient e k) f is v h = absurd is
    seconds (named k) f is v h = absurd is

    same_reads : (c : ℕ → ℕ) → IsPoint c → (ts : Trees) (hs : List PlainFactor) → AreFactorsOf m.vertices x ts hs
        → factors_product (weights_of m) hs c (as_observed m.vertices x c) ≡ factors_product (weights_of m) hs c (as_observed m.vertices x s)
    same_reads c p no_trees [] h = refl
    same_reads c p no_trees (f ∷ hs) h = absurd h
    same_reads c p (tree t ts) [] h = absurd h
    same_reads c p (tree t ts) (f ∷ hs) h =
        ap₂ mul (ap (value_of (weights_of m) f.formula) (seen_in f.second (seconds t f h.0) c p)) (same_reads c p ts hs h.1)

    pub sum_is : add_over (has u) (with_primes m x).size (with_primes m x).vertices (value (with_primes m x) q e) s
        ≡ add_over (has u) m.size m.vertices (λ c. factors_product (weights_of m) fs c (as_observed m.vertices x s)) s
    sum_is = over_names (has u) m.size (with_primes m x).size m.vertices IsPoint low (λ i lt. ap m.size (vertex_plain m.vertices x i lt)) kept
        (value (with_primes m x) q e) (λ c. factors_product (weights_of m) fs c (as_observed m.vertices x s))
        (λ c p. body_is c p.inside q e fs once are ∙ same_reads c p (factors_in e) fs are) _ s (record { inside = within; primes = λ v. refl })

  module _ (q : ℕ → (ℕ → ℕ) → Fraction) (s : ℕ → ℕ) (within : IsAssignment (with_primes m x).vertices (with_primes m x).size s) where
    none_summed : (u : ℕ → Bool) (size : ℕ → ℕ) (n : ℕ) → ((i : ℕ) → u i ≡ false) → (f : (ℕ → ℕ) → Fraction) (b : ℕ → ℕ) → add_over u size n f b ≡ f b
    none_summed u size zero none f b = refl
    none_summed u size (suc n) none f b = let h : u n ≡ false = none n in rw h (none_summed u size n none f b)

    bare_is : (e : Tree) (fs : List PlainFactor) → NamesOnce m.vertices x e → AreFactorsOf m.vertices x (factors_in e) fs
        → value (with_primes m x) q e s
        ≡ add_over (has 0) m.size m.vertices (λ c. factors_product (weights_of m) fs c (as_observed m.vertices x s)) s
    bare_is e fs once are = body_is s within q e fs once are
        ∙ sym (none_summed (has 0) m.size m.vertices (λ i. has-zero i) (λ c. factors_product (weights_of m) fs c (as_observed m.vertices x s)) s)

    whole_is : (main : Tree) (fs : List PlainFactor) → NamesOnce m.vertices x main → AreFactorsOf m.vertices x (factors_in (body_in main)) fs
        → ((v : ℕ) → has (summed_in main) v ≡ true → v < m.vertices) → ((v : ℕ) → has (summed_in main) v ≡ true → has x v ≡ false)
        → value (with_primes m x) q main s
        ≡ add_over (has (summed_in main)) m.size m.vertices (λ c. factors_product (weights_of m) fs c (as_observed m.vertices x s)) s
    whole_is (sum u e) fs once are low off = sum_is q u low off e fs once are s within
    whole_is (product ts) fs once are low off = bare_is (product ts) fs once are
    whole_is (prob a b c) fs once are low off = bare_is (prob a b c) fs once are
    whole_is (quotient e h) fs once are low off = bare_is (quotient e h) fs once are
    whole_is (named k) fs once are low off = bare_is (named k) fs once are

-- over P() nothing changes
over_all : (f c k : Fraction) → 1 ≤ c.bottom → c.top ≡ c.bottom → IsEqual f k → IsEqual (div f c) k
over_all f c k some e h = record {
  left_bottom = mul-pos h.left_bottom (omega (arith, some, e));
  right_bottom = h.right_bottom;
  products = numbers f.top f.bottom c.bottom k.top k.bottom h.products ∙ ap (λ n. k.top * (f.bottom * n)) (sym e);
}
  where
    numbers : (t b n p q : ℕ) → t * q ≡ p * b → (t * n) * q ≡ p * (b * n)
    numbers t b n p q h = (let r : (t * n) * q ≡ (t * q) * n = omega arith in r) ∙ ap (λ i. i * n) h ∙ (let r : (p * b) * n ≡ p * (b * n) = omega arith in r)

module _ (g : MixedGraph) (ok : IsMixedGraph g) (m : FiniteModel) (fit : Fits g m) (positive : IsPositiveModel m) (x : ℕ) where
  all_chance : (s : ℕ → ℕ) → IsAssignment m.vertices m.size s → (f k : Fraction) → IsEqual f k → IsEqual (div f (value_of (weights_of m) (chance_of 0) s)) k
  all_chance s hs f k = over_all f (value_of (weights_of m) (chance_of 0) s) k
      (subst (λ (b : ℕ → Bool). 1 ≤ weight_of m b (has 0) s) (sym (fun_ext has-zero)) (positive_weight g m ok (follows_of g m fit) positive (λ v. false) (has 0) s hs))
      (ap (λ (a : ℕ → Bool). weight_of m (has 0) a s) (fun_ext (λ v. twice (has 0 v))))
    where
      twice : (b : Bool) → (b || b) ≡ b
      twice b = grind arith

pub factors_equal_named : FactorsEqualNamed
factors_equal_named g ok m fit positive x f once e are low off s within k equals =
    subst (λ n. IsEqual (factors_value (weights_of m) e s (as_observed n x s)) k) fit.vertices
    (subst (λ z. IsEqual (div (sum_of e.summed) (value_of (weights_of m) (chance_of z) s)) k) (sym are.given)
    (subst (λ u. IsEqual (div (sum_of u) (value_of (weights_of m) (chance_of 0) s)) k) (sym are.summed)
    (all_chance g ok m fit positive x s (plain_within m.vertices x m.size s within) (sum_of (summed_in f.main)) k
    (subst (λ v. IsEqual v k) (whole_is g ok m fit x (values_from (with_primes m x) (λ j t. over 1 1) 0 f.defs) s within f.main e.factors
    (subst (λ n. NamesOnce n x f.main) (sym fit.vertices) once)
    (subst (λ n. AreFactorsOf n x (factors_in (body_in f.main)) e.factors) (sym fit.vertices) are.factors)
    (λ v h. subst (λ n. v < n) (sym fit.vertices) (low v (ap (λ u. has u v) are.summed ∙ h)))
    (λ v h. off v (ap (λ u. has u v) are.summed ∙ h))) equals))))
  where
    sum_of : ℕ → Fraction
    sum_of u = add_over (has u) m.size m.vertices (λ c. factors_product (weights_of m) e.factors c (as_observed m.vertices x s)) s
