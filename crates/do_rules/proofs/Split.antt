-- The weight of a closed set as the product of two groups of factors, which share vertices of W alone.
use Rattle.std.proofs.Common.{ℕ, ◌*◌, ◌≡◌, ◌<◌, Bool, true, false, cond, eqb, not, refl, sym, ap, ◌∙◌, ◌||◌, ◌&&◌, arith, eqb-true}
use mathlib.Core.Path.{fun_ext}
use Rattle.std.proofs.lemmas.Bool.{and_from, not-true}
use Rattle.mixed_graph.specs.Vocabulary.{MixedGraph}
use Rattle.finite_models.specs.Vocabulary.{FiniteModel, event_weight, world_weight, sum_over, product_below, set_at}
use Rattle.finite_models.proofs.Bools.{and_first, and_second, not_both}
use Rattle.finite_models.proofs.Factors.{any_below, any_below_from, any_below_gives, check, checks, factor, group, weight_by_checks}
use Rattle.finite_models.proofs.Following.{Follows}
use Rattle.finite_models.proofs.Indicators.{number}
use Rattle.finite_models.proofs.Solutions.{IsRanked, IsClosed}
use Rattle.finite_models.proofs.SumLaws.{over-congr, over-product, product_below-congr, product_below-mul, Ignores, set_at-other}

pub check_congr : (m : FiniteModel) (b : Bool) (v : ℕ) (s t u w : ℕ → ℕ) → (b ≡ true → s v ≡ t v) → (b ≡ true → m.mechanism v s u ≡ m.mechanism v t w)
    → check m b v s u ≡ check m b v t w
check_congr m true v s t u w e f = rw (e refl, f refl) refl
check_congr m false v s t u w e f = refl

pub split_check : (p k : Bool) (x : Bool) → number (cond p x true) ≡ number (cond (p && not k) x true) * number (cond (p && k) x true)
split_check true true x = omega arith
split_check true false x = omega arith
split_check false k x = refl

pub split_weight : (p : Bool) (x : ℕ) → x ≡ cond (not p) x 1 * cond p x 1
split_weight true x = omega arith
split_weight false x = omega arith

pub four : (a b c d : ℕ) → (a * b) * (c * d) ≡ (a * c) * (b * d)
four a b c d = omega arith

module _ (g : MixedGraph) (m : FiniteModel) (rank : ℕ → ℕ) (ranked : IsRanked g rank) (follows : Follows g m) (S K W : ℕ → Bool) (closed : IsClosed g S)
    (by_both : (u v : ℕ) → S u ≡ true → S v ≡ true → g.both u v ≡ true → K u ≡ K v)
    (by_arrow : (p v : ℕ) → S v ≡ true → g.arrow p v ≡ true → W p ≡ false → K p ≡ K v) where
  -- the causes with a child in S and K
  abbrev pub second : ℕ → Bool
  second j = any_below m.vertices (λ v. m.serves j v && (S v && K v))

  abbrev pub first : ℕ → Bool
  first j = not (second j)

  abbrev pub not_K : ℕ → Bool
  not_K v = not (K v)

  serves_second : (j v : ℕ) → v < m.vertices → m.serves j v ≡ true → S v ≡ true → K v ≡ true → second j ≡ true
  serves_second j v b e s k = any_below_from m.vertices (λ v. m.serves j v && (S v && K v)) v b
      (and_from (m.serves j v) (S v && K v) e (and_from (S v) (K v) s k))

  -- a cause of the second group serves no vertex of the first
  apart : (j v : ℕ) → j < m.causes → m.serves j v ≡ true → S v ≡ true → K v ≡ false → second j ≡ true → ⊥
  apart j v jl e s k h = go (any_below_gives m.vertices (λ v. m.serves j v && (S v && K v)) h)
    where
      go : (w : ℕ) × (w < m.vertices) × ((m.serves j w && (S w && K w)) ≡ true) → ⊥
      go (w, b, h') =
          let sw = and_first (m.serves j w) (S w && K w) h' in
          let inside = and_second (m.serves j w) (S w && K w) h' in
          let Sw = and_first (S w) (K w) inside in
          let Kw = and_second (S w) (K w) inside in
          let ne : v ≡ w → ⊥ = λ q. not_both (K v) (ap K q ∙ Kw) k in
          not_both (K v) (by_both v w s Sw (follows.joined j v w jl e sw ne) ∙ Kw) k

  -- the factor of a group does not read the causes of the other
  reads_causes : (J L : ℕ → Bool) (s : ℕ → ℕ) (P : ℕ → Bool) → ((j v : ℕ) → v < m.vertices → j < m.causes → L j ≡ true → (S v && P v) ≡ true → m.serves j v
      ≡ true → ⊥)
      → ((j : ℕ) → L j ≡ true → J j ≡ false) → Ignores m.causes L (factor m J S P s)
  reads_causes J L s P away off u j x jl e =
      ap (λ r. r * checks m (λ v. S v && P v) s (set_at u j x))
      (product_below-congr m.causes (λ i. cond (J i) (m.weight i (set_at u j x i)) 1) (λ i. cond (J i) (m.weight i (u i)) 1) (λ i il. weights i (eqb i j) refl))
      ∙ ap (λ r. product_below m.causes (λ i. cond (J i) (m.weight i (u i)) 1) * r)
      (product_below-congr m.vertices (λ v. check m (S v && P v) v s (set_at u j x)) (λ v. check m (S v && P v) v s u)
      (λ v b. check_congr m (S v && P v) v s s (set_at u j x) u (λ h. refl)
      (λ h. follows.reads v b s s (set_at u j x) u (λ p a. refl) (λ i il serve. set_at-other u j x i (λ q. away j v b jl e h (rw q at serve))))))
    where
      weights : (i : ℕ) (c : Bool) → eqb i j ≡ c → cond (J i) (m.weight i (set_at u j x i)) 1 ≡ cond (J i) (m.weight i (u i)) 1
      weights i true q = let o : J i ≡ false = off i (ap L (eqb-true i j q) ∙ e) in rw o refl
      weights i false q = rw q refl

  -- the factor of a group does not read the vertices outside W of the other
  reads_vertices : (J : ℕ → Bool) (P D : ℕ → Bool) → ((i v : ℕ) → D i ≡ true → S v ≡ true → P v ≡ true → (v ≡ i → ⊥) × (g.arrow i v ≡ true → ⊥))
      → Ignores m.vertices D (group m J S P)
  reads_vertices J P D away s i x il e =
      over-congr J m.values m.causes (factor m J S P (set_at s i x)) (factor m J S P s) (λ j. 0)
      (λ u. ap (λ r. product_below m.causes (λ j. cond (J j) (m.weight j (u j)) 1) * r)
      (product_below-congr m.vertices (λ v. check m (S v && P v) v (set_at s i x) u) (λ v. check m (S v && P v) v s u)
      (λ v b. check_congr m (S v && P v) v (set_at s i x) s u u
      (λ h. set_at-other s i x v (away i v e (and_first (S v) (P v) h) (and_second (S v) (P v) h)).0)
      (λ h. follows.reads v b (set_at s i x) s u u
      (λ p a. set_at-other s i x p (λ q. (away i v e (and_first (S v) (P v) h) (and_second (S v) (P v) h)).1 (rw q at a)))
      (λ j jl serve. refl)))))

  pub first_ignores : (D : ℕ → Bool) → ((i : ℕ) → D i ≡ true → (K i ≡ true) × (W i ≡ false)) → Ignores m.vertices D (group m first S not_K)
  first_ignores D h = reads_vertices first not_K D
      (λ i v d s k. (
        λ q. not_both (K i) (h i d).0 (ap K (sym q) ∙ not-true (K v) k),
        λ a. not_both (K i) (h i d).0 (by_arrow i v s a (h i d).1 ∙ not-true (K v) k),
      ))

  pub second_ignores : (D : ℕ → Bool) → ((i : ℕ) → D i ≡ true → (K i ≡ false) × (W i ≡ false)) → Ignores m.vertices D (group m second S K)
  second_ignores D h = reads_vertices second K D
      (λ i v d s k. (λ q. not_both (K i) (ap K (sym q) ∙ k) (h i d).0, λ a. not_both (K i) (by_arrow i v s a (h i d).1 ∙ k) (h i d).0))

  in_order : (s u : ℕ → ℕ) → world_weight m u * checks m S s u ≡ factor m first S not_K s u * factor m second S K s u
  in_order s u =
      ap (λ r. r * checks m S s u)
      (product_below-congr m.causes (λ j. m.weight j (u j)) (λ j. cond (first j) (m.weight j (u j)) 1 * cond (second j) (m.weight j (u j)) 1)
      (λ j jl. split_weight (second j) (m.weight j (u j)))
      ∙ product_below-mul m.causes (λ j. cond (first j) (m.weight j (u j)) 1) (λ j. cond (second j) (m.weight j (u j)) 1))
      ∙ ap (λ r. (product_below m.causes (λ j. cond (first j) (m.weight j (u j)) 1) * product_below m.causes (λ j. cond (second j) (m.weight j (u j)) 1)) * r)
      (product_below-congr m.vertices (λ v. check m (S v) v s u) (λ v. check m (S v && not_K v) v s u * check m (S v && K v) v s u)
      (λ v b. split_check (S v) (K v) (eqb (s v) (m.mechanism v s u)))
      ∙ product_below-mul m.vertices (λ v. check m (S v && not_K v) v s u) (λ v. check m (S v && K v) v s u))
      ∙ four (product_below m.causes (λ j. cond (first j) (m.weight j (u j)) 1)) (product_below m.causes (λ j. cond (second j) (m.weight j (u j)) 1))
      (checks m (λ v. S v && not_K v) s u) (checks m (λ v. S v && K v) s u)

  or_not : (p : Bool) → true ≡ (not p || p)
  or_not true = refl
  or_not false = refl

  -- the weight of S is the product of the two groups
  pub two_groups : (s : ℕ → ℕ) → event_weight m S s ≡ group m first S not_K s * group m second S K s
  two_groups s =
      weight_by_checks g m rank ranked follows S s closed
      ∙ over-congr (λ j. true) m.values m.causes (λ u. world_weight m u * checks m S s u) (λ u. factor m first S not_K s u * factor m second S K s u) (λ j. 0)
      (in_order s)
      ∙ ap (λ U. sum_over U m.values m.causes (λ u. factor m first S not_K s u * factor m second S K s u) (λ j. 0)) (fun_ext (λ j. or_not (second j)))
      ∙ over-product first second m.values m.causes (factor m first S not_K s) (factor m second S K s) (λ j. 0)
      (λ j a b. not_both (second j) b (not-true (second j) a))
      (reads_causes first second s not_K
      (λ j v b jl e h serve. apart j v jl serve (and_first (S v) (not_K v) h) (not-true (K v) (and_second (S v) (not_K v) h)) e)
      (λ j e. rw e refl))
      (reads_causes second first s K
      (λ j v b jl e h serve. not_both (second j) (serves_second j v b serve (and_first (S v) (K v) h) (and_second (S v) (K v) h)) (not-true (second j) e))
      (λ j e. not-true (second j) e))
