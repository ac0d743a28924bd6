-- Places in the order of a graph.
use Rattle.std.proofs.Common.{ℕ, zero, suc, ◌≡◌, ◌≢◌, ◌<◌, ◌≤◌, Bool, true, false, cond, ◌==◌, List, inl, inr, refl, sym, ap, ◌∙◌, arith, IsTrue, get_or}
use Rattle.std.proofs.lemmas.Bool.{cases_Bool, cases_eq, cases_order, eq-eqb, eqb-true}
use Rattle.mixed_graph.specs.Vocabulary.{MixedGraph, IsMixedGraph, taken_by, IsOrder}
use Rattle.markov_equivalence.specs.Laters.{IsAfter}
use Rattle.markov_equivalence.proofs.ParentsSeparate.{Rises}

-- the first place of v among the first k entries, k where it is none of them
abbrev pub place_in : List ℕ → ℕ → ℕ → ℕ
place_in list zero v = 0
place_in list (suc k) v = cond (taken_by list k v) (place_in list k v) (cond (taken_by list (suc k) v) k (suc k))

module _ (list : List ℕ) (v : ℕ) where
  taken_more : (j k : ℕ) → j ≤ k → IsTrue (taken_by list j v) → IsTrue (taken_by list k v)
  taken_more j zero le t = let e : j ≡ 0 = omega arith in rw e at t
  taken_more j (suc k) le t = elim (cases_eq j (suc k)) [
    | inl e ↦ rw e at t
    | inr d ↦ let s = taken_more j k (omega arith) t in grind (arith, s)
  ]

  place_of_none : (k : ℕ) → taken_by list k v ≡ false → place_in list k v ≡ k
  place_of_none zero e = refl
  place_of_none (suc k) e =
      let a : taken_by list k v ≡ false = grind (arith, e) in
      let b : (v == get_or list k 0) ≡ false = grind (arith, e) in
      rw (a, b) refl

  -- what isn't among the first j stands at j or later
  pub place_ge : (j k : ℕ) → j ≤ k → taken_by list j v ≡ false → j ≤ place_in list k v
  place_ge j zero le e = le
  place_ge j (suc k) le e = elim (cases_eq j (suc k)) [
    | inl s ↦ let p = place_of_none (suc k) (rw s at e) in omega (arith, s, p)
    | inr d ↦ least (taken_by list k v) (taken_by list (suc k) v) (place_in list k v) (omega arith) (place_ge j k (omega arith) e)
  ]
    where
      least : (c d : Bool) (p : ℕ) → j ≤ k → j ≤ p → j ≤ cond c p (cond d k (suc k))
      least true d p l q = q
      least false true p l q = l
      least false false p l q = omega arith

  -- what is among the first j stands before j
  pub place_lt : (j k : ℕ) → j ≤ k → IsTrue (taken_by list j v) → place_in list k v < j
  place_lt j zero le t = let e : j ≡ 0 = omega arith in absurd (let t' : IsTrue false = rw e at t in cc)
  place_lt j (suc k) le t = elim (cases_Bool (taken_by list k v)) [
    | inl f ↦ rw f (elim (cases_eq j (suc k)) [
      | inl s ↦ let p = place_lt k k (omega arith) f in omega (arith, s, p)
      | inr d ↦ place_lt j k (omega arith) t
    ])
    | inr f ↦ elim (cases_eq j (suc k)) [
      | inl s ↦ let t' : IsTrue (taken_by list (suc k) v) = rw s at t in
          let h : (v == get_or list k 0) ≡ true = grind (arith, f, t') in rw f (rw h (omega (arith, s)))
      | inr d ↦ absurd (let u = taken_more j k (omega arith) t in grind (arith, u, f))
    ]
  ]

  -- what is among the first k entries has a place there
  pub place_of_taken : (k : ℕ) → IsTrue (taken_by list k v) → (i : ℕ) × (i < k) × (get_or list i 0 ≡ v)
  place_of_taken zero t = absurd (cc)
  place_of_taken (suc k) t = elim (cases_Bool (taken_by list k v)) [
    | inl f ↦ let p = place_of_taken k f in (p.0, omega (arith, p.1), p.2)
    | inr f ↦ (k, omega arith, sym (eqb-true v (get_or list k 0) (grind (arith, f, t))))
  ]

  place_is : (k : ℕ) → IsTrue (taken_by list k v) → get_or list (place_in list k v) 0 ≡ v
  place_is zero t = absurd (cc)
  place_is (suc k) t = elim (cases_Bool (taken_by list k v)) [
    | inl f ↦ rw f (place_is k f)
    | inr f ↦ let h : (v == get_or list k 0) ≡ true = grind (arith, f, t) in rw f (rw h (sym (eqb-true v (get_or list k 0) h)))
  ]

taken_own : (list : List ℕ) (i v : ℕ) → get_or list i 0 ≡ v → IsTrue (taken_by list (suc i) v)
taken_own list i v e = let h = eq-eqb v (get_or list i 0) (sym e) in grind (arith, h)

module _ (k : MixedGraph) (valid : IsMixedGraph k) (list : List ℕ) (count : ℕ) (order : IsOrder k list count) where
  pub rises : Rises k (place_in list count)
  rises u v e =
      let t = order.all v (valid.head_below u v e) in
      let i = place_lt list v count count (omega arith) t in
      let next = order.next (place_in list count v) i in
      let s = place_is list v count t in
      place_lt list u (place_in list count v) count (omega (arith, i)) (next.parents u (rw s e))

  -- the entry at a later place has the higher place
  pub later_place : (i j : ℕ) → i < j → j < count → place_in list count (get_or list i 0) < place_in list count (get_or list j 0)
  later_place i j lt below =
      let a = place_lt list (get_or list i 0) (suc i) count (omega arith) (taken_own list i (get_or list i 0) refl) in
      let b = place_ge list (get_or list j 0) j count (omega arith) (order.next j below).free in
      omega (arith, a, b)

  -- a stands at i, and b not before
  pub after_here : (a b i : ℕ) → i < count → get_or list i 0 ≡ a → a ≢ b → b < k.vertices → ((j : ℕ) → j < i → get_or list j 0 ≢ b) → IsAfter k a b
  after_here a b i inside here differ below none = elim (cases_order i p.0) [
    | inl e ↦ absurd (differ (sym here ∙ ap (λ n. get_or list n 0) e ∙ p.2))
    | inr (inl lt) ↦ record { list = list; count = count; order = order; i = i; j = p.0; ascends = lt; within = p.1; earlier = here; later = p.2 }
    | inr (inr gt) ↦ absurd (none p.0 gt p.2)
  ]
    where
      p : (j : ℕ) × (j < count) × (get_or list j 0 ≡ b)
      p = place_of_taken list b count (order.all b below)
