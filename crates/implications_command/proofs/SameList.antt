-- A graph has one list of implications.
use Rattle.std.proofs.Common.{◌≡◌, ◌<◌, ℕ, zero, suc, List, [], ◌∷◌, length, get_or, inl, inr, refl, sym, ap₂, ◌∙◌, subst, arith}
use Rattle.std.specs.Prelude.{All}
use Rattle.std.specs.List.{Any, AllPairs}
use Rattle.mixed_graph.specs.Vocabulary.{has, MixedGraph}
use Rattle.mixed_graph.proofs.Masks.{same_from_has}
use Rattle.implications.specs.declared.pairs.Implication.{Implication}
use Rattle.implications.specs.Vocabulary.{IsGivenSet, IsImplication, IsOf, IsBefore, AreImplications}
use Rattle.implications_command.proofs.OneList.{one_given}

-- implications of one pair are the same
same_implication : (g : MixedGraph) (i j : Implication) → IsImplication g i → IsImplication g j → IsOf i.a i.b j → j ≡ i
same_implication g i j p q e =
    let given : IsGivenSet g i.a i.b (has j.given.bits) =
    subst (λ (k : ℕ). IsGivenSet g i.a k (has j.given.bits)) e.1 (subst (λ (k : ℕ). IsGivenSet g k j.b (has j.given.bits)) e.0 q.given) in
    let bits : j.given.bits ≡ i.given.bits = same_from_has j.given.bits i.given.bits
    (one_given g i.a i.b (has j.given.bits) (has i.given.bits) given p.given) in
    λ k. record { a = e.0 k; b = e.1 k; given = record { bits = bits k } }

-- of two pairs one at most is before the other
before_once : (i j k : Implication) → IsOf i.a i.b k → IsBefore i j → IsBefore j k → ⊥
before_once i j k e (inl p) (inl q) = let a = e.0 in omega (arith, a, p, q)
before_once i j k e (inl p) (inr q) = let a = e.0 in omega (arith, a, p, q.0)
before_once i j k e (inr p) (inl q) = let a = e.0 in omega (arith, a, p.0, q)
before_once i j k e (inr p) (inr q) = let b = e.1 in omega (arith, b, p.1, q.1)

-- a pair is never before itself
never_before : (i j k : Implication) → IsOf i.a i.b k → IsOf i.a i.b j → IsBefore j k → ⊥
never_before i j k e f (inl p) = let a = e.0 in let b = f.0 in omega (arith, a, b, p)
never_before i j k e f (inr p) = let a = e.1 in let b = f.1 in omega (arith, a, b, p.1)

-- each pair of the one list is one of the other
abbrev AreAmong : List Implication → List Implication → Type 0
AreAmong list others = All (λ i. Any (IsOf i.a i.b) others) list

module _ (g : MixedGraph) where
  lists_same : (list others : List Implication) → All (IsImplication g) list → All (IsImplication g) others → AllPairs IsBefore list
      → AllPairs IsBefore others → AreAmong list others → AreAmong others list → others ≡ list
  lists_same [] [] p q s t a b = refl
  lists_same [] (y ∷ ys) p q s t a b = absurd (let n = b 0 y (omega arith) in let lt = n.2 in omega (arith, lt))
  lists_same (x ∷ xs) [] p q s t a b = absurd (let n = a 0 x (omega arith) in let lt = n.2 in omega (arith, lt))
  lists_same (x ∷ xs) (y ∷ ys) p q s t a b = ap₂ (λ (i : Implication) (is : List Implication). i ∷ is) head
      (lists_same xs ys (λ k d lt. p (suc k) d (omega (arith, lt))) (λ k d lt. q (suc k) d (omega (arith, lt)))
      (λ i j d less lt. s (suc i) (suc j) d (omega (arith, less)) (omega (arith, lt)))
      (λ i j d less lt. t (suc i) (suc j) d (omega (arith, less)) (omega (arith, lt))) tail_among tail_too)
    where
      -- the first of both have one pair
      first : (k : ℕ) (e : Implication) → k < length (y ∷ ys) → get_or (y ∷ ys) k e ≡ e → IsOf x.a x.b e → (m : ℕ) (f : Implication)
          → m < length (x ∷ xs) → get_or (x ∷ xs) m f ≡ f → IsOf y.a y.b f → IsOf x.a x.b y
      first zero e lt at is m f less there has_y = subst (IsOf x.a x.b) (sym at) is
      first (suc k) e lt at is zero f less there has_y = let r = subst (IsOf y.a y.b) (sym there) has_y in (sym r.0, sym r.1)
      first (suc k) e lt at is (suc m) f less there has_y =
          absurd (before_once x y x (refl, refl) (before_f (subst (IsBefore x) there (s 0 (suc m) f (omega arith) less)))
          (before_e (subst (IsBefore y) at (t 0 (suc k) e (omega arith) lt))))
        where
          before_f : IsBefore x f → IsBefore x y
          before_f (inl r) = inl (let u = has_y.0 in omega (arith, r, u))
          before_f (inr r) = inr (r.0 ∙ has_y.0, (let r1 = r.1 in let u = has_y.1 in omega (arith, r1, u)))

          before_e : IsBefore y e → IsBefore y x
          before_e (inl r) = inl (let u = is.0 in omega (arith, r, u))
          before_e (inr r) = inr (r.0 ∙ is.0, (let r1 = r.1 in let u = is.1 in omega (arith, r1, u)))

      same_first : IsOf x.a x.b y
      same_first = let n = a 0 x (omega arith) in let m = b 0 y (omega arith) in first n.0 n.1 n.2 n.3 n.4 m.0 m.1 m.2 m.3 m.4

      head : y ≡ x
      head = same_implication g x y (p 0 x (omega arith)) (q 0 y (omega arith)) same_first

      -- a later pair of the one is a later one of the other
      later : (z w : Implication) (zs : List Implication) (i : Implication) → IsOf z.a z.b w → IsBefore z i → (k : ℕ) (e : Implication)
          → k < length (w ∷ zs) → get_or (w ∷ zs) k e ≡ e → IsOf i.a i.b e → Any (IsOf i.a i.b) zs
      later z w zs i same before zero e lt at is =
          absurd (never_before z z i (let r = subst (IsOf i.a i.b) (sym at) is in (sym r.0 ∙ same.0, sym r.1 ∙ same.1)) (refl, refl) before)
      later z w zs i same before (suc k) e lt at is = (k, e, (let l = lt in omega (arith, l)), at, is)

      tail_among : AreAmong xs ys
      tail_among k d lt =
          let i = get_or xs k d in
          let n = a (suc k) d (omega (arith, lt)) in
          later x y ys i same_first (s 0 (suc k) d (omega arith) (omega (arith, lt))) n.0 n.1 n.2 n.3 n.4

      tail_too : AreAmong ys xs
      tail_too k d lt =
          let i = get_or ys k d in
          let n = b (suc k) d (omega (arith, lt)) in
          later y x xs i (sym same_first.0, sym same_first.1) (t 0 (suc k) d (omega arith) (omega (arith, lt))) n.0 n.1 n.2 n.3 n.4

  -- each implication of the graph is in its list
  among : (list others : List Implication) → All (IsImplication g) list → AreImplications g others → AreAmong list others
  among list others each are k d lt =
      let i = get_or list k d in
      let imp = each k d lt in
      are.all i.a i.b (record { order = imp.order; vertex = imp.vertex; set = has i.given.bits; separating = imp.given.separating })

  -- two lists of implications of a graph are the same
  pub one_list : (list others : List Implication) → AreImplications g list → AreImplications g others → others ≡ list
  one_list list others is are = lists_same list others is.each are.each is.sorted are.sorted (among list others is.each are) (among others list are.each is)
