-- Orders of the vertices in which each comes after its parents. The procedure's laws hold for any; the graph's own order is one, and the only one of its kind.
use Rattle.std.proofs.Common.{ℕ, zero, suc, ◌≡◌, ◌<◌, Bool, true, false, ◌||◌, ◌==◌, List, [], ◌∷◌, length, slice_index, ◌⊎◌, inl, inr, refl, sym, ap}
use Rattle.std.proofs.Common.{ap₂, subst, ◌∙◌, arith, IsTrue, nat_lt}
use mathlib.Core.Path.{fun_ext}
use Rattle.identification_theory.proofs.Bools.{clash, decide, or_e}
use Rattle.std.proofs.lemmas.Bool.{cases_order, eqb-true}
use Rattle.mixed_graph.proofs.Masks.{has-or, has-zero, has-ones, has-pow, same_from_has}
use Rattle.mixed_graph.specs.Vocabulary.{has, MixedGraph, taken_by, IsNext, IsOrder, union, one, all}

-- the list orders the vertices outside p: each once, after its parents
abbrev pub IsOrderFrom : MixedGraph → ℕ → List ℕ → Type 0
IsOrderFrom g p [] = p ≡ all g.vertices
IsOrderFrom g p (v ∷ o) = (v < g.vertices) × (has p v ≡ false) × ((u : ℕ) → IsTrue (g.arrow u v) → IsTrue (has p u)) × IsOrderFrom g (union p (one v)) o

-- one entry further: the first one counts apart
taken_shift : (v : ℕ) (rest : List ℕ) (j u : ℕ) → taken_by (v ∷ rest) (suc j) u ≡ ((u == v) || taken_by rest j u)
taken_shift v rest zero u = bools (u == v)
  where
    bools : (b : Bool) → (false || b) ≡ (b || false)
    bools b = grind arith
taken_shift v rest (suc j) u = ap (λ b. b || (u == slice_index rest j)) (taken_shift v rest j u) ∙ bools (u == v) (taken_by rest j u) (u == slice_index rest j)
  where
    bools : (x y z : Bool) → ((x || y) || z) ≡ (x || (y || z))
    bools x y z = grind arith

-- the list orders the vertices outside p as the graph's order does: each the lowest whose parents come before
record IsRest (g : MixedGraph) (p : ℕ) (rest : List ℕ) : Type 0 where
  next : (j : ℕ) → j < length rest → IsNext g (λ u. has p u || taken_by rest j u) (slice_index rest j)
  all_in : (v : ℕ) → v < g.vertices → IsTrue (has p v || taken_by rest (length rest) v)
  low : (v : ℕ) → IsTrue (has p v) → v < g.vertices

module _ (g : MixedGraph) where
  first_next : (p v : ℕ) (rest : List ℕ) → IsRest g p (v ∷ rest) → IsNext g (λ u. has p u || false) v
  first_next p v rest r = r.next 0 (omega arith)

  is_free : (p v : ℕ) (rest : List ℕ) → IsRest g p (v ∷ rest) → has p v ≡ false
  is_free p v rest r = bools (has p v) (first_next p v rest r).free
    where
      bools : (b : Bool) → (b || false) ≡ false → b ≡ false
      bools b h = grind (arith, h)

  taken_join : (p v : ℕ) (rest : List ℕ) (j u : ℕ) → (has p u || taken_by (v ∷ rest) (suc j) u) ≡ (has (union p (one v)) u || taken_by rest j u)
  taken_join p v rest j u = ap (λ b. has p u || b) (taken_shift v rest j u)
      ∙ (bools (has p u) (u == v) (taken_by rest j u) ∙ sym (ap (λ b. b || taken_by rest j u) (has-or p (one v) u ∙ ap (λ b. has p u || b) (has-pow v u))))
    where
      bools : (x y z : Bool) → (x || (y || z)) ≡ ((x || y) || z)
      bools x y z = grind arith

  rest_next : (p v : ℕ) (rest : List ℕ) → IsRest g p (v ∷ rest) → IsRest g (union p (one v)) rest
  rest_next p v rest r = record {
    next = λ j l. subst (λ (t : ℕ → Bool). IsNext g t (slice_index rest j)) (fun_ext (taken_join p v rest j)) (r.next (suc j) (omega (arith, l)));
    all_in = λ u l. subst (λ b. IsTrue b) (taken_join p v rest (length rest) u) (r.all_in u l);
    low = λ u h. go u (or_e (has p u) (has (one v) u) (sym (has-or p (one v) u) ∙ h));
  }
    where
      go : (u : ℕ) → (has p u ≡ true) ⊎ (has (one v) u ≡ true) → u < g.vertices
      go u (inl e) = r.low u e
      go u (inr e) = rw (eqb-true u v (sym (has-pow v u) ∙ e)) (first_next p v rest r).below

  order_of_rest : (p : ℕ) (rest : List ℕ) → IsRest g p rest → IsOrderFrom g p rest
  order_of_rest p [] r = same_from_has p (all g.vertices) (λ v. same v (decide (nat_lt v g.vertices)))
    where
      bare : (b : Bool) → (b || false) ≡ true → b ≡ true
      bare b h = grind (arith, h)

      same : (v : ℕ) → (nat_lt v g.vertices ≡ true) ⊎ (nat_lt v g.vertices ≡ false) → has p v ≡ has (all g.vertices) v
      same v (inl e) = bare (has p v) (r.all_in v (grind (arith, e))) ∙ sym (has-ones g.vertices v ∙ e)
      same v (inr e) = none (decide (has p v)) ∙ sym (has-ones g.vertices v ∙ e)
        where
          none : (has p v ≡ true) ⊎ (has p v ≡ false) → has p v ≡ false
          none (inl i) = absurd (let l : v < g.vertices = r.low v i in grind (arith, l, e))
          none (inr i) = i
  order_of_rest p (v ∷ rest) r = (
    n.below,
    is_free p v rest r,
    λ u a. bare (has p u) (n.parents u a),
    order_of_rest (union p (one v)) rest (rest_next p v rest r),
  )
    where
      n : IsNext g (λ u. has p u || false) v
      n = first_next p v rest r

      bare : (b : Bool) → (b || false) ≡ true → b ≡ true
      bare b h = grind (arith, h)

  next_same : (taken : ℕ → Bool) (v w : ℕ) → IsNext g taken v → IsNext g taken w → v ≡ w
  next_same taken v w a b = go (cases_order v w)
    where
      no : (v w : ℕ) → IsNext g taken v → IsNext g taken w → v < w → ⊥
      no v w a b l = let q = b.lowest v l a.free in clash (taken q.0) (a.parents q.0 q.1) q.2

      go : (v ≡ w) ⊎ ((v < w) ⊎ (w < v)) → v ≡ w
      go (inl e) = e
      go (inr (inl l)) = absurd (no v w a b l)
      go (inr (inr l)) = absurd (no w v b a l)

  not_shorter : (p v : ℕ) (rest : List ℕ) → IsRest g p [] → IsRest g p (v ∷ rest) → ⊥
  not_shorter p v rest a b = let n = first_next p v rest b in clash (has p v || false) (a.all_in v n.below) n.free

  rest_same : (p : ℕ) (a b : List ℕ) → IsRest g p a → IsRest g p b → a ≡ b
  rest_same p [] [] h k = refl
  rest_same p [] (w ∷ b) h k = absurd (not_shorter p w b h k)
  rest_same p (v ∷ a) [] h k = absurd (not_shorter p v a k h)
  rest_same p (v ∷ a) (w ∷ b) h k =
      let e : v ≡ w = next_same (λ u. has p u || false) v w (first_next p v a h) (first_next p w b k) in
      ap₂ (λ x l. x ∷ l) e (rest_same (union p (one v)) a b (rest_next p v a h) (subst (λ x. IsRest g (union p (one x)) b) (sym e) (rest_next p w b k)))

  rest_of : (o : List ℕ) → IsOrder g o (length o) → IsRest g 0 o
  rest_of o h = record {
    next = λ j l. subst (λ (t : ℕ → Bool). IsNext g t (slice_index o j)) (fun_ext (λ u. sym (bare u (taken_by o j u)))) (h.next j l);
    all_in = λ v l. bare v (taken_by o (length o) v) ∙ h.all v l;
    low = λ v e. absurd (clash (has 0 v) e (has-zero v));
  }
    where
      bare : (u : ℕ) (b : Bool) → (has 0 u || b) ≡ b
      bare u b = rw (has-zero u) refl

  -- the graph's order is such an order
  pub order_of : (o : List ℕ) → IsOrder g o (length o) → IsOrderFrom g 0 o
  order_of o h = order_of_rest 0 o (rest_of o h)

  -- there is one order of the graph
  pub one_order : (a b : List ℕ) → IsOrder g a (length a) → IsOrder g b (length b) → a ≡ b
  one_order a b h k = rest_same 0 a b (rest_of a h) (rest_of b k)
