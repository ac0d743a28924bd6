-- The check of formulas finds no fault in the formula.
use Rattle.std.proofs.Common.{ℕ, ◌≡◌, ◌<◌, ◌≤◌, Bool, true, false, cond, eqb, not, refl, sym, ap, ◌∙◌, ◌||◌, ◌&&◌, subst, arith, List, [], ◌∷◌}
use Rattle.std.proofs.Common.{◌⊎◌, inl, inr}
use Rattle.std.specs.Prelude.{None}
use Rattle.std.proofs.lemmas.Bool.{eqb-true}
use Rattle.mixed_graph.specs.Vocabulary.{has, MixedGraph, IsMixedGraph, union, minus, one, common, is_empty}
use Rattle.mixed_graph.proofs.MaskLaws.{has_join, has_minus, has_none, has_one, empty_has}
use Rattle.finite_models.proofs.Bools.{and_first, and_second, either, not_both}
use Rattle.hedge.specs.Vocabulary.{IsLinked, at, by}
use Rattle.prob_expr.specs.Vocabulary.{fault_in, is_term, Trees, no_trees, PlainFormula}
use Rattle.prob_expr.specs.Tree.{Tree, tree, prob, sum}
use Rattle.do_derivation.specs.Vocabulary.{as_one, count_factors}
use Rattle.identification_theory.specs.Vocabulary.{sum_if}
use Rattle.identification_theory.proofs.Faults.{no_fault}
use Rattle.identification_theory.proofs.Formed.{IsFormed, AreFormed, IsFormedFormula, is_term_from}
use Rattle.identification_theory.proofs.Orders.{IsOrderFrom, order_of}
use Rattle.identification_theory.proofs.Sets.{all-is, apart, below, not_empty, one-is, one-self}
use Rattle.treated_models.specs.Vocabulary.{name_count, prime_of}
use Rattle.treated_models.proofs.Primes.{prime_behind, prime_low}
use Rattle.treated_id.specs.Right.{IsTreatedTarget}
use Rattle.treated_id.specs.Terms.{name_of, AreNames, IsParentOf, IsTerm, AreTerms, with_first, IsFormula}
use Rattle.treated_id.specs.Terms.AreTerms.{none, skip, take}
use Rattle.treated_id.proofs.Ancestors.{ancestors_low, ancestors_own}

-- ---- names
module _ (n x seen set names : ℕ) (are : AreNames n x seen set names) where
  names_low : ((u : ℕ) → has set u ≡ true → u < n) → (k : ℕ) → has names k ≡ true → k < name_count n x
  names_low low k i = let s = are.sound k i in go s.0 s.1 s.2 (has x s.0 && has seen s.0) refl
    where
      go : (u : ℕ) → has set u ≡ true → k ≡ name_of n x seen u → (b : Bool) → (has x u && has seen u) ≡ b → k < name_count n x
      go u j e true b =
          let p : k ≡ prime_of n x u = rw b at e in
          let l = prime_low n x u (low u j) (and_first (has x u) (has seen u) b) in
          omega (arith, p, l)
      go u j e false b = let p : k ≡ u = rw b at e in let l = low u j in omega (arith, p, l)

  -- own names are those of members
  names_own : (k : ℕ) → k < n → has names k ≡ true → has set k ≡ true
  names_own k il i = let s = are.sound k i in go s.0 s.1 s.2 (has x s.0 && has seen s.0) refl
    where
      go : (u : ℕ) → has set u ≡ true → k ≡ name_of n x seen u → (b : Bool) → (has x u && has seen u) ≡ b → has set k ≡ true
      go u j e true b = let p : k ≡ prime_of n x u = rw b at e in absurd (omega (arith, p, il, prime_behind n x u))
      go u j e false b = let p : k ≡ u = rw b at e in ap (has set) p ∙ j

-- a term of a set that isn't empty, given another below n that is apart from it
term_formed : (n of given k : ℕ) → has of k ≡ true → ((v : ℕ) → has of v ≡ true → v < n) → ((v : ℕ) → has given v ≡ true → v < n)
    → ((v : ℕ) → has of v ≡ true → has given v ≡ true → ⊥) → is_term n of 0 given ≡ true
term_formed n of given k some of_low given_low off = is_term_from n of 0 given (below n of of_low)
    (below n 0 (λ v e. absurd (not_both (has 0 v) e (has_none v)))) (below n given given_low) (not_empty of k some)
    (apart of 0 (λ v e i. not_both (has 0 v) i (has_none v))) (apart of given off) (apart 0 given (λ v e i. not_both (has 0 v) e (has_none v)))

-- ---- products and sums
one_formed : (n : ℕ) (ts : Trees) → 1 ≤ count_factors ts → AreFormed n 0 ts → IsFormed n 0 (as_one ts)
one_formed n no_trees le h = absurd (omega (arith, le))
one_formed n (tree t no_trees) le h = h.0
one_formed n (tree t (tree u ts)) le h = (omega arith, h)

sum_formed : (n u : ℕ) (e : Tree) → ((v : ℕ) → has u v ≡ true → v < n) → IsFormed n 0 e → IsFormed n 0 (sum_if u e)
sum_formed n u e low h = go (is_empty u) refl
  where
    go : (b : Bool) → is_empty u ≡ b → IsFormed n 0 (cond b e (sum u e))
    go true q = h
    go false q = (below n u low, q, h)

module _ (g : MixedGraph) (ok : IsMixedGraph g) (x : ℕ) where
  linked_low : (a v u : ℕ) → v < g.vertices → IsLinked g (has a) (has (one v)) u → u < g.vertices
  linked_low a v u il (at e) = rw (one-is v u e) il
  linked_low a v u il (by {v = w} i edge r) = ok.both_below u w edge

  -- the members of a pillow are vertices
  pub pillow_low : (a v given : ℕ) → v < g.vertices → (t : IsTerm g x a v given) → (u : ℕ) → has t.pillow u ≡ true → u < g.vertices
  pillow_low a v given il t u i = go (t.is_pillow.sound u i).1
    where
      go : (has t.near u ≡ true) ⊎ IsParentOf g t.near u → u < g.vertices
      go (inl j) = linked_low a v u il (t.district.sound u j)
      go (inr k) = ok.tail_below u k.0 k.2

  terms_formed : (s c p : ℕ) (o : List ℕ) (ts : Trees) → IsOrderFrom g p o → AreTerms g x s c p o ts → AreFormed (name_count g.vertices x) 0 ts
  terms_formed s c p [] no_trees order none = tt
  terms_formed s c p [] (tree t ts) order h = elim h [ ]
  terms_formed s c p (v ∷ o) ts order (skip e r) = terms_formed s c (union p (one v)) o ts order.3 r
  terms_formed s c p (v ∷ o) (tree f ts) order (take {given = given} e t r) = (
    term_formed (name_count g.vertices x) (one v) given v (one-self v)
        (λ u i. let q = one-is v u i in let l = order.0 in omega (arith, q, l))
        (names_low g.vertices x t.near t.pillow given t.names (pillow_low (union c (common s (union p (one v)))) v given order.0 t))
        (λ u i j. let q = one-is v u i in
        (t.is_pillow.sound u (names_own g.vertices x t.near t.pillow given t.names u (let l = order.0 in omega (arith, q, l)) j)).0 q),
    terms_formed s c (union p (one v)) o ts order.3 r,
  )

  -- a member of s outside c has a term
  some_term : (s c v p : ℕ) (o : List ℕ) (ts : Trees) → has (minus s c) v ≡ true → v < g.vertices → has p v ≡ false → IsOrderFrom g p o
      → AreTerms g x s c p o ts → 1 ≤ count_factors ts
  some_term s c v p [] no_trees i il out order none = absurd (not_both (has p v) (ap (λ k. has k v) order ∙ all-is g.vertices v il) out)
  some_term s c v p [] (tree t ts) i il out order h = elim h [ ]
  some_term s c v p (w ∷ o) ts i il out order (skip e r) = go (eqb v w) refl (λ n. some_term s c v (union p (one w)) o ts i il n order.3 r)
    where
      go : (b : Bool) → eqb v w ≡ b → (has (union p (one w)) v ≡ false → 1 ≤ count_factors ts) → 1 ≤ count_factors ts
      go true q ih = absurd (not_both (has (minus s c) v) i (ap (has (minus s c)) (eqb-true v w q) ∙ e))
      go false q ih = ih (has_join p (one w) v ∙ off (has p v) (has (one w) v) out (has_one w v ∙ q))
        where
          off : (a b : Bool) → a ≡ false → b ≡ false → (a || b) ≡ false
          off a b h j = grind (arith, h, j)
  some_term s c v p (w ∷ o) (tree f ts) i il out order (take e t r) = omega arith

  -- the formula has no fault, over names and primed names
  pub formula_formed : (y z : ℕ) → IsTreatedTarget g x y z → (v : ℕ) → has y v ≡ true → (f : PlainFormula) → IsFormula g x y z f
      → fault_in (name_count g.vertices x) f ≡ None
  formula_formed y z target v yv f k = no_fault (name_count g.vertices x) f
      (subst (λ (h : PlainFormula). IsFormedFormula (name_count g.vertices x) h) same (
        tt,
        sum_formed (name_count g.vertices x) (minus k.by.s (union e y)) (as_one (with_first rest k.by.given k.by.terms))
            (λ u i. wide u (s_low u (and_first (has k.by.s u) (not (has (union e y) u)) (sym (has_minus k.by.s (union e y) u) ∙ i))))
            (one_formed (name_count g.vertices x) (with_first rest k.by.given k.by.terms) some formed),
      ))
    where
      e : ℕ
      e = union x z

      rest : ℕ
      rest = minus k.by.c e

      same : ◌≡◌ {A = PlainFormula}
          (record { defs = []; main = sum_if (minus k.by.s (union e y)) (as_one (with_first rest k.by.given k.by.terms)) }) f
      same = λ i. record { defs = sym k.by.defs i; main = sym k.by.main i }

      wide : (u : ℕ) → u < g.vertices → u < name_count g.vertices x
      wide u il = omega (arith, il)

      s_low : (u : ℕ) → has k.by.s u ≡ true → u < g.vertices
      s_low = ancestors_low g ok k.by.s (has (union e y)) k.by.are_s

      left : (p q : Bool) → p ≡ true → (p || q) ≡ true
      left p q h = grind (arith, h)

      right : (p q : Bool) → q ≡ true → (p || q) ≡ true
      right p q h = grind (arith, h)

      c_low : (u : ℕ) → has k.by.c u ≡ true → u < g.vertices
      c_low = ancestors_low g ok k.by.c (has e) k.by.are_c

      e_low : (u : ℕ) → has e u ≡ true → u < g.vertices
      e_low u i = either (has x u) (has z u) (u < g.vertices) (sym (has_join x z u) ∙ i) (target.x_low u) (target.z_low u)

      ordered : IsOrderFrom g 0 k.order
      ordered = order_of g k.order k.is_order

      y_off_e : has e v ≡ false
      y_off_e = go (has e v) refl
        where
          go : (b : Bool) → has e v ≡ b → has e v ≡ false
          go false q = q
          go true q = absurd (either (has x v) (has z v) ⊥ (sym (has_join x z v) ∙ q) (λ i. not_both (has y v) yv (target.x_off_y v i))
              (λ i. not_both (has y v) yv (target.z_off_y v i)))

      y_in_s : has k.by.s v ≡ true
      y_in_s = ancestors_own g ok k.by.s (has (union e y)) k.by.are_s v (target.y_low v yv) (has_join e y v ∙ right (has e v) (has y v) yv)

      some : 1 ≤ count_factors (with_first rest k.by.given k.by.terms)
      some = go (is_empty rest) refl
        where
          go : (b : Bool) → is_empty rest ≡ b → 1 ≤ count_factors (cond b k.by.terms (tree (prob rest 0 k.by.given) k.by.terms))
          go true q = some_term k.by.s k.by.c v 0 k.order k.by.terms
              (has_minus k.by.s k.by.c v ∙ pair (has k.by.s v) (has k.by.c v) (has e v) y_in_s y_off_e (sym (has_minus k.by.c e v) ∙ empty_has rest v q))
              (target.y_low v yv) (has_none v) ordered k.by.are_terms
            where
              pair : (p c i : Bool) → p ≡ true → i ≡ false → (c && not i) ≡ false → (p && not c) ≡ true
              pair p c i h j l = grind (arith, h, j, l)
          go false q = omega arith

      formed : AreFormed (name_count g.vertices x) 0 (with_first rest k.by.given k.by.terms)
      formed = go (is_empty rest) refl
        where
          go : (b : Bool) → is_empty rest ≡ b → AreFormed (name_count g.vertices x) 0 (cond b k.by.terms (tree (prob rest 0 k.by.given) k.by.terms))
          go true q = terms_formed k.by.s k.by.c 0 k.order k.by.terms ordered k.by.are_terms
          go false q = (
            is_term_from (name_count g.vertices x) rest 0 k.by.given
                (below (name_count g.vertices x) rest (λ u i. wide u (c_low u (in_c u i))))
                (below (name_count g.vertices x) 0 (λ u i. absurd (not_both (has 0 u) i (has_none u))))
                (below (name_count g.vertices x) k.by.given (names_low g.vertices x x e k.by.given k.by.are_given e_low)) q
                (apart rest 0 (λ u i j. not_both (has 0 u) j (has_none u)))
                (apart rest k.by.given (λ u i j. not_both (has e u)
                (names_own g.vertices x x e k.by.given k.by.are_given u (c_low u (in_c u i)) j) (off_e u i)))
                (apart 0 k.by.given (λ u i j. not_both (has 0 u) i (has_none u))),
            terms_formed k.by.s k.by.c 0 k.order k.by.terms ordered k.by.are_terms,
          )
            where
              in_c : (u : ℕ) → has rest u ≡ true → has k.by.c u ≡ true
              in_c u i = and_first (has k.by.c u) (not (has e u)) (sym (has_minus k.by.c e u) ∙ i)

              off_e : (u : ℕ) → has rest u ≡ true → has e u ≡ false
              off_e u i = off (has e u) (and_second (has k.by.c u) (not (has e u)) (sym (has_minus k.by.c e u) ∙ i))
                where
                  off : (b : Bool) → not b ≡ true → b ≡ false
                  off b h = grind (arith, h)
