-- Each term of the formula names each vertex once at most.
use Rattle.std.proofs.Common.{ℕ, ◌≡◌, ◌<◌, Bool, true, false, cond, not, refl, sym, ap, ◌∙◌, ◌||◌, ◌&&◌, subst, arith, nat_lt, List, [], ◌∷◌}
use Rattle.std.proofs.lemmas.Bool.{eqb-true}
use Rattle.mixed_graph.specs.Vocabulary.{has, MixedGraph, IsMixedGraph, union, minus, one, common, is_empty}
use Rattle.mixed_graph.proofs.MaskLaws.{has_join, has_minus, has_one}
use Rattle.finite_models.proofs.Bools.{and_first, and_second, either}
use Rattle.prob_expr.specs.Tree.{Tree, tree, prob, sum}
use Rattle.prob_expr.specs.Vocabulary.{Trees, no_trees, PlainFormula}
use Rattle.do_derivation.specs.Vocabulary.{as_one}
use Rattle.identification_theory.specs.Vocabulary.{sum_if}
use Rattle.identification_theory.proofs.Orders.{IsOrderFrom, order_of}
use Rattle.treated_models.specs.Vocabulary.{IsSingle, NamesOnce, EachNamesOnce, FormulaNamesOnce, prime_of}
use Rattle.treated_models.proofs.Primes.{prime_behind}
use Rattle.treated_id.specs.Right.{IsTreatedTarget}
use Rattle.treated_id.specs.Terms.{AreNames, AreTerms, with_first, IsFormula}
use Rattle.treated_id.specs.Terms.AreTerms.{none, skip, take}
use Rattle.treated_id.proofs.Ancestors.{ancestors_low}
use Rattle.treated_id.proofs.NoFault.{pillow_low}
use Rattle.treated_id.proofs.TermWeights.{names_plain, names_primed}

-- names of vertices beside the names of a set that they aren't in
module _ (n x of seen set names : ℕ) (are : AreNames n x seen set names) (low : (w : ℕ) → has set w ≡ true → w < n)
    (x_low : (w : ℕ) → has x w ≡ true → w < n) (of_low : (w : ℕ) → has of w ≡ true → w < n) (off : (w : ℕ) → has of w ≡ true → has set w ≡ false) where
  pub single : IsSingle n x (λ k. has of k || has names k)
  single w e =
      ap (λ b. has x w && (b || has names (prime_of n x w))) (behind (has of (prime_of n x w)) refl)
      ∙ names_primed n x seen set names are low x_low w
      ∙ go (has of w) refl e
    where
      behind : (b : Bool) → has of (prime_of n x w) ≡ b → has of (prime_of n x w) ≡ false
      behind false h = h
      behind true h = absurd (let l = of_low (prime_of n x w) h in omega (arith, l, prime_behind n x w))

      out : (p q : Bool) → q ≡ false → (p && q) ≡ false
      out p q h = grind (arith, h)

      other : (s p : Bool) → (s && not p) ≡ true → (p && s) ≡ false
      other s p h = grind (arith, h)

      go : (b : Bool) → has of w ≡ b → (nat_lt w n && (b || has names w)) ≡ true → ((has x w && has seen w) && has set w) ≡ false
      go true h k = out (has x w && has seen w) (has set w) (off w h)
      go false h k = other (has set w) (has x w && has seen w) (sym (names_plain n x seen set names are low w) ∙ k)

one_once : (n x : ℕ) (ts : Trees) → EachNamesOnce n x ts → NamesOnce n x (as_one ts)
one_once n x no_trees h = tt
one_once n x (tree t no_trees) h = h.0
one_once n x (tree t (tree u ts)) h = h

sum_once : (n x u : ℕ) (e : Tree) → NamesOnce n x e → NamesOnce n x (sum_if u e)
sum_once n x u e h = go (is_empty u)
  where
    go : (b : Bool) → NamesOnce n x (cond b e (sum u e))
    go true = h
    go false = h

module _ (g : MixedGraph) (ok : IsMixedGraph g) (x : ℕ) (x_low : (w : ℕ) → has x w ≡ true → w < g.vertices) where
  terms_once : (s c p : ℕ) (o : List ℕ) (ts : Trees) → IsOrderFrom g p o → AreTerms g x s c p o ts → EachNamesOnce g.vertices x ts
  terms_once s c p [] no_trees order none = tt
  terms_once s c p [] (tree t ts) order h = elim h [ ]
  terms_once s c p (v ∷ o) ts order (skip e r) = terms_once s c (union p (one v)) o ts order.3 r
  terms_once s c p (v ∷ o) (tree f ts) order (take {given = given} e t r) = (
    (
      refl,
      single g.vertices x (one v) t.near t.pillow given t.names (pillow_low g ok x (union c (common s (union p (one v)))) v given order.0 t) x_low
          (λ w i. let q = is_v w i in rw q order.0) (λ w i. ap (has t.pillow) (is_v w i) ∙ not_there (has t.pillow v) refl),
    ),
    terms_once s c (union p (one v)) o ts order.3 r,
  )
    where
      is_v : (w : ℕ) → has (one v) w ≡ true → w ≡ v
      is_v w i = eqb-true w v (sym (has_one v w) ∙ i)

      not_there : (b : Bool) → has t.pillow v ≡ b → has t.pillow v ≡ false
      not_there false h = h
      not_there true h = absurd ((t.is_pillow.sound v h).0 refl)

  -- the formula's terms name each vertex once at most
  pub formula_once : (y z : ℕ) → IsTreatedTarget g x y z → (f : PlainFormula) → IsFormula g x y z f → FormulaNamesOnce g.vertices x f
  formula_once y z target f k =
      subst (λ (h : PlainFormula). FormulaNamesOnce g.vertices x h) same (
        tt,
        sum_once g.vertices x (minus k.by.s (union e y)) (as_one (with_first rest k.by.given k.by.terms))
            (one_once g.vertices x (with_first rest k.by.given k.by.terms) (go (is_empty rest))),
      )
    where
      e : ℕ
      e = union x z

      rest : ℕ
      rest = minus k.by.c e

      same : ◌≡◌ {A = PlainFormula}
          (record { defs = []; main = sum_if (minus k.by.s (union e y)) (as_one (with_first rest k.by.given k.by.terms)) }) f
      same = λ i. record { defs = sym k.by.defs i; main = sym k.by.main i }

      ts : EachNamesOnce g.vertices x k.by.terms
      ts = terms_once k.by.s k.by.c 0 k.order k.by.terms (order_of g k.order k.is_order) k.by.are_terms

      e_low : (w : ℕ) → has e w ≡ true → w < g.vertices
      e_low w i = either (has x w) (has z w) (w < g.vertices) (sym (has_join x z w) ∙ i) (target.x_low w) (target.z_low w)

      go : (b : Bool) → EachNamesOnce g.vertices x (cond b k.by.terms (tree (prob rest 0 k.by.given) k.by.terms))
      go true = ts
      go false = (
        (
          refl,
          single g.vertices x rest x e k.by.given k.by.are_given e_low x_low
              (λ w i. ancestors_low g ok k.by.c (has e) k.by.are_c w (and_first (has k.by.c w) (not (has e w)) (sym (has_minus k.by.c e w) ∙ i)))
              (λ w i. off (has e w) (and_second (has k.by.c w) (not (has e w)) (sym (has_minus k.by.c e w) ∙ i))),
        ),
        ts,
      )
        where
          off : (b : Bool) → not b ≡ true → b ≡ false
          off b h = grind (arith, h)
