-- The steps of a factor's body are accepted, and make it.
use Rattle.std.proofs.Common.{ℕ, suc, ◌≡◌, ◌<◌, Bool, true, false, cond, eqb, ltb, not, refl, sym, ap, subst, ◌∙◌, ◌||◌, ◌&&◌, ◌⊎◌, inl, inr, List}
use Rattle.std.proofs.Common.{length, get_or, arith, eqb-true, eq-eqb, lt-ltb}
use Rattle.std.specs.Prelude.{Some, MatchOption}
use Rattle.do_derivation.specs.Plans.{Move, Plan, Plans, plan}
use Rattle.do_derivation.specs.declared.faults.StepFault.TheVariants.{NoLemma, Sets, Shape}
use Rattle.do_derivation.specs.Vocabulary.{no_plans, count_factors, factor_at, appended, with_factor, Makes, MakesAll, if_so, is_new}
use Rattle.do_derivation.specs.Table.{Row}
use Rattle.do_derivation.specs.declared.moves.SetMove.TheVariants as set_move
use Rattle.do_derivation.specs.declared.moves.BareMove.TheVariants as bare_move
use Rattle.identification_theory.proofs.Bools.{and_l, and_r, both_true, clash, not_e, not_i, or_e}
use Rattle.identification_theory.proofs.Places.{made_if}
use Rattle.identification_theory.proofs.Sets.{all-is, apart, below, empty-has, has-minus, one-is}
use Rattle.identification_theory.specs.Procedure.{Source, conditional, marginal}
use Rattle.mixed_graph.proofs.Masks.{has-or, has-zero, same_from_has}
use Rattle.mixed_graph.specs.Vocabulary.{has, MixedGraph, all, is_apart, is_below, is_empty, union, minus, one}
use Rattle.prob_expr.specs.Tree.{Tree, named, prob, product, quotient, sum, tree}
use Rattle.prob_expr.specs.Vocabulary.{Trees, no_trees}
use Rattle.identification_theory.specs.Derivations.{single, Lists, no_more, more, at_place, at_each, universe, marginal_steps, source_steps}

-- ---- lists of steps
-- the definition that a source names is cited for a
abbrev pub IsCited : List ℕ → Source → ℕ → Type 0
IsCited ls (Source.Under z) a = Unit {0}
IsCited ls (Source.Defined k) a = (k < length ls) × (get_or ls k 0 ≡ a)

-- what an experiment sets lies below n
abbrev pub IsLow : ℕ → Source → Type 0
IsLow n (Source.Under z) = (u : ℕ) → has z u ≡ true → u < n
IsLow n (Source.Defined k) = Unit {0}

module _ (g : MixedGraph) (ls : List ℕ) where
  pub cite_made : (k a : ℕ) → IsCited ls (Source.Defined k) a → Makes g ls (Plan.Make (Move.Cite k)) (prob a (minus (all g.vertices) a) 0) (named k)
  cite_made k a c = made_if g (ltb k (length ls)) (if_so (eqb a (get_or ls k 0)
      && (eqb (minus (all g.vertices) a) (minus (all g.vertices) (get_or ls k 0)) && is_empty 0)) (Row.Make (named k)) Shape) (NoLemma k) (named k)
      (lt-ltb k (length ls) c.0)
      (made_if g (eqb a (get_or ls k 0) && (eqb (minus (all g.vertices) a) (minus (all g.vertices) (get_or ls k 0)) && is_empty 0)) (Row.Make (named k)) Shape
      (named k)
      (both_true (eqb a (get_or ls k 0)) (eqb (minus (all g.vertices) a) (minus (all g.vertices) (get_or ls k 0)) && is_empty 0)
      (eq-eqb a (get_or ls k 0) (sym c.1))
      (both_true (eqb (minus (all g.vertices) a) (minus (all g.vertices) (get_or ls k 0))) (is_empty 0)
      (eq-eqb (minus (all g.vertices) a) (minus (all g.vertices) (get_or ls k 0)) (ap (minus (all g.vertices)) (sym c.1))) refl))
      refl)

  -- the rest s of a set a is put in, under a sum
  pub widen_made : (s a b : ℕ) → is_empty s ≡ false → ((v : ℕ) → has s v ≡ true → v < g.vertices) → ((v : ℕ) → has s v ≡ true → has a v ≡ true → ⊥)
      → ((v : ℕ) → has s v ≡ true → has b v ≡ true → ⊥)
      → Makes g ls (Plan.Make (Move.WithSet set_move.Widen s)) (prob a b 0) (sum s (prob (union a s) b 0))
  widen_made s a b ne low off_a off_b = made_if g (is_new g.vertices s a b 0) (Row.Make (sum s (prob (union a s) b 0))) Sets (sum s (prob (union a s) b 0))
      (both_true (not (is_empty s)) (is_below g.vertices s && (is_apart s a && (is_apart s b && is_apart s 0))) (not_i (is_empty s) ne)
      (both_true (is_below g.vertices s) (is_apart s a && (is_apart s b && is_apart s 0)) (below g.vertices s low)
      (both_true (is_apart s a) (is_apart s b && is_apart s 0) (apart s a off_a)
      (both_true (is_apart s b) (is_apart s 0) (apart s b off_b) (apart s 0 (λ v e z. clash (has 0 v) z (has-zero v)))))))
      refl

  module _ (k a : ℕ) (c : IsCited ls (Source.Defined k) a) (low : (v : ℕ) → has a v ≡ true → v < g.vertices) where
    pub marginal_made : (u : ℕ) → ((v : ℕ) → has u v ≡ true → has a v ≡ true)
        → MakesAll g ls (marginal_steps k a u) (prob u (minus (all g.vertices) a) 0) (marginal k a u)
    marginal_made u within = go (is_empty (minus a u)) refl
      where
        left_a : (v : ℕ) → has (minus a u) v ≡ true → has a v ≡ true
        left_a v e = and_l (has a v) (not (has u v)) (rw (has-minus a u v) at e)

        back : union u (minus a u) ≡ a
        back = same_from_has (union u (minus a u)) a (λ v. has-or u (minus a u) v
            ∙ (ap (λ b. has u v || b) (has-minus a u v) ∙ bools (has u v) (has a v) (within v)))
          where
            bools : (p q : Bool) → (p ≡ true → q ≡ true) → (p || (q && not p)) ≡ q
            bools p q h = grind (arith, h)

        go : (b : Bool) → is_empty (minus a u) ≡ b → MakesAll g ls (cond b (single (Plan.Make (Move.Cite k)))
            (plan (Plan.Make (Move.WithSet set_move.Widen (minus a u))) (single (Plan.At 0 (Plan.Then (single (Plan.Make (Move.Cite k))))))))
            (prob u (minus (all g.vertices) a) 0) (cond b (named k) (sum (minus a u) (named k)))
        go true e = (
          named k,
          subst (λ z. Makes g ls (Plan.Make (Move.Cite k)) (prob z (minus (all g.vertices) a) 0) (named k)) (sym same) (cite_made k a c),
          refl,
        )
          where
            same : u ≡ a
            same = same_from_has u a (λ v. bools (has u v) (has a v) (within v) (sym (has-minus a u v) ∙ empty-has (minus a u) v e))
              where
                bools : (p q : Bool) → (p ≡ true → q ≡ true) → (q && not p) ≡ false → p ≡ q
                bools p q h1 h2 = grind (arith, h1, h2)
        go false e = (
          sum (minus a u) (prob (union u (minus a u)) (minus (all g.vertices) a) 0),
          widen_made (minus a u) u (minus (all g.vertices) a) e (λ v i. low v (left_a v i))
              (λ v i j. clash (has u v) j (not_e (has u v) (and_r (has a v) (not (has u v)) (rw (has-minus a u v) at i))))
              (λ v i j. clash (has a v) (left_a v i) (not_e (has a v) (and_r (has (all g.vertices) v) (not (has a v))
              (rw (has-minus (all g.vertices) a v) at j)))),
          (
            sum (minus a u) (named k),
            (
              named k,
              (
                named k,
                subst (λ z. Makes g ls (Plan.Make (Move.Cite k)) (prob z (minus (all g.vertices) a) 0) (named k))
                    (sym back) (cite_made k a c),
                refl,
              ),
              refl,
            ),
            refl,
          ),
        )

  -- from P(v | do(the rest of the universe), m) on
  pub source_made : (from : Source) (a v m : ℕ) → IsLow g.vertices from → IsCited ls from a → ((u : ℕ) → has a u ≡ true → u < g.vertices) → has a v ≡ true
      → ((u : ℕ) → has m u ≡ true → has a u ≡ true)
      → MakesAll g ls (source_steps from a v m) (prob (one v) (minus (all g.vertices) (universe g.vertices from a)) m) (conditional from a v m)
  source_made (Source.Under z) a v m zl c low iv im = ap (λ z. prob (one v) z m)
      (sym (same_from_has (minus (all g.vertices) (minus (all g.vertices) z)) z
      (λ u. (has-minus (all g.vertices) (minus (all g.vertices) z) u ∙ ap (λ b. has (all g.vertices) u && not b) (has-minus (all g.vertices) z u))
      ∙ go (has (all g.vertices) u) (has z u) (λ e. all-is g.vertices u (zl u e)))))
    where
      go : (b z : Bool) → (z ≡ true → b ≡ true) → (b && not (b && not z)) ≡ z
      go b z h = grind (arith, h)
  source_made (Source.Defined k) a v m zl c low iv im = go (is_empty m) refl
    where
      within_one : (u : ℕ) → has (one v) u ≡ true → has a u ≡ true
      within_one u e = rw (one-is v u e) iv

      within_both : (u : ℕ) → has (union m (one v)) u ≡ true → has a u ≡ true
      within_both u e = pick (or_e (has m u) (has (one v) u) (rw (has-or m (one v) u) at e))
        where
          pick : (has m u ≡ true) ⊎ (has (one v) u ≡ true) → has a u ≡ true
          pick (inl i) = im u i
          pick (inr i) = within_one u i

      turn : union (one v) m ≡ union m (one v)
      turn = same_from_has (union (one v) m) (union m (one v)) (λ u. has-or (one v) m u ∙ (bools (has (one v) u) (has m u) ∙ sym (has-or m (one v) u)))
        where
          bools : (p q : Bool) → (p || q) ≡ (q || p)
          bools p q = grind arith

      go : (b : Bool) → is_empty m ≡ b → MakesAll g ls (cond b (marginal_steps k a (one v))
          (plan (Plan.Make (Move.Bare bare_move.Split)) (plan (Plan.At 0 (Plan.Then (marginal_steps k a (union m (one v)))))
          (single (Plan.At 1 (Plan.Then (marginal_steps k a m)))))))
          (prob (one v) (minus (all g.vertices) a) m) (cond b (marginal k a (one v)) (quotient (marginal k a (union m (one v))) (marginal k a m)))
      go true e = subst (λ z. MakesAll g ls (marginal_steps k a (one v)) (prob (one v) (minus (all g.vertices) a) z) (marginal k a (one v)))
          (sym (eqb-true m 0 e)) (marginal_made k a c low (one v) within_one)
      go false e = (
        quotient (prob (union (one v) m) (minus (all g.vertices) a) 0) (prob m (minus (all g.vertices) a) 0),
        made_if g (not (is_empty m)) (Row.Make (quotient (prob (union (one v) m) (minus (all g.vertices) a) 0) (prob m (minus (all g.vertices) a) 0))) Sets
            (quotient (prob (union (one v) m) (minus (all g.vertices) a) 0) (prob m (minus (all g.vertices) a) 0)) (not_i (is_empty m) e) refl,
        (
          quotient (marginal k a (union m (one v))) (prob m (minus (all g.vertices) a) 0),
          (
            marginal k a (union m (one v)),
            subst (λ z. MakesAll g ls (marginal_steps k a (union m (one v))) (prob z (minus (all g.vertices) a) 0)
                (marginal k a (union m (one v)))) (sym turn) (marginal_made k a c low (union m (one v)) within_both),
            refl,
          ),
          (quotient (marginal k a (union m (one v))) (marginal k a m), (marginal k a m, marginal_made k a c low m im, refl), refl),
        ),
      )

-- ---- one list of steps per factor of a product
abbrev pub EachMade : MixedGraph → List ℕ → Lists → Trees → Trees → Type 0
EachMade g ls no_more no_trees no_trees = Unit {0}
EachMade g ls (more l xs) (tree e es) (tree f fs) = MakesAll g ls l e f × EachMade g ls xs es fs
EachMade g ls _ _ _ = ⊥

-- the factor behind others, by its number
pub factor-joined : (pre : Trees) (e : Tree) (fs : Trees) → factor_at (appended pre (tree e fs)) (count_factors pre) ≡ Some e
factor-joined no_trees e fs = refl
factor-joined (tree x pre) e fs = factor-joined pre e fs

with-joined : (pre : Trees) (e x : Tree) (fs : Trees) → with_factor (appended pre (tree e fs)) (count_factors pre) x ≡ appended pre (tree x fs)
with-joined no_trees e x fs = refl
with-joined (tree y pre) e x fs = ap (tree y) (with-joined pre e x fs)

-- one more factor behind the others
pub snoc : (pre : Trees) (x : Tree) → Trees
snoc no_trees x = tree x no_trees
snoc (tree y pre) x = tree y (snoc pre x)

pub joined-snoc : (pre : Trees) (x : Tree) (fs : Trees) → appended (snoc pre x) fs ≡ appended pre (tree x fs)
unfolding snoc
joined-snoc no_trees x fs = refl
joined-snoc (tree y pre) x fs = ap (tree y) (joined-snoc pre x fs)

pub count-snoc : (pre : Trees) (x : Tree) → count_factors (snoc pre x) ≡ suc (count_factors pre)
unfolding snoc
count-snoc no_trees x = refl
count-snoc (tree y pre) x = ap suc (count-snoc pre x)

module _ (g : MixedGraph) (ls : List ℕ) where
  pub at_made : (l : Plans) (pre : Trees) (e f : Tree) (es : Trees) (rest : Plans) (r : Tree) → MakesAll g ls l e f
      → MakesAll g ls rest (product (appended pre (tree f es))) r
      → MakesAll g ls (at_place (count_factors pre) l rest) (product (appended pre (tree e es))) r
  at_made no_plans pre e f es rest r h k = rw h at k
  at_made (plan s l) pre e f es rest r h k = (
    product (appended pre (tree f es)),
    subst (λ o. MatchOption o ⊥ (λ c. (c' : Tree) × MakesAll g ls (plan s l) c c'
        × (product (appended pre (tree f es)) ≡ product (with_factor (appended pre (tree e es)) (count_factors pre) c'))))
        (sym (factor-joined pre e es)) (f, h, ap product (sym (with-joined pre e f es))),
    k,
  )

  each_from : (pre : Trees) (xs : Lists) (es fs : Trees) (rest : Plans) (r : Tree) → EachMade g ls xs es fs → MakesAll g ls rest (product (appended pre fs)) r
      → MakesAll g ls (at_each (count_factors pre) xs rest) (product (appended pre es)) r
  each_from pre no_more no_trees no_trees rest r h k = k
  each_from pre (more l xs) (tree e es) (tree f fs) rest r h k = at_made l pre e f es (at_each (suc (count_factors pre)) xs rest) r h.0
      (rw (sym (count-snoc pre f), sym (joined-snoc pre f es)) (each_from (snoc pre f) xs es fs rest r h.1 (rw (joined-snoc pre f fs) k)))
  each_from pre no_more no_trees (tree f fs) rest r h k = absurd h
  each_from pre no_more (tree e es) fs rest r h k = absurd h
  each_from pre (more l xs) no_trees fs rest r h k = absurd h
  each_from pre (more l xs) (tree e es) no_trees rest r h k = absurd h

  pub each_made : (xs : Lists) (es fs : Trees) (rest : Plans) (r : Tree) → EachMade g ls xs es fs → MakesAll g ls rest (product fs) r
      → MakesAll g ls (at_each 0 xs rest) (product es) r
  each_made xs es fs rest r h k = each_from no_trees xs es fs rest r h k
