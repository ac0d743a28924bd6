-- What nests at most so deep nests at most deeper.
use Rattle.std.proofs.Common.{ℕ, zero, suc, ◌≡◌, ◌≤◌, true, List, [], ◌∷◌, refl, arith}
use Rattle.std.proofs.lemmas.Bool.{and_from}
use Rattle.finite_models.proofs.Bools.{and_first, and_second}
use Rattle.prob_expr.specs.Tree.{Tree, prob, sum, product, quotient, named, tree}
use Rattle.prob_expr.specs.Vocabulary.{Trees, no_trees}
use Rattle.do_derivation.specs.Plans.{Plan, Plans, plan}
use Rattle.do_derivation.specs.Vocabulary.{no_plans, PlainLemma}
use Rattle.identification_theory.specs.Vocabulary.{is_plan_within, are_plans_within, are_lemmas_within, is_tree_within, are_trees_within, are_defs_within}

mutual
  pub tree_deeper : (d e : ℕ) (t : Tree) → d ≤ e → is_tree_within d t ≡ true → is_tree_within e t ≡ true
  tree_deeper zero e t le h = absurd (grind (arith, h))
  tree_deeper (suc d) zero t le h = absurd (omega (arith, le))
  tree_deeper (suc d) (suc e) (prob a b c) le h = refl
  tree_deeper (suc d) (suc e) (sum u t) le h = tree_deeper d e t (omega (arith, le)) h
  tree_deeper (suc d) (suc e) (product ts) le h = trees_deeper d e ts (omega (arith, le)) h
  tree_deeper (suc d) (suc e) (quotient p q) le h = and_from (is_tree_within e p) (is_tree_within e q)
      (tree_deeper d e p (omega (arith, le)) (and_first (is_tree_within d p) (is_tree_within d q) h))
      (tree_deeper d e q (omega (arith, le)) (and_second (is_tree_within d p) (is_tree_within d q) h))
  tree_deeper (suc d) (suc e) (named k) le h = refl

  trees_deeper : (d e : ℕ) (ts : Trees) → d ≤ e → are_trees_within d ts ≡ true → are_trees_within e ts ≡ true
  trees_deeper d e no_trees le h = refl
  trees_deeper d e (tree t ts) le h = and_from (is_tree_within e t) (are_trees_within e ts)
      (tree_deeper d e t le (and_first (is_tree_within d t) (are_trees_within d ts) h))
      (trees_deeper d e ts le (and_second (is_tree_within d t) (are_trees_within d ts) h))

pub defs_deeper : (d e : ℕ) (ts : List Tree) → d ≤ e → are_defs_within d ts ≡ true → are_defs_within e ts ≡ true
defs_deeper d e [] le h = refl
defs_deeper d e (t ∷ ts) le h = and_from (is_tree_within e t) (are_defs_within e ts)
    (tree_deeper d e t le (and_first (is_tree_within d t) (are_defs_within d ts) h))
    (defs_deeper d e ts le (and_second (is_tree_within d t) (are_defs_within d ts) h))

mutual
  pub plan_deeper : (d e : ℕ) (p : Plan) → d ≤ e → is_plan_within d p ≡ true → is_plan_within e p ≡ true
  plan_deeper zero e p le h = absurd (grind (arith, h))
  plan_deeper (suc d) zero p le h = absurd (omega (arith, le))
  plan_deeper (suc d) (suc e) (Plan.Make m) le h = refl
  plan_deeper (suc d) (suc e) (Plan.At i p) le h = plan_deeper d e p (omega (arith, le)) h
  plan_deeper (suc d) (suc e) (Plan.Then ps) le h = plans_deeper d e ps (omega (arith, le)) h

  plans_deeper : (d e : ℕ) (ps : Plans) → d ≤ e → are_plans_within d ps ≡ true → are_plans_within e ps ≡ true
  plans_deeper d e no_plans le h = refl
  plans_deeper d e (plan p ps) le h = and_from (is_plan_within e p) (are_plans_within e ps)
      (plan_deeper d e p le (and_first (is_plan_within d p) (are_plans_within d ps) h))
      (plans_deeper d e ps le (and_second (is_plan_within d p) (are_plans_within d ps) h))

pub lemmas_deeper : (d e : ℕ) (ls : List PlainLemma) → d ≤ e → are_lemmas_within d ls ≡ true → are_lemmas_within e ls ≡ true
lemmas_deeper d e [] le h = refl
lemmas_deeper d e (l ∷ ls) le h = and_from (is_plan_within e l.plan) (are_lemmas_within e ls)
    (plan_deeper d e l.plan le (and_first (is_plan_within d l.plan) (are_lemmas_within d ls) h))
    (lemmas_deeper d e ls le (and_second (is_plan_within d l.plan) (are_lemmas_within d ls) h))
