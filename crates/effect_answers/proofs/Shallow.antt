-- The certificate of a formula of the procedure nests so little that it is read back.
use Rattle.std.proofs.Common.{ℕ, zero, suc, ◌≡◌, ◌≤◌, ◌<◌, true, List, [], ◌∷◌, length, arith}
use Rattle.std.proofs.Math.Nat.{max-le}
use Rattle.finite_models.proofs.Bools.{and_first, and_second}
use Rattle.prob_expr.specs.Tree.{Tree, prob, sum, product, quotient, named, tree}
use Rattle.prob_expr.specs.Vocabulary.{Trees, no_trees, PlainFormula}
use Rattle.do_derivation.specs.Plans.{Plan, Plans, plan}
use Rattle.do_derivation.specs.Vocabulary.{no_plans, PlainLemma, PlainDerivation}
use Rattle.expr_text.specs.Write as expr
use Rattle.certificate_json.specs.StepSizes as step
use Rattle.identification_theory.specs.Vocabulary.{is_plan_within, are_plans_within, are_lemmas_within, is_tree_within, are_trees_within, are_defs_within}
use Rattle.identify.specs.Vocabulary.{AreShallowSteps, IsShallowFormula}
use Rattle.certificate_json.specs.Vocabulary.{AreStepsShallow, IsFormulaShallow}

-- ---- formulas
-- an expression has at most one pair of parentheses round it
deeper_within : (d : ℕ) (e : Tree) (n : ℕ) → n < d → expr.deeper e n ≤ d
deeper_within d (prob a b c) n lt = omega (arith, lt)
deeper_within d (sum u e) n lt = omega (arith, lt)
deeper_within d (product ts) n lt = omega (arith, lt)
deeper_within d (quotient p q) n lt = omega (arith, lt)
deeper_within d (named k) n lt = omega (arith, lt)

mutual
  -- where at most d nodes lie in each other, fewer than d parentheses and sums do
  pub tree_nests : (d : ℕ) (e : Tree) → is_tree_within d e ≡ true → expr.nesting e < d
  tree_nests zero e h = absurd (grind (arith, h))
  tree_nests (suc d) (prob a b c) h = omega arith
  tree_nests (suc d) (sum u e) h = (let n = tree_nests d e h in omega (arith, n))
  tree_nests (suc d) (product ts) h = (let n = trees_nest d ts h in omega (arith, n))
  tree_nests (suc d) (quotient p q) h =
      let above = deeper_within d p (expr.nesting p) (tree_nests d p (and_first (is_tree_within d p) (is_tree_within d q) h)) in
      let below = deeper_within d q (expr.nesting q) (tree_nests d q (and_second (is_tree_within d p) (is_tree_within d q) h)) in
      let n = max-le above below in omega (arith, n)
  tree_nests (suc d) (named k) h = omega arith

  trees_nest : (d : ℕ) (ts : Trees) → are_trees_within d ts ≡ true → expr.nesting_each ts ≤ d
  trees_nest d no_trees h = omega arith
  trees_nest d (tree t ts) h = max-le (deeper_within d t (expr.nesting t) (tree_nests d t (and_first (is_tree_within d t) (are_trees_within d ts) h)))
      (trees_nest d ts (and_second (is_tree_within d t) (are_trees_within d ts) h))

pub defs_nest : (d : ℕ) (ds : List Tree) → are_defs_within d ds ≡ true → expr.nesting_all ds ≤ d
defs_nest d [] h = omega arith
defs_nest d (t ∷ ds) h =
    let here = tree_nests d t (and_first (is_tree_within d t) (are_defs_within d ds) h) in
    max-le (omega (arith, here)) (defs_nest d ds (and_second (is_tree_within d t) (are_defs_within d ds) h))

-- ---- steps
mutual
  -- where steps are within d, at most d nest
  pub step_nests : (d : ℕ) (p : Plan) → is_plan_within d p ≡ true → step.nesting p ≤ d
  step_nests zero p h = absurd (grind (arith, h))
  step_nests (suc d) (Plan.Make m) h = omega arith
  step_nests (suc d) (Plan.At i p) h = (let n = step_nests d p h in omega (arith, n))
  step_nests (suc d) (Plan.Then ps) h = (let n = steps_nest d ps h in omega (arith, n))

  steps_nest : (d : ℕ) (ps : Plans) → are_plans_within d ps ≡ true → step.nesting_each ps ≤ d
  steps_nest d no_plans h = omega arith
  steps_nest d (plan p ps) h = max-le (step_nests d p (and_first (is_plan_within d p) (are_plans_within d ps) h))
      (steps_nest d ps (and_second (is_plan_within d p) (are_plans_within d ps) h))

pub lemmas_shallow : (d : ℕ) (ls : List PlainLemma) → d ≤ 60 → are_lemmas_within d ls ≡ true → AreStepsShallow ls
lemmas_shallow d [] few h = tt
lemmas_shallow d (l ∷ ls) few h =
    let here = step_nests d l.plan (and_first (is_plan_within d l.plan) (are_lemmas_within d ls) h) in
    (omega (arith, here, few), lemmas_shallow d ls few (and_second (is_plan_within d l.plan) (are_lemmas_within d ls) h))

-- what nests as the procedure's answers do is read back
pub formula_shallow : (f : PlainFormula) (d : PlainDerivation) → length f.defs ≤ 4096 → IsShallowFormula f → AreShallowSteps d → IsFormulaShallow f d
formula_shallow f d few nodes steps = record {
  numbered = omega (arith, few);
  main_text = (let n = tree_nests 7 f.main nodes.main in omega (arith, n));
  defs_texts = (let n = defs_nest 5 f.defs nodes.defs in omega (arith, n));
  lemmas = lemmas_shallow 10 d.lemmas (omega arith) steps.lemmas;
  main = (let n = step_nests 14 d.main steps.main in omega (arith, n));
}
