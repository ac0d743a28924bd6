-- What nests so deep below its first level.
use Rattle.std.proofs.Common.{ℕ, suc, ◌≡◌, Bool, true, false, sym, ◌∙◌}
use Rattle.prob_expr.specs.Tree.{Tree, sum, product, quotient}
use Rattle.prob_expr.specs.Vocabulary.{Trees}
use Rattle.do_derivation.specs.Plans.{Plan, Plans}
use Rattle.identification_theory.specs.Vocabulary.{is_plan_within, are_plans_within, is_tree_within, are_trees_within}

pub within_sum : (d k u : ℕ) (t e : Tree) (b : Bool) → d ≡ suc k → e ≡ sum u t → b ≡ is_tree_within k t → b ≡ is_tree_within d e
within_sum d k u t e b ds is h = rw (ds, is) h

pub within_product : (d k : ℕ) (ts : Trees) (e : Tree) (b : Bool) → d ≡ suc k → e ≡ product ts → b ≡ are_trees_within k ts → b ≡ is_tree_within d e
within_product d k ts e b ds is h = rw (ds, is) h

-- the top nests so deep, and the bottom as the whole
pub within_both : (d k : ℕ) (p q e : Tree) (a b : Bool) → d ≡ suc k → e ≡ quotient p q → a ≡ is_tree_within k p → a ≡ true → b ≡ is_tree_within k q
    → b ≡ is_tree_within d e
within_both d k p q e a b ds is first so second =
    let top : is_tree_within k p ≡ true = sym first ∙ so in
    rw (ds, is, top) second

-- the top nests deeper
pub within_neither : (d k : ℕ) (p q e : Tree) (a : Bool) → d ≡ suc k → e ≡ quotient p q → a ≡ is_tree_within k p → a ≡ false → a ≡ is_tree_within d e
within_neither d k p q e a ds is first not_so =
    let top : is_tree_within k p ≡ false = sym first ∙ not_so in
    rw (ds, is, top) not_so

pub within_at : (d k i : ℕ) (p e : Plan) (b : Bool) → d ≡ suc k → e ≡ Plan.At i p → b ≡ is_plan_within k p → b ≡ is_plan_within d e
within_at d k i p e b ds is h = rw (ds, is) h

pub within_then : (d k : ℕ) (ps : Plans) (e : Plan) (b : Bool) → d ≡ suc k → e ≡ Plan.Then ps → b ≡ are_plans_within k ps → b ≡ is_plan_within d e
within_then d k ps e b ds is h = rw (ds, is) h
