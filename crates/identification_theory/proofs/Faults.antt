-- A formula whose parts have their form has no fault.
use Rattle.std.specs.Prelude.{Option, Some, None, Ok}
use Rattle.std.proofs.lemmas.Bool.{lt-ltb}
use Rattle.std.proofs.Common.{ℕ, ◌+◌, ◌≡◌, ◌≤◌, true, not, List, [], ◌∷◌, length, ltb, refl, subst, arith}
use Rattle.do_derivation.specs.Vocabulary.{count_factors}
use Rattle.identification_theory.proofs.Bools.{and_l, and_r, not_e}
use Rattle.identification_theory.proofs.Formed.{IsFormed, AreFormed, AllFormed, IsFormedFormula}
use Rattle.prob_expr.specs.Vocabulary.{cap, next_node, are_two, check_tree, check_trees, fault_in_defs, fault_in, are_term_sets, PlainFormula, Trees, no_trees}
use Rattle.mixed_graph.specs.Vocabulary.{is_empty}
use Rattle.prob_expr.specs.Tree.{Tree, named, prob, product, quotient, sum, tree}

two_of : (ts : Trees) → 2 ≤ count_factors ts → are_two ts ≡ true
two_of no_trees h = absurd (omega (arith, h))
two_of (tree t no_trees) h = absurd (omega (arith, h))
two_of (tree t (tree u ts)) h = refl

mutual
  checked : (n k : ℕ) (def : Option ℕ) (e : Tree) (node : ℕ) → IsFormed n k e → (next : ℕ) × (check_tree n def k e node ≡ Ok next)
  checked n k def (prob a b c) node h = (
    next_node node,
    rw (
      and_l (are_term_sets n a b c) (not (is_empty a)) h,
      not_e (is_empty a) (and_r (are_term_sets n a b c) (not (is_empty a)) h),
    ) refl,
  )
  checked n k def (sum u e) node h = let r = checked n k def e (next_node node) h.2 in (r.0, rw (h.0, h.1) r.1)
  checked n k def (product ts) node h = let r = checked_each n k def ts (next_node node) h.1 in (r.0, rw (two_of ts h.0) r.1)
  checked n k def (quotient p q) node h = let r = checked n k def p (next_node node) h.0 in let s = checked n k def q r.0 h.1 in (s.0, rw r.1 s.1)
  checked n k def (named j) node h = (next_node node, let l : ltb j k ≡ true = lt-ltb j k h in rw l refl)

  checked_each : (n k : ℕ) (def : Option ℕ) (ts : Trees) (node : ℕ) → AreFormed n k ts → (next : ℕ) × (check_trees n def k ts node ≡ Ok next)
  checked_each n k def no_trees node h = (node, refl)
  checked_each n k def (tree t ts) node h = let r = checked n k def t node h.0 in let s = checked_each n k def ts r.0 h.1 in (s.0, rw r.1 s.1)

defs_right : (n k : ℕ) (ds : List Tree) → AllFormed n k ds → fault_in_defs n k ds ≡ None
defs_right n k [] h = refl
defs_right n k (d ∷ ds) h = rw (checked n k (Some (cap k)) d 0 h.0).1 (defs_right n (k + 1) ds (subst (λ j. AllFormed n j ds) (omega arith) h.1))

-- the check finds no fault in a formula whose definitions and main have their form
pub no_fault : (n : ℕ) (f : PlainFormula) → IsFormedFormula n f → fault_in n f ≡ None
no_fault n f h = rw (defs_right n 0 f.defs h.0, (checked n (length f.defs) None f.main 0 h.1).1) refl
