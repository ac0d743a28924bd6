-- What check says of the definitions that a formula names.
use Rattle.std.proofs.Common.{ℕ, suc, ◌+◌, ◌≡◌, Bool, true, false, ltb, not, Option, Some, None, Result, Ok, Err, if◌then◌else◌, List, [], ◌∷◌}
use Rattle.std.proofs.Common.{length, refl, subst, arith}
use Rattle.std.proofs.lemmas.Bool.{ltb-true}
use Rattle.mixed_graph.specs.Vocabulary.{is_empty, is_below}
use Rattle.prob_expr.specs.Tree.{Tree, prob, sum, product, quotient, named, tree}
use Rattle.prob_expr.specs.declared.checking.ExprFault.{ExprFault}
use Rattle.prob_expr.specs.declared.checking.ExprFault.TheVariants.{Forward}
use Rattle.prob_expr.specs.Vocabulary.{Trees, no_trees, PlainFormula, check_tree, check_trees, fault_of, or_else, fault_in_defs, fault_in, are_two, next_node, cap, ◌>>=◌}
use Rattle.count_eval.specs.Programs.{IsBelow, AreBelow, AreOrdered}

if_ok : {A : Type 0} (p : Bool) (e : ExprFault) (x : Result A ExprFault) (v : A) → (if p then Err e else x) ≡ Ok v → x ≡ Ok v
if_ok true e x v h = cc h
if_ok false e x v h = h

then_ok : {A : Type 0} (p : Bool) (e : ExprFault) (x : Result A ExprFault) (v : A) → (if p then x else Err e) ≡ Ok v → (p ≡ true) × (x ≡ Ok v)
then_ok true e x v h = (refl, h)
then_ok false e x v h = cc h

bind_ok : {A B : Type 0} (r : Result A ExprFault) (f : A → Result B ExprFault) (v : B) → (r >>= f) ≡ Ok v → (x : A) × (r ≡ Ok x) × (f x ≡ Ok v)
bind_ok (Ok x) f v h = (x, refl, h)
bind_ok (Err e) f v h = cc h

mutual
  below_tree : (n : ℕ) (def : Option ℕ) (limit : ℕ) (t : Tree) (node after : ℕ) → check_tree n def limit t node ≡ Ok after → IsBelow limit t
  below_tree n def limit (prob a b c) node after h = tt
  below_tree n def limit (sum u e) node after h =
      below_tree n def limit e (next_node node) after (if_ok (is_empty u) _ _ after (if_ok (not (is_below n u)) _ _ after h))
  below_tree n def limit (product ts) node after h = below_trees n def limit ts (next_node node) after (then_ok (are_two ts) _ _ after h).1
  below_tree n def limit (quotient p q) node after h =
      let step = bind_ok (check_tree n def limit p (next_node node)) (check_tree n def limit q) after h in
      (below_tree n def limit p (next_node node) step.0 step.1, below_tree n def limit q step.0 after step.2)
  below_tree n def limit (named k) node after h = ltb-true k limit (then_ok (ltb k limit) (Forward (cap limit)) (Ok (next_node node)) after h).0

  below_trees : (n : ℕ) (def : Option ℕ) (limit : ℕ) (ts : Trees) (node after : ℕ) → check_trees n def limit ts node ≡ Ok after → AreBelow limit ts
  below_trees n def limit no_trees node after h = tt
  below_trees n def limit (tree t ts) node after h =
      let step = bind_ok (check_tree n def limit t node) (check_trees n def limit ts) after h in
      (below_tree n def limit t node step.0 step.1, below_trees n def limit ts step.0 after step.2)

no_fault : {A : Type 0} (r : Result A ExprFault) → fault_of r ≡ None → (x : A) × (r ≡ Ok x)
no_fault (Ok x) h = (x, refl)
no_fault (Err e) h = cc h

neither : (a b : Option ExprFault) → or_else a b ≡ None → (a ≡ None) × (b ≡ None)
neither (Some e) b h = cc h
neither None b h = (refl, h)

ordered : (n k : ℕ) (ds : List Tree) → fault_in_defs n k ds ≡ None → AreOrdered k ds
ordered n k [] h = tt
ordered n k (d ∷ ds) h =
    let parts = neither (fault_of (check_tree n (Some (cap k)) k d 0)) (fault_in_defs n (k + 1) ds) h in
    let first = no_fault (check_tree n (Some (cap k)) k d 0) parts.0 in
    (below_tree n (Some (cap k)) k d 0 first.0 first.1, subst (λ m. AreOrdered m ds) (let r : k + 1 ≡ suc k = omega arith in r) (ordered n (k + 1) ds parts.1))

-- each definition names earlier ones alone
pub accepted_ordered : (n : ℕ) (f : PlainFormula) → fault_in n f ≡ None → AreOrdered 0 f.defs
accepted_ordered n f h = ordered n 0 f.defs (neither (fault_in_defs n 0 f.defs) (fault_of (check_tree n None (length f.defs) f.main 0)) h).0

-- and main those that are there
pub accepted_below : (n : ℕ) (f : PlainFormula) → fault_in n f ≡ None → IsBelow (length f.defs) f.main
accepted_below n f h =
    let main = no_fault (check_tree n None (length f.defs) f.main 0) (neither (fault_in_defs n 0 f.defs)
    (fault_of (check_tree n None (length f.defs) f.main 0)) h).1 in
    below_tree n None (length f.defs) f.main 0 main.0 main.1
