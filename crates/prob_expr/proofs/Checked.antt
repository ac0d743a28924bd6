-- What check accepts is made of terms, and each product in it has a factor.
use Rattle.std.proofs.Common.{◌≡◌, ℕ, ◌+◌, Bool, true, false, not, ◌&&◌, Option, Some, None, Result, Ok, Err, if◌then◌else◌, List, [], ◌∷◌, length}
use Rattle.std.proofs.Common.{refl, sym, ap}
use Rattle.std.specs.Prelude.{All}
use Rattle.std.proofs.lemmas.List.Elements.{All-nil, All-cons}
use Rattle.mixed_graph.specs.Vocabulary.{is_empty, is_below}
use Rattle.prob_expr.specs.TermSets.{are_term_sets}
use Rattle.prob_expr.specs.Tree.{Tree, prob, sum, product, quotient, named, Trees, no_trees, tree}
use Rattle.prob_expr.specs.Terms.{are_terms, are_terms_each}
use Rattle.prob_expr.specs.Fold.{has_factors, are_some, each_has}
use Rattle.prob_expr.specs.Check.{check_tree, check_trees, fault_of, or_else, fault_in_defs, are_two, next_node, cap, ◌>>=◌}
use Rattle.prob_expr.specs.Laws.{IsWhole, AcceptedIsWhole}
use Rattle.prob_expr.specs.declared.checking.ExprFault.{ExprFault}

-- a test whose fault is its first branch
if_ok : {A : Type 0} (p : Bool) (e : ExprFault) (x : Result A ExprFault) (v : A) → (if p then Err e else x) ≡ Ok v → (p ≡ false) × (x ≡ Ok v)
if_ok true e x v h = cc h
if_ok false e x v h = (refl, h)

then_ok : {A : Type 0} (p : Bool) (e : ExprFault) (x : Result A ExprFault) (v : A) → (if p then x else Err e) ≡ Ok v → (p ≡ true) × (x ≡ Ok v)
then_ok true e x v h = (refl, h)
then_ok false e x v h = cc h

bind_ok : {A B : Type 0} (r : Result A ExprFault) (f : A → Result B ExprFault) (v : B) → (r >>= f) ≡ Ok v → (x : A) × (r ≡ Ok x) × (f x ≡ Ok v)
bind_ok (Ok x) f v h = (x, refl, h)
bind_ok (Err e) f v h = cc h

both : (p q : Bool) → p ≡ true → q ≡ true → (p && q) ≡ true
both p q h k = rw (h, k) refl

not_false : (p : Bool) → not p ≡ false → p ≡ true
not_false true h = refl
not_false false h = sym h

mutual
  checked_tree : (n : ℕ) (def : Option ℕ) (limit : ℕ) (t : Tree) (node after : ℕ) → check_tree n def limit t node ≡ Ok after → IsWhole n t
  checked_tree n def limit (prob a b c) node after h =
      let sets = if_ok (not (are_term_sets n a b c)) _ _ after h in
      let some = if_ok (is_empty a) _ _ after sets.1 in
      record { terms = both (are_term_sets n a b c) (not (is_empty a)) (not_false _ sets.0) (ap not some.0); factors = refl }
  checked_tree n def limit (sum u e) node after h =
      let low = if_ok (not (is_below n u)) _ _ after h in
      let some = if_ok (is_empty u) _ _ after low.1 in
      let body = checked_tree n def limit e (next_node node) after some.1 in
      record { terms = both (is_below n u) (are_terms n e) (not_false _ low.0) body.terms; factors = body.factors }
  checked_tree n def limit (product ts) node after h =
      let two = then_ok (are_two ts) _ _ after h in
      let each = checked_trees n def limit ts (next_node node) after two.1 in
      record { terms = each.0; factors = some_first ts two.0 each.1 }
    where
      some_first : (ts : Trees) → are_two ts ≡ true → each_has ts ≡ true → are_some ts ≡ true
      some_first no_trees e f = e
      some_first (tree t ts) e f = f
  checked_tree n def limit (quotient p q) node after h =
      let step = bind_ok (check_tree n def limit p (next_node node)) (check_tree n def limit q) after h in
      let top = checked_tree n def limit p (next_node node) step.0 step.1 in
      let bottom = checked_tree n def limit q step.0 after step.2 in
      record { terms = both (are_terms n p) (are_terms n q) top.terms bottom.terms; factors = both (has_factors p) (has_factors q) top.factors bottom.factors }
  checked_tree n def limit (named k) node after h = record { terms = refl; factors = refl }

  checked_trees : (n : ℕ) (def : Option ℕ) (limit : ℕ) (ts : Trees) (node after : ℕ) → check_trees n def limit ts node ≡ Ok after
      → (are_terms_each n ts ≡ true) × (each_has ts ≡ true)
  checked_trees n def limit no_trees node after h = (refl, refl)
  checked_trees n def limit (tree t ts) node after h =
      let step = bind_ok (check_tree n def limit t node) (check_trees n def limit ts) after h in
      let first = checked_tree n def limit t node step.0 step.1 in
      let later = checked_trees n def limit ts step.0 after step.2 in
      (both (are_terms n t) (are_terms_each n ts) first.terms later.0, both (has_factors t) (each_has ts) first.factors later.1)

no_fault : {A : Type 0} (r : Result A ExprFault) → fault_of r ≡ None → (x : A) × (r ≡ Ok x)
no_fault (Ok x) h = (x, refl)
no_fault (Err e) h = cc h

neither : (a b : Option ExprFault) → or_else a b ≡ None → (a ≡ None) × (b ≡ None)
neither None b h = (refl, h)
neither (Some e) b h = cc h

checked_defs : (n k : ℕ) (ds : List Tree) → fault_in_defs n k ds ≡ None → All (IsWhole n) ds
checked_defs n k [] h = All-nil (IsWhole n)
checked_defs n k (d ∷ ds) h =
    let two = neither (fault_of (check_tree n (Some (cap k)) k d 0)) (fault_in_defs n (k + 1) ds) h in
    let fine = no_fault (check_tree n (Some (cap k)) k d 0) two.0 in
    All-cons (IsWhole n) d ds (checked_tree n (Some (cap k)) k d 0 fine.0 fine.1) (checked_defs n (k + 1) ds two.1)

pub accepted_is_whole : AcceptedIsWhole
accepted_is_whole = λ n f h.
    let two = neither (fault_in_defs n 0 f.defs) (fault_of (check_tree n None (length f.defs) f.main 0)) h in
    let fine = no_fault (check_tree n None (length f.defs) f.main 0) two.1 in
    record { defs = checked_defs n 0 f.defs two.0; main = checked_tree n None (length f.defs) f.main 0 fine.0 fine.1 }
