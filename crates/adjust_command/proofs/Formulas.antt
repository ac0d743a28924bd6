-- The adjustment formula of three disjoint sets has no fault.
use Rattle.std.proofs.Common.{◌≡◌, ℕ, ◌<◌, Bool, true, false, cond, not, None, Ok, refl, sym, ap, ◌∙◌, arith}
use Rattle.mixed_graph.specs.Vocabulary.{has, union, is_empty, is_below}
use Rattle.finite_models.proofs.Bools.{and_first, and_second}
use Rattle.do_rules.specs.Vocabulary.{AreThreeSets}
use Rattle.prob_expr.specs.Vocabulary.{are_term_sets, no_trees, ◌>>=◌, next_node, check_tree, check_trees, fault_of, fault_in}
use Rattle.prob_expr.specs.Tree.{Tree, prob, sum, product, tree}
use Rattle.mixed_graph.proofs.MaskLaws.{has_none, below_from, filled_from}
use Rattle.do_derivation.proofs.TermSets.{IsTerm, apart_back, join_cases, join_false, term_test}
use Rattle.adjustment.specs.Vocabulary.{adjusted_sum, adjustment_formula}

not_so : (p : Bool) → not p ≡ true → p ≡ false
not_so true e = sym e
not_so false e = refl

-- a term has no fault
term_sound : (n a b c node : ℕ) → IsTerm n a b c → (a ≡ 0 → ⊥) → check_tree n None 0 (prob a b c) node ≡ Ok (next_node node)
term_sound n a b c node t full =
    let test = term_test n a b c t full in
    let sets : are_term_sets n a b c ≡ true = and_first (are_term_sets n a b c) (not (is_empty a)) test in
    let some : is_empty a ≡ false = not_so (is_empty a) (and_second (are_term_sets n a b c) (not (is_empty a)) test) in
    rw (sets, some) refl

-- a sum over vertices has the fault of its body
sum_step : (n u node : ℕ) (t : Tree) → is_below n u ≡ true → is_empty u ≡ false → check_tree n None 0 (sum u t) node ≡ check_tree n None 0 t (next_node node)
sum_step n u node t low some = rw (low, some) refl

module _ (n x y z : ℕ) (s : AreThreeSets n (has x) (has y) (has z)) (some : y ≡ 0 → ⊥) where
  y_apart_x : (v : ℕ) → has y v ≡ true → has x v ≡ false
  y_apart_x = apart_back (has x) (has y) s.x_y

  nothing : (v : ℕ) → has 0 v ≡ true → v < n
  nothing v h = absurd (grind (arith, h, has_none v))

  of_x : IsTerm n y 0 x
  of_x = record {
    of_below = s.y_within;
    doing_below = nothing;
    given_below = s.x_within;
    of_doing = λ v h. has_none v;
    of_given = y_apart_x;
    doing_given = λ v h. absurd (grind (arith, h, has_none v));
  }

  of_z : IsTerm n z 0 0
  of_z = record {
    of_below = s.w_within;
    doing_below = nothing;
    given_below = nothing;
    of_doing = λ v h. has_none v;
    of_given = λ v h. has_none v;
    doing_given = λ v h. has_none v;
  }

  of_both : IsTerm n y 0 (union x z)
  of_both = record {
    of_below = s.y_within;
    doing_below = nothing;
    given_below = λ v h. join_cases x z v (v < n) h (s.x_within v) (s.w_within v);
    of_doing = λ v h. has_none v;
    of_given = λ v h. join_false x z v (y_apart_x v h) (s.y_w v h);
    doing_given = λ v h. absurd (grind (arith, h, has_none v));
  }

  -- the factors have none
  factors_sound : (node : ℕ) → (z ≡ 0 → ⊥) → check_trees n None 0 (tree (prob z 0 0) (tree (prob y 0 (union x z)) no_trees)) node
      ≡ Ok (next_node (next_node node))
  factors_sound node full =
      ap (λ r. r >>= check_trees n None 0 (tree (prob y 0 (union x z)) no_trees)) (term_sound n z 0 0 node of_z full)
      ∙ ap (λ r. r >>= check_trees n None 0 no_trees) (term_sound n y 0 (union x z) (next_node node) of_both some)

  sum_sound : is_empty z ≡ false → check_tree n None 0 (adjusted_sum x y z) 0 ≡ Ok (next_node (next_node (next_node (next_node 0))))
  sum_sound e =
      sum_step n z 0 (product (tree (prob z 0 0) (tree (prob y 0 (union x z)) no_trees))) (below_from n z s.w_within) e
      ∙ factors_sound (next_node (next_node 0)) (filled_from z (ap not e))

  formula_cases : (b : Bool) → is_empty z ≡ b → fault_of (check_tree n None 0 (cond b (prob y 0 x) (adjusted_sum x y z)) 0) ≡ None
  formula_cases true e = ap fault_of (term_sound n y 0 x 0 of_x some)
  formula_cases false e = ap fault_of (sum_sound e)

  -- the adjustment formula has no fault
  pub formula_sound : fault_in n (adjustment_formula x y z) ≡ None
  formula_sound = formula_cases (is_empty z) refl
