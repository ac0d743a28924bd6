-- Sound trees whose numbers have 32 bits.
use Rattle.std.proofs.Common.{◌≡◌, ℕ, ◌^◌, Bool, true, not, ◌&&◌, ltb, refl}
use Rattle.prob_expr.specs.Tree.{Tree, prob, sum, product, quotient, named, tree}
use Rattle.prob_expr.specs.Vocabulary.{Trees, no_trees, is_term, are_two}
use Rattle.mixed_graph.specs.Vocabulary.{is_empty, is_below}
use Rattle.expr_text.specs.Sound.{is_sound, are_sound, is_numbered, are_numbered}
use Rattle.expr_text.proofs.Within.{and_true}
use Rattle.expr_text.proofs.Checked.{both}

abbrev mutual
  pub is_readable : ℕ → Tree → Bool
  is_readable n (prob a b c) = is_term n a b c
  is_readable n (sum u e) = not (is_empty u) && (is_below n u && is_readable n e)
  is_readable n (product ts) = are_two ts && are_readable n ts
  is_readable n (quotient p q) = is_readable n p && is_readable n q
  is_readable n (named k) = ltb k (2 ^ 32)

  pub are_readable : ℕ → Trees → Bool
  are_readable n no_trees = true
  are_readable n (tree t ts) = is_readable n t && are_readable n ts

mutual
  pub readable : (n : ℕ) (t : Tree) → is_sound n t ≡ true → is_numbered t ≡ true → is_readable n t ≡ true
  readable n (prob a b c) s h = s
  readable n (sum u e) s h =
      let parts = and_true (is_below n u && not (is_empty u)) (is_sound n e) s in
      let set = and_true (is_below n u) (not (is_empty u)) parts.0 in
      both (not (is_empty u)) (is_below n u && is_readable n e) set.1 (both (is_below n u) (is_readable n e) set.0 (readable n e parts.1 h))
  readable n (product ts) s h =
      let parts = and_true (are_two ts) (are_sound n ts) s in both (are_two ts) (are_readable n ts) parts.0 (each_readable n ts parts.1 h)
  readable n (quotient p q) s h =
      let parts = and_true (is_sound n p) (is_sound n q) s in
      let numbers = and_true (is_numbered p) (is_numbered q) h in
      both (is_readable n p) (is_readable n q) (readable n p parts.0 numbers.0) (readable n q parts.1 numbers.1)
  readable n (named k) s h = h

  each_readable : (n : ℕ) (ts : Trees) → are_sound n ts ≡ true → are_numbered ts ≡ true → are_readable n ts ≡ true
  each_readable n no_trees s h = refl
  each_readable n (tree t ts) s h =
      let parts = and_true (is_sound n t) (are_sound n ts) s in
      let numbers = and_true (is_numbered t) (are_numbered ts) h in
      both (is_readable n t) (are_readable n ts) (readable n t parts.0 numbers.0) (each_readable n ts parts.1 numbers.1)
