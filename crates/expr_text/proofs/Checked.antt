-- What `check` accepts is sound, and its numbers have 32 bits.
use Rattle.std.proofs.Common.{◌≡◌, ℕ, ◌+◌, ◌^◌, ◌<◌, ◌≤◌, Bool, true, false, cond, not, ltb, ◌&&◌, List, [], ◌∷◌, length, Option, Some, None, Result}
use Rattle.std.proofs.Common.{Ok, Err, refl, arith}
use Rattle.std.proofs.lemmas.Bool.{ltb-true, lt-ltb}
use Rattle.prob_expr.specs.Tree.{Tree, prob, sum, product, quotient, named, tree}
use Rattle.prob_expr.specs.declared.checking.ExprFault.{ExprFault}
use Rattle.prob_expr.specs.Vocabulary.{Trees, no_trees, PlainFormula, are_term_sets, ◌>>=◌, next_node, are_two, check_tree, check_trees, fault_of, or_else, fault_in_defs, fault_in, cap}
use Rattle.mixed_graph.specs.Vocabulary.{is_empty, is_below}
use Rattle.expr_text.specs.Sound.{is_sound, are_sound, is_numbered, are_numbered, all_sound}

abbrev Checked : Type 0
Checked = Result ℕ ExprFault

guards : (b c : Bool) (e f : ExprFault) (r : Checked) (j : ℕ) → cond (not b) (Err e) (cond c (Err f) r) ≡ Ok j → (b ≡ true) × (c ≡ false) × (r ≡ Ok j)
guards false c e f r j h = absurd cc
guards true true e f r j h = absurd cc
guards true false e f r j h = (refl, refl, h)

guard : (b : Bool) (e : ExprFault) (r : Checked) (j : ℕ) → cond b r (Err e) ≡ Ok j → (b ≡ true) × (r ≡ Ok j)
guard true e r j h = (refl, h)
guard false e r j h = absurd cc

pub both : (b c : Bool) → b ≡ true → c ≡ true → (b && c) ≡ true
both b c h k = rw (h, k) refl

negated : (b : Bool) → b ≡ false → not b ≡ true
negated b h = rw h refl

bound : (r : Checked) (f : ℕ → Checked) (j : ℕ) → (r >>= f) ≡ Ok j → (i : ℕ) × (r ≡ Ok i) × (f i ≡ Ok j)
bound (Ok i) f j h = (i, refl, h)
bound (Err e) f j h = absurd cc

mutual
  sound_tree : (n : ℕ) (def : Option ℕ) (limit : ℕ) (t : Tree) (node j : ℕ) → check_tree n def limit t node ≡ Ok j → is_sound n t ≡ true
  sound_tree n def limit (prob a b c) node j h =
      let g = guards (are_term_sets n a b c) (is_empty a) _ _ (Ok (next_node node)) j h in
      both (are_term_sets n a b c) (not (is_empty a)) g.0 (negated (is_empty a) g.1)
  sound_tree n def limit (sum u e) node j h =
      let g = guards (is_below n u) (is_empty u) _ _ (check_tree n def limit e (next_node node)) j h in
      both (is_below n u && not (is_empty u)) (is_sound n e) (both (is_below n u) (not (is_empty u)) g.0 (negated (is_empty u) g.1))
      (sound_tree n def limit e (next_node node) j g.2)
  sound_tree n def limit (product ts) node j h =
      let g = guard (are_two ts) _ (check_trees n def limit ts (next_node node)) j h in
      both (are_two ts) (are_sound n ts) g.0 (sound_trees n def limit ts (next_node node) j g.1)
  sound_tree n def limit (quotient p q) node j h =
      let b = bound (check_tree n def limit p (next_node node)) (check_tree n def limit q) j h in
      both (is_sound n p) (is_sound n q) (sound_tree n def limit p (next_node node) b.0 b.1) (sound_tree n def limit q b.0 j b.2)
  sound_tree n def limit (named k) node j h = refl

  sound_trees : (n : ℕ) (def : Option ℕ) (limit : ℕ) (ts : Trees) (node j : ℕ) → check_trees n def limit ts node ≡ Ok j → are_sound n ts ≡ true
  sound_trees n def limit no_trees node j h = refl
  sound_trees n def limit (tree t ts) node j h =
      let b = bound (check_tree n def limit t node) (check_trees n def limit ts) j h in
      both (is_sound n t) (are_sound n ts) (sound_tree n def limit t node b.0 b.1) (sound_trees n def limit ts b.0 j b.2)

mutual
  numbered_tree : (n : ℕ) (def : Option ℕ) (limit : ℕ) (t : Tree) (node j : ℕ) → limit ≤ 2 ^ 32 → check_tree n def limit t node ≡ Ok j → is_numbered t ≡ true
  numbered_tree n def limit (prob a b c) node j le h = refl
  numbered_tree n def limit (sum u e) node j le h =
      let g = guards (is_below n u) (is_empty u) _ _ (check_tree n def limit e (next_node node)) j h in
      numbered_tree n def limit e (next_node node) j le g.2
  numbered_tree n def limit (product ts) node j le h =
      let g = guard (are_two ts) _ (check_trees n def limit ts (next_node node)) j h in numbered_trees n def limit ts (next_node node) j le g.1
  numbered_tree n def limit (quotient p q) node j le h =
      let b = bound (check_tree n def limit p (next_node node)) (check_tree n def limit q) j h in
      both (is_numbered p) (is_numbered q) (numbered_tree n def limit p (next_node node) b.0 le b.1) (numbered_tree n def limit q b.0 j le b.2)
  numbered_tree n def limit (named k) node j le h =
      let g = guard (ltb k limit) _ (Ok (next_node node)) j h in
      let lt : k < limit = ltb-true k limit g.0 in lt-ltb k (2 ^ 32) (omega arith)

  numbered_trees : (n : ℕ) (def : Option ℕ) (limit : ℕ) (ts : Trees) (node j : ℕ) → limit ≤ 2 ^ 32 → check_trees n def limit ts node ≡ Ok j → are_numbered ts
      ≡ true
  numbered_trees n def limit no_trees node j le h = refl
  numbered_trees n def limit (tree t ts) node j le h =
      let b = bound (check_tree n def limit t node) (check_trees n def limit ts) j h in
      both (is_numbered t) (are_numbered ts) (numbered_tree n def limit t node b.0 le b.1) (numbered_trees n def limit ts b.0 j le b.2)

no_fault : (r : Checked) → fault_of r ≡ None → (j : ℕ) × (r ≡ Ok j)
no_fault (Ok j) h = (j, refl)
no_fault (Err e) h = absurd cc

-- where two have no first fault, neither has a fault
pub neither : (a b : Option ExprFault) → or_else a b ≡ None → (a ≡ None) × (b ≡ None)
neither None b h = (refl, h)
neither (Some e) b h = absurd cc

-- an expression that the check finds no fault in is sound
pub sound_from : (n : ℕ) (def : Option ℕ) (limit : ℕ) (t : Tree) → fault_of (check_tree n def limit t 0) ≡ None → is_sound n t ≡ true
sound_from n def limit t h = let f = no_fault (check_tree n def limit t 0) h in sound_tree n def limit t 0 f.0 f.1

-- it names definitions by numbers of 32 bits, where it may name 2 ^ 32 at most
pub numbered_from : (n : ℕ) (def : Option ℕ) (limit : ℕ) (t : Tree) → limit ≤ 2 ^ 32 → fault_of (check_tree n def limit t 0) ≡ None → is_numbered t ≡ true
numbered_from n def limit t le h = let f = no_fault (check_tree n def limit t 0) h in numbered_tree n def limit t 0 f.0 le f.1

all_sound_from : (n k : ℕ) (ds : List Tree) → fault_in_defs n k ds ≡ None → all_sound n ds ≡ true
all_sound_from n k [] h = refl
all_sound_from n k (d ∷ ds) h =
    let parts = neither (fault_of (check_tree n (Some (cap k)) k d 0)) (fault_in_defs n (k + 1) ds) h in
    both (is_sound n d) (all_sound n ds) (sound_from n (Some (cap k)) k d parts.0) (all_sound_from n (k + 1) ds parts.1)

-- the main expression of a formula without a fault is sound
pub main_is_sound : (n : ℕ) (f : PlainFormula) → fault_in n f ≡ None → is_sound n f.main ≡ true
main_is_sound n f h =
    let parts = neither (fault_in_defs n 0 f.defs) (fault_of (check_tree n None (length f.defs) f.main 0)) h in
    sound_from n None (length f.defs) f.main parts.1

-- so is each of its definitions
pub defs_are_sound : (n : ℕ) (f : PlainFormula) → fault_in n f ≡ None → all_sound n f.defs ≡ true
defs_are_sound n f h =
    let parts = neither (fault_in_defs n 0 f.defs) (fault_of (check_tree n None (length f.defs) f.main 0)) h in
    all_sound_from n 0 f.defs parts.0
