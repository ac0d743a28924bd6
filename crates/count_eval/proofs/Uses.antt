-- What it is for a formula to use vertices of a set alone, where the set is that of a table's used vertices.
use Rattle.std.proofs.Common.{ℕ, ◌≡◌, ◌<◌, ◌≤◌, ◌^◌, Bool, true, false, List, [], ◌∷◌, inl, inr, refl, sym, ◌∙◌, arith}
use Rattle.std.specs.Prelude.{None, Result, Ok, Err}
use Rattle.std.proofs.lemmas.Bool.{cases_lt, and_from}
use Rattle.finite_models.proofs.Bools.{and_first, and_second}
use Rattle.mixed_graph.specs.Vocabulary.{has, members_below, is_inside, is_below}
use Rattle.mixed_graph.proofs.Masks.{has-above}
use Rattle.mixed_graph.proofs.MaskLaws.{inside_has, inside_from, below_has, below_from}
use Rattle.prob_expr.specs.declared.checking.ExprFault.{ExprFault}
use Rattle.prob_expr.specs.Vocabulary.{is_do_free, Trees, no_trees, PlainFormula, fault_in, fault_of, uses_only, use_only, defs_use_only, formula_uses_only}
use Rattle.prob_expr.specs.Tree.{Tree, prob, sum, product, quotient, named, tree}
use Rattle.std.specs.Result.{is_err}
use Rattle.count_rows.specs.Vocabulary.{Table}
use Rattle.count_table.specs.Vocabulary.{AreCounts}
use Rattle.count_eval.specs.Answers.{IsEvaluable}
use Rattle.count_eval.specs.Laws.{IsUsed, AreUsed, AllUsed}
use Rattle.count_eval.specs.Programs.{is_used}
use Rattle.count_eval.proofs.Used.{used_is, used_in_range}

-- the members of a mask are those with the property
abbrev pub Same : ℕ → (ℕ → Bool) → Type 0
Same set used = (v : ℕ) → has set v ≡ used v

part_used : (set a : ℕ) (used : ℕ → Bool) → Same set used → is_inside a set ≡ true → (v : ℕ) → has a v ≡ true → used v ≡ true
part_used set a used same h v m = sym (same v) ∙ inside_has a set v h m

part_inside : (set a : ℕ) (used : ℕ → Bool) → Same set used → ((v : ℕ) → has a v ≡ true → used v ≡ true) → is_inside a set ≡ true
part_inside set a used same h = inside_from a set (λ v m. same v ∙ h v m)

mutual
  tree_used : (set : ℕ) (used : ℕ → Bool) → Same set used → (t : Tree) → uses_only set t ≡ true → IsUsed used t
  tree_used set used same (prob a b c) h = (
    part_used set a used same (and_first (is_inside a set) (is_inside c set) h),
    part_used set c used same (and_second (is_inside a set) (is_inside c set) h),
  )
  tree_used set used same (sum u e) h = (
    part_used set u used same (and_first (is_inside u set) (uses_only set e) h),
    tree_used set used same e (and_second (is_inside u set) (uses_only set e) h),
  )
  tree_used set used same (product ts) h = trees_used set used same ts h
  tree_used set used same (quotient p q) h = (
    tree_used set used same p (and_first (uses_only set p) (uses_only set q) h),
    tree_used set used same q (and_second (uses_only set p) (uses_only set q) h),
  )
  tree_used set used same (named k) h = tt

  trees_used : (set : ℕ) (used : ℕ → Bool) → Same set used → (ts : Trees) → use_only set ts ≡ true → AreUsed used ts
  trees_used set used same no_trees h = tt
  trees_used set used same (tree t ts) h = (
    tree_used set used same t (and_first (uses_only set t) (use_only set ts) h),
    trees_used set used same ts (and_second (uses_only set t) (use_only set ts) h),
  )

defs_used : (set : ℕ) (used : ℕ → Bool) → Same set used → (ds : List Tree) → defs_use_only set ds ≡ true → AllUsed used ds
defs_used set used same [] h = tt
defs_used set used same (d ∷ ds) h = (
  tree_used set used same d (and_first (uses_only set d) (defs_use_only set ds) h),
  defs_used set used same ds (and_second (uses_only set d) (defs_use_only set ds) h),
)

mutual
  tree_only : (set : ℕ) (used : ℕ → Bool) → Same set used → (t : Tree) → IsUsed used t → uses_only set t ≡ true
  tree_only set used same (prob a b c) h = and_from (is_inside a set) (is_inside c set) (part_inside set a used same h.0) (part_inside set c used same h.1)
  tree_only set used same (sum u e) h = and_from (is_inside u set) (uses_only set e) (part_inside set u used same h.0) (tree_only set used same e h.1)
  tree_only set used same (product ts) h = trees_only set used same ts h
  tree_only set used same (quotient p q) h = and_from (uses_only set p) (uses_only set q) (tree_only set used same p h.0) (tree_only set used same q h.1)
  tree_only set used same (named k) h = refl

  trees_only : (set : ℕ) (used : ℕ → Bool) → Same set used → (ts : Trees) → AreUsed used ts → use_only set ts ≡ true
  trees_only set used same no_trees h = refl
  trees_only set used same (tree t ts) h = and_from (uses_only set t) (use_only set ts) (tree_only set used same t h.0) (trees_only set used same ts h.1)

defs_only : (set : ℕ) (used : ℕ → Bool) → Same set used → (ds : List Tree) → AllUsed used ds → defs_use_only set ds ≡ true
defs_only set used same [] h = refl
defs_only set used same (d ∷ ds) h = and_from (uses_only set d) (defs_use_only set ds) (tree_only set used same d h.0) (defs_only set used same ds h.1)

-- the mask of a table's vertices has exactly the used ones
pub same_members : (t : Table) (u : ℕ) → AreCounts t → members_below (has u) 64 ≡ t.vertices → u < 2 ^ 64 → Same u (is_used t)
same_members t u are e fits v = elim (cases_lt v 64) [
  | inl lt ↦ used_is t u v are e lt
  | inr le ↦ has-above u v fits le ∙ sym (unused (is_used t v) refl le)
]
  where
    unused : (c : Bool) → is_used t v ≡ c → 64 ≤ v → is_used t v ≡ false
    unused true h le = absurd (let lt : v < 64 = used_in_range t v are h in omega (arith, lt, le))
    unused false h le = h

pub evaluable : (n : ℕ) (t : Table) (f : PlainFormula) (u : ℕ) → AreCounts t → members_below (has u) 64 ≡ t.vertices → u < 2 ^ 64 → n ≤ 64 → is_below n u ≡ true
    → fault_in n f ≡ None → is_do_free f ≡ true → formula_uses_only u f ≡ true → IsEvaluable n t f
evaluable n t f u are e fits few low accepted free only =
    let same : Same u (is_used t) = same_members t u are e fits in
    record {
      few = few;
      below = λ v h. below_has n u v low (same v ∙ h);
      accepted = accepted;
      do_free = free;
      defs = defs_used u (is_used t) same f.defs (and_first (defs_use_only u f.defs) (uses_only u f.main) only);
      main = tree_used u (is_used t) same f.main (and_second (defs_use_only u f.defs) (uses_only u f.main) only);
    }

-- where the vertices of the graph lack a used one, or the formula has others, it can't be evaluated
pub not_low : (n : ℕ) (t : Table) (f : PlainFormula) (u : ℕ) → AreCounts t → members_below (has u) 64 ≡ t.vertices → u < 2 ^ 64 → is_below n u ≡ false
    → IsEvaluable n t f → ⊥
not_low n t f u are e fits high h =
    let same : Same u (is_used t) = same_members t u are e fits in
    cc (sym high ∙ below_from n u (λ v m. h.below v (sym (same v) ∙ m)))

pub not_only : (n : ℕ) (t : Table) (f : PlainFormula) (u : ℕ) → AreCounts t → members_below (has u) 64 ≡ t.vertices → u < 2 ^ 64 → formula_uses_only u f
    ≡ false → IsEvaluable n t f → ⊥
not_only n t f u are e fits other h =
    let same : Same u (is_used t) = same_members t u are e fits in
    cc (sym other ∙ and_from (defs_use_only u f.defs) (uses_only u f.main) (defs_only u (is_used t) same f.defs h.defs)
    (tree_only u (is_used t) same f.main h.main))

-- what gave no error has no fault
pub no_error : {A : Type 0} → (r : Result A ExprFault) → is_err r ≡ false → fault_of r ≡ None
no_error (Ok x) h = refl
no_error (Err e) h = cc h
