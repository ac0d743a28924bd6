-- The sums that a question asks for.
use Rattle.std.proofs.Common.{ℕ, ◌≡◌, ◌<◌, ◌≤◌, Bool, true, false, ◌||◌, eqb, refl, sym, ap, ◌∙◌, subst, List, length, set, get_or, eqb-true, arith}
use Rattle.std.proofs.Common.{get_or-set_same, get_or-set_other}
use mathlib.Core.Path.{fun_ext}
use Rattle.std.proofs.lemmas.Bool.{or_left, or_right}
use Rattle.mixed_graph.specs.Vocabulary.{has, Apart}
use Rattle.finite_models.proofs.Bools.{either, not_both}
use Rattle.count_rows.specs.Vocabulary.{Table, counted}
use Rattle.count_table.specs.Vocabulary.{AreCounts, HasLevels, levels_in, Margins}
use Rattle.count_eval.specs.Vocabulary.{weights_in, is_used, cell_of}
use Rattle.count_eval.proofs.CountedLaws.{counted_shrinks, counted_small}
use Rattle.count_eval.proofs.TableLaws.{counted_local}
use Rattle.natural_bounds.specs.Vocabulary.{Asked, fixed, joint, treated, level, stratum, condition}
use Rattle.bound_values.specs.declared.questions.Method.{Method}
use Rattle.bound_values.specs.Questions.{level_set, treated_set, joint_set, IsScope}

-- ---- parts of what is asked of
pub in_level : (q : Asked) (v : ℕ) → level_set q v ≡ true → joint_set q v ≡ true
in_level q v i = or_right (q.x v) (q.y v || level_set q v) (or_right (q.y v) (level_set q v) i)

pub in_treated : (q : Asked) (v : ℕ) → treated_set q v ≡ true → joint_set q v ≡ true
in_treated q v i = either (q.x v) (level_set q v) (joint_set q v ≡ true) i (λ k. or_left (q.x v) (q.y v || level_set q v) k) (in_level q v)

pub in_joint : (q : Asked) (v : ℕ) → joint_set q v ≡ true → joint_set q v ≡ true
in_joint q v i = i

pub in_fixed : (q : Asked) (v : ℕ) → fixed q v ≡ true → joint_set q v ≡ true
in_fixed q v i = in_level q v (or_right (q.z v) (fixed q v) i)

pub in_given : (q : Asked) (v : ℕ) → q.c v ≡ true → joint_set q v ≡ true
in_given q v i = in_fixed q v (or_left (q.c v) (q.u v) i)

-- ---- sums
pub has_levels : {method : Method} (t : Table) (sums : Margins) (q : Asked) (n mask : ℕ) (of : ℕ → Bool) (cell : List ℕ) → IsScope n t method q sums
    → ((v : ℕ) → has mask v ≡ of v) → ((v : ℕ) → of v ≡ true → joint_set q v ≡ true) → HasLevels t (is_used t) cell → HasLevels sums.table (has mask) cell
has_levels t sums q n mask of cell scope same inside levels =
    subst (λ k. HasLevels k (has mask) cell) (sym scope.same) (λ v i. levels v (scope.asked v (inside v (sym (same v) ∙ i))))

pub sum_is : (t : Table) (sums : Margins) (mask : ℕ) (of : ℕ → Bool) (cell : List ℕ) (r : ℕ) → sums.table ≡ t → ((v : ℕ) → has mask v ≡ of v)
    → r ≡ counted sums.table.vertices sums.table.rows (has mask) (λ v. get_or cell v 0) → r ≡ counted t.vertices t.rows of (cell_of cell)
sum_is t sums mask of cell r e same h =
    h ∙ ap (λ (k : Table). counted k.vertices k.rows (has mask) (λ v. get_or cell v 0)) e
    ∙ ap (λ a. counted t.vertices t.rows a (cell_of cell)) (fun_ext same)

pub joint_less : (n : ℕ) (t : Table) (q : Asked) (s : ℕ → ℕ) → joint (weights_in n t) q s ≤ treated (weights_in n t) q s
joint_less n t q s = counted_shrinks t.vertices t.rows (joint_set q) (treated_set q) s
    (λ v i. either (q.x v) (level_set q v) (joint_set q v ≡ true) i (λ k. or_left (q.x v) (q.y v || level_set q v) k) (in_level q v))

pub treated_less : (n : ℕ) (t : Table) (q : Asked) (s : ℕ → ℕ) → treated (weights_in n t) q s ≤ level (weights_in n t) q s
treated_less n t q s = counted_shrinks t.vertices t.rows (treated_set q) (level_set q) s (λ v i. or_right (q.x v) (level_set q v) i)

pub stratum_less : (n : ℕ) (t : Table) (q : Asked) (s : ℕ → ℕ) → stratum (weights_in n t) q s ≤ condition (weights_in n t) q s
stratum_less n t q s = counted_shrinks t.vertices t.rows (fixed q) q.c s (λ v i. or_left (q.c v) (q.u v) i)

pub small : (t : Table) → AreCounts t → (of : ℕ → Bool) (s : ℕ → ℕ) → counted t.vertices t.rows of s ≤ 1000000000000000
small t are of s = let a = counted_small t.vertices t.rows of s in let b = are.most in omega (arith, a, b)

-- ---- another level
pub levels_set : (t : Table) (of : ℕ → Bool) (cell : List ℕ) (u x : ℕ) → HasLevels t of cell → u < length cell → length (set cell u x) ≡ length cell
    → x < length (levels_in t.vertices t.levels u) → HasLevels t of (set cell u x)
levels_set t of cell u x levels low long lt v i = go (eqb v u) refl
  where
    go : (c : Bool) → eqb v u ≡ c → (v < length (set cell u x)) × (get_or (set cell u x) v 0 < length (levels_in t.vertices t.levels v))
    go true e = (
      subst (λ k. v < k) (sym long) (levels v i).0,
      subst (λ j. get_or (set cell u x) j 0 < length (levels_in t.vertices t.levels j)) (sym (eqb-true v u e))
          (subst (λ k. k < length (levels_in t.vertices t.levels u)) (sym (get_or-set_same cell u x 0 low)) lt),
    )
    go false e = (
      subst (λ k. v < k) (sym long) (levels v i).0,
      subst (λ k. k < length (levels_in t.vertices t.levels v))
          (sym (get_or-set_other cell u v x 0 (λ same. absurd (grind (arith, same, e))))) (levels v i).1,
    )

-- a level of a stratum leaves the condition
pub condition_same : (n : ℕ) (t : Table) (q : Asked) (cell : List ℕ) (u x : ℕ) → Apart q.c q.u → q.u u ≡ true
    → condition (weights_in n t) q (cell_of (set cell u x)) ≡ condition (weights_in n t) q (cell_of cell)
condition_same n t q cell u x apart free = counted_local t.vertices t.rows q.c (cell_of (set cell u x)) (cell_of cell)
    (λ v i. get_or-set_other cell u v x 0 (λ same. not_both (q.u v) (subst (λ j. q.u j ≡ true) (sym same) free) (apart v i)))
