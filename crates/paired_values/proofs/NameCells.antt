-- Cells of names, and the names along which they vary.
use Rattle.std.proofs.Common.{◌≡◌, ℕ, ◌<◌, ◌≤◌, true, false, List, [], ◌∷◌, ◌++◌, All, map, set, get_or, inl, inr, sym, ap, subst, ◌∙◌, arith}
use Rattle.std.proofs.lemmas.Bool.{cases_eq, cases_lt, lt-ltb, false≢true}
use Rattle.std.proofs.lemmas.List.{length-set, length-replicate, get_or-replicate, get_or_past, get_or-set_same, get_or-set_other}
use Rattle.std.proofs.lemmas.List.Elements.{All-nil, All-cons, All-head, All-tail, All-append}
use Rattle.mixed_graph.specs.Vocabulary.{has, members_below}
use Rattle.do_rules.specs.Vocabulary.{AreThreeSets}
use Rattle.count_rows.specs.Vocabulary.{Table}
use Rattle.count_eval.specs.Vocabulary.{is_used}
use Rattle.table_cells.specs.Vocabulary.{first_cell, level_count}
use Rattle.table_cells.proofs.Tables.{all_members, used_level}
use Rattle.treated_models.specs.Vocabulary.{name_count, prime_of, vertex_of}
use Rattle.treated_models.proofs.Primes.{prime_low, vertex_plain, vertex_primed}
use Rattle.paired_values.specs.Cells.{own_axes, observed_axes, varied, IsAxis, IsNameCell}
use Rattle.paired_values.specs.declared.axes.Axis.{Axis}

-- ---- the names
all_mapped : {A : Type 0} (P : A → Type 0) (f : ℕ → A) (vs : List ℕ) → All (λ v. P (f v)) vs → All P (map f vs)
all_mapped P f [] all = All-nil P
all_mapped P f (v ∷ vs) all = All-cons P (f v) (map f vs) (All-head (λ u. P (f u)) v vs all) (all_mapped P f vs (All-tail (λ u. P (f u)) v vs all))

own_are : (n x set : ℕ) → ((v : ℕ) → has set v ≡ true → v < n) → All (IsAxis n x) (own_axes set)
own_are n x set low = all_mapped (IsAxis n x) (λ v. record { vertex = v; name = v }) (members_below (has set) 64)
    (all_members (λ v. IsAxis n x (record { vertex = v; name = v })) (has set) 64
    (λ v lt h. let l = low v h in record { low = omega (arith, l); vertex = vertex_plain n x v l }))

observed_are : (n x : ℕ) → ((v : ℕ) → has x v ≡ true → v < n) → All (IsAxis n x) (observed_axes n x)
observed_are n x low = all_mapped (IsAxis n x) (λ v. record { vertex = v; name = prime_of n x v }) (members_below (has x) 64)
    (all_members (λ v. IsAxis n x (record { vertex = v; name = prime_of n x v })) (has x) 64
    (λ v lt h. record { low = prime_low n x v (low v h) h; vertex = vertex_primed n x v (low v h) h }))

pub varied_are : (n x y z : ℕ) → AreThreeSets n (has x) (has y) (has z) → All (IsAxis n x) (varied n x z y)
varied_are n x y z sets =
    All-append (IsAxis n x) (own_axes x) (observed_axes n x ++ (own_axes z ++ own_axes y)) (own_are n x x sets.x_within)
    (All-append (IsAxis n x) (observed_axes n x) (own_axes z ++ own_axes y) (observed_are n x sets.x_within)
    (All-append (IsAxis n x) (own_axes z) (own_axes y) (own_are n x z sets.w_within) (own_are n x y sets.y_within)))

-- ---- the cells

-- the first level of each
pub first_is_name_cell : (n x : ℕ) (t : Table) → IsNameCell n x t (first_cell 64)
first_is_name_cell n x t = record {
  long = length-replicate {A = ℕ} 64 0;
  levels = λ k lt h. (let z = none k in let p = used_level t (vertex_of n x k) h in omega (arith, z, p));
  others = λ k lt h. none k;
}
  where
    none : (v : ℕ) → get_or (first_cell 64) v 0 ≡ 0
    none v = elim (cases_lt v 64) [
      | inl lt ↦ get_or-replicate {A = ℕ} 64 v 0 0 lt
      | inr le ↦ get_or_past (first_cell 64) v 0 (let l = length-replicate {A = ℕ} 64 0 in omega (arith, l, le))
    ]

-- another level at a name
pub set_is_name_cell : (n x : ℕ) (t : Table) (cell : List ℕ) (a : Axis) (j : ℕ) → name_count n x ≤ 64 → IsNameCell n x t cell → IsAxis n x a
    → j < level_count t a.vertex
    → IsNameCell n x t (set cell a.name j)
set_is_name_cell n x t cell a j few is axis lt = record {
  long = length-set cell a.name j ∙ is.long;
  levels = level;
  others = other;
}
  where
    same : get_or (set cell a.name j) a.name 0 ≡ j
    same = get_or-set_same cell a.name j 0 (let l = is.long in let b = axis.low in omega (arith, l, b, few))

    level : (k : ℕ) → k < name_count n x → is_used t (vertex_of n x k) ≡ true → get_or (set cell a.name j) k 0 < level_count t (vertex_of n x k)
    level k below h = elim (cases_eq k a.name) [
      | inl e ↦ subst (λ (i : ℕ). get_or (set cell a.name j) i 0 < level_count t (vertex_of n x i)) (sym e)
          (subst (λ (v : ℕ). get_or (set cell a.name j) a.name 0 < level_count t v) (sym axis.vertex) (let s = same in omega (arith, s, lt)))
      | inr ne ↦ (let s = get_or-set_other cell a.name k j 0 ne in let l = is.levels k below h in omega (arith, s, l))
    ]

    other : (k : ℕ) → k < name_count n x → is_used t (vertex_of n x k) ≡ false → get_or (set cell a.name j) k 0 ≡ 0
    other k below h = elim (cases_eq k a.name) [
      | inl e ↦ absurd (false≢true (sym h ∙ ap (λ i. is_used t (vertex_of n x i)) e ∙ ap (is_used t) axis.vertex
          ∙ lt-ltb 0 (level_count t a.vertex) (omega (arith, lt))))
      | inr ne ↦ get_or-set_other cell a.name k j 0 ne ∙ is.others k below h
    ]
