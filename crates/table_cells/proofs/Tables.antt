-- Which vertices of a table are used, and what its cells are.
use Rattle.std.proofs.Common.{◌≡◌, ℕ, zero, suc, ◌<◌, ◌==◌, Bool, true, false, cond, inl, inr, nat_lt, List, [], ◌∷◌, ◌++◌, length, get_or, set, All}
use Rattle.std.proofs.Common.{refl, sym, ap, subst, ◌∙◌, arith}
use Rattle.std.proofs.lemmas.Bool.{cases_eq, cases_lt, eq-eqb, ne_eqb, lt-ltb, false≢true}
use Rattle.std.proofs.lemmas.List.{length-set, length-replicate, get_or-replicate, get_or_past, length-append, get_or_append_left, get_or_at}
use Rattle.std.proofs.lemmas.List.{get_or-set_same, get_or-set_other}
use Rattle.std.proofs.lemmas.List.Elements.{All-nil, All-cons, All-head, All-tail, All-append, All-get_or}
use Rattle.mixed_graph.specs.Vocabulary.{members_below}
use Rattle.count_rows.specs.Vocabulary.{Field, Table}
use Rattle.count_table.specs.Vocabulary.{levels_in, AreCounts}
use Rattle.count_eval.specs.Vocabulary.{is_used}
use Rattle.table_cells.specs.Cells.{IsCell, level_count, first_cell}

-- ---- members of a list

-- it stands in the list
pub record Stands (vs : List ℕ) (v : ℕ) : Type 0 where
  pub place : ℕ
  pub within : place < length vs
  pub there : get_or vs place 0 ≡ v

stands_first : (u : ℕ) (vs : List ℕ) → Stands (u ∷ vs) u
stands_first u vs = record { place = 0; within = omega arith; there = refl }

stands_later : (u : ℕ) (vs : List ℕ) (v : ℕ) → Stands vs v → Stands (u ∷ vs) v
stands_later u vs v s = record { place = suc s.place; within = (let w = s.within in omega (arith, w)); there = s.there }

stands_left : (us vs : List ℕ) (v : ℕ) → Stands us v → Stands (us ++ vs) v
stands_left us vs v s = record {
  place = s.place;
  within = (let w = s.within in let l = length-append us vs in omega (arith, w, l));
  there = get_or_append_left us vs 0 s.place s.within ∙ s.there;
}

-- a member of a set stands in the list of its members
pub member_stands : (s : ℕ → Bool) (k v : ℕ) → v < k → s v ≡ true → Stands (members_below s k) v
unfolding members_below
member_stands s zero v lt e = absurd (omega (arith, lt))
member_stands s (suc k) v lt e = elim (cases_lt v k) [
  | inl below ↦ stands_left (members_below s k) (cond (s k) (k ∷ []) []) v (member_stands s k v below e)
  | inr at ↦
      let same : v ≡ k = omega (arith, lt, at) in
      subst (λ b. Stands (members_below s k ++ cond b (k ∷ []) []) v) (sym (ap s (sym same) ∙ e))
      (record {
        place = length (members_below s k);
        within = (let l = length-append (members_below s k) (k ∷ []) in omega (arith, l));
        there = get_or_at (members_below s k) k [] 0 (length (members_below s k)) refl ∙ sym same;
      })
]

-- what holds of each member holds of the list
pub all_members : (P : ℕ → Type 0) (s : ℕ → Bool) (k : ℕ) → ((v : ℕ) → v < k → s v ≡ true → P v) → All P (members_below s k)
unfolding members_below
all_members P s zero h = All-nil P
all_members P s (suc k) h = All-append P (members_below s k) (cond (s k) (k ∷ []) []) (all_members P s k (λ v lt e. h v (omega (arith, lt)) e))
    (last (s k) refl)
  where
    last : (b : Bool) → s k ≡ b → All P (cond b (k ∷ []) [])
    last true e = All-cons P k [] (h k (omega arith) e) (All-nil P)
    last false e = All-nil P

-- and the other way
pub member_of_all : (P : ℕ → Type 0) (s : ℕ → Bool) (k : ℕ) → All P (members_below s k) → (v : ℕ) → v < k → s v ≡ true → P v
member_of_all P s k all v lt e = let m = member_stands s k v lt e in subst P m.there (All-get_or P (members_below s k) m.place 0 m.within all)

-- ---- levels

-- the levels behind the first vertex's, or these
first_level : (u v : ℕ) (us : List ℕ) (ys : List Field) (levels : List (List Field)) (i : ℕ) → get_or (u ∷ us) i 0 ≡ v → 0 < length ys
    → ((j : ℕ) → i ≡ suc j → get_or us j 0 ≡ v → 0 < length (levels_in us levels v)) → 0 < length (cond (u == v) ys (levels_in us levels v))
first_level u v us ys levels zero is some later = subst (λ (b : Bool). 0 < length (cond b ys (levels_in us levels v))) (sym (eq-eqb u v is)) some
first_level u v us ys levels (suc j) is some later = by_case (u == v)
  where
    by_case : (b : Bool) → 0 < length (cond b ys (levels_in us levels v))
    by_case true = some
    by_case false = later j refl is

-- a vertex of the table has a level
level_there : (vs : List ℕ) (levels : List (List Field)) (v i : ℕ) → i < length vs → get_or vs i 0 ≡ v → length levels ≡ length vs
    → All (λ (ys : List Field). 0 < length ys) levels → 0 < length (levels_in vs levels v)
level_there [] levels v i lt is same some = absurd (omega (arith, lt))
level_there (u ∷ us) [] v i lt is same some = absurd (omega (arith, same))
level_there (u ∷ us) (ys ∷ levels) v i lt is same some =
    first_level u v us ys levels i is (All-head (λ (zs : List Field). 0 < length zs) ys levels some)
    (λ j e at. level_there us levels v j (omega (arith, lt, e)) at (omega (arith, same)) (All-tail (λ (zs : List Field). 0 < length zs) ys levels some))

-- a vertex with a level is one of the table
vertex_there : (vs : List ℕ) (levels : List (List Field)) (v : ℕ) → 0 < length (levels_in vs levels v) → Stands vs v
vertex_there [] levels v h = absurd (omega (arith, h))
vertex_there (u ∷ us) [] v h = absurd (omega (arith, h))
vertex_there (u ∷ us) (ys ∷ levels) v h = elim (cases_eq u v) [
  | inl e ↦ subst (Stands (u ∷ us)) e (stands_first u us)
  | inr n ↦ stands_later u us v (vertex_there us levels v (subst (λ (b : Bool). 0 < length (cond b ys (levels_in us levels v))) (ne_eqb u v n) h))
]

-- a used vertex has a level
pub used_level : (t : Table) (v : ℕ) → is_used t v ≡ true → 0 < level_count t v
used_level t v h = elim (cases_lt 0 (level_count t v)) [
  | inl lt ↦ lt
  | inr le ↦ absurd (false≢true (sym (ap (nat_lt 0) {x = level_count t v} {y = 0} (omega (arith, le))) ∙ h))
]

-- the vertices of a table are used, and no others
pub member_used : (t : Table) (s : ℕ → Bool) → t.vertices ≡ members_below s 64 → AreCounts t → (v : ℕ) → v < 64 → s v ≡ true → is_used t v ≡ true
member_used t s e is v lt h =
    let m = member_stands s 64 v lt h in
    lt-ltb 0 (level_count t v) (level_there t.vertices t.levels v m.place (subst (λ (vs : List ℕ). m.place < length vs) (sym e) m.within)
    (ap (λ (vs : List ℕ). get_or vs m.place 0) e ∙ m.there) is.matched is.each)

pub used_member : (t : Table) (s : ℕ → Bool) → t.vertices ≡ members_below s 64 → (v : ℕ) → is_used t v ≡ true → s v ≡ true
used_member t s e v h =
    let m = vertex_there t.vertices t.levels v (used_level t v h) in
    let all = all_members (λ u. s u ≡ true) s 64 (λ u lt i. i) in
    subst (λ u. s u ≡ true) (ap (λ (vs : List ℕ). get_or vs m.place 0) (sym e) ∙ m.there)
    (All-get_or (λ u. s u ≡ true) (members_below s 64) m.place 0 (subst (λ (vs : List ℕ). m.place < length vs) e m.within) all)

-- ---- cells

-- the first level of each vertex
pub first_is_cell : (n : ℕ) (t : Table) → ((v : ℕ) → is_used t v ≡ true → v < n) → IsCell n t (first_cell n)
first_is_cell n t below = record {
  long = long;
  levels = λ v h. (
    let b = below v h in omega (arith, long, b),
    (let z = none v in let p = used_level t v h in omega (arith, z, p)),
  );
  others = λ v h. none v;
}
  where
    long : length (first_cell n) ≡ n
    long = length-replicate {A = ℕ} n 0

    none : (v : ℕ) → get_or (first_cell n) v 0 ≡ 0
    none v = elim (cases_lt v n) [
      | inl lt ↦ get_or-replicate {A = ℕ} n v 0 0 lt
      | inr le ↦ get_or_past (first_cell n) v 0 (let l = length-replicate {A = ℕ} n 0 in omega (arith, l, le))
    ]

-- another level of a used vertex
pub set_is_cell : (n : ℕ) (t : Table) (cell : List ℕ) (v k : ℕ) → IsCell n t cell → is_used t v ≡ true → k < level_count t v → IsCell n t (set cell v k)
set_is_cell n t cell v k is used lt = record {
  long = length-set cell v k ∙ is.long;
  levels = λ u h. (let l = length-set cell v k in let b = (is.levels u h).0 in omega (arith, l, b), level u h);
  others = λ u h. get_or-set_other cell v u k 0 (λ e. false≢true (sym h ∙ ap (is_used t) e ∙ used)) ∙ is.others u h;
}
  where
    level : (u : ℕ) → is_used t u ≡ true → get_or (set cell v k) u 0 < level_count t u
    level u h = elim (cases_eq u v) [
      | inl e ↦ (let s : get_or (set cell v k) u 0 ≡ k = ap (λ w. get_or (set cell v k) w 0) e ∙ get_or-set_same cell v k 0 (is.levels v used).0 in
          subst (λ w. get_or (set cell v k) u 0 < level_count t w) (sym e) (omega (arith, s, lt)))
      | inr ne ↦ (let s = get_or-set_other cell v u k 0 ne in let l = (is.levels u h).1 in omega (arith, s, l))
    ]
