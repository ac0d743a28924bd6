-- Cells, places and entries of the tables of definitions.
use Rattle.std.proofs.Common.{ℕ, zero, suc, ◌+◌, ◌^◌, ◌≡◌, ◌≢◌, ◌<◌, ◌≤◌, Bool, true, false, cond, eqb, ltb, length-append, eqb-true, not, ◌&&◌, ◌||◌}
use Rattle.std.proofs.Common.{refl, sym, ap, ap₂, ◌∙◌, subst, arith, Option, Some, None, Result, Ok, Err, List, [], ◌∷◌, ◌++◌, length, map, get_or}
use Rattle.std.proofs.Common.{All, inl, inr, ◌⊎◌}
use mathlib.Core.Path.{fun_ext}
use Rattle.std.specs.Prelude.{IfSome, sum_by}
use Rattle.std.specs.List.{filter}
use Rattle.std.proofs.lemmas.Bool.{lt-ltb, ltb-true, ltb-false}
use Rattle.std.proofs.lemmas.List.{get_or_append_left, get_or-map, length-map}
use Rattle.std.proofs.lemmas.List.Elements.{All-filter, All-cons}
use Rattle.mixed_graph.specs.declared.sets.VSet.{VSet}
use Rattle.mixed_graph.specs.Vocabulary.{has}
use Rattle.prob_expr.specs.Tree.{Tree}
use Rattle.prob_expr.specs.View.{view}
use Rattle.prob_expr.specs.declared.expr.Expr.{Expr}
use Rattle.prob_expr.specs.Vocabulary.{free_in, free_in_defs, Weights, cap}
use Rattle.quantity.specs.Kinds.{Pair}
use Rattle.count_eval.specs.Rules.{Rule}
use Rattle.count_rows.specs.Vocabulary.{Row, Table, agrees, counted}
use Rattle.count_table.specs.Vocabulary.{IsCell, AreCounts, HasLevels, axes_of, cell_at, place_at, HasCell}
use Rattle.count_eval.specs.Stops.{Stop}
use Rattle.count_eval.specs.Evaluated.{evaluated}
use Rattle.count_eval.proofs.Measures.{known_at}
use Rattle.count_eval.specs.Programs.{weights_in, is_used, known}
use Rattle.count_eval.specs.Laws.{AllUsed}
use Rattle.count_eval.proofs.Used.{among, with_levels}
use Rattle.count_table.specs.Axes.{Axes}
use Rattle.count_table.proofs.Choosing.{size_in, sizes-pos}
use Rattle.count_table.proofs.Lists.{same-map}
use Rattle.count_table.proofs.Placing.{same_place}
use Rattle.count_eval.specs.Tables.{IsTableOf, AreTables}
use Rattle.count_eval.specs.declared.tables.table.DefinitionTable.{DefinitionTable}
use Rattle.count_eval.proofs.Agreeing.{found, Agree, AgreeWithin, known_reads}

-- ---- cells

cell_by : (f g : ℕ → ℕ) (vs : List ℕ) → All (λ v. g v < f v) vs → IsCell (map f vs) (map g vs)
cell_by f g [] h = tt
cell_by f g (v ∷ vs) h = (h 0 v (omega arith), cell_by f g vs (λ i d lt. h (suc i) d (omega arith)))

used_here : (t : Table) → AreCounts t → (i d : ℕ) → i < length t.vertices → is_used t (get_or t.vertices i d) ≡ true
used_here t are i d lt = lt-ltb 0 (size_in t (get_or t.vertices i d)) (sizes-pos t are i d lt)

-- a cell with a level of each used vertex has a cell over the used members of a set
pub has_cell : (t : Table) (of : ℕ → Bool) (at : List ℕ) → AreCounts t → HasLevels t (is_used t) at → HasCell (axes_of t of) at
has_cell t of at are h = record {
  there = All-filter of (λ v. v < length at) t.vertices (λ i d lt. (h (get_or t.vertices i d) (used_here t are i d lt)).0);
  cell = cell_by (size_in t) (λ v. get_or at v 0) (filter of t.vertices)
      (All-filter of (λ v. get_or at v 0 < size_in t v) t.vertices (λ i d lt. (h (get_or t.vertices i d) (used_here t are i d lt)).1));
}

member_has : (P : ℕ → Type 0) (p : ℕ → Bool) (vs : List ℕ) (v : ℕ) → All P (filter p vs) → among v vs ≡ true → p v ≡ true → P v
member_has P p [] v h there kept = absurd (bad there)
  where
    bad : false ≡ true → ⊥
    bad e = cc
member_has P p (u ∷ us) v h there kept = go (p u) refl h (eqb u v) refl there (λ k m. member_has P p us v k m kept)
  where
    bad : false ≡ true → ⊥
    bad e = cc

    go : (b : Bool) → p u ≡ b → All P (cond b (u ∷ filter p us) (filter p us)) → (c : Bool) → eqb u v ≡ c → (c || among v us) ≡ true
        → (All P (filter p us) → among v us ≡ true → P v) → P v
    go true e k true same m ih = subst P (eqb-true u v same) (k 0 u (omega arith))
    go true e k false other m ih = ih (λ i d lt. k (suc i) d (omega arith)) m
    go false e k true same m ih = absurd (bad (sym e ∙ ap p (eqb-true u v same) ∙ kept))
    go false e k false other m ih = ih k m

-- assignments with one cell over the used members of a set agree on these
pub one_cell : (t : Table) (mask : ℕ) (axes : Axes) (s r : ℕ → ℕ) → AreCounts t → axes ≡ axes_of t (has mask) → IsCell axes.sizes (cell_at axes s)
    → IsCell axes.sizes (cell_at axes r)
    → place_at axes s ≡ place_at axes r → AgreeWithin (is_used t) mask s r
one_cell t mask axes s r are e cs cr same v member used =
    let equal : map s axes.vertices ≡ map r axes.vertices = same_place axes.sizes (map s axes.vertices) (map r axes.vertices) cs cr same in
    let over : map s (filter (has mask) t.vertices) ≡ map r (filter (has mask) t.vertices) =
    subst (λ (a : Axes). map s a.vertices ≡ map r a.vertices) e equal in
    member_has (λ u. s u ≡ r u) (has mask) t.vertices v (same-map s r (filter (has mask) t.vertices) over)
    (sym (with_levels t.vertices t.levels v are.matched are.each) ∙ used) member

-- ---- counts

agrees_local : (vs cell : List ℕ) (of : ℕ → Bool) (s r : ℕ → ℕ) → Agree of s r → agrees vs cell of s ≡ agrees vs cell of r
agrees_local [] cell of s r h = refl
agrees_local (v ∷ vs) [] of s r h = refl
agrees_local (v ∷ vs) (x ∷ xs) of s r h = ap₂ (λ p q. p && q) (go (of v) refl) (agrees_local vs xs of s r h)
  where
    go : (b : Bool) → of v ≡ b → (not b || eqb x (s v)) ≡ (not b || eqb x (r v))
    go true e = ap (eqb x) (h v e)
    go false e = refl

pub counted_local : (vs : List ℕ) (rows : List Row) (of : ℕ → Bool) (s r : ℕ → ℕ) → Agree of s r → counted vs rows of s ≡ counted vs rows of r
counted_local vs rows of s r h =
    ap (λ (f : Row → ℕ). sum_by f rows) (fun_ext (λ (row : Row). ap (λ (b : Bool). cond b row.count 0) (agrees_local vs row.cell of s r h)))

-- ---- entries

same_found : (r q : Result Pair Stop) (p : Pair) → found r ≡ found q → q ≡ Ok p → r ≡ Ok p
same_found (Ok a) (Ok b) p e h = cc
same_found (Ok a) (Err x) p e h = absurd (cc)
same_found (Err x) (Ok b) p e h = absurd (cc)
same_found (Err x) (Err y) p e h = absurd (cc)

-- a definition's value at a cell is its value at each assignment with that cell
pub one_known : (kind : Rule) (n : ℕ) (t : Table) (ds : List Tree) (k : ℕ) (axes : Axes) (s r : ℕ → ℕ) (p : Pair) → AreCounts t
    → ((v : ℕ) → is_used t v ≡ true → v < n) → AllUsed (is_used t) ds
    → axes ≡ axes_of t (has (get_or (free_in_defs [] ds) k 0)) → IsCell axes.sizes (cell_at axes s) → IsCell axes.sizes (cell_at axes r) → place_at axes s
    ≡ place_at axes r
    → known kind (weights_in n t) ds (length ds) k r ≡ Ok p → known kind (weights_in n t) ds (length ds) k s ≡ Ok p
one_known kind n t ds k axes s r p are low asked over cs cr same e =
    same_found (known kind (weights_in n t) ds (length ds) k s) (known kind (weights_in n t) ds (length ds) k r) p
    (known_reads kind (weights_in n t) (is_used t) low (λ b a x y h. counted_local t.vertices t.rows a x y h) ds asked k s r
    (one_cell t (get_or (free_in_defs [] ds) k 0) axes s r are over cs cr same)) e

-- what an entry says, whatever assignment has its cell
abbrev pub IsRight : {Q : Type 0} → (Q → Pair) → Rule → ℕ → Table → List Tree → ℕ → Axes → List (Option Q) → Type 0
IsRight {Q} numbers kind n t ds k axes values = (at : ℕ → ℕ) → IsCell axes.sizes (cell_at axes at) → (q : Q) → get_or values (place_at axes at) None ≡ Some q
    → known kind (weights_in n t) ds (length ds) k at ≡ Ok (numbers q)

last_or_before : {A : Type 0} (xs : List (Option A)) (o : Option A) (i : ℕ) (x : A) → get_or (xs ++ o ∷ []) i None ≡ Some x → ((i ≡ length xs) × (o ≡ Some x))
    ⊎ (get_or xs i None ≡ Some x)
last_or_before [] o zero x e = inl (refl, e)
last_or_before [] o (suc i) x e = inr e
last_or_before (y ∷ ys) o zero x e = inr e
last_or_before (y ∷ ys) o (suc i) x e = elim (last_or_before ys o i x e) [ inl h ↦ inl (ap suc h.0, h.1) | inr h ↦ inr h ]

-- one entry more, which is right at its own cell
pub right_more : {Q : Type 0} (numbers : Q → Pair) (kind : Rule) (n : ℕ) (t : Table) (ds : List Tree) (k : ℕ) (axes : Axes) (values : List (Option Q))
    (o : Option Q) (r : ℕ → ℕ) → AreCounts t
    → ((v : ℕ) → is_used t v ≡ true → v < n) → AllUsed (is_used t) ds → axes ≡ axes_of t (has (get_or (free_in_defs [] ds) k 0))
    → IsCell axes.sizes (cell_at axes r) → place_at axes r ≡ length values
    → IfSome o (λ q. known kind (weights_in n t) ds (length ds) k r ≡ Ok (numbers q)) → IsRight numbers kind n t ds k axes values
    → IsRight numbers kind n t ds k axes (values ++ o ∷ [])
right_more {Q} numbers kind n t ds k axes values o r are low asked over cr at known_there h s cs q e =
    elim (last_or_before values o (place_at axes s) q e) [
      | inl last ↦ one_known kind n t ds k axes s r (numbers q) are low asked over cs cr (last.0 ∙ sym at)
          (subst (λ (p : Option Q). IfSome p (λ q. known kind (weights_in n t) ds (length ds) k r ≡ Ok (numbers q))) last.1 known_there)
      | inr earlier ↦ h s cs q earlier
    ]

-- what a look-up finds is the definition's value
pub held_by : {Q : Type 0} (numbers : Q → Pair) (kind : Rule) (n : ℕ) (t : Table) (ds : List Tree) (k : ℕ) (axes : Axes) (values : List (Option Q))
    (at : ℕ → ℕ) (o : Option Q) → IsTableOf numbers kind n t ds k axes values
    → IsCell axes.sizes (cell_at axes at) → o ≡ get_or values (place_at axes at) None
    → IfSome o (λ q. known kind (weights_in n t) ds (length ds) k at ≡ Ok (numbers q))
held_by numbers kind n t ds k axes values at None h cell e = tt
held_by numbers kind n t ds k axes values at (Some q) h cell e = h.right at cell q (sym e)

-- a definition's value among all is its own evaluation over those before it
pub known_by : (kind : Rule) (w : Weights) (ds : List Tree) (k : ℕ) (e : Tree) (s : ℕ → ℕ) (r : Result Pair Stop) → k < length ds → k < 2 ^ 32 → e
    ≡ get_or ds k e
    → r ≡ evaluated kind w (known kind w ds k) (Some k) 0 e s → known kind w ds (length ds) k s ≡ r
known_by kind w ds k e s r within small at h =
    known_at kind w ds k (length ds) e s within within at ∙ ap (λ (m : ℕ). evaluated kind w (known kind w ds k) (Some m) 0 e s)
    (let same : cap k ≡ k = omega arith in same) ∙ sym h

-- ---- cells of places

cell_each : (f g : ℕ → ℕ) (vs : List ℕ) → IsCell (map f vs) (map g vs) → All (λ v. g v < f v) vs
cell_each f g [] h = λ i d lt. absurd (omega (arith, lt))
cell_each f g (v ∷ vs) h = All-cons (λ v. g v < f v) v vs h.0 (cell_each f g vs h.1)

filter_kept : (p : ℕ → Bool) (vs : List ℕ) → All (λ u. p u ≡ true) (filter p vs)
filter_kept p [] = λ i d lt. absurd (omega (arith, lt))
filter_kept p (v ∷ vs) = go (p v) refl (filter_kept p vs)
  where
    go : (b : Bool) → p v ≡ b → All (λ u. p u ≡ true) (filter p vs) → All (λ u. p u ≡ true) (cond b (v ∷ filter p vs) (filter p vs))
    go true e h = All-cons (λ u. p u ≡ true) v (filter p vs) e h
    go false e h = h

-- the cell at a place has a level of each used vertex, 0 where the vertex isn't a member
pub has_levels : (t : Table) (of : ℕ → Bool) (axes : Axes) (cell : List ℕ) (n : ℕ) → axes ≡ axes_of t of → AreCounts t
    → ((v : ℕ) → is_used t v ≡ true → v < n) → n ≤ length cell → HasCell axes cell
    → ((v : ℕ) → All (λ u. u ≢ v) axes.vertices → get_or cell v 0 ≡ 0) → HasLevels t (is_used t) cell
has_levels t of axes cell n e are low long has blank v used = (let lt = low v used in omega (arith, lt, long), go (of v) refl)
  where
    there : among v t.vertices ≡ true
    there = sym (with_levels t.vertices t.levels v are.matched are.each) ∙ used

    each : All (λ u. get_or cell u 0 < size_in t u) (filter of t.vertices)
    each = cell_each (size_in t) (λ u. get_or cell u 0) (filter of t.vertices) (subst (λ (a : Axes). HasCell a cell) e has).cell

    apart : (u : ℕ) → of v ≡ false → of u ≡ true → u ≡ v → ⊥
    apart u off member same = bad (sym off ∙ ap of (sym same) ∙ member)
      where
        bad : false ≡ true → ⊥
        bad e = cc

    outside : of v ≡ false → All (λ u. u ≢ v) axes.vertices
    outside off = subst (λ (a : Axes). All (λ u. u ≢ v) a.vertices) (sym e)
        (λ i d lt. apart (get_or (filter of t.vertices) i d) off (filter_kept of t.vertices i d lt))

    go : (b : Bool) → of v ≡ b → get_or cell v 0 < size_in t v
    go true member = member_has (λ u. get_or cell u 0 < size_in t u) of t.vertices v each there member
    go false off = subst (λ (m : ℕ). m < size_in t v) (sym (blank v (outside off))) (ltb-true 0 (size_in t v) used)

-- no entry is there yet
pub right_none : {Q : Type 0} (numbers : Q → Pair) (kind : Rule) (n : ℕ) (t : Table) (ds : List Tree) (k : ℕ) (axes : Axes) (values : List (Option Q))
    → values ≡ [] → IsRight numbers kind n t ds k axes values
right_none {Q} numbers kind n t ds k axes values none at cell q e = absurd (bad (sym (ap (λ (l : List (Option Q)). get_or l (place_at axes at) None) none) ∙ e))
  where
    bad : ◌≡◌ {A = Option Q} None (Some q) → ⊥
    bad e = cc

-- ---- lists of tables

last : {A : Type 0} (xs : List A) (x d : A) → get_or (xs ++ x ∷ []) (length xs) d ≡ x
last [] x d = refl
last (y ∷ ys) x d = last ys x d

-- one definition's table more
pub tables_more : {Q : Type 0} (numbers : Q → Pair) (kind : Rule) (n : ℕ) (t : Table) (ds : List Tree) (tables : List (DefinitionTable Q))
    (x : DefinitionTable Q) → AreTables numbers kind n t ds tables
    → IsTableOf numbers kind n t ds (length tables) x.places x.values.items → AreTables numbers kind n t ds (tables ++ x ∷ [])
tables_more {Q} numbers kind n t ds tables x before new k y lt is = go (ltb k (length tables)) refl
  where
    go : (b : Bool) → ltb k (length tables) ≡ b → IsTableOf numbers kind n t ds k y.places y.values.items
    go true e = let low = ltb-true k (length tables) e in before k y low (is ∙ get_or_append_left tables (x ∷ []) y k low)
    go false e =
        let high = ltb-false k (length tables) e in
        let long = length-append tables (x ∷ []) in
        let at : k ≡ length tables = omega (arith, high, long, lt) in
        let same : y ≡ x = is ∙ ap (λ (i : ℕ). get_or (tables ++ x ∷ []) i y) at ∙ last tables x y in
        subst (λ (z : DefinitionTable Q). IsTableOf numbers kind n t ds k z.places z.values.items) (sym same)
        (subst (λ (i : ℕ). IsTableOf numbers kind n t ds i x.places x.values.items) (sym at) new)

pub tables_none : {Q : Type 0} (numbers : Q → Pair) (kind : Rule) (n : ℕ) (t : Table) (ds : List Tree) (tables : List (DefinitionTable Q)) → tables ≡ []
    → AreTables numbers kind n t ds tables
tables_none {Q} numbers kind n t ds tables none k y lt is = absurd (let long = ap (λ (l : List (DefinitionTable Q)). length l) none in omega (arith, long, lt))

-- the set of a definition, as one of the list of masks
pub set_at : (sets : List VSet) (defs : List ℕ) (k : ℕ) (set : VSet) → map (λ (s : VSet). s.bits) sets ≡ defs → k < length sets → set ≡ get_or sets k set
    → set.bits ≡ get_or defs k 0
set_at sets defs k set same lt is = ap (λ (s : VSet). s.bits) is ∙ sym (get_or-map (λ (s : VSet). s.bits) sets k set 0 lt)
    ∙ ap (λ (l : List ℕ). get_or l k 0) same

-- there is a set for each definition
pub length-free : (sets : List ℕ) (ds : List Tree) → length (free_in_defs sets ds) ≡ length sets + length ds
length-free sets [] = omega arith
length-free sets (d ∷ ds) = let r = length-free (sets ++ free_in sets d ∷ []) ds in let one = length-append sets (free_in sets d ∷ []) in omega (arith, r, one)

-- the sets that are made of definitions are as many
pub free_count : (sets : List VSet) (defs : List Expr) → map (λ (s : VSet). s.bits) sets ≡ free_in_defs [] (map view defs) → length sets ≡ length defs
free_count sets defs e =
    let same = ap (λ (l : List ℕ). length l) e in
    let masks = length-map sets (λ (s : VSet). s.bits) in
    let all = length-free [] (map view defs) in
    let trees = length-map defs view in
    omega (arith, same, masks, all, trees)
