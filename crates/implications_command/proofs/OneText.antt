-- Of the pairs of a graph one thing is told, and so it is of their differences over the bytes of counts.
use Rattle.std.proofs.Common.{◌≡◌, ◌≢◌, ◌<◌, ◌≤◌, ◌*◌, ◌⊎◌, ℕ, Bool, true, false, cond, List, [], ◌∷◌, ◌++◌, Option, Some, None, Ok, Err, length, map, get_or, inl, inr, refl, sym, ap, ap₂}
use Rattle.std.proofs.Common.{◌∙◌, subst, arith}
use mathlib.Core.Path.{fun_ext}
use Rattle.std.specs.Prelude.{All, ℤ, pos, ◌-ℤ◌, slice_index_or, codes, option_map}
use Rattle.std.specs.Fmt.{signed_decimal}
use Rattle.std.specs.Int.{abs_diff}
use Rattle.std.specs.List.{flat_map, filter, find}
use Rattle.std.proofs.lemmas.Bool.{cases_lt, cases_eq}
use Rattle.std.proofs.lemmas.Option.{same_Some}
use Rattle.std.proofs.lemmas.List.Elements.{All-nil, All-cons, All-head, All-tail}
use Rattle.std.proofs.lemmas.List.Folds.{flat_map-map}
use Rattle.std.proofs.lemmas.Simd.{map-map}
use Rattle.mixed_graph.specs.Vocabulary.{has, MixedGraph, graph_of, name_of}
use Rattle.dag_reader.specs.declared.graph.ReadGraph.{ReadGraph}
use Rattle.implications.specs.declared.pairs.Implication.{Implication}
use Rattle.implications.specs.Vocabulary.{AreImplications}
use Rattle.answer_text.specs.Vocabulary.{printed}
use Rattle.command_words.specs.Vocabulary.{Text}
use Rattle.count_rows.specs.declared.fault.CountFault.{CountFault}
use Rattle.count_rows.specs.Vocabulary.{Field, Table}
use Rattle.count_table.specs.Axes.{Axes}
use Rattle.count_table.specs.Vocabulary.{HasCell, cell_at, place_at, IsCell, levels_in, text_fault}
use Rattle.count_table.proofs.Placing.{same_place}
use Rattle.count_eval.specs.Vocabulary.{cell_of}
use Rattle.count_answers.specs.Vocabulary.{printed_level, with_commas, HoldsCounts}
use Rattle.count_answers.proofs.OneReading.{AreAlike, one_table}
use Rattle.broken_pairs.specs.Vocabulary.{is_apart}
use Rattle.implied_differences.specs.declared.largest.Difference.{Difference}
use Rattle.implied_differences.specs.Differences.{difference}
use Rattle.implied_differences.specs.Vocabulary.{IsLargest, axes_in, whole_of, first_of_pair, second_of_pair, distance}
use Rattle.json.specs.Json.{Json, string}
use Rattle.answer_json.specs.Vocabulary.{json_line, array_of, object_of, text_json, vertex_json, set_json}
use Rattle.replies.specs.declared.format.Format.{Format}
use Rattle.replies.specs.declared.outcome.Outcome.{Outcome}
use Rattle.replies.specs.Vocabulary.{answer_of, text_in, code_of}
use Rattle.replies.specs.Told.{Told}
use Rattle.told.specs.Vocabulary.{plain_form, target_refusal, Tells, told_in}
use Rattle.told.proofs.OneTold.{one_told}
use Rattle.targets.specs.declared.fault.TargetFault.{TargetFault}
use Rattle.implications_command.specs.CountsFaults.{counts_refusal}
use Rattle.implications_command.specs.Right.{IsForGraph, IsForCounts}
use Rattle.implications_command.specs.Telling.{implications_telling}
use Rattle.implications_command.specs.declared.answer.Answer.{Answer}
use Rattle.implications_command.specs.declared.answer.Answer.TheVariants.{NoPairs, Pairs, Differences}
use Rattle.implications_command.specs.declared.fault.CountsFault.{CountsFault}
use Rattle.implications_command.specs.declared.fault.CountsFault.TheVariants.{TooLong, Faulty, NoMemory}
use Rattle.implications_command.specs.Lines.{pair_line, pair_lines, vertices_of, value_text, measured_lines}
use Rattle.implications_command.specs.Differences.{first_broken}
use Rattle.implications_command.specs.Objects.{pairs_json, listed_members, broken_members, differences_json}
use Rattle.implications_command.specs.declared.differences.Measured.{Measured}
use Rattle.implications_command.specs.Pairs.{ArePairs, pairs_of, pairs_in}
use Rattle.implications_command.specs.Used.{used_in}
use Rattle.implications_command.proofs.SameList.{one_list}

yes_or_no : (a : Answer) → code_of (implications_telling.outcome a) ≤ 1
yes_or_no NoPairs = omega arith
yes_or_no (Pairs list) = omega arith
yes_or_no (Differences t measured) = omega arith

-- ---- pairs

-- of the pairs of a graph one thing is told, and so it is of there being none
module _ (format : Format) (g h : ReadGraph) (drawn : graph_of h.graph ≡ graph_of g.graph) (named : h.names ≡ g.names) where
  pairs_same : (list others : List Implication) → ArePairs (pairs_in g list) → ArePairs (pairs_in h others)
      → answer_of (text_in format (pair_lines h.names others) (json_line (pairs_json h.names others)))
      ≡ answer_of (text_in format (pair_lines g.names list) (json_line (pairs_json g.names list)))
  pairs_same list others a b =
      let same : others ≡ list = one_list (graph_of g.graph) list others a.implications
      (subst (λ (q : MixedGraph). AreImplications q others) drawn b.implications) in
      λ i. answer_of (text_in format (pair_lines (named i) (same i)) (json_line (pairs_json (named i) (same i))))

  answers_same : (counts : Option Text) (a b : Answer) → IsForGraph counts g (Ok a) → IsForGraph counts h (Ok b)
      → implications_telling.outcome b ≡ implications_telling.outcome a
      → told_in implications_telling target_refusal (plain_form format) h.names (Ok b)
      ≡ told_in implications_telling target_refusal (plain_form format) g.names (Ok a)
  answers_same counts NoPairs NoPairs x y same = refl
  answers_same None (Pairs list) (Pairs others) x y same = pairs_same list.items others.items x y
  answers_same counts NoPairs (Pairs others) x y same = let c : 0 ≡ 1 = ap code_of same in absurd (omega (arith, c))
  answers_same counts (Pairs list) NoPairs x y same = let c : 1 ≡ 0 = ap code_of same in absurd (omega (arith, c))
  answers_same (Some counts) (Pairs list) b x y same = absurd x
  answers_same None (Differences t measured) b x y same = absurd x
  answers_same (Some counts) (Differences t measured) b x y same = absurd x
  answers_same None a (Differences t measured) x y same = absurd y
  answers_same (Some counts) a (Differences t measured) x y same = absurd y

  no_fault : (counts : Option Text) (e k : TargetFault) → IsForGraph counts g (Err e) → target_refusal.told k ≡ target_refusal.told e
  no_fault None e k x = absurd x
  no_fault (Some counts) e k x = absurd x

  pub one_listing : (counts : Option Text) (o : Outcome) (told other : Told)
      → Tells implications_telling target_refusal (IsForGraph counts g) (plain_form format) g.names o told
      → Tells implications_telling target_refusal (IsForGraph counts h) (plain_form format) h.names o other → other ≡ told
  one_listing counts = one_told implications_telling target_refusal (record { answered = yes_or_no; refused = λ e. omega arith }) (plain_form format)
      g.names h.names (IsForGraph counts g) (IsForGraph counts h) (answers_same counts) (λ e k x y. no_fault counts e k x)

-- ---- differences

abbrev tail_of : {X : Type 0} → List X → List X
tail_of [] = []
tail_of (x ∷ xs) = xs

-- where two maps of a list are the same, the functions are at each of its members
at_member : (f g : ℕ → ℕ) (vs : List ℕ) → map f vs ≡ map g vs → (v : ℕ) → (f v ≡ g v) ⊎ All (λ u. u ≢ v) vs
at_member f g [] e v = inr (All-nil (λ u. u ≢ v))
at_member f g (u ∷ us) e v = elim (cases_eq u v) [
  | inl here ↦ inl (subst (λ (w : ℕ). f w ≡ g w) here (ap (λ (l : List ℕ). get_or l 0 0) e))
  | inr other ↦ elim (at_member f g us (ap tail_of e) v) [
    | inl same ↦ inl same
    | inr none ↦ inr (All-cons (λ w. w ≢ v) u us other none)
  ]
]

abbrev axes_with : Implication → List ℕ → List (List Field) → Axes
axes_with i vertices levels = record {
  vertices = i.a ∷ i.b ∷ filter (has i.given.bits) vertices;
  sizes = map (λ v. length (levels_in vertices levels v)) (i.a ∷ i.b ∷ filter (has i.given.bits) vertices);
}

-- what is told of a pair over a table: its difference and its cell, and the levels of the table
record Shown : Type 0 where
  pair : Implication
  value : ℤ
  cell : ℕ → ℕ
  vertices : List ℕ
  levels : List (List Field)

abbrev shown : Table → Measured → Shown
shown t m = record { pair = m.pair; value = m.difference.value; cell = cell_of m.difference.cell; vertices = t.vertices; levels = t.levels }

-- the level of a vertex in its cell
abbrev level_in : Shown → ℕ → List ℕ
level_in s v = slice_index_or (levels_in s.vertices s.levels v) (s.cell v) []

-- its lines
abbrev lines_of : List (List ℕ) → Shown → List ℕ
lines_of names s = pair_line names s.pair ++ (value_text s.value
    ++ (with_commas (map (λ v. printed (name_of names v) ++ (codes "=" ++ printed_level (level_in s v))) (vertices_of s.pair)) ++ codes "\n"))

-- its object
abbrev object_in : List (List ℕ) → Shown → Json
object_in names s = object_of (
    (codes "x", vertex_json names s.pair.a) ∷ (codes "y", vertex_json names s.pair.b) ∷ (codes "given", set_json names s.pair.given.bits)
    ∷ (codes "difference", string (signed_decimal s.value))
    ∷ (codes "cell", array_of (map (λ v. array_of (vertex_json names v ∷ text_json (level_in s v) ∷ [])) (vertices_of s.pair))) ∷ [])

-- the first whose difference isn't 0
abbrev broken_in : List Shown → Option Implication
broken_in ss = option_map (λ s. s.pair) (find (λ s. is_apart s.value) ss)

found_shown : (t : Table) (b : Bool) (m : Measured) (x : Option Shown) (y : Option Measured)
    → option_map (λ (s : Shown). s.pair) x ≡ option_map (λ (k : Measured). k.pair) y
    → option_map (λ (s : Shown). s.pair) (cond b (Some (shown t m)) x) ≡ option_map (λ (k : Measured). k.pair) (cond b (Some m) y)
found_shown t true m x y e = refl
found_shown t false m x y e = e

broken_shown : (t : Table) (ms : List Measured) → broken_in (map (shown t) ms) ≡ first_broken ms
broken_shown t [] = refl
broken_shown t (m ∷ ms) = found_shown t (is_apart m.difference.value) m (find (λ s. is_apart s.value) (map (shown t) ms))
    (find (λ (k : Measured). is_apart k.difference.value) ms) (broken_shown t ms)

-- what is told of all
abbrev told_with : Format → List (List ℕ) → (text : List ℕ) → List Json → Option Implication → Told
told_with format names text objects broken =
    answer_of (text_in format text (json_line (object_of (listed_members (codes "implications") objects ++ broken_members names broken))))

abbrev told_of_shown : Format → List (List ℕ) → List Shown → Told
told_of_shown format names ss = told_with format names (flat_map (lines_of names) ss) (map (object_in names) ss) (broken_in ss)

told_is : (format : Format) (names : List (List ℕ)) (t : Table) (ms : List Measured)
    → answer_of (text_in format (flat_map (measured_lines names t) ms) (json_line (differences_json names t ms)))
    ≡ told_of_shown format names (map (shown t) ms)
told_is format names t ms =
    ap₂ (λ (text : List ℕ) (objects : List Json). told_with format names text objects (first_broken ms))
    (sym (flat_map-map (lines_of names) (shown t) ms)) (sym (map-map (object_in names) (shown t) ms))
    ∙ ap (told_with format names (flat_map (lines_of names) (map (shown t) ms)) (map (object_in names) (map (shown t) ms))) (sym (broken_shown t ms))

abbrev Counter : Type 0
Counter = (ℕ → Bool) → (ℕ → ℕ) → ℕ

module _ (t u : Table) (same : AreAlike t u) (i : Implication) where
  pub axes_same : axes_in u i ≡ axes_in t i
  axes_same = ap (λ (vs : List ℕ). axes_with i vs u.levels) same.vertices ∙ ap (λ (ls : List (List Field)). axes_with i t.vertices ls) same.levels

  distance_same : (s : ℕ → ℕ) → distance u i s ≡ distance t i s
  distance_same s = ap (λ (w : Counter). abs_diff (w (whole_of i) s * w (has i.given.bits) s) (w (first_of_pair i) s * w (second_of_pair i) s)) same.sums

  pub difference_same : (s : ℕ → ℕ) → difference u i s ≡ difference t i s
  difference_same s = ap (λ (w : Counter). pos (w (whole_of i) s * w (has i.given.bits) s) -ℤ pos (w (first_of_pair i) s * w (second_of_pair i) s)) same.sums

  module _ (d e : Difference) (a : IsLargest t i d) (b : IsLargest u i e) where
    cell_too : HasCell (axes_in t i) e.cell
    cell_too = subst (λ (x : Axes). HasCell x e.cell) axes_same b.cell

    -- neither cell comes first
    not_later : place_at (axes_in t i) (cell_of e.cell) < place_at (axes_in t i) (cell_of d.cell) → ⊥
    not_later lt =
        let less = a.first (cell_of e.cell) cell_too.cell lt in
        let most = b.greatest (cell_of d.cell) (subst (λ (x : Axes). IsCell x.sizes (cell_at x (cell_of d.cell))) (sym axes_same) a.cell.cell) in
        let at_d = distance_same (cell_of d.cell) in
        let at_e = distance_same (cell_of e.cell) in
        omega (arith, less, most, at_d, at_e)

    not_sooner : place_at (axes_in t i) (cell_of d.cell) < place_at (axes_in t i) (cell_of e.cell) → ⊥
    not_sooner lt =
        let less = b.first (cell_of d.cell) (subst (λ (x : Axes). IsCell x.sizes (cell_at x (cell_of d.cell))) (sym axes_same) a.cell.cell)
        (subst (λ (x : Axes). place_at x (cell_of d.cell) < place_at x (cell_of e.cell)) (sym axes_same) lt) in
        let most = a.greatest (cell_of e.cell) cell_too.cell in
        let at_d = distance_same (cell_of d.cell) in
        let at_e = distance_same (cell_of e.cell) in
        omega (arith, less, most, at_d, at_e)

    place_same : place_at (axes_in t i) (cell_of e.cell) ≡ place_at (axes_in t i) (cell_of d.cell)
    place_same = elim (cases_lt (place_at (axes_in t i) (cell_of e.cell)) (place_at (axes_in t i) (cell_of d.cell))) [
      | inl lt ↦ absurd (not_later lt)
      | inr ge ↦ elim (cases_lt (place_at (axes_in t i) (cell_of d.cell)) (place_at (axes_in t i) (cell_of e.cell))) [
        | inl lt ↦ absurd (not_sooner lt)
        | inr le ↦ omega (arith, ge, le)
      ]
    ]

    cells_same : cell_of e.cell ≡ cell_of d.cell
    cells_same = fun_ext (λ v. elim (at_member (cell_of e.cell) (cell_of d.cell) (axes_in t i).vertices
        (same_place (axes_in t i).sizes (cell_at (axes_in t i) (cell_of e.cell)) (cell_at (axes_in t i) (cell_of d.cell)) cell_too.cell a.cell.cell
        place_same) v) [
          | inl here ↦ here
          | inr none ↦ b.outside v (subst (λ (x : Axes). All (λ w. w ≢ v) x.vertices) (sym axes_same) none) ∙ sym (a.outside v none)
        ])

    value_same : e.value ≡ d.value
    value_same = b.value ∙ difference_same (cell_of e.cell) ∙ ap (difference t i) cells_same ∙ sym a.value

    shown_same : shown u (record { pair = i; difference = e }) ≡ shown t (record { pair = i; difference = d })
    shown_same = λ k. record { pair = i; value = value_same k; cell = cells_same k; vertices = same.vertices k; levels = same.levels k }

-- what is told of pairs that are the same, each with its largest difference
all_shown : (t u : Table) → AreAlike t u → (ms ns : List Measured)
    → map (λ (m : Measured). m.pair) ns ≡ map (λ (m : Measured). m.pair) ms
    → All (λ (m : Measured). IsLargest t m.pair m.difference) ms → All (λ (m : Measured). IsLargest u m.pair m.difference) ns
    → map (shown u) ns ≡ map (shown t) ms
all_shown t u same [] [] e a b = refl
all_shown t u same [] (n ∷ ns) e a b = absurd (let k = ap (λ (l : List Implication). length l) e in omega (arith, k))
all_shown t u same (m ∷ ms) [] e a b = absurd (let k = ap (λ (l : List Implication). length l) e in omega (arith, k))
all_shown t u same (m ∷ ms) (n ∷ ns) e a b =
    let first : n.pair ≡ m.pair = ap (λ (l : List Implication). get_or l 0 m.pair) e in
    let here = All-head (λ (k : Measured). IsLargest t k.pair k.difference) m ms a in
    let there = subst (λ (i : Implication). IsLargest u i n.difference) first (All-head (λ (k : Measured). IsLargest u k.pair k.difference) n ns b) in
    let one : shown u n ≡ shown t m =
    ap (λ (i : Implication). shown u (record { pair = i; difference = n.difference })) first
    ∙ shown_same t u same m.pair m.difference n.difference here there in
    ap₂ (λ (s : Shown) (ss : List Shown). s ∷ ss) one
    (all_shown t u same ms ns (ap tail_of e) (All-tail (λ (k : Measured). IsLargest t k.pair k.difference) m ms a)
    (All-tail (λ (k : Measured). IsLargest u k.pair k.difference) n ns b))

-- the answer over counts in a graph that has pairs
abbrev pub IsMeasured : Format → Option Field → (bytes : List ℕ) → Outcome → MixedGraph → (names : List (List ℕ)) → Told → Type 0
IsMeasured format count bytes o q names told = (list : List Implication) × ArePairs (pairs_of q names list)
    × Tells implications_telling counts_refusal (IsForCounts (pairs_of q names list) count bytes) (plain_form format) names o told

module _ (format : Format) (q : MixedGraph) (names : List (List ℕ)) (list others : List Implication) (a : ArePairs (pairs_of q names list))
    (b : ArePairs (pairs_of q names others)) (count : Option Field) (bytes : List ℕ) where
  list_same : others ≡ list
  list_same = one_list q list others a.implications b.implications

  -- what holds of the vertices of the one list holds of those of the other
  of_list : (P : ℕ → Type 0) → P (used_in others) → P (used_in list)
  of_list P x = subst (λ (l : List Implication). P (used_in l)) list_same x

  measured_same : (a b : Answer) → IsForCounts (pairs_of q names list) count bytes (Ok a) → IsForCounts (pairs_of q names others) count bytes (Ok b)
      → told_in implications_telling counts_refusal (plain_form format) names (Ok b)
      ≡ told_in implications_telling counts_refusal (plain_form format) names (Ok a)
  measured_same (Differences t measured) (Differences u more) x y =
      let read = of_list (λ used. HoldsCounts names used count bytes u) y.0 in
      let alike = one_table bytes names (used_in list) count t u x.0.reads read.reads in
      let same = all_shown t u alike measured.items more.items (y.1.pairs ∙ list_same ∙ sym x.1.pairs) x.1.largest y.1.largest in
      told_is format names u more.items ∙ ap (told_of_shown format names) same ∙ sym (told_is format names t measured.items)
  measured_same NoPairs b x y = absurd x
  measured_same (Pairs l) b x y = absurd x
  measured_same (Differences t measured) NoPairs x y = absurd y
  measured_same (Differences t measured) (Pairs l) x y = absurd y

  -- bytes have one fault
  fault_same : (e k : CountsFault) → IsForCounts (pairs_of q names list) count bytes (Err e) → IsForCounts (pairs_of q names others) count bytes (Err k)
      → counts_refusal.told k ≡ counts_refusal.told e
  fault_same TooLong TooLong x y = refl
  fault_same (Faulty e) (Faulty k) x y = ap (λ (f : CountFault). counts_refusal.told (Faulty f))
      (same_Some k e (sym (of_list (λ used. text_fault bytes names used count ≡ Some k) y.found) ∙ x.found))
  fault_same TooLong (Faulty k) x y = absurd (let s = y.small in omega (arith, x, s))
  fault_same (Faulty e) TooLong x y = absurd (let s = x.small in omega (arith, y, s))
  fault_same NoMemory k x y = absurd x
  fault_same e NoMemory x y = absurd y

-- of the pairs over counts one thing is told, whatever the outcome
pub one_measuring : (format : Format) (count : Option Field) (bytes : List ℕ) (o : Outcome) (q : MixedGraph) (names : List (List ℕ)) (told other : Told)
    → IsMeasured format count bytes o q names told → IsMeasured format count bytes o q names other → other ≡ told
one_measuring format count bytes o q names told other a b =
    one_told implications_telling counts_refusal (record { answered = yes_or_no; refused = λ e. omega arith }) (plain_form format) names names
    (IsForCounts (pairs_of q names a.0) count bytes) (IsForCounts (pairs_of q names b.0) count bytes)
    (λ x y f g same. measured_same format q names a.0 b.0 a.1 b.1 count bytes x y f g) (fault_same format q names a.0 b.0 a.1 b.1 count bytes)
    o told other a.2 b.2
