-- Over the bytes of counts one thing is told of an effect.
use Rattle.answer_json.specs.Vocabulary.{fault_json, array_of, object_of, json_line}
use Rattle.answer_text.specs.Vocabulary.{line_of}
use Rattle.count_answers.proofs.OneReading.{AreAlike, one_table}
use Rattle.count_answers.specs.Vocabulary.{HoldsCounts}
use Rattle.count_eval.specs.declared.failure.EvalFault.{EvalFault}
use Rattle.count_eval.specs.Vocabulary.{IsEvaluationFault, is_used}
use Rattle.count_eval.specs.Rules.{rule as rule_of}
use Rattle.count_eval.specs.Stops.{Stop}
use Rattle.count_json.proofs.SameStops.{stop_of_fault}
use Rattle.count_json.specs.Vocabulary.{evaluation_fault_json, stage, why_number, why_message, definition_json, cell_members}
use Rattle.count_rows.specs.declared.fault.CountFault.{CountFault}
use Rattle.count_rows.specs.Vocabulary.{Field, Row, Table}
use Rattle.count_table.specs.Vocabulary.{AreCounts}
use Rattle.diagram.proofs.OneDiagram.{AreSameDiagrams}
use Rattle.diagram.specs.declared.diagram.Diagram.{Diagram}
use Rattle.diagram.specs.Vocabulary.{Names}
use Rattle.evaluate_command.proofs.OneBreak.{one_break}
use Rattle.evaluate_command.proofs.OneEffect.{same_values, same_effect}
use Rattle.evaluate_command.proofs.Stops.{words_of_stop, why_digit, support_text, stop_told}
use Rattle.table_cells.proofs.Tables.{member_used}
use Rattle.evaluate_command.specs.Cells.{CellValue, printed_cells, value_in, values_at}
use Rattle.evaluate_command.specs.Effects.{PlainEffect, target_of, Identifies, used_in}
use Rattle.evaluate_command.specs.Lines.{sign_of, value_line, cells_text, pinned_lines, broken_line}
use Rattle.evaluate_command.specs.Listed.{plain_of, plain_in, exact_numbers, bounds_numbers}
use Rattle.evaluate_command.specs.Listings.{cells_lines, effect_object}
use Rattle.evaluate_command.specs.Objects.{value_json, cells_json, effect_members, values_members}
use Rattle.evaluate_command.specs.Right.{IsOverTable, HasNoValue, IsForCounts, AreNoCounts, LackValues}
use Rattle.evaluate_command.specs.Stopped.{place_text, stop_words}
use Rattle.evaluate_command.specs.Telling.{evaluate_telling}
use Rattle.evaluate_command.specs.ValuesFaults.{values_refusal}
use Rattle.evaluate_command.specs.Ways.{Way, FixesFormula}
use Rattle.evaluate_command.specs.declared.answer.Answer.{Answer}
use Rattle.evaluate_command.specs.declared.answer.EffectValues.{EffectValues}
use Rattle.evaluate_command.specs.declared.answer.Valued.{Valued}
use Rattle.evaluate_command.specs.declared.answer.Values.TheVariants.{Exact, Bounds}
use Rattle.evaluate_command.specs.declared.answer.Values.{Values}
use Rattle.evaluate_command.specs.declared.faults.ValuesFault.TheVariants.{TooLong, Counts, NoValue, NoMemory}
use Rattle.evaluate_command.specs.declared.faults.ValuesFault.{ValuesFault}
use Rattle.identify_text.specs.Vocabulary.{free_beside}
use Rattle.implications.specs.declared.pairs.Implication.{Implication}
use Rattle.implications_command.specs.Vocabulary.{broken_members}
use Rattle.json.specs.Json.{Json, number}
use Rattle.mixed_graph.specs.Vocabulary.{has, members_below}
use Rattle.prob_expr.specs.Vocabulary.{target_view}
use Rattle.quantity.specs.Exacts.{exact}
use Rattle.quantity.specs.Intervals.{bounds}
use Rattle.quantity.specs.Kinds.{Pair}
use Rattle.quantity.specs.declared.fault.QuantityFault.TheVariants.{ZeroBelow, TooWide, TooFine}
use Rattle.quantity.specs.declared.fault.QuantityFault.{QuantityFault}
use Rattle.quantity.specs.Vocabulary.{Kind}
use Rattle.replies.specs.Told.{Told}
use Rattle.replies.specs.declared.format.Format.{Format}
use Rattle.replies.specs.declared.outcome.Outcome.{Outcome}
use Rattle.replies.specs.Vocabulary.{refusal_of, text_in, answer_of, code_of}
use Rattle.std.proofs.Common.{◌≡◌, ℕ, Bool, true, false, List, [], ◌∷◌, ◌++◌, Option, Result, Ok, Err, refl, sym, ap, ap₂, ◌∙◌, subst, map, codes, ◌≤◌, ◌<◌}
use Rattle.std.proofs.Common.{arith}
use Rattle.std.specs.List.{flat_map}
use Rattle.std.specs.Prelude.{decimal}
use Rattle.told.specs.Vocabulary.{plain_form, Tells, told_in}
use Rattle.std.proofs.lemmas.Option.{none-some, same_Some}
use Rattle.std.specs.Borrow.{Bor}
use Rattle.told.proofs.OneTold.{one_told}
use Rattle.evaluate_command.specs.declared.answer.Answer.TheVariants as answers

-- ---- values

-- the lines of what is pinned, those of the cells, and that of a broken pair
abbrev values_text : Kind → (is_exact : Bool) → PlainEffect → Table → List CellValue → Option Implication → List ℕ
values_text kind is_exact e t values broken = pinned_lines e.names t (free_beside (target_of e) e.formula)
    ++ (flat_map (value_line kind (sign_of is_exact) e.names (target_of e) t) values ++ broken_line e.names broken)

-- their object
abbrev values_json : (is_exact : Bool) → PlainEffect → Table → List CellValue → Option Implication → Json
values_json is_exact e t values broken = object_of (effect_members is_exact e.names (target_of e) t (free_beside (target_of e) e.formula)
    ++ (codes "cells", array_of (map (value_json is_exact e.names (target_of e) t) values)) ∷ broken_members e.names broken)

-- what is told of values: the lines of what is pinned, of the cells and of a broken pair, or one object
abbrev values_told : Format → Kind → (is_exact : Bool) → PlainEffect → Table → List CellValue → Option Implication → Told
values_told format kind is_exact e t values broken =
    answer_of (text_in format (values_text kind is_exact e t values broken) (json_line (values_json is_exact e t values broken)))

lines_listed : {Q : Type 0} (f : CellValue → List ℕ) (numbers : Q → Pair) (values : List (Valued Q))
    → flat_map (λ v. f (plain_of numbers v)) values ≡ flat_map f (plain_in numbers values)
lines_listed f numbers [] = refl
lines_listed f numbers (v ∷ vs) = ap (λ (text : List ℕ). f (plain_of numbers v) ++ text) (lines_listed f numbers vs)

objects_listed : {Q : Type 0} (f : CellValue → Json) (numbers : Q → Pair) (values : List (Valued Q))
    → map (λ v. f (plain_of numbers v)) values ≡ map f (plain_in numbers values)
objects_listed f numbers [] = refl
objects_listed f numbers (v ∷ vs) = ap (λ (js : List Json). f (plain_of numbers v) ∷ js) (objects_listed f numbers vs)

module _ (format : Format) (e : PlainEffect) (t : Table) (a : EffectValues) (of : target_view a.target ≡ target_of e)
    (pinned : a.pinned.bits ≡ free_beside (target_of e) e.formula) (table : a.counts ≡ t) where
  values_plain : {Q : Type 0} (numbers : Q → Pair) (kind : Kind) (is_exact : Bool) (values : List (Valued Q)) (list : List CellValue)
      → plain_in numbers values ≡ list
      → answer_of (text_in format (pinned_lines e.names a.counts a.pinned.bits
      ++ (cells_text numbers kind is_exact e.names (target_view a.target) a.counts values ++ broken_line e.names a.broken))
      (json_line (object_of (values_members numbers is_exact e.names (target_view a.target) a.counts a.pinned.bits values a.broken))))
      ≡ values_told format kind is_exact e t list a.broken
  values_plain numbers kind is_exact values list is =
      let free = free_beside (target_of e) e.formula in
      let line = value_line kind (sign_of is_exact) e.names (target_of e) t in
      let json = value_json is_exact e.names (target_of e) t in
      let lines : cells_text numbers kind is_exact e.names (target_of e) t values ≡ flat_map line list =
      lines_listed line numbers values ∙ ap (flat_map line) is in
      let objects : cells_json numbers is_exact e.names (target_of e) t values ≡ map json list = objects_listed json numbers values ∙ ap (map json) is in
      (λ i. answer_of (text_in format (pinned_lines e.names (table i) (pinned i)
      ++ (cells_text numbers kind is_exact e.names (of i) (table i) values ++ broken_line e.names a.broken))
      (json_line (object_of (values_members numbers is_exact e.names (of i) (table i) (pinned i) values a.broken)))))
      ∙ (λ i. answer_of (text_in format (pinned_lines e.names t free ++ (lines i ++ broken_line e.names a.broken))
      (json_line (object_of (effect_members is_exact e.names (target_of e) t free
      ++ (codes "cells", array_of (objects i)) ∷ broken_members e.names a.broken)))))

-- the kind of quantity
abbrev kind_of : (is_exact : Bool) → Kind
kind_of true = exact
kind_of false = bounds

-- what is told shows the values at the printed cells, and this broken pair
record ShowsValues (format : Format) (is_exact zero : Bool) (e : PlainEffect) (t : Table) (broken : Option Implication) (told : Told) : Type 0 where
  values : List CellValue
  evaluated : values_at (value_in (rule_of (kind_of is_exact) zero) e t) (printed_cells e t) ≡ Ok values
  prints : told ≡ values_told format (kind_of is_exact) is_exact e t values broken

-- what is told shows the stop at the first that has none
record ShowsStop (is_exact zero : Bool) (e : PlainEffect) (t : Table) (told : Told) : Type 0 where
  stop : Stop
  stops : values_at (value_in (rule_of (kind_of is_exact) zero) e t) (printed_cells e t) ≡ Err stop
  prints : told ≡ stop_told e.names t stop

module _ (format : Format) (e : PlainEffect) (t : Table) (a : EffectValues) (of : target_view a.target ≡ target_of e)
    (pinned : a.pinned.bits ≡ free_beside (target_of e) e.formula) (table : a.counts ≡ t) where
  values_shown : (is_exact zero : Bool) (values : Values) → IsOverTable is_exact zero e t values
      → ShowsValues format is_exact zero e t a.broken
      (answer_of (text_in format (pinned_lines e.names a.counts a.pinned.bits ++ (cells_lines e.names a values ++ broken_line e.names a.broken))
      (json_line (object_of (effect_object e.names a values)))))
  values_shown true zero (Exact values) h = record {
    values = h.values.values;
    evaluated = h.values.evaluated;
    prints = values_plain format e t a of pinned table exact_numbers exact true values.items h.values.values h.listed;
  }
  values_shown false zero (Bounds values) h = record {
    values = h.values.values;
    evaluated = h.values.evaluated;
    prints = values_plain format e t a of pinned table bounds_numbers bounds false values.items h.values.values h.listed;
  }
  values_shown true zero (Bounds values) h = absurd h
  values_shown false zero (Exact values) h = absurd h

stop_shown : (is_exact zero : Bool) (e : PlainEffect) (t : Table) → AreCounts t → (used : ℕ → Bool) → t.vertices ≡ members_below used 64 → (fault : EvalFault)
    → HasNoValue is_exact zero e t fault
    → ShowsStop is_exact zero e t (refusal_of (line_of (stop_words e.names t fault)) (json_line (evaluation_fault_json e.names t fault)))
stop_shown is_exact zero e t counts used vertices fault h = go is_exact h
  where
    told_as : (s : Stop) → IsEvaluationFault (is_used t) fault s
        → refusal_of (line_of (stop_words e.names t fault)) (json_line (evaluation_fault_json e.names t fault)) ≡ stop_told e.names t s
    told_as s is =
        let words = words_of_stop e.names t s used fault counts vertices is in
        let json = stop_of_fault e.names t s used fault vertices (member_used t used vertices counts) is in
        λ i. refusal_of (line_of (words i)) (json_line (json i))

    go : (k : Bool) → HasNoValue k zero e t fault
        → ShowsStop k zero e t (refusal_of (line_of (stop_words e.names t fault)) (json_line (evaluation_fault_json e.names t fault)))
    go true n = record { stop = n.0; stops = n.1; prints = told_as n.0 n.2 }
    go false n = record { stop = n.0; stops = n.1; prints = told_as n.0 n.2 }

-- ---- over two tables that are alike

-- a table with these rows, of which no text speaks
abbrev with_levels : List Row → List ℕ → List (List Field) → Table
with_levels rows vertices levels = record { vertices = vertices; levels = levels; rows = rows }

-- the values that there are, and the stop that there is
abbrev values_of : Result (List CellValue) Stop → List CellValue
values_of (Ok values) = values
values_of (Err stop) = []

abbrev stop_of : Stop → Result (List CellValue) Stop → Stop
stop_of s (Ok values) = s
stop_of s (Err stop) = stop

-- what is told of a stop doesn't speak of rows
support_rows : (why : QuantityFault) (names : List (List ℕ)) (cell : ℕ → ℕ) (rows more : List Row) (vs : List ℕ) (ls : List (List Field))
    → support_text why names (with_levels rows vs ls) cell ≡ support_text why names (with_levels more vs ls) cell
support_rows ZeroBelow names cell rows more vs ls = refl
support_rows TooWide names cell rows more vs ls = refl
support_rows TooFine names cell rows more vs ls = refl

cell_rows : (why : QuantityFault) (names : List (List ℕ)) (cell : ℕ → ℕ) (rows more : List Row) (vs : List ℕ) (ls : List (List Field))
    → cell_members why names (with_levels rows vs ls) cell ≡ cell_members why names (with_levels more vs ls) cell
cell_rows ZeroBelow names cell rows more vs ls = refl
cell_rows TooWide names cell rows more vs ls = refl
cell_rows TooFine names cell rows more vs ls = refl

-- of this text and these members of a cell
abbrev stop_with : Stop → (support : List ℕ) → List (List ℕ × Json) → Told
stop_with s support cell = refusal_of
    (line_of (codes "evaluation fault " ++ (why_digit s.why ++ (codes ": " ++ (place_text s.def s.node ++ support)))))
    (json_line (fault_json stage (why_number s.why) (why_message s.why)
    ((codes "definition", definition_json s.def) ∷ (codes "node", number (decimal s.node)) ∷ cell)))

stop_rows : (names : List (List ℕ)) (s : Stop) (rows more : List Row) (vs : List ℕ) (ls : List (List Field))
    → stop_told names (with_levels rows vs ls) s ≡ stop_told names (with_levels more vs ls) s
stop_rows names s rows more vs ls =
    ap₂ (stop_with s) (support_rows s.why names s.cell rows more vs ls) (cell_rows s.why names s.cell rows more vs ls)

module _ (e : PlainEffect) (t u : Table) (alike : AreAlike t u) where
  -- what is printed of the vertices and the levels of a table is printed of the other
  printed_same : {A : Type 0} (text : Table → A) → ((rows more : List Row) (vs : List ℕ) (ls : List (List Field)) → text (with_levels rows vs ls)
      ≡ text (with_levels more vs ls))
      → text u ≡ text t
  printed_same text same =
      ap (λ (vs : List ℕ). text (with_levels u.rows vs u.levels)) alike.vertices
      ∙ ap (λ (ls : List (List Field)). text (with_levels u.rows t.vertices ls)) alike.levels
      ∙ same u.rows t.rows t.vertices t.levels

  module _ (is_exact zero : Bool) (evaluated : values_at (value_in (rule_of (kind_of is_exact) zero) e u) (printed_cells e u)
      ≡ values_at (value_in (rule_of (kind_of is_exact) zero) e t) (printed_cells e t)) where
    values_tell : (format : Format) (x y : Option Implication) → y ≡ x → (told other : Told) → ShowsValues format is_exact zero e t x told
        → ShowsValues format is_exact zero e u y other → other ≡ told
    values_tell format x y one told other a b =
        let same : b.values ≡ a.values = ap values_of (sym b.evaluated ∙ evaluated ∙ a.evaluated) in
        b.prints
        ∙ printed_same (λ k. values_told format (kind_of is_exact) is_exact e k b.values y) (λ rows more vs ls. refl)
        ∙ ap₂ (values_told format (kind_of is_exact) is_exact e t) same one
        ∙ sym a.prints

    stops_tell : (told other : Told) → ShowsStop is_exact zero e t told → ShowsStop is_exact zero e u other → other ≡ told
    stops_tell told other a b =
        let same : b.stop ≡ a.stop = ap (stop_of a.stop) (sym b.stops ∙ evaluated ∙ a.stops) in
        b.prints ∙ printed_same (λ k. stop_told e.names k b.stop) (stop_rows e.names b.stop)
        ∙ ap (λ (s : Stop). stop_told e.names t s) same ∙ sym a.prints

-- ---- over the bytes of counts

module _ (format : Format) (is_exact zero matched : Bool) (e : PlainEffect) (count : Option Field) (bytes : List ℕ) where
  tables_alike : (t u : Table) → HoldsCounts e.names (used_in e) count bytes t → HoldsCounts e.names (used_in e) count bytes u → AreAlike t u
  tables_alike t u a b = one_table bytes e.names (used_in e) count t u a.reads b.reads

  -- of the values over counts one thing is told
  answers_same : (a b : Answer) → IsForCounts is_exact zero matched e count bytes (Ok a) → IsForCounts is_exact zero matched e count bytes (Ok b)
      → told_in evaluate_telling values_refusal (plain_form format) e.names (Ok b)
      ≡ told_in evaluate_telling values_refusal (plain_form format) e.names (Ok a)
  answers_same (answers.Values a) (answers.Values b) x y =
      let k = x.answer in
      let m = y.answer in
      let alike = tables_alike x.table y.table x.holds y.holds in
      values_tell e x.table y.table alike is_exact zero
      (same_values (rule_of (kind_of is_exact) zero) e bytes count x.table y.table x.holds.reads y.holds.reads) format
      a.broken b.broken (one_break matched e.graph x.table y.table alike a.broken b.broken k.broken m.broken)
      (told_in evaluate_telling values_refusal (plain_form format) e.names (Ok (answers.Values a)))
      (told_in evaluate_telling values_refusal (plain_form format) e.names (Ok (answers.Values b)))
      (values_shown format e x.table a k.target k.pinned k.table is_exact zero a.values k.values)
      (values_shown format e y.table b m.target m.pinned m.table is_exact zero b.values m.values)
  answers_same (answers.Hedge h) b x y = absurd x.answer
  answers_same (answers.Joint t settled h) b x y = absurd x.answer
  answers_same (answers.NotAdmissible s fault) b x y = absurd x.answer
  answers_same (answers.Values a) (answers.Hedge h) x y = absurd y.answer
  answers_same (answers.Values a) (answers.Joint t settled h) x y = absurd y.answer
  answers_same (answers.Values a) (answers.NotAdmissible s fault) x y = absurd y.answer

  -- counts that are read have no fault
  read_or_refused : (t : Table) (fault : CountFault) → HoldsCounts e.names (used_in e) count bytes t → AreNoCounts e count bytes fault → ⊥
  read_or_refused t fault holds none = none-some fault (sym holds.fits ∙ none.found)

  stop_told_of : (names : Bor (List (List ℕ))) (u : Table) (fault : EvalFault) (x : LackValues is_exact zero e count bytes (NoValue names u fault))
      → ShowsStop is_exact zero e x.table (values_refusal.told (NoValue names u fault))
  stop_told_of names u fault x = let k = x.over in
      subst (λ (told : Told). ShowsStop is_exact zero e x.table told)
      (λ i. refusal_of (line_of (stop_words (sym k.named i) (sym k.table i) fault)) (json_line (evaluation_fault_json (sym k.named i) (sym k.table i) fault)))
      (stop_shown is_exact zero e x.table k.counts (has (used_in e)) x.holds.reads.vertices fault k.value)

  -- bytes have one fault
  faults_same : (f k : ValuesFault) → IsForCounts is_exact zero matched e count bytes (Err f) → IsForCounts is_exact zero matched e count bytes (Err k)
      → values_refusal.told k ≡ values_refusal.told f
  faults_same TooLong TooLong x y = refl
  faults_same (Counts f) (Counts k) x y = ap (λ (c : CountFault). values_refusal.told (Counts c)) (same_Some k f (sym y.found ∙ x.found))
  faults_same (NoValue names t f) (NoValue others u k) x y =
      stops_tell e x.table y.table (tables_alike x.table y.table x.holds y.holds) is_exact zero
      (same_values (rule_of (kind_of is_exact) zero) e bytes count x.table y.table x.holds.reads y.holds.reads)
      (values_refusal.told (NoValue names t f)) (values_refusal.told (NoValue others u k)) (stop_told_of names t f x) (stop_told_of others u k y)
  faults_same TooLong (Counts k) x y = absurd (let s = y.small in omega (arith, x, s))
  faults_same (Counts f) TooLong x y = absurd (let s = x.small in omega (arith, y, s))
  faults_same TooLong (NoValue others u k) x y = absurd (let s = y.holds.small in omega (arith, x, s))
  faults_same (NoValue names t f) TooLong x y = absurd (let s = x.holds.small in omega (arith, y, s))
  faults_same (Counts f) (NoValue others u k) x y = absurd (read_or_refused y.table f y.holds x)
  faults_same (NoValue names t f) (Counts k) x y = absurd (read_or_refused x.table k x.holds y)
  faults_same NoMemory k x y = absurd x
  faults_same f NoMemory x y = absurd y

yes_or_no : (a : Answer) → code_of (evaluate_telling.outcome a) ≤ 1
yes_or_no (answers.Values a) = omega arith
yes_or_no (answers.Hedge h) = omega arith
yes_or_no (answers.Joint t settled h) = omega arith
yes_or_no (answers.NotAdmissible s fault) = omega arith

more_than_no : (f : ValuesFault) → 1 < code_of (values_refusal.outcome f)
more_than_no TooLong = omega arith
more_than_no (Counts f) = omega arith
more_than_no (NoValue names t f) = omega arith
more_than_no NoMemory = omega arith

-- the answer over counts for an effect that the lists name
abbrev pub IsEvaluated : Format → (is_exact zero matched : Bool) → Way → (x y : Names) → Option Field → (bytes : List ℕ) → Outcome → Diagram → Told → Type 0
IsEvaluated format is_exact zero matched way x y count bytes o d told = (e : PlainEffect) × Identifies way d x y e
    × Tells evaluate_telling values_refusal (IsForCounts is_exact zero matched e count bytes) (plain_form format) e.names o told

-- one thing is told of it, whatever the outcome
pub one_evaluation : (format : Format) (is_exact zero matched : Bool) (way : Way) → FixesFormula way → (x y : Names) (count : Option Field) (bytes : List ℕ)
    (o : Outcome) (d d' : Diagram) → AreSameDiagrams d d' → (told other : Told) → IsEvaluated format is_exact zero matched way x y count bytes o d told
    → IsEvaluated format is_exact zero matched way x y count bytes o d' other → other ≡ told
one_evaluation format is_exact zero matched way fixed x y count bytes o d d' s told other a b =
    let e = a.0 in
    let other_too = subst (λ (f : PlainEffect). Tells evaluate_telling values_refusal (IsForCounts is_exact zero matched f count bytes)
    (plain_form format) f.names o other)
    (same_effect way fixed d d' s x y e b.0 a.1 b.1) b.2 in
    one_told evaluate_telling values_refusal (record { answered = yes_or_no; refused = more_than_no }) (plain_form format) e.names e.names
    (IsForCounts is_exact zero matched e count bytes) (IsForCounts is_exact zero matched e count bytes)
    (λ p q f g same. answers_same format is_exact zero matched e count bytes p q f g) (faults_same format is_exact zero matched e count bytes)
    o told other a.2 other_too
