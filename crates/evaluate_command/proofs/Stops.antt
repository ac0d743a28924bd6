-- The text of a stop, from the fault that says it.
use Rattle.std.proofs.Common.{◌≡◌, ℕ, Bool, cond, List, [], ◌++◌, codes, sym, ap, ◌∙◌, append-nil}
use Rattle.mixed_graph.specs.Vocabulary.{name_of, members_below}
use Rattle.answer_text.specs.Vocabulary.{line_of, printed}
use Rattle.answer_json.specs.Vocabulary.{json_line}
use Rattle.replies.specs.Told.{Told}
use Rattle.replies.specs.Vocabulary.{refusal_of}
use Rattle.count_json.specs.Vocabulary.{stop_json}
use Rattle.prob_expr.specs.declared.expr.Place.{Place}
use Rattle.quantity.specs.declared.fault.QuantityFault.{QuantityFault}
use Rattle.quantity.specs.declared.fault.QuantityFault.TheVariants.{ZeroBelow, TooWide, TooFine}
use Rattle.count_rows.specs.Vocabulary.{Table}
use Rattle.count_table.specs.Vocabulary.{AreCounts}
use Rattle.count_eval.specs.declared.failure.EvalFault.{EvalFault}
use Rattle.count_eval.specs.declared.failure.EvalFault.TheVariants.{NoSupport, NoMemory}
use Rattle.count_eval.specs.Vocabulary.{IsPlaceOf, IsCellOf, IsEvaluationFault, is_used, cell_of}
use Rattle.count_eval.specs.Stops.{Stop}
use Rattle.count_eval.specs.declared.failure.EvalFault.TheVariants as failure
use Rattle.count_answers.specs.Vocabulary.{with_commas, assignment, assignments, level_text, printed_level}
use Rattle.count_answers.proofs.Texts.{same_texts}
use Rattle.evaluate_command.specs.Stopped.{place_text, stop_words}
use Rattle.table_cells.proofs.Tables.{member_used}

-- the digit of why there is no value
abbrev pub why_digit : QuantityFault → List ℕ
why_digit ZeroBelow = codes "1"
why_digit TooWide = codes "2"
why_digit TooFine = codes "3"

-- the levels of all used vertices at a node where a denominator is 0
abbrev pub support_text : QuantityFault → List (List ℕ) → Table → (ℕ → ℕ) → List ℕ
support_text ZeroBelow names t cell = codes " at " ++ assignments names t cell t.vertices
support_text TooWide names t cell = []
support_text TooFine names t cell = []

-- why there is no value, and at which node
abbrev pub stop_text : List (List ℕ) → Table → Stop → List ℕ
stop_text names t s = codes "evaluation fault " ++ (why_digit s.why ++ (codes ": " ++ (place_text s.def s.node ++ support_text s.why names t s.cell)))

-- what is told of a stop: its line and its object
abbrev pub stop_told : List (List ℕ) → Table → Stop → Told
stop_told names t s = refusal_of (line_of (stop_text names t s)) (json_line (stop_json names t s))

-- the place in a fault is that of the stop
same_place : (place : Place) (s : Stop) → IsPlaceOf place s → place_text place.def place.node ≡ place_text s.def s.node
same_place place s is = ap (λ d. place_text d place.node) is.def ∙ ap (place_text s.def) is.node

wide_text : (names : List (List ℕ)) (t : Table) (s : Stop) (place : Place) → s.why ≡ TooWide → IsPlaceOf place s
    → codes "evaluation fault 2: " ++ place_text place.def place.node ≡ stop_text names t s
wide_text names t s place why is =
    ap (λ p. codes "evaluation fault 2: " ++ p) (same_place place s is ∙ sym (append-nil (place_text s.def s.node)))
    ∙ ap (λ w. codes "evaluation fault " ++ (why_digit w ++ (codes ": " ++ (place_text s.def s.node ++ support_text w names t s.cell)))) (sym why)

fine_text : (names : List (List ℕ)) (t : Table) (s : Stop) (place : Place) → s.why ≡ TooFine → IsPlaceOf place s
    → codes "evaluation fault 3: " ++ place_text place.def place.node ≡ stop_text names t s
fine_text names t s place why is =
    ap (λ p. codes "evaluation fault 3: " ++ p) (same_place place s is ∙ sym (append-nil (place_text s.def s.node)))
    ∙ ap (λ w. codes "evaluation fault " ++ (why_digit w ++ (codes ": " ++ (place_text s.def s.node ++ support_text w names t s.cell)))) (sym why)

-- the levels in a fault's cell are those of the stop's cell
same_levels : (names : List (List ℕ)) (t : Table) (s : Stop) (cell : List ℕ) (used : ℕ → Bool) → AreCounts t → t.vertices ≡ members_below used 64
    → IsCellOf (is_used t) cell s
    → assignments names t (cell_of cell) (members_below used 64) ≡ assignments names t s.cell t.vertices
same_levels names t s cell used table is at =
    ap with_commas (same_texts (assignment names t (cell_of cell)) (assignment names t s.cell) used 64 (λ v lt h.
    ap (λ k. printed (name_of names v) ++ (codes "=" ++ printed_level (level_text t v k)))
    (at v lt ∙ ap (λ (b : Bool). cond b (s.cell v) 0) (member_used t used is table v lt h))))
    ∙ ap (λ (vs : List ℕ). assignments names t s.cell vs) (sym is)

support_text_is : (names : List (List ℕ)) (t : Table) (s : Stop) (place : Place) (cell : List ℕ) (used : ℕ → Bool) → s.why ≡ ZeroBelow → IsPlaceOf place s
    → IsCellOf (is_used t) cell s
    → AreCounts t → t.vertices ≡ members_below used 64
    → codes "evaluation fault 1: " ++ (place_text place.def place.node ++ (codes " at " ++ assignments names t (cell_of cell) (members_below used 64)))
    ≡ stop_text names t s
support_text_is names t s place cell used why is at table vertices =
    ap (λ p. codes "evaluation fault 1: " ++ (p ++ (codes " at " ++ assignments names t (cell_of cell) (members_below used 64)))) (same_place place s is)
    ∙ ap (λ a. codes "evaluation fault 1: " ++ (place_text s.def s.node ++ (codes " at " ++ a))) (same_levels names t s cell used table vertices at)
    ∙ ap (λ w. codes "evaluation fault " ++ (why_digit w ++ (codes ": " ++ (place_text s.def s.node ++ support_text w names t s.cell)))) (sym why)

-- the words of a fault are those of its stop, where the used vertices of the table are these
pub words_of_stop : (names : List (List ℕ)) (t : Table) (s : Stop) (used : ℕ → Bool) (fault : EvalFault) → AreCounts t → t.vertices ≡ members_below used 64
    → IsEvaluationFault (is_used t) fault s → stop_words names t fault ≡ stop_text names t s
words_of_stop names t s used (NoSupport cell place) table vertices h =
    ap (λ (vs : List ℕ). codes "evaluation fault 1: " ++ (place_text place.def place.node ++ (codes " at " ++ assignments names t (cell_of cell) vs))) vertices
    ∙ support_text_is names t s place cell used h.0 h.1 h.2 table vertices
words_of_stop names t s used (failure.TooWide place) table vertices h = wide_text names t s place h.0 h.1
words_of_stop names t s used (failure.TooFine place) table vertices h = fine_text names t s place h.0 h.1
words_of_stop names t s used NoMemory table vertices h = absurd h
