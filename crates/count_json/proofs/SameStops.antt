-- The object of a stop, from the fault that says it.
use Rattle.std.proofs.Common.{◌≡◌, ℕ, zero, suc, ◌<◌, Bool, true, false, cond, List, [], ◌∷◌, ◌++◌, map, codes, decimal, refl, sym, ap, ◌∙◌, arith}
use Rattle.std.proofs.lemmas.List.{map-append}
use Rattle.json.specs.Json.{Json, number}
use Rattle.mixed_graph.specs.Vocabulary.{members_below}
use Rattle.prob_expr.specs.declared.expr.Place.{Place}
use Rattle.quantity.specs.declared.fault.QuantityFault.{QuantityFault}
use Rattle.quantity.specs.declared.fault.QuantityFault.TheVariants.{ZeroBelow}
use Rattle.quantity.specs.declared.fault.QuantityFault.TheVariants as quantity
use Rattle.count_rows.specs.Vocabulary.{Table}
use Rattle.count_eval.specs.declared.failure.EvalFault.{EvalFault}
use Rattle.count_eval.specs.declared.failure.EvalFault.TheVariants.{NoSupport, TooWide, TooFine, NoMemory}
use Rattle.count_eval.specs.Vocabulary.{IsPlaceOf, IsCellOf, IsEvaluationFault, is_used, cell_of}
use Rattle.count_eval.specs.Stops.{Stop}
use Rattle.answer_json.specs.Vocabulary.{array_of, fault_json}
use Rattle.count_json.specs.Cells.{level_json, cell_json}
use Rattle.count_json.specs.Stops.{stage, why_message, definition_json, evaluation_json, evaluation_fault_json, stop_json}

-- values of members that are the same
same_values : (f g : ℕ → Json) (s : ℕ → Bool) (k : ℕ) → ((v : ℕ) → v < k → s v ≡ true → f v ≡ g v) → map f (members_below s k) ≡ map g (members_below s k)
unfolding members_below
same_values f g s zero h = refl
same_values f g s (suc k) h =
    map-append f (members_below s k) (cond (s k) (k ∷ []) [])
    ∙ ap (λ (x : List Json). x ++ map f (cond (s k) (k ∷ []) [])) (same_values f g s k (λ v lt e. h v (omega (arith, lt)) e))
    ∙ ap (λ (x : List Json). map g (members_below s k) ++ x) (last (s k) refl)
    ∙ sym (map-append g (members_below s k) (cond (s k) (k ∷ []) []))
  where
    last : (b : Bool) → s k ≡ b → map f (cond b (k ∷ []) []) ≡ map g (cond b (k ∷ []) [])
    last true e = ap (λ x. x ∷ []) (h k (omega arith) e)
    last false e = refl

-- the levels in a fault's cell are those of the stop's cell
same_cells : (names : List (List ℕ)) (t : Table) (s : Stop) (cell : List ℕ) (used : ℕ → Bool) → t.vertices ≡ members_below used 64
    → ((v : ℕ) → v < 64 → used v ≡ true → is_used t v ≡ true) → IsCellOf (is_used t) cell s
    → cell_json names t (cell_of cell) t.vertices ≡ cell_json names t s.cell t.vertices
same_cells names t s cell used is all at =
    ap (λ (vs : List ℕ). cell_json names t (cell_of cell) vs) is
    ∙ ap array_of (same_values (λ v. level_json names t v (cell_of cell v)) (λ v. level_json names t v (s.cell v)) used 64
    (λ v lt h. ap (level_json names t v) (at v lt ∙ ap (λ (b : Bool). cond b (s.cell v) 0) (all v lt h))))
    ∙ ap (λ (vs : List ℕ). cell_json names t s.cell vs) (sym is)

same_stop : (names : List (List ℕ)) (t : Table) (s : Stop) (place : Place) (why : QuantityFault) (cell : ℕ → ℕ) → s.why ≡ why → IsPlaceOf place s
    → evaluation_json why names t place.def place.node cell ≡ evaluation_json s.why names t s.def s.node cell
same_stop names t s place why cell e is =
    ap (λ d. evaluation_json why names t d place.node cell) is.def ∙ ap (λ i. evaluation_json why names t s.def i cell) is.node
    ∙ ap (λ w. evaluation_json w names t s.def s.node cell) (sym e)

-- a fault says its stop, where the used vertices of the table are these
pub stop_of_fault : (names : List (List ℕ)) (t : Table) (s : Stop) (used : ℕ → Bool) (fault : EvalFault) → t.vertices ≡ members_below used 64
    → ((v : ℕ) → v < 64 → used v ≡ true → is_used t v ≡ true) → IsEvaluationFault (is_used t) fault s
    → evaluation_fault_json names t fault ≡ stop_json names t s
stop_of_fault names t s used (NoSupport cell place) is all h =
    ap (λ c. fault_json stage 1 (why_message ZeroBelow) ((codes "definition", definition_json place.def) ∷ (codes "node", number (decimal place.node)) ∷
    (codes "cell", c) ∷ []))
    (same_cells names t s cell used is all h.2) ∙ same_stop names t s place ZeroBelow s.cell h.0 h.1
stop_of_fault names t s used (TooWide place) is all h = same_stop names t s place quantity.TooWide s.cell h.0 h.1
stop_of_fault names t s used (TooFine place) is all h = same_stop names t s place quantity.TooFine s.cell h.0 h.1
stop_of_fault names t s used NoMemory is all h = absurd h
