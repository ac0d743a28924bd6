-- The values at cells: one list after another.
use Rattle.std.proofs.Common.{◌≡◌, ℕ, ◌+◌, ◌-◌, ◌<◌, ◌≤◌, length, set, get_or, drop, inl, inr, List, [], ◌∷◌, ◌++◌, Ok, Bool, true, false, cond, eqb}
use Rattle.std.proofs.Common.{eqb-true, ◌||◌, refl, sym, ap}
use Rattle.std.proofs.Common.{subst, ◌∙◌, arith, append-nil, append_assoc}
use Rattle.std.specs.List.{flat_map, range_with_len}
use Rattle.std.proofs.lemmas.Bool.{cases_Bool, or_cases}
use Rattle.std.proofs.lemmas.List.Elements.{All-nil, All-cons, All-append}
use Rattle.fractions.specs.Vocabulary.{Fraction, IsEqual}
use Rattle.mixed_graph.specs.Vocabulary.{has, union}
use Rattle.finite_models.specs.Vocabulary.{FiniteModel, Fits, IsAssignment}
use Rattle.prob_expr.specs.Mentioned.{mentioned}
use Rattle.prob_expr.specs.Vocabulary.{mentioned_in, no_trees, PlainFormula, effect_on, effect, weights_of, value_of}
use Rattle.prob_expr.specs.Tree.{prob, product, tree}
use Rattle.adjustment.specs.Vocabulary.{adjusted_sum, adjustment_formula}
use Rattle.weak_adjustment.specs.Vocabulary.{AdmissibleAdjustsMatched}
use Rattle.quantity.specs.Kinds.{Pair}
use Rattle.quantity.specs.Vocabulary.{Kind, IsLawful}
use Rattle.count_eval.specs.Rules.{Rule}
use Rattle.count_rows.specs.Vocabulary.{Table}
use Rattle.count_table.specs.Vocabulary.{total}
use Rattle.count_eval.specs.declared.failure.EvalFault.{EvalFault}
use Rattle.count_eval.specs.Vocabulary.{CoversCounts, CoversWithZeros, CoversMatches, value_of_with_zeros, IsMatched, weights_in, is_used, cell_of, Preparation}
use Rattle.table_cells.specs.Vocabulary.{IsCell, cells_along, level_count}
use Rattle.evaluate_command.specs.Cells.{CellValue, printed_cells}
use Rattle.evaluate_command.specs.Effects.{PlainEffect, target_of, used_in, IsIdentified}
use Rattle.evaluate_command.specs.Printing.{value_by, Appends, IsFaultAt}
use Rattle.evaluate_command.specs.Right.{CoversEffect, CoversAdjusted, AreEvaluated, IsUnvalued}
use Rattle.evaluate_command.proofs.Mentions.{in_left, in_right, in_none}
use Rattle.table_cells.proofs.CellLists.{cells_at_first, numbers_more, numbers_around}
use Rattle.evaluate_command.proofs.CellLists.{values_both, values_later, values_sooner, values_one}

-- ---- the theorem

-- a cell is an assignment of each model that has the counts
assigned : (e : PlainEffect) (t : Table) (cell : List ℕ) → IsCell e.graph.vertices t cell → (m : FiniteModel) → Fits e.graph m
    → IsMatched (is_used t) (weights_in e.graph.vertices t) (total t.rows) m
    → IsAssignment m.vertices m.size (cell_of cell)
assigned e t cell is m fits matched v lt = elim (cases_Bool (is_used t v)) [
  | inl h ↦ (let l = (is.levels v h).1 in let s = matched.sizes v lt h in omega (arith, l, s))
  | inr h ↦ (let z = is.others v h in let p = fits.positive_size v lt in omega (arith, z, p))
]

-- what covers the formula's value in each model that has the counts covers the effect there
covers_effect : (kind : Kind) (covers : Pair → Fraction → Type 0) → IsLawful kind covers
    → (e : PlainEffect) → IsIdentified e → (t : Table) (v : CellValue) → IsCell e.graph.vertices t v.cell
    → CoversMatches covers e.graph.vertices t e.formula (cell_of v.cell) v.quantity → CoversEffect covers e t v
covers_effect kind covers lawful e id t v is matches m fits positive matched =
    let at = assigned e t v.cell is m fits matched in
    lawful.keeps.equal v.quantity (value_of (weights_of m) e.formula (cell_of v.cell)) (effect m (target_of e) (cell_of v.cell))
    (matches e.graph id.graph m fits positive matched at) (id.effect m fits positive (cell_of v.cell) at)

-- the members of a set that may be adjusted for are mentioned by its formula
set_mentioned : (x y z v : ℕ) → has z v ≡ true → has (mentioned (adjustment_formula x y z)) v ≡ true
set_mentioned x y z v h = in_right 0 (mentioned_in (adjustment_formula x y z).main) v (go (eqb z 0) refl)
  where
    go : (b : Bool) → eqb z 0 ≡ b → has (mentioned_in (cond b (prob y 0 x) (adjusted_sum x y z))) v ≡ true
    go true e = in_none (has (mentioned_in (prob y 0 x)) v ≡ true) v (sym (ap (λ k. has k v) (eqb-true z 0 e)) ∙ h)
    go false e = in_left z (mentioned_in (product (tree (prob z 0 0) (tree (prob y 0 (union x z)) no_trees)))) v h

-- what covers the formula's value with zeros covers the effect in a model that is positive where the formula needs it
covers_adjusted : (kind : Kind) (covers : Pair → Fraction → Type 0) → IsLawful kind covers → AdmissibleAdjustsMatched
    → (e : PlainEffect) → IsIdentified e → (t : Table) → ((v : ℕ) → has (used_in e) v ≡ true → is_used t v ≡ true)
    → (v : CellValue) → IsCell e.graph.vertices t v.cell
    → CoversWithZeros covers e.graph.vertices t e.formula (cell_of v.cell) v.quantity → CoversAdjusted covers e t v
covers_adjusted kind covers lawful adjusts e id t used v is zeros z bare formula sets admissible m fits weak matched =
    let s = cell_of v.cell in
    let w = weights_in e.graph.vertices t in
    let at = assigned e t v.cell is m fits matched in
    let found = adjusts e.graph id.graph e.x e.y z sets admissible m fits weak (is_used t) w (total t.rows) matched
    (λ u h. used u (elim (or_cases (has e.x u) (has e.y u || has z u) h) [
      | inl i ↦ in_right (mentioned e.formula) (union e.x (union e.y e.given)) u (in_left e.x (union e.y e.given) u i)
      | inr k ↦ elim (or_cases (has e.y u) (has z u) k) [
        | inl i ↦ in_right (mentioned e.formula) (union e.x (union e.y e.given)) u
            (in_right e.x (union e.y e.given) u (in_left e.y e.given u i))
        | inr i ↦ in_left (mentioned e.formula) (union e.x (union e.y e.given)) u
            (subst (λ (f : PlainFormula). has (mentioned f) u ≡ true) (sym formula) (set_mentioned e.x e.y z u i))
      ]
    ])) s at in
    lawful.keeps.equal v.quantity (value_of_with_zeros w e.formula s) (effect m (target_of e) s) zeros.covered
    (subst (λ k. IsEqual (value_of_with_zeros w e.formula s) (effect m (record { x = e.x; y = e.y; given = k }) s)) (sym bare)
    (subst (λ (f : PlainFormula). IsEqual (value_of_with_zeros w f s) (effect m (effect_on e.x e.y) s)) (sym formula) found.equal))

-- the formula of an effect over a table
abbrev pub prepared_for : PlainEffect → Table → Preparation → Preparation
prepared_for e t p = record { vertices = e.graph.vertices; counts = t; formula = e.formula; zero = p.zero }

-- the values of a prepared formula at the printed cells are those of its effect
pub all_evaluated : (rule : Rule) (covers : Pair → Fraction → Type 0) → IsLawful rule.kind covers → AdmissibleAdjustsMatched
    → (e : PlainEffect) → IsIdentified e → (t : Table) → ((v : ℕ) → has (used_in e) v ≡ true → is_used t v ≡ true) → (p : Preparation) → prepared_for e t p ≡ p
    → (cells : List (List ℕ)) → cells ≡ printed_cells e t → (old new : List CellValue) → old ≡ []
    → Appends rule covers p cells old new → AreEvaluated rule covers e t new
all_evaluated rule covers lawful adjusts e id t used p is cells all old new none a =
    let b = subst (λ (k : Preparation). Appends rule covers k (printed_cells e t) old new) (sym is)
    (subst (λ (cs : List (List ℕ)). Appends rule covers p cs old new) all a) in
    record {
      values = record {
        values = b.values;
        evaluated = b.evaluated;
        counts = b.counts;
        zeros = b.zeros;
        adjusted = λ k d lt. covers_adjusted rule.kind covers lawful adjusts e id t used (get_or b.values k d) (b.each k d lt) (b.zeros k d lt);
        effects = λ k d lt. covers_effect rule.kind covers lawful e id t (get_or b.values k d) (b.each k d lt) (b.matches k d lt);
      };
      listed = b.list ∙ ap (λ (vs : List CellValue). vs ++ b.values) none;
    }

-- and so is the stop
pub all_unvalued : (rule : Rule) (e : PlainEffect) (t : Table) (p : Preparation) → prepared_for e t p ≡ p → (cells : List (List ℕ))
    → cells ≡ printed_cells e t → (f : EvalFault) → IsFaultAt rule p cells f → IsUnvalued rule e t f
all_unvalued rule e t p is cells all f h = subst (λ (k : Preparation). IsFaultAt rule k (printed_cells e t) f) (sym is)
    (subst (λ (cs : List (List ℕ)). IsFaultAt rule p cs f) all h)

-- ---- one list of cells after another

module _ (rule : Rule) (covers : Pair → Fraction → Type 0) (p : Preparation) where
  pub appends_none : (old : List CellValue) → Appends rule covers p [] old old
  appends_none old = record {
    values = [];
    evaluated = refl;
    counts = λ first. All-nil _;
    zeros = All-nil _;
    each = All-nil _;
    matches = All-nil _;
    list = sym (append-nil old);
  }

  pub appends_one : (cell : List ℕ) (q : Pair) (old new : List CellValue) → value_by rule p cell ≡ Ok q
      → (rule.zero ≡ false → CoversCounts covers p.vertices p.counts p.formula (cell_of cell) q)
      → CoversWithZeros covers p.vertices p.counts p.formula (cell_of cell) q
      → IsCell p.vertices p.counts cell → CoversMatches covers p.vertices p.counts p.formula (cell_of cell) q
      → new ≡ old ++ (record { cell = cell; quantity = q } ∷ []) → Appends rule covers p (cell ∷ []) old new
  appends_one cell q old new is counts zeros at matches list =
      let v : CellValue = record { cell = cell; quantity = q } in
      record {
        values = v ∷ [];
        evaluated = values_one (value_by rule p) cell q is;
        counts = λ first. All-cons (λ (w : CellValue). CoversCounts covers p.vertices p.counts p.formula (cell_of w.cell) w.quantity) v [] (counts first)
            (All-nil (λ (w : CellValue). CoversCounts covers p.vertices p.counts p.formula (cell_of w.cell) w.quantity));
        zeros = All-cons (λ (w : CellValue). CoversWithZeros covers p.vertices p.counts p.formula (cell_of w.cell) w.quantity) v [] zeros
            (All-nil (λ (w : CellValue). CoversWithZeros covers p.vertices p.counts p.formula (cell_of w.cell) w.quantity));
        each = All-cons (λ (w : CellValue). IsCell p.vertices p.counts w.cell) v [] at
            (All-nil (λ (w : CellValue). IsCell p.vertices p.counts w.cell));
        matches = All-cons (λ (w : CellValue). CoversMatches covers p.vertices p.counts p.formula (cell_of w.cell) w.quantity) v [] matches
            (All-nil (λ (w : CellValue). CoversMatches covers p.vertices p.counts p.formula (cell_of w.cell) w.quantity));
        list = list;
      }

  pub appends_both : (cs ds : List (List ℕ)) (old mid new : List CellValue)
      → Appends rule covers p cs old mid → Appends rule covers p ds mid new → Appends rule covers p (cs ++ ds) old new
  appends_both cs ds old mid new a b = record {
    values = a.values ++ b.values;
    evaluated = values_both (value_by rule p) cs ds a.values b.values a.evaluated b.evaluated;
    counts = λ first. All-append (λ (w : CellValue). CoversCounts covers p.vertices p.counts p.formula (cell_of w.cell) w.quantity) a.values b.values
        (a.counts first) (b.counts first);
    zeros = All-append (λ (w : CellValue). CoversWithZeros covers p.vertices p.counts p.formula (cell_of w.cell) w.quantity) a.values b.values a.zeros
        b.zeros;
    each = All-append (λ (w : CellValue). IsCell p.vertices p.counts w.cell) a.values b.values a.each b.each;
    matches = All-append (λ (w : CellValue). CoversMatches covers p.vertices p.counts p.formula (cell_of w.cell) w.quantity) a.values b.values a.matches
        b.matches;
    list = b.list ∙ ap (λ (vs : List CellValue). vs ++ b.values) a.list ∙ append_assoc old a.values b.values;
  }

  module _ (t : Table) where
    -- the cells of one more level
    pub appends_turn : (cell0 cell : List ℕ) (v k : ℕ) (rest : List ℕ) (old mid new : List CellValue) → ((j : ℕ) → set cell v j ≡ set cell0 v j)
        → Appends rule covers p (flat_map (λ j. cells_along t (set cell0 v j) rest) (range_with_len 0 k)) old mid
        → Appends rule covers p (cells_along t (set cell v k) rest) mid new
        → Appends rule covers p (flat_map (λ j. cells_along t (set cell0 v j) rest) (range_with_len 0 (k + 1))) old new
    appends_turn cell0 cell v k rest old mid new same a b =
        subst (λ (cs : List (List ℕ)). Appends rule covers p cs old new) (sym (numbers_more (λ j. cells_along t (set cell0 v j) rest) k))
        (appends_both (flat_map (λ j. cells_along t (set cell0 v j) rest) (range_with_len 0 k)) (cells_along t (set cell0 v k) rest) old mid new a
        (subst (λ (c : List ℕ). Appends rule covers p (cells_along t c rest) mid new) (same k) b))

    -- the cells of all levels of the first vertex
    pub appends_all : (cell vs rest : List ℕ) (k : ℕ) (old new : List CellValue) → 1 ≤ length vs → rest ≡ drop 1 vs → k ≡ level_count t (get_or vs 0 0)
        → Appends rule covers p (flat_map (λ j. cells_along t (set cell (get_or vs 0 0) j) rest) (range_with_len 0 k)) old new
        → Appends rule covers p (cells_along t cell vs) old new
    appends_all cell vs rest k old new some is all a =
        subst (λ (cs : List (List ℕ)). Appends rule covers p cs old new) (sym (cells_at_first t cell vs some))
        (subst (λ (us : List ℕ). Appends rule covers p (flat_map (λ j. cells_along t (set cell (get_or vs 0 0) j) us)
        (range_with_len 0 (level_count t (get_or vs 0 0)))) old new) is
        (subst (λ n. Appends rule covers p (flat_map (λ j. cells_along t (set cell (get_or vs 0 0) j) rest) (range_with_len 0 n)) old new) all a))

  fault_later : (cs ds : List (List ℕ)) (old mid : List CellValue) (f : EvalFault) → Appends rule covers p cs old mid → IsFaultAt rule p ds f
      → IsFaultAt rule p (cs ++ ds) f
  fault_later cs ds old mid f a h = (h.0, values_later (value_by rule p) cs ds a.values h.0 a.evaluated h.1, h.2)

fault_sooner : (rule : Rule) (p : Preparation) (cs ds : List (List ℕ)) (f : EvalFault) → IsFaultAt rule p cs f → IsFaultAt rule p (cs ++ ds) f
fault_sooner rule p cs ds f h = (h.0, values_sooner (value_by rule p) cs ds h.0 h.1, h.2)

-- the fault at the cells of one level is that of all cells
pub fault_turn : (rule : Rule) (covers : Pair → Fraction → Type 0) (p : Preparation) (t : Table) (cell0 cell vs rest : List ℕ) (k : ℕ)
    (old mid : List CellValue) (f : EvalFault) → 1 ≤ length vs
    → rest ≡ drop 1 vs → k < level_count t (get_or vs 0 0) → ((j : ℕ) → set cell (get_or vs 0 0) j ≡ set cell0 (get_or vs 0 0) j)
    → Appends rule covers p (flat_map (λ j. cells_along t (set cell0 (get_or vs 0 0) j) rest) (range_with_len 0 k)) old mid
    → IsFaultAt rule p (cells_along t (set cell (get_or vs 0 0) k) rest) f → IsFaultAt rule p (cells_along t cell0 vs) f
fault_turn rule covers p t cell0 cell vs rest k old mid f some is lt same a h =
    let v = get_or vs 0 0 in
    let cells : List ℕ → ℕ → List (List ℕ) = λ us j. cells_along t (set cell0 v j) us in
    let n = level_count t v in
    let later = flat_map (cells rest) (range_with_len (k + 1) (n - (k + 1))) in
    subst (λ (cs : List (List ℕ)). IsFaultAt rule p cs f) (sym (cells_at_first t cell0 vs some))
    (subst (λ (us : List ℕ). IsFaultAt rule p (flat_map (cells us) (range_with_len 0 n)) f) is
    (subst (λ (cs : List (List ℕ)). IsFaultAt rule p cs f) (sym (numbers_around (cells rest) k n lt))
    (fault_later rule covers p (flat_map (cells rest) (range_with_len 0 k)) (cells rest k ++ later) old mid f a
    (fault_sooner rule p (cells rest k) later f (subst (λ (c : List ℕ). IsFaultAt rule p (cells_along t c rest) f) (same k) h)))))
