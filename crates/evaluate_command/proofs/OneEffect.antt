-- Lists name one effect with one formula of each kind, and bytes are the text of one table.
use Rattle.std.proofs.Common.{◌≡◌, ℕ, Bool, true, false, List, Option, Some, Result, length, map, refl, sym, ap, ◌∙◌, subst}
use mathlib.Core.Path.{fun_ext}
use Rattle.mixed_graph.specs.Vocabulary.{MixedGraph}
use Rattle.dag_reader.specs.declared.graph.ReadGraph.{ReadGraph}
use Rattle.targets.specs.Vocabulary.{EffectLists, Lists, AreEffectSets, AreSets}
use Rattle.prob_expr.specs.Vocabulary.{PlainTarget, Weights}
use Rattle.identification_theory.specs.Vocabulary.{IsIdentified}
use Rattle.identification_theory.proofs.Answered.{one_formula, derived_is_identified}
use Rattle.conditional_id.specs.Vocabulary.{IsConditional}
use Rattle.conditional_id.proofs.Answered.{one_conditional, derived_is_conditional}
use Rattle.count_eval.specs.Rules.{Rule}
use Rattle.count_rows.specs.Vocabulary.{Field, records_of, rows_of, Table, counted, rows_in}
use Rattle.count_table.specs.Vocabulary.{cells_of, levels_in, IsTableOf, layout_in}
use Rattle.count_eval.specs.Vocabulary.{formula_value, cell_of}
use Rattle.count_eval.specs.Stops.{Stop}
use Rattle.adjustment.specs.Vocabulary.{adjustment_formula}
use Rattle.diagram.specs.declared.diagram.Diagram.{Diagram}
use Rattle.diagram.specs.Vocabulary.{Names, effect_lists, query_lists}
use Rattle.diagram.proofs.OneDiagram.{AreSameDiagrams, same_drawing, same_effect_lists, same_query_lists}
use Rattle.replies.proofs.OneTarget.{one_set}
use Rattle.identify_command.specs.Vocabulary.{AreTargetSets}
use Rattle.identify_command.proofs.Lists as identifying
use Rattle.table_cells.specs.Vocabulary.{with_levels, first_cell}
use Rattle.evaluate_command.specs.Cells.{CellValue, varied, printed_cells, value_in, values_at}
use Rattle.evaluate_command.specs.Effects.{PlainEffect, target_of, effect_for, IsFoundBy, Identifies, used_in}
use Rattle.evaluate_command.specs.Ways.{Way, by_procedure, by_adjusting, by_condition, FixesFormula}

-- an effect that is identified on a diagram is so on one that is the same
module _ (d d' : Diagram) (s : AreSameDiagrams d d') (x y : Names) (e : PlainEffect) where
  same_found : (way : Way) → IsFoundBy way d'.read d'.observed.names x y e → IsFoundBy way d.read d.observed.names x y e
  same_found (by_procedure short) h = (subst (λ (l : EffectLists). AreEffectSets l e.x e.y) (same_effect_lists x y d d' s) h.0, h.1)
  same_found (by_adjusting back_door set) h = (
    h.0,
    subst (λ (l : Lists). AreSets l e.x e.y h.0) (same_query_lists x y (Some set) d d' s) h.1,
    h.2,
  )
  same_found (by_condition short given) h =
      (subst (λ (l : Lists). AreTargetSets l (target_of e)) (same_query_lists x y (Some given) d d' s) h.0, h.1)

  pub same_identified : (way : Way) → Identifies way d' x y e → Identifies way d x y e
  same_identified way i = record {
    names = i.names ∙ s.observed.names;
    graph = i.graph ∙ sym (same_drawing d d' s);
    identified = i.identified;
    found = same_found way i.found;
  }

-- the values at the printed cells, from the parts of a table that they hang on
values_of : (rule : Rule) (e : PlainEffect) (vertices : List ℕ) (levels : List (List Field)) (weight : (ℕ → Bool) → (ℕ → ℕ) → ℕ) → Result (List CellValue) Stop
values_of rule e vertices levels weight =
    let w : Weights = record { vertices = e.graph.vertices; size = λ v. length (levels_in vertices levels v); weight = λ b a s. weight a s } in
    values_at (λ cell. formula_value rule w e.formula (cell_of cell))
    (map (with_levels (first_cell e.graph.vertices) (varied e.x e.given e.y))
    (cells_of (map (λ v. length (levels_in vertices levels v)) (varied e.x e.given e.y))))

of_table : (rule : Rule) (e : PlainEffect) (t : Table) → values_at (value_in rule e t) (printed_cells e t)
    ≡ values_of rule e t.vertices t.levels (counted t.vertices t.rows)
unfolding values_of
of_table rule e t = refl

-- bytes are the text of one table, as far as values hang on it
pub same_values : (rule : Rule) (e : PlainEffect) (bytes : List ℕ) (count : Option Field) (t u : Table) → IsTableOf bytes e.names (used_in e) count t
    → IsTableOf bytes e.names (used_in e) count u
    → values_at (value_in rule e u) (printed_cells e u) ≡ values_at (value_in rule e t) (printed_cells e t)
same_values rule e bytes count t u a b =
    let vs : u.vertices ≡ t.vertices = b.vertices ∙ sym a.vertices in
    let ls : u.levels ≡ t.levels = b.levels ∙ sym a.levels in
    let all = rows_in (layout_in (records_of bytes) e.names (used_in e) count) (rows_of (records_of bytes)) in
    let ws : counted u.vertices u.rows ≡ counted t.vertices t.rows =
    fun_ext (λ k. fun_ext (λ s. b.rows k s ∙ ap (λ (v : List ℕ). counted v all k s) vs ∙ sym (a.rows k s))) in
    of_table rule e u
    ∙ ap (λ (v : List ℕ). values_of rule e v u.levels (counted u.vertices u.rows)) vs
    ∙ ap (λ (l : List (List Field)). values_of rule e t.vertices l (counted u.vertices u.rows)) ls
    ∙ ap (λ (w : (ℕ → Bool) → (ℕ → ℕ) → ℕ). values_of rule e t.vertices t.levels w) ws
    ∙ sym (of_table rule e t)

abbrev target : (x y given : ℕ) → PlainTarget
target x y given = record { x = x; y = y; given = given }

-- lists name one effect, and it has one formula of each kind
module _ (g : ReadGraph) (observed : List (List ℕ)) (x y : Names) (e f : PlainEffect) (qs : f.graph ≡ e.graph) where
  same_targets : f.x ≡ e.x → f.y ≡ e.y → f.given ≡ e.given → target_of f ≡ target_of e
  same_targets p q r = λ i. target (p i) (q i) (r i)

  one_found : (way : Way) → FixesFormula way → IsFoundBy way g observed x y e → IsFoundBy way g observed x y f
      → (target_of f ≡ target_of e) × (f.formula ≡ e.formula)
  one_found (by_procedure true) fixed a b = absurd (cc fixed)
  one_found (by_procedure false) fixed a b =
      let l = effect_lists g observed x y in
      let xs : f.x ≡ e.x = one_set l.observed l.x e.x f.x a.0.set_x b.0.set_x in
      let ys : f.y ≡ e.y = one_set l.observed l.y e.y f.y a.0.set_y b.0.set_y in
      let found : IsIdentified e.graph e.x e.y f.formula =
      subst (λ (k : ℕ). IsIdentified e.graph e.x k f.formula) ys (subst (λ (k : ℕ). IsIdentified e.graph k f.y f.formula) xs
      (subst (λ (q : MixedGraph). IsIdentified q f.x f.y f.formula) qs
      (derived_is_identified f.graph f.x f.y f.formula b.1.derivation b.1.derived))) in (
        same_targets xs ys (b.1.bare ∙ sym a.1.bare),
        one_formula e.graph e.x e.y f.formula e.formula found (derived_is_identified e.graph e.x e.y e.formula a.1.derivation a.1.derived),
      )
  one_found (by_adjusting back_door set) fixed a b =
      let l = query_lists g observed x y (Some set) in
      let xs : f.x ≡ e.x = one_set l.observed l.x e.x f.x a.1.set_x b.1.set_x in
      let ys : f.y ≡ e.y = one_set l.observed l.y e.y f.y a.1.set_y b.1.set_y in
      let zs : b.0 ≡ a.0 = one_set l.observed l.given a.0 b.0 a.1.set_given b.1.set_given in
      let formulas : adjustment_formula f.x f.y b.0 ≡ adjustment_formula e.x e.y a.0 = λ i. adjustment_formula (xs i) (ys i) (zs i) in
      (same_targets xs ys (b.2.bare ∙ sym a.2.bare), b.2.formula ∙ formulas ∙ sym a.2.formula)
  one_found (by_condition true given) fixed a b = absurd (cc fixed)
  one_found (by_condition false given) fixed a b =
      let ts : target_of f ≡ target_of e = identifying.one_target (query_lists g observed x y (Some given)) (target_of e) (target_of f) a.0 b.0 in
      let found : IsConditional e.graph (target_of e) f.formula =
      subst (λ (t : PlainTarget). IsConditional e.graph t f.formula) ts (subst (λ (q : MixedGraph). IsConditional q (target_of f) f.formula) qs
      (derived_is_conditional f.graph (target_of f) f.formula b.1.derivation b.1.derived)) in
      (ts, one_conditional e.graph (target_of e) f.formula e.formula found (derived_is_conditional e.graph (target_of e) e.formula a.1.derivation a.1.derived))

pub same_effect : (way : Way) → FixesFormula way → (d d' : Diagram) → AreSameDiagrams d d' → (x y : Names) (e f : PlainEffect) → Identifies way d x y e
    → Identifies way d' x y f → f ≡ e
same_effect way fixed d d' s x y e f a i =
    let b = same_identified d d' s x y f way i in
    let ns : f.names ≡ e.names = b.names ∙ sym a.names in
    let qs : f.graph ≡ e.graph = b.graph ∙ sym a.graph in
    let same = one_found d.read d.observed.names x y e f qs way fixed a.found b.found in
    λ i. effect_for (ns i) (qs i) (same.0 i) (same.1 i)
