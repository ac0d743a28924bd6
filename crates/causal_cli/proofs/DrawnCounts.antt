-- What the counts cover in the diagram as drawn.
use Rattle.std.proofs.Common.{◌≡◌, ℕ, ◌<◌, Bool, true, false, ◌||◌, List, Option, Some, None, Ok, refl, sym, ap₂, subst}
use Rattle.std.specs.Prelude.{All}
use Rattle.std.proofs.lemmas.List.Elements.{All-weaker}
use Rattle.mixed_graph.specs.Vocabulary.{has, MixedGraph, IsMixedGraph, graph_of}
use Rattle.fractions.specs.Vocabulary.{Fraction, over, IsEqual}
use Rattle.finite_models.specs.Vocabulary.{FiniteModel, Fits}
use Rattle.finite_models.proofs.Following.{follows_of}
use Rattle.prob_expr.specs.Vocabulary.{PlainTarget, effect}
use Rattle.dag_reader.specs.declared.graph.ReadGraph.{ReadGraph}
use Rattle.hidden_models.specs.Vocabulary.{drawn_effect, values_after}
use Rattle.hidden_models.proofs.Depends.{weight_depends}
use Rattle.hidden_models.proofs.Drawn.{matched_folded, folded_is_positive, folded_keeps_effects}
use Rattle.hidden_models.proofs.Folded.{each_has_folded}
use Rattle.quantity.specs.Exacts.{exact}
use Rattle.quantity.specs.Vocabulary.{Equals, Covers, Kind, IsLawful, exact_lawful, bounds_lawful}
use Rattle.quantity.specs.Intervals.{bounds}
use Rattle.quantity.specs.Kinds.{Pair}
use Rattle.count_rows.specs.Vocabulary.{Table}
use Rattle.count_table.specs.Cells as cells
use Rattle.count_eval.specs.Vocabulary.{weights_in, is_used, cell_of}
use Rattle.implications.specs.declared.pairs.Implication.{Implication}
use Rattle.natural_bounds.proofs.Drawn.{no_model_is_as_drawn}
use Rattle.diagram.specs.declared.diagram.Diagram.{Diagram}
use Rattle.diagram.specs.Vocabulary.{IsObservedGraph, Names}
use Rattle.command_words.specs.Vocabulary.{Text}
use Rattle.diagram.proofs.ObservedParts.{part_of}
use Rattle.evaluate_command.specs.declared.answer.Answer.{Answer}
use Rattle.evaluate_command.specs.Vocabulary.{IsBreak, CellValue, PlainEffect, target_of, Identifies, CoversEffect, IsOverTable, IsForTable, IsForCounts}
use Rattle.evaluate_command.specs.Ways.{Way}
use Rattle.evaluate_command.specs.declared.answer.Values.{Values}
use Rattle.evaluate_command.specs.declared.answer.Values.TheVariants as values
use Rattle.evaluate_command.specs.declared.answer.Answer.TheVariants as evaluated
use Rattle.causal_cli.specs.AsDrawn.{CoversAsDrawn, EachCoversAsDrawn, AreCoveredAsDrawn, IsBreakAsDrawn, IsUnmatchedAsDrawn, IsEvaluatedAsDrawn}
use Rattle.causal_cli.proofs.AsDrawn.{drawn}

-- an effect depends on the values of the model's vertices alone
same_effect : (q : MixedGraph) → IsMixedGraph q → (m : FiniteModel) → Fits q m → (t : PlainTarget) (s r : ℕ → ℕ) → ((v : ℕ) → v < m.vertices → s v ≡ r v)
    → effect m t s ≡ effect m t r
same_effect q ok m fit t s r same = ap₂ (λ x y. over x y)
    (weight_depends q m ok (follows_of q m fit) (has t.x) (has t.x) (λ v. has t.y v || has t.given v) (λ v. has t.y v || has t.given v) s r (λ v lt. refl)
    (λ v lt. refl) (λ v lt e. same v lt) (λ v lt e. same v lt))
    (weight_depends q m ok (follows_of q m fit) (has t.x) (has t.x) (has t.given) (has t.given) s r (λ v lt. refl) (λ v lt. refl) (λ v lt e. same v lt)
    (λ v lt e. same v lt))

-- what covers the effect in each model of the observed graph that the counts match covers it in the diagram as drawn
covers_as_drawn : (kind : Kind) (covers : Pair → Fraction → Type 0) → IsLawful kind covers → (g : ReadGraph) (e : PlainEffect) → IsObservedGraph g e.graph
    → IsMixedGraph e.graph
    → (t : Table) (v : CellValue) → CoversEffect covers e t v → CoversAsDrawn covers g e t v
covers_as_drawn kind covers lawful g e is ok t v h m fit observed matched s hs at =
    let l = has g.latent.bits in
    let f = each_has_folded (graph_of g.graph) g.graph.valid l e.graph is m fit in
    let positive = folded_is_positive (graph_of g.graph) g.graph.valid l e.graph is m f.folded fit f.fits f.folds observed in
    let match = matched_folded (graph_of g.graph) g.graph.valid l e.graph is m f.folded fit f.fits f.folds (is_used t) (weights_in e.graph.vertices t)
    (cells.total t.rows) matched in
    let same : effect f.folded (target_of e) (values_after l m.vertices s) ≡ effect f.folded (target_of e) (cell_of v.cell) =
    same_effect e.graph ok f.folded f.fits (target_of e) (values_after l m.vertices s) (cell_of v.cell)
    (λ k lt. at k (subst (λ n. k < n) f.fits.vertices lt)) in
    lawful.keeps.equal v.quantity (effect f.folded (target_of e) (cell_of v.cell)) (drawn_effect l m (target_of e) s)
    (h f.folded f.fits positive match)
    (subst (λ x. IsEqual x (drawn_effect l m (target_of e) s)) same
    (folded_keeps_effects (graph_of g.graph) g.graph.valid l e.graph is m f.folded fit f.fits f.folds observed (target_of e) s hs))

-- each value is so, in either kind of quantity
pub each_covers : (is_exact zero : Bool) (g : ReadGraph) (e : PlainEffect) (t : Table) (v : Values) → IsObservedGraph g e.graph → IsMixedGraph e.graph
    → IsOverTable is_exact zero e t v → EachCoversAsDrawn g e t v
each_covers true zero g e t (values.Exact list) is ok h = subst (All (CoversAsDrawn Equals g e t)) (sym h.listed)
    (All-weaker (CoversEffect Equals e t) (CoversAsDrawn Equals g e t) (λ v c. covers_as_drawn exact Equals exact_lawful g e is ok t v c)
    h.values.values h.values.effects)
each_covers false zero g e t (values.Bounds list) is ok h = subst (All (CoversAsDrawn Covers g e t)) (sym h.listed)
    (All-weaker (CoversEffect Covers e t) (CoversAsDrawn Covers g e t) (λ v c. covers_as_drawn bounds Covers bounds_lawful g e is ok t v c)
    h.values.values h.values.effects)
each_covers true zero g e t (values.Bounds list) is ok h = absurd h
each_covers false zero g e t (values.Exact list) is ok h = absurd h

-- where the counts break a pair of the observed graph, no model of the diagram as drawn has them
break_as_drawn : (matched : Bool) (g : ReadGraph) (e : PlainEffect) (t : Table) (broken : Option Implication) → IsObservedGraph g e.graph
    → IsBreak matched e.graph t broken → IsBreakAsDrawn g e t broken
break_as_drawn true g e t (Some i) is h =
    no_model_is_as_drawn (graph_of g.graph) g.graph.valid (has g.latent.bits) e.graph is (is_used t) (weights_in e.graph.vertices t) (cells.total t.rows)
    h.no_model
break_as_drawn true g e t None is h = tt
break_as_drawn false g e t broken is h = subst (IsBreakAsDrawn g e t) (sym h) tt

-- a right answer of `evaluate` over counts
pub evaluates : (way : Way) (x y : Names) (is_exact zero matched : Bool) (count : Option Text) (other : List ℕ) (d : Diagram) (e : PlainEffect) (a : Answer)
    → Identifies way d x y e → IsForCounts is_exact zero matched e count other (Ok a) → IsEvaluatedAsDrawn d e a
evaluates way x y is_exact zero matched count other d e a identifies h = record {
  formula = drawn d.read e.graph seen (target_of e) e.formula identifies.identified.effect;
  values = covered a h.answer;
  no_model = unmatched a h.answer;
}
  where
    seen : IsObservedGraph d.read e.graph
    seen = subst (IsObservedGraph d.read) (sym identifies.graph) (part_of d).graph

    covered : (b : Answer) → IsForTable is_exact zero matched e h.table b → AreCoveredAsDrawn d e b
    covered (evaluated.Values v) k = subst (λ (t : Table). EachCoversAsDrawn d.read e t v.values) (sym k.table)
        (each_covers is_exact zero d.read e h.table v.values seen identifies.identified.graph k.values)
    covered (evaluated.Hedge k) f = absurd f
    covered (evaluated.Joint t settled k) f = absurd f
    covered (evaluated.NotAdmissible s fault) f = absurd f

    unmatched : (b : Answer) → IsForTable is_exact zero matched e h.table b → IsUnmatchedAsDrawn d e b
    unmatched (evaluated.Values v) k = subst (λ (t : Table). IsBreakAsDrawn d.read e t v.broken) (sym k.table)
        (break_as_drawn matched d.read e h.table v.broken seen k.broken)
    unmatched (evaluated.Hedge k) f = absurd f
    unmatched (evaluated.Joint t settled k) f = absurd f
    unmatched (evaluated.NotAdmissible s fault) f = absurd f
