-- A right formula for an effect identifies it: that of a procedure, or one that is no longer, and the adjustment formula of a set that meets a criterion.
use Rattle.std.proofs.Common.{ℕ, ◌≡◌, ◌<◌, ◌⊎◌, inl, inr, true, Bool, IsTrue, [], None, refl, sym, ◌∙◌, arith}
use Rattle.std.proofs.lemmas.Bool.{false≢true}
use Rattle.mixed_graph.specs.Vocabulary.{has, IsAncestor, union, Within, Apart, graph_of}
use Rattle.mixed_graph.proofs.MaskLaws.{has_none}
use Rattle.dag_reader.specs.declared.graph.ReadGraph.{ReadGraph}
use Rattle.do_rules.specs.Vocabulary.{AreThreeSets}
use Rattle.prob_expr.specs.Vocabulary.{fault_in, is_do_free, PlainFormula, PlainTarget, effect_on, EqualsEffect}
use Rattle.prob_expr.specs.Mentioned.{mentioned}
use Rattle.do_derivation.specs.Vocabulary.{PlainDerivation}
use Rattle.identification_theory.specs.Vocabulary.{IsDerived, FormulaNamesOnly}
use Rattle.identify.specs.Vocabulary.{IsRightFormula}
use Rattle.conditional_id.specs.Vocabulary.{IsConditionalBySteps, IsRightGiven}
use Rattle.short_formulas.specs.Vocabulary.{IsOrShorter}
use Rattle.adjustment.specs.Vocabulary.{adjustment_formula}
use Rattle.adjust_command.specs.declared.criteria.Verdict.TheVariants.{Meets}
use Rattle.adjust_command.specs.Vocabulary.{IsVerdict}
use Rattle.adjust_command.proofs.Formulas.{formula_sound}
use Rattle.evaluate_command.specs.Effects.{PlainEffect, effect_for, used_in, IsIdentified, IsByProcedure, IsByAdjusting, IsByCondition}
use Rattle.evaluate_command.proofs.Adjusted.{verdict_effect, adjusted_free}
use Rattle.evaluate_command.proofs.Columns.{used_only, none_given, adjustment_names}
use Rattle.evaluate_command.proofs.Mentions.{in_left, in_right, mentioned_only}

-- the sets of an effect under no condition
pub bare_sets : (n x y : ℕ) → Within n (has x) → Within n (has y) → Apart (has x) (has y) → AreThreeSets n (has x) (has y) (has 0)
bare_sets n x y in_x in_y apart = record {
  x_within = in_x;
  y_within = in_y;
  w_within = λ v i. absurd (false≢true (sym (has_none v) ∙ i));
  x_y = apart;
  x_w = λ v i. has_none v;
  y_w = λ v i. has_none v;
}

-- the effect of a target in an observed graph, with a formula
abbrev pub effect : ReadGraph → PlainTarget → PlainFormula → PlainEffect
effect g t f = effect_for g.names (graph_of g.graph) t f

module _ (g : ReadGraph) (t : PlainTarget) (sets : AreThreeSets g.graph.n (has t.x) (has t.y) (has t.given)) (some : 0 < t.y) (f : PlainFormula) where
  -- a formula of vertices of the graph that is accepted, has no intervention and equals the effect
  identified : ((v : ℕ) → has (mentioned f) v ≡ true → v < g.graph.n) → fault_in g.graph.n f ≡ None → is_do_free f ≡ true
      → EqualsEffect (graph_of g.graph) t f → IsIdentified (effect g t f)
  identified vertices formed free equals = record {
    named = g.sized;
    few = g.graph.small;
    graph = g.graph.valid;
    x = sets.x_within;
    y = sets.y_within;
    given = sets.w_within;
    apart = sets.x_y;
    some = some;
    used = used_only (λ v. v < g.graph.n) (effect g t f) vertices sets.x_within sets.y_within sets.w_within;
    formed = formed;
    do_free = free;
    effect = equals;
  }

  -- where it names ancestors of a set alone, which has y and what is given, no column is read but those of x and of these
  ancestors_read : (s : ℕ) → FormulaNamesOnly (IsAncestor (graph_of g.graph) (has s)) f → ((v : ℕ) → has t.y v ≡ true → has s v ≡ true)
      → ((v : ℕ) → has t.given v ≡ true → has s v ≡ true) → (v : ℕ) → IsTrue (has (used_in (effect g t f)) v)
      → IsTrue (has t.x v) ⊎ IsAncestor (graph_of g.graph) (has s) v
  ancestors_read s names of_y of_given =
      let q = graph_of g.graph in
      let member : (v : ℕ) → v < g.graph.n → has s v ≡ true → IsAncestor q (has s) v =
      λ v lt h. record { vertex = lt; path = []; end = v; leads = refl; inside = h } in
      used_only (λ v. IsTrue (has t.x v) ⊎ IsAncestor q (has s) v) (effect g t f) (λ v h. inr (mentioned_only (IsAncestor q (has s)) f names v h))
      (λ v h. inl h)
      (λ v h. inr (member v (sets.y_within v h) (of_y v h))) (λ v h. inr (member v (sets.w_within v h) (of_given v h)))

  -- by the procedure for effects under a condition
  pub found_by_condition : (short : Bool) (d : PlainDerivation) → IsRightGiven (graph_of g.graph) t f d
      → IsOrShorter short (IsConditionalBySteps (graph_of g.graph) t) f d → IsIdentified (effect g t f) × IsByCondition short (effect g t f)
  found_by_condition short d right derived = (
    identified (λ v h. (mentioned_only (IsAncestor (graph_of g.graph) (has (union t.y t.given))) f right.names v h).vertex) right.formed right.do_free
        right.effect,
    record {
      derivation = d;
      right = right;
      derived = derived;
      columns = ancestors_read (union t.y t.given) right.names (in_left t.y t.given) (in_right t.y t.given);
    },
  )

module _ (g : ReadGraph) (x y : ℕ) where
  -- by the identification procedure
  pub found_by_procedure : AreThreeSets g.graph.n (has x) (has y) (has 0) → 0 < y → (short : Bool) (f : PlainFormula) (d : PlainDerivation)
      → IsRightFormula (graph_of g.graph) x y f d → IsOrShorter short (IsDerived (graph_of g.graph) x y) f d
      → IsIdentified (effect g (effect_on x y) f) × IsByProcedure short (effect g (effect_on x y) f)
  found_by_procedure sets some short f d right derived = (
    identified g (effect_on x y) sets some f (λ v h. (mentioned_only (IsAncestor (graph_of g.graph) (has y)) f right.names v h).vertex) right.formed
        right.do_free right.effect,
    record {
      bare = refl;
      derivation = d;
      right = right;
      derived = derived;
      columns = ancestors_read g (effect_on x y) sets some f y right.names (λ v h. h) (none_given (λ v. has y v ≡ true) 0 refl);
    },
  )

  -- by adjusting for z
  pub found_by_adjusting : (back_door : Bool) (z : ℕ) → AreThreeSets g.graph.n (has x) (has y) (has z) → 0 < y
      → IsVerdict back_door (graph_of g.graph) x y z Meets
      → (let e = effect g (effect_on x y) (adjustment_formula x y z) in IsIdentified e × IsByAdjusting back_door z e)
  found_by_adjusting back_door z sets some meets =
      let f = adjustment_formula x y z in
      let bare = bare_sets g.graph.n x y sets.x_within sets.y_within sets.x_y in
      let P : ℕ → Type 0 = λ v. IsTrue (has x v) ⊎ (IsTrue (has y v) ⊎ IsTrue (has z v)) in
      let names = adjustment_names P x y z (λ v h. inl h) (λ v h. inr (inl h)) (λ v h. inr (inr h)) in (
        identified g (effect_on x y) bare some f (adjustment_names (λ v. v < g.graph.n) x y z sets.x_within sets.y_within sets.w_within)
            (formula_sound g.graph.n x y z sets (λ none. absurd (omega (arith, none, some)))) (adjusted_free x y z)
            (verdict_effect back_door (graph_of g.graph) x y z meets),
        record {
          bare = refl;
          meets = meets;
          formula = refl;
          columns = used_only P (effect g (effect_on x y) f) names (λ v h. inl h) (λ v h. inr (inl h)) (none_given P 0 refl);
        },
      )
