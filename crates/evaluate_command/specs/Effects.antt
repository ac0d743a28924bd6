-- An effect that has a formula.
use Rattle.std.specs.Prelude.{ℕ, ◌≡◌, ◌⊎◌, ◌≤◌, ◌<◌, true, Bool, IsTrue, List, Some, None, length}
use Rattle.mixed_graph.specs.Vocabulary.{has, MixedGraph, IsMixedGraph, IsAncestor, Within, Apart, graph_of, union}
use Rattle.dag_reader.specs.declared.graph.ReadGraph.{ReadGraph}
use Rattle.targets.specs.Vocabulary.{AreEffectSets, AreSets}
use Rattle.diagram.specs.declared.diagram.Diagram.{Diagram}
use Rattle.diagram.specs.Vocabulary.{Names, effect_lists, query_lists}
use Rattle.prob_expr.specs.Vocabulary.{fault_in, is_do_free, PlainFormula, PlainTarget, EqualsEffect, formula_view, target_view}
use Rattle.do_derivation.specs.Vocabulary.{PlainDerivation}
use Rattle.identification_theory.specs.Vocabulary.{IsDerived}
use Rattle.identify.specs.Vocabulary.{IsRightFormula}
use Rattle.short_formulas.specs.Vocabulary.{IsOrShorter}
use Rattle.conditional_id.specs.Vocabulary.{IsConditionalBySteps, IsRightGiven}
use Rattle.adjustment.specs.Vocabulary.{adjustment_formula}
use Rattle.adjust_command.specs.declared.criteria.Verdict.TheVariants.{Meets}
use Rattle.adjust_command.specs.Vocabulary.{IsVerdict}
use Rattle.identify_command.specs.Vocabulary.{AreTargetSets}
use Rattle.prob_expr.specs.Mentioned.{mentioned}
use Rattle.evaluate_command.specs.Ways.{Way, by_procedure, by_adjusting, by_condition}
use Rattle.evaluate_command.specs.declared.identified.Identified.{Identified}

-- the effect of x on y under a condition, which may be empty, in a graph whose vertices have these names, and a formula for it
pub record PlainEffect : Type 0 where
  pub names : List (List ℕ)
  pub graph : MixedGraph
  pub x : ℕ
  pub y : ℕ
  pub given : ℕ
  pub formula : PlainFormula

-- P(y | do(x), given)
abbrev pub target_of : PlainEffect → PlainTarget
target_of e = record { x = e.x; y = e.y; given = e.given }

-- the effect of a target, with a formula
abbrev pub effect_for : List (List ℕ) → MixedGraph → PlainTarget → PlainFormula → PlainEffect
effect_for names graph t formula = record { names = names; graph = graph; x = t.x; y = t.y; given = t.given; formula = formula }

-- an identified effect in an observed graph
abbrev pub effect_in : ReadGraph → Identified → PlainEffect
effect_in g i = effect_for g.names (graph_of g.graph) (target_view i.target) (formula_view i.formula)

-- the vertices whose levels are read for a target: those that its formula names, with x, y and what is given
abbrev pub read_for : PlainTarget → PlainFormula → ℕ
read_for t f = union (mentioned f) (union t.x (union t.y t.given))

-- those that are read for an effect
abbrev pub used_in : PlainEffect → ℕ
used_in e = read_for (target_of e) e.formula

-- x, y and what is given are vertices of the graph, x and y lie apart, and y has a member. The formula is accepted by the check of formulas, has no
-- intervention, names vertices of the graph alone, and equals
-- P(y | do(x), given) in each positive model that fits the graph.
pub record IsIdentified (e : PlainEffect) : Type 0 where
  pub named : length e.names ≡ e.graph.vertices
  pub few : e.graph.vertices ≤ 64
  pub graph : IsMixedGraph e.graph
  pub x : Within e.graph.vertices (has e.x)
  pub y : Within e.graph.vertices (has e.y)
  pub given : Within e.graph.vertices (has e.given)
  pub apart : Apart (has e.x) (has e.y)
  pub some : 0 < e.y
  pub used : Within e.graph.vertices (has (used_in e))
  pub formed : fault_in e.graph.vertices e.formula ≡ None
  pub do_free : is_do_free e.formula ≡ true
  pub effect : EqualsEffect e.graph (target_of e) e.formula

-- ---- the three ways

-- Nothing is given, and the formula is that of the identification procedure, or where a short one is asked for, no longer than that one; and right:
-- some derivation turns P(y | do(x)) into it, and it names ancestors of y alone. No column is read but those of x and of ancestors of y.
pub record IsByProcedure (short : Bool) (e : PlainEffect) : Type 0 where
  pub bare : e.given ≡ 0
  pub derivation : PlainDerivation
  pub right : IsRightFormula e.graph e.x e.y e.formula derivation
  pub derived : IsOrShorter short (IsDerived e.graph e.x e.y) e.formula derivation
  pub columns : (v : ℕ) → IsTrue (has (used_in e) v) → IsTrue (has e.x v) ⊎ IsAncestor e.graph (has e.y) v

-- Nothing is given, z meets the criterion, and the formula is the adjustment formula of z. No column is read but those of x, y and z.
pub record IsByAdjusting (back_door : Bool) (z : ℕ) (e : PlainEffect) : Type 0 where
  pub bare : e.given ≡ 0
  pub meets : IsVerdict back_door e.graph e.x e.y z Meets
  pub formula : e.formula ≡ adjustment_formula e.x e.y z
  pub columns : (v : ℕ) → IsTrue (has (used_in e) v) → IsTrue (has e.x v) ⊎ (IsTrue (has e.y v) ⊎ IsTrue (has z v))

-- The formula is that of the procedure for effects under a condition, or where a short one is asked for, no longer than that one; and right: some
-- derivation turns P(y | do(x), given) into it, and it names ancestors of y and of what is given alone. No column is read but those of x and of these.
pub record IsByCondition (short : Bool) (e : PlainEffect) : Type 0 where
  pub derivation : PlainDerivation
  pub right : IsRightGiven e.graph (target_of e) e.formula derivation
  pub derived : IsOrShorter short (IsConditionalBySteps e.graph (target_of e)) e.formula derivation
  pub columns : (v : ℕ) → IsTrue (has (used_in e) v) → IsTrue (has e.x v) ⊎ IsAncestor e.graph (has (union e.y e.given)) v

-- the lists name the sets of the effect, on a graph with these observed names, and its formula is found in this way
abbrev pub IsFoundBy : Way → ReadGraph → (observed : List (List ℕ)) → (x y : Names) → PlainEffect → Type 0
IsFoundBy (by_procedure short) g observed x y e = AreEffectSets (effect_lists g observed x y) e.x e.y × IsByProcedure short e
IsFoundBy (by_adjusting back_door set) g observed x y e = (z : ℕ) × AreSets (query_lists g observed x y (Some set)) e.x e.y z × IsByAdjusting back_door z e
IsFoundBy (by_condition short given) g observed x y e = AreTargetSets (query_lists g observed x y (Some given)) (target_of e) × IsByCondition short e

-- it is the effect that the lists of x and y name in the observed graph of the diagram, and it is identified in this way
pub record Identifies (way : Way) (d : Diagram) (x y : Names) (e : PlainEffect) : Type 0 where
  pub names : e.names ≡ d.observed.names
  pub graph : e.graph ≡ graph_of d.observed.graph
  pub identified : IsIdentified e
  pub found : IsFoundBy way d.read d.observed.names x y e
