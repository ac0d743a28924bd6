-- What a formula has to be that stands in place of another.
use Rattle.std.specs.Prelude.{◌≡◌, ◌≤◌, Bool, true, false, [], None, IsTrue, length}
use Rattle.mixed_graph.specs.Vocabulary.{MixedGraph}
use Rattle.prob_expr.specs.Vocabulary.{fault_in, is_do_free, EqualsEffect, PlainFormula, PlainTarget}
use Rattle.do_derivation.specs.Accepts.{Accepts}
use Rattle.do_derivation.specs.Vocabulary.{PlainDerivation}
use Rattle.identification_theory.specs.Vocabulary.{is_plan_within, are_lemmas_within, is_tree_within, are_defs_within}
use Rattle.conditional_id.specs.Vocabulary.{IsConditional, IsRightGiven}
use Rattle.short_formulas.specs.Length.{formula_length}

-- steps nest at most 60 deep, and nodes at most 60; and there are at most 4096 definitions
pub record IsReadable (f : PlainFormula) (d : PlainDerivation) : Type 0 where
  pub main_steps : IsTrue (is_plan_within 60 d.main)
  pub lemma_steps : IsTrue (are_lemmas_within 60 d.lemmas)
  pub main : IsTrue (is_tree_within 60 f.main)
  pub defs : IsTrue (are_defs_within 60 f.defs)
  pub few : length f.defs ≤ 4096

-- the checks of formulas and of derivations accept the formula, which is the effect and has no intervention
pub record IsAccepted (g : MixedGraph) (t : PlainTarget) (f : PlainFormula) (d : PlainDerivation) : Type 0 where
  pub formed : fault_in g.vertices f ≡ None
  pub do_free : is_do_free f ≡ true
  pub accepted : Accepts g [] t f d
  pub effect : EqualsEffect g t f

-- the formula is right for the target, with its derivation, and nests little
pub record IsUsable (g : MixedGraph) (t : PlainTarget) (f : PlainFormula) (d : PlainDerivation) : Type 0 where
  pub right : IsRightGiven g t f d
  pub readable : IsReadable f d

-- the formula f is right for the target, nests little, and is no longer than the other
pub record IsInPlaceOf (g : MixedGraph) (t : PlainTarget) (other f : PlainFormula) (d : PlainDerivation) : Type 0 where
  pub usable : IsUsable g t f d
  pub no_longer : formula_length f ≤ formula_length other

-- the formula is no longer than the one that the procedure for conditional effects answers (Shpitser and Pearl 2006)
abbrev pub IsNoLonger : MixedGraph → PlainTarget → PlainFormula → Type 0
IsNoLonger g t f = (p : PlainFormula) × IsConditional g t p × (formula_length f ≤ formula_length p)

-- the formula with its derivation is one of which P holds; or where a short one is asked for, it is no longer than such a one
abbrev pub IsOrShorter : Bool → (PlainFormula → PlainDerivation → Type 0) → PlainFormula → PlainDerivation → Type 0
IsOrShorter false P f d = P f d
IsOrShorter true P f d = (p : PlainFormula) × (e : PlainDerivation) × P p e × (formula_length f ≤ formula_length p)

-- the formula with its derivation is the first; or where a short one is asked for, it is no longer than the first
abbrev pub IsSameOrShorter : Bool → (first : PlainFormula) → PlainDerivation → PlainFormula → PlainDerivation → Type 0
IsSameOrShorter false first steps f d = (f ≡ first) × (d ≡ steps)
IsSameOrShorter true first steps f d = formula_length f ≤ formula_length first
