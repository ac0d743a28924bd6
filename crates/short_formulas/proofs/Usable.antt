-- What the procedures answer may be shortened.
use Rattle.std.proofs.Common.{ℕ, ◌≡◌, ◌≤◌, ◌<◌, Bool, true, false, length, subst, sym, arith}
use Rattle.mixed_graph.specs.Vocabulary.{has, MixedGraph, IsAncestor}
use Rattle.mixed_graph.proofs.MaskLaws.{join-zero}
use Rattle.do_rules.specs.Vocabulary.{AreThreeSets}
use Rattle.prob_expr.specs.Vocabulary.{is_term, PlainFormula, PlainTarget, effect_on}
use Rattle.do_derivation.proofs.TermSets.{apart_back, term_test}
use Rattle.do_derivation.specs.Vocabulary.{PlainDerivation}
use Rattle.identification_theory.specs.Vocabulary.{FormulaNamesOnly}
use Rattle.identify.specs.Vocabulary.{IsRightFormula, AreShallowSteps, IsShallowFormula}
use Rattle.conditional_id.specs.Vocabulary.{IsRightGiven, IsShallowGiven}
use Rattle.short_formulas.specs.Short.{IsUsable, IsOrShorter, IsSameOrShorter}
use Rattle.short_formulas.proofs.Deeper.{tree_deeper, defs_deeper, plan_deeper, lemmas_deeper}

-- a right formula for an effect is one for the target without a condition
pub right_given : (g : MixedGraph) (x y : ℕ) (f : PlainFormula) (d : PlainDerivation) → IsRightFormula g x y f d → IsRightGiven g (effect_on x y) f d
right_given g x y f d r = record {
  formed = r.formed;
  do_free = r.do_free;
  names = subst (λ a. FormulaNamesOnly (IsAncestor g (has a)) f) (sym (join-zero y)) r.names;
  accepted = r.accepted;
  effect = r.effect;
}

-- and the other way round
pub right_bare : (g : MixedGraph) (x y : ℕ) (f : PlainFormula) (d : PlainDerivation) → IsRightGiven g (effect_on x y) f d → IsRightFormula g x y f d
right_bare g x y f d r = record {
  formed = r.formed;
  do_free = r.do_free;
  names = subst (λ a. FormulaNamesOnly (IsAncestor g (has a)) f) (join-zero y) r.names;
  accepted = r.accepted;
  effect = r.effect;
}

-- what identification answers may be shortened
pub usable_plain : (g : MixedGraph) (x y : ℕ) (f : PlainFormula) (d : PlainDerivation) → IsRightFormula g x y f d → AreShallowSteps d → IsShallowFormula f
    → length f.defs ≤ 4096
    → IsUsable g (effect_on x y) f d
usable_plain g x y f d r steps nodes few = record {
  right = right_given g x y f d r;
  readable = record {
    main_steps = plan_deeper 14 60 d.main (omega arith) steps.main;
    lemma_steps = lemmas_deeper 10 60 d.lemmas (omega arith) steps.lemmas;
    main = tree_deeper 7 60 f.main (omega arith) nodes.main;
    defs = defs_deeper 5 60 f.defs (omega arith) nodes.defs;
    few = few;
  };
}

-- and what it answers under a condition
pub usable_given : (g : MixedGraph) (t : PlainTarget) (f : PlainFormula) (d : PlainDerivation) → IsRightGiven g t f d → IsShallowGiven f d
    → length f.defs ≤ 4096 → IsUsable g t f d
usable_given g t f d r s few = record {
  right = r;
  readable = record {
    main_steps = plan_deeper 18 60 d.main (omega arith) s.main_steps;
    lemma_steps = lemmas_deeper 10 60 d.lemmas (omega arith) s.lemma_steps;
    main = tree_deeper 9 60 f.main (omega arith) s.main;
    defs = defs_deeper 5 60 f.defs (omega arith) s.defs;
    few = few;
  };
}

-- where a formula is one of which P holds, or no longer than such a one, there is such a one
pub some_first : (short : Bool) (P : PlainFormula → PlainDerivation → Type 0) (f : PlainFormula) (d : PlainDerivation) → IsOrShorter short P f d
    → (p : PlainFormula) × (e : PlainDerivation) × P p e
some_first false P f d h = (f, d, h)
some_first true P f d h = (h.0, h.1, h.2)

-- and what is the first, or no longer, is such a one where P holds of the first
pub or_shorter : (short : Bool) (P : PlainFormula → PlainDerivation → Type 0) (first : PlainFormula) (steps : PlainDerivation) (f : PlainFormula)
    (d : PlainDerivation)
    → IsSameOrShorter short first steps f d → P first steps → IsOrShorter short P f d
or_shorter false P first steps f d same h = subst (λ (k : PlainFormula). P k d) (sym same.0) (subst (P first) (sym same.1) h)
or_shorter true P first steps f d le h = (first, steps, h, le)

-- the sets of a target are those of a term
pub target_term : (n : ℕ) (t : PlainTarget) → AreThreeSets n (has t.x) (has t.y) (has t.given) → 0 < t.y → is_term n t.y t.x t.given ≡ true
target_term n t s some = term_test n t.y t.x t.given (record {
  of_below = s.y_within;
  doing_below = s.x_within;
  given_below = s.w_within;
  of_doing = apart_back (has t.x) (has t.y) s.x_y;
  of_given = s.y_w;
  doing_given = s.x_w;
}) (λ none. absurd (omega (arith, some, none)))
