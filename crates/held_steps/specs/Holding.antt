-- What is held, and what a step that is tried does to it.
use Rattle.std.specs.Prelude.{ℕ, ◌≡◌, Bool, true, false, List, [], ◌∷◌, Option, Some, None}
use Rattle.mixed_graph.specs.Vocabulary.{MixedGraph}
use Rattle.prob_expr.specs.Tree.{Tree}
use Rattle.prob_expr.specs.Vocabulary.{masks_of}
use Rattle.prob_expr.specs.View.{view}
use Rattle.do_derivation.specs.Plans.{Plan}
use Rattle.do_derivation.specs.Vocabulary.{Makes, child}
use Rattle.held_steps.specs.declared.candidate.Candidate.{Candidate}
use Rattle.held_steps.specs.declared.held.Held.{Held}

-- the part at a place of what may be there; a place is the numbers of children on the way
abbrev pub part_below : Option Tree → List ℕ → Option Tree
part_below o [] = o
part_below None (i ∷ place) = None
part_below (Some e) (i ∷ place) = part_below (child e i) place

-- the part of an expression at a place
abbrev pub part_of : Tree → List ℕ → Option Tree
part_of e place = part_below (Some e) place

-- the step at a place
abbrev pub at_place : List ℕ → Plan → Plan
at_place [] p = p
at_place (i ∷ place) p = Plan.At i (at_place place p)

-- where a step is done at a place, what is held then is what it makes of what was held, and lemmas with the held sets may be cited; else what is held stays
abbrev pub IsTried : MixedGraph → List ℕ → Plan → (old new : Held) → (made : Bool) → Type 0
IsTried g place p old new true = Makes g (masks_of old.lemmas.items) (at_place place p) (view old.expr) (view new.expr)
IsTried g place p old new false = view new.expr ≡ view old.expr

-- a formula without definitions, and a derivation without lemmas
pub record IsPlain (c : Candidate) : Type 0 where
  pub no_definition : c.formula.defs.items ≡ []
  pub no_lemma : c.derivation.lemmas.items ≡ []
