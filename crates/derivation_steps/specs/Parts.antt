-- A derivation part by part: the moves of its lemmas and of its main step, one after another.
use Rattle.std.specs.Prelude.{ℕ, ◌+◌, ◌≡◌, true, List, [], ◌∷◌, ◌++◌, Option, Some, None}
use Rattle.mixed_graph.specs.Vocabulary.{MixedGraph}
use Rattle.prob_expr.specs.Tree.{Tree}
use Rattle.prob_expr.specs.Vocabulary.{PlainFormula, PlainTarget, term_of}
use Rattle.prob_expr.specs.View.{view}
use Rattle.do_derivation.specs.Vocabulary.{are_sets, sets_of, start_of, Define, PlainLemma, PlainDerivation, Makes}
use Rattle.do_derivation.specs.Plans.{Plan}
use Rattle.derivation_steps.specs.Moves.{moves_of}
use Rattle.derivation_steps.specs.Traces.{plans_in, Leads}
use Rattle.derivation_steps.specs.declared.parts.Part.{Part}

-- the part has the moves of the plan in turn, which lead from its start to x
pub record IsPart (g : MixedGraph) (lemmas : List ℕ) (lemma : Option ℕ) (plan : Plan) (start x : Tree) (p : Part) : Type 0 where
  pub number : p.lemma ≡ lemma
  pub begins : view p.start ≡ start
  pub moves : plans_in p.moves.items ≡ moves_of plan
  pub leads : Leads g lemmas start p.moves.items x

-- the parts of the lemmas from number k on, which come after those with the sets `before`; they lead to the definitions, one each
abbrev pub AreLemmaParts : MixedGraph → List ℕ → ℕ → List PlainLemma → List Tree → List Part → Type 0
AreLemmaParts g before k [] [] [] = Unit {0}
AreLemmaParts g before k (l ∷ ls) (d ∷ ds) (p ∷ ps) =
    IsPart g before (Some k) l.plan (start_of g.vertices l.set) d p × AreLemmaParts g (before ++ (l.set ∷ [])) (k + 1) ls ds ps
AreLemmaParts g before k [] [] (p ∷ ps) = ⊥
AreLemmaParts g before k [] (d ∷ ds) ps = ⊥
AreLemmaParts g before k (l ∷ ls) [] ps = ⊥
AreLemmaParts g before k (l ∷ ls) (d ∷ ds) [] = ⊥

-- the derivation makes the formula of the target
pub record IsDerived (g : MixedGraph) (t : PlainTarget) (d : PlainDerivation) (f : PlainFormula) : Type 0 where
  pub sets : are_sets g.vertices (sets_of d.lemmas) ≡ true
  pub define : Define g [] d.lemmas f.defs
  pub main : Makes g (sets_of d.lemmas) d.main (term_of t) f.main

-- the parts of all lemmas, which lead to the formula's definitions, and then that of main, which leads from the target's term to the formula
pub record Explains (g : MixedGraph) (t : PlainTarget) (d : PlainDerivation) (f : PlainFormula) (parts : List Part) : Type 0 where
  pub lemmas : List Part
  pub main : Part
  pub is : parts ≡ lemmas ++ (main ∷ [])
  pub are_lemmas : AreLemmaParts g [] 0 d.lemmas f.defs lemmas
  pub is_main : IsPart g (sets_of d.lemmas) None d.main (term_of t) f.main main
