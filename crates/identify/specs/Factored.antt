-- What the factors of the districts have to be, and where one stops.
use Rattle.std.specs.Prelude.{ℕ, ◌≡◌, ◌≤◌, ◌*◌, List, [], ◌∷◌, ◌++◌, length, map, Result, Ok, Err}
use Rattle.mixed_graph.specs.declared.sets.VSet.{VSet}
use Rattle.mixed_graph.specs.Vocabulary.{MixedGraph, minus}
use Rattle.prob_expr.specs.Vocabulary.{PlainFormula, views}
use Rattle.prob_expr.specs.View.{view}
use Rattle.do_derivation.specs.Plans.{Plan}
use Rattle.do_derivation.specs.Vocabulary.{PlainDerivation, lemma_view}
use Rattle.identification_theory.specs.Vocabulary.{AreFactored, StopsAt, product_of, sum_if, AreAllSteps, district_steps, main_steps}
use Rattle.identify.specs.declared.factors.district_factor.Factor.{Factor}
use Rattle.identify.specs.declared.factors.district_factor.FactorFault.{FactorFault}
use Rattle.identify.specs.declared.factors.district_factor.FactorFault.TheVariants as faults
use Rattle.identify.specs.Lists.{lists_view}
use Rattle.identify.specs.declared.answer.Factors.{Factors}
use Rattle.identify.specs.declared.wanted.Wanted.{Wanted}
use Rattle.identify.specs.declared.wanted.Wanted.TheVariants.{Derivation}
use Rattle.identify.specs.declared.answer.Stop.{Stop}
use Rattle.identify.specs.declared.answer.Stop.TheVariants.{At, NoMemory}

-- by this order of the vertices, the factors of these districts with their definitions, at most 64 for each, and where a derivation is wanted the steps to them
pub record AreFactorsOf (wanted : Wanted) (g : MixedGraph) (order : List ℕ) (districts : List ℕ) (f : Factors) : Type 0 where
  pub formulas : AreFactored g order 0 districts (map view f.defs.items) (views f.values.items)
  pub steps : wanted ≡ Derivation → AreAllSteps g order 0 districts (map lemma_view f.lemmas.items) (lists_view f.lists.items)
  pub counted : length f.lists.items ≡ length districts
  pub few : length f.defs.items ≤ 64 * length districts

-- the district at which a procedure stops, and where, by its relation: number of the first definition, districts, small and big
abbrev pub IsStopBy : (ℕ → List ℕ → ℕ → ℕ → Type 0) → (districts : List ℕ) → Stop → Type 0
IsStopBy stops districts (At small big) = stops 0 districts small.bits big.bits
IsStopBy stops districts NoMemory = Unit {0}

-- the first district whose factor stops, and where
abbrev pub IsStopOf : MixedGraph → (order : List ℕ) → (districts : List ℕ) → Stop → Type 0
IsStopOf g order districts stop = IsStopBy (StopsAt g order) districts stop

-- the factor of one more district behind the others
pub record AreWithMore (old : Factors) (more : Factor) (new : Factors) : Type 0 where
  pub defs : new.defs.items ≡ old.defs.items ++ more.defs.items
  pub lemmas : new.lemmas.items ≡ old.lemmas.items ++ more.lemmas.items
  pub values : new.values.items ≡ old.values.items ++ more.value ∷ []
  pub lists : new.lists.items ≡ old.lists.items ++ more.steps ∷ []

-- why there are no factors where that of c has this fault
abbrev pub stop_for : VSet → FactorFault → Stop
stop_for c (faults.Stopped big) = At c big
stop_for c faults.NoMemory = NoMemory

-- the factor that was found stands behind the others
abbrev pub IsAdded : Result Factor FactorFault → (old new : Factors) → Type 0
IsAdded (Ok more) old new = AreWithMore old more new
IsAdded (Err fault) old new = ⊥

-- why it doesn't: want of memory, or what was found for c is a fault
abbrev pub IsStopFor : VSet → Result Factor FactorFault → Stop → Type 0
IsStopFor c (Ok more) stop = stop ≡ NoMemory
IsStopFor c (Err fault) stop = stop ≡ stop_for c fault

-- The formula of these factors of the districts, with d the ancestors of y once x is left out: their product, summed down to y. Where its derivation
-- is wanted, that goes to each district, and then by the steps of each.
pub record AreAssembled (wanted : Wanted) (n : ℕ) (order districts : List ℕ) (x y d : ℕ) (made : Factors) (f : PlainFormula)
    (t : PlainDerivation) : Type 0 where
  pub defs : f.defs ≡ map view made.defs.items
  pub main : f.main ≡ sum_if (minus d y) (product_of (views made.values.items))
  pub lemmas : t.lemmas ≡ map lemma_view made.lemmas.items
  pub steps : wanted ≡ Derivation → t.main ≡ Plan.Then (main_steps n x y d
      (district_steps order d districts (lists_view made.lists.items) (views made.values.items)))
