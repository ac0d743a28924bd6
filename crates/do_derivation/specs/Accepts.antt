-- When a derivation is accepted for a formula, and its first fault otherwise.
use Rattle.std.specs.Prelude.{ℕ, ◌+◌, ◌≡◌, ◌⊎◌, Bool, true, false, not, ◌&&◌, List, [], ◌∷◌, ◌++◌, length, map, Some, None, ⊤}
use Rattle.mixed_graph.specs.Vocabulary.{MixedGraph, minus, all, is_empty, is_below}
use Rattle.prob_expr.specs.Vocabulary.{cap, is_allowed, PlainFormula, PlainTarget, term_of}
use Rattle.prob_expr.specs.Tree.{Tree, prob}
use Rattle.do_derivation.specs.Plans.{PlainLemma, PlainDerivation}
use Rattle.do_derivation.specs.Steps.{Makes, Refuses}
use Rattle.do_derivation.specs.declared.faults.StepFault.{StepFault}
use Rattle.do_derivation.specs.declared.faults.CheckFault.{CheckFault}
use Rattle.do_derivation.specs.declared.faults.CheckFault.TheVariants.{Step, EndDiffers, DoLeft}

-- the term of a lemma on the set: P(set | do(all others))
abbrev pub start_of : ℕ → ℕ → Tree
start_of n set = prob set (minus (all n) set) 0

-- the sets of the lemmas
abbrev pub sets_of : List PlainLemma → List ℕ
sets_of lemmas = map (λ l. l.set) lemmas

-- each set is below n and not empty
abbrev pub are_sets : ℕ → List ℕ → Bool
are_sets n [] = true
are_sets n (s ∷ rest) = (is_below n s && not (is_empty s)) && are_sets n rest

-- the lemmas, after those with the sets `before`, make the definitions, one each
abbrev pub Define : MixedGraph → List ℕ → List PlainLemma → List Tree → Type 0
Define g before [] [] = ⊤
Define g before [] (d ∷ ds) = ⊥
Define g before (l ∷ ls) [] = ⊥
Define g before (l ∷ ls) (d ∷ ds) = Makes g before l.plan (start_of g.vertices l.set) d × Define g (before ++ (l.set ∷ [])) ls ds

-- the derivation is accepted for the target and the formula, where terms may stand under the allowed interventions
pub record Accepts (g : MixedGraph) (allowed : List ℕ) (t : PlainTarget) (f : PlainFormula) (d : PlainDerivation) : Type 0 where
  pub sets : are_sets g.vertices (sets_of d.lemmas) ≡ true
  pub define : Define g [] d.lemmas f.defs
  pub main : Makes g (sets_of d.lemmas) d.main (term_of t) f.main
  pub listed : is_allowed allowed f ≡ true

-- the first fault of the lemmas and definitions from number k on
abbrev pub DefinesNot : MixedGraph → List ℕ → ℕ → List PlainLemma → List Tree → CheckFault → Type 0
DefinesNot g before k [] [] fault = ⊥
DefinesNot g before k [] (d ∷ ds) fault = fault ≡ EndDiffers (cap k)
DefinesNot g before k (l ∷ ls) [] fault = fault ≡ EndDiffers (cap k)
DefinesNot g before k (l ∷ ls) (d ∷ ds) fault =
    ((number : ℕ) × (why : StepFault) × Refuses g before l.plan (start_of g.vertices l.set) 0 number why
    × (fault ≡ Step (record { lemma = Some (cap k); number = number }) why))
    ⊎ ((e : Tree) × Makes g before l.plan (start_of g.vertices l.set) e × (e ≡ d → ⊥) × (fault ≡ EndDiffers (cap k)))
    ⊎ (Makes g before l.plan (start_of g.vertices l.set) d × DefinesNot g (before ++ (l.set ∷ [])) (k + 1) ls ds fault)

-- the first fault of main and of the terms
abbrev pub EndsNot : MixedGraph → List ℕ → PlainTarget → PlainFormula → PlainDerivation → CheckFault → Type 0
EndsNot g allowed t f d fault =
    ((number : ℕ) × (why : StepFault) × Refuses g (sets_of d.lemmas) d.main (term_of t) 0 number why
    × (fault ≡ Step (record { lemma = None; number = number }) why))
    ⊎ ((e : Tree) × Makes g (sets_of d.lemmas) d.main (term_of t) e × (e ≡ f.main → ⊥) × (fault ≡ EndDiffers (cap (length d.lemmas))))
    ⊎ (Makes g (sets_of d.lemmas) d.main (term_of t) f.main × (is_allowed allowed f ≡ false) × (fault ≡ DoLeft))

-- the first fault of the whole: lemmas, their number, main, interventions that are left
abbrev pub AcceptsNot : MixedGraph → List ℕ → PlainTarget → PlainFormula → PlainDerivation → CheckFault → Type 0
AcceptsNot g allowed t f d fault = DefinesNot g [] 0 d.lemmas f.defs fault ⊎ (Define g [] d.lemmas f.defs × EndsNot g allowed t f d fault)
