-- The plain trees of the code's steps and derivations.
use Rattle.std.specs.Prelude.{ℕ, List, map, take}
use Rattle.std.specs.Global.{Vec}
use Rattle.mixed_graph.specs.declared.lists.Order.{Order}
use Rattle.do_derivation.specs.Plans.{Move, Plan, Plans, plans_of, PlainLemma, PlainDerivation}
use Rattle.do_derivation.specs.declared.moves.Move as made
use Rattle.do_derivation.specs.declared.moves.Move.TheVariants as moves
use Rattle.do_derivation.specs.declared.steps.Lemma.{Lemma}
use Rattle.do_derivation.specs.declared.steps.Derivation.{Derivation}
use Rattle.do_derivation.specs.declared.steps.Step.{Step, fold-Step}
use Rattle.do_derivation.specs.declared.steps.Step.TheOpen.{Step-F}

-- the vertices of an order
abbrev pub listed : Order → List ℕ
listed o = take o.count o.list

-- the numbers of each group
abbrev pub numbers_of : List (Vec ℕ) → List (List ℕ)
numbers_of groups = map (λ (numbers : Vec ℕ). numbers.items) groups

-- the plain move
abbrev pub move_view : made.Move → Move
move_view (moves.WithSet kind z) = Move.WithSet kind z.bits
move_view (moves.Bare kind) = Move.Bare kind
move_view (moves.Chain o) = Move.Chain (listed o)
move_view (moves.Group l) = Move.Group (numbers_of l.items)
move_view (moves.Cite k) = Move.Cite k

-- the plan of a step whose inner steps have theirs
abbrev pub node_view : Step-F Plan → Plan
node_view (Step-F.Make m) = Plan.Make (move_view m)
node_view (Step-F.At i s) = Plan.At i s.value
node_view (Step-F.Then l) = Plan.Then (plans_of l.items)

-- the plain tree of a step
abbrev pub step_view : Step → Plan
step_view = fold-Step Plan node_view

-- those of several steps
abbrev pub steps_view : List Step → Plans
steps_view l = plans_of (map step_view l)

-- the plain lemma
abbrev pub lemma_view : Lemma → PlainLemma
lemma_view l = record { set = l.set.bits; plan = step_view l.step }

-- the plain derivation
abbrev pub derivation_view : Derivation → PlainDerivation
derivation_view d = record { lemmas = map lemma_view d.lemmas.items; main = step_view d.main }
