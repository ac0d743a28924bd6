use Rattle.std.proofs.Common.{◌≡◌, ◌==◌, ℕ, true, List, length, arith}
use Rattle.mixed_graph.specs.Vocabulary.{MixedGraph, graph_of}
use Rattle.implications.specs.declared.pairs.Implication.{Implication}
use Rattle.implications.specs.Vocabulary.{AreImplications, IsSeparable}
use Rattle.implications_command.proofs.listing.found_pairs.Goals as goal

-- a list that is found empty has no element
no_element : (n : ℕ) → true ≡ (n == 0) → n ≡ 0
no_element n is = grind (arith, is)

-- where no pair is listed, there is none
none_listed : (g : MixedGraph) (list : List Implication) → AreImplications g list → length list ≡ 0 → (a b : ℕ) → IsSeparable g a b → ⊥
none_listed g list are none a b s = (let there = are.all a b s in let lt = there.2 in omega (arith, lt, none))

pub returns-then-is_empty-clause-none : goal.returns-then-is_empty-clause-none
returns-then-is_empty-clause-none c =
    let empty = no_element _ c.if-is_empty.ensures in
    record {
      none = none_listed (graph_of c.args.seen.now.graph) c.in_ok-list.list.items c.in_ok-list.ensures.implications (omega (arith, empty));
      dependent = λ a b i. (let there = c.in_ok-list.ensures.complete a b i in let lt = there.2 in omega (arith, lt, empty));
    }
