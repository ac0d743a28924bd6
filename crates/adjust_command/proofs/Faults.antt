-- From an answer for sets, or their fault, to that for the lists that name them.
use Rattle.std.proofs.Common.{Result, Ok, Err, IfOk, IfErr, inl, inr}
use Rattle.mixed_graph.specs.Vocabulary.{MixedGraph}
use Rattle.targets.specs.declared.query.Sets.{Sets}
use Rattle.targets.specs.declared.fault.TargetFault.{TargetFault}
use Rattle.targets.specs.declared.fault.TargetFault.TheVariants.{NoMemory}
use Rattle.targets.specs.Vocabulary.{Lists, AreSets, IsTargetFault, OrMemory}
use Rattle.adjust_command.specs.Queries.{Query}
use Rattle.adjust_command.specs.Right.{Decides, IsNotDecided, IsForLists, IsAdjustFault}
use Rattle.adjust_command.specs.declared.answer.Answer.{Answer}

-- what follows of each fault follows where want of memory may stand in its place
or_memory : (P Q : TargetFault → Type 0) → ((f : TargetFault) → P f → Q f) → (f : TargetFault) → OrMemory P f → OrMemory Q f
or_memory P Q g NoMemory h = tt
or_memory P Q g f h = g f h

-- a fault of lists is one of the query
pub listed_fault : (query : Query) (l : Lists) (f : TargetFault) → OrMemory (IsTargetFault l) f → OrMemory (IsAdjustFault query l) f
listed_fault query l = or_memory (IsTargetFault l) (IsAdjustFault query l) (λ f h. inl h)

module _ (query : Query) (q : MixedGraph) (l : Lists) (s : Sets) (named : AreSets l s.x.bits s.y.bits s.given.bits) where
  pub answer_of_sets : (r : Result Answer TargetFault) → IfOk r (Decides query q s) → IfOk r (IsForLists query q l)
  answer_of_sets (Ok a) h = record { sets = s; named = named; decided = h }
  answer_of_sets (Err fault) h = h

  pub fault_of_sets : (r : Result Answer TargetFault) → IfErr r (OrMemory (IsNotDecided query s)) → IfErr r (OrMemory (IsAdjustFault query l))
  fault_of_sets (Ok a) h = h
  fault_of_sets (Err fault) h =
      or_memory (IsNotDecided query s) (IsAdjustFault query l) (λ f n. inr (record { sets = s; named = named; refused = n })) fault h
