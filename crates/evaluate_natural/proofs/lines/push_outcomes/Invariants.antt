use Rattle.std.proofs.Common.{length, slice_index}
use Rattle.mixed_graph.specs.Vocabulary.{has}
use Rattle.mixed_graph.proofs.MemberLists.{AreMembers}
use Rattle.evaluate_natural.specs.Lines.{outcome_text}
use Rattle.count_answers.proofs.Texts.{IsWriting}
use Rattle.evaluate_natural.proofs.lines.push_outcomes.Given as goal

abbrev pub invariant-members : goal.invariant-members
invariant-members l = record {
  are : AreMembers (has l.fn.set.bits) 64 l.rest;
  text : IsWriting (outcome_text l.names l.counts l.under (λ v. slice_index l.cell v)) l.initial.out.items l.out.items l.fn.set.bits l.rest;
}

abbrev pub decreases-members : goal.decreases-members
decreases-members l = length l.rest
