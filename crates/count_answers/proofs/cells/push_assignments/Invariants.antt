use Rattle.std.proofs.Common.{length, slice_index}
use Rattle.mixed_graph.specs.Vocabulary.{has}
use Rattle.mixed_graph.proofs.MemberLists.{AreMembers}
use Rattle.count_answers.specs.Lines.{assignment}
use Rattle.count_answers.proofs.Texts.{IsWriting}
use Rattle.count_answers.proofs.cells.push_assignments.Given as goal

abbrev pub invariant-members : goal.invariant-members
invariant-members l = record {
  are : AreMembers (has l.fn.set.bits) 64 l.rest;
  text : IsWriting (assignment l.names l.counts (λ v. slice_index l.cell v)) l.initial.out.items l.out.items l.fn.set.bits l.rest;
}

abbrev pub decreases-members : goal.decreases-members
decreases-members l = length l.rest
