use Rattle.std.proofs.Common.{length}
use Rattle.mixed_graph.specs.Vocabulary.{has}
use Rattle.mixed_graph.proofs.MemberLists.{AreMembers}
use Rattle.adjust_command.proofs.NameLists.{IsWriting}
use Rattle.adjust_command.proofs.set_lines.push_members.Given as goal

abbrev pub invariant-members : goal.invariant-members
invariant-members l = record {
  are : AreMembers (has l.fn.set.bits) 64 l.rest;
  text : IsWriting l.known.names.now l.initial.out.items l.out.items l.fn.set.bits l.rest;
}

abbrev pub decreases-members : goal.decreases-members
decreases-members l = length l.rest
