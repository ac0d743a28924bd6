use Rattle.std.proofs.Common.{sym}
use Rattle.mixed_graph.specs.Vocabulary.{has}
use Rattle.adjust_command.proofs.NameLists.{bare_more}
use Rattle.adjust_command.proofs.set_lines.BareNames.with.Goals as goal

pub invariant_of-result : goal.invariant_of-result
invariant_of-result c = record {
  are_bare = bare_more c.args.self.names.now (has c.args.self.bare.bits) (has c.one.result.bits) (has c.union.result.bits) c.args.v c.name.result.now
      c.name.ensures (sym c.if-not-is_plain.ensures) c.union.ensures.members c.one.ensures.members c.args.self.are_bare;
}
