use Rattle.std.proofs.Common.{[], ◌∙◌}
use Rattle.mixed_graph.specs.Vocabulary.{has}
use Rattle.identify_text.proofs.Lines.{written_more, texts_none}
use Rattle.evaluate_command.specs.Lines.{pinned_line}
use Rattle.evaluate_command.proofs.lines.pinned_lines.Goals as goal

pub loop-v-init : goal.loop-v-init
loop-v-init c = c.new-text.ensures.items ∙ texts_none (pinned_line c.args.names.now c.args.counts.now) (has c.args.pinned.bits) []

pub loop-v-preserved : goal.loop-v-preserved
loop-v-preserved c =
    written_more (pinned_line c.args.names.now c.args.counts.now) (has c.args.pinned.bits) c.loop-v.v []
    c.loop-v.text.items _ c.loop-v.invariant c.in_ok-push_pinned.ensures
