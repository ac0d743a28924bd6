use Rattle.std.proofs.Common.{[], ◌∷◌}
use Rattle.std.specs.Prelude.{codes}
use Rattle.mixed_graph.specs.Vocabulary.{name_of}
use Rattle.answer_text.specs.Vocabulary.{printed}
use Rattle.adjust_command.proofs.Lists.{three_written}
use Rattle.adjust_command.proofs.texts.push_forbidden.Goals as goal

pub returns : goal.returns
returns c = three_written (codes "forbidden: ") (printed (name_of c.args.names.now c.args.v)) (10 ∷ []) c.args.out.now.items _ _ _
    c.in_ok-extend_from_slice.ensures.items c.in_ok-push_vertex.ensures c.in_ok-push.ensures.items
