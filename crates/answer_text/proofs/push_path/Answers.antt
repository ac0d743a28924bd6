use Rattle.std.proofs.Common.{◌+◌, ◌-◌, ◌++◌, ap, ◌∙◌, arith}
use Rattle.std.specs.Prelude.{slice_index}
use Rattle.mixed_graph.specs.Vocabulary.{name_of}
use Rattle.answer_text.specs.Printing.{printed}
use Rattle.answer_text.specs.Texts.{mark_text}
use Rattle.answer_text.proofs.Lists.{steps_more, path_done}
use Rattle.answer_text.proofs.push_path.Goals as goal

pub loop-i-preserved : goal.loop-i-preserved
loop-i-preserved c =
    c.in_ok-push_vertex-2.ensures
    ∙ ap (λ v. c.extend_from_slice.new.self.items ++ printed (name_of c.args.names.now v)) c.vertex_at-in-loop-i.ensures
    ∙ ap (λ t. t ++ printed (name_of c.args.names.now (slice_index c.args.vertices.now (c.loop-i.i + 1))))
    (c.in_ok-extend_from_slice.ensures.items ∙ ap (λ t. c.loop-i.out.items ++ t) (c.mark_bytes.ensures ∙ ap mark_text c.mark_at.ensures))
    ∙ steps_more c.args.names.now c.args.vertices.now c.args.marks.now c.push_vertex.new.out.items c.loop-i.out.items c.loop-i.i c.loop-i.invariant

pub returns : goal.returns
returns c =
    path_done c.args.names.now c.args.vertices.now c.args.marks.now c.args.out.now.items c.push_vertex.new.out.items c.loop-i.out.items c.args.count
    (c.args.count - 1) c.loop-i.i c.vertex_at.result (omega arith) (omega arith) c.vertex_at.ensures c.in_ok-push_vertex.ensures c.loop-i.invariant
