use Rattle.std.proofs.Common.{true, ◌∙◌, [], ◌∷◌, ap, sym}
use Rattle.answer_json.specs.Vocabulary.{with_values}
use Rattle.answer_json.proofs.Arrays.{member_written, none_written}
use Rattle.separation_commands.specs.GraphObjects.{named_vertex_json}
use Rattle.separation_commands.proofs.graph.objects.push_vertices.Goals as goal

pub loop-v-init : goal.loop-v-init
loop-v-init c = none_written (named_vertex_json c.args.g.now) (λ _. true) c.args.object.now

pub loop-v-preserved : goal.loop-v-preserved
loop-v-preserved c =
    let f = named_vertex_json c.args.g.now in
    c.in_ok-push_vertex.ensures ∙ ap (with_values (f c.loop-v.v ∷ [])) c.loop-v.invariant ∙ sym (member_written f (λ _. true) c.loop-v.v c.args.object.now)
