use Rattle.std.proofs.Common.{◌||◌, ap, ap₂, ◌∙◌}
use mathlib.Core.Path.{fun_ext}
use Rattle.mixed_graph.specs.Vocabulary.{has}
use Rattle.implied_differences.proofs.sets.vertices_of.Goals as goal

pub returns : goal.returns
returns c =
    let given = has c.args.i.now.given.bits in
    fun_ext (λ v. c.union.ensures.members v ∙ ap₂ (λ x y. x || y) (c.one-2.ensures.members v)
    (c.union-second.ensures.members v ∙ ap (λ x. x || given v) (c.one.ensures.members v)))
