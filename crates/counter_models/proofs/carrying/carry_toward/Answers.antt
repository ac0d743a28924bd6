use Rattle.std.proofs.Common.{ℕ, Bool, ◌∙◌, ◌≡◌, ap, ◌&&◌, not, slice_index, subst}
use mathlib.Core.Path.{fun_ext}
use Rattle.mixed_graph.specs.Vocabulary.{has, graph_of}
use Rattle.hedge.specs.Vocabulary.{IsChoiceOf}
use Rattle.counter_models.specs.Kept.{free}
use Rattle.counter_models.proofs.Choosing.{are_kept}
use Rattle.counter_models.proofs.carrying.carry_toward.Goals as goal

pub returns : goal.returns
returns c =
    let free_is : has c.difference-free.result.bits ≡ free (graph_of c.args.g.now) c.args.x.bits =
    fun_ext (λ v. c.difference-free.ensures.members v ∙ ap (λ b. b && not (has c.args.x.bits v)) (c.below.ensures.members v)) in
    are_kept (graph_of c.args.g.now) c.args.g.now.valid c.args.g.now.small c.args.x.bits c.args.y.bits c.args.roots.bits c.requires.roots
    c.child_choice-choice.result.next
    (λ v lt. subst (λ (f : ℕ → Bool). IsChoiceOf (graph_of c.args.g.now) f (has c.args.y.bits) v (slice_index c.child_choice-choice.result.next v)) free_is
    (c.child_choice-choice.ensures v lt))
    c.followed-kept.result.bits c.followed-kept.ensures c.choices_of.result.next c.choices_of.ensures
