use Rattle.std.proofs.Common.{◌∙◌, ◌++◌, ◌∷◌, [], sym, ap}
use Rattle.std.proofs.lemmas.Bool.{not_from_true, not_from_false}
use Rattle.latent_projection.proofs.Numbering.{members-more, members-same}
use Rattle.hidden_models.specs.Reaching.{has_some}
use Rattle.hidden_models.proofs.ListLaws.{members-start}
use Rattle.hidden_models.proofs.Masks.{some_is}
use Rattle.hidden_models.proofs.reaching.reaching_causes.Goals as goal
use Rattle.hidden_models.proofs.reaching.reaching_causes.Goals.{then-not-is_empty+in_ok-push, else-not-is_empty}

pub loop-j-init : goal.loop-j-init
loop-j-init c = c.new-kept.ensures.items ∙ sym (members-start (has_some c.args.sets.now))

pub loop-j-preserved : goal.loop-j-preserved
loop-j-preserved c = elim c.if-not-is_empty.branch [
  | then-not-is_empty+in_ok-push w ↦ rw w.kept-is (w.in_ok-push.ensures.items ∙ ap (λ xs. xs ++ c.loop-j.j ∷ []) c.loop-j.invariant
      ∙ sym (members-more (has_some c.args.sets.now) c.loop-j.j (some_is c.args.sets.now c.loop-j.j c.is_empty.result c.is_empty.ensures.none
      ∙ not_from_false c.is_empty.result w.if-not-is_empty.true)))
  | else-not-is_empty w ↦ rw w.kept-is (c.loop-j.invariant ∙ sym (members-same (has_some c.args.sets.now) c.loop-j.j
      (some_is c.args.sets.now c.loop-j.j c.is_empty.result c.is_empty.ensures.none ∙ not_from_true c.is_empty.result w.if-not-is_empty.false)))
]
