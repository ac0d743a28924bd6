use Rattle.std.proofs.Common.{◌∙◌, ◌++◌, ◌∷◌, [], not, sym, ap}
use Rattle.std.proofs.lemmas.Bool.{not_from_true, not_from_false}
use Rattle.mixed_graph.specs.Vocabulary.{has}
use Rattle.latent_projection.proofs.Numbering.{members-more, members-same}
use Rattle.hidden_models.proofs.ListLaws.{members-start}
use Rattle.hidden_models.proofs.reaching.observed_vertices.Goals as goal
use Rattle.hidden_models.proofs.reaching.observed_vertices.Goals.{then-not-has+in_ok-push, else-not-has}

pub loop-v-init : goal.loop-v-init
loop-v-init c = c.new-kept.ensures.items ∙ sym (members-start (λ v. not (has c.args.latent.bits v)))

pub loop-v-preserved : goal.loop-v-preserved
loop-v-preserved c = elim c.if-not-has.branch [
  | then-not-has+in_ok-push w ↦ rw w.kept-is (w.in_ok-push.ensures.items ∙ ap (λ xs. xs ++ c.loop-v.v ∷ []) c.loop-v.invariant
      ∙ sym (members-more (λ v. not (has c.args.latent.bits v)) c.loop-v.v
      (not_from_false (has c.args.latent.bits c.loop-v.v) (sym c.has.ensures ∙ w.if-not-has.true))))
  | else-not-has w ↦ rw w.kept-is (c.loop-v.invariant ∙ sym (members-same (λ v. not (has c.args.latent.bits v)) c.loop-v.v
      (not_from_true (has c.args.latent.bits c.loop-v.v) (sym c.has.ensures ∙ w.if-not-has.false))))
]
