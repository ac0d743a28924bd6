use Rattle.std.proofs.Common.{◌++◌, decimal, codes, ap, ◌∙◌}
use Rattle.answer_text.specs.Vocabulary.{set_text}
use Rattle.identify_text.specs.ModelLines.{weights_text}
use Rattle.identify_text.proofs.Lines.{five_written}
use Rattle.identify_text.proofs.models.push_cause.Goals as goal

pub returns : goal.returns
returns c = five_written (codes "cause ") (decimal c.args.j) (codes " on ") (set_text c.args.names.now c.args.cause.now.children.bits) (codes " with weights")
    (weights_text c.args.cause.now.weights.items) (codes "\n")
    c.args.out.now.items _ _ _ _ _ c.in_ok-push_number.ensures c.in_ok-push_set.ensures c.in_ok-extend_from_slice.ensures.items
    (c.in_ok-push_weights.ensures ∙ ap (λ w. c.extend_from_slice.new.self.items ++ weights_text w) c.as_slice.ensures.value) c.in_ok-push.ensures.items
