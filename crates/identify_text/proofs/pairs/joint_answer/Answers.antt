use Rattle.std.proofs.Common.{codes, ◌∙◌}
use Rattle.prob_expr.specs.Vocabulary.{term_of, target_view}
use Rattle.expr_text.specs.Vocabulary.{text_of}
use Rattle.identify_text.specs.PairLines.{hedge_answer}
use Rattle.identify_text.proofs.Lines.{last_behind}
use Rattle.identify_text.proofs.pairs.joint_answer.Goals as goal

pub returns : goal.returns
returns c =
    let names = c.args.names.now in
    last_behind (text_of names (term_of (target_view c.args.target.now))) (codes " not identified; ")
    (hedge_answer names c.args.x.bits c.args.y.bits c.args.h.now c.args.pair.now)
    _ _ _ _ c.in_ok-text.ensures c.in_ok-extend_from_slice.ensures.items (c.as_slice.ensures.value ∙ c.in_ok-joint.ensures)
    c.in_ok-extend_from_slice-2.ensures.items
