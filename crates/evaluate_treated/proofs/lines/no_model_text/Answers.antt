use Rattle.std.proofs.Common.{◌∙◌, ◌++◌, ℕ, List, ap, codes}
use Rattle.count_eval.specs.Vocabulary.{cell_of}
use Rattle.evaluate_treated.specs.Lines.{joint_text, shown_text}
use Rattle.evaluate_treated.proofs.Pieces.{five}
use Rattle.evaluate_treated.proofs.lines.no_model_text.Goals as goal

pub returns : goal.returns
returns c =
    let names = c.args.names.now in let a = c.args.none.now.asked in let t = c.args.none.now.counts in
    five c.new-text.result.items (codes "no model of this diagram has these counts\n") (joint_text names a t (cell_of c.args.none.now.cell.items))
    (codes " is less than ") (shown_text names a t (cell_of c.args.none.now.cell.items)) (codes "\n") _ _ _ _ _
    c.new-text.ensures.items c.in_ok-extend_from_slice.ensures.items
    (c.in_ok-push_joint.ensures ∙ ap (λ (s : List ℕ). c.extend_from_slice.new.self.items ++ joint_text names a t (cell_of s)) c.as_slice-cell.ensures.value)
    c.in_ok-extend_from_slice-2.ensures.items
    (c.in_ok-push_shown.ensures ∙ ap (λ (s : List ℕ). c.extend_from_slice-2.new.self.items ++ shown_text names a t (cell_of s)) c.as_slice-cell.ensures.value)
    c.in_ok-extend_from_slice-3.ensures.items
