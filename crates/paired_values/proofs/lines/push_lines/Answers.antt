use Rattle.std.proofs.Common.{◌≡◌, ◌∙◌, ◌++◌, ◌+◌, ℕ, List, drop, sym, ap, append_assoc, append-nil, arith}
use Rattle.std.proofs.Math.ListN.{drop_of_length-le}
use Rattle.std.proofs.lemmas.List.{at_drop_more}
use Rattle.primed_names.specs.Vocabulary.{primed_names}
use Rattle.evaluate_command.specs.Vocabulary.{plain_of}
use Rattle.evaluate_command.specs.declared.answer.Valued.{Valued}
use Rattle.paired_values.specs.Lines.{cells_text, value_line}
use Rattle.paired_values.proofs.lines.push_lines.Goals as goal

pub loop-valued-preserved : goal.loop-valued-preserved
loop-valued-preserved g c =
    let effect = g.A.ShownAtCells.effect c.args.answer.now c.args.names.now in let values = c.args.values.now in
    let i = c.loop-valued.valued-index in let v = c.valued-item.result in let out = c.loop-valued.out.items in
    let text : List (Valued g.row.Q.Denot) → List ℕ = λ vs. cells_text g.Q.Quantity.numbers g.Q.Quantity.kind g.Q.Shown.IS_EXACT effect vs in
    let line : Valued g.row.Q.Denot → List ℕ = λ u. value_line g.Q.Quantity.kind g.Q.Shown.IS_EXACT effect (plain_of g.Q.Quantity.numbers u) in
    let later = drop (i + 1) values in
    let left : text (drop i values) ≡ line v ++ text later =
    at_drop_more text values i v c.loop-valued-test.true ∙ ap (λ (u : Valued g.row.Q.Denot). line u ++ text later) (sym c.valued-item.is) in
    ap (λ (t : List ℕ). t ++ text later) (c.in_ok-push_line.ensures (c.in_ok-all.ensures ∙ ap (primed_names c.args.names.now) c.treatment.ensures))
    ∙ append_assoc out (line v) (text later) ∙ ap (λ (t : List ℕ). out ++ t) (sym left) ∙ c.loop-valued.invariant

pub returns : goal.returns
returns g c =
    let effect = g.A.ShownAtCells.effect c.args.answer.now c.args.names.now in let values = c.args.values.now in let out = c.loop-valued.out.items in
    let text : List (Valued g.row.Q.Denot) → List ℕ = λ vs. cells_text g.Q.Quantity.numbers g.Q.Quantity.kind g.Q.Shown.IS_EXACT effect vs in
    sym (append-nil out)
    ∙ ap (λ (vs : List (Valued g.row.Q.Denot)). out ++ text vs) (sym (drop_of_length-le values (omega (arith, c.loop-valued-test.false))))
    ∙ c.loop-valued.invariant
