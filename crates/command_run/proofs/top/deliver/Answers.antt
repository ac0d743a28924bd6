use Rattle.std.proofs.Common.{◌≡◌, length, refl, sym, ap, ◌∙◌, arith}
use Rattle.std.proofs.lemmas.List.{nil_from_length}
use Rattle.command_run.specs.Ends.{silent}
use Rattle.command_run.proofs.top.deliver.Goals as goal

pub returns-then-is_empty : goal.returns-then-is_empty
returns-then-is_empty g c =
    let empty : length c.shown.result.now ≡ 0 = grind (arith, c.if-is_empty.true, c.if-is_empty.ensures) in
    silent refl (sym c.shown.ensures ∙ nil_from_length c.shown.result.now empty) refl

pub write_reply-requires : goal.write_reply-requires
write_reply-requires g c = λ none.
    let empty : length c.shown.result.now ≡ 0 = ap length (c.shown.ensures ∙ none) in absurd (grind (arith, c.if-is_empty.false, c.if-is_empty.ensures, empty))
