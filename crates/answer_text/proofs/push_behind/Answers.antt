use Rattle.std.proofs.Common.{◌++◌, sym, ap, ◌∙◌, arith, append-nil}
use Rattle.mixed_graph.specs.Vocabulary.{has}
use Rattle.mixed_graph.proofs.FirstMembers.{members-empty, members-some}
use Rattle.answer_text.specs.Notations.{sign_text}
use Rattle.answer_text.specs.Texts.{names_in, member_names}
use Rattle.answer_text.proofs.Lists.{none_behind, some_behind, appended_two}
use Rattle.answer_text.proofs.push_behind.Goals as goal

pub returns-then-is_empty : goal.returns-then-is_empty
returns-then-is_empty c =
    let e = none_behind c.args.notation c.args.sign c.args.names.now (has c.args.set.bits)
    (members-empty c.args.set.bits (c.is_empty.ensures.none.0 c.if-is_empty.true)) in
    sym (append-nil c.args.out.now.items) ∙ ap (λ t. c.args.out.now.items ++ t) (sym e)

pub returns : goal.returns
returns c =
    let some = members-some c.args.set.bits (λ z. absurd (let t = c.is_empty.ensures.none.1 z in let f = c.if-is_empty.false in cc)) (omega arith) in
    let e = some_behind c.args.notation c.args.sign c.args.names.now (has c.args.set.bits) some.0 some.1 some.2 in
    appended_two c.args.out.now.items (sign_text c.args.notation c.args.sign) (names_in c.args.notation (member_names c.args.names.now (has c.args.set.bits)))
    c.in_ok-push_sign.ensures c.in_ok-push_members.ensures
    ∙ ap (λ t. c.args.out.now.items ++ t) (sym e)
