use Rattle.std.proofs.Common.{◌≡◌, ◌++◌, OnOk, sym, ap, subst, ◌∙◌, arith, codes}
use Rattle.mixed_graph.specs.Vocabulary.{has}
use Rattle.mixed_graph.proofs.FirstMembers.{members-empty, members-some}
use Rattle.answer_text.specs.declared.signs.Sign.TheVariants.{Comma, Bar, Do}
use Rattle.answer_text.specs.Notations.{sign_text}
use Rattle.answer_text.specs.Texts.{names_in, names_behind, member_names}
use Rattle.answer_text.proofs.Lists.{given_alone, done_first, appended_five}
use Rattle.answer_text.proofs.push_conditions.Goals as goal

pub returns-then-is_empty : goal.returns-then-is_empty
returns-then-is_empty c =
    let none = members-empty c.args.doing.bits (c.is_empty.ensures.none.0 c.if-is_empty.true) in
    subst (λ t. OnOk c.push_behind.result (c.push_behind.new.out.items ≡ c.args.out.now.items ++ t))
    (sym (given_alone c.args.notation c.args.names.now (has c.args.doing.bits) (has c.args.given.bits) none)) c.push_behind.ensures

pub returns : goal.returns
returns c =
    let w = c.args.notation in let names = c.args.names.now in let doing = has c.args.doing.bits in let given = has c.args.given.bits in
    let some = members-some c.args.doing.bits (λ z. absurd (let t = c.is_empty.ensures.none.1 z in let f = c.if-is_empty.false in cc)) (omega arith) in
    appended_five c.args.out.now.items (sign_text w Bar) (sign_text w Do) (names_in w (member_names names doing)) (codes ")")
    (names_behind w Comma (member_names names given))
    c.in_ok-push_sign.ensures c.in_ok-push_sign-2.ensures c.in_ok-push_members.ensures c.in_ok-push.ensures.items c.in_ok-push_behind.ensures
    ∙ ap (λ t. c.args.out.now.items ++ t) (sym (done_first w names doing given some.0 some.1 some.2))
