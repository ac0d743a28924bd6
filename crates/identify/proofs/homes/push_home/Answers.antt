use Rattle.std.proofs.Common.{◌≡◌, true, cond, sym, ap, ◌∙◌, arith}
use Rattle.mixed_graph.specs.Vocabulary.{has}
use Rattle.hedge.specs.Vocabulary.{first_masks}
use Rattle.identification_theory.specs.Vocabulary.{more, home, home_list}
use Rattle.identify.specs.Lists.{lists_onto}
use Rattle.identify.proofs.Steps.{lists_more}
use Rattle.identify.proofs.homes.push_home.Goals as goal

pub returns-clause-list : goal.returns-clause-list
returns-clause-list c = λ rest.
    let ts = first_masks c.args.parts.now.sets c.args.parts.now.count in
    let d = c.args.d.bits in
    let old = c.args.out.now.items in
    let here : has d c.args.v ≡ true = sym c.has.ensures ∙ grind (arith, c.if-not-has.false) in
    ap (λ l. lists_onto l rest) c.in_ok-push.ensures.items ∙ lists_more old c.in_ok-home_list.field-0 rest
    ∙ ap (λ s. lists_onto old (more s rest)) (c.in_ok-home_list.ensures ∙ ap (λ z. home_list d z c.args.before.bits) c.home.ensures)
    ∙ ap (λ b. lists_onto old (cond b (more (home_list d (home ts c.args.v) c.args.before.bits) rest) rest)) (sym here)
