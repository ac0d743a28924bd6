use Rattle.std.proofs.Common.{◌≡◌, sym, ap, ◌∙◌}
use Rattle.mixed_graph.specs.Vocabulary.{minus, common}
use Rattle.do_derivation.specs.declared.steps.Step.{Make}
use Rattle.do_derivation.specs.declared.moves.Move.TheVariants.{WithSet}
use Rattle.do_derivation.specs.Vocabulary.{no_plans, step_view}
use Rattle.do_derivation.specs.declared.moves.SetMove.TheVariants as set_move
use Rattle.identification_theory.specs.Vocabulary.{with_set}
use Rattle.identify.specs.Lists.{onto}
use Rattle.identify.proofs.Steps.{onto_nothing, onto_with}
use Rattle.identify.proofs.StepLists.{home_is}
use Rattle.identify.proofs.homes.home_list.Goals as goal

pub returns : goal.returns
returns c =
    let d = c.args.d.bits in
    let t = c.args.t.bits in
    let e = c.difference-earlier.result in
    let f = c.difference-later.result in
    let early : e.bits ≡ minus (common d c.args.before.bits) t = c.difference-earlier.ensures.mask ∙ ap (λ z. minus z t) c.intersection.ensures.mask in
    let late : f.bits ≡ minus (minus d t) (minus (common d c.args.before.bits) t) = c.difference-later.ensures.mask
    ∙ ap (λ z. minus z e.bits) c.difference.ensures.mask ∙ ap (minus (minus d t)) early in
    sym (onto_nothing c.push_with-2.new.out.items) ∙ onto_with c.push_with-2.new.out.items c.push_with.new.out.items f.bits (Make (WithSet set_move.Rule3In f))
    c.in_ok-push_with-2.ensures no_plans
    ∙ onto_with c.push_with.new.out.items c.new-out.result.items e.bits (Make (WithSet set_move.Rule2Do e)) c.in_ok-push_with.ensures (with_set f.bits (step_view (Make (WithSet set_move.Rule3In f))) no_plans)
    ∙ ap (λ l. onto l (with_set e.bits (step_view (Make (WithSet set_move.Rule2Do e))) (with_set f.bits (step_view (Make (WithSet set_move.Rule3In f))) no_plans))) c.new-out.ensures.items
    ∙ home_is d t c.args.before.bits e f early late
