use Rattle.std.proofs.Common.{◌≡◌, true, false, sym, ap, ◌∙◌}
use Rattle.mixed_graph.specs.Vocabulary.{minus, all, is_empty}
use Rattle.do_derivation.specs.Plans.{plan}
use Rattle.do_derivation.specs.declared.steps.Step.{Make}
use Rattle.do_derivation.specs.declared.moves.Move.TheVariants.{WithSet}
use Rattle.do_derivation.specs.Vocabulary.{no_plans, step_view, steps_view}
use Rattle.do_derivation.specs.declared.moves.SetMove.TheVariants as set_move
use Rattle.identification_theory.specs.Vocabulary.{with_set, at_place}
use Rattle.identify.specs.Lists.{onto}
use Rattle.identify.proofs.Steps.{onto_nothing, onto_append, onto_more, onto_with}
use Rattle.identify.proofs.StepLists.{main_flat, main_wide}
use Rattle.identify.proofs.mains.main_steps.Goals as goal

pub returns-then-is_empty : goal.returns-then-is_empty
returns-then-is_empty c =
    let o = c.difference-others.result in
    let f = c.difference-further.result in
    let rest = steps_view c.args.rest.items in
    let set : o.bits ≡ minus (minus (all c.args.n) c.args.x.bits) c.args.d.bits =
    c.difference-others.ensures.mask ∙ ap (λ z. minus z c.args.d.bits) (c.difference.ensures.mask ∙ ap (λ z. minus z c.args.x.bits) c.below.ensures.mask) in
    let none : is_empty f.bits ≡ true = sym c.is_empty.ensures.mask ∙ c.if-is_empty.true in
    sym (onto_nothing c.append.new.self.items) ∙ ap (λ l. onto l no_plans) c.in_ok-append.ensures.items
    ∙ onto_append c.push_with.new.out.items c.args.rest.items no_plans ∙ ap (onto c.push_with.new.out.items) (onto_nothing c.args.rest.items)
    ∙ onto_with c.push_with.new.out.items c.new-out.result.items o.bits (Make (WithSet set_move.Rule3In o)) c.in_ok-push_with.ensures rest
    ∙ ap (λ l. onto l (with_set o.bits (step_view (Make (WithSet set_move.Rule3In o))) rest)) c.new-out.ensures.items
    ∙ main_flat c.args.n c.args.x.bits c.args.y.bits c.args.d.bits o f rest set c.difference-further.ensures.mask none

pub returns : goal.returns
returns c =
    let o = c.difference-others.result in
    let f = c.difference-further.result in
    let rest = steps_view c.args.rest.items in
    let inner = at_place 0 rest no_plans in
    let set : o.bits ≡ minus (minus (all c.args.n) c.args.x.bits) c.args.d.bits =
    c.difference-others.ensures.mask ∙ ap (λ z. minus z c.args.d.bits) (c.difference.ensures.mask ∙ ap (λ z. minus z c.args.x.bits) c.below.ensures.mask) in
    let some : is_empty f.bits ≡ false = sym c.is_empty.ensures.mask ∙ c.if-is_empty.false in
    sym (onto_nothing c.push_at.new.out.items) ∙ c.in_ok-push_at.ensures no_plans
    ∙ ap (λ l. onto l inner) c.in_ok-push.ensures.items ∙ onto_more c.push_with.new.out.items (Make (WithSet set_move.Widen f)) inner
    ∙ onto_with c.push_with.new.out.items c.new-out.result.items o.bits (Make (WithSet set_move.Rule3In o)) c.in_ok-push_with.ensures (plan (step_view (Make (WithSet set_move.Widen f))) inner)
    ∙ ap (λ l. onto l (with_set o.bits (step_view (Make (WithSet set_move.Rule3In o))) (plan (step_view (Make (WithSet set_move.Widen f))) inner))) c.new-out.ensures.items
    ∙ main_wide c.args.n c.args.x.bits c.args.y.bits c.args.d.bits o f rest set c.difference-further.ensures.mask some
