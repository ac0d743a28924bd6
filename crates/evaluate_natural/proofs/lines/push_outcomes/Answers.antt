use Rattle.std.proofs.Common.{◌++◌, length, sym, ap, ◌∙◌, arith, subst, slice_index}
use Rattle.mixed_graph.specs.Vocabulary.{has}
use Rattle.mixed_graph.proofs.MemberLists.{AreMembers, members-are}
use Rattle.answer_text.specs.Vocabulary.{comma_before}
use Rattle.evaluate_natural.specs.Lines.{outcome_text}
use Rattle.count_answers.proofs.Texts.{IsWriting, writing_begun, writing_more, writing_done}
use Rattle.evaluate_natural.proofs.lines.push_outcomes.Goals as goal

pub members-init : goal.members-init
members-init c = record {
  are = subst (AreMembers (has c.args.set.bits) 64) (sym c.iter-rest.ensures) (members-are (has c.args.set.bits) 64);
  text = writing_begun (outcome_text c.args.names.now c.args.counts.now c.args.under.now (λ v. slice_index c.args.cell.now v)) c.args.out.now.items c.args.set.bits
      c.iter-rest.result c.iter-rest.ensures;
}

pub members-smaller : goal.members-smaller
members-smaller c = let e = ap length c.in-Some.ensures.steps in omega (arith, e)

pub members-preserved : goal.members-preserved
members-preserved c =
    let first = c.in-Some.ensures.steps in
    let are = subst (AreMembers (has c.args.set.bits) 64) first c.members.invariant.are in
    let f = outcome_text c.args.names.now c.args.counts.now c.args.under.now (λ v. slice_index c.args.cell.now v) in
    record {
      are = are.3;
      text = subst (λ t. IsWriting f c.args.out.now.items t c.args.set.bits c.next.new.self)
          (sym (c.in_ok-extend_from_slice.ensures.items ∙ ap (λ t. c.push_outcome.new.out.items ++ t) c.separator.ensures
          ∙ ap (λ t. t ++ comma_before c.next.new.self) (c.in_ok-push_outcome.ensures
          ∙ ap (λ k. c.members.out.items ++ outcome_text c.args.names.now c.args.counts.now c.args.under.now (λ v. k) c.in-Some.v) c.number_at.ensures)))
          (writing_more f c.args.out.now.items c.members.out.items c.args.set.bits c.in-Some.v c.members.rest c.next.new.self first
          c.members.invariant.text);
    }

pub returns : goal.returns
returns c = writing_done (outcome_text c.args.names.now c.args.counts.now c.args.under.now (λ v. slice_index c.args.cell.now v))
    c.args.out.now.items c.members.out.items c.args.set.bits c.members.rest c.in_default.ensures.steps.0 c.members.invariant.text
