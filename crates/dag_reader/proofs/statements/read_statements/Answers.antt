use Rattle.std.proofs.Common.{◌∙◌, refl, sym, Err}
use Rattle.std.proofs.lemmas.Result.{err_from_is_err_and}
use Rattle.dag_reader.specs.SaidView.{said_by}
use Rattle.dag_reader.proofs.TokenSteps.{one_more, last_one, end_ends, step_failed, nothing_taken, change_failed}
use Rattle.dag_reader.proofs.LinkSteps.{link_more, link_stops}
use Rattle.dag_reader.proofs.statements.read_statements.Goals as goal

pub returns-in_err-link-in-Some : goal.returns-in_err-link-in-Some
returns-in_err-link-in-Some c =
    let p = err_from_is_err_and c.from_residual.result c.from_residual.ensures.1 in
    change_failed c.args.text.now _ c.in_err-link-in-Some.field-0.0 c.from_residual.result c.in_err-link-in-Some.ensures
    (λ f stops. nothing_taken c.args.text.now _ _ _ _ _ _ (sym c.in-Some.ensures.not_due) refl c.turns.invariant.all (Err f)
    (link_stops _ _ _ _ _ _ _ _ f c.in-Some.ensures.place c.in-Some.ensures.link stops))
    (rw (p.1, p.2) refl)

pub turns-preserved-in-Some : goal.turns-preserved-in-Some
turns-preserved-in-Some c = record {
  size = c.next_link.ensures.size ∙ c.turns.invariant.size;
  all = λ r more. nothing_taken c.args.text.now _ _ _ _ _ _ (sym c.in-Some.ensures.not_due) refl c.turns.invariant.all r
      (link_more _ _ _ _ _ _ _ _ _ r c.in-Some.ensures.place c.in-Some.ensures.link c.in_ok-link-in-Some.ensures
      (rw (c.next_link.ensures.due ∙ c.in-Some.ensures.not_due) at more));
}

pub returns-in_err-after-in-None : goal.returns-in_err-after-in-None
returns-in_err-after-in-None c =
    let p = err_from_is_err_and c.from_residual-in_err-after-in-None.result c.from_residual-in_err-after-in-None.ensures.1 in
    let size = c.next_link.ensures.size ∙ c.turns.invariant.size in
    step_failed c.args.text.now _ _ (said_by c.step.new.self) _ _ c.in_err-after-in-None.field-0.0 c.from_residual-in_err-after-in-None.result
    c.in_err-after-in-None.ensures
    (λ v stops. nothing_taken c.args.text.now _ _ _ _ _ _ c.next_link.ensures.due c.in-None.ensures.none c.turns.invariant.all v
    (last_one _ _ _ _ _ _ _ _ v (rw size at c.next-at.ensures.place) c.next-at.ensures.token stops))
    (rw (p.1, p.2) refl)

pub turns-smaller : goal.turns-smaller
turns-smaller c =
    rw (sym c.in-None.ensures.none) (c.next-at.ensures.shorter (end_ends _ _ _ _ _ _ (rw c.in-Some-2.is at c.in_ok-after-in-None.ensures)))

pub turns-preserved : goal.turns-preserved
turns-preserved c =
    let size = c.next_link.ensures.size ∙ c.turns.invariant.size in
    record {
      size = c.next-at.ensures.size ∙ size;
      all = λ r more. nothing_taken c.args.text.now _ _ _ _ _ _ c.next_link.ensures.due c.in-None.ensures.none c.turns.invariant.all r
          (one_more _ _ _ _ _ _ _ _ _ _ r (rw size at c.next-at.ensures.place) c.next-at.ensures.token (rw c.in-Some-2.is at c.in_ok-after-in-None.ensures)
          (rw c.next-at.ensures.due at more));
    }

pub returns-in-None-2 : goal.returns-in-None-2
returns-in-None-2 c =
    let size = c.next_link.ensures.size ∙ c.turns.invariant.size in
    nothing_taken c.args.text.now _ _ _ _ _ _ c.next_link.ensures.due c.in-None.ensures.none c.turns.invariant.all _
    (last_one _ _ _ _ _ _ _ _ _ (rw size at c.next-at.ensures.place) c.next-at.ensures.token (rw c.in-None-2.is at c.in_ok-after-in-None.ensures))
