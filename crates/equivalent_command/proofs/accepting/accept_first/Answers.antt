use Rattle.std.proofs.Common.{Option, Some, None, Err, IfOk, option_map, sym, subst}
use Rattle.targets.specs.Vocabulary.{Lists, AreSets, IsTargetFault, OrMemory}
use Rattle.targets.proofs.Faults.{not_memory}
use Rattle.equivalent_command.specs.Requests.{query_of}
use Rattle.equivalent_command.specs.Queries.{lists_on, IsListsFault}
use Rattle.equivalent_command.specs.Firsts.{IsAcceptance}
use Rattle.equivalent_command.specs.Right.{listed}
use Rattle.equivalent_command.specs.declared.request.Query.{Query}
use Rattle.equivalent_command.proofs.Queries.{lent_query}
use Rattle.equivalent_command.proofs.accepting.accept_first.Goals as goal

pub returns-in_default : goal.returns-in_default
returns-in_default c = subst (λ (q : Option Query). IfOk c.accept_sets.result (IsAcceptance c.args.diagram.now (option_map query_of q)))
    (sym c.in_default.is) (c.accept_sets.ensures None tt)

pub returns-in-Ok : goal.returns-in-Ok
returns-in-Ok c =
    let d = c.args.diagram.now in let q = c.in-Some.lists in let s = c.in-Ok.sets in
    let same = lent_query d q _ _ _ c.as_slice-x.ensures.value c.as_slice-y.ensures.value c.as_slice-given.ensures.value in
    subst (λ (q : Option Query). IfOk c.accept_sets-in-Ok.result (IsAcceptance d (option_map query_of q))) (sym c.in-Some.is)
    (c.accept_sets-in-Ok.ensures (Some (query_of q)) (subst (λ (l : Lists). AreSets l s.x.bits s.y.bits s.given.bits) same c.in-Ok.ensures.sets))

pub returns-in_ok-refuse-in-Err : goal.returns-in_ok-refuse-in-Err
returns-in_ok-refuse-in-Err c =
    let d = c.args.diagram.now in let q = c.in-Some.lists in let f = c.in-Err.fault in
    let same = lent_query d q _ _ _ c.as_slice-x.ensures.value c.as_slice-y.ensures.value c.as_slice-given.ensures.value in
    λ form. record {
      answer = Err f;
      right = listed (subst (λ (q : Option Query). IsListsFault d (option_map query_of q) f) (sym c.in-Some.is)
          (not_memory (IsTargetFault (lists_on d (query_of q))) f c.in_ok-refuse-in-Err.ensures.fault
          (subst (λ (l : Lists). OrMemory (IsTargetFault l) f) same c.in-Err.ensures.fault)));
      ends = c.in_ok-refuse-in-Err.ensures.outcome;
      prints = c.in_ok-refuse-in-Err.ensures.told;
    }
