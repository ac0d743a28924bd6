use Rattle.std.proofs.Common.{◌<◌, length, subst, sym}
use Rattle.evaluate_treated.specs.Requests as among_requests
use Rattle.evaluate_natural.specs.Requests as nested_requests
use Rattle.causal_cli.specs.Commands.{request_of}
use Rattle.causal_cli.specs.Inputs.{AreInputsOf}
use Rattle.causal_cli.specs.declared.request.Request.{Request}
use Rattle.causal_cli.proofs.LongCounts.{told_among, told_nested}
use Rattle.causal_cli.proofs.inputs.inputs_of_request.Goals as goal

pub returns-in-EvaluateTreated : goal.returns-in-EvaluateTreated
returns-in-EvaluateTreated c =
    let two = c.two-in-EvaluateTreated in
    subst (λ (r : Request). AreInputsOf (request_of r) record { file = two.result.file; second = two.result.second; most = two.result.most })
    (sym c.in-EvaluateTreated.is) (record {
      file = two.ensures.file;
      second = two.ensures.second;
      enough = λ d a b long other_long o told h. told_among a b (subst (λ m. m < length a) two.ensures.most long)
          (subst (λ m. m < length b) two.ensures.most other_long) (among_requests.request_of c.in-EvaluateTreated.asked) d o told h;
    })

pub returns-in-EvaluateNatural : goal.returns-in-EvaluateNatural
returns-in-EvaluateNatural c =
    let two = c.two-in-EvaluateNatural in
    subst (λ (r : Request). AreInputsOf (request_of r) record { file = two.result.file; second = two.result.second; most = two.result.most })
    (sym c.in-EvaluateNatural.is) (record {
      file = two.ensures.file;
      second = two.ensures.second;
      enough = λ d a b long other_long o told h. told_nested a b (subst (λ m. m < length a) two.ensures.most long)
          (subst (λ m. m < length b) two.ensures.most other_long) (nested_requests.request_of c.in-EvaluateNatural.asked) d o told h;
    })
