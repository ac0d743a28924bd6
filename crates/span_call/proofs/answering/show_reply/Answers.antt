use Rattle.std.proofs.Common.{◌≤◌, sym, subst, lit≤}
use Rattle.replies.specs.declared.outcome.Outcome.{Outcome}
use Rattle.replies.specs.declared.outcome.Outcome.TheVariants.{Yes}
use Rattle.replies.specs.Vocabulary.{code_of}
use Rattle.span_call.specs.Rooms.{ShowsText}
use Rattle.span_call.proofs.answering.show_reply.Goals as goal

-- statuses of replies end at 8
small_code : (o : Outcome) → code_of o ≤ 8
small_code Yes = lit≤ tt
small_code o = lit≤ tt

pub returns-clause-known : goal.returns-clause-known
returns-clause-known c = subst (λ k. k ≤ 8) (sym c.code.ensures) (small_code c.args.ready.now.reply.outcome)

pub returns-clause-out : goal.returns-clause-out
returns-clause-out c = subst (λ t. ShowsText t c.args.out.now c.show_both.new.out c.show_both.result.out) c.shown-answer.ensures c.show_both.ensures.out

pub returns-clause-err : goal.returns-clause-err
returns-clause-err c = subst (λ t. ShowsText t c.args.err.now c.show_both.new.err c.show_both.result.err) c.line_in.ensures c.show_both.ensures.err
