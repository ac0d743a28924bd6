use Rattle.std.proofs.Common.{List, ℕ, Option, IfOk, option_map, sym, subst}
use Rattle.std.specs.Borrow.{Bor}
use Rattle.replies.specs.Vocabulary.{told_of}
use Rattle.told.specs.Vocabulary.{plain_form, target_refusal, Tells}
use Rattle.implications_command.specs.Vocabulary.{IsForGraph, implications_telling}
use Rattle.causal_cli.specs.Commands.{request_of}
use Rattle.causal_cli.specs.declared.request.Request.TheVariants.{Implications}
use Rattle.causal_cli.proofs.request.list_implications.Goals as goal

pub returns-in_default : goal.returns-in_default
returns-in_default c =
    let seen = c.args.diagram.now.observed in
    c.replied.ensures (request_of (Implications c.args.asked)) c.args.diagram.now
    (subst (λ (k : Option (Bor (List ℕ))). IfOk c.pairs_reply.result (λ r. Tells implications_telling target_refusal
    (IsForGraph (option_map {T = Bor (List ℕ)} {U = List ℕ} (λ s. s.now) k) seen) (plain_form c.args.asked.format) seen.names r.outcome (told_of r)))
    (sym c.in_default.is) c.pairs_reply.ensures)

pub returns-in-Replied : goal.returns-in-Replied
returns-in-Replied c =
    let seen = c.args.diagram.now.observed in let reply = c.in-Replied.reply in
    subst (λ (k : Option (Bor (List ℕ))). Tells implications_telling target_refusal
    (IsForGraph (option_map {T = Bor (List ℕ)} {U = List ℕ} (λ s. s.now) k) seen) (plain_form c.args.asked.format) seen.names reply.outcome (told_of reply))
    (sym c.in-Some.is) ((rw c.in-Replied.is at c.in_ok-reply.ensures) c.in-Some.counts.now)
