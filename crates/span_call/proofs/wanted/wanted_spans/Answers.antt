use Rattle.std.proofs.Common.{Err, map, sym, ap, ◌∙◌, subst}
use Rattle.std.specs.Prelude.{string_bytes}
use Rattle.command_run.specs.Vocabulary.{Asks}
use Rattle.causal_cli.specs.Commands.{commands}
use Rattle.span_call.proofs.Telling.{telling}
use Rattle.span_call.proofs.wanted.wanted_spans.Goals as goal

pub returns-in-Err-clause-not_text : goal.returns-in-Err-clause-not_text
returns-in-Err-clause-not_text c = λ nine. (c.in-Err.ensures.end c.args.names.now c.args.names.now).not_text (sym c.silent.ensures.status ∙ nine)

pub returns-in-Ok-inputs_of-clause-told : goal.returns-in-Ok-inputs_of-clause-told
returns-in-Ok-inputs_of-clause-told c = λ zero.
    telling _ _ _ _ _ _ c.in-Ok-inputs_of.inputs (ap (map string_bytes) c.deref.ensures.value ∙ c.in-Ok.ensures.words) c.in-Ok-inputs_of.ensures.asks
    (c.told.ensures.told zero)

pub returns-clause-nothing : goal.returns-clause-nothing
returns-clause-nothing c = λ two q asks.
    c.in-Err-inputs_of.ensures.none (ap (λ f. Err f) (c.status_of.ensures.nothing (sym c.silent-in-Err-inputs_of.ensures.status ∙ two))) q
    (subst (λ ws. Asks commands ws q) (sym (ap (map string_bytes) c.deref.ensures.value ∙ c.in-Ok.ensures.words)) asks)
