use Rattle.std.proofs.Common.{refl, ap, ◌∙◌}
use Rattle.paired_values.specs.Vocabulary.{pinned_in}
use Rattle.evaluate_natural.proofs.reply.over_table.Goals as goal

pub nested_values-requires : goal.nested_values-requires
nested_values-requires c = record { identified = c.requires.identified; counts = c.used-used.ensures.table; vertices = c.requires.read }

pub returns-in-Ok-clause-answer : goal.returns-in-Ok-clause-answer
returns-in-Ok-clause-answer c = record {
  asked = refl;
  second = c.in_ok-second.ensures;
  pinned = c.in_ok-pinned.ensures ∙ ap pinned_in c.paired.ensures;
  table = refl;
  values = c.in-Ok.ensures.values;
}

pub returns-in-Err-clause-fault : goal.returns-in-Err-clause-fault
returns-in-Err-clause-fault c = λ kept. (refl, refl, c.used-used.ensures.table, c.in-Err.ensures.fault kept)
