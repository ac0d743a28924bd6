use Rattle.bound_values.proofs.found.bounds_over.Goals as goal

pub found_in-requires-clause-scope : goal.found_in-requires-clause-scope
found_in-requires-clause-scope c = record {
  table = c.used-used.ensures.table;
  same = c.in-Ok.ensures;
  asked = c.requires.asked;
  few = c.requires.few;
  below = c.requires.below;
  pairs = c.in-Ok-method_over.ensures.pairs c.args.n;
}
