use Rattle.std.proofs.Common.{sym, ◌∙◌}
use Rattle.mixed_graph.proofs.MaskLaws.{apart_has}
use Rattle.bound_values.proofs.methods.has_pairs.Goals as goal

pub returns-clause-pairs : goal.returns-clause-pairs
returns-clause-pairs c n h = record {
  two_valued = c.is_two_valued.ensures.two_valued n c.if-not-is_two_valued.false;
  apart = λ v i. sym (c.level.ensures.members v) ∙ apart_has c.union-effect.result.bits c.level.result.bits v
      (sym c.is_apart.ensures ∙ c.if-not-is_apart.false) (c.union-effect.ensures.members v ∙ i);
}
