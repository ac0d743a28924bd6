use Rattle.std.proofs.Common.{inl, inr, sym, ap, ◌∙◌, arith}
use Rattle.std.proofs.lemmas.Bool.{cases_lt}
use Rattle.std.proofs.lemmas.List.{get_or_past}
use Rattle.mixed_graph.specs.Vocabulary.{has}
use Rattle.mixed_graph.proofs.Masks.{has-zero}
use Rattle.do_rules.proofs.cuts.rows.column.Goals as goal

pub returns : goal.returns
returns c = λ u. elim (cases_lt u 64) [
  | inl lt ↦ c.loop-u.invariant.0 u (omega arith)
  | inr ge ↦ c.loop-u.invariant.1 u (omega arith)
      ∙ sym (ap (λ m. has m c.args.v) (get_or_past c.args.rows.now u 0 (omega arith)) ∙ has-zero c.args.v)
]
