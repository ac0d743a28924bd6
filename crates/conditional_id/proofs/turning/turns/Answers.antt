use Rattle.std.proofs.Common.{false, sym, ◌∙◌, refl}
use Rattle.mixed_graph.specs.Vocabulary.{has, graph_of, minus, one}
use Rattle.do_rules.specs.declared.rules.Rule.TheVariants.{Two}
use Rattle.do_derivation.proofs.Exact.{holds_or_fails}
use Rattle.identification_theory.proofs.Bools.{clash}
use Rattle.conditional_id.proofs.Moving.{blocked_to, four_of, open_to, walk_of}
use Rattle.conditional_id.proofs.turning.turns.Goals as goal

pub rule2-requires-clause-sets : goal.rule2-requires-clause-sets
rule2-requires-clause-sets c = four_of c.args.g.now.n c.args.x.bits c.args.y.bits c.args.z.bits c.args.v c.one-alone.result.bits c.difference.result.bits
    c.one-alone.ensures.mask c.difference.ensures.mask c.requires.sets
    (sym c.has.ensures ∙ c.if-not-has.false)

pub returns-in-Ok-clause-turns : goal.returns-in-Ok-clause-turns
returns-in-Ok-clause-turns c = (
  λ u. (
    sym c.has.ensures ∙ c.if-not-has.false,
    blocked_to (graph_of c.args.g.now) c.args.x.bits c.args.y.bits c.args.z.bits c.args.v c.one-alone.result.bits c.difference.result.bits
        c.one-alone.ensures.mask c.difference.ensures.mask c.in-Ok.ensures.apart,
  ),
  λ p. refl,
)

pub returns-in-Err-clause-turns : goal.returns-in-Err-clause-turns
returns-in-Err-clause-turns c = (
  λ u. absurd (clash false u refl),
  λ p. absurd (holds_or_fails (graph_of c.args.g.now) Two (has c.args.x.bits) (has c.args.y.bits) (has (one c.args.v))
      (has (minus c.args.z.bits (one c.args.v))) c.in-Err.field-0 p.1
      (open_to (graph_of c.args.g.now) c.args.x.bits c.args.y.bits c.args.z.bits c.args.v c.one-alone.result.bits c.difference.result.bits c.in-Err.field-0
      c.one-alone.ensures.mask c.difference.ensures.mask c.in-Err.ensures.open)),
)

pub returns-in-Err-clause-open : goal.returns-in-Err-clause-open
returns-in-Err-clause-open c = λ no member. walk_of (graph_of c.args.g.now) c.args.x.bits c.args.y.bits c.args.z.bits c.args.v c.in-Err.field-0
    (open_to (graph_of c.args.g.now) c.args.x.bits c.args.y.bits c.args.z.bits c.args.v c.one-alone.result.bits c.difference.result.bits c.in-Err.field-0
    c.one-alone.ensures.mask c.difference.ensures.mask c.in-Err.ensures.open)
