use Rattle.std.proofs.Common.{not, ◌&&◌, ap, ap₂, ◌∙◌, arith}
use Rattle.mixed_graph.specs.Vocabulary.{has, graph_of}
use Rattle.identify.proofs.Roots.{roots_none, roots_more, roots_all}
use Rattle.identify.proofs.stops.roots_of.Goals as goal

pub loop-u-init : goal.loop-u-init
loop-u-init c = roots_none (graph_of c.args.g.now) c.args.set.bits

pub loop-u-preserved : goal.loop-u-preserved
loop-u-preserved c = roots_more (graph_of c.args.g.now) c.args.set.bits c.loop-u.roots.bits c.difference-roots.result.bits c.loop-u.u
    (λ v. c.difference-roots.ensures.members v ∙ ap (λ b. has c.loop-u.roots.bits v && not b)
    (c.only_if.ensures v ∙ ap₂ (λ p q. p && q) c.has.ensures (c.parents.ensures.members v)))
    c.loop-u.invariant

pub returns : goal.returns
returns c = roots_all (graph_of c.args.g.now) c.args.g.now.valid c.args.g.now.small c.args.set.bits c.loop-u.roots.bits c.loop-u.u
    (let t = c.loop-u-test.false in omega arith) c.loop-u.invariant
