use Rattle.std.proofs.Common.{◌∙◌, subst, arith}
use Rattle.mixed_graph.specs.Vocabulary.{has}
use Rattle.mixed_graph.proofs.MemberLists.{AreMembers}
use Rattle.treated_models.proofs.Primes.{prime_low}
use Rattle.treated_id.proofs.NameSets.{priming_none, primed_all, primed_are}
use Rattle.treated_id.proofs.names.primes_of.Goals as goal

pub each-init : goal.each-init
each-init c = priming_none c.args.n c.args.x.bits c.args.set.bits c.into_iter-v-iterator.result c.empty-all.result.bits
    (c.into_iter-v-iterator.ensures.into_iter_gives ∙ c.iter-v-items.ensures) c.empty-all.ensures.members

pub one-requires : goal.one-requires
one-requires c =
    let is = c.prime_of.ensures in
    let i = c.requires.inside c.in-Some.v (subst (AreMembers (has c.args.set.bits) 64) c.in-Some.ensures.steps c.each.invariant.are).1 in
    let l = prime_low c.args.n c.args.x.bits c.in-Some.v (c.requires.within c.in-Some.v i) i in
    let f = c.requires.few in
    omega (arith, is, l, f)

pub returns : goal.returns
returns c = primed_are c.args.n c.args.x.bits c.args.set.bits c.each.all.bits (omega arith)
    (primed_all c.args.n c.args.x.bits c.args.set.bits c.each.all.bits c.each.v-iterator c.in-None.ensures.steps.0 c.each.invariant)
