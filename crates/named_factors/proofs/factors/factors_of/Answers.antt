use Rattle.std.proofs.Common.{◌+◌, List, sym, subst, arith}
use Rattle.factor_values.specs.declared.factors.Factor.{Factor}
use Rattle.named_factors.proofs.Listing.{IsListing, listing_none, next_term, listing_more, listing_all}
use Rattle.named_factors.proofs.factors.factors_of.Goals as goal

pub loop-term-init : goal.loop-term-init
loop-term-init c = subst (λ (l : List Factor). IsListing c.args.n c.args.x.bits c.args.terms.now 0 l) (sym c.new-made.ensures.items)
    (listing_none c.args.n c.args.x.bits c.args.terms.now c.requires.terms)

pub factor_of-requires-clause-term : goal.factor_of-requires-clause-term
factor_of-requires-clause-term c = next_term c.args.n c.args.x.bits c.args.terms.now c.loop-term.term-index c.term-item.result c.loop-term.made.items
    c.loop-term-test.true c.term-item.is c.loop-term.invariant

pub loop-term-preserved : goal.loop-term-preserved
loop-term-preserved c =
    subst (λ (l : List Factor). IsListing c.args.n c.args.x.bits c.args.terms.now (c.loop-term.term-index + 1) l) (sym c.in_ok-push.ensures.items)
    (listing_more c.args.n c.args.x.bits c.args.terms.now c.loop-term.term-index c.term-item.result c.loop-term.made.items c.factor_of.result
    c.loop-term-test.true c.term-item.is c.loop-term.invariant c.factor_of.ensures)

pub returns : goal.returns
returns c = listing_all c.args.n c.args.x.bits c.args.terms.now c.loop-term.term-index c.loop-term.made.items (omega (arith, c.loop-term-test.false)) c.loop-term.invariant
