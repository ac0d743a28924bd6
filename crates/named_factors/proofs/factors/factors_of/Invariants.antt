use Rattle.named_factors.proofs.Listing.{IsListing}
use Rattle.named_factors.proofs.factors.factors_of.Given as goal

abbrev pub invariant-loop-term : goal.invariant-loop-term
invariant-loop-term l = IsListing l.n l.x.bits l.terms l.term-index l.made.items
