use Rattle.std.proofs.Common.{false, sym, subst}
use Rattle.mixed_graph.specs.Vocabulary.{has, graph_of}
use Rattle.finite_models.proofs.Bools.{not_both}
use Rattle.mixed_graph.proofs.Masks.{apart_from_meet}
use Rattle.minimal_sets.specs.Vocabulary.{IsListingOf}
use Rattle.instrument_sets.specs.Strata.{AreMinimalStrata}
use Rattle.instrument_sets.proofs.Listing.{nothing_listed, moved_none}
use Rattle.instrument_sets.proofs.strata.list_strata.Goals as goal

pub returns-then-not-is_empty-clause-listed : goal.returns-then-not-is_empty-clause-listed
returns-then-not-is_empty-clause-listed g c = subst (λ l. IsListingOf (AreMinimalStrata (graph_of c.args.g.now) (has c.args.x.bits) (has c.args.y.bits)
    (has c.args.z.bits)) c.args.most l false) (sym c.new.ensures.items)
    (nothing_listed (AreMinimalStrata (graph_of c.args.g.now) (has c.args.x.bits) (has c.args.y.bits) (has c.args.z.bits)) c.args.most
    (λ w k. moved_none (graph_of c.args.g.now) c.args.x.bits c.args.y.bits c.args.z.bits c.descendants-below.result.bits c.intersection-moved.result.bits
    w c.descendants-below.ensures c.intersection-moved.ensures.members (λ e. not_both c.is_empty.result (c.is_empty.ensures.none.1 e) c.if-not-is_empty.true) k))

pub separators_of-requires-clause-unmoved : goal.separators_of-requires-clause-unmoved
separators_of-requires-clause-unmoved g c =
    apart_from_meet c.intersection-moved.result.bits c.args.z.bits c.descendants-below.result.bits c.intersection-moved.ensures.members
    (c.is_empty.ensures.none.0 c.if-not-is_empty.false)
