use Rattle.std.proofs.Common.{◌+◌, ◌*◌, ◌≤◌, sym, subst}
use Rattle.std.proofs.lemmas.List.Sorted.{length_permutation}
use Rattle.mixed_graph.specs.Vocabulary.{has}
use Rattle.minimal_sets.specs.Rows.{is_near}
use Rattle.minimal_sets.specs.Separators.{IsMinimalSeparator}
use Rattle.minimal_sets.proofs.Endings.{sorted_listing}
use Rattle.minimal_sets.proofs.separators.listing.list_separators.Goals as goal

pub returns-clause-listed : goal.returns-clause-listed
returns-clause-listed g c =
    sorted_listing (IsMinimalSeparator (is_near c.args.p.now.near) (has c.args.p.now.allowed.bits) (has c.args.p.now.x.bits) (has c.args.p.now.y.bits))
    c.args.most c.in_ok-listing.listing.sets.items c.sort_sets.new.sets.items c.in_ok-listing.listing.more c.in_ok-listing.ensures.gathered
    c.sort_sets.ensures.permutation c.sort_sets.ensures.sorted

pub returns-clause-cost : goal.returns-clause-cost
returns-clause-cost g c =
    subst (λ k. c.gather.new.steps ≤ c.args.steps.now + 1 + c.args.p.now.n * k)
    (sym (length_permutation c.in_ok-listing.listing.sets.items c.sort_sets.new.sets.items c.sort_sets.ensures.permutation)) c.in_ok-listing.ensures.cost
