use Rattle.std.proofs.Common.{◌∙◌, ◌&&◌, ℕ, Bool, not, refl, ap, subst}
use mathlib.Core.Path.{fun_ext}
use Rattle.mixed_graph.specs.Vocabulary.{has, graph_of}
use Rattle.minimal_sets.specs.Vocabulary.{IsListingOf}
use Rattle.instrument_sets.specs.Strata.{AreMinimalStrata}
use Rattle.instrument_sets.proofs.Turns.{on_the_way_first, on_the_way_next}
use Rattle.instrument_sets.proofs.instruments.list_instruments.Goals as goal

pub vertices-init : goal.vertices-init
vertices-init g c = on_the_way_first (graph_of c.args.g.now) (has c.args.x.bits) (has c.args.y.bits) c.args.most (has c.difference-others.result.bits)
    (λ v. c.difference-others.ensures.members v ∙ ap (λ b. b && not (has c.args.y.bits v))
    (c.difference.ensures.members v ∙ ap (λ b. b && not (has c.args.x.bits v)) (c.below.ensures.members v)))
    c.into_iter-z-iterator.result c.new-list.result.items (c.into_iter-z-iterator.ensures.into_iter_gives ∙ c.iter-z-items.ensures) c.new-list.ensures.items

pub vertices-preserved : goal.vertices-preserved
vertices-preserved g c = on_the_way_next (graph_of c.args.g.now) (has c.args.x.bits) (has c.args.y.bits) c.args.most c.vertices.z-iterator
    c.vertices.list.items c.push.new.self.items c.in-Some.z c.next.new.self (record { vertex = c.in-Some.z; strata = c.in_ok-strata.strata })
    c.vertices.invariant c.in-Some.ensures.steps refl
    (subst (λ (z : ℕ → Bool). IsListingOf (AreMinimalStrata (graph_of c.args.g.now) (has c.args.x.bits) (has c.args.y.bits) z) c.args.most
    c.in_ok-strata.strata.sets.items c.in_ok-strata.strata.more) (fun_ext c.one.ensures.members) c.in_ok-strata.ensures.listed)
    c.in_ok-push.ensures.items
