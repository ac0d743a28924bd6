use Rattle.std.proofs.Common.{◌/◌, ◌%◌, sym, subst}
use Rattle.mixed_graph.specs.Vocabulary.{has, graph_of}
use Rattle.hidden_models.specs.Values.{IsWorldOf}
use Rattle.hidden_models.proofs.OneEntry.{worlds_is, some_worlds, at_within, world_of, entry_is}
use Rattle.hidden_models.proofs.entries.entry.Goals as goal

pub nonzero_div-place : goal.nonzero_div-place
nonzero_div-place c = some_worlds (graph_of c.args.g.now) c.args.g.now.valid (has c.args.latent.bits) c.args.m.now c.requires.accepted
    (graph_of c.args.parts.now.projection) c.requires.parts.projects c.args.parts.now.reached.items c.args.v
    c.causes_range-worlds.result c.requires.small (rw c.deref.ensures.value at c.causes_range-worlds.ensures)

pub nonzero_rem-place : goal.nonzero_rem-place
nonzero_rem-place c = some_worlds (graph_of c.args.g.now) c.args.g.now.valid (has c.args.latent.bits) c.args.m.now c.requires.accepted
    (graph_of c.args.parts.now.projection) c.requires.parts.projects c.args.parts.now.reached.items c.args.v
    c.causes_range-worlds.result c.requires.small (rw c.deref.ensures.value at c.causes_range-worlds.ensures)

pub fill-values-requires-clause-world : goal.fill-values-requires-clause-world
fill-values-requires-clause-world c = subst (IsWorldOf c.args.m.now.causes.items) (sym c.deref-3.ensures.value)
    (world_of (graph_of c.args.g.now) c.args.g.now.valid (has c.args.latent.bits) c.args.m.now c.requires.accepted (graph_of c.args.parts.now.projection)
    c.requires.parts.projects c.args.parts.now.reached.items c.args.v c.in_ok-world.world.items (c.args.place % c.causes_range-worlds.result)
    c.in_ok-world.ensures.long (rw c.deref-2.ensures.value at c.in_ok-world.ensures.values))

pub fill-values-requires-clause-in_range : goal.fill-values-requires-clause-in_range
fill-values-requires-clause-in_range c = at_within (graph_of c.args.g.now) c.args.g.now.valid (has c.args.latent.bits) c.args.m.now c.requires.accepted
    (graph_of c.args.parts.now.projection) c.requires.parts.projects c.args.parts.now.reached.items c.args.v c.parent_values-at.result
    (c.args.place / c.causes_range-worlds.result) c.parent_values-at.ensures

pub mechanism_value-requires-clause-world : goal.mechanism_value-requires-clause-world
mechanism_value-requires-clause-world c = subst (IsWorldOf c.args.m.now.causes.items) (sym c.deref-4.ensures.value)
    (world_of (graph_of c.args.g.now) c.args.g.now.valid (has c.args.latent.bits) c.args.m.now c.requires.accepted (graph_of c.args.parts.now.projection)
    c.requires.parts.projects c.args.parts.now.reached.items c.args.v c.in_ok-world.world.items (c.args.place % c.causes_range-worlds.result)
    c.in_ok-world.ensures.long (rw c.deref-2.ensures.value at c.in_ok-world.ensures.values))

pub returns : goal.returns
returns c = entry_is (graph_of c.args.g.now) c.args.g.now.valid (has c.args.latent.bits) c.args.m.now c.requires.accepted
    (graph_of c.args.parts.now.projection) c.requires.parts.projects c.args.parts.now.reached.items c.args.v c.parent_values-at.result
    c.in_ok-world.world.items c.fill-values.result c.args.place c.mechanism_value.result c.causes_range-worlds.result
    c.requires.vertex (worlds_is (graph_of c.args.g.now) c.args.g.now.valid (has c.args.latent.bits) c.args.m.now c.requires.accepted
    (graph_of c.args.parts.now.projection) c.requires.parts.projects c.args.parts.now.reached.items c.args.v c.causes_range-worlds.result c.requires.small
    (rw c.deref.ensures.value at c.causes_range-worlds.ensures))
    c.parent_values-at.ensures (rw c.deref-2.ensures.value at c.in_ok-world.ensures.values) (rw c.deref-3.ensures.value at c.fill-values.ensures.values)
    (rw c.deref-4.ensures.value at c.mechanism_value.ensures)
