use Rattle.std.proofs.Common.{subst, ap, ◌∙◌}
use Rattle.std.specs.Prelude.{nat_eq, slice_index}
use Rattle.mixed_graph.specs.NameKeys.{AreKeys}
use Rattle.mixed_graph.proofs.NameKeys.{key_tells}
use Rattle.mixed_graph.proofs.names.Names.has_key.Goals as goal

pub returns : goal.returns
returns c =
    let same = c.requires.keyed.same in
    ap (nat_eq (slice_index c.self.inside.keys c.args.v)) same
    ∙ key_tells c.self.inside.keys c.args.self.now c.args.name.now c.args.v (subst (AreKeys c.self.inside.keys) c.self.view_is c.self.invariant.2)
    c.requires.below (λ z. c.requires.some (same ∙ z)) (c.requires.keyed.bytes c.requires.some)
