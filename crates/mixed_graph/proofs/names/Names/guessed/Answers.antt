use Rattle.std.proofs.Common.{◌<◌, length, sym, ap, subst, ◌∙◌, arith}
use Rattle.mixed_graph.specs.Names.{AreNames}
use Rattle.mixed_graph.proofs.NameBlocks.{length-cut}
use Rattle.mixed_graph.proofs.KnownNames.{name_here, formed_here}
use Rattle.mixed_graph.proofs.names.Names.guessed.Goals as goal
use Rattle.mixed_graph.proofs.names.Names.guessed.Goals.{Then-guess-self}

below : (c : Then-guess-self) → c.guess-guess.result < length c.args.self.now
below c = let n = sym (ap length c.self.view_is) ∙ length-cut c.self.inside.bytes.items c.self.inside.ends c.self.inside.count in
    omega (arith, n, c.if-guess-self.true)

pub is_at-requires-clause-below : goal.is_at-requires-clause-below
is_at-requires-clause-below c = below (goal.at.is_at-requires-clause-below c).Then-guess-self

pub returns-then-is_at-clause-found : goal.returns-then-is_at-clause-found
returns-then-is_at-clause-found c =
    let b = below (goal.at.returns-then-is_at-clause-found c).Then-guess-self in (
      (name_here c.args.self.now c.args.name.now c.guess-guess.result (subst AreNames c.self.view_is c.self.invariant.0) b
          (sym c.is_at.ensures ∙ c.if-is_at.true)).1,
      b,
    )

pub returns-then-is_at-clause-has : goal.returns-then-is_at-clause-has
returns-then-is_at-clause-has c =
    let b = below (goal.at.returns-then-is_at-clause-has c).Then-guess-self in
    (name_here c.args.self.now c.args.name.now c.guess-guess.result (subst AreNames c.self.view_is c.self.invariant.0) b
    (sym c.is_at.ensures ∙ c.if-is_at.true)).0

pub returns-then-is_at-clause-formed : goal.returns-then-is_at-clause-formed
returns-then-is_at-clause-formed c =
    let b = below (goal.at.returns-then-is_at-clause-formed c).Then-guess-self in
    formed_here c.args.self.now c.args.name.now c.guess-guess.result (subst AreNames c.self.view_is c.self.invariant.0) b
    (sym c.is_at.ensures ∙ c.if-is_at.true)
