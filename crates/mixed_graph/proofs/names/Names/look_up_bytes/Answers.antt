use Rattle.std.proofs.Common.{◌≡◌, ◌<◌, false, [], length, slice_index_or, inl, inr, sym, ap, subst, ◌∙◌, arith}
use Rattle.std.specs.Str.{bytes_eq}
use Rattle.std.proofs.lemmas.Bool.{cases_lt}
use Rattle.mixed_graph.specs.Names.{AreNames}
use Rattle.mixed_graph.proofs.NameBlocks.{length-cut}
use Rattle.mixed_graph.proofs.KnownNames.{name_here, nowhere}
use Rattle.mixed_graph.proofs.names.Names.look_up_bytes.Goals as goal
use Rattle.mixed_graph.proofs.names.Names.look_up_bytes.Goals.{After-self}

many : (c : After-self) → length c.args.self.now ≡ c.self.inside.count
many c = sym (ap length c.self.view_is) ∙ length-cut c.self.inside.bytes.items c.self.inside.ends c.self.inside.count

pub is_at-requires-clause-below : goal.is_at-requires-clause-below
is_at-requires-clause-below c = let n = many (goal.at.is_at-requires-clause-below c).After-self in omega (arith, n, c.loop-v-test.true)

pub returns-then-is_at-clause-found : goal.returns-then-is_at-clause-found
returns-then-is_at-clause-found c =
    let n = many (goal.at.returns-then-is_at-clause-found c).After-self in
    let below : c.loop-v.v < length c.args.self.now = omega (arith, n, c.loop-v-test.true) in (
      (name_here c.args.self.now c.args.name.now c.loop-v.v (subst AreNames c.self.view_is c.self.invariant.0) below (sym c.is_at.ensures ∙ c.if-is_at.true)).1,
      below,
    )

pub returns-then-is_at-clause-has : goal.returns-then-is_at-clause-has
returns-then-is_at-clause-has c =
    let n = many (goal.at.returns-then-is_at-clause-has c).After-self in
    sym (name_here c.args.self.now c.args.name.now c.loop-v.v (subst AreNames c.self.view_is c.self.invariant.0)
    (omega (arith, n, c.loop-v-test.true)) (sym c.is_at.ensures ∙ c.if-is_at.true)).0

pub loop-v-preserved : goal.loop-v-preserved
loop-v-preserved c = λ k below. elim (cases_lt k c.loop-v.v) [
  | inl low ↦ c.loop-v.invariant k low
  | inr top ↦
      let here : c.loop-v.v ≡ k = omega (arith, below, top) in
      subst (λ i. bytes_eq c.args.name.now (slice_index_or c.args.self.now i []) ≡ false) here (sym c.is_at.ensures ∙ c.if-is_at.false)
]

pub returns-clause-has : goal.returns-clause-has
returns-clause-has c =
    let n = many (goal.at.returns-clause-has c).After-self in
    sym (nowhere c.args.self.now c.args.name.now (λ i below. c.loop-v.invariant i (omega (arith, n, below, c.loop-v-test.false))))
