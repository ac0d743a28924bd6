use Rattle.std.proofs.Common.{◌≡◌, ◌<◌, false, [], length, slice_index_or, inl, inr, sym, ap, subst, ◌∙◌, arith}
use Rattle.std.specs.Str.{bytes_eq}
use Rattle.std.specs.Prelude.{nat_eq, slice_index}
use Rattle.std.proofs.lemmas.Bool.{cases_lt, ne_eqb}
use Rattle.mixed_graph.specs.Names.{AreNames}
use Rattle.mixed_graph.specs.NameKeys.{AreKeys}
use Rattle.mixed_graph.proofs.NameKeys.{key_tells}
use Rattle.mixed_graph.proofs.NameBlocks.{length-cut}
use Rattle.mixed_graph.proofs.KnownNames.{name_here, nowhere}
use Rattle.mixed_graph.proofs.names.Names.look_up_key.Goals as goal
use Rattle.mixed_graph.proofs.names.Names.look_up_key.Goals.{After-self}

many : (c : After-self) → length c.args.self.now ≡ c.self.inside.count
many c = sym (ap length c.self.view_is) ∙ length-cut c.self.inside.bytes.items c.self.inside.ends c.self.inside.count

pub returns-then-not-has_entry-clause-has : goal.returns-then-not-has_entry-clause-has
returns-then-not-has_entry-clause-has c =
    let n = many (goal.at.returns-then-not-has_entry-clause-has c).After-self in
    let same = c.requires.keyed.same in
    let few = c.self.invariant.1.few in
    sym (nowhere c.args.self.now c.args.name.now (λ i below.
    sym (key_tells c.self.inside.keys c.args.self.now c.args.name.now i (subst (AreKeys c.self.inside.keys) c.self.view_is c.self.invariant.2) below
    (λ z. c.requires.some (same ∙ z)) (c.requires.keyed.bytes c.requires.some))
    ∙ sym (ap (nat_eq (slice_index c.self.inside.keys i)) same)
    ∙ ne_eqb (slice_index c.self.inside.keys i) c.args.key (c.has_entry.ensures c.if-not-has_entry.true i (omega (arith, n, few, below)))))

pub has_key-requires-clause-below : goal.has_key-requires-clause-below
has_key-requires-clause-below c = let n = many (goal.at.has_key-requires-clause-below c).After-self in omega (arith, n, c.loop-v-test.true)

pub returns-then-has_key-clause-found : goal.returns-then-has_key-clause-found
returns-then-has_key-clause-found c =
    let n = many (goal.at.returns-then-has_key-clause-found c).After-self in
    let below : c.loop-v.v < length c.args.self.now = omega (arith, n, c.loop-v-test.true) in (
      (name_here c.args.self.now c.args.name.now c.loop-v.v (subst AreNames c.self.view_is c.self.invariant.0) below (sym c.has_key.ensures ∙ c.if-has_key.true)).1,
      below,
    )

pub returns-then-has_key-clause-has : goal.returns-then-has_key-clause-has
returns-then-has_key-clause-has c =
    let n = many (goal.at.returns-then-has_key-clause-has c).After-self in
    sym (name_here c.args.self.now c.args.name.now c.loop-v.v (subst AreNames c.self.view_is c.self.invariant.0)
    (omega (arith, n, c.loop-v-test.true)) (sym c.has_key.ensures ∙ c.if-has_key.true)).0

pub loop-v-preserved : goal.loop-v-preserved
loop-v-preserved c = λ k below. elim (cases_lt k c.loop-v.v) [
  | inl low ↦ c.loop-v.invariant k low
  | inr top ↦
      let here : c.loop-v.v ≡ k = omega (arith, below, top) in
      subst (λ i. bytes_eq c.args.name.now (slice_index_or c.args.self.now i []) ≡ false) here (sym c.has_key.ensures ∙ c.if-has_key.false)
]

pub returns-clause-has : goal.returns-clause-has
returns-clause-has c =
    let n = many (goal.at.returns-clause-has c).After-self in
    sym (nowhere c.args.self.now c.args.name.now (λ i below. c.loop-v.invariant i (omega (arith, n, below, c.loop-v-test.false))))
