use Rattle.std.proofs.Common.{◌≡◌, ◌∙◌, ◌+◌, ◌++◌, ◌∷◌, [], length, set, arith, sym, ap, subst}
use Rattle.mixed_graph.specs.Names.{AreNames}
use Rattle.mixed_graph.specs.NameBlocks.{cut}
use Rattle.mixed_graph.specs.NameKeys.{AreKeys}
use Rattle.mixed_graph.proofs.NameKeys.{keys-more}
use Rattle.mixed_graph.proofs.NameBlocks.{length-cut}
use Rattle.mixed_graph.proofs.NameLists.{index_of-absent, AreNames-append}
use Rattle.mixed_graph.proofs.names.Names.add_unguessed.Goals as goal
use Rattle.mixed_graph.proofs.names.Names.add_unguessed.Goals.{After-self, In-Ok}

many : (c : After-self) → length c.args.self.now ≡ c.self.inside.count
many c = sym (ap length c.self.view_is) ∙ length-cut c.self.inside.bytes.items c.self.inside.ends c.self.inside.count

-- the names with the new one
names_are : (c : In-Ok) → cut c.append.new.bytes.items c.append.new.ends (c.self.inside.count + 1) ≡ c.args.self.now ++ c.args.name.now ∷ []
names_are c = c.in-Ok.ensures.ok ∙ ap (λ names. names ++ c.args.name.now ∷ []) c.self.view_is

grown : (c : In-Ok) → AreNames (cut c.append.new.bytes.items c.append.new.ends (c.self.inside.count + 1))
grown c =
    let n = many (goal.at.In-Ok c).After-self in
    subst AreNames (sym (names_are c))
    (AreNames-append c.args.self.now c.args.name.now (subst AreNames c.self.view_is c.self.invariant.0) c.requires.formed
    (sym c.in_default.ensures.has) (omega (arith, n, c.if-count-ge64.false)))

pub invariant_of-self-2 : goal.invariant_of-self-2
invariant_of-self-2 c =
    let n = many (goal.at.invariant_of-self-2 c).After-self in
    let keys = subst (λ names. AreKeys c.self.inside.keys names) c.self.view_is c.self.invariant.2 in (
      grown (goal.at.invariant_of-self-2 c).In-Ok,
      c.in-Ok.ensures.block,
      subst (AreKeys (set c.self.inside.keys c.self.inside.count c.args.key)) (sym (names_are (goal.at.invariant_of-self-2 c).In-Ok))
          (subst (λ k. AreKeys (set c.self.inside.keys c.self.inside.count k) (c.args.self.now ++ c.args.name.now ∷ [])) (sym c.requires.keyed.same)
          (keys-more c.self.inside.keys c.args.self.now c.args.name.now c.self.inside.count n (omega (arith, c.if-count-ge64.false)) keys
          (λ some. c.requires.keyed.bytes (λ z. some (sym c.requires.keyed.same ∙ z))))),
    )

pub returns-clause-index : goal.returns-clause-index
returns-clause-index c =
    sym (many (goal.at.returns-clause-index c).After-self) ∙ index_of-absent c.args.self.now c.args.name.now (sym c.in_default.ensures.has)

pub returns-clause-within : goal.returns-clause-within
returns-clause-within c =
    let e = length-cut c.append.new.bytes.items c.append.new.ends (c.self.inside.count + 1) in omega (arith, e)

pub returns-clause-names : goal.returns-clause-names
returns-clause-names c = grown (goal.at.returns-clause-names c).In-Ok

pub returns-in_default-append-clause-full : goal.returns-in_default-append-clause-full
returns-in_default-append-clause-full c =
    let n = many (goal.at.returns-in_default-append-clause-full c).After-self in
    (λ e. absurd (cc), λ full. absurd (let l = full.1 in omega (arith, n, l, c.if-count-ge64.false)))

pub returns-clause-full : goal.returns-clause-full
returns-clause-full c =
    let n = many (goal.at.returns-clause-full c).After-self in
    (λ e. absurd (cc), λ full. absurd (let l = full.1 in omega (arith, n, l, c.if-count-ge64.false)))
