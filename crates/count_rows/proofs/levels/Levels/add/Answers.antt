use Rattle.std.proofs.Common.{◌≡◌, ◌∙◌, true, false, [], ◌∷◌, ◌++◌, cond, length, length-append, ap, arith, sym, subst}
use Rattle.std.proofs.lemmas.List.{length-map}
use Rattle.mixed_graph.specs.Vocabulary.{texts, is_named, with_name, index_of}
use Rattle.mixed_graph.proofs.NameLists.{texts-insert, index_of-new}
use Rattle.count_rows.specs.Levels.{AreLevels}
use Rattle.count_rows.proofs.LevelLists.{AreLevels-append}
use Rattle.count_rows.proofs.levels.Levels.add.Goals as goal
use Rattle.count_rows.proofs.levels.Levels.add.Goals.{In_ok-insert}

pub returns-in-Some-clause-added : goal.returns-in-Some-clause-added
returns-in-Some-clause-added c =
    let names = texts c.self.inside.set.keys in
    let there : is_named names c.args.level.now ≡ true = sym c.in-Some.ensures.there in
    subst (λ l. l ≡ with_name l c.args.level.now) c.self.view_is (ap (λ b. cond b names (names ++ c.args.level.now ∷ [])) (sym there))

pub returns-in-Some-clause-number : goal.returns-in-Some-clause-number
returns-in-Some-clause-number c =
    c.in-Some.ensures.number ∙ ap (λ l. index_of l c.args.level.now) c.self.view_is

absent : (c : In_ok-insert) → is_named (texts c.self.inside.set.keys) c.args.level.now ≡ false
absent c = sym c.in_default.ensures.there

grown : (c : In_ok-insert) → texts c.insert.new.self.keys ≡ texts c.self.inside.set.keys ++ c.args.level.now ∷ []
grown c = rw c.in_ok-insert.ensures.keys (texts-insert c.self.inside.set.keys c.in_ok-owned.owned c.args.level.now c.in_ok-owned.ensures.items (absent c))

pub invariant_of-self-2 : goal.invariant_of-self-2
invariant_of-self-2 c =
    let few : length (texts c.self.inside.set.keys) ≡ length c.self.inside.set.keys = simp length-map in
    subst AreLevels (sym (grown c))
    (AreLevels-append (texts c.self.inside.set.keys) c.args.level.now c.self.invariant (absent c)
    (omega (arith, few, c.len-number.ensures.len, c.if-number.false)))

pub returns-clause-added : goal.returns-clause-added
returns-clause-added c =
    let names = texts c.self.inside.set.keys in
    subst (λ l. texts c.insert.new.self.keys ≡ with_name l c.args.level.now) c.self.view_is
    (grown c ∙ ap (λ b. cond b names (names ++ c.args.level.now ∷ [])) (sym (absent c)))

pub returns-clause-number : goal.returns-clause-number
returns-clause-number c = c.len-number.ensures.len ∙ index_of-new _ _ _ c.self.view_is (sym (absent c))

pub returns-clause-within : goal.returns-clause-within
returns-clause-within c =
    let few : length (texts c.self.inside.set.keys) ≡ length c.self.inside.set.keys = simp length-map in
    let more : length (texts c.insert.new.self.keys) ≡ length (texts c.self.inside.set.keys ++ c.args.level.now ∷ []) = ap (λ l. length l) (grown c) in
    omega (arith, few, more, length-append (texts c.self.inside.set.keys) (c.args.level.now ∷ []), c.len-number.ensures.len)
