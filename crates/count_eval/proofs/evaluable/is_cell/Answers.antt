use Rattle.std.proofs.Common.{ℕ, List, All, sym, ◌∙◌, subst}
use Rattle.std.specs.Bool.{OnTrue}
use Rattle.std.proofs.lemmas.Bool.{ltb-true}
use Rattle.std.proofs.lemmas.List.Elements.{All-nil, All-cons}
use Rattle.count_table.proofs.CellLevels.{levels_hold}
use Rattle.count_table.proofs.Choosing.{size_in}
use Rattle.count_eval.specs.Levels.{HasLevel}
use Rattle.count_eval.proofs.evaluable.is_cell.Goals as goal

pub members-init : goal.members-init
members-init c = subst (λ (vs : List ℕ). All (HasLevel c.args.c.now c.args.at.now) vs)
    (c.into_iter-v-iterator.ensures.into_iter_gives ∙ c.iter-v-items.ensures ∙ c.used.ensures.members)

pub members-preserved : goal.members-preserved
members-preserved c = λ rest.
    let P = HasLevel c.args.c.now c.args.at.now in
    let here = subst (λ b. OnTrue b (P c.in-Some.v)) c.if-not-has_level.false c.has_level.ensures.yes in
    c.members.invariant (subst (λ (vs : List ℕ). All P vs) (sym c.in-Some.ensures.steps) (All-cons P c.in-Some.v c.next.new.self here rest))

pub returns-clause-yes : goal.returns-clause-yes
returns-clause-yes c = λ v used.
    let t = c.args.c.now in
    levels_hold (HasLevel t c.args.at.now) t.vertices t.levels v
    (c.members.invariant (subst (λ (vs : List ℕ). All (HasLevel t c.args.at.now) vs) (sym c.in-None.ensures.steps.0) (All-nil (HasLevel t c.args.at.now))))
    (ltb-true 0 (size_in t v) used) used
