use Rattle.std.proofs.Common.{◌≡◌, ℕ, suc, ◌<◌, ◌≤◌, sym, ◌∙◌, replicate, get_or, inl, inr, arith}
use Rattle.std.proofs.lemmas.Bool.{cases_lt, and_parts}
use Rattle.std.proofs.lemmas.List.{length-replicate, get_or-replicate, get_or_past}
use Rattle.mixed_graph.specs.Vocabulary.{has, graph_of}
use Rattle.mixed_graph.proofs.Masks.{has-above}
use Rattle.hedge.proofs.Levels.{NextLevel, level_none, level_more, level_smaller, choices_from}
use Rattle.hedge.proofs.joined_sets.nearest.child_choice.Goals as goal
use Rattle.hedge.proofs.joined_sets.nearest.child_choice.Goals.{After-union-seen}

-- an array of 64s
all_none : (v : ℕ) → v < 64 → ◌≡◌ {A = ℕ} (get_or (replicate 64 64) v 0) 64
all_none v l = get_or-replicate 64 v 64 0 l

most_none : (v : ℕ) → get_or (replicate 64 64) v 0 ≤ 64
most_none v = elim (cases_lt v 64) [
  | inl l ↦ let e = all_none v l in omega arith
  | inr ge ↦ let e : ◌≡◌ {A = ℕ} (get_or (replicate 64 64) v 0) 0 = get_or_past (replicate 64 64) v 0 (simp length-replicate ge) in omega arith
]

step_of : (c : After-union-seen) → NextLevel (graph_of c.args.g.now) (has c.args.within.bits)
    c.levels.seen.bits c.levels.front.bits c.intersection-goal.result.bits
    c.parents_of.result.bits c.difference-fresh.result.bits c.union-seen.result.bits c.levels.next c.choose_children.new.next
step_of c = record {
  goal_is = c.intersection-goal.ensures.members;
  parents_are = c.parents_of.ensures;
  fresh_is = λ u. (let a = c.difference-fresh.ensures.members u in let b = c.intersection.ensures.members u in cc);
  seen_is = c.union-seen.ensures.members;
  goal_small = λ u i. elim (cases_lt u 64) [ inl l ↦ l | inr ge ↦ absurd (let e = has-above c.intersection-goal.result.bits u (omega arith) ge in cc) ];
  sized = c.choose_children.array_long;
  chosen = c.choose_children.ensures.chosen;
  others = c.choose_children.ensures.others;
}

pub choose_children-requires : goal.choose_children-requires
choose_children-requires c = λ v i. (c.parents_of.ensures v).0 (and_parts _ _
    (sym (c.intersection.ensures.members v) ∙ (and_parts _ _ (sym (c.difference-fresh.ensures.members v) ∙ i)).0)).0

pub levels-init : goal.levels-init
levels-init c = (
  (0, level_none (graph_of c.args.g.now) (has c.args.within.bits) c.args.toward.bits _ (length-replicate {A = ℕ} 64 64) all_none most_none),
  omega arith,
  omega arith,
)

pub levels-preserved : goal.levels-preserved
levels-preserved c =
    let l = c.levels.invariant.0 in (
      (
        suc l.0,
        level_more (graph_of c.args.g.now) c.args.g.now.valid (has c.args.within.bits) (has c.args.toward.bits) c.levels.seen.bits c.levels.front.bits
            c.intersection-goal.result.bits c.parents_of.result.bits c.difference-fresh.result.bits c.union-seen.result.bits c.levels.next
            c.choose_children.new.next l.0 (step_of c) l.1,
      ),
      omega arith,
      omega arith,
    )

pub levels-smaller : goal.levels-smaller
levels-smaller c =
    let l = c.levels.invariant.0 in
    level_smaller (graph_of c.args.g.now) c.args.g.now.valid (has c.args.within.bits) (has c.args.toward.bits) c.levels.seen.bits c.levels.front.bits
    c.intersection-goal.result.bits c.parents_of.result.bits c.difference-fresh.result.bits c.union-seen.result.bits c.levels.next c.choose_children.new.next
    l.0 (step_of c) l.1
    (omega arith) (omega arith) (omega arith) (omega arith) (omega arith)

pub invariant_of-result : goal.invariant_of-result
invariant_of-result c = record { in_range = c.levels.invariant.0.1.small }

pub returns : goal.returns
returns c = choices_from (graph_of c.args.g.now) (has c.args.within.bits) (has c.args.toward.bits)
    c.levels.seen.bits c.levels.front.bits c.levels.next c.levels.invariant.0.0
    c.levels-test.false c.levels.invariant.0.1
