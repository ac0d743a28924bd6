use Rattle.std.proofs.Common.{◌≡◌, ℕ, ◌<◌, ◌+◌, ◌≤◌, length-set, Bool, true, ◌&&◌, List, length, set, get_or, IsTrue, inl, inr, sym, ap, ◌∙◌, arith, subst}
use Rattle.std.proofs.lemmas.Bool.{cases_eq, cases_lt, and_from}
use Rattle.std.proofs.lemmas.List.{get_or-set_same, get_or-set_other}
use Rattle.mixed_graph.specs.declared.mixed.Graph.{Graph}
use Rattle.mixed_graph.specs.Vocabulary.{has, graph_of}
use Rattle.mixed_graph.proofs.Masks.{has-above, positive_from_has}
use Rattle.hedge.specs.Spanning.{IsLowest}
use Rattle.hedge.proofs.joined_sets.nearest.choose_children.Goals as goal
use Rattle.hedge.proofs.joined_sets.nearest.choose_children.Goals.{then-has, else-has}

-- one more entry is written
written_more : (P : ℕ → ℕ → Type 0) (next : List ℕ) (v x : ℕ) → v < length next → P v x → ((u : ℕ) → u < v → P u (get_or next u 0)) →
    (u : ℕ) → u < v + 1 → P u (get_or (set next v x) u 0)
written_more P next v x room here before u h = elim (cases_eq u v) [
  | inl e ↦ subst (λ w. P w (get_or (set next v x) w 0)) (sym e) (subst (P v) (sym (get_or-set_same next v x 0 room)) here)
  | inr d ↦ subst (P u) (sym (get_or-set_other next v u x 0 d)) (before u (omega arith))
]

-- the children of a vertex in a set
abbrev Child : Graph → ℕ → ℕ → ℕ → Bool
Child g goal v c = (graph_of g).arrow v c && has goal c

lowest_child : (g : Graph) (goal meet v x : ℕ) → ((u : ℕ) → has meet u ≡ Child g goal v u) → IsTrue (has meet x) → ((u : ℕ) → IsTrue (has meet u) → x ≤ u)
    → IsLowest (Child g goal v) x
lowest_child g goal meet v x is i low = record { member = sym (is x) ∙ i; least = λ u j. low u (is u ∙ j) }

pub lowest-requires : goal.lowest-requires
lowest-requires c = let p = c.requires c.loop-v.v (sym c.has.ensures ∙ c.if-has.true) in
    positive_from_has c.intersection.result.bits p.0 (c.intersection.ensures.members p.0 ∙ and_from _ _ (c.children.ensures.members p.0 ∙ p.2) p.1)

pub loop-v-preserved : goal.loop-v-preserved
loop-v-preserved c = elim c.if-has.branch [
  | then-has w ↦
      let is_fresh : has c.args.fresh.bits c.loop-v.v ≡ true = sym c.has.ensures ∙ w.if-has.true in
      let room : c.loop-v.v < length c.loop-v.next = (let l = c.if-has.array_long in let e : length c.if-has.next ≡ length c.loop-v.next = ap length w.next-is
      ∙ simp length-set in omega (arith, l, e)) in (
        λ u h i. subst (λ xs. IsLowest (Child c.args.g.now c.args.goal.bits u) (get_or xs u 0)) (sym w.next-is)
            (written_more (λ u x. IsTrue (has c.args.fresh.bits u) → IsLowest (Child c.args.g.now c.args.goal.bits u) x)
            c.loop-v.next c.loop-v.v w.lowest.result room
            (λ _. lowest_child c.args.g.now c.args.goal.bits w.intersection.result.bits c.loop-v.v w.lowest.result
            (λ z. w.intersection.ensures.members z ∙ ap (λ t. t && has c.args.goal.bits z) (w.children.ensures.members z))
            w.lowest.ensures.member w.lowest.ensures.least)
            c.loop-v.invariant.0 u h i),
        λ u n. subst (λ xs. get_or xs u 0 ≡ get_or c.args.next.now u 0) (sym w.next-is)
            (get_or-set_other c.loop-v.next c.loop-v.v u w.lowest.result 0
            (λ e. absurd (let t : has c.args.fresh.bits u ≡ true = ap (has c.args.fresh.bits) e ∙ is_fresh in cc))
            ∙ c.loop-v.invariant.1 u n),
      )
  | else-has w ↦ (
    λ u h i. subst (λ xs. IsLowest (Child c.args.g.now c.args.goal.bits u) (get_or xs u 0)) (sym w.next-is) (elim (cases_eq u c.loop-v.v) [
      | inl e ↦ absurd (let t = c.has.ensures in let f = w.if-has.false in let k : has c.args.fresh.bits c.loop-v.v ≡ true =
          subst (λ x. has c.args.fresh.bits x ≡ true) e i in cc)
      | inr d ↦ c.loop-v.invariant.0 u (omega arith) i
    ]),
    λ u n. subst (λ xs. get_or xs u 0 ≡ get_or c.args.next.now u 0) (sym w.next-is) (c.loop-v.invariant.1 u n),
  )
]

pub returns-clause-chosen : goal.returns-clause-chosen
returns-clause-chosen c = λ v i. elim (cases_lt v 64) [
  | inl l ↦ c.loop-v.invariant.0 v (omega arith) i
  | inr ge ↦ absurd (let e = has-above c.args.fresh.bits v (omega arith) ge in cc)
]
