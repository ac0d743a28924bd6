use Rattle.std.proofs.Common.{◌≡◌, ℕ, ◌<◌, false, not, ◌&&◌, IsTrue, inl, inr, sym, ap, ◌∙◌, subst, arith}
use Rattle.std.proofs.lemmas.Bool.{cases_Bool, and_parts}
use Rattle.mixed_graph.specs.Vocabulary.{has, IsAncestor, graph_of}
use Rattle.mixed_graph.proofs.Masks.{has-zero}
use Rattle.hedge.proofs.Trees.{not_true}
use Rattle.hedge.specs.Hedges.{outside, Reaches}
use Rattle.hedge.proofs.Reaching.{reaches_same, free_is}
use Rattle.hedge.proofs.holding.lost_root.Goals as goal
use Rattle.hedge.proofs.holding.lost_root.Goals.{After-is_empty}

-- the members of the search are what reaches y
reached : (c : After-is_empty) → (v : ℕ) → IsTrue (has c.ancestors.result.bits v) → Reaches (graph_of c.args.g.now) c.args.x.bits c.args.y.bits v
reached c v i = reaches_same (graph_of c.args.g.now) c.args.g.now.valid (has c.difference-free.result.bits) (outside c.args.x.bits) (free c)
    (has c.args.y.bits) v
    (subst (λ h. IsAncestor h (has c.args.y.bits) v) c.induced.ensures ((c.ancestors.ensures v).0 i))
  where
    free : (c : After-is_empty) → (u : ℕ) → u < c.args.g.now.n → has c.difference-free.result.bits u ≡ outside c.args.x.bits u
    free c = free_is c.args.g.now.n c.args.x.bits c.difference-free.result.bits
        (λ u. c.difference-free.ensures.members u ∙ ap (λ b. b && not (has c.args.x.bits u)) (c.below.ensures.members u))

back : (c : After-is_empty) → (v : ℕ) → Reaches (graph_of c.args.g.now) c.args.x.bits c.args.y.bits v → IsTrue (has c.ancestors.result.bits v)
back c v r = (c.ancestors.ensures v).1 (subst (λ h. IsAncestor h (has c.args.y.bits) v) (sym c.induced.ensures)
    (reaches_same (graph_of c.args.g.now) c.args.g.now.valid (outside c.args.x.bits) (has c.difference-free.result.bits) (λ u l. sym (free c u l))
    (has c.args.y.bits) v r))
  where
    free : (c : After-is_empty) → (u : ℕ) → u < c.args.g.now.n → has c.difference-free.result.bits u ≡ outside c.args.x.bits u
    free c = free_is c.args.g.now.n c.args.x.bits c.difference-free.result.bits
        (λ u. c.difference-free.ensures.members u ∙ ap (λ b. b && not (has c.args.x.bits u)) (c.below.ensures.members u))

-- a root that isn't among the lost is reached
not_lost : (c : After-is_empty) → (v : ℕ) → IsTrue (has c.args.h.now.roots.bits v) → has c.difference-lost.result.bits v ≡ false
    → Reaches (graph_of c.args.g.now) c.args.x.bits c.args.y.bits v
not_lost c v i n = elim (cases_Bool (has c.ancestors.result.bits v)) [
  | inl t ↦ reached c v t
  | inr f ↦ absurd (let d = c.difference-lost.ensures.members v in grind arith)
]

pub returns-then-is_empty-clause-right : goal.returns-then-is_empty-clause-right
returns-then-is_empty-clause-right c = λ v i. not_lost (goal.at.returns-then-is_empty-clause-right c).After-is_empty v i
    (rw (c.is_empty.ensures.none.0 c.if-is_empty.true) (has-zero v))

pub returns-else-is_empty-clause-wrong : goal.returns-else-is_empty-clause-wrong
returns-else-is_empty-clause-wrong c =
    let b = (goal.at.returns-else-is_empty-clause-wrong c).After-is_empty in
    let p = and_parts _ _ (sym (c.difference-lost.ensures.members c.lowest.result) ∙ c.lowest.ensures.member) in record {
      among = p.0;
      wrong = λ r. absurd (let t = back b c.lowest.result r in let f = not_true _ p.1 in cc);
      before = λ u l i. not_lost b u i (elim (cases_Bool (has c.difference-lost.result.bits u)) [
        | inl t ↦ absurd (let k = c.lowest.ensures.least u t in omega arith)
        | inr f ↦ f
      ]);
    }
