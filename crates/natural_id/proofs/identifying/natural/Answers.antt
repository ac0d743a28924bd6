use Rattle.std.proofs.Common.{◌≡◌, Bool, true, ◌||◌, ◌∙◌, ◌↔◌, IsTrue, refl, sym, subst, arith}
use Rattle.mixed_graph.specs.Vocabulary.{has, graph_of, union}
use Rattle.hedge.specs.declared.hedge.Hedge.{Hedge}
use Rattle.hedge.specs.Vocabulary.{IsHedge}
use Rattle.finite_models.proofs.Bools.{not_both}
use Rattle.identify.proofs.RightAnswers.{if_ok}
use Rattle.natural_id.specs.Answers.{IsFound, IsSettled, is_hedge}
use Rattle.natural_id.proofs.Answered.{hedge_right, some_joint}
use Rattle.natural_id.proofs.identifying.natural.Goals as goal

pub settle-requires-clause-some : goal.settle-requires-clause-some
settle-requires-clause-some c = some_joint c.args.y.bits c.union-joint.result.bits c.requires.y_some (omega arith)
    (λ v e. c.union-joint.ensures.members v ∙ left (has c.args.y.bits v) (has c.args.z.bits v) e)
  where
    left : (p q : Bool) → p ≡ true → (p || q) ≡ true
    left p q h = grind (arith, h)

pub returns-in-Hedge-clause-right : goal.returns-in-Hedge-clause-right
returns-in-Hedge-clause-right c = hedge_right (graph_of c.args.g.now) c.args.g.now.valid c.args.x.bits c.args.m.bits c.args.y.bits c.args.z.bits
    c.requires.target c.union-joint.result.bits c.union-joint.ensures.mask c.in-Hedge.hedge c.in-Hedge.pair (subst (IsSettled (graph_of c.args.g.now) c.args.x.bits c.union-joint.result.bits) c.in-Hedge.is c.in_ok-hedge.ensures).0

pub returns-in-Hedge-clause-exact : goal.returns-in-Hedge-clause-exact
returns-in-Hedge-clause-exact c = (
  λ e. (c.in-Hedge.hedge, subst (λ j. IsHedge (graph_of c.args.g.now) c.args.x.bits j c.in-Hedge.hedge) c.union-joint.ensures.mask (subst (IsSettled (graph_of c.args.g.now) c.args.x.bits c.union-joint.result.bits) c.in-Hedge.is c.in_ok-hedge.ensures).1),
  λ k. refl,
)

pub returns-in-Formula-clause-exact : goal.returns-in-Formula-clause-exact
returns-in-Formula-clause-exact c = if_ok c.by_parts.result
    (IsFound (graph_of c.args.g.now) c.args.x.bits c.args.m.bits c.args.y.bits c.args.z.bits)
    (λ a. IsTrue (is_hedge a) ↔ ((h : Hedge) × IsHedge (graph_of c.args.g.now) c.args.x.bits (union c.args.y.bits c.args.z.bits) h))
    (λ a found. (
      λ e. absurd (not_both (is_hedge a) e found.1),
      λ k. absurd ((subst (IsSettled (graph_of c.args.g.now) c.args.x.bits c.union-joint.result.bits) c.in-Formula.is c.in_ok-hedge.ensures).1
          (k.0, subst (λ j. IsHedge (graph_of c.args.g.now) c.args.x.bits j k.0) (sym c.union-joint.ensures.mask) k.1)),
    ))
    c.by_parts.ensures
