use Rattle.std.proofs.Common.{true, refl, sym, subst, inl, []}
use Rattle.mixed_graph.specs.Vocabulary.{graph_of}
use Rattle.hedge.specs.Vocabulary.{IsHedge}
use Rattle.counter_models.specs.Vocabulary.{IsPairOf}
use Rattle.identification_theory.proofs.Bools.{clash}
use Rattle.identification_theory.specs.Vocabulary.{IsUnidentified}
use Rattle.prob_expr.specs.Vocabulary.{effect_on}
use Rattle.identify.specs.Vocabulary.{IfHedge, IsRight, IsHedgeOf}
use Rattle.conditional_id.proofs.DividingLaw.{join-zero}
use Rattle.conditional_id.proofs.Found.{exact_plain, turned_none}
use Rattle.conditional_id.proofs.identifying.without_condition.Goals as goal

pub returns-in-Formula-clause-exact : goal.returns-in-Formula-clause-exact
returns-in-Formula-clause-exact c = exact_plain (graph_of c.args.g.now) c.args.x.bits c.args.y.bits _ _ c.in-Formula.is c.in_ok-formula.ensures.exact

pub returns-in-Hedge-clause-answer : goal.returns-in-Hedge-clause-answer
returns-in-Hedge-clause-answer c =
    let g = graph_of c.args.g.now in
    let x = c.args.x.bits in
    let y = c.args.y.bits in (
      record {
        left = 0;
        moved = [];
        turned = turned_none g (effect_on x y) refl;
        joint = sym (join-zero y);
        settled_is = (λ e. inl refl, λ i. refl);
        unsettled = λ e. absurd (clash true refl e);
        walks = λ e. absurd (clash true refl e);
        stop = subst (λ a. IfHedge a (λ h pair. IsUnidentified g x y h.small.bits h.big.bits)) c.in-Hedge.is c.in_ok-formula.ensures.stop;
        built = subst (λ a. IfHedge a (λ h pair. IsHedgeOf g h)) c.in-Hedge.is c.in_ok-formula.ensures.data;
        hedge = subst (λ a. IfHedge a (λ h pair. IsHedge g x y h)) c.in-Hedge.is c.in_ok-formula.ensures.hedge;
        models = subst (λ a. IfHedge a (IsPairOf g x y)) c.in-Hedge.is c.in_ok-formula.ensures.pair;
      },
      subst (IsRight g x y) c.in-Hedge.is c.in_ok-formula.ensures.right,
    )

pub returns-in-Hedge-clause-exact : goal.returns-in-Hedge-clause-exact
returns-in-Hedge-clause-exact c = exact_plain (graph_of c.args.g.now) c.args.x.bits c.args.y.bits _ _ c.in-Hedge.is c.in_ok-formula.ensures.exact
