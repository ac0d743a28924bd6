-- The laws of the procedure over experiments, with the case of an empty x.
use Rattle.std.specs.Prelude.{None}
use Rattle.std.proofs.Common.{ℕ, ◌+◌, ◌≡◌, ◌⊎◌, inl, inr, List, [], length}
use Rattle.do_derivation.specs.Plans.{Plan}
use Rattle.do_derivation.specs.Vocabulary.{no_plans, PlainLemma}
use Rattle.identification_theory.proofs.Orders.{order_of}
use Rattle.identification_theory.specs.Vocabulary.{Lists}
use Rattle.identification_theory.proofs.Answered.{formula_is_formed}
use Rattle.identification_theory.proofs.Faults.{no_fault}
use Rattle.mixed_graph.specs.Vocabulary.{MixedGraph}
use Rattle.prob_expr.specs.Vocabulary.{fault_in, Trees}
use Rattle.prob_expr.specs.Tree.{Tree, prob}
use Rattle.surrogates.proofs.Accepted.{accepted, observed_with}
use Rattle.surrogates.proofs.Blocked.{blocked_none, own_hedge, first_blocked}
use Rattle.surrogates.proofs.Formed.{composed_formed}
use Rattle.surrogates.proofs.PlainFirst.{plain_first}
use Rattle.surrogates.proofs.Unique.{surrogate_one, stop_same}
use Rattle.surrogates.specs.ExperimentLaws.{IsAcceptedWith, DerivedIsSurrogate, SurrogateIsAccepted, SurrogateIsFormed, StopHasHedge}
use Rattle.surrogates.specs.ExperimentLaws.{StopIsFirstBlocked, BlockedExcludesFormula, OneSurrogate, OneStopWith, PlainComesFirst}
use Rattle.surrogates.specs.Surrogates.{AreDerivedWith, AreFactoredWith, IsComposedOver, IsComposedBySteps}

-- the factors of a derivation, without its steps
factors_of : (g : MixedGraph) (zs : List ℕ) (k : ℕ) (cs : List ℕ) (ds : List Tree) (fs : Trees) (ls : List PlainLemma) (lists : Lists)
    → AreDerivedWith g zs k cs ds fs ls lists → AreFactoredWith g zs k cs ds fs
factors_of g zs k _ _ _ _ _ AreDerivedWith.none = AreFactoredWith.none
factors_of g zs k _ _ _ _ _ (AreDerivedWith.next {cs = cs} {ds = ds} {es = es} {fs = fs} {more_ls = ls} {lists = lists} h t r) =
    AreFactoredWith.next h t.made (factors_of g zs (k + length ds) cs es fs ls lists r)

-- a formula that comes with a derivation over experiments is the formula of the procedure over experiments
pub derived_is_surrogate : DerivedIsSurrogate
derived_is_surrogate g zs x y f t s = record { order = s.order; is_order = s.is_order; answer = go s.answer }
  where
    go : ((x ≡ 0) × (f ≡ record { defs = []; main = prob y 0 0 }) × (t ≡ record { lemmas = []; main = Plan.Then no_plans }))
        ⊎ ((x ≡ 0 → ⊥) × IsComposedBySteps g s.order zs x y f t)
        → ((x ≡ 0) × (f ≡ record { defs = []; main = prob y 0 0 })) ⊎ ((x ≡ 0 → ⊥) × IsComposedOver g s.order zs x y f)
    go (inl e) = inl (e.0, e.1)
    go (inr c) = inr (
      c.0,
      record {
        split = c.1.split;
        factors = c.1.factors;
        are_factored = factors_of g zs 0 c.1.split.districts f.defs c.1.factors t.lemmas c.1.lists c.1.are_derived;
        main = c.1.main;
      },
    )

-- the derivation over experiments is accepted, with terms observed or under one of the experiments
pub surrogate_is_accepted : SurrogateIsAccepted
surrogate_is_accepted g ok zs sets x y tgt f t s = go s.answer
  where
    go : ((x ≡ 0) × (f ≡ record { defs = []; main = prob y 0 0 }) × (t ≡ record { lemmas = []; main = Plan.Then no_plans }))
        ⊎ ((x ≡ 0 → ⊥) × IsComposedBySteps g s.order zs x y f t) → IsAcceptedWith g zs x y f t
    go (inl e) = observed_with g zs x y f t e.0 e.1 e.2
    go (inr c) = accepted g ok s.order (order_of g s.order s.is_order) zs sets x y tgt f t c.1

-- the check of formulas finds no fault in the formula over experiments
pub surrogate_is_formed : SurrogateIsFormed
surrogate_is_formed g ok zs sets x y tgt f s = go s.answer
  where
    go : ((x ≡ 0) × (f ≡ record { defs = []; main = prob y 0 0 })) ⊎ ((x ≡ 0 → ⊥) × IsComposedOver g s.order zs x y f) → fault_in g.vertices f ≡ None
    go (inl e) = formula_is_formed g ok x y tgt f (record { order = s.order; is_order = s.is_order; answer = inl e })
    go (inr c) = no_fault g.vertices f (composed_formed g ok s.order (order_of g s.order s.is_order) zs sets x y tgt f c.1)

-- where the procedure over experiments stops, there is a hedge for the effect of x on y
pub stop_has_hedge : StopHasHedge
stop_has_hedge g ok zs x y small big roots tgt s are = own_hedge g ok zs x y small big roots tgt s are

-- the procedure over experiments stops at the first blocked district
pub stop_is_first_blocked : StopIsFirstBlocked
stop_is_first_blocked g ok zs x y small big roots tgt s are = record {
  order = s.order;
  is_order = s.is_order;
  split = s.split;
  first = first_blocked g ok zs x y small big roots tgt s are;
}

-- where some district is blocked, there is no formula over experiments
pub blocked_excludes_formula : BlockedExcludesFormula
blocked_excludes_formula g ok zs x y tgt b f s = blocked_none g ok zs x y b f s

-- P(y | do(x)) has at most one formula over the same experiments
pub one_surrogate : OneSurrogate
one_surrogate g zs x y f h s t = surrogate_one g x y zs f h s t

pub one_stop_with : OneStopWith
one_stop_with g zs x y small big small2 big2 s t = stop_same g x y zs small big small2 big2 s t

-- an effect identified from observations has the same formula over any experiments
pub plain_comes_first : PlainComesFirst
plain_comes_first g ok zs x y f i = plain_first g ok zs x y f i
