-- The law of this crate, with the case of an empty x.
use Rattle.std.proofs.Common.{ℕ, ◌≡◌, refl, sym, subst, inl, inr, List, []}
use Rattle.do_derivation.specs.Plans.{Plan}
use Rattle.do_derivation.specs.Vocabulary.{PlainDerivation, no_plans}
use Rattle.identification_theory.proofs.Derivation.{procedure}
use Rattle.identification_theory.proofs.Orders.{IsOrderFrom, order_of}
use Rattle.identification_theory.specs.Derivations.{IsDerivedBy}
use Rattle.identification_theory.specs.Laws.{IsAcceptedFor, FormulaIsAccepted}
use Rattle.identification_theory.specs.Procedure.{IsIdentifiedBy, IsTarget}
use Rattle.mixed_graph.specs.Vocabulary.{IsMixedGraph, MixedGraph}
use Rattle.prob_expr.specs.Tree.{prob}
use Rattle.prob_expr.specs.Vocabulary.{PlainFormula}

-- P(y) is P(y | do(nothing)) without a step
pub observed_accepted : (g : MixedGraph) (x y : ℕ) (f : PlainFormula) (d : PlainDerivation) → x ≡ 0 → f ≡ record { defs = []; main = prob y 0 0 } → d
    ≡ record { lemmas = []; main = Plan.Then no_plans } → IsAcceptedFor g x y f d
observed_accepted g x y f d ex ef ed = subst (λ z. IsAcceptedFor g z y f d) (sym ex)
    (subst (λ z. IsAcceptedFor g 0 y z d) (sym ef) (subst (λ z. IsAcceptedFor g 0 y (record { defs = []; main = prob y 0 0 }) z) (sym ed)
    (record { main_deep = refl; lemmas_deep = refl; accepted = record { sets = refl; define = tt; main = refl; listed = refl } })))

-- by any order in which each vertex comes after its parents
pub accepted_by : (g : MixedGraph) → IsMixedGraph g → (o : List ℕ) → IsOrderFrom g 0 o → (x y : ℕ) → IsTarget g x y → (f : PlainFormula)
    → IsIdentifiedBy g o x y f → (d : PlainDerivation) × IsDerivedBy g o x y f d × IsAcceptedFor g x y f d
accepted_by g ok o order x y tgt f (inr t) = let p = procedure g ok o order x y tgt f t.1 in (p.derivation, inr (t.0, p.by), p.accepted)
accepted_by g ok o order x y tgt f (inl t) = (
  record { lemmas = []; main = Plan.Then no_plans },
  inl (t.0, t.1, refl),
  observed_accepted g x y f (record { lemmas = []; main = Plan.Then no_plans }) t.0 t.1 refl,
)

-- the formula of identification has its derivation, which is accepted, also where x is empty
pub formula_is_accepted : FormulaIsAccepted
formula_is_accepted g ok x y tgt f i = let r = accepted_by g ok i.order (order_of g i.order i.is_order) x y tgt f i.answer in
    (r.0, record { order = i.order; is_order = i.is_order; answer = r.1 }, r.2)
