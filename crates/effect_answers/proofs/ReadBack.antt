-- The certificate of a right answer is read back.
use Rattle.std.proofs.Common.{◌≡◌, ℕ, List, None, sym, subst}
use Rattle.mixed_graph.specs.Vocabulary.{MixedGraph, IsMixedGraph}
use Rattle.prob_expr.specs.Vocabulary.{fault_in, PlainTarget, PlainFormula, effect_on}
use Rattle.do_derivation.specs.Accepts.{Accepts}
use Rattle.do_derivation.specs.Vocabulary.{PlainDerivation}
use Rattle.hedge.specs.declared.hedge.Hedge.{Hedge}
use Rattle.hedge.specs.Vocabulary.{IsHedge}
use Rattle.certificate.specs.Vocabulary.{hedge_view, formula, hedge}
use Rattle.certificate_json.specs.Vocabulary.{IsShort, IsWritable, IsTargetWithin, IsBareTarget, IsFormulaShallow}
use Rattle.certificate_json.proofs.Keeping.{links_few, links_blank}
use Rattle.certificate_json.proofs.ReadsBack.{text_back}
use Rattle.effect_answers.specs.Certificates.{IsReadBack}
use Rattle.effect_answers.specs.Hedges.{HasArrays}
use Rattle.effect_answers.proofs.Within.{derivation_within}
use Rattle.effect_answers.proofs.Writing.{hedge_within}

-- that of a formula with an accepted derivation, where both nest little
pub formula_back : (q : MixedGraph) → IsMixedGraph q → (zs : List ℕ) (t : PlainTarget) (f : PlainFormula) (d : PlainDerivation) → IsTargetWithin q.vertices t
    → fault_in q.vertices f ≡ None → Accepts q zs t f d → IsShort d → IsFormulaShallow f d → IsReadBack q.vertices (formula t f d)
formula_back q valid zs t f d target formed accepted short shallow = λ names are sized. text_back names (formula t f d) are
    (subst (λ (n : ℕ). IsWritable n (formula t f d)) (sym sized) (target, formed, derivation_within q valid zs t f d target accepted)) short shallow

-- and that of a hedge
pub hedge_back : (q : MixedGraph) (x y : ℕ) (h : Hedge) → IsBareTarget q.vertices (effect_on x y) → HasArrays h → IsHedge q x y h
    → IsReadBack q.vertices (hedge (effect_on x y) (hedge_view h))
hedge_back q x y h target arrays is = λ names are sized. text_back names (hedge (effect_on x y) (hedge_view h)) are
    (subst (λ (n : ℕ). IsWritable n (hedge (effect_on x y) (hedge_view h))) (sym sized) (target, hedge_within q x y h arrays.links is))
    (arrays.choice, links_few h.links, links_blank h.links) tt
