use Rattle.std.proofs.Common.{◌≡◌, Bool, false, ap, sym, subst}
use Rattle.mixed_graph.specs.Vocabulary.{graph_of}
use Rattle.finite_models.proofs.Bools.{not_both}
use Rattle.natural_id.specs.declared.answers.Natural.{Natural}
use Rattle.natural_id.specs.Vocabulary.{IfFormula, IsFormulaByParts, IsRight, is_hedge}
use Rattle.natural_command.specs.Right.{HasNoHedge, DecidesPlain, DecidesCertified}
use Rattle.natural_command.proofs.Ways.{target_of}
use Rattle.natural_command.proofs.reply.identified.Goals as goal
use Rattle.natural_command.proofs.reply.identified.Goals.{In_ok-formula}

pub natural-requires-clause-target : goal.natural-requires-clause-target
natural-requires-clause-target c = target_of (graph_of c.args.g.now) c.args.question c.requires.sets c.requires.before

-- the answer is right
right : (c : In_ok-formula) (a : Natural) → c.in_ok-formula.field-0 ≡ a
    → (let q = c.args.question in IsRight (graph_of c.args.g.now) q.x.bits q.through.bits q.y.bits q.given.bits a)
right c a is = let q = c.args.question in
    subst (IsRight (graph_of c.args.g.now) q.x.bits q.through.bits q.y.bits q.given.bits) is c.in_ok-formula.ensures.right

-- a formula is that which the procedure finds
found : (c : In_ok-formula) (a : Natural) → c.in_ok-formula.field-0 ≡ a
    → (let q = c.args.question in IfFormula a (IsFormulaByParts (graph_of c.args.g.now) q.x.bits q.through.bits q.y.bits q.given.bits))
found c a is = let q = c.args.question in
    subst (λ (b : Natural). IfFormula b (IsFormulaByParts (graph_of c.args.g.now) q.x.bits q.through.bits q.y.bits q.given.bits)) is c.in_ok-formula.ensures.formula

-- where no hedge is answered, there is none
no_hedge : (c : In_ok-formula) → is_hedge c.in_ok-formula.field-0 ≡ false → HasNoHedge (graph_of c.args.g.now) c.args.question
no_hedge c e h is = not_both (is_hedge c.in_ok-formula.field-0) (c.in_ok-formula.ensures.exact.1 (h, is)) e

pub returns-then-not-certified : goal.returns-then-not-certified
returns-then-not-certified c =
    let at = (goal.at.returns-then-not-certified c).In_ok-formula in
    let r = right at _ c.in-Formula.is in
    subst (λ (b : Bool). DecidesPlain b (graph_of c.args.g.now) c.args.question c.args.asked c.in-Formula.formula) (sym c.if-not-certified.true)
    (c.requires.asked, record { equals = r.0; found = found at _ c.in-Formula.is; clear = r.1; no_hedge = no_hedge at (ap is_hedge c.in-Formula.is) })

pub natural_certificate-requires-clause-no_hedge : goal.natural_certificate-requires-clause-no_hedge
natural_certificate-requires-clause-no_hedge c =
    no_hedge (goal.at.natural_certificate-requires-clause-no_hedge c).In_ok-formula (ap is_hedge c.in-Formula.is)

pub returns-in_ok-certificate-in-Formula : goal.returns-in_ok-certificate-in-Formula
returns-in_ok-certificate-in-Formula c =
    let at = (goal.at.returns-in_ok-certificate-in-Formula c).In_ok-formula in
    subst (λ (b : Bool). DecidesCertified b (graph_of c.args.g.now) c.args.question c.args.asked c.in_ok-certificate-in-Formula.certificate)
    (sym c.if-not-certified.false) (
      c.requires.asked,
      record {
        clear = (right at _ c.in-Formula.is).1;
        no_hedge = no_hedge at (ap is_hedge c.in-Formula.is);
        certificate = c.in_ok-certificate-in-Formula.ensures;
      },
    )

pub returns-in-Hedge : goal.returns-in-Hedge
returns-in-Hedge c =
    let at = (goal.at.returns-in-Hedge c).In_ok-formula in
    let r = right at _ c.in-Hedge.is in
    (c.requires.asked, record { right = r.0; evidence = c.in_ok-formula.ensures.exact.0 (ap is_hedge c.in-Hedge.is); no_formula = r.1 })

pub returns-in_ok-other-in-Witness : goal.returns-in_ok-other-in-Witness
returns-in_ok-other-in-Witness c =
    let at = (goal.at.returns-in_ok-other-in-Witness c).In_ok-formula in
    let r = right at _ c.in-Witness.is in
    (c.requires.asked, record { witness = r.0; lost = r.1; no_hedge = no_hedge at (ap is_hedge c.in-Witness.is); another = c.in_ok-other-in-Witness.ensures })

pub returns-in_ok-other-in-Split : goal.returns-in_ok-other-in-Split
returns-in_ok-other-in-Split c =
    let at = (goal.at.returns-in_ok-other-in-Split c).In_ok-formula in
    let r = right at _ c.in-Split.is in
    (c.requires.asked, record { split = r.0; lost = r.1; no_hedge = no_hedge at (ap is_hedge c.in-Split.is); another = c.in_ok-other-in-Split.ensures })
