use Rattle.std.proofs.Common.{◌≡◌, ◌<◌, true, length, refl, sym, subst, ◌∙◌, arith}
use Rattle.std.specs.Prelude.{None}
use Rattle.std.proofs.lemmas.Bool.{eq-eqb}
use Rattle.mixed_graph.specs.Vocabulary.{has, IsAncestor, Within, Apart, graph_of, members_below, union}
use Rattle.prob_expr.specs.Vocabulary.{EqualsEffect, effect_on, fault_in, formula_view, is_do_free}
use Rattle.identification_theory.specs.Names.{FormulaNamesOnly}
use Rattle.identification_theory.specs.Vocabulary.{IsIdentified}
use Rattle.identify.specs.Answers.{IfFormulaAlone}
use Rattle.treated_command.specs.Sentences.{is_single}
use Rattle.treated_command.proofs.Sets.{joint_within, joint_apart, joint_some}
use Rattle.evaluate_treated.proofs.Known.{by_joint, known_path}
use Rattle.evaluate_treated.proofs.first.with_joint.Goals as goal

pub identify_formula-requires-clause-x_within : goal.identify_formula-requires-clause-x_within
identify_formula-requires-clause-x_within c =
    (known_path c.args.diagram.now c.requires.0 c.args.asked c.args.c c.requires.1).0.sets.x_within

pub identify_formula-requires-clause-y_within : goal.identify_formula-requires-clause-y_within
identify_formula-requires-clause-y_within c =
    let s = c.args.asked.sets in
    subst (λ k. Within c.args.diagram.now.observed.graph.n (has k)) (sym c.union-joint.ensures.mask)
    (joint_within c.args.diagram.now.observed.graph.n s.x.bits s.y.bits s.given.bits
    (known_path c.args.diagram.now c.requires.0 c.args.asked c.args.c c.requires.1).0.sets)

pub identify_formula-requires-clause-apart : goal.identify_formula-requires-clause-apart
identify_formula-requires-clause-apart c =
    let s = c.args.asked.sets in
    subst (λ k. Apart (has s.x.bits) (has k)) (sym c.union-joint.ensures.mask)
    (joint_apart c.args.diagram.now.observed.graph.n s.x.bits s.y.bits s.given.bits
    (known_path c.args.diagram.now c.requires.0 c.args.asked c.args.c c.requires.1).0.sets)

pub identify_formula-requires-clause-some : goal.identify_formula-requires-clause-some
identify_formula-requires-clause-some c =
    let s = c.args.asked.sets in let k = (known_path c.args.diagram.now c.requires.0 c.args.asked c.args.c c.requires.1).0 in
    subst (λ m. 0 < m) (sym c.union-joint.ensures.mask)
    (joint_some c.args.diagram.now.observed.graph.n s.x.bits s.y.bits s.given.bits k.sets k.some)

pub returns-in-Ok-Formula : goal.returns-in-Ok-Formula
returns-in-Ok-Formula c = λ q is.
    let d = c.args.diagram.now in let g = graph_of d.observed.graph in let a = c.args.asked in let x = a.sets.x.bits in
    let yz = union a.sets.y.bits a.sets.given.bits in let f = formula_view c.in-Ok-Formula.formula in
    let e = c.in-Ok-Formula.ensures in let at = c.in-Ok-Formula.field-0-is in let mask = c.union-joint.ensures.mask in
    let one : c.count.result ≡ 1 = (let no = c.if-count-ne1.false in omega (arith, no)) in
    let single : is_single a ≡ true = eq-eqb (length (members_below (has x) 64)) 1 (sym c.count.ensures ∙ one) in
    let found : IsIdentified g x yz f =
    subst (λ k. IsIdentified g x k f) mask (subst (λ k. IfFormulaAlone k (IsIdentified g x c.union-joint.result.bits)) at e.identified) in
    let formed : fault_in g.vertices f ≡ None = subst (λ k. IfFormulaAlone k (λ h. fault_in g.vertices h ≡ None)) at e.formed in
    let free : is_do_free f ≡ true = subst (λ k. IfFormulaAlone k (λ h. is_do_free h ≡ true)) at e.do_free in
    let names : FormulaNamesOnly (IsAncestor g (has yz)) f =
    subst (λ k. FormulaNamesOnly (IsAncestor g (has k)) f) mask
    (subst (λ k. IfFormulaAlone k (FormulaNamesOnly (IsAncestor g (has c.union-joint.result.bits)))) at e.names) in
    let equals : EqualsEffect g (effect_on x yz) f =
    subst (λ k. EqualsEffect g (effect_on x k) f) mask
    (subst (λ k. IfFormulaAlone k (EqualsEffect g (effect_on x c.union-joint.result.bits))) at e.effect) in (
      record {
        names = refl;
        graph = refl;
        identified = by_joint d q a c.args.c is single f formed free names equals;
        found = record { path = c.args.c; answered = is; single = single; formula = found };
      },
      (refl, (known_path d q a c.args.c is).1),
    )
