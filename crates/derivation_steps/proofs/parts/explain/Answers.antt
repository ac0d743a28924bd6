use Rattle.std.proofs.Common.{ℕ, ◌≡◌, ◌∙◌, List, None, ap, sym, subst, rules}
use Rattle.mixed_graph.specs.Vocabulary.{graph_of}
use Rattle.prob_expr.specs.declared.expr.Expr.{the_lemmas}
use Rattle.prob_expr.specs.Vocabulary.{masks_of, term_of, target_view}
use Rattle.prob_expr.specs.Tree.{Tree}
use Rattle.prob_expr.specs.View.{view}
use Rattle.prob_expr.specs.declared.expr.Expr as expr
use Rattle.do_derivation.specs.Vocabulary.{Makes, step_view}
use Rattle.derivation_steps.specs.Parts.{IsPart}
use Rattle.derivation_steps.proofs.parts.explain.Goals as goal

pub part_of-requires-clause-made : goal.part_of-requires-clause-made
part_of-requires-clause-made c =
    let g = graph_of c.args.g.now in
    let t = c.args.target.now in
    let d = c.requires.derived in
    let plan = step_view c.args.derivation.now.main in
    let same : view (expr.Prob t.y t.x t.given) ≡ term_of (target_view t) = search (rules, the_lemmas) in (
      d.0.main,
      subst (λ (e : Tree). Makes g (masks_of c.deref.result.now) plan e d.0.main) (sym same)
          (subst (λ (b : List ℕ). Makes g b plan (term_of (target_view t)) d.0.main) (sym (ap masks_of c.deref.ensures.value ∙ c.in_ok-made.ensures.sets)) d.1.main),
    )

pub returns : goal.returns
returns c =
    let g = graph_of c.args.g.now in
    let t = c.args.target.now in
    let plan = step_view c.args.derivation.now.main in
    let main = c.in_ok-main.main in
    let known = ap masks_of c.deref.ensures.value ∙ c.in_ok-made.ensures.sets in
    let same : view (expr.Prob t.y t.x t.given) ≡ term_of (target_view t) = search (rules, the_lemmas) in
    λ f h. record {
      lemmas = c.in_ok-made.made.parts.items;
      main = main;
      is = search rules;
      are_lemmas = c.in_ok-made.ensures.parts f.defs h.define;
      is_main = subst (λ (b : List ℕ). (x : Tree) → Makes g b plan (term_of (target_view t)) x → IsPart g b None plan (term_of (target_view t)) x main) known
          (subst (λ (e : Tree). (x : Tree) → Makes g (masks_of c.deref.result.now) plan e x → IsPart g (masks_of c.deref.result.now) None plan e x main) same
          c.in_ok-main.ensures) f.main h.main;
    }
