use Rattle.std.proofs.Common.{◌≡◌, ◌∙◌, true, List, refl, sym, subst}
use Rattle.mixed_graph.specs.Vocabulary.{graph_of}
use Rattle.prob_expr.specs.Vocabulary.{masks_of, are_terms}
use Rattle.prob_expr.specs.Tree.{Tree}
use Rattle.prob_expr.specs.View.{view}
use Rattle.do_derivation.specs.Plans.{Plan}
use Rattle.do_derivation.specs.Vocabulary.{step_view}
use Rattle.derivation_steps.specs.Moves.{moves_of}
use Rattle.derivation_steps.specs.Traces.{Leads, MadeInTurn}
use Rattle.derivation_steps.proofs.InTurn.{in_turn}
use Rattle.derivation_steps.proofs.parts.part_of.Goals as goal

pub trace-requires-clause-terms : goal.trace-requires-clause-terms
trace-requires-clause-terms c = subst (λ (e : Tree). are_terms c.args.g.now.n e ≡ true) (sym c.in_ok-first.ensures) c.requires.terms

pub trace-requires-clause-made : goal.trace-requires-clause-made
trace-requires-clause-made c =
    let g = graph_of c.args.g.now in
    let lemmas = masks_of c.args.lemmas.now in
    let x = c.requires.made.0 in (
      x,
      subst (λ (ps : List Plan). MadeInTurn g lemmas ps (view c.in_ok-first.first) x) (sym c.in_ok-steps.ensures)
          (subst (λ (e : Tree). MadeInTurn g lemmas (moves_of (step_view c.args.step.now)) e x) (sym c.in_ok-first.ensures)
          (in_turn g lemmas (step_view c.args.step.now) (view c.args.start) x c.requires.made.1)),
    )

pub returns : goal.returns
returns c =
    let g = graph_of c.args.g.now in
    let lemmas = masks_of c.args.lemmas.now in
    λ x made. record {
      number = refl;
      begins = refl;
      moves = c.in_ok-moves.ensures.moves ∙ c.in_ok-steps.ensures;
      leads = subst (λ (e : Tree). Leads g lemmas e c.in_ok-moves.moves.items x) c.in_ok-first.ensures
          (c.in_ok-moves.ensures.leads x (subst (λ (ps : List Plan). MadeInTurn g lemmas ps (view c.in_ok-first.first) x) (sym c.in_ok-steps.ensures)
          (subst (λ (e : Tree). MadeInTurn g lemmas (moves_of (step_view c.args.step.now)) e x) (sym c.in_ok-first.ensures)
          (in_turn g lemmas (step_view c.args.step.now) (view c.args.start) x made))));
    }
