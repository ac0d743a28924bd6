use Rattle.std.proofs.Common.{◌≡◌, ◌-◌, ◌||◌, ◌&&◌, ◌==◌, nat_lt, ap, ◌∙◌, sym, subst, arith}
use Rattle.std.proofs.lemmas.Bool.{le-ltb}
use Rattle.mixed_graph.specs.Vocabulary.{IsMixedGraph, graph_from}
use Rattle.mixed_graph.proofs.Restricting.{same_graph}
use Rattle.survey_command.specs.Draws.{state_after}
use Rattle.survey_command.specs.Drawn.{pairs_before, is_drawn, drawn_graph}
use Rattle.survey_command.specs.Rows.{is_in_row}
use Rattle.survey_command.proofs.Stepping.{after_none, state_after-add}
use Rattle.survey_command.proofs.Drawing.{both_rows, pairs_before_more, row_drawn, row_drawn_all, IsMixedGraph-drawn}
use Rattle.survey_command.proofs.random_graph.survey.survey_graph.Goals as goal
use Rattle.survey_command.proofs.random_graph.survey.survey_graph.Goals.{After-loop-i}

pub loop-i-init : goal.loop-i-init
loop-i-init c = (
  c.of-survey.ensures.state ∙ sym (after_none c.args.seed),
  λ u v. (let none = c.of-survey.ensures.directed u v in let low = le-ltb u 0 (omega arith) in grind (arith, none, low)),
  λ u v. (let none = c.of-survey.ensures.both u v in let low = le-ltb u 0 (omega arith) in let back = le-ltb v 0 (omega arith) in
      grind (arith, none, low, back)),
)

pub loop-i-preserved : goal.loop-i-preserved
loop-i-preserved c =
    let before = c.loop-i.invariant in
    let drawn = c.draw_row-survey.ensures in (
      drawn.state ∙ ap (λ x. state_after x (39 - c.loop-i.i)) before.0 ∙ state_after-add c.args.seed (pairs_before c.loop-i.i) (39 - c.loop-i.i)
          ∙ ap (λ n. state_after c.args.seed n) (pairs_before_more c.loop-i.i),
      λ u v.
          let old = before.1 u v in
          let new = drawn.directed u v in
          let row = row_drawn c.args.seed (λ r. nat_lt r 3) c.loop-i.i u v in
          let at = ap (λ x. is_in_row x (λ r. nat_lt r 3) c.loop-i.i 40 u v) before.0 in
          grind (arith, old, new, row, at),
      λ u v.
          let old = before.2 u v in
          let new = drawn.both u v in
          let row = row_drawn c.args.seed (λ r. r == 3) c.loop-i.i u v in
          let back = row_drawn c.args.seed (λ r. r == 3) c.loop-i.i v u in
          let start = before.0 in
          new ∙ rw (old, start, row, back) (both_rows (nat_lt u c.loop-i.i && is_drawn c.args.seed (λ r. r == 3) u v)
          (nat_lt v c.loop-i.i && is_drawn c.args.seed (λ r. r == 3) v u)
          (is_in_row (state_after c.args.seed (pairs_before c.loop-i.i)) (λ r. r == 3) c.loop-i.i 40 u v)
          (is_in_row (state_after c.args.seed (pairs_before c.loop-i.i)) (λ r. r == 3) c.loop-i.i 40 v u)),
    )

is_drawn_graph : (c : After-loop-i) → graph_from 40 c.loop-i.survey.directed.heads c.loop-i.survey.both.heads ≡ drawn_graph c.args.seed
is_drawn_graph c = same_graph 40 _ _ _ _
    (λ u v. c.loop-i.invariant.1 u v ∙ ap (λ i. nat_lt u i && is_drawn c.args.seed (λ r. nat_lt r 3) u v) end ∙ row_drawn_all c.args.seed (λ r. nat_lt r 3) u v)
    (λ u v. c.loop-i.invariant.2 u v ∙ ap (λ i. (nat_lt u i && is_drawn c.args.seed (λ r. r == 3) u v)
    || (nat_lt v i && is_drawn c.args.seed (λ r. r == 3) v u)) end
    ∙ ap (λ x. x || (nat_lt v 40 && is_drawn c.args.seed (λ r. r == 3) v u)) (row_drawn_all c.args.seed (λ r. r == 3) u v)
    ∙ ap (λ x. is_drawn c.args.seed (λ r. r == 3) u v || x) (row_drawn_all c.args.seed (λ r. r == 3) v u))
  where
    end : c.loop-i.i ≡ 40
    end = let past = c.loop-i-test.false in let last = c.loop-i.auto.i-end in omega (arith, past, last)

pub invariant_of-result : goal.invariant_of-result
invariant_of-result c = record {
  small = omega arith;
  agree = c.loop-i.survey.directed.agree;
  valid = subst IsMixedGraph (sym (is_drawn_graph (goal.at.invariant_of-result c).After-loop-i)) (IsMixedGraph-drawn c.args.seed);
}

pub returns : goal.returns
returns c = is_drawn_graph (goal.at.returns c).After-loop-i
