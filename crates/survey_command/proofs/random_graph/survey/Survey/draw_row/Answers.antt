use Rattle.std.proofs.Common.{suc, ◌≡◌, ◌+◌, ◌-◌, ◌||◌, ◌&&◌, ◌==◌, nat_lt, ap, ◌∙◌, sym, arith, get_or}
use Rattle.mixed_graph.specs.Vocabulary.{has}
use Rattle.survey_command.specs.Draws.{next_state, state_after, draw_of}
use Rattle.survey_command.proofs.Stepping.{after_none, after_more}
use Rattle.survey_command.proofs.Drawing.{row_none, row_more, both_more}
use Rattle.survey_command.specs.Rows.{is_in_row}
use Rattle.survey_command.proofs.random_graph.survey.Survey.draw_row.Goals as goal
use Rattle.survey_command.proofs.random_graph.survey.Survey.draw_row.Goals.{After-loop-j}

pub loop-j-init : goal.loop-j-init
loop-j-init c = (
  sym (after_none c.args.self.state) ∙ ap (λ n. state_after c.args.self.state n) (omega arith),
  λ u v. (let none = row_none c.args.self.state (λ r. nat_lt r 3) c.args.i u v in grind (arith, none)),
  λ u v. (let none = row_none c.args.self.state (λ r. r == 3) c.args.i u v in let back = row_none c.args.self.state (λ r. r == 3) c.args.i v u in
      grind (arith, none, back)),
)

pub loop-j-preserved : goal.loop-j-preserved
loop-j-preserved c =
    let from = c.loop-j.auto.j in
    let before = c.loop-j.invariant in
    let drawn = c.draw_pair-survey.ensures in
    let next : suc (c.loop-j.j - (c.args.i + 1)) ≡ c.loop-j.j + 1 - (c.args.i + 1) = omega (arith, from) in (
      drawn.state ∙ ap (λ x. next_state x) before.0 ∙ sym (after_more c.args.self.state (c.loop-j.j - (c.args.i + 1)))
          ∙ ap (λ n. state_after c.args.self.state n) next,
      λ u v.
          let old = before.1 u v in
          let new = drawn.directed u v in
          let more = row_more c.args.self.state (λ r. nat_lt r 3) c.args.i c.loop-j.j u v (omega (arith, from)) in
          let at = ap (λ x. nat_lt (draw_of (next_state x)) 3) before.0 in
          grind (arith, old, new, more, at),
      λ u v.
          let old = before.2 u v in
          let new = drawn.both u v in
          let more = row_more c.args.self.state (λ r. r == 3) c.args.i c.loop-j.j u v (omega (arith, from)) in
          let back = row_more c.args.self.state (λ r. r == 3) c.args.i c.loop-j.j v u (omega (arith, from)) in
          let at = ap (λ x. draw_of (next_state x) == 3) before.0 in
          new ∙ rw (old, at, more, back) (both_more (has (get_or c.args.self.both.heads u 0) v)
          (is_in_row c.args.self.state (λ r. r == 3) c.args.i c.loop-j.j u v) (is_in_row c.args.self.state (λ r. r == 3) c.args.i c.loop-j.j v u)
          ((u == c.args.i) && (v == c.loop-j.j)) ((v == c.args.i) && (u == c.loop-j.j))
          (draw_of (next_state (state_after c.args.self.state (c.loop-j.j - (c.args.i + 1)))) == 3)),
    )

at_end : (c : After-loop-j) → c.loop-j.j ≡ 40
at_end c =
    let few = c.requires in
    let end = c.loop-j.auto.j-end (omega (arith, few)) in
    let past = c.loop-j-test.false in omega (arith, end, past)

pub returns-clause-state : goal.returns-clause-state
returns-clause-state c =
    let end = at_end c in
    let steps : c.loop-j.j - (c.args.i + 1) ≡ 39 - c.args.i = omega (arith, end) in c.loop-j.invariant.0 ∙ ap (λ n. state_after c.args.self.state n) steps

pub returns-clause-directed : goal.returns-clause-directed
returns-clause-directed c = λ u v. c.loop-j.invariant.1 u v
    ∙ ap (λ j. has (get_or c.args.self.directed.heads u 0) v || is_in_row c.args.self.state (λ r. nat_lt r 3) c.args.i j u v) (at_end c)

pub returns-clause-both : goal.returns-clause-both
returns-clause-both c = λ u v. c.loop-j.invariant.2 u v
    ∙ ap (λ j. has (get_or c.args.self.both.heads u 0) v || (is_in_row c.args.self.state (λ r. r == 3) c.args.i j u v
    || is_in_row c.args.self.state (λ r. r == 3) c.args.i j v u)) (at_end c)
