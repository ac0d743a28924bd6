use Rattle.std.proofs.Common.{◌≡◌, ℕ, true, List, sym, subst, ◌∙◌}
use Rattle.std.specs.Str.{is_utf8}
use Rattle.dag_reader.proofs.Fronts.{edge_here, behind_sign}
use Rattle.dag_reader.proofs.tokens.edge_first.Goals as goal

pub returns-then-ends_edge-clause-token : goal.returns-then-ends_edge-clause-token
returns-then-ends_edge-clause-token c =
    edge_here c.args.bytes.now c.past_white.result.now c.in_ok-arrow.rest.now c.in_ok-arrow.arrow c.past_white.ensures.rest c.in_ok-arrow.ensures.arrow
    (sym c.ends_edge.ensures ∙ c.if-ends_edge.true)

pub returns-then-ends_edge-clause-after : goal.returns-then-ends_edge-clause-after
returns-then-ends_edge-clause-after c =
    behind_sign c.in_ok-arrow.arrow c.in_ok-arrow.rest.now (subst (λ (l : List ℕ). is_utf8 l ≡ true) c.in_ok-arrow.ensures.arrow c.past_white.ensures.text)
