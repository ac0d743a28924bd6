use Rattle.std.proofs.Common.{◌<◌, ◌∙◌, sym, ap, length, get_or, arith}
use Rattle.mixed_graph.specs.Vocabulary.{graph_of}
use Rattle.finite_models.specs.Vocabulary.{parity_value, value_by}
use Rattle.finite_models.proofs.DataFits.{value_at}
use Rattle.hidden_models.proofs.filling.mechanism_value.Goals as goal

pub returns-in-Parity : goal.returns-in-Parity
returns-in-Parity c =
    let lt : c.args.v < length c.args.m.now.mechanisms.items = (let e = c.requires.accepted.mechanisms in let k = c.requires.vertex in omega arith) in
    let e = value_at (graph_of c.args.g.now) c.args.m.now c.args.v c.index.result.now lt (λ p. get_or c.args.values.now p 0)
    (λ j. get_or c.args.world.now j 0) in
    let f = ap (value_by (graph_of c.args.g.now) c.args.m.now c.args.v (λ p. get_or c.args.values.now p 0) (λ j. get_or c.args.world.now j 0))
    (sym c.index.ensures ∙ c.in-Parity.is) in
    c.value_of_parts.ensures
    ∙ ap (λ n. parity_value n c.args.m.now.mechanisms.items (λ p. get_or c.args.values.now p 0) (λ j. get_or c.args.world.now j 0)
    c.in-Parity.hedge c.in-Parity.carried) c.requires.accepted.mechanisms
    ∙ sym (e ∙ f)
