use Rattle.std.proofs.Common.{◌≡◌, sym, subst, rules}
use Rattle.std.specs.Prelude.{All}
use Rattle.mixed_graph.specs.Vocabulary.{graph_of}
use Rattle.implications.specs.Vocabulary.{IsImplication}
use Rattle.broken_pairs.proofs.Walking.{no_model}
use Rattle.broken_pairs.proofs.broken.first_broken.Goals as goal

pub returns-clause-no_model : goal.returns-clause-no_model
returns-clause-no_model c =
    let g = graph_of c.args.g.now in
    let same : c.as_slice.result.now ≡ c.in_ok-list.list.items = search rules in
    no_model g c.args.g.now.valid c.args.c.now c.as_slice.result.now
    (subst (All (IsImplication g)) (sym same) c.in_ok-list.ensures.implications.each)
    c.first_in.result c.first_in.ensures.first c.first_in.ensures.refutes
