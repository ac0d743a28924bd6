use Rattle.std.proofs.Common.{length, get_or}
use Rattle.std.proofs.lemmas.Bool.{eq-eqb, eqb-true}
use Rattle.mixed_graph.specs.Vocabulary.{has, graph_of}
use Rattle.finite_models.specs.Tables.{radix_range}
use Rattle.finite_models.specs.Data.{children_of, weights_of}
use Rattle.finite_models.proofs.Capped.{capped_is}
use Rattle.finite_models.proofs.tables.has_table_length.Goals as goal

pub returns : goal.returns
returns c =
    let both = capped_is (radix_range c.args.g.now.n (λ p. (graph_of c.args.g.now).arrow p c.args.v) (λ p. get_or c.args.m.now.sizes.items p 0))
    (length c.args.outputs.now)
    c.causes_range.result c.parents_range-start.result
    (radix_range (length c.args.m.now.causes.items) (λ j. has (children_of c.args.m.now.causes.items j) c.args.v)
    (λ j. length (weights_of c.args.m.now.causes.items j)))
    c.parents_range-start.ensures c.causes_range.ensures in
    (λ t. both.0 (eqb-true _ _ t), λ e. eq-eqb _ _ (both.1 e))
