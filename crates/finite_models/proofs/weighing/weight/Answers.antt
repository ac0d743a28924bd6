use Rattle.std.proofs.Common.{refl, arith}
use Rattle.mixed_graph.specs.Vocabulary.{graph_of}
use Rattle.finite_models.proofs.Agreeing.{world_count-product, total-product}
use Rattle.finite_models.proofs.weighing.weight.Goals as goal

pub returns-then-worlds-clause-too_many : goal.returns-then-worlds-clause-too_many
returns-then-worlds-clause-too_many c =
    let e = world_count-product (graph_of c.args.g.now) c.args.m.now in let r = c.count_worlds-worlds.ensures in
    (λ same. omega arith, λ many. refl)

pub returns-then-worlds-clause-too_wide : goal.returns-then-worlds-clause-too_wide
returns-then-worlds-clause-too_wide c =
    let e = world_count-product (graph_of c.args.g.now) c.args.m.now in let r = c.count_worlds-worlds.ensures in
    (λ same. absurd (cc), λ both. absurd (let few = both.0 in omega arith))

pub returns-in-None-clause-too_many : goal.returns-in-None-clause-too_many
returns-in-None-clause-too_many c =
    let e = world_count-product (graph_of c.args.g.now) c.args.m.now in let r = c.count_worlds-worlds.ensures in
    (λ same. absurd (cc), λ many. absurd (omega arith))

pub returns-in-None-clause-too_wide : goal.returns-in-None-clause-too_wide
returns-in-None-clause-too_wide c =
    let e = world_count-product (graph_of c.args.g.now) c.args.m.now in let r = c.count_worlds-worlds.ensures in
    let t = total-product (graph_of c.args.g.now) c.args.m.now in let n = c.in-None.ensures in
    (λ same. (omega arith, omega arith), λ both. refl)

pub returns-in-Some-clause-too_many : goal.returns-in-Some-clause-too_many
returns-in-Some-clause-too_many c =
    let e = world_count-product (graph_of c.args.g.now) c.args.m.now in let r = c.count_worlds-worlds.ensures in
    (λ same. absurd (cc), λ many. absurd (omega arith))

pub returns-in-Some-clause-too_wide : goal.returns-in-Some-clause-too_wide
returns-in-Some-clause-too_wide c =
    let t = total-product (graph_of c.args.g.now) c.args.m.now in let n = c.in-Some.ensures in
    (λ same. absurd (cc), λ both. absurd (let wide = both.1 in let fits = n.0 in omega arith))
