use Rattle.mixed_graph.specs.Vocabulary.{has, graph_of}
use Rattle.markov_equivalence.proofs.Separations.{same_separations}
use Rattle.equivalent_command.proofs.Queries.{own_ends}
use Rattle.equivalent_command.proofs.agreement.agreement.Goals as goal

pub carry_path-carried-requires-clause-path : goal.carry_path-carried-requires-clause-path
carry_path-carried-requires-clause-path c =
    let s = c.in-Some.sets in own_ends (graph_of c.args.first.now) (has s.x.bits) (has s.y.bits) (has s.given.bits)
    c.in-Some-open_path.path c.in-Some-open_path.ensures.found

pub returns-in-None : goal.returns-in-None
returns-in-None c =
    let s = c.in-Some.sets in let r = c.requires in
    let same = same_separations (graph_of c.args.first.now) (graph_of c.args.second.now) c.args.first.now.valid c.args.second.now.valid
    r.size r.first_arrows r.second_arrows r.equivalent in
    (c.in-Some.is, record { first = c.in-None.ensures.none; second = (same (has s.x.bits) (has s.y.bits) (has s.given.bits)).0 c.in-None.ensures.none })
