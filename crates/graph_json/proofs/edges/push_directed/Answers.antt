use Rattle.std.proofs.Common.{◌≡◌, ℕ, ◌&&◌, ap}
use Rattle.std.specs.Prelude.{nat_lt}
use Rattle.mixed_graph.specs.Vocabulary.{has, graph_of}
use Rattle.graph_json.proofs.EdgeRows.{no_rows, one_row_more, cut_off}
use Rattle.graph_json.proofs.edges.push_directed.Goals as goal
use Rattle.graph_json.proofs.edges.push_directed.Goals.{After-intersection}

-- the row that is written
abbrev row_is : (c : After-intersection) → (v : ℕ) → has c.intersection.result.bits v
    ≡ ((graph_of c.args.graph.now).arrow c.loop-a.a v && nat_lt v c.args.graph.now.n)
row_is c = cut_off c.args.graph.now.n c.row-row.result.bits c.below-all.result.bits c.intersection.result.bits
    ((graph_of c.args.graph.now).arrow c.loop-a.a) (λ v. ap (λ m. has m v) c.row-row.ensures) c.below-all.ensures.members c.intersection.ensures.members

pub loop-a-init : goal.loop-a-init
loop-a-init c = no_rows c.args.names.now c.args.graph.now.n (graph_of c.args.graph.now).arrow c.args.object.now

pub loop-a-preserved : goal.loop-a-preserved
loop-a-preserved c =
    let g = c.args.graph.now in
    one_row_more c.args.names.now g.n (graph_of g).arrow c.loop-a.a c.intersection.result.bits g.small
    (row_is ((goal.at.loop-a-preserved c).After-intersection)) c.args.object.now c.loop-a.object c.push_row.new.object
    c.loop-a.invariant c.in_ok-push_row.ensures
