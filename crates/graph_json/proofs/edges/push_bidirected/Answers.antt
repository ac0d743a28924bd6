use Rattle.std.proofs.Common.{◌≡◌, ℕ, Bool, ◌&&◌, ap}
use Rattle.std.specs.Prelude.{nat_lt}
use Rattle.mixed_graph.specs.Vocabulary.{has, MixedGraph, graph_of}
use Rattle.graph_json.proofs.EdgeRows.{no_rows, one_row_more, cut_off, behind_in}
use Rattle.graph_json.proofs.edges.push_bidirected.Goals as goal
use Rattle.graph_json.proofs.edges.push_bidirected.Goals.{After-intersection}

-- a bidirected edge from its lower end
abbrev upward : MixedGraph → ℕ → ℕ → Bool
upward q a b = q.both a b && nat_lt a b

-- the row that is written
abbrev row_is : (c : After-intersection) → (v : ℕ) → has c.intersection.result.bits v
    ≡ (upward (graph_of c.args.graph.now) c.loop-a.a v && nat_lt v c.args.graph.now.n)
row_is c =
    let q = graph_of c.args.graph.now in
    cut_off c.args.graph.now.n c.difference-later.result.bits c.below-all.result.bits c.intersection.result.bits (upward q c.loop-a.a)
    (behind_in c.loop-a.a c.row-row.result.bits c.below.result.bits c.difference-later.result.bits (q.both c.loop-a.a)
    (λ v. ap (λ m. has m v) c.row-row.ensures) c.below.ensures.members c.difference-later.ensures.members)
    c.below-all.ensures.members c.intersection.ensures.members

pub loop-a-init : goal.loop-a-init
loop-a-init c = no_rows c.args.names.now c.args.graph.now.n (upward (graph_of c.args.graph.now)) c.args.object.now

pub loop-a-preserved : goal.loop-a-preserved
loop-a-preserved c =
    let g = c.args.graph.now in
    one_row_more c.args.names.now g.n (upward (graph_of g)) c.loop-a.a c.intersection.result.bits g.small
    (row_is ((goal.at.loop-a-preserved c).After-intersection)) c.args.object.now c.loop-a.object c.push_row.new.object
    c.loop-a.invariant c.in_ok-push_row.ensures
