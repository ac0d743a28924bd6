use Rattle.std.proofs.Common.{◌↔◌, IsTrue, subst, arith}
use Rattle.mixed_graph.specs.Vocabulary.{has, IsAncestor, IsDescendant, graph_of}
use Rattle.adjustment.proofs.Causal.{between_from, below_from, above_from}
use Rattle.adjustment.proofs.proper_paths.proper.proper_causal.Goals as goal

pub returns : goal.returns
returns c = λ v.
    let g = graph_of c.args.g.now in
    let x = has c.args.x.bits in
    let y = has c.args.y.bits in
    let below = subst (λ k. IsTrue (has c.descendants-from.result.bits v) ↔ IsDescendant k x v) c.cut_into-cut.ensures (c.descendants-from.ensures v) in
    let above = subst (λ k. IsTrue (has c.ancestors-towards.result.bits v) ↔ IsAncestor k y v) c.cut_into-cut.ensures (c.ancestors-towards.ensures v) in
    let meet = c.intersection.ensures.members v in
    let rest = c.difference.ensures.members v in (
      λ e. between_from g c.args.g.now.valid x y v (grind arith) (below.0 (grind arith)) (above.0 (grind arith)),
      λ b. (let o = b.outside in let p = below.1 (below_from g c.args.g.now.valid x y c.requires.x v b) in let q =
          above.1 (above_from g c.args.g.now.valid x y c.requires.x v b) in grind arith),
    )
