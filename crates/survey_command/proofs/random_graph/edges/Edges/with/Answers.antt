use Rattle.std.proofs.Common.{◌≡◌, ◌||◌, ◌&&◌, ◌==◌, sym, ◌∙◌, arith, get_or}
use Rattle.mixed_graph.specs.Vocabulary.{has}
use Rattle.mixed_graph.proofs.PairMasks.{mask_more, and_swap}
use Rattle.survey_command.proofs.random_graph.edges.Edges.with.Goals as goal

pub invariant_of-result : goal.invariant_of-result
invariant_of-result c = record {
  agree = λ u v.
      let back = mask_more c.args.self.tails c.args.b c.args.a v u (omega arith) (omega arith) in
      let on = mask_more c.args.self.heads c.args.a c.args.b u v (omega arith) (omega arith) in
      let same = c.args.self.agree u v in
      let swap = and_swap (v == c.args.b) (u == c.args.a) in
      back ∙ (let e : (has (get_or c.args.self.tails v 0) u || ((v == c.args.b) && (u == c.args.a)))
      ≡ (has (get_or c.args.self.heads u 0) v || ((u == c.args.a) && (v == c.args.b))) = grind (arith, same, swap) in e) ∙ sym on;
}

pub returns : goal.returns
returns c = λ u v. mask_more c.args.self.heads c.args.a c.args.b u v (omega arith) (omega arith)
