use Rattle.std.proofs.Common.{arith}
use Rattle.dag_reader.proofs.tokens.Lexer.next.Goals as goal

pub invariant_of-self : goal.invariant_of-self
invariant_of-self c = record {
  within = omega (arith, c.token_of.ensures.kept, c.past_white-bytes.ensures.within, c.args.self.now.within);
  text = c.token_of.ensures.after;
}
