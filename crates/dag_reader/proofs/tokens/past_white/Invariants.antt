use Rattle.std.proofs.Common.{◌≡◌, ◌≤◌, true, length}
use Rattle.std.specs.Str.{is_utf8}
use Rattle.dag_reader.specs.Tokens.{past_white}
use Rattle.dag_reader.proofs.tokens.past_white.Given as goal

abbrev pub invariant-loop-rest : goal.invariant-loop-rest
invariant-loop-rest l = record {
  rest : past_white l.rest ≡ past_white l.bytes;
  text : is_utf8 l.rest ≡ true;
  within : length l.rest ≤ length l.bytes;
}

abbrev pub decreases-loop-rest : goal.decreases-loop-rest
decreases-loop-rest l = length l.rest
