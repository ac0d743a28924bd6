use Rattle.std.proofs.Common.{◌≡◌, ◌<◌, ℕ, drop, get_or}
use Rattle.do_derivation.specs.Shapes.{is_list_of}
use Rattle.do_derivation.proofs.term_moves.is_list_of.Given as goal

abbrev pub invariant-loop-v : goal.invariant-loop-v
invariant-loop-v l = record {
  left : is_list_of (drop l.v-index l.list) l.rest.bits ≡ is_list_of l.list l.fn.set.bits;
  small : (k d : ℕ) → k < l.v-index → get_or l.list k d < 64;
}
