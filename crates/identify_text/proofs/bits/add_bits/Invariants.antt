use Rattle.std.proofs.Common.{◌≡◌, ◌++◌, codes}
use Rattle.std.specs.List.{flat_map}
use Rattle.mixed_graph.specs.Vocabulary.{has, members_below}
use Rattle.identify_text.specs.ModelLines.{bit_text}
use Rattle.identify_text.proofs.bits.add_bits.Given as goal

abbrev pub invariant-loop-v : goal.invariant-loop-v
invariant-loop-v l = l.terms.items ≡ l.fn.terms.items ++ flat_map (λ u. codes " + " ++ bit_text l.names l.bit u) (members_below (has l.set.bits) l.v)
