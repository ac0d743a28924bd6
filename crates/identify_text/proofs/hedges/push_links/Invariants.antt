use Rattle.std.proofs.Common.{◌≡◌, ◌+◌, ◌-◌, ◌≤◌, ◌++◌, nat_lt}
use Rattle.std.specs.List.{flat_map}
use Rattle.mixed_graph.specs.Vocabulary.{members_below}
use Rattle.identify_text.specs.HedgeLines.{link_line}
use Rattle.identify_text.proofs.hedges.push_links.Given as goal

abbrev pub invariant-loop-i : goal.invariant-loop-i
invariant-loop-i l = record {
  in_range : l.i ≤ 1 + (l.h.links.count - 1);
  told : l.out.items ≡ l.fn.out.items ++ flat_map (link_line l.names l.h) (members_below (nat_lt 0) l.i);
}
