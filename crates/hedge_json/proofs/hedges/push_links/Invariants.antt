use Rattle.std.proofs.Common.{◌≡◌, ◌+◌, ◌-◌, ◌≤◌, nat_lt, map}
use Rattle.mixed_graph.specs.Vocabulary.{members_below}
use Rattle.answer_json.specs.Vocabulary.{with_values}
use Rattle.hedge_json.specs.Hedges.{link_json}
use Rattle.hedge_json.proofs.hedges.push_links.Given as goal

abbrev pub invariant-loop-i : goal.invariant-loop-i
invariant-loop-i l = record {
  in_range : l.i ≤ 1 + (l.h.links.count - 1);
  told : l.object ≡ with_values (map (link_json l.names l.h) (members_below (nat_lt 0) l.i)) l.fn.object;
}
