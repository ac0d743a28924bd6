use Rattle.std.proofs.Common.{◌≡◌, ◌∙◌, length, arith}
use Rattle.mixed_graph.specs.Vocabulary.{has, members_below}
use Rattle.mixed_graph.proofs.MemberLists.{members-all, members-pos}
use Rattle.count_rows.proofs.rows.read_rows.Goals as goal

pub read_rows_of-requires : goal.read_rows_of-requires
read_rows_of-requires c =
    let list : c.as_slice.result.now ≡ members_below (has c.args.used.bits) 64 = c.as_slice.ensures.value ∙ c.in-Ok.ensures in
    record {
      some = rw list (members-pos c.args.used.bits c.requires.some (omega arith));
      named = rw list (members-all (has c.args.used.bits) (length c.args.names.now) 64 c.requires.named);
    }

pub returns-clause-rows : goal.returns-clause-rows
returns-clause-rows c =
    let list : c.as_slice.result.now ≡ members_below (has c.args.used.bits) 64 = c.as_slice.ensures.value ∙ c.in-Ok.ensures in
    rw list at c.read_rows_of.ensures.rows

pub returns-clause-fit : goal.returns-clause-fit
returns-clause-fit c =
    let list : c.as_slice.result.now ≡ members_below (has c.args.used.bits) 64 = c.as_slice.ensures.value ∙ c.in-Ok.ensures in
    rw list at c.read_rows_of.ensures.fit

pub returns-clause-fault : goal.returns-clause-fault
returns-clause-fault c =
    let list : c.as_slice.result.now ≡ members_below (has c.args.used.bits) 64 = c.as_slice.ensures.value ∙ c.in-Ok.ensures in
    rw list at c.read_rows_of.ensures.fault
