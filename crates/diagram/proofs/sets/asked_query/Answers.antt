use Rattle.std.proofs.Common.{◌≡◌}
use Rattle.targets.specs.Vocabulary.{Lists}
use Rattle.diagram.specs.Sets.{lent, query_lists}
use Rattle.diagram.proofs.Asking.{empty_exposures, no_list}
use Rattle.diagram.proofs.sets.asked_query.Goals as goal
use Rattle.diagram.proofs.sets.asked_query.Goals.{After-asked_condition}

abbrev lists : After-asked_condition → Lists
lists c = query_lists c.args.diagram.now.read c.args.diagram.now.observed.names (lent c.args.x) (lent c.args.y)
    (lent c.args.given)

pub returns-then-is_empty-clause-fault : goal.returns-then-is_empty-clause-fault
returns-then-is_empty-clause-fault c =
    let l = lists (goal.at.returns-then-is_empty-clause-fault c).After-asked_condition in
    let s = c.in-Ok.ensures.sets in (
      s.no_fault,
      s.some_y,
      empty_exposures l c.in-Ok.sets.x.bits c.in-Ok.sets.y.bits c.in-Ok.sets.given.bits s (c.is_empty.ensures.none.0 c.if-is_empty.true),
    )

pub returns-clause-sets : goal.returns-clause-sets
returns-clause-sets c =
    let l = lists (goal.at.returns-clause-sets c).After-asked_condition in
    let s = c.in-Ok.ensures.sets in record {
      no_fault = s.no_fault;
      some_y = s.some_y;
      some_x = λ e. (let t = c.is_empty.ensures.none.1 (no_list l.all l.observed l.x c.in-Ok.sets.x.bits s.set_x e) in let f = c.if-is_empty.false in cc);
      set_x = s.set_x;
      set_y = s.set_y;
      set_given = s.set_given;
    }
