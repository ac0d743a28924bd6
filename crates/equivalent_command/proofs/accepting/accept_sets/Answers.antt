use Rattle.std.proofs.Common.{Err}
use Rattle.equivalent_command.specs.Right.{bidirected}
use Rattle.equivalent_command.proofs.accepting.accept_sets.Goals as goal

pub returns-in_ok-refuse-in-Some : goal.returns-in_ok-refuse-in-Some
returns-in_ok-refuse-in-Some c = λ query asked form.
    record {
      answer = Err c.in-Some.fault;
      right = bidirected c.args.sets asked (rw c.in-Some.is at c.in_ok-fault.ensures.found);
      ends = c.in_ok-refuse-in-Some.ensures.outcome;
      prints = c.in_ok-refuse-in-Some.ensures.told;
    }
