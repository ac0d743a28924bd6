use Rattle.std.proofs.Common.{Ok, sym, subst}
use Rattle.dag_reader.specs.declared.graph.ReadGraph.{ReadGraph}
use Rattle.dag_reader.specs.Reads.{Reads}
use Rattle.equivalent_command.proofs.Queries.{asked_below}
use Rattle.equivalent_command.proofs.reply.equivalent_answer.Goals as goal

pub compared-requires-clause-below : goal.compared-requires-clause-below
compared-requires-clause-below c = asked_below c.args.diagram.now c.requires.accepted.0 c.args.sets c.requires.accepted.1.asked

pub returns-in-Some-clause-fault : goal.returns-in-Some-clause-fault
returns-in-Some-clause-fault c = λ ne. record {
  diagram = c.in_ok-other-in-Ok.other;
  holds = record {
    small = c.requires.small;
    reads = subst (λ (g : ReadGraph). Reads c.args.second.now (Ok g)) (sym c.in_ok-other-in-Ok.ensures) c.in-Ok.ensures;
  };
  unlike = rw c.in-Some.is at c.in_ok-fault-in-Ok.ensures.found;
}

pub returns-in-Ok-clause-answer : goal.returns-in-Ok-clause-answer
returns-in-Ok-clause-answer c = record {
  diagram = c.in_ok-other-in-Ok.other;
  holds = record {
    small = c.requires.small;
    reads = subst (λ (g : ReadGraph). Reads c.args.second.now (Ok g)) (sym c.in_ok-other-in-Ok.ensures) c.in-Ok.ensures;
  };
  compared = record {
    comparable = record {
      first_arrows = c.requires.accepted.1.arrows;
      second_arrows = rw c.in-None.is at c.in_ok-fault-in-Ok.ensures.arrows;
      names = rw c.in-None.is at c.in_ok-fault-in-Ok.ensures.names;
    };
    decided = c.compared.ensures;
  };
}
