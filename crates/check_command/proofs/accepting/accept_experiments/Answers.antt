use Rattle.std.proofs.Common.{◌≡◌, None, Err, map, subst}
use Rattle.prob_expr.specs.Vocabulary.{masks_of}
use Rattle.command_words.specs.Vocabulary.{names_in}
use Rattle.targets.specs.Vocabulary.{IsNameFault}
use Rattle.experiment_lists.specs.Vocabulary.{experiments_fault, AreExperimentSets}
use Rattle.check_command.proofs.accepting.accept_experiments.Goals as goal

pub returns-in-Ok : goal.returns-in-Ok
returns-in-Ok g c =
    let all = c.args.diagram.now.read.names in
    let seen = c.args.diagram.now.observed.names in
    let value = c.as_slice.ensures.value in record {
      no_fault = subst (λ l. experiments_fault all seen (map names_in l) ≡ None) value c.in-Ok.ensures.none;
      sets = subst (λ l. AreExperimentSets seen (map names_in l) (masks_of c.in-Ok.sets.items)) value c.in-Ok.ensures.sets;
    }

pub returns-in_ok-refuse-in-Err : goal.returns-in_ok-refuse-in-Err
returns-in_ok-refuse-in-Err g c =
    let all = c.args.diagram.now.read.names in
    let seen = c.args.diagram.now.observed.names in
    let reply = c.in_ok-refuse-in-Err in
    λ form. record {
      answer = Err c.in-Err.fault;
      right = record {
        named = subst (λ l. IsNameFault (experiments_fault all seen (map names_in l)) c.in-Err.fault) c.as_slice.ensures.value c.in-Err.ensures.fault;
        known = reply.ensures.fault;
      };
      ends = reply.ensures.outcome;
      prints = reply.ensures.told;
    }
