use Rattle.std.proofs.Common.{codes}
use Rattle.std.proofs.lemmas.Slice.Eq.{bytes_eq-Decides}
use Rattle.experiment_lists.proofs.Joining.{some_experiment, only_experiment, no_experiment}
use Rattle.experiment_lists.proofs.words.read_experiment.Goals as goal

pub returns-clause-some : goal.returns-clause-some
returns-clause-some c = some_experiment c.args.text.now c.read_list.result c.requires.0
    (λ e. let same = (bytes_eq-Decides c.args.text.now (codes "{}")).1 e in cc (same, c.if-eq.ensures)) c.requires.1 c.read_list.ensures.list

pub returns-clause-only : goal.returns-clause-only
returns-clause-only c = only_experiment c.args.text.now c.read_list.result c.read_list.ensures.only

pub returns-clause-none : goal.returns-clause-none
returns-clause-none c = no_experiment c.args.text.now c.read_list.result c.read_list.ensures.none
