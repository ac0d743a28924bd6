use Rattle.finite_models.specs.Models.{intervene, solution}
use Rattle.finite_models.proofs.theory.laws.Goals as goal
use Rattle.finite_models.proofs.Existing.{each_graph_has_model}
use Rattle.finite_models.proofs.DataFits.{data_fits}
use Rattle.finite_models.proofs.DataSound.{data_sound}
use Rattle.finite_models.proofs.Following.{follows_of, follows_intervene}
use Rattle.finite_models.proofs.Solutions.{solution_is, unique, solution_within}
use Rattle.finite_models.proofs.Ranks.{with_rank}
use Rattle.finite_models.proofs.Positive.{positive_weight}
use Rattle.finite_models.proofs.Weights.{weight-none, weight_of-none}

pub returns-clause-solves : goal.returns-clause-solves
returns-clause-solves c = λ g ok m fit b s within u v il.
    with_rank g ok (solution (intervene m b s) u v) ((intervene m b s).mechanism v (solution (intervene m b s) u) u)
    (λ rank ranked. solution_is g (intervene m b s) rank ranked (follows_intervene g m b s within (follows_of g m fit)) u v il)

pub returns-clause-only : goal.returns-clause-only
returns-clause-only c = λ g ok m fit b s within u t solves v il.
    with_rank g ok (t v) (solution (intervene m b s) u v)
    (λ rank ranked. let follows = follows_intervene g m b s within (follows_of g m fit) in
    unique g (intervene m b s) rank ranked follows u t (solution (intervene m b s) u) solves (solution_is g (intervene m b s) rank ranked follows u) v il)

pub returns-clause-in_range : goal.returns-clause-in_range
returns-clause-in_range c = λ g ok m fit b s within u world.
    solution_within g (intervene m b s) (follows_intervene g m b s within (follows_of g m fit)) u world

pub returns-clause-observed : goal.returns-clause-observed
returns-clause-observed c = weight_of-none

pub returns-clause-whole : goal.returns-clause-whole
returns-clause-whole c = λ m b a s none. weight-none (intervene m b s) a s none

pub returns-clause-positive : goal.returns-clause-positive
returns-clause-positive c = λ g ok m fit positive b a s within. positive_weight g m ok (follows_of g m fit) positive b a s within

pub returns-clause-fits : goal.returns-clause-fits
returns-clause-fits c = data_fits

pub returns-clause-sound : goal.returns-clause-sound
returns-clause-sound c = data_sound

pub returns-clause-some : goal.returns-clause-some
returns-clause-some c = each_graph_has_model
