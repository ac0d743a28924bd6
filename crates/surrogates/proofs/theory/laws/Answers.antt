use Rattle.surrogates.proofs.Answered.{derived_is_surrogate, surrogate_is_accepted, surrogate_is_formed, stop_has_hedge, stop_is_first_blocked}
use Rattle.surrogates.proofs.Answered.{blocked_excludes_formula, one_surrogate, one_stop_with, plain_comes_first}
use Rattle.surrogates.proofs.Around.{around_is_apart, each_is_harmless}
use Rattle.surrogates.proofs.Blocked.{stop_under_has_hedge}
use Rattle.surrogates.proofs.Shallow.{surrogate_is_shallow}
use Rattle.surrogates.proofs.theory.laws.Goals as goal

pub returns : goal.returns
returns c = record {
  derived = derived_is_surrogate;
  accepted = surrogate_is_accepted;
  formed = surrogate_is_formed;
  shallow = surrogate_is_shallow;
  hedge = stop_has_hedge;
  hedge_under = stop_under_has_hedge;
  around = around_is_apart;
  harmless = each_is_harmless;
  first_blocked = stop_is_first_blocked;
  excludes = blocked_excludes_formula;
  one_formula = one_surrogate;
  one_stop = one_stop_with;
  plain_first = plain_comes_first;
}
