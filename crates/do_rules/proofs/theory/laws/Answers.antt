use Rattle.do_rules.proofs.theory.laws.Goals as goal
use Rattle.do_rules.proofs.Failing.{independence_is_separation, positive_independence_is_separation, rule_is_separation, open_rules_fail}

pub returns-clause-independence : goal.returns-clause-independence
returns-clause-independence c = independence_is_separation

pub returns-clause-positive : goal.returns-clause-positive
returns-clause-positive c = positive_independence_is_separation

pub returns-clause-rules : goal.returns-clause-rules
returns-clause-rules c = rule_is_separation

pub returns-clause-open : goal.returns-clause-open
returns-clause-open c = open_rules_fail
