-- The command `rule`.
use Rattle.replies.specs.Vocabulary.{CommandForm}
use Rattle.told.specs.Vocabulary.{told_on_file, plain_form}
use Rattle.separation_commands.specs.RuleRight.{IsRuleAnswer}
use Rattle.separation_commands.specs.RuleTelling.{rule_telling}
use Rattle.separation_commands.specs.RuleRequests.{Request, IsRequest}

-- its request and its answers
abbrev pub rule_command : CommandForm
rule_command = told_on_file Request IsRequest (λ q. plain_form q.format) (λ q. q.file) rule_telling (λ q d. IsRuleAnswer q.rule d q.y q.x q.z q.given)
