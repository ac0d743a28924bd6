-- What other crates cite of this one, from one place.
pub use Rattle.separation_commands.specs.GraphCommand.{graph_command}
pub use Rattle.separation_commands.specs.GraphObjects.{graph_members, role_json}
pub use Rattle.separation_commands.specs.GraphRight.{IsGraphAnswer, shown_of}
pub use Rattle.separation_commands.specs.GraphTelling.{graph_telling}
pub use Rattle.separation_commands.specs.RuleCommand.{rule_command}
pub use Rattle.separation_commands.specs.RuleRequests.{rule_row}
pub use Rattle.separation_commands.specs.RuleRight.{IsRuleAnswer}
pub use Rattle.separation_commands.specs.RuleSentences.{asked_members, rule_sentence}
pub use Rattle.separation_commands.specs.RuleTelling.{rule_telling}
pub use Rattle.separation_commands.specs.SeparateCommand.{separate_command}
pub use Rattle.separation_commands.specs.SeparateRequests.{separate_row}
pub use Rattle.separation_commands.specs.SeparateRight.{IsSeparateAnswer}
pub use Rattle.separation_commands.specs.SeparateTelling.{separate_telling}
