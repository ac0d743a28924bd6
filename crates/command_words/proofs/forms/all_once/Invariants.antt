use Rattle.std.proofs.Common.{◌≡◌, ◌==◌, drop, map}
use Rattle.std.specs.List.{list_all}
use Rattle.command_words.specs.Form.{times}
use Rattle.command_words.specs.Views.{use_of, texts}
use Rattle.command_words.proofs.forms.all_once.Given as goal

abbrev pub invariant-loop-name : goal.invariant-loop-name
invariant-loop-name l = list_all (λ x. times (map use_of l.uses) x == 1) (texts l.fn.names)
    ≡ list_all (λ x. times (map use_of l.uses) x == 1) (texts (drop l.name-index l.names))
