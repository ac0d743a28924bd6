use Rattle.std.proofs.Common.{◌≡◌, drop, nat_le, map}
use Rattle.std.specs.List.{list_all}
use Rattle.command_words.specs.Form.{times}
use Rattle.command_words.specs.Views.{use_of, texts}
use Rattle.command_words.proofs.forms.none_twice.Given as goal

abbrev pub invariant-loop-name : goal.invariant-loop-name
invariant-loop-name l = list_all (λ x. nat_le (times (map use_of l.uses) x) 1) (texts l.fn.names)
    ≡ list_all (λ x. nat_le (times (map use_of l.uses) x) 1) (texts (drop l.name-index l.names))
