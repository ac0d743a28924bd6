-- A value that is no list gives no names.
use Rattle.std.proofs.Common.{ℕ, List, Option, Some, None}
use Rattle.command_words.specs.Form.{Text}
use Rattle.command_words.specs.Lists.{IsList}
use Rattle.command_words.specs.Values.{IsListed}

pub not_listed : (text : Text) → ((names : List (List ℕ)) → IsList text names → ⊥) → (names : Option (List (List ℕ))) → IsListed (Some text) names → ⊥
not_listed text none None h = h
not_listed text none (Some names) h = none names h
