-- Values that list no query.
use Rattle.std.proofs.Common.{◌≡◌, Option, Some, None, ◌∙◌}
use Rattle.command_words.specs.Vocabulary.{Text}
use Rattle.equivalent_command.specs.Requests.{Query, IsQuery}

-- a value that is there isn't missing
pub not_missing : (t : Text) (v : Option Text) → Some t ≡ v → v ≡ None → ⊥
not_missing t v e f = let same : Some t ≡ None = e ∙ f in absurd (cc)

-- where some value is there, and no query has the values, nothing is listed
pub no_query : (x y given : Option Text) → (IsQuery x y given None → ⊥) → ((q : Query) → IsQuery x y given (Some q) → ⊥) → (q : Option Query)
    → IsQuery x y given q → ⊥
no_query x y given none some None h = none h
no_query x y given none some (Some q) h = some q h
