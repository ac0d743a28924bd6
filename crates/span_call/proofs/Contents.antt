-- An input that is there tells what it holds.
use Rattle.std.proofs.Common.{◌≡◌, ℕ, Bool, false, List, [], ◌∷◌, Option, Some, None, is_none, get_or, slice_get, position, option_map, refl, ap}
use Rattle.std.proofs.lemmas.List.Quantifiers.{position-Some}
use Rattle.std.proofs.lemmas.Option.{none-some, slice_get-get_or}
use Rattle.command_words.specs.Vocabulary.{Text}
use Rattle.caller_memory.specs.declared.spans.Input.{Input}
use Rattle.caller_memory.specs.Vocabulary.{part, place_named, content_at, content_named}

-- the input at a place that was found
found_at : (inputs : List Input) (p : Input → Bool) (i : ℕ) → position p inputs ≡ Some i → (input : Input) × (slice_get inputs i ≡ Some input)
found_at [] p i e = absurd (none-some i e)
found_at (x ∷ xs) p i e = (get_or (x ∷ xs) i x, slice_get-get_or (x ∷ xs) i x (position-Some p (x ∷ xs) i x e).0)

content_of : (bytes : List ℕ) (inputs : List Input) (p : Input → Bool) (place : Option ℕ) → position p inputs ≡ place → is_none place ≡ false
    → (content : List ℕ) × (content_at bytes inputs place ≡ Some content)
content_of bytes inputs p None e there = absurd (cc there)
content_of bytes inputs p (Some i) e there =
    let f = found_at inputs p i e in (part bytes f.0.content, ap (λ (input : Option Input). option_map (λ (x : Input). part bytes x.content) input) f.1)

pub content_if_there : (bytes : List ℕ) (inputs : List Input) (name : Text) → is_none (place_named bytes inputs name) ≡ false → (content : List ℕ)
    × (content_named bytes inputs name ≡ Some content)
content_if_there bytes inputs name there = content_of bytes inputs _ (place_named bytes inputs name) refl there
