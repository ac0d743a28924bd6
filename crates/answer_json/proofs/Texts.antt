-- Bytes that are UTF-8 are a text, and others a list.
use Rattle.std.proofs.Common.{◌≡◌, ℕ, List, false, true, refl, ap, ◌∙◌}
use Rattle.std.specs.Str.{IsUtf8, is_utf8}
use Rattle.std.proofs.lemmas.Bool.{false_from_ne_true}
use Rattle.std.proofs.lemmas.Str.{IsUtf8-from_is_utf8, is_utf8-from_IsUtf8}
use Rattle.json.specs.Json.{string}
use Rattle.answer_json.specs.Values.{text_json, bytes_json}

as_text : (bytes : List ℕ) → is_utf8 bytes ≡ true → string bytes ≡ text_json bytes
as_text bytes h = rw h refl

as_bytes : (bytes : List ℕ) → is_utf8 bytes ≡ false → bytes_json bytes ≡ text_json bytes
as_bytes bytes h = rw h refl

pub of_text : (bytes text : List ℕ) → text ≡ bytes → IsUtf8 bytes → string text ≡ text_json bytes
of_text bytes text same utf8 = ap string same ∙ as_text bytes (is_utf8-from_IsUtf8 bytes utf8)

pub of_bytes : (bytes : List ℕ) → (IsUtf8 bytes → ⊥) → bytes_json bytes ≡ text_json bytes
of_bytes bytes not_utf8 = as_bytes bytes (false_from_ne_true (is_utf8 bytes) (λ e. not_utf8 (IsUtf8-from_is_utf8 bytes e)))
