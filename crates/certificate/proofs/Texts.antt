-- What is refused as a text.
use Rattle.std.proofs.Common.{◌≡◌, ℕ, List, Bool, true, false, Some, None, Result, Ok, Err, cond, eqb, length, refl, ap, ◌∙◌}
use Rattle.std.specs.Result.{result_ok}
use Rattle.std.specs.Str.{IsUtf8, is_utf8}
use Rattle.std.proofs.lemmas.Str.{IsUtf8-from_is_utf8, is_utf8-from_IsUtf8}
use Rattle.prob_expr.specs.Tree.{Tree}
use Rattle.expr_text.specs.Vocabulary.{IsAt}
use Rattle.serde_json.specs.Data.{Data}
use Rattle.serde_json.specs.Events.{members_len}
use Rattle.serde_json.specs.View.{items_view, members_view}
use Rattle.serde_json.specs.declared.value.Value.{Value}
use Rattle.serde_json.proofs.Views.{Entry, members_len-members_view}
use Rattle.step_json.specs.Vocabulary.{is_end}
use Rattle.step_json.proofs.Ends.{end_is as no_item_left}
use Rattle.serde_json.specs.Read.{read}
use Rattle.certificate.specs.Reading.{json_of}

-- a text that is refused somewhere isn't read
pub refused : (text : List ℕ) (at : ℕ) (r : Result Tree ℕ) → IsAt text at r → result_ok r ≡ None
refused text at (Ok t) h = absurd h
refused text at (Err left) h = refl

-- a text whose bytes aren't UTF-8, or that isn't read, has no value
pub no_text : (text : List ℕ) → (IsUtf8 text → read text ≡ None) → json_of text ≡ None
no_text text none = go (is_utf8 text) refl
  where
    go : (b : Bool) → is_utf8 text ≡ b → cond b (read text) None ≡ None
    go true e = none (IsUtf8-from_is_utf8 text e)
    go false e = refl

-- a text whose bytes are UTF-8 has the value that is read
pub some_text : (text : List ℕ) (d : Data) → IsUtf8 text → read text ≡ Some d → json_of text ≡ Some d
some_text text d utf8 h = ap (λ b. cond b (read text) None) (is_utf8-from_IsUtf8 text utf8) ∙ h

-- ---- sizes

pub end_is : (ds : List Value) → is_end (items_view ds) ≡ eqb (length ds) 0
end_is ds = no_item_left ds

pub count_is : (es : List Entry) → members_len (members_view es) ≡ length es
count_is es = members_len-members_view es
