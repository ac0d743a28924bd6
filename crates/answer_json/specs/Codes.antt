-- How the logic stores what is written: by its tokens, which lead back to it.
use Rattle.std.proofs.Common.{◌≡◌, ℕ, List, [], ◌∷◌, ◌++◌, refl, sym, ap, ◌∙◌, append_assoc, append-nil}
use Rattle.std.specs.Coded.{Coded, code_by}
use Rattle.std.specs.List.{fold, flat_map}
use Rattle.std.proofs.lemmas.List.Sums.{fold-append}
use Rattle.json.specs.Token.{Token, tokens_code}
use Rattle.json.specs.Json.{Json}
use Rattle.json.specs.Tree.{json_tokens}
use Rattle.answer_json.specs.Progress.{Progress, nothing, whole, items, members, at_key, unfit, with_key, next, progress_of}
use Rattle.answer_json.specs.Tokens.{tokens_of, member_tokens}
use Rattle.answer_json.specs.Written.{value_written}

items_back : (js done : List Json) (p : Progress) → fold next (items p done) (flat_map json_tokens js) ≡ items p (done ++ js)
items_back [] done p = ap (items p) (sym (append-nil done))
items_back (j ∷ js) done p =
    fold-append next (items p done) (json_tokens j) (flat_map json_tokens js) ∙ ap (λ q. fold next q (flat_map json_tokens js)) (value_written j (items p done))
    ∙ items_back js (done ++ j ∷ []) p ∙ ap (items p) (append_assoc done (j ∷ []) js)

members_back : (ms done : List (List ℕ × Json)) (p : Progress) → fold next (members p done) (flat_map member_tokens ms) ≡ members p (done ++ ms)
members_back [] done p = ap (members p) (sym (append-nil done))
members_back (m ∷ ms) done p =
    fold-append next (at_key p done m.0) (json_tokens m.1) (flat_map member_tokens ms)
    ∙ ap (λ q. fold next q (flat_map member_tokens ms)) (value_written m.1 (at_key p done m.0))
    ∙ members_back ms (done ++ m ∷ []) p ∙ ap (members p) (append_assoc done (m ∷ []) ms)

pub progress_back : (p : Progress) → progress_of (tokens_of p) ≡ p
progress_back nothing = refl
progress_back (whole j) = value_written j nothing
progress_back (items p js) =
    fold-append next nothing (tokens_of p) (Token.begin_array ∷ flat_map json_tokens js)
    ∙ ap (λ q. fold next q (Token.begin_array ∷ flat_map json_tokens js)) (progress_back p) ∙ items_back js [] p
progress_back (members p ms) =
    fold-append next nothing (tokens_of p) (Token.begin_object ∷ flat_map member_tokens ms)
    ∙ ap (λ q. fold next q (Token.begin_object ∷ flat_map member_tokens ms)) (progress_back p) ∙ members_back ms [] p
progress_back (at_key p ms k) =
    fold-append next nothing (tokens_of p) (Token.begin_object ∷ (flat_map member_tokens ms ++ Token.key k ∷ []))
    ∙ ap (λ q. fold next q (Token.begin_object ∷ (flat_map member_tokens ms ++ Token.key k ∷ []))) (progress_back p)
    ∙ fold-append next (members p []) (flat_map member_tokens ms) (Token.key k ∷ []) ∙ ap (with_key k) (members_back ms [] p)
progress_back unfit = refl

-- what is written is stored as its tokens
abbrev pub progress_code : Coded Progress
progress_code = code_by (List Token) tokens_code tokens_of progress_of progress_back
