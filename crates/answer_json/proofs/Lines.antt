-- The line of a value that was written.
use Rattle.std.proofs.Common.{◌≡◌, ℕ, List, [], ◌∷◌, ◌++◌, refl, sym, ap, ◌∙◌, subst}
use Rattle.std.specs.Str.{IsUtf8}
use Rattle.std.proofs.lemmas.Str.{IsUtf8-append}
use Rattle.json.specs.Token.{Token}
use Rattle.json.specs.Print.{print}
use Rattle.json.specs.Tree.{json_tokens}
use Rattle.json.proofs.Printed.Utf8.{IsUtf8-are_ascii}
use Rattle.answer_json.specs.Progress.{Progress, progress_of, IsWhole, value_of, json_line}
use Rattle.answer_json.proofs.Fitting.{of_whole}

-- the print of the tokens that came to a whole value, and a line feed
pub line_of_whole : (tokens : List Token) (p : Progress) (before text line : List ℕ) → IsWhole p → progress_of tokens ≡ p → before ≡ []
    → text ≡ before ++ print tokens → line ≡ text ++ 10 ∷ []
    → line ≡ json_line (value_of p)
unfolding json_line
line_of_whole tokens p before text line w e b t l =
    let w' : IsWhole (progress_of tokens) = subst IsWhole (sym e) w in
    let same : json_tokens (value_of p) ≡ tokens = ap (λ q. json_tokens (value_of q)) (sym e) ∙ of_whole tokens w' in
    l ∙ ap (λ s. s ++ 10 ∷ []) (t ∙ ap (λ s. s ++ print tokens) b ∙ ap print (sym same))

pub utf8_of_line : (printed before text line : List ℕ) → before ≡ [] → text ≡ before ++ printed → line ≡ text ++ 10 ∷ [] → IsUtf8 printed → IsUtf8 line
utf8_of_line printed before text line b t l u =
    subst IsUtf8 (sym (l ∙ ap (λ s. s ++ 10 ∷ []) (t ∙ ap (λ s. s ++ printed) b))) (IsUtf8-append printed (10 ∷ []) u (IsUtf8-are_ascii (10 ∷ []) refl))
