-- Names as LaTeX prints them.
use Rattle.std.proofs.Common.{◌≡◌, ℕ, false, cond, List, [], ◌∷◌, ◌++◌, refl, sym, ap, ◌∙◌}
use Rattle.std.proofs.lemmas.List.{append_assoc}
use Rattle.answer_text.specs.Printing.{is_plain, printed}
use Rattle.answer_text.specs.Notations.{byte_latex, escaped}

pub escaped-append : (xs ys : List ℕ) → escaped (xs ++ ys) ≡ escaped xs ++ escaped ys
escaped-append [] ys = refl
escaped-append (x ∷ xs) ys = ap (λ t. byte_latex x ++ t) (escaped-append xs ys) ∙ sym (append_assoc (byte_latex x) (escaped xs) (escaped ys))

-- quotation marks stand as they are
pub escaped-quoted : (name : List ℕ) → escaped (34 ∷ name ++ 34 ∷ []) ≡ 34 ∷ escaped name ++ 34 ∷ []
escaped-quoted name = ap (λ t. 34 ∷ t) (escaped-append name (34 ∷ []))

-- a name that isn't printed bare, appended between its quotation marks
pub quoted_appended : (old name : List ℕ) {out one two : List ℕ} → is_plain name ≡ false → one ≡ old ++ 34 ∷ [] → two ≡ one ++ escaped name → out ≡ two ++ 34
    ∷ [] →
    out ≡ old ++ escaped (printed name)
quoted_appended old name h p q r =
    r ∙ ap (λ t. t ++ 34 ∷ []) (q ∙ ap (λ t. t ++ escaped name) p)
    ∙ append_assoc (old ++ 34 ∷ []) (escaped name) (34 ∷ [])
    ∙ append_assoc old (34 ∷ []) (escaped name ++ 34 ∷ [])
    ∙ ap (λ t. old ++ t) (sym (escaped-quoted name))
    ∙ ap (λ b. old ++ escaped (cond b name (34 ∷ name ++ 34 ∷ []))) (sym h)
