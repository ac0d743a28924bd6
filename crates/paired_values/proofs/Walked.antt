-- A loop that tells one value after another.
use Rattle.std.proofs.Common.{[], ◌∷◌, ◌++◌, append-nil, append_assoc, ◌≡◌, ℕ, ◌+◌, ◌<◌, List, drop, map, length, get_or, sym, ap, ◌∙◌}
use Rattle.std.proofs.lemmas.List.{at_drop_more}
use Rattle.json.specs.Json.{Json}
use Rattle.answer_json.specs.Progress.{Progress}
use Rattle.answer_json.specs.Vocabulary.{ended_object, members, object_of, with_members, with_value, with_values}

-- one more value is told, and the others are left
pub next_value : {A : Type 0} (xs : List A) (f : A → Json) (i : ℕ) (x : A) (o p q : Progress) → i < length xs → x ≡ get_or xs i x
    → with_values (map f (drop i xs)) o ≡ q → p ≡ with_value (f x) o → with_values (map f (drop (i + 1) xs)) p ≡ q
next_value xs f i x o p q lt is told pushed =
    ap (λ r. with_values (map f (drop (i + 1) xs)) r) pushed
    ∙ ap (λ y. with_values (map f (drop (i + 1) xs)) (with_value (f y) o)) is
    ∙ sym (at_drop_more (λ ys. with_values (map f ys) o) xs i x lt)
    ∙ told

-- members are written one after another
members_more : (ms done : List (List ℕ × Json)) (p : Progress) → with_members ms (members p done) ≡ members p (done ++ ms)
members_more [] done p = ap (members p) (sym (append-nil done))
members_more (m ∷ ms) done p = members_more ms (done ++ m ∷ []) p ∙ ap (members p) (append_assoc done (m ∷ []) ms)

-- an object of members, and others behind them
pub object_of_both : (cs qs : List (List ℕ × Json)) (p : Progress) → ended_object (with_members qs (with_members cs (members p [])))
    ≡ with_value (object_of (cs ++ qs)) p
object_of_both cs qs p = ap (λ o. ended_object (with_members qs o)) (members_more cs [] p) ∙ ap ended_object (members_more qs cs p)
