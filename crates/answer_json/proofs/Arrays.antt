-- Values that are written one after another, as the items of an array.
use Rattle.std.proofs.Common.{◌≡◌, ℕ, ◌+◌, Bool, true, false, cond, List, [], ◌∷◌, ◌++◌, map, refl, sym, ap, ◌∙◌, add-one, append_assoc, append-nil}
use Rattle.std.proofs.lemmas.List.{map-append}
use Rattle.mixed_graph.specs.Vocabulary.{members_below}
use Rattle.json.specs.Json.{Json}
use Rattle.answer_json.specs.Progress.{Progress, items, with_value, with_values, array_of, ended_array}

items_written : (js done : List Json) (p : Progress) → with_values js (items p done) ≡ items p (done ++ js)
items_written [] done p = ap (items p) (sym (append-nil done))
items_written (j ∷ js) done p = items_written js (done ++ j ∷ []) p ∙ ap (items p) (append_assoc done (j ∷ []) js)

-- an array that ends behind its items is a value
pub array_written : (js : List Json) (p : Progress) → ended_array (with_values js (items p [])) ≡ with_value (array_of js) p
array_written js p = ap ended_array (items_written js [] p)

-- these values, and then those
pub both_written : (is js : List Json) (p : Progress) → with_values (is ++ js) p ≡ with_values js (with_values is p)
both_written [] js p = refl
both_written (i ∷ is) js p = both_written is js (with_value i p)

one_value : (f : ℕ → Json) (b : Bool) (k : ℕ) → map f (cond b (k ∷ []) []) ≡ cond b (f k ∷ []) []
one_value f true k = refl
one_value f false k = refl

-- the values of the members below k + 1: those below k, and that of k if it is one
pub member_written : (f : ℕ → Json) (s : ℕ → Bool) (k : ℕ) (p : Progress)
    → with_values (map f (members_below s (k + 1))) p ≡ with_values (cond (s k) (f k ∷ []) []) (with_values (map f (members_below s k)) p)
unfolding members_below
member_written f s k p =
    ap (λ n. with_values (map f (members_below s n)) p) (add-one k)
    ∙ ap (λ js. with_values js p) (map-append f (members_below s k) (cond (s k) (k ∷ []) []) ∙ ap (λ js. map f (members_below s k) ++ js) (one_value f (s k) k))
    ∙ both_written (map f (members_below s k)) (cond (s k) (f k ∷ []) []) p

-- no member is below 0
pub none_written : (f : ℕ → Json) (s : ℕ → Bool) (p : Progress) → p ≡ with_values (map f (members_below s 0)) p
unfolding members_below
none_written f s p = refl
