-- What the tokens of a value add to what is written.
use Rattle.std.proofs.Common.{◌≡◌, ℕ, List, [], ◌∷◌, ◌++◌, refl, ap, ◌∙◌}
use Rattle.std.specs.List.{fold}
use Rattle.std.proofs.lemmas.List.Sums.{fold-append}
use Rattle.json.specs.Json.{Json, null, boolean, number, string, array, object, Items, no_items, item, Members, no_members, member}
use Rattle.json.specs.Tree.{json_tokens, items_tokens, members_tokens}
use Rattle.answer_json.specs.Progress.{Progress, items, members, at_key, items_of, members_of, with_value, next}

-- these items, and then those
abbrev items_behind : List Json → Items → Items
items_behind [] js = js
items_behind (j ∷ done) js = item j (items_behind done js)

items_behind_none : (done : List Json) → items_of done ≡ items_behind done no_items
items_behind_none [] = refl
items_behind_none (j ∷ done) = ap (item j) (items_behind_none done)

items_behind_more : (done : List Json) (j : Json) (js : Items) → items_behind (done ++ j ∷ []) js ≡ items_behind done (item j js)
items_behind_more [] j js = refl
items_behind_more (i ∷ done) j js = ap (item i) (items_behind_more done j js)

-- these members, and then those
abbrev members_behind : List (List ℕ × Json) → Members → Members
members_behind [] ms = ms
members_behind (m ∷ done) ms = member m.0 m.1 (members_behind done ms)

members_behind_none : (done : List (List ℕ × Json)) → members_of done ≡ members_behind done no_members
members_behind_none [] = refl
members_behind_none (m ∷ done) = ap (member m.0 m.1) (members_behind_none done)

members_behind_more : (done : List (List ℕ × Json)) (k : List ℕ) (j : Json) (ms : Members)
    → members_behind (done ++ (k, j) ∷ []) ms ≡ members_behind done (member k j ms)
members_behind_more [] k j ms = refl
members_behind_more (m ∷ done) k j ms = ap (member m.0 m.1) (members_behind_more done k j ms)

mutual
  -- the tokens of a value are that value more
  pub value_written : (j : Json) (p : Progress) → fold next p (json_tokens j) ≡ with_value j p
  value_written null p = refl
  value_written (boolean b) p = refl
  value_written (number s) p = refl
  value_written (string s) p = refl
  value_written (array js) p = items_written js [] p
  value_written (object ms) p = members_written ms [] p

  items_written : (js : Items) (done : List Json) (p : Progress) → fold next (items p done) (items_tokens js) ≡ with_value (array (items_behind done js)) p
  items_written no_items done p = ap (λ js. with_value (array js) p) (items_behind_none done)
  items_written (item j js) done p =
      fold-append next (items p done) (json_tokens j) (items_tokens js) ∙ ap (λ q. fold next q (items_tokens js)) (value_written j (items p done))
      ∙ items_written js (done ++ j ∷ []) p ∙ ap (λ is. with_value (array is) p) (items_behind_more done j js)

  members_written : (ms : Members) (done : List (List ℕ × Json)) (p : Progress)
      → fold next (members p done) (members_tokens ms) ≡ with_value (object (members_behind done ms)) p
  members_written no_members done p = ap (λ ms. with_value (object ms) p) (members_behind_none done)
  members_written (member k j ms) done p =
      fold-append next (at_key p done k) (json_tokens j) (members_tokens ms) ∙ ap (λ q. fold next q (members_tokens ms)) (value_written j (at_key p done k))
      ∙ members_written ms (done ++ (k, j) ∷ []) p ∙ ap (λ is. with_value (object is) p) (members_behind_more done k j ms)
