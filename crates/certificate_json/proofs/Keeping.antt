-- What the types of the code keep, and what is written one after another.
use Rattle.std.proofs.Common.{◌≡◌, ◌<◌, ◌≤◌, ◌+◌, ℕ, zero, suc, Bool, true, ◌&&◌, leb, List, [], ◌∷◌, length, take, get_or, drop, sym, ap, subst, ◌∙◌}
use Rattle.std.proofs.Common.{arith, length-take, le-leb}
use Rattle.std.specs.List.{zip}
use Rattle.std.proofs.lemmas.List.{at_drop_more, at_drop_all}
use Rattle.json.specs.Json.{Json}
use Rattle.mixed_graph.specs.declared.lists.Order.{Order}
use Rattle.hedge.specs.declared.joined_sets.lists.Links.{Links}
use Rattle.do_derivation.specs.Vocabulary.{listed}
use Rattle.certificate.specs.Vocabulary.{links_view}
use Rattle.answer_json.specs.Progress.{Progress}
use Rattle.answer_json.specs.Vocabulary.{with_value, with_values}
use Rattle.certificate_json.specs.Kept.{IsStartBlank}

-- what is left to write completes the whole, and what is left to test tells of the whole
pub record IsOnTheWay {X : Type 0} (F : List X → List Json) (S : List X → Bool) (xs : List X) (i : ℕ) (old new : Progress) : Type 0 where
  pub told : with_values (F (drop i xs)) new ≡ with_values (F xs) old
  pub short : S (drop i xs) ≡ S xs

module _ {X : Type 0} (F : List X → List Json) (f : X → Json) (each : (x : X) (xs : List X) → F (x ∷ xs) ≡ f x ∷ F xs)
    (S : List X → Bool) (s : X → Bool) (tests : (x : X) (xs : List X) → S (x ∷ xs) ≡ (s x && S xs)) (xs : List X) (i : ℕ) (old : Progress) where
  one_more_written : (d : X) (before new : Progress) → i < length xs → new ≡ with_value (f (get_or xs i d)) before → s (get_or xs i d) ≡ true
      → IsOnTheWay F S xs i old before → IsOnTheWay F S xs (i + 1) old new
  one_more_written d before new lt written here way = record {
    told = ap (with_values (F (drop (i + 1) xs))) written
        ∙ sym (ap (λ js. with_values js before) (at_drop_more F xs i d lt ∙ each (get_or xs i d) (drop (i + 1) xs))) ∙ way.told;
    short = sym (at_drop_more S xs i d lt ∙ tests (get_or xs i d) (drop (i + 1) xs) ∙ ap (λ b. b && S (drop (i + 1) xs)) here) ∙ way.short;
  }

  -- the same of the item d of a list that is that one
  pub next_written : (ys : List X) (d e : X) (before new : Progress) → ys ≡ xs → i < length ys → d ≡ get_or ys i e → new ≡ with_value (f d) before → s d ≡ true
      → IsOnTheWay F S xs i old before → IsOnTheWay F S xs (i + 1) old new
  next_written ys d e before new same lt at written here way =
      let is : d ≡ get_or xs i e = at ∙ ap (λ l. get_or l i e) same in
      one_more_written e before new (subst (λ l. i < length l) same lt) (written ∙ ap (λ x. with_value (f x) before) is)
      (subst (λ x. s x ≡ true) is here) way

-- where no item is left, all are written
pub all_written : {X : Type 0} (F : List X → List Json) (S : List X → Bool) (xs : List X) (i : ℕ) (old new : Progress) → F [] ≡ [] → length xs ≤ i
    → IsOnTheWay F S xs i old new → new ≡ with_values (F xs) old
all_written F S xs i old new none le way = sym (ap (λ js. with_values js new) (at_drop_all F xs i le ∙ none)) ∙ way.told

-- and all are tested
pub all_short : {X : Type 0} (F : List X → List Json) (S : List X → Bool) (xs : List X) (i : ℕ) (old new : Progress) → S [] ≡ true → length xs ≤ i
    → IsOnTheWay F S xs i old new → S xs ≡ true
all_short F S xs i old new none le way = sym way.short ∙ at_drop_all S xs i le ∙ none

pub order_short : (o : Order) → leb (length (listed o)) 64 ≡ true
order_short o = let le : length (listed o) ≤ 64 = omega (arith, length-take o.count o.list, o.in_range) in le-leb (length (listed o)) 64 le

zip_short : (xs ys : List ℕ) → length (zip xs ys) ≤ length xs
zip_short [] ys = omega arith
zip_short (x ∷ xs) [] = omega arith
zip_short (x ∷ xs) (y ∷ ys) = omega (arith, zip_short xs ys)

pub links_few : (l : Links) → length (links_view l) ≤ 64
links_few l = omega (arith, zip_short (take l.count l.found) (take l.count l.partner), length-take l.count l.found, l.in_range)

start_blank : (c : ℕ) (found partner : List ℕ) → get_or partner 0 0 ≡ 0 → IsStartBlank (zip (take c found) (take c partner))
start_blank zero found partner blank = tt
start_blank (suc c) [] partner blank = tt
start_blank (suc c) (v ∷ found) [] blank = tt
start_blank (suc c) (v ∷ found) (p ∷ partner) blank = blank

pub links_blank : (l : Links) → IsStartBlank (links_view l)
links_blank l = start_blank l.count l.found l.partner l.start
