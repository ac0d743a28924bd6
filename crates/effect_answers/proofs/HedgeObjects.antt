-- Hedges that are alike have one object, and so have the models that they give.
use Rattle.std.proofs.Common.{◌≡◌, ℕ, zero, suc, ◌+◌, ◌<◌, ◌&&◌, Bool, true, false, cond, nat_lt, List, [], ◌∷◌, ◌++◌, map, Option, Some, None}
use Rattle.std.proofs.Common.{refl, sym, ap, ap₂, ◌∙◌, arith}
use Rattle.std.specs.Prelude.{codes, decimal}
use Rattle.std.proofs.lemmas.Bool.{ltb-true}
use Rattle.std.proofs.lemmas.List.{map-append}
use Rattle.json.specs.Json.{Json, string}
use Rattle.mixed_graph.specs.Vocabulary.{has, members_below}
use Rattle.finite_models.specs.declared.model.Cause.{Cause}
use Rattle.finite_models.specs.declared.model.Part.{Part}
use Rattle.finite_models.specs.declared.model.Mechanism.{Mechanism}
use Rattle.finite_models.specs.declared.model.Mechanism.TheVariants.{Table, Parity}
use Rattle.hedge.specs.declared.hedge.Hedge.{Hedge}
use Rattle.counter_models.specs.declared.counter_pair.CounterPair.{CounterPair}
use Rattle.identify_text.specs.Vocabulary.{chooses}
use Rattle.answer_json.specs.Vocabulary.{array_of, object_of, set_json, vertex_json, pair_json}
use Rattle.hedge_json.specs.declared.bits.Bit.{Bit}
use Rattle.hedge_json.specs.declared.bits.Bit.TheVariants.{HedgeBit, CarriedBit}
use Rattle.hedge_json.specs.Vocabulary.{choice_json, choices_json, link_json, links_json, hedge_json, cause_json, bit_members, bit_json, bits_json, cause_term, terms_json, part_values, mechanism_values, vertex_values, event_json, models_json}
use Rattle.effect_answers.specs.Objects.{hedge_members}
use Rattle.effect_answers.proofs.OneHedge.{AreAlike}
use Rattle.effect_answers.proofs.AlikePairs.{members_alike, AreSameCauses, IsSamePart, AreSameParts, IsSameMechanism, AreSameMechanisms, ArePairsAlike}

-- the same value for each member
values_alike : (f e : ℕ → Json) (s : ℕ → Bool) (k : ℕ) → ((v : ℕ) → v < k → s v ≡ true → e v ≡ f v)
    → map e (members_below s k) ≡ map f (members_below s k)
unfolding members_below
values_alike f e s zero same = refl
values_alike f e s (suc k) same =
    map-append e (members_below s k) (cond (s k) (k ∷ []) [])
    ∙ ap₂ (λ (a b : List Json). a ++ b) (values_alike f e s k (λ v lt i. same v (omega (arith, lt)) i)) (last (s k) refl)
    ∙ sym (map-append f (members_below s k) (cond (s k) (k ∷ []) []))
  where
    last : (b : Bool) → s k ≡ b → map e (cond b (k ∷ []) []) ≡ map f (cond b (k ∷ []) [])
    last true i = ap (λ (j : Json). j ∷ []) (same k (omega arith) i)
    last false i = refl

-- ---- hedges

choices_alike : (names : List (List ℕ)) (h k : Hedge) → AreAlike h k → choices_json names k ≡ choices_json names h
choices_alike names h k a =
    ap (map (choice_json names k)) (members_alike (chooses h) (chooses k) 64
    (λ v lt. ap₂ (λ (b c : ℕ). has b v && nat_lt c 64) a.big (a.choices v lt)))
    ∙ values_alike (choice_json names h) (choice_json names k) (chooses h) 64
    (λ v lt i. ap (λ (c : ℕ). object_of ((codes "vertex", vertex_json names v) ∷ (codes "child", vertex_json names c) ∷ [])) (a.choices v lt))

links_alike : (names : List (List ℕ)) (h k : Hedge) → AreAlike h k → links_json names k ≡ links_json names h
links_alike names h k a =
    ap (λ (n : ℕ). map (link_json names k) (members_below (nat_lt 0) n)) a.count
    ∙ values_alike (link_json names h) (link_json names k) (nat_lt 0) h.links.count
    (λ i lt some. ap₂ (λ (u v : ℕ). pair_json names (u, v)) (a.entries i lt) (a.partners i (ltb-true 0 i some) lt))

abbrev hedge_with : List (List ℕ) → (big small roots : ℕ) → (choices links : List Json) → Json
hedge_with names big small roots choices links = object_of (
    (codes "larger", set_json names big) ∷ (codes "smaller", set_json names small) ∷ (codes "roots", set_json names roots)
    ∷ (codes "choices", array_of choices) ∷ (codes "links", array_of links) ∷ [])

-- hedges that are alike have one value
pub hedges_alike : (names : List (List ℕ)) (h k : Hedge) → AreAlike h k → hedge_json names k ≡ hedge_json names h
hedges_alike names h k a =
    ap (λ (s : ℕ). hedge_with names s k.small.bits k.roots.bits (choices_json names k) (links_json names k)) a.big
    ∙ ap (λ (s : ℕ). hedge_with names h.big.bits s k.roots.bits (choices_json names k) (links_json names k)) a.small
    ∙ ap (λ (s : ℕ). hedge_with names h.big.bits h.small.bits s (choices_json names k) (links_json names k)) a.roots
    ∙ ap₂ (λ (c l : List Json). hedge_with names h.big.bits h.small.bits h.roots.bits c l) (choices_alike names h k a) (links_alike names h k a)

-- ---- causes

causes_alike : (names : List (List ℕ)) (cs ds : List Cause) → AreSameCauses cs ds → map (cause_json names) ds ≡ map (cause_json names) cs
causes_alike names [] [] same = refl
causes_alike names [] (d ∷ ds) same = absurd same
causes_alike names (c ∷ cs) [] same = absurd same
causes_alike names (c ∷ cs) (d ∷ ds) same =
    let first : cause_json names d ≡ cause_json names c = ap₂ (λ (n : ℕ) (ws : List ℕ).
    object_of ((codes "acts_on", set_json names n) ∷ (codes "weights", array_of (map (λ (w : ℕ). string (decimal w)) ws)) ∷ [])) same.0 same.1 in
    ap₂ (λ (j : Json) (js : List Json). j ∷ js) first (causes_alike names cs ds same.2)

-- ---- bits

abbrev terms_with : List (List ℕ) → ℕ → Bool → (hs cs : ℕ) → List ℕ → List Json
terms_with names v own hs cs items = cond own (bit_json names HedgeBit v ∷ []) [] ++ (bits_json names HedgeBit hs ++ (bits_json names CarriedBit cs
    ++ map cause_term items))

same_terms : (names : List (List ℕ)) (v : ℕ) (p q : Part) → IsSamePart p q → terms_json names v q ≡ terms_json names v p
same_terms names v p q s =
    ap (λ (o : Bool). terms_with names v o q.hedge_of.bits q.carried_of.bits q.causes.items) s.own
    ∙ ap (λ (n : ℕ). terms_with names v p.own_hedge n q.carried_of.bits q.causes.items) s.hedges
    ∙ ap (λ (n : ℕ). terms_with names v p.own_hedge p.hedge_of.bits n q.causes.items) s.carrieds
    ∙ ap (λ (l : List ℕ). terms_with names v p.own_hedge p.hedge_of.bits p.carried_of.bits l) s.causes

part_alike : (names : List (List ℕ)) (bit : Bit) (v : ℕ) (p q : Option Part) → AreSameParts p q → part_values names bit v q ≡ part_values names bit v p
part_alike names bit v None None same = refl
part_alike names bit v None (Some q) same = absurd same
part_alike names bit v (Some p) None same = absurd same
part_alike names bit v (Some p) (Some q) same =
    ap (λ (ts : List Json). object_of (bit_members names bit v ++ (codes "sum", array_of ts) ∷ []) ∷ []) (same_terms names v p q same)

mechanism_alike : (names : List (List ℕ)) (v : ℕ) (m n : Mechanism) → IsSameMechanism m n → mechanism_values names v n ≡ mechanism_values names v m
mechanism_alike names v (Table outputs) n same = absurd same
mechanism_alike names v (Parity p c) (Table outputs) same = absurd same
mechanism_alike names v (Parity p c) (Parity q d) same =
    ap₂ (λ (x y : List Json). x ++ y) (part_alike names HedgeBit v p q same.0) (part_alike names CarriedBit v c d same.1)

vertices_alike : (names : List (List ℕ)) (v : ℕ) (ms ns : List Mechanism) → AreSameMechanisms ms ns → vertex_values names v ns ≡ vertex_values names v ms
vertices_alike names v [] [] same = refl
vertices_alike names v [] (n ∷ ns) same = absurd same
vertices_alike names v (m ∷ ms) [] same = absurd same
vertices_alike names v (m ∷ ms) (n ∷ ns) same =
    ap₂ (λ (a b : List Json). a ++ b) (mechanism_alike names v m n same.0) (vertices_alike names (v + 1) ms ns same.1)

-- ---- pairs

event_alike : (names : List (List ℕ)) (p q : CounterPair) → ArePairsAlike p q → event_json names q ≡ event_json names p
event_alike names p q same = ap₂ (λ (e n : ℕ). object_of (
    (codes "sum", array_of (bits_json names CarriedBit e)) ∷ (codes "first", string (codes "1/2"))
    ∷ (codes "second", string (codes "1/2 + 1/2^" ++ decimal (n + 1))) ∷ [])) same.event same.noise

abbrev models_with : (causes first second : List Json) → Json → Json
models_with causes first second event = object_of (
    (codes "causes", array_of causes) ∷ (codes "first", array_of first) ∷ (codes "second", array_of second) ∷ (codes "event", event) ∷ [])

-- pairs that are alike have one value
pub models_alike : (names : List (List ℕ)) (p q : CounterPair) → ArePairsAlike p q → models_json names q ≡ models_json names p
models_alike names p q same =
    let causes = causes_alike names p.first.causes.items q.first.causes.items same.causes in
    let first = vertices_alike names 0 p.first.mechanisms.items q.first.mechanisms.items same.first in
    let second = vertices_alike names 0 p.second.mechanisms.items q.second.mechanisms.items same.second in
    let event = event_alike names p q same in
    λ i. models_with (causes i) (first i) (second i) (event i)

-- ---- objects

-- hedges that are alike, with pairs that are, have the same members
pub objects_alike : (names : List (List ℕ)) (h k : Hedge) (p q : CounterPair) → AreAlike h k → ArePairsAlike p q
    → hedge_members names k q ≡ hedge_members names h p
objects_alike names h k p q a same =
    ap₂ (λ (hedge models : Json). (codes "hedge", hedge) ∷ (codes "models", models) ∷ []) (hedges_alike names h k a) (models_alike names p q same)
