-- Hedges that are alike are printed alike, and so are the models that they give.
use Rattle.std.proofs.Common.{◌≡◌, ℕ, zero, suc, ◌+◌, ◌<◌, ◌&&◌, Bool, true, false, cond, nat_lt, List, [], ◌∷◌, ◌++◌, map, Option, Some, None}
use Rattle.std.proofs.Common.{refl, sym, ap, ap₂, ◌∙◌, arith}
use Rattle.std.specs.Prelude.{codes, decimal}
use Rattle.std.specs.List.{flat_map}
use Rattle.std.proofs.lemmas.Bool.{ltb-true}
use Rattle.std.proofs.lemmas.List.Concat.{flat_map-append}
use Rattle.mixed_graph.specs.Vocabulary.{has, members_below}
use Rattle.answer_text.specs.Vocabulary.{set_text}
use Rattle.finite_models.specs.declared.model.Cause.{Cause}
use Rattle.finite_models.specs.declared.model.Part.{Part}
use Rattle.finite_models.specs.declared.model.Mechanism.{Mechanism}
use Rattle.finite_models.specs.declared.model.Mechanism.TheVariants.{Table, Parity}
use Rattle.hedge.specs.declared.hedge.Hedge.{Hedge}
use Rattle.counter_models.specs.declared.counter_pair.CounterPair.{CounterPair}
use Rattle.identify_text.specs.declared.bits.Bit.{Bit}
use Rattle.identify_text.specs.Vocabulary.{sets_line, unidentifiable_line, chooses, choice_line, choice_lines, link_line, link_lines, weights_text, cause_line, cause_lines, vertex_text, bit_text, bits_of, cause_text, terms_of, sum_text, part_line, mechanism_lines, vertex_lines, event_line, models_text, hedge_answer}
use Rattle.identify_text.specs.declared.bits.Bit.TheVariants as bits
use Rattle.effect_answers.proofs.OneHedge.{AreAlike}
use Rattle.effect_answers.proofs.AlikePairs.{members_alike, AreSameCauses, IsSamePart, AreSameParts, IsSameMechanism, AreSameMechanisms, ArePairsAlike}

-- ---- lists of members

-- the same line for each member
lines_alike : (f e : ℕ → List ℕ) (s : ℕ → Bool) (k : ℕ) → ((v : ℕ) → v < k → s v ≡ true → e v ≡ f v) → flat_map e (members_below s k)
    ≡ flat_map f (members_below s k)
unfolding members_below
lines_alike f e s zero same = refl
lines_alike f e s (suc k) same =
    flat_map-append e (members_below s k) (cond (s k) (k ∷ []) [])
    ∙ ap₂ (λ (a b : List ℕ). a ++ b) (lines_alike f e s k (λ v lt i. same v (omega (arith, lt)) i)) (last (s k) refl)
    ∙ sym (flat_map-append f (members_below s k) (cond (s k) (k ∷ []) []))
  where
    last : (b : Bool) → s k ≡ b → flat_map e (cond b (k ∷ []) []) ≡ flat_map f (cond b (k ∷ []) [])
    last true i = ap (λ (l : List ℕ). l ++ []) (same k (omega arith) i)
    last false i = refl

-- ---- hedges

abbrev sets_with : List (List ℕ) → (big small roots : ℕ) → List ℕ
sets_with names big small roots =
    codes "hedge " ++ (set_text names big ++ (codes " over " ++ (set_text names small ++ (codes " with roots " ++ (set_text names roots ++ codes "\n")))))

pub sets_alike : (names : List (List ℕ)) (h k : Hedge) → k.big.bits ≡ h.big.bits → k.small.bits ≡ h.small.bits → k.roots.bits ≡ h.roots.bits
    → sets_line names k ≡ sets_line names h
sets_alike names h k b s r =
    ap (λ (m : ℕ). sets_with names m k.small.bits k.roots.bits) b ∙ ap (λ (m : ℕ). sets_with names h.big.bits m k.roots.bits) s
    ∙ ap (λ (m : ℕ). sets_with names h.big.bits h.small.bits m) r

choices_alike : (names : List (List ℕ)) (h k : Hedge) → AreAlike h k → choice_lines names k ≡ choice_lines names h
choices_alike names h k a =
    ap (flat_map (choice_line names k)) (members_alike (chooses h) (chooses k) 64
    (λ v lt. ap₂ (λ (b c : ℕ). has b v && nat_lt c 64) a.big (a.choices v lt)))
    ∙ lines_alike (choice_line names h) (choice_line names k) (chooses h) 64
    (λ v lt i. ap (λ (c : ℕ). codes "choice " ++ (vertex_text names v ++ (codes " -> " ++ (vertex_text names c ++ codes "\n")))) (a.choices v lt))

links_alike : (names : List (List ℕ)) (h k : Hedge) → AreAlike h k → link_lines names k ≡ link_lines names h
links_alike names h k a =
    ap (λ (n : ℕ). flat_map (link_line names k) (members_below (nat_lt 0) n)) a.count
    ∙ lines_alike (link_line names h) (link_line names k) (nat_lt 0) h.links.count
    (λ i lt some. ap₂ (λ (u v : ℕ). codes "link " ++ (vertex_text names u ++ (codes " <-> " ++ (vertex_text names v ++ codes "\n"))))
    (a.entries i lt) (a.partners i (ltb-true 0 i some) lt))

-- ---- causes

causes_alike : (names : List (List ℕ)) (j : ℕ) (cs ds : List Cause) → AreSameCauses cs ds → cause_lines names j ds ≡ cause_lines names j cs
causes_alike names j [] [] same = refl
causes_alike names j [] (d ∷ ds) same = absurd same
causes_alike names j (c ∷ cs) [] same = absurd same
causes_alike names j (c ∷ cs) (d ∷ ds) same =
    let line : cause_line names j d ≡ cause_line names j c = ap₂ (λ (n : ℕ) (ws : List ℕ). codes "cause " ++ (decimal j ++ (codes " on " ++ (set_text names n
    ++ (codes " with weights" ++ (weights_text ws ++ codes "\n")))))) same.0 same.1 in
    ap₂ (λ (a b : List ℕ). a ++ b) line (causes_alike names (j + 1) cs ds same.2)

-- ---- bits

abbrev terms_with : List (List ℕ) → ℕ → Bool → (hs cs : ℕ) → List ℕ → List (List ℕ)
terms_with names v own hs cs items = cond own (bit_text names bits.Hedge v ∷ []) [] ++ (bits_of names bits.Hedge hs ++ (bits_of names bits.Carried cs
    ++ map cause_text items))

same_terms : (names : List (List ℕ)) (v : ℕ) (p q : Part) → IsSamePart p q → terms_of names v q ≡ terms_of names v p
same_terms names v p q s =
    ap (λ (o : Bool). terms_with names v o q.hedge_of.bits q.carried_of.bits q.causes.items) s.own
    ∙ ap (λ (n : ℕ). terms_with names v p.own_hedge n q.carried_of.bits q.causes.items) s.hedges
    ∙ ap (λ (n : ℕ). terms_with names v p.own_hedge p.hedge_of.bits n q.causes.items) s.carrieds
    ∙ ap (λ (l : List ℕ). terms_with names v p.own_hedge p.hedge_of.bits p.carried_of.bits l) s.causes

part_alike : (names : List (List ℕ)) (model : List ℕ) (bit : Bit) (v : ℕ) (p q : Option Part) → AreSameParts p q
    → part_line names model bit v q ≡ part_line names model bit v p
part_alike names model bit v None None same = refl
part_alike names model bit v None (Some q) same = absurd same
part_alike names model bit v (Some p) None same = absurd same
part_alike names model bit v (Some p) (Some q) same =
    ap (λ (ts : List (List ℕ)). model ++ (codes " " ++ (bit_text names bit v ++ (codes " = " ++ (sum_text ts ++ codes "\n"))))) (same_terms names v p q same)

mechanism_alike : (names : List (List ℕ)) (model : List ℕ) (v : ℕ) (m n : Mechanism) → IsSameMechanism m n
    → mechanism_lines names model v n ≡ mechanism_lines names model v m
mechanism_alike names model v (Table outputs) n same = absurd same
mechanism_alike names model v (Parity p c) (Table outputs) same = absurd same
mechanism_alike names model v (Parity p c) (Parity q d) same =
    ap₂ (λ (x y : List ℕ). x ++ y) (part_alike names model bits.Hedge v p q same.0) (part_alike names model bits.Carried v c d same.1)

vertices_alike : (names : List (List ℕ)) (model : List ℕ) (v : ℕ) (ms ns : List Mechanism) → AreSameMechanisms ms ns
    → vertex_lines names model v ns ≡ vertex_lines names model v ms
vertices_alike names model v [] [] same = refl
vertices_alike names model v [] (n ∷ ns) same = absurd same
vertices_alike names model v (m ∷ ms) [] same = absurd same
vertices_alike names model v (m ∷ ms) (n ∷ ns) same =
    ap₂ (λ (a b : List ℕ). a ++ b) (mechanism_alike names model v m n same.0) (vertices_alike names model (v + 1) ms ns same.1)

-- ---- pairs

event_alike : (names : List (List ℕ)) (p q : CounterPair) → ArePairsAlike p q → event_line names q ≡ event_line names p
event_alike names p q same = ap₂ (λ (e n : ℕ). codes "event " ++ (sum_text (bits_of names bits.Carried e)
    ++ (codes " even: 1/2 in the first, 1/2 + 1/2^" ++ (decimal (n + 1) ++ codes " in the second\n")))) same.event same.noise

-- hedges that are alike, with pairs that are, are printed alike
pub models_alike : (names : List (List ℕ)) (h k : Hedge) (p q : CounterPair) → AreAlike h k → ArePairsAlike p q → models_text names k q ≡ models_text names h p
models_alike names h k p q a same =
    ap₂ (λ (l m : List ℕ). l ++ m) (choices_alike names h k a)
    (ap₂ (λ (l m : List ℕ). l ++ m) (links_alike names h k a)
    (ap₂ (λ (l m : List ℕ). l ++ m) (causes_alike names 0 p.first.causes.items q.first.causes.items same.causes)
    (ap₂ (λ (l m : List ℕ). l ++ m) (vertices_alike names (codes "first") 0 p.first.mechanisms.items q.first.mechanisms.items same.first)
    (ap₂ (λ (l m : List ℕ). l ++ m) (vertices_alike names (codes "second") 0 p.second.mechanisms.items q.second.mechanisms.items same.second)
    (event_alike names p q same)))))

-- and so is the whole answer
pub hedge_alike : (names : List (List ℕ)) (x y : ℕ) (h k : Hedge) (p q : CounterPair) → AreAlike h k → ArePairsAlike p q
    → hedge_answer names x y k q ≡ hedge_answer names x y h p
hedge_alike names x y h k p q a same =
    ap₂ (λ (l m : List ℕ). (unidentifiable_line names x y ++ l) ++ m) (sets_alike names h k a.big a.small a.roots) (models_alike names h k p q a same)
