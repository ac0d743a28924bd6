-- A hedge whose links have 64 entries is the one of its plain form; and a hedge has no fault.
use Rattle.std.proofs.Common.{◌≡◌, ◌≤◌, ℕ, Bool, true, false, List, length, map, take, get_or, inl, inr, sym, ap, ◌∙◌, subst, arith}
use Rattle.std.specs.Prelude.{slice_index}
use Rattle.std.proofs.Math.Bridge.{le_prop}
use Rattle.std.proofs.Math.Nat.{ℕ_set}
use Rattle.std.proofs.lemmas.Bool.{cases_lt}
use Rattle.std.proofs.lemmas.Grind.{same_number_lists}
use Rattle.std.proofs.lemmas.List.{length-take-le, get_or-take}
use Rattle.std.proofs.lemmas.Slice.Zip.{firsts-zip, seconds-zip}
use Rattle.mixed_graph.specs.declared.sets.VSet.{VSet}
use Rattle.mixed_graph.specs.Vocabulary.{has, MixedGraph}
use Rattle.hedge.specs.declared.joined_sets.lists.Links.{Links}
use Rattle.hedge.specs.declared.hedge.Hedge.{Hedge}
use Rattle.hedge.specs.declared.hedge.HedgeFault.{HedgeFault}
use Rattle.hedge.specs.Vocabulary.{HasEntries, IsFirstHedgeFault, IsWrongLink, IsHedge}
use Rattle.hedge.specs.declared.joined_sets.lists.Choice.{Choice}
use Rattle.hedge.specs.declared.hedge.HedgeFault.TheVariants as wrong
use Rattle.certificate.specs.Vocabulary.{PlainHedge, links_view, hedge_view}

-- ---- links, choices and hedges by their entries

-- what links keep
abbrev Keeps : (found partner : List ℕ) (count : ℕ) → Type 0
Keeps found partner count = (count ≤ 64) × ((i : ℕ) → count ≤ i → slice_index found i ≡ 0) × ((i : ℕ) → count ≤ i → slice_index partner i ≡ 0)
    × (slice_index partner 0 ≡ 0)

one_way : (found partner : List ℕ) (count : ℕ) (a b : Keeps found partner count) → a ≡ b
one_way found partner count = hlevel (le_prop, ℕ_set)

abbrev links_with : (found partner : List ℕ) (count : ℕ) → Keeps found partner count → Links
links_with found partner count k = record {
  found = found;
  partner = partner;
  count = count;
  in_range = k.0;
  blank_found = k.1;
  blank_partner = k.2;
  start = k.3;
}

links_same : (l m : Links) → m.found ≡ l.found → m.partner ≡ l.partner → m.count ≡ l.count → m ≡ l
links_same l m e f c =
    let kept : Keeps m.found m.partner m.count = (m.in_range, m.blank_found, m.blank_partner, m.start) in
    subst (λ (found : List ℕ). (k : Keeps found l.partner l.count) → m ≡ links_with found l.partner l.count k) e
    (subst (λ (partner : List ℕ). (k : Keeps m.found partner l.count) → m ≡ links_with m.found partner l.count k) f
    (subst (λ (count : ℕ). (k : Keeps m.found m.partner count) → m ≡ links_with m.found m.partner count k) c
    (λ k. ap (λ (j : Keeps m.found m.partner m.count). links_with m.found m.partner m.count j) (one_way m.found m.partner m.count kept k))))
    (l.in_range, l.blank_found, l.blank_partner, l.start)

abbrev IsLow : List ℕ → Type 0
IsLow next = (v : ℕ) → slice_index next v ≤ 64

low_one_way : (next : List ℕ) (a b : IsLow next) → a ≡ b
low_one_way next = hlevel (le_prop, ℕ_set)

abbrev choice_with : (next : List ℕ) → IsLow next → Choice
choice_with next k = record { next = next; in_range = k }

choice_same : (c d : Choice) → d.next ≡ c.next → d ≡ c
choice_same c d e = subst (λ (next : List ℕ). (k : IsLow next) → d ≡ choice_with next k) e
    (λ k. ap (λ (j : IsLow d.next). choice_with d.next j) (low_one_way d.next d.in_range k)) c.in_range

set_same : (s t : VSet) → t.bits ≡ s.bits → t ≡ s
set_same s t e = ap (λ (b : ℕ). let v : VSet = record { bits = b } in v) e

abbrev hedge_with : (big small roots : VSet) → Choice → Links → Hedge
hedge_with big small roots choice links = record { big = big; small = small; roots = roots; choice = choice; links = links }

-- ---- links by their plain form

-- the front of each array has as many entries as there are links
front : (l : Links) (xs : List ℕ) → length xs ≡ 64 → length (take l.count xs) ≡ l.count
front l xs e = let r = l.in_range in length-take-le l.count xs (omega arith)

firsts : (l : Links) → length l.found ≡ 64 → length l.partner ≡ 64 → map (λ (p : ℕ × ℕ). p.0) (links_view l) ≡ take l.count l.found
firsts l f p = firsts-zip (take l.count l.found) (take l.count l.partner) (front l l.partner p ∙ sym (front l l.found f))

seconds : (l : Links) → length l.found ≡ 64 → length l.partner ≡ 64 → map (λ (p : ℕ × ℕ). p.1) (links_view l) ≡ take l.count l.partner
seconds l f p = seconds-zip (take l.count l.found) (take l.count l.partner) (front l l.partner p ∙ sym (front l l.found f))

-- arrays with the same front, and 0 behind it, are the same
same_array : (n : ℕ) (xs ys : List ℕ) → length xs ≡ 64 → length ys ≡ 64 → take n ys ≡ take n xs → ((i : ℕ) → n ≤ i → slice_index xs i ≡ 0)
    → ((i : ℕ) → n ≤ i → slice_index ys i ≡ 0) → ys ≡ xs
same_array n xs ys a b e x y = same_number_lists ys xs (b ∙ sym a) (λ k h. elim (cases_lt k n) [
  | inl lt ↦ sym (get_or-take n ys k 0 lt) ∙ ap (λ (zs : List ℕ). get_or zs k 0) e ∙ get_or-take n xs k 0 lt
  | inr ge ↦ y k ge ∙ sym (x k ge)
])

links_from_view : (l m : Links) → length l.found ≡ 64 → length l.partner ≡ 64 → length m.found ≡ 64 → length m.partner ≡ 64 → links_view m ≡ links_view l → m
    ≡ l
links_from_view l m lf lp mf mp same =
    let found : take m.count m.found ≡ take l.count l.found = sym (firsts m mf mp) ∙ ap (λ (ps : List (ℕ × ℕ)). map (λ (p : ℕ × ℕ). p.0) ps) same
    ∙ firsts l lf lp in
    let partner : take m.count m.partner ≡ take l.count l.partner = sym (seconds m mf mp) ∙ ap (λ (ps : List (ℕ × ℕ)). map (λ (p : ℕ × ℕ). p.1) ps) same
    ∙ seconds l lf lp in
    let count : m.count ≡ l.count = sym (front m m.found mf) ∙ ap (λ (xs : List ℕ). length xs) found ∙ front l l.found lf in
    links_same l m
    (same_array l.count l.found m.found lf mf (ap (λ (n : ℕ). take n m.found) (sym count) ∙ found) l.blank_found (λ i h. m.blank_found i (omega arith)))
    (same_array l.count l.partner m.partner lp mp (ap (λ (n : ℕ). take n m.partner) (sym count) ∙ partner) l.blank_partner
    (λ i h. m.blank_partner i (omega arith)))
    count

pub hedge_from_view : (h k : Hedge) → HasEntries h → HasEntries k → hedge_view k ≡ hedge_view h → k ≡ h
hedge_from_view h k a b e =
    ap (λ (s : VSet). hedge_with s k.small k.roots k.choice k.links) (set_same h.big k.big (ap (λ (v : PlainHedge). v.big) e))
    ∙ ap (λ (s : VSet). hedge_with h.big s k.roots k.choice k.links) (set_same h.small k.small (ap (λ (v : PlainHedge). v.small) e))
    ∙ ap (λ (s : VSet). hedge_with h.big h.small s k.choice k.links) (set_same h.roots k.roots (ap (λ (v : PlainHedge). v.roots) e))
    ∙ ap (λ (c : Choice). hedge_with h.big h.small h.roots c k.links) (choice_same h.choice k.choice (ap (λ (v : PlainHedge). v.choice) e))
    ∙ ap (λ (l : Links). hedge_with h.big h.small h.roots h.choice l) (links_from_view h.links k.links a.found a.partner b.found b.partner
    (ap (λ (v : PlainHedge). v.links) e))

-- ---- a hedge has no fault

clash : (b : Bool) → b ≡ true → b ≡ false → ⊥
clash b e f = absurd (grind (arith, e, f))

no_wrong_link : (g : MixedGraph) (x y : ℕ) (h : Hedge) (v : ℕ) → IsHedge g x y h → IsWrongLink g h v → ⊥
no_wrong_link g x y h v is (inl f) = f.wrong (is.links.placed v f.among)
no_wrong_link g x y h v is (inr (inl f)) = let stranger = f.1 in clash _ (is.links.inside stranger.place stranger.listed) stranger.outside
no_wrong_link g x y h v is (inr (inr f)) = f.2.wrong (λ i some listed at. is.links.partners i some listed)

pub no_hedge_fault : (g : MixedGraph) (x y : ℕ) (h : Hedge) (f : HedgeFault) → IsHedge g x y h → IsFirstHedgeFault g x y h f → ⊥
no_hedge_fault g x y h wrong.Sets is f = f is.sets
no_hedge_fault g x y h wrong.BigMissesX is f = let m = is.meets in clash (has x m.vertex) m.in_second (f.1 m.vertex m.in_first)
no_hedge_fault g x y h wrong.SmallMeetsX is f = let m = f.1 in clash (has x m.vertex) m.in_second (is.apart m.vertex m.in_first)
no_hedge_fault g x y h (wrong.Choice v) is f = f.1.wrong (is.choices v f.1.among)
no_hedge_fault g x y h (wrong.Link v) is f = no_wrong_link g x y h v is f.1
no_hedge_fault g x y h (wrong.Root v) is f = f.2.wrong (is.roots v f.2.among)
