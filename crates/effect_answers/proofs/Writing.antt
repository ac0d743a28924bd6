-- What the texts of an answer need: its vertices have names.
use Rattle.std.proofs.Common.{ℕ, zero, suc, ◌≡◌, ◌<◌, ◌⊎◌, inl, inr, true, false, List, length, get_or, take, slice_index, All, refl, sym, subst}
use Rattle.std.proofs.Common.{arith, length-take}
use Rattle.std.proofs.lemmas.List.{get_or-take}
use Rattle.std.specs.List.{zip}
use Rattle.std.proofs.lemmas.Bool.{cases_Bool}
use Rattle.std.proofs.lemmas.List.Elements.{All-from_get_or}
use Rattle.std.proofs.lemmas.Slice.Zip.{length-zip, get_or-zip}
use Rattle.mixed_graph.specs.Vocabulary.{has, Within, Apart, MixedGraph}
use Rattle.do_rules.specs.Vocabulary.{AreThreeSets}
use Rattle.prob_expr.specs.Vocabulary.{PlainTarget, effect_on}
use Rattle.mixed_graph.proofs.MaskLaws.{below_from, has_none}
use Rattle.do_derivation.proofs.TermSets.{apart_back, term_test}
use Rattle.hedge.specs.declared.hedge.Hedge.{Hedge}
use Rattle.hedge.specs.Vocabulary.{HasEntries, IsHedge}
use Rattle.certificate.specs.Vocabulary.{hedge_view}
use Rattle.certificate_json.specs.Vocabulary.{IsTargetWithin, IsBareTarget, IsHedgeWithin}

-- a target whose sets are disjoint
pub target_within : (n : ℕ) (t : PlainTarget) → AreThreeSets n (has t.x) (has t.y) (has t.given) → 0 < t.y → IsTargetWithin n t
target_within n t s some = term_test n t.y t.x t.given (record {
  of_below = s.y_within;
  doing_below = s.x_within;
  given_below = s.w_within;
  of_doing = apart_back (has t.x) (has t.y) s.x_y;
  of_given = s.y_w;
  doing_given = s.x_w;
}) (λ none. absurd (omega (arith, some, none)))

-- the target of an effect
pub bare_target : (n x y : ℕ) → Within n (has x) → Within n (has y) → Apart (has x) (has y) → 0 < y → IsBareTarget n (effect_on x y)
bare_target n x y in_x in_y apart some = record {
  sets = term_test n y x 0 (record {
    of_below = in_y;
    doing_below = in_x;
    given_below = λ v h. absurd (grind (arith, h, has_none v));
    of_doing = λ v h. back v h (cases_Bool (has x v));
    of_given = λ v h. has_none v;
    doing_given = λ v h. has_none v;
  }) (λ none. absurd (omega (arith, some, none)));
  bare = refl;
}
  where
    back : (v : ℕ) → has y v ≡ true → (has x v ≡ true) ⊎ (has x v ≡ false) → has x v ≡ false
    back v h (inl i) = absurd (grind (arith, h, apart v i))
    back v h (inr o) = o

-- pairs of the first c places of two lists
pairs_within : (n c : ℕ) (found partner : List ℕ) → ((i : ℕ) → i < c → get_or found i 0 < n) → ((i : ℕ) → i < c → get_or partner i 0 < n)
    → All (λ l. (l.0 < n) × (l.1 < n)) (zip (take c found) (take c partner))
pairs_within n c found partner first second = All-from_get_or (λ (l : ℕ × ℕ). (l.0 < n) × (l.1 < n)) (zip (take c found) (take c partner)) (0, 0) (λ i lt.
    let size = length-zip (take c found) (take c partner) in
    let f = length-take c found in
    let p = length-take c partner in
    let i_found : i < length (take c found) = omega (arith, lt, size) in
    let i_partner : i < length (take c partner) = omega (arith, lt, size) in
    let i_count : i < c = omega (arith, i_found, f) in
    subst (λ (l : ℕ × ℕ). (l.0 < n) × (l.1 < n)) (sym (get_or-zip (take c found) (take c partner) i (0, 0) i_found i_partner)) (
      subst (λ k. k < n) (sym (get_or-take c found i 0 i_count)) (first i i_count),
      subst (λ k. k < n) (sym (get_or-take c partner i 0 i_count)) (second i i_count),
    ))

-- a hedge that holds names vertices of the graph alone
pub hedge_within : (g : MixedGraph) (x y : ℕ) (h : Hedge) → HasEntries h → IsHedge g x y h → IsHedgeWithin g.vertices (hedge_view h)
hedge_within g x y h entries hedge = record {
  big = below_from g.vertices h.big.bits low;
  small = below_from g.vertices h.small.bits (λ v i. low v (hedge.sets.small_inside v i));
  roots = below_from g.vertices h.roots.bits (λ v i. low v (hedge.sets.small_inside v (hedge.sets.roots_inside v i)));
  choice = λ v lt some. choice v lt some (cases_Bool (has h.big.bits v)) (cases_Bool (has h.roots.bits v));
  some = (let few = h.links.in_range in
      omega (
        arith,
        some,
        few,
        entries.found,
        entries.partner,
        length-zip (take h.links.count h.links.found) (take h.links.count h.links.partner),
        length-take h.links.count h.links.found,
        length-take h.links.count h.links.partner,
      ));
  links = pairs_within g.vertices h.links.count h.links.found h.links.partner (λ i lt. low (get_or h.links.found i 0) (hedge.links.inside i lt)) partner;
}
  where
    low : (v : ℕ) → has h.big.bits v ≡ true → v < g.vertices
    low = hedge.sets.low

    some : 0 < h.links.count
    some =
        let root = hedge.sets.rooted in
        let placed = hedge.links.placed root.0 (hedge.sets.small_inside root.0 (hedge.sets.roots_inside root.0 root.1)) in
        let l = placed.listed in omega (arith, l)

    choice : (v : ℕ) → v < 64 → (slice_index h.choice.next v ≡ 64 → ⊥) → (has h.big.bits v ≡ true) ⊎ (has h.big.bits v ≡ false) → (has h.roots.bits v ≡ true)
        ⊎ (has h.roots.bits v ≡ false)
        → (v < g.vertices) × (slice_index h.choice.next v < g.vertices)
    choice v lt some (inl i) (inr o) = (low v i, low (slice_index h.choice.next v) ((hedge.choices v lt).chosen i o).in_big)
    choice v lt some (inl i) (inl r) = absurd (some ((hedge.choices v lt).none (inr r)))
    choice v lt some (inr o) r = absurd (some ((hedge.choices v lt).none (inl o)))

    partner : (i : ℕ) → i < h.links.count → get_or h.links.partner i 0 < g.vertices
    partner zero lt = let start = h.links.start in let l = low (get_or h.links.found 0 0) (hedge.links.inside 0 lt) in omega (arith, start, l)
    partner (suc i) lt =
        let p = hedge.links.partners (suc i) (omega arith) lt in
        let before = p.earlier in
        subst (λ k. k < g.vertices) p.is (low (get_or h.links.found p.place 0) (hedge.links.inside p.place (omega (arith, before, lt))))
