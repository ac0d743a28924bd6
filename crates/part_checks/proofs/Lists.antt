-- Lists of parts, one part more each time.
use Rattle.std.proofs.Common.{ℕ, suc, ◌+◌, ◌≡◌, ◌<◌, ◌≤◌, ◌↔◌, true, not, refl, sym, ap, ◌∙◌, ◌&&◌, List, [], ◌∷◌, ◌++◌, length, get_or, take, subst, arith}
use Rattle.std.specs.Prelude.{All}
use Rattle.std.proofs.lemmas.Bool.{and_from, not_from_false}
use Rattle.std.proofs.lemmas.List.{map_more, get_or-map, length-map, take_all, map-append}
use Rattle.mixed_graph.specs.declared.sets.VSet.{VSet}
use Rattle.mixed_graph.specs.Vocabulary.{has, MixedGraph, Within, is_below, is_empty}
use Rattle.mixed_graph.proofs.MaskLaws.{not_empty as filled}
use Rattle.finite_models.proofs.Bools.{and_first, and_second}
use Rattle.hedge.specs.Vocabulary.{IsMaximalJoined, IsSetOf, first_masks}
use Rattle.prob_expr.specs.Vocabulary.{masks_of}
use Rattle.do_derivation.specs.Vocabulary.{are_sets}
use Rattle.identification_theory.proofs.Sets.{below, not_empty}
use Rattle.identify.proofs.StepLists.{masks_taken}
use Rattle.derived_parts.specs.Accepted.{is_set}
use Rattle.derived_parts.specs.Vocabulary.{AreAccepted, IsAcceptedPart, PlainDerivedPart, derived_view, derived_views}
use Rattle.derived_parts.specs.declared.part.DerivedPart.{DerivedPart}
use Rattle.natural_id.specs.declared.answers.Part.{Part}
use Rattle.natural_id.specs.Answers.{part_view, parts_view}
use Rattle.natural_id.specs.Vocabulary.{AreAlike, PlainPart}
use Rattle.part_checks.specs.Making.{AreWellMade, IsWellMade}
use Rattle.part_checks.specs.Natural.{AreEachAlike}
use Rattle.part_checks.specs.Reading.{AreReadAs, IsPartOf, IsReadAs, ReadsOwn, ReadsThrough}

pub read_more : (reads : ℕ → ℕ → Type 0) (ps : List PlainDerivedPart) (qs : List PlainPart) (p : PlainDerivedPart) (q : PlainPart) → AreReadAs reads ps qs
    → IsReadAs reads p q → AreReadAs reads (ps ++ p ∷ []) (qs ++ q ∷ [])
read_more reads [] [] p q h k = (k, tt)
read_more reads [] (b ∷ qs) p q h k = absurd h
read_more reads (a ∷ ps) [] p q h k = absurd h
read_more reads (a ∷ ps) (b ∷ qs) p q h k = (h.0, read_more reads ps qs p q h.1 k)

-- one part more is read
pub read_next : (reads : ℕ → ℕ → Type 0) (ps : List DerivedPart) (qs more : List Part) (p : DerivedPart) (q : Part) (second : ℕ)
    → AreReadAs reads (derived_views ps) (parts_view qs) → more ≡ qs ++ q ∷ [] → IsPartOf (derived_view p) second (part_view q)
    → IsSetOf second (reads p.district.bits) → AreReadAs reads (derived_views (ps ++ p ∷ [])) (parts_view more)
read_next reads ps qs more p q second h e is set =
    subst (λ l. AreReadAs reads l (parts_view more)) (sym (map-append derived_view ps (p ∷ [])))
    (subst (AreReadAs reads (derived_views ps ++ derived_view p ∷ [])) (sym (ap parts_view e ∙ map-append part_view qs (q ∷ [])))
    (read_more reads (derived_views ps) (parts_view qs) (derived_view p) (part_view q) h (record {
      district = is.district;
      formula = is.formula;
      second = subst (λ n. IsSetOf n (reads p.district.bits)) (sym is.second) set;
    })))

pub through_read : (g : MixedGraph) (x through c inside parents second : ℕ) → ((v : ℕ) → has inside v ≡ (has c v && has through v))
    → ((u : ℕ) → (has parents u ≡ true) ↔ ((v : ℕ) × (has inside v ≡ true) × (g.arrow u v ≡ true)))
    → ((u : ℕ) → has second u ≡ (has x u && has parents u)) → IsSetOf second (ReadsThrough g x through c)
through_read g x through c inside parents second is_inside are is_second = record {
  sound = λ u e.
      let h = sym (is_second u) ∙ e in
      let k = (are u).0 (and_second (has x u) (has parents u) h) in
      let i = sym (is_inside k.0) ∙ k.1 in
      (and_first (has x u) (has parents u) h, (k.0, and_first (has c k.0) (has through k.0) i, and_second (has c k.0) (has through k.0) i, k.2));
  complete = λ u k. is_second u ∙ and_from (has x u) (has parents u) k.0
      ((are u).1 (k.1.0, is_inside k.1.0 ∙ and_from (has c k.1.0) (has through k.1.0) k.1.1 k.1.2, k.1.3));
}

pub own_read : (x c second : ℕ) → ((u : ℕ) → has second u ≡ (has x u && has c u)) → IsSetOf second (ReadsOwn x c)
own_read x c second is = record {
  sound = λ u e. let h = sym (is u) ∙ e in (and_first (has x u) (has c u) h, and_second (has x u) (has c u) h);
  complete = λ u k. is u ∙ and_from (has x u) (has c u) k.0 k.1;
}

alike_push : (g : MixedGraph) (x through : ℕ) (cs : List ℕ) (c : ℕ) → AreEachAlike g x through cs → AreAlike g x through c
    → AreEachAlike g x through (cs ++ c ∷ [])
alike_push g x through [] c h k = (k, tt)
alike_push g x through (b ∷ cs) c h k = (h.0, alike_push g x through cs c h.1 k)

accepted_push : (g : MixedGraph) (cs : List ℕ) (ps : List PlainDerivedPart) (c : ℕ) (p : PlainDerivedPart) → AreAccepted g cs ps → IsAcceptedPart g c p
    → AreAccepted g (cs ++ c ∷ []) (ps ++ p ∷ [])
accepted_push g [] [] c p h k = (k, tt)
accepted_push g [] (q ∷ ps) c p h k = absurd h
accepted_push g (b ∷ cs) [] c p h k = absurd h
accepted_push g (b ∷ cs) (q ∷ ps) c p h k = (h.0, accepted_push g cs ps c p h.1 k)

pub made_push : (n : ℕ) (ps : List PlainDerivedPart) (p : PlainDerivedPart) → AreWellMade n ps → IsWellMade n p → AreWellMade n (ps ++ p ∷ [])
made_push n [] p h k = (k, tt)
made_push n (q ∷ ps) p h k = (h.0, made_push n ps p h.1 k)

-- the sets up to number i, and the set there
module _ (cs : List VSet) (i : ℕ) (lt : i < length cs) where
  abbrev pub here : VSet
  here = get_or cs i (record { bits = 0 })

  pub masks_more : masks_of (take (i + 1) cs) ≡ masks_of (take i cs) ++ here.bits ∷ []
  masks_more = map_more (λ (s : VSet). s.bits) cs i (record { bits = 0 }) lt

  pub mask_here : get_or (masks_of cs) i 0 ≡ here.bits
  mask_here = get_or-map (λ (s : VSet). s.bits) cs i (record { bits = 0 }) 0 lt

  pub mask_in : i < length (masks_of cs)
  mask_in = subst (λ k. i < k) (sym (length-map cs (λ (s : VSet). s.bits))) lt

  pub all_here : (P : ℕ → Type 0) → All P (masks_of cs) → P here.bits
  all_here P all = subst P mask_here (all i 0 mask_in)

  pub alike_more : (g : MixedGraph) (x through : ℕ) → AreEachAlike g x through (masks_of (take i cs)) → AreAlike g x through here.bits
      → AreEachAlike g x through (masks_of (take (i + 1) cs))
  alike_more g x through h k = subst (AreEachAlike g x through) (sym masks_more) (alike_push g x through (masks_of (take i cs)) here.bits h k)

  pub accepted_more : (g : MixedGraph) (ps : List PlainDerivedPart) (p : PlainDerivedPart) → AreAccepted g (masks_of (take i cs)) ps
      → IsAcceptedPart g here.bits p → AreAccepted g (masks_of (take (i + 1) cs)) (ps ++ p ∷ [])
  accepted_more g ps p h k = subst (λ l. AreAccepted g l (ps ++ p ∷ [])) (sym masks_more) (accepted_push g (masks_of (take i cs)) ps here.bits p h k)

pub masks_all : (cs : List VSet) (i : ℕ) → length cs ≤ i → masks_of (take i cs) ≡ masks_of cs
masks_all cs i le = ap masks_of (take_all i cs le)

-- the first sets of an array
pub first_are : (sets : List VSet) (n : ℕ) → masks_of (take n sets) ≡ first_masks sets n
first_are sets n = sym (masks_taken sets n)

-- a set within the vertices that isn't empty
pub set_within : (n c : ℕ) → Within n (has c) → 0 < c → is_set n c ≡ true
set_within n c within some = and_from (is_below n c) (not (is_empty c)) (below n c within) (filled c (λ none. absurd (omega (arith, some, none))))

-- joined sets are sets of which effects may be asked
pub sets_of_maximal : (g : MixedGraph) (d : ℕ) → ((v : ℕ) → has d v ≡ true → v < g.vertices) → (ts : List ℕ) → All (IsMaximalJoined g d) ts
    → are_sets g.vertices ts ≡ true
sets_of_maximal g d low [] all = refl
sets_of_maximal g d low (t ∷ ts) all =
    let is = all 0 0 (omega arith) in
    and_from (is_set g.vertices t) (are_sets g.vertices ts)
    (and_from (is_below g.vertices t) (not (is_empty t)) (below g.vertices t (λ v e. low v (is.inside v e)))
    (not_from_false (is_empty t) (not_empty t is.some.0 is.some.1)))
    (sets_of_maximal g d low ts (λ i k l. all (suc i) k (omega (arith, l))))

-- the first n sets of an array
abbrev pub taken : List VSet → ℕ → List VSet
taken sets n = take n sets
