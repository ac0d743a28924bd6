use Rattle.std.proofs.Common.{◌≡◌, ℕ, ◌<◌, Bool, true, false, ◌&&◌, ◌||◌, ◌==◌, List, [], ◌∷◌, None, inl, inr, refl, sym, ◌∙◌, IsTrue, arith, slice_index}
use Rattle.std.specs.Prelude.{All}
use Rattle.std.proofs.lemmas.Bool.{cases_Bool, and_parts, eqb-true, or_cases, eq-eqb}
use Rattle.std.proofs.lemmas.List.Elements.{All-head, All-tail}
use Rattle.mixed_graph.specs.Bits.{has}
use Rattle.mixed_graph.specs.Graphs.{IsMixedGraph, IsDirectedPath, graph_from}
use Rattle.mixed_graph.specs.Arrows.{arrows_only, IsOnNoCycle}
use Rattle.mixed_graph.specs.Pairs.{has_pair, loop_in}
use Rattle.mixed_graph.proofs.Paths.{path_below}

-- the ends of joined vertices are as the pairs' ends
pub joins_ends : (n : ℕ) (pairs : List (ℕ × ℕ)) → All (λ p. (p.0 < n) × (p.1 < n)) pairs → (a b : ℕ) → IsTrue (has_pair pairs a b) → (a < n) × (b < n)
joins_ends n [] all a b h = absurd (cc)
joins_ends n (p ∷ rest) all a b h = elim (or_cases _ _ h) [
  | inl here ↦
      let e = and_parts _ _ here in
      let ea : a ≡ p.0 = eqb-true a p.0 e.0 in let eb : b ≡ p.1 = eqb-true b p.1 e.1 in
      let ends = All-head (λ p. (p.0 < n) × (p.1 < n)) p rest all in (omega (arith, ea, ends.0), omega (arith, eb, ends.1))
  | inr later ↦ joins_ends n rest (All-tail (λ p. (p.0 < n) × (p.1 < n)) p rest all) a b later
]

-- where no pair has equal ends, no vertex is joined to itself
pub joins_apart : (pairs : List (ℕ × ℕ)) → loop_in pairs ≡ None → (a : ℕ) → has_pair pairs a a ≡ false
joins_apart [] e a = refl
joins_apart (p ∷ rest) e a = elim (cases_Bool (p.0 == p.1)) [
  | inl t ↦ absurd (let k = rw t at e in cc)
  | inr f ↦
      let k : loop_in rest ≡ None = rw f at e in
      let later = joins_apart rest k a in
      elim (cases_Bool ((a == p.0) && (a == p.1))) [
        | inl u ↦
            let both = and_parts _ _ u in
            let same : (p.0 == p.1) ≡ true = eq-eqb p.0 p.1 (sym (eqb-true a p.0 both.0) ∙ eqb-true a p.1 both.1) in absurd (cc)
        | inr u ↦ rw u later
      ]
]

same_paths : (n : ℕ) (children spouses : List ℕ) (a b : ℕ) (path : List ℕ) → IsDirectedPath (graph_from n children spouses) a path b
    → IsDirectedPath (arrows_only n children) a path b
same_paths n children spouses a b [] p = p
same_paths n children spouses a b (c ∷ rest) p = (p.0, same_paths n children spouses c b rest p.1)

pub graph_is_valid : (n : ℕ) (directed both : List (ℕ × ℕ)) (children spouses : List ℕ) →
    All (λ p. (p.0 < n) × (p.1 < n)) directed → All (λ p. (p.0 < n) × (p.1 < n)) both → loop_in both ≡ None →
    ((a b : ℕ) → has (slice_index children a) b ≡ has_pair directed a b) →
    ((a b : ℕ) → has (slice_index spouses a) b ≡ (has_pair both a b || has_pair both b a)) →
    ((a : ℕ) → IsOnNoCycle (arrows_only n children) a) → IsMixedGraph (graph_from n children spouses)
graph_is_valid n directed both children spouses de be apart ds bs free = record {
  tail_below = λ a b h. (ends a b h).0;
  head_below = λ a b h. (ends a b h).1;
  both_below = λ a b h. elim (or_cases _ _ (sym (bs a b) ∙ h)) [
    | inl t ↦ (joins_ends n both be a b t).0
    | inr t ↦ (joins_ends n both be b a t).1
  ];
  symmetric = λ a b h. bs b a ∙ or_swap (has_pair both b a) (has_pair both a b) ∙ sym (bs a b) ∙ h;
  no_loop = λ a. bs a a ∙ (let e = joins_apart both apart a in rw e refl);
  acyclic = λ a c rest p. let q = same_paths n children spouses a a (c ∷ rest) p in
      free a c rest (path_below (arrows_only n children) (λ u v h. (ends u v h).1) a (c ∷ rest) a (ends a c q.0).0 q);
}
  where
    ends : (a b : ℕ) → IsTrue (has (slice_index children a) b) → (a < n) × (b < n)
    ends a b h = joins_ends n directed de a b (sym (ds a b) ∙ h)

    or_swap : (x y : Bool) → (x || y) ≡ (y || x)
    or_swap true true = refl
    or_swap true false = refl
    or_swap false true = refl
    or_swap false false = refl
