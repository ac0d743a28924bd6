-- Sets that shrink from round to round.
use Rattle.std.proofs.Common.{◌≡◌, ◌≢◌, ℕ, zero, suc, ◌^◌, ◌<◌, ◌≤◌, Bool, true, false, not, ◌&&◌, ◌==◌, List, [], ◌∷◌, length, IsTrue, inl, inr}
use Rattle.std.proofs.Common.{refl, sym, ap, ◌∙◌, subst, arith, ltb-true}
use Rattle.std.proofs.lemmas.Bool.{cases_eq, eqb-true, and_parts}
use Rattle.mixed_graph.specs.Vocabulary.{has, members_below, MixedGraph, IsMixedGraph, IsDirectedPath, induced, Within, minus}
use Rattle.mixed_graph.proofs.Masks.{has-pow, below_64, has-zero, same_from_has, some_member, le_from_subset}
use Rattle.mixed_graph.proofs.Members.{one_if, length-members-suc, length-members-zero, length-members-none}
use Rattle.mixed_graph.proofs.MaskLaws.{has_minus, below_from}
use Rattle.hedge.specs.Vocabulary.{IsLinked, IsDistrict, IsInside, IsJoinedSet, at, by}
use Rattle.hedge.proofs.Parts.{link_in, link_through}
use Rattle.identification_theory.specs.Vocabulary.{AreAncestorsIn}

-- how many members a mask of vertices has
abbrev pub size : ℕ → ℕ
size a = length (members_below (has a) 64)

fewer_bits : (p q : Bool) → (p ≡ true → q ≡ true) → one_if p ≤ one_if q
fewer_bits true true h = omega arith
fewer_bits true false h = absurd (let e = h refl in cc)
fewer_bits false true h = omega arith
fewer_bits false false h = omega arith

-- a part has no more members
members_le : (s t : ℕ → Bool) (k : ℕ) → ((u : ℕ) → IsTrue (s u) → IsTrue (t u)) → length (members_below s k) ≤ length (members_below t k)
members_le s t zero h = omega (arith, length-members-zero s, length-members-zero t)
members_le s t (suc k) h = omega (arith, length-members-suc s k, length-members-suc t k, members_le s t k h, fewer_bits (s k) (t k) (h k))

-- a proper part has fewer
pub members_lt : (s t : ℕ → Bool) (k v : ℕ) → v < k → ((u : ℕ) → IsTrue (s u) → IsTrue (t u)) → s v ≡ false → t v ≡ true
    → length (members_below s k) < length (members_below t k)
members_lt s t zero v lt h out into = absurd (omega arith)
members_lt s t (suc k) v lt h out into = elim (cases_eq v k) [
  | inl e ↦
      let a : one_if (s k) ≡ 0 = ap one_if (ap s (sym e) ∙ out) in
      let b : one_if (t k) ≡ 1 = ap one_if (ap t (sym e) ∙ into) in
      omega (arith, length-members-suc s k, length-members-suc t k, a, b, members_le s t k h)
  | inr d ↦ omega (arith, length-members-suc s k, length-members-suc t k, fewer_bits (s k) (t k) (h k), members_lt s t k v (omega arith) h out into)
]

-- a set of vertices fits 64 bits
pub fits_64 : (n a : ℕ) → n ≤ 64 → Within n (has a) → a < 2 ^ 64
fits_64 n a small low = ltb-true a (2 ^ 64) (below_from 64 a (λ v i. let l = low v i in omega arith))

pub some_size : (a v : ℕ) → a < 2 ^ 64 → IsTrue (has a v) → 0 < size a
some_size a v fits i = let l = members_lt (λ _. false) (has a) 64 v (below_64 a v fits i) (λ u e. absurd (cc)) refl i in
    omega (arith, l, length-members-none (λ _. false) 64 (λ u. refl))

-- a set inside a part of another that isn't that part has fewer members
pub fewer : (a2 t a : ℕ) → a < 2 ^ 64 → ((u : ℕ) → IsTrue (has a2 u) → IsTrue (has t u)) → ((u : ℕ) → IsTrue (has t u) → IsTrue (has a u)) → a2 ≢ t
    → size a2 < size a
fewer a2 t a fits sub up ne =
    let m = some_member (minus t a2) some (let l = le_from_subset (minus t a2) a (λ u i. up u (and_parts _ _ (sym (has_minus t a2 u) ∙ i)).0) in
    omega (arith, l, fits)) in
    let p = and_parts _ _ (sym (has_minus t a2 m.0) ∙ m.1) in
    members_lt (has a2) (has a) 64 m.0 (below_64 a m.0 fits (up m.0 p.0)) (λ u i. up u (sub u i)) (not_true (has a2 m.0) p.1) (up m.0 p.0)
  where
    not_true : (b : Bool) → not b ≡ true → b ≡ false
    not_true b h = grind (arith, h)

    whole : (p q : Bool) → (p ≡ true → q ≡ true) → (q && not p) ≡ false → p ≡ q
    whole true true h e = refl
    whole true false h e = absurd (let k = h refl in cc)
    whole false true h e = absurd (cc)
    whole false false h e = refl

    some : minus t a2 ≡ 0 → ⊥
    some e = ne (same_from_has a2 t (λ u. whole (has a2 u) (has t u) (sub u) (sym (has_minus t a2 u) ∙ ap (λ n. has n u) e ∙ has-zero u)))

module _ (g : MixedGraph) (valid : IsMixedGraph g) (c a : ℕ) (inside : IsInside c a) where
  wider : (s : ℕ → Bool) (u : ℕ) → IsLinked g (has c) s u → IsLinked g (has a) s u
  wider s u (at e) = at e
  wider s u (by {v = w} i b r) = by (inside u i) b (wider s w r)

  -- the district of one member of a joined set is that of the set
  pub district_of_set : (v t : ℕ) → IsTrue (has c v) → IsJoinedSet g c → IsDistrict g a (2 ^ v) t → IsDistrict g a c t
  district_of_set v t i joined d = record {
    sound = λ u e. link_through g valid (has a) (has (2 ^ v)) (has c) u
        (λ w k. at (subst (λ x. has c x ≡ true) (sym (eqb-true w v (sym (has-pow v w) ∙ k))) i)) (d.sound u e);
    complete = λ u l. d.complete u (link_through g valid (has a) (has c) (has (2 ^ v)) u
        (λ w k. link_through g valid (has a) (λ x. x == v) (has (2 ^ v)) w (λ x e. at (has-pow v x ∙ e)) (wider (λ x. x == v) w (joined w v k i))) l);
  }

  pub district_inside : (t : ℕ) → IsDistrict g a c t → (u : ℕ) → IsTrue (has t u) → IsTrue (has a u)
  district_inside t d u i = link_in g valid (has a) (has c) u inside (d.sound u i)

  pub district_holds : (t : ℕ) → IsDistrict g a c t → (u : ℕ) → IsTrue (has c u) → IsTrue (has t u)
  district_holds t d u i = d.complete u (at i)

module _ (g : MixedGraph) (c t b : ℕ) (above : AreAncestorsIn g t c b) where
  pub ancestors_inside : ((u : ℕ) → IsTrue (has c u) → IsTrue (has t u)) → (u : ℕ) → IsTrue (has b u) → IsTrue (has t u)
  ancestors_inside holds u i = let a = above.sound u i in go u a.path a.end a.leads a.inside
    where
      go : (u : ℕ) (path : List ℕ) (end : ℕ) → IsDirectedPath (induced g (has t)) u path end → IsTrue (has c end) → IsTrue (has t u)
      go u [] end p k = holds u (subst (λ x. has c x ≡ true) (sym p) k)
      go u (x ∷ path) end p k = (and_parts (has t u) (has t x) (and_parts (g.arrow u x) (has t u && has t x) p.0).1).0

  pub ancestors_hold : Within g.vertices (has c) → IsInside c b
  ancestors_hold low v i = above.complete v (record { vertex = low v i; path = []; end = v; leads = refl; inside = i })

  pub ancestors_below : Within g.vertices (has b)
  ancestors_below v i = (above.sound v i).vertex
