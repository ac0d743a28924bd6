-- The members of a set without a child in it, child by child.
use Rattle.std.proofs.Common.{ℕ, ◌+◌, ◌≡◌, ◌<◌, ◌≤◌, Bool, true, false, not, ◌&&◌, inl, inr, refl, sym, ◌∙◌, subst, arith}
use Rattle.std.proofs.lemmas.Bool.{cases_eq, and_parts, and_from}
use Rattle.mixed_graph.specs.Vocabulary.{has, MixedGraph, IsMixedGraph}
use Rattle.identification_theory.specs.Vocabulary.{AreRoots}

-- the members of c without a child below k in c
pub record AreRootsBelow (g : MixedGraph) (c roots k : ℕ) : Type 0 where
  pub sound : (v : ℕ) → has roots v ≡ true → (has c v ≡ true) × ((u : ℕ) → u < k → g.arrow v u ≡ true → has c u ≡ true → ⊥)
  pub complete : (v : ℕ) → has c v ≡ true → ((u : ℕ) → u < k → g.arrow v u ≡ true → has c u ≡ true → ⊥) → has roots v ≡ true

pub roots_none : (g : MixedGraph) (c : ℕ) → AreRootsBelow g c c 0
roots_none g c = record { sound = λ v e. (e, λ u lt a i. absurd (omega (arith, lt))); complete = λ v e n. e }

bools : (p q : Bool) → not (p && q) ≡ true → p ≡ true → q ≡ true → ⊥
bools p q n e f = absurd (grind (arith, n, e, f))

off : (p q : Bool) → (p ≡ true → q ≡ true → ⊥) → not (p && q) ≡ true
off true true h = absurd (h refl refl)
off true false h = refl
off false q h = refl

pub roots_more : (g : MixedGraph) (c roots roots' k : ℕ) → ((v : ℕ) → has roots' v ≡ (has roots v && not (has c k && g.arrow v k)))
    → AreRootsBelow g c roots k → AreRootsBelow g c roots' (k + 1)
roots_more g c roots roots' k is s = record {
  sound = λ v e.
      let p = and_parts (has roots v) (not (has c k && g.arrow v k)) (sym (is v) ∙ e) in
      let q = s.sound v p.0 in (
        q.0,
        λ u lt a i. elim (cases_eq u k) [
          | inl same ↦ absurd (bools (has c k) (g.arrow v k) p.1 (subst (λ w. has c w ≡ true) same i) (subst (λ w. g.arrow v w ≡ true) same a))
          | inr d ↦ q.1 u (omega (arith, lt, d)) a i
        ],
      );
  complete = λ v e none. is v ∙ and_from (has roots v) (not (has c k && g.arrow v k)) (s.complete v e (λ u lt a i. none u (omega (arith, lt)) a i))
      (off (has c k) (g.arrow v k) (λ i a. none k (omega arith) a i));
}

pub roots_all : (g : MixedGraph) → IsMixedGraph g → g.vertices ≤ 64 → (c roots k : ℕ) → 64 ≤ k → AreRootsBelow g c roots k → AreRoots g c roots
roots_all g valid few c roots k le s = record {
  sound = λ v e. let q = s.sound v e in (q.0, λ u a i. q.1 u (let l = valid.head_below v u a in omega (arith, l, few, le)) a i);
  complete = λ v p. s.complete v p.0 (λ u lt a i. p.1 u a i);
}
