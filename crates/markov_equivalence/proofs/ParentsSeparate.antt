-- The parents of the later of two vertices that no arrow joins separate the two (Pearl).
use Rattle.std.proofs.Common.{ℕ, ◌≡◌, ◌<◌, ◌≤◌, Bool, true, false, List, [], ◌∷◌, refl, ap, arith}
use Rattle.mixed_graph.specs.Vocabulary.{MixedGraph, IsMixedGraph, IsDirectedPath}
use Rattle.markov_equivalence.specs.Skeletons.{HasArrowsAlone, is_adjacent, is_unshielded_collider}
use Rattle.markov_equivalence.specs.Comparisons.{SeparatesInOne}
use Rattle.markov_equivalence.proofs.Ways.{clash, Way, stop, out, into, separated_without, open_along, reversed}

-- each arrow leads to a higher place
abbrev pub Rises : MixedGraph → (ℕ → ℕ) → Type 0
Rises k place = (u v : ℕ) → k.arrow u v ≡ true → place u < place v

module _ (k : MixedGraph) (place : ℕ → ℕ) (rises : Rises k place) where
  path_rises : (v : ℕ) (xs : List ℕ) (t : ℕ) → IsDirectedPath k v xs t → place v ≤ place t
  path_rises v [] t p = omega (arith, ap place p)
  path_rises v (x ∷ xs) t p = omega (arith, rises v x p.0, path_rises x xs t p.1)

  itself : (b : ℕ) → k.arrow b b ≡ false
  itself b = go (k.arrow b b) refl
    where
      go : (c : Bool) → k.arrow b b ≡ c → k.arrow b b ≡ false
      go true e = absurd (omega (arith, rises b b e))
      go false e = e

  module _ (a b : ℕ) (later : place a < place b) where
    -- behind b there are vertices later than b, and colliders that aren't ancestors of parents of b
    beyond : (v : ℕ) → place b < place v → Way k (λ p. k.arrow p b) a true v → ⊥
    beyond v l (stop s o) = omega (arith, ap place s)
    beyond v l (out {v = v'} e o r) = beyond v' (omega (arith, rises v v' e)) r
    beyond v l (into true e d r) = omega (arith, path_rises v d.path d.end d.leads, rises d.end b d.inside)

    before : (v : ℕ) → k.arrow v b ≡ true → Way k (λ p. k.arrow p b) a false v → ⊥
    before v e (stop s o) = clash (k.arrow v b) e o
    before v e (out f o r) = clash (k.arrow v b) e o
    before v e (into false f o r) = clash (k.arrow v b) e o

    blocked : Way k (λ p. k.arrow p b) a false b → ⊥
    blocked (stop s o) = omega (arith, ap place s)
    blocked (out {v = v} e o r) = beyond v (rises b v e) r
    blocked (into false {v = v} e o r) = before v e r

    -- a way from a to b in g, given the parents that b has in k
    module _ (g : MixedGraph) (none : HasArrowsAlone k) (free : is_adjacent k a b ≡ false) where
      a_outside : k.arrow a b ≡ false
      a_outside = grind (arith, free)

      pub differs : a < g.vertices → Way g (λ p. k.arrow p b) b false a → SeparatesInOne k g a b (λ p. k.arrow p b)
      differs below way = record {
        without_a = a_outside;
        without_b = itself b;
        there = separated_without k (λ p. k.arrow p b) a b none (λ w. blocked (reversed k (λ p. k.arrow p b) a b w));
        not_there = open_along g (λ p. k.arrow p b) a b below a_outside way;
      }

      pub differs_back : b < g.vertices → Way g (λ p. k.arrow p b) b false a → SeparatesInOne k g b a (λ p. k.arrow p b)
      differs_back below way = record {
        without_a = itself b;
        without_b = a_outside;
        there = separated_without k (λ p. k.arrow p b) b a none blocked;
        not_there = open_along g (λ p. k.arrow p b) b a below (itself b) (reversed g (λ p. k.arrow p b) a b way);
      }

      pub edge_way : is_adjacent g a b ≡ true → Way g (λ p. k.arrow p b) b false a
      edge_way edge = go (g.arrow a b) refl
        where
          go : (c : Bool) → g.arrow a b ≡ c → Way g (λ p. k.arrow p b) b false a
          go true e = out e a_outside (stop refl (itself b))
          go false e = let f : g.arrow b a ≡ true = grind (arith, e, edge) in into false f a_outside (stop refl (itself b))

      -- a pair that g joins and k doesn't lies in g; the skeletons agree and m is a collider in g alone
      pub collider_way : IsMixedGraph g → ((u v : ℕ) → is_adjacent g u v ≡ is_adjacent k u v) → (m : ℕ) →
          is_unshielded_collider g a m b ≡ true → is_unshielded_collider k a m b ≡ false → Way g (λ p. k.arrow p b) b false a
      collider_way valid same m in_g not_in_k = out am a_outside (into true bm
          (record { vertex = valid.head_below a m am; path = []; end = m; leads = refl; inside = parent }) (stop refl (itself b)))
        where
          am : g.arrow a m ≡ true
          am = grind (arith, in_g)

          bm : g.arrow b m ≡ true
          bm = grind (arith, in_g)

          -- else a -> m <- b in k too, or b -> m -> a, against the order
          parent : k.arrow m b ≡ true
          parent = go (k.arrow b m) (k.arrow m a) refl refl
            where
              go : (c d : Bool) → k.arrow b m ≡ c → k.arrow m a ≡ d → k.arrow m b ≡ true
              go false d e f = let s = same b m in grind (arith, bm, s, e)
              go true true e f = absurd (omega (arith, later, rises b m e, rises m a f))
              go true false e f = let s = same a m in absurd (grind (arith, am, s, e, f, free, not_in_k))
