-- Separations by an invariant of open walks.
use Rattle.std.proofs.Common.{ℕ, ◌≡◌, Bool, true, false, refl, ◌⊎◌, inl, inr, List, [], ◌∷◌, arith}
use Rattle.m_separation.specs.declared.marks.Mark.TheVariants.{Both, Into, Out}
use Rattle.m_separation.specs.declared.marks.Mark.{Mark}
use Rattle.m_separation.specs.Vocabulary.{ArePassedFrom, IsJoined, IsPassed, IsSeparated, IsWalk, Step, heads_first, heads_second, last}
use Rattle.mixed_graph.specs.Vocabulary.{IsAncestor, IsDirectedPath, MixedGraph}

-- a fact of each place of an open walk: R h u where the walk came to u with an arrowhead at u (h) or without
pub record HoldsAlongWalks (g : MixedGraph) (X Y W : ℕ → Bool) (R : Bool → ℕ → Type 0) : Type 0 where
  pub first : (v : ℕ) (m : Mark) (u : ℕ) → X v ≡ true → IsJoined g v m u → R (heads_second m) u
  pub next : (h : Bool) (v : ℕ) (m : Mark) (u : ℕ) → R h v → IsPassed g W v h (heads_first m) → IsJoined g v m u → R (heads_second m) u
  pub final : (h : Bool) (u : ℕ) → R h u → Y u ≡ true → W u ≡ false → ⊥
  -- no vertex is both in X and in Y
  pub apart : (v : ℕ) → X v ≡ true → Y v ≡ true → ⊥

module _ (g : MixedGraph) (X Y W : ℕ → Bool) (R : Bool → ℕ → Type 0) (k : HoldsAlongWalks g X Y W R) where
  along_walk : (h : Bool) (v : ℕ) (r : List Step) → R h v → IsWalk g v r → ArePassedFrom g W h v r → Y (last v r) ≡ true → W (last v r) ≡ false → ⊥
  along_walk h v [] i w p y o = k.final h v i y o
  along_walk h v (s ∷ r) i w p y o = along_walk (heads_second s.mark) s.to r (k.next h v s.mark s.to i p.0 w.0) w.1 p.1 y o

  pub separated_by : IsSeparated g X Y W
  separated_by v [] o = k.apart v o.begins o.ends
  separated_by v (s ∷ r) o = along_walk (heads_second s.mark) s.to r (k.first v s.mark s.to o.begins o.walk.0) o.walk.1 o.passed o.ends o.last_outside

-- a set that holds the parents of its members holds the ancestors of each set within it
pub closed_above : (g : MixedGraph) (P : ℕ → Type 0) (W : ℕ → Bool) → ((p u : ℕ) → g.arrow p u ≡ true → P u → P p) → ((u : ℕ) → W u ≡ true → P u) → (v : ℕ)
    → IsAncestor g W v → P v
closed_above g P W closed given v a = go v a.path a.leads
  where
    go : (v : ℕ) (xs : List ℕ) → IsDirectedPath g v xs a.end → P v
    go v [] e = rw e (given a.end a.inside)
    go v (x ∷ xs) e = closed v x e.0 (go x xs e.1)

-- v is the last vertex of a set P that holds its members' parents; D holds v, is linked by bidirected edges to no other member of P,
-- and W has all parents of D's members and all of D but v.
pub record IsFront (g : MixedGraph) (v : ℕ) (P D : ℕ → Type 0) (Y W : ℕ → Bool) : Type 0 where
  pub closed : (p u : ℕ) → g.arrow p u ≡ true → P u → P p
  pub childless : (u : ℕ) → g.arrow v u ≡ true → P u → ⊥
  pub start : D v
  pub linked : (u w : ℕ) → g.both u w ≡ true → D u → D w ⊎ (P w → ⊥)
  pub parents : (p u : ℕ) → g.arrow p u ≡ true → D u → W p ≡ true
  pub others : (u : ℕ) → D u → W u ≡ false → u ≡ v
  pub given : (u : ℕ) → W u ≡ true → P u
  pub off : Y v ≡ true → ⊥
  pub no_arrow : (p u : ℕ) → g.arrow p u ≡ true → (P u → ⊥) → Y u ≡ true → ⊥
  pub no_both : (p u : ℕ) → g.both p u ≡ true → (P u → ⊥) → Y u ≡ true → ⊥

module _ (g : MixedGraph) (v : ℕ) (P D : ℕ → Type 0) (X Y W : ℕ → Bool) (f : IsFront g v P D Y W) (alone : (u : ℕ) → X u ≡ true → u ≡ v) where
  Place : Bool → ℕ → Type 0
  Place true u = D u ⊎ ((P u → ⊥) × (Y u ≡ true → ⊥))
  Place false u = W u ≡ true

  by_both : (u w : ℕ) → g.both u w ≡ true → D u ⊎ (P w → ⊥) → Place true w
  unfolding Place
  by_both u w b (inr n) = inr (n, f.no_both u w b n)
  by_both u w b (inl d) = go (f.linked u w b d)
    where
      go : D w ⊎ (P w → ⊥) → D w ⊎ ((P w → ⊥) × (Y w ≡ true → ⊥))
      go (inl d) = inl d
      go (inr n) = inr (n, f.no_both u w b n)

  from_d : (u : ℕ) (m : Mark) (w : ℕ) → D u → (heads_first m ≡ false → u ≡ v) → IsJoined g u m w → Place (heads_second m) w
  unfolding Place
  from_d u Out w d alone_out j = let n : P w → ⊥ = f.childless w (rw (alone_out refl) at j) in inr (n, f.no_arrow u w j n)
  from_d u Into w d alone_out j = f.parents w u j d
  from_d u Both w d alone_out j = by_both u w j (inl d)

  next : (h : Bool) (u : ℕ) (m : Mark) (w : ℕ) → Place h u → IsPassed g W u h (heads_first m) → IsJoined g u m w → Place (heads_second m) w
  unfolding Place
  next false u m w i p j = absurd (grind (arith, i, p))
  next true u Out w (inl d) p j = from_d u Out w d (λ e. f.others u d p) j
  next true u Out w (inr n) p j = let k : P w → ⊥ = λ q. n.0 (f.closed u w j q) in inr (k, f.no_arrow u w j k)
  next true u Into w (inl d) p j = from_d u Into w d (λ e. absurd (grind (arith, e))) j
  next true u Into w (inr n) p j = absurd (n.0 (closed_above g P W f.closed f.given u p))
  next true u Both w (inl d) p j = from_d u Both w d (λ e. absurd (grind (arith, e))) j
  next true u Both w (inr n) p j = absurd (n.0 (closed_above g P W f.closed f.given u p))

  final : (h : Bool) (u : ℕ) → Place h u → Y u ≡ true → W u ≡ false → ⊥
  unfolding Place
  final false u i y o = grind (arith, i, o)
  final true u (inl d) y o = f.off (rw (f.others u d o) at y)
  final true u (inr n) y o = n.1 y

  first : (u : ℕ) (m : Mark) (w : ℕ) → X u ≡ true → IsJoined g u m w → Place (heads_second m) w
  unfolding Place
  first u m w e j = from_d u m w (rw (alone u e) f.start) (λ q. alone u e) j

  pub front : IsSeparated g X Y W
  unfolding Place
  front = separated_by g X Y W Place (record { first = first; next = next; final = final; apart = λ u e y. f.off (rw (alone u e) at y) })
