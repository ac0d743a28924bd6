-- Linked vertices are joined by an open walk.
use Rattle.std.proofs.Common.{ℕ, ◌≡◌, ◌<◌, Bool, true, false, refl, sym, ◌||◌, ◌⊎◌, inl, inr, List, [], ◌∷◌, arith}
use Rattle.mixed_graph.specs.Vocabulary.{MixedGraph, IsMixedGraph, IsDirectedPath, IsAncestor}
use Rattle.m_separation.specs.declared.marks.Mark.{Mark}
use Rattle.m_separation.specs.declared.marks.Mark.TheVariants.{Both, Into, Out}
use Rattle.m_separation.specs.Vocabulary.{Step, IsJoined, IsWalk, last, heads_first, heads_second, IsPassed, ArePassedFrom, ArePassed, IsSeparated}

-- a step u-v between members of S, from v on: a directed one only where its tail is outside W
pub data Linked (g : MixedGraph) (S W Y : ℕ → Bool) : ℕ → Type 0 where
  here : {v : ℕ} → Y v ≡ true → Linked g S W Y v
  by_both : {u v : ℕ} → S u ≡ true → g.both u v ≡ true → Linked g S W Y v → Linked g S W Y u
  by_child : {u v : ℕ} → S u ≡ true → g.arrow u v ≡ true → W u ≡ false → Linked g S W Y v → Linked g S W Y u
  by_parent : {u v : ℕ} → S u ≡ true → g.arrow v u ≡ true → W v ≡ false → Linked g S W Y v → Linked g S W Y u

module _ (g : MixedGraph) (W : ℕ → Bool) where
  -- each vertex of the path is outside W
  abbrev pub AllOutside : ℕ → List ℕ → Type 0
  AllOutside v [] = W v ≡ false
  AllOutside v (x ∷ xs) = (W v ≡ false) × AllOutside x xs

  pub first_outside : (v : ℕ) (xs : List ℕ) → AllOutside v xs → W v ≡ false
  first_outside v [] h = h
  first_outside v (x ∷ xs) h = h.0

  pub member : (v : ℕ) → v < g.vertices → W v ≡ true → IsAncestor g W v
  member v lt e = record { vertex = lt; path = []; end = v; leads = refl; inside = e }

  -- a directed path meets W or is outside W
  pub meets_or_not : IsMixedGraph g → (v : ℕ) (xs : List ℕ) (t : ℕ) → v < g.vertices → IsDirectedPath g v xs t → IsAncestor g W v ⊎ AllOutside v xs
  meets_or_not k v [] t lt p = go (W v) refl
    where
      go : (b : Bool) → W v ≡ b → IsAncestor g W v ⊎ (W v ≡ false)
      go true e = inl (member v lt e)
      go false e = inr e
  meets_or_not k v (x ∷ xs) t lt p = go (W v) refl (meets_or_not k x xs t (k.head_below v x p.0) p.1)
    where
      go : (b : Bool) → W v ≡ b → IsAncestor g W x ⊎ AllOutside x xs → IsAncestor g W v ⊎ ((W v ≡ false) × AllOutside x xs)
      go true e r = inl (member v lt e)
      go false e (inl a) = inl (record { vertex = lt; path = x ∷ a.path; end = a.end; leads = (p.0, a.leads); inside = a.inside })
      go false e (inr o) = inr (e, o)

  -- what a step at the front of the walk r from v may rest on
  abbrev pub IsReadyAt : ℕ → Bool → Type 0
  IsReadyAt v true = IsAncestor g W v
  IsReadyAt v false = W v ≡ false

  abbrev pub IsReady : ℕ → List Step → Type 0
  IsReady v [] = W v ≡ false
  IsReady v (s ∷ r) = IsReadyAt v (heads_first s.mark)

module _ (g : MixedGraph) (X Y W : ℕ → Bool) where
  -- a walk from v to Y whose inner vertices are passed
  pub record Comes (v : ℕ) : Type 0 where
    pub steps : List Step
    pub ends : Y (last v steps) ≡ true
    pub last_outside : W (last v steps) ≡ false
    pub walk : IsWalk g v steps
    pub passed : ArePassed g W steps
    pub ready : IsReady g W v steps

  abbrev step : Mark → ℕ → Step
  step m v = record { mark = m; to = v }

  -- a step to v is put in front of a walk from v that has a tail at v or comes from a tail at v
  passed_tail : (v : ℕ) (r : List Step) → W v ≡ false → ArePassed g W r → ArePassedFrom g W false v r
  passed_tail v [] o p = tt
  passed_tail v (s ∷ r) o p = (o, p)

  outs : List ℕ → List Step
  outs [] = []
  outs (x ∷ xs) = step Out x ∷ outs xs

  last-outs : (v : ℕ) (xs : List ℕ) (t : ℕ) → IsDirectedPath g v xs t → last v (outs xs) ≡ t
  unfolding outs
  last-outs v [] t p = p
  last-outs v (x ∷ xs) t p = last-outs x xs t p.1

  walk-outs : (v : ℕ) (xs : List ℕ) (t : ℕ) → IsDirectedPath g v xs t → IsWalk g v (outs xs)
  unfolding outs
  walk-outs v [] t p = tt
  walk-outs v (x ∷ xs) t p = (p.0, walk-outs x xs t p.1)

  passed-outs : (v : ℕ) (xs : List ℕ) → AllOutside g W v xs → ArePassedFrom g W true v (outs xs)
  unfolding outs
  passed-outs v [] o = tt
  passed-outs v (x ∷ xs) o = (o.0, passed-outs x xs o.1)

  passed-outs_whole : (v : ℕ) (xs : List ℕ) → AllOutside g W v xs → ArePassed g W (outs xs)
  unfolding outs
  passed-outs_whole v [] o = tt
  passed-outs_whole v (x ∷ xs) o = passed-outs x xs o.1

  ready-outs : (v : ℕ) (xs : List ℕ) → AllOutside g W v xs → IsReady g W v (outs xs)
  unfolding outs
  ready-outs v [] o = o
  ready-outs v (x ∷ xs) o = o.0

  end_outside : (v : ℕ) (xs : List ℕ) (t : ℕ) → IsDirectedPath g v xs t → AllOutside g W v xs → W t ≡ false
  end_outside v [] t p o = rw (sym p) o
  end_outside v (x ∷ xs) t p o = end_outside x xs t p.1 o.1

  -- a directed path from v to Y outside W is such a walk
  down : (v : ℕ) (xs : List ℕ) (t : ℕ) → IsDirectedPath g v xs t → AllOutside g W v xs → Y t ≡ true → Comes v
  down v xs t p o e = record {
    steps = outs xs;
    ends = rw (last-outs v xs t p) e;
    last_outside = rw (last-outs v xs t p) (end_outside v xs t p o);
    walk = walk-outs v xs t p;
    passed = passed-outs_whole v xs o;
    ready = ready-outs v xs o;
  }

  -- a walk from v to Y, put behind the reverse of a directed path from v to X outside W, is open
  pub back : (v : ℕ) (xs : List ℕ) (t : ℕ) → t < g.vertices → IsDirectedPath g v xs t → AllOutside g W v xs → X t ≡ true
      → (r : List Step) → Y (last v r) ≡ true → W (last v r) ≡ false → IsWalk g v r → ArePassed g W r → IsSeparated g X Y W → ⊥
  back v [] t lt p o e r y w k q sep = sep v r (record {
    vertex = rw p lt;
    begins = rw p e;
    ends = y;
    first_outside = o;
    last_outside = w;
    walk = k;
    passed = q;
  })
  back v (x ∷ xs) t lt p o e r y w k q sep = back x xs t lt p.1 o.1 e (step Into v ∷ r) y w (p.0, k) (passed_tail v r o.0 q) sep

  -- the walk from v, with a step from u to v in front
  passed_head : (v : ℕ) (r : List Step) → IsReady g W v r → ArePassed g W r → ArePassedFrom g W true v r
  passed_head v [] a p = tt
  passed_head v (s ∷ r) a p = (go (heads_first s.mark) a, p)
    where
      go : (k : Bool) → IsReadyAt g W v k → IsPassed g W v true k
      go true a = a
      go false a = a

  module _ (S : ℕ → Bool) (is_graph : IsMixedGraph g) (x_low : (v : ℕ) → X v ≡ true → v < g.vertices)
      (s_is : (v : ℕ) → S v ≡ true → IsAncestor g (λ v. X v || (Y v || W v)) v)
      (x_out : (v : ℕ) → X v ≡ true → W v ≡ false) (y_out : (v : ℕ) → Y v ≡ true → W v ≡ false) (sep : IsSeparated g X Y W) where
    -- a walk from u to Y whose first step may be one of a linked pair gives a walk that is ready
    ready_walk : (u : ℕ) → S u ≡ true → (m : Mark) (v : ℕ) (r : List Step) → IsJoined g u m v → (heads_first m ≡ false → W u ≡ false)
        → Y (last v r) ≡ true → W (last v r) ≡ false → IsWalk g v r → ArePassedFrom g W (heads_second m) v r → Comes u
    ready_walk u su m v r j tail y w k q = go (meets_or_not g W is_graph u a.path a.end a.vertex a.leads)
      where
        a : IsAncestor g (λ v. X v || (Y v || W v)) u
        a = s_is u su

        ready : IsAncestor g W u → (h : Bool) → (h ≡ false → W u ≡ false) → IsReadyAt g W u h
        ready i true t = i
        ready i false t = t refl

        at_end : AllOutside g W u a.path → (x y' : Bool) → X a.end ≡ x → Y a.end ≡ y' → (x || (y' || W a.end)) ≡ true → Comes u
        at_end o true y' ex ey h = absurd (back u a.path a.end (x_low a.end ex) a.leads o ex (step m v ∷ r) y w (j, k) q sep)
        at_end o false true ex ey h = down u a.path a.end a.leads o ey
        at_end o false false ex ey h = absurd (grind (arith, h, end_outside u a.path a.end a.leads o))

        go : IsAncestor g W u ⊎ AllOutside g W u a.path → Comes u
        go (inl i) = record { steps = step m v ∷ r; ends = y; last_outside = w; walk = (j, k); passed = q; ready = ready i (heads_first m) tail }
        go (inr o) = at_end o (X a.end) (Y a.end) refl refl a.inside

    -- where W separates X and Y, a walk whose inner vertices are passed leads from each linked vertex to Y
    pub reach : (v : ℕ) → Linked g S W Y v → Comes v
    reach v (here e) = record { steps = []; ends = e; last_outside = y_out v e; walk = tt; passed = tt; ready = y_out v e }
    reach u (by_both {v = v} su b l) = let c = reach v l in
        ready_walk u su Both v c.steps b (λ q. absurd (grind (arith, q))) c.ends c.last_outside c.walk (passed_head v c.steps c.ready c.passed)
    reach u (by_child {v = v} su b o l) = let c = reach v l in
        ready_walk u su Out v c.steps b (λ q. o) c.ends c.last_outside c.walk (passed_head v c.steps c.ready c.passed)
    reach u (by_parent {v = v} su b o l) = let c = reach v l in
        ready_walk u su Into v c.steps b (λ q. absurd (grind (arith, q))) c.ends c.last_outside c.walk (passed_tail v c.steps o c.passed)
