-- An open way of one graph is one of a graph with the same skeleton and unshielded colliders, or can be made shorter.
use Rattle.std.proofs.Common.{ℕ, zero, suc, ◌+◌, ◌≡◌, ◌<◌, Bool, true, false, not, ◌&&◌, List, [], ◌∷◌, length, ◌⊎◌, inl, inr, refl, sym, ap, ◌∙◌, arith}
use Rattle.std.proofs.lemmas.Bool.{cases_order, or_cases, or_left, and_from, and_parts}
use Rattle.mixed_graph.specs.Vocabulary.{MixedGraph, IsMixedGraph, IsDirectedPath, IsAncestor}
use Rattle.markov_equivalence.specs.Skeletons.{is_adjacent, is_unshielded_collider, AreEquivalent}
use Rattle.markov_equivalence.proofs.Ways.{clash, Met, Way, stop, out, into}
use Rattle.markov_equivalence.proofs.Shows.{turned as adjacent_turned}
use Rattle.markov_equivalence.proofs.Shortening.{cost, size, Less, Apart, two, three, collider, forward, backward, fork, Forked, shorter, apart, before, after}

-- the parts of an unshielded collider
pub is_unshielded_collider_from : (g : MixedGraph) (a m b : ℕ) → g.arrow a m ≡ true → g.arrow b m ≡ true → is_adjacent g a b ≡ false
    → is_unshielded_collider g a m b ≡ true
is_unshielded_collider_from g a m b p q r = and_from (g.arrow a m) (g.arrow b m && not (is_adjacent g a b)) p
    (and_from (g.arrow b m) (not (is_adjacent g a b)) q (rw r refl))

-- one graph's skeleton and unshielded colliders are in the other, whichever vertex is the lower one
pub record Agrees (g k : MixedGraph) : Type 0 where
  pub edge : (a b : ℕ) → (a ≡ b → ⊥) → is_adjacent g a b ≡ is_adjacent k a b
  pub collides : (a b m : ℕ) → (a ≡ b → ⊥) → g.arrow a m ≡ true → g.arrow b m ≡ true → is_adjacent g a b ≡ false → (k.arrow a m ≡ true) × (k.arrow b m ≡ true)

apart_in_order : (a b : ℕ) → (a ≡ b → ⊥) → (a < b) ⊎ (b < a)
apart_in_order a b d = elim (cases_order a b) [
  | inl e ↦ absurd (d e)
  | inr o ↦ o
]

pub agrees : (g k : MixedGraph) → AreEquivalent g k → Agrees g k
agrees g k s = record {
  edge = λ a b d. edge a b (apart_in_order a b d);
  collides = λ a b m d p q r. collides a b m p q r (apart_in_order a b d);
}
  where
    edge : (a b : ℕ) → (a < b) ⊎ (b < a) → is_adjacent g a b ≡ is_adjacent k a b
    edge a b (inl h) = s.skeleton a b h
    edge a b (inr h) = adjacent_turned g a b ∙ s.skeleton b a h ∙ adjacent_turned k b a

    parts : (a b m : ℕ) → is_unshielded_collider k a m b ≡ true → (k.arrow a m ≡ true) × (k.arrow b m ≡ true)
    parts a b m e = let p = and_parts (k.arrow a m) (k.arrow b m && not (is_adjacent k a b)) e in
        (p.0, (and_parts (k.arrow b m) (not (is_adjacent k a b)) p.1).0)

    collides : (a b m : ℕ) → g.arrow a m ≡ true → g.arrow b m ≡ true → is_adjacent g a b ≡ false → (a < b) ⊎ (b < a) → (k.arrow a m ≡ true)
        × (k.arrow b m ≡ true)
    collides a b m p q r (inl h) = parts a b m (sym (s.colliders a b m h) ∙ is_unshielded_collider_from g a m b p q r)
    collides a b m p q r (inr h) =
        let e = parts b a m (sym (s.colliders b a m h) ∙ is_unshielded_collider_from g b m a q p (adjacent_turned g b a ∙ r)) in (e.1, e.0)

pub flipped : (g k : MixedGraph) → AreEquivalent g k → AreEquivalent k g
flipped g k s = record { skeleton = λ a b h. sym (s.skeleton a b h); colliders = λ a b m h. sym (s.colliders a b m h) }

module _ (g k : MixedGraph) (gok : IsMixedGraph g) (kok : IsMixedGraph k) (w : ℕ → Bool) (e : ℕ) (gk : Agrees g k) (kg : Agrees k g) where
  loop_free : {A : Type 0} (a : ℕ) → g.arrow a a ≡ true → A
  loop_free a p = absurd (gok.acyclic a a [] (p, refl))

  differ : (a b : ℕ) → g.arrow a b ≡ true → a ≡ b → ⊥
  differ a b p s = loop_free a (rw (sym s) at p)

  -- an arrow of g is an edge of k
  turned : (a b : ℕ) → g.arrow a b ≡ true → k.arrow a b ≡ false → k.arrow b a ≡ true
  turned a b p q = go (or_cases (k.arrow a b) (k.arrow b a) (sym (gk.edge a b (differ a b p)) ∙ or_left (g.arrow a b) (g.arrow b a) p))
    where
      go : (k.arrow a b ≡ true) ⊎ (k.arrow b a ≡ true) → k.arrow b a ≡ true
      go (inl h) = clash (k.arrow a b) h q
      go (inr h) = h

  -- a -> m <- b in k, but no collider in g: a and b are is_adjacent in g
  meets : (a m b : ℕ) → k.arrow a m ≡ true → k.arrow b m ≡ true → (a ≡ b → ⊥) → ((g.arrow a m ≡ true) → (g.arrow b m ≡ true) → ⊥) → (g.arrow a b ≡ true)
      ⊎ (g.arrow b a ≡ true)
  meets a m b p q d not_in_g = go (is_adjacent g a b) refl
    where
      go : (c : Bool) → is_adjacent g a b ≡ c → (g.arrow a b ≡ true) ⊎ (g.arrow b a ≡ true)
      go true h = or_cases (g.arrow a b) (g.arrow b a) h
      go false h = let both = kg.collides a b m d p q (sym (gk.edge a b d) ∙ h) in absurd (not_in_g both.0 both.1)

  -- ---- directed paths
  record Shorter (c t n : ℕ) : Type 0 where
    path : List ℕ
    leads : IsDirectedPath g c path t
    less : length path < n

  descent : (c a : ℕ) → g.arrow c a ≡ true → k.arrow c a ≡ true → (xs : List ℕ) (t : ℕ) → IsDirectedPath g a xs t → Shorter c t (suc (length xs))
      ⊎ IsDirectedPath k a xs t
  descent c a p q [] t l = inr l
  descent c a p q (b ∷ xs) t l = go (k.arrow a b) refl (λ f. descent a b l.0 f xs t l.1)
    where
      go : (x : Bool) → k.arrow a b ≡ x → (k.arrow a b ≡ true → Shorter a t (suc (length xs)) ⊎ IsDirectedPath k b xs t) → Shorter c t (suc (suc (length xs)))
          ⊎ IsDirectedPath k a (b ∷ xs) t
      go true f deeper = wrap (deeper f)
        where
          wrap : Shorter a t (suc (length xs)) ⊎ IsDirectedPath k b xs t → Shorter c t (suc (suc (length xs))) ⊎ IsDirectedPath k a (b ∷ xs) t
          wrap (inl s) = inl (record { path = a ∷ s.path; leads = (p, s.leads); less = omega (arith, s.less) })
          wrap (inr d) = inr (f, d)
      go false f deeper = short (meets c a b q (turned a b l.0 f) (λ s. two g w e gok c a p (rw (sym s) at l.0)) (λ u v. two g w e gok a b l.0 v))
        where
          short : (g.arrow c b ≡ true) ⊎ (g.arrow b c ≡ true) → Shorter c t (suc (suc (length xs))) ⊎ IsDirectedPath k a (b ∷ xs) t
          short (inl f) = inl (record { path = b ∷ xs; leads = (f, l.1); less = omega arith })
          short (inr f) = three g w e gok c a b p l.0 f

  -- ---- what k must have at the start of the rest of a way: hk says whether one comes to u with an arrowhead in k
  abbrev Ready : (hk h : Bool) (u : ℕ) → Way g w e h u → Type 0
  Ready hk h u (stop p o) = Unit {0}
  Ready hk h u (out {v = v} a o r) = hk ≡ true → k.arrow v u ≡ true → ⊥
  Ready hk _ u (into true {v = v} a c r) = (hk ≡ true) × (k.arrow v u ≡ true) × IsAncestor k w u
  Ready hk _ u (into false {v = v} a c r) = hk ≡ true → k.arrow v u ≡ true → ⊥

  -- u -> m <- v unshielded: the collider's path to w is one in k too, or the way can be made shorter
  settled : (h : Bool) (u m v : ℕ) (a : g.arrow u m ≡ true) (o : w u ≡ false) (b : g.arrow v m ≡ true) (d : IsAncestor g w m) (r : Way g w e false v)
      → k.arrow u m ≡ true → k.arrow v m ≡ true → Less g w e h u (6 + (length d.path + size g w e false v r)) ⊎ IsAncestor k w m
  settled h u m v a o b d r ka kb = go d.path refl d.leads
    where
      go : (xs : List ℕ) → d.path ≡ xs → IsDirectedPath g m xs d.end → Less g w e h u (6 + (length d.path + size g w e false v r)) ⊎ IsAncestor k w m
      go [] s l = inr (record { vertex = kok.head_below u m ka; path = []; end = d.end; leads = l; inside = d.inside })
      go (x ∷ xs) s l = pick (k.arrow m x) refl
        where
          long : length d.path ≡ suc (length xs)
          long = ap length s

          same : Shorter m d.end (suc (length xs)) ⊎ IsDirectedPath k x xs d.end → k.arrow m x ≡ true
              → Less g w e h u (6 + (length d.path + size g w e false v r)) ⊎ IsAncestor k w m
          same (inl t) f = inl (record {
            way = out a o (into true b (record {
              vertex = d.vertex;
              path = t.path;
              end = d.end;
              leads = t.leads;
              inside = d.inside;
            }) r);
            less = omega (arith, t.less, long);
          })
          same (inr t) f = inr (record { vertex = kok.head_below u m ka; path = x ∷ xs; end = d.end; leads = (f, t); inside = d.inside })

          moved : (g.arrow u x ≡ true) ⊎ (g.arrow x u ≡ true) → (g.arrow v x ≡ true) ⊎ (g.arrow x v ≡ true)
              → Less g w e h u (6 + (length d.path + size g w e false v r)) ⊎ IsAncestor k w m
          moved (inl p) (inl q) = inl (record {
            way = out p o (into true q (record {
              vertex = gok.head_below m x l.0;
              path = xs;
              end = d.end;
              leads = l.1;
              inside = d.inside;
            }) r);
            less = omega (arith, long);
          })
          moved (inl p) (inr q) = three g w e gok v m x b l.0 q
          moved (inr p) q = three g w e gok u m x a l.0 p

          pick : (c : Bool) → k.arrow m x ≡ c → Less g w e h u (6 + (length d.path + size g w e false v r)) ⊎ IsAncestor k w m
          pick true f = same (descent m x l.0 f xs d.end l.1) f
          pick false f =
              let f' = turned m x l.0 f in
              moved (meets u m x ka f' (λ s. two g w e gok u m a (rw (sym s) at l.0)) (λ p q. two g w e gok m x l.0 q))
              (meets v m x kb f' (λ s. two g w e gok v m b (rw (sym s) at l.0)) (λ p q. two g w e gok m x l.0 q))

  -- u and v apart, and m is a collider between them in k: it is one in g
  collided : (u m v : ℕ) → Apart g w e u v → k.arrow u m ≡ true → k.arrow v m ≡ true → (g.arrow u m ≡ true) × (g.arrow v m ≡ true)
  collided u m v p a b = kg.collides u v m p.differ a b (sym (gk.edge u v p.differ) ∙ p.free)

  -- the triple behind a step u -> m
  look_out : (h : Bool) (u m : ℕ) (a : g.arrow u m ≡ true) (o : w u ≡ false) (y : Way g w e true m) → Less g w e h u (3 + size g w e true m y)
      ⊎ Ready (k.arrow u m) true m y
  look_out h u m a o (stop p q) = inr tt
  look_out h u m a o (out {v = v} b q r) = go (forward g w e gok h u m v a o b r)
    where
      go : Less g w e h u (6 + size g w e true v r) ⊎ Apart g w e u v → Less g w e h u (3 + (3 + size g w e true v r))
          ⊎ (k.arrow u m ≡ true → k.arrow v m ≡ true → ⊥)
      go (inl l) = inl (record { way = l.way; less = omega (arith, l.less) })
      go (inr p) = inr (λ x y. two g w e gok m v b (collided u m v p x y).1)
  look_out h u m a o (into true {v = v} b d r) = go (collider g w e gok h u m v a o b d r)
    where
      next : Less g w e h u (6 + (length d.path + size g w e false v r)) ⊎ IsAncestor k w m → (k.arrow u m ≡ true) × (k.arrow v m ≡ true)
          → Less g w e h u (3 + (3 + (length d.path + size g w e false v r))) ⊎ ((k.arrow u m ≡ true) × (k.arrow v m ≡ true) × IsAncestor k w m)
      next (inl l) c = inl (record { way = l.way; less = omega (arith, l.less) })
      next (inr i) c = inr (c.0, c.1, i)

      go : Less g w e h u (6 + (length d.path + size g w e false v r)) ⊎ Apart g w e u v
          → Less g w e h u (3 + (3 + (length d.path + size g w e false v r))) ⊎ ((k.arrow u m ≡ true) × (k.arrow v m ≡ true) × IsAncestor k w m)
      go (inl l) = inl (record { way = l.way; less = omega (arith, l.less) })
      go (inr p) = let c = gk.collides u v m p.differ a b p.free in next (settled h u m v a o b d r c.0 c.1) c

  -- the triple behind a step u <- m
  look_into : (h : Bool) (u m : ℕ) (a : g.arrow m u ≡ true) (c : Met g w h u) (y : Way g w e false m) → (h ≡ true → k.arrow m u ≡ true)
      → Less g w e h u (3 + (cost g w e h u c + size g w e false m y)) ⊎ Ready (k.arrow u m) false m y
  look_into h u m a c (stop p q) kept = inr tt
  look_into h u m a c (into false {v = v} b q r) kept = go (backward g w e gok h u m v a c b r)
    where
      go : Less g w e h u (6 + (cost g w e h u c + size g w e false v r)) ⊎ Apart g w e u v
          → Less g w e h u (3 + (cost g w e h u c + (3 + (0 + size g w e false v r)))) ⊎ (k.arrow u m ≡ true → k.arrow v m ≡ true → ⊥)
      go (inl l) = inl (record { way = l.way; less = omega (arith, l.less) })
      go (inr p) = inr (λ x y. two g w e gok m u a (collided u m v p x y).0)
  look_into h u m a c (out {v = v} b q r) kept = go (fork g w e gok h u m v a c b r)
    where
      ahead : (x : ℕ) (b' : g.arrow x v ≡ true) (d : IsAncestor g w v) (r' : Way g w e false x) → r ≡ into true b' d r'
          → Less g w e false m (6 + (length d.path + size g w e false x r')) ⊎ Apart g w e m x
          → Less g w e h u (3 + (cost g w e h u c + (3 + size g w e true v r))) ⊎ (k.arrow u m ≡ true → k.arrow v m ≡ true → ⊥)
      ahead x b' d r' s (inl l) =
          let long : size g w e true v r ≡ 3 + (length d.path + size g w e false x r') = ap (size g w e true v) s in
          inl (record { way = into h a c l.way; less = omega (arith, l.less, long) })
      ahead x b' d r' s (inr p) = inr (λ f f'. two k w e kok m v (gk.collides m x v p.differ b b' p.free).0 f')

      go : Forked g w e gok h u v (6 + (cost g w e h u c + size g w e true v r)) r → Less g w e h u (3 + (cost g w e h u c + (3 + size g w e true v r)))
          ⊎ (k.arrow u m ≡ true → k.arrow v m ≡ true → ⊥)
      go (shorter l) = inl (record { way = l.way; less = omega (arith, l.less) })
      go (apart p) = inr (λ x y. two g w e gok m u a (collided u m v p x y).0)
      go (before t) = inr (λ f f'. two k w e kok u m f (kept t))
      go (after {x = x} b' d r' s) = ahead x b' d r' s (collider g w e gok false m v x b q b' d r')

  -- the step that k makes of a step
  placed_out : (hk : Bool) (u m : ℕ) → (hk ≡ true → k.arrow m u ≡ true → ⊥) → w u ≡ false → g.arrow u m ≡ true → Way k w e (k.arrow u m) m → Way k w e hk u
  placed_out hk u m kept o a z = go (k.arrow u m) refl z
    where
      met : (hk : Bool) → (hk ≡ true → k.arrow m u ≡ true → ⊥) → k.arrow m u ≡ true → Met k w hk u
      met true kept f = absurd (kept refl f)
      met false kept f = o

      go : (c : Bool) → k.arrow u m ≡ c → Way k w e c m → Way k w e hk u
      go true f z = out f o z
      go false f z = let f' = turned u m a f in into hk f' (met hk kept f') z

  placed_into : (hk : Bool) (u m : ℕ) → (hk ≡ true → k.arrow m u ≡ true → ⊥) → w u ≡ false → g.arrow m u ≡ true → Way k w e (k.arrow u m) m → Way k w e hk u
  placed_into hk u m kept o a z = go (k.arrow u m) refl z
    where
      met : (hk : Bool) → (hk ≡ true → k.arrow m u ≡ true → ⊥) → k.arrow m u ≡ true → Met k w hk u
      met true kept f = absurd (kept refl f)
      met false kept f = o

      other : k.arrow u m ≡ false → (b : Bool) → k.arrow m u ≡ b → k.arrow m u ≡ true
      other f true h = h
      other f false h = clash (k.arrow u m) (turned m u a h) f

      go : (c : Bool) → k.arrow u m ≡ c → Way k w e c m → Way k w e hk u
      go true f z = out f o z
      go false f z = let f' = other f (k.arrow m u) refl in into hk f' (met hk kept f') z

  placed_turn : (hk : Bool) (u m : ℕ) → hk ≡ true → k.arrow m u ≡ true → IsAncestor k w u → Way k w e (k.arrow u m) m → Way k w e hk u
  placed_turn false u m t f i z = absurd (grind (arith, t))
  placed_turn true u m t f i z = go (k.arrow u m) refl z
    where
      go : (c : Bool) → k.arrow u m ≡ c → Way k w e c m → Way k w e true u
      go true f' z = two k w e kok u m f' f
      go false f' z = into true f i z

  pub scan : (hk h : Bool) (u : ℕ) (x : Way g w e h u) → Ready hk h u x → Less g w e h u (size g w e h u x) ⊎ Way k w e hk u
  scan hk h u (stop p o) t = inr (stop p o)
  scan hk h u (out {v = m} a o y) t = go (look_out h u m a o y) (scan (k.arrow u m) true m y)
    where
      next : Less g w e true m (size g w e true m y) ⊎ Way k w e (k.arrow u m) m → Less g w e h u (3 + size g w e true m y) ⊎ Way k w e hk u
      next (inl l) = inl (record { way = out a o l.way; less = omega (arith, l.less) })
      next (inr z) = inr (placed_out hk u m t o a z)

      go : Less g w e h u (3 + size g w e true m y) ⊎ Ready (k.arrow u m) true m y
          → (Ready (k.arrow u m) true m y → Less g w e true m (size g w e true m y) ⊎ Way k w e (k.arrow u m) m)
          → Less g w e h u (3 + size g w e true m y) ⊎ Way k w e hk u
      go (inl l) deeper = inl l
      go (inr s) deeper = next (deeper s)
  scan hk _ u (into true {v = m} a c y) t = go (look_into true u m a c y (λ s. t.1)) (scan (k.arrow u m) false m y)
    where
      next : Less g w e false m (size g w e false m y) ⊎ Way k w e (k.arrow u m) m → Less g w e true u (3 + (length c.path + size g w e false m y))
          ⊎ Way k w e hk u
      next (inl l) = inl (record { way = into true a c l.way; less = omega (arith, l.less) })
      next (inr z) = inr (placed_turn hk u m t.0 t.1 t.2 z)

      go : Less g w e true u (3 + (length c.path + size g w e false m y)) ⊎ Ready (k.arrow u m) false m y
          → (Ready (k.arrow u m) false m y → Less g w e false m (size g w e false m y) ⊎ Way k w e (k.arrow u m) m)
          → Less g w e true u (3 + (length c.path + size g w e false m y)) ⊎ Way k w e hk u
      go (inl l) deeper = inl l
      go (inr s) deeper = next (deeper s)
  scan hk _ u (into false {v = m} a c y) t = go (look_into false u m a c y (λ s. absurd (grind (arith, s)))) (scan (k.arrow u m) false m y)
    where
      next : Less g w e false m (size g w e false m y) ⊎ Way k w e (k.arrow u m) m → Less g w e false u (3 + (0 + size g w e false m y)) ⊎ Way k w e hk u
      next (inl l) = inl (record { way = into false a c l.way; less = omega (arith, l.less) })
      next (inr z) = inr (placed_into hk u m t c a z)

      go : Less g w e false u (3 + (0 + size g w e false m y)) ⊎ Ready (k.arrow u m) false m y
          → (Ready (k.arrow u m) false m y → Less g w e false m (size g w e false m y) ⊎ Way k w e (k.arrow u m) m)
          → Less g w e false u (3 + (0 + size g w e false m y)) ⊎ Way k w e hk u
      go (inl l) deeper = inl l
      go (inr s) deeper = next (deeper s)

  at_start : (u : ℕ) (x : Way g w e false u) → Ready false false u x
  at_start u (stop p o) = tt
  at_start u (out a o r) = λ t. absurd (grind (arith, t))
  at_start u (into false a c r) = λ t. absurd (grind (arith, t))

  carried_within : (n : ℕ) (u : ℕ) (x : Way g w e false u) → size g w e false u x < n → Way k w e false u
  carried_within zero u x lt = absurd (omega arith)
  carried_within (suc n) u x lt = go (scan false false u x (at_start u x)) (carried_within n u)
    where
      go : Less g w e false u (size g w e false u x) ⊎ Way k w e false u → ((y : Way g w e false u) → size g w e false u y < n → Way k w e false u)
          → Way k w e false u
      go (inl l) deeper = deeper l.way (omega (arith, l.less))
      go (inr z) deeper = z

  pub carried : (u : ℕ) → Way g w e false u → Way k w e false u
  carried u x = carried_within (suc (size g w e false u x)) u x (omega arith)
