-- The kept vertices, from the choices of children.
use Rattle.std.proofs.Common.{ℕ, ◌≡◌, ◌<◌, ◌≤◌, Bool, true, false, cond, not, ◌&&◌, nat_lt, refl, sym, ap, ◌∙◌, ◌⊎◌, inl, inr, List, [], ◌∷◌}
use Rattle.std.proofs.Common.{slice_index, IsTrue, arith}
use Rattle.std.proofs.lemmas.Bool.{and_parts}
use Rattle.mixed_graph.specs.Vocabulary.{has, MixedGraph, IsMixedGraph, IsDirectedPath, IsAncestor, induced}
use Rattle.hedge.specs.Vocabulary.{IsSetOf, Leads, IsChoiceOf, Reaches, outside}
use Rattle.counter_models.specs.Kept.{free, CarriesTo, IsCarrier, AreCarriers, IsChosenFrom}
use Rattle.counter_models.specs.Kept.IsCarrier.{root, next}
use Rattle.counter_models.specs.Kept.IsChosenFrom.{at, by}

below : (p q : ℕ) → p < q → nat_lt p q ≡ true
below p q lt = grind (arith, lt)

-- the nearest child is one
pub same_child : (g : MixedGraph) (x y v c d : ℕ) → CarriesTo g x y v c → CarriesTo g x y v d → c ≡ d
same_child g x y v c d p q = go (p.nearest d q.arrows q.arrow q.distance) (q.nearest c p.arrows p.arrow p.distance)
  where
    go : (p.arrows < q.arrows) ⊎ ((p.arrows ≡ q.arrows) × (c ≤ d)) → (q.arrows < p.arrows) ⊎ ((q.arrows ≡ p.arrows) × (d ≤ c)) → c ≡ d
    go (inl a) (inl b) = absurd (omega arith)
    go (inl a) (inr b) = absurd (omega (arith, b.0))
    go (inr a) (inl b) = absurd (omega (arith, a.0))
    go (inr a) (inr b) = omega (arith, a.1, b.1)

-- ---- what is kept, whatever the choices
module _ (g : MixedGraph) (graph : IsMixedGraph g) (small : g.vertices ≤ 64) (x y roots : ℕ) (reach : (v : ℕ) → IsTrue (has roots v) → Reaches g x y v) where
  -- an arrow of the graph outside x
  free_arrow : (u v : ℕ) → IsTrue (g.arrow u v) → IsTrue (not (has x u) && not (has x v)) → IsTrue (g.arrow u v && (free g x u && free g x v))
  free_arrow u v a o = both (g.arrow u v) (nat_lt u g.vertices) (nat_lt v g.vertices) (not (has x u)) (not (has x v)) a
      (below u g.vertices (graph.tail_below u v a)) (below v g.vertices (graph.head_below u v a)) o
    where
      both : (a p q s t : Bool) → a ≡ true → p ≡ true → q ≡ true → (s && t) ≡ true → (a && ((p && s) && (q && t))) ≡ true
      both a p q s t e f h o = rw (e, f, h) o

  free_path : (v : ℕ) (path : List ℕ) (end : ℕ) → IsDirectedPath (induced g (outside x)) v path end → IsDirectedPath (induced g (free g x)) v path end
  free_path v [] end e = e
  free_path v (w ∷ path) end p = let a = and_parts (g.arrow v w) (not (has x v) && not (has x w)) p.0 in (free_arrow v w a.0 a.1, free_path w path end p.1)

  pub reaches : (v : ℕ) → IsCarrier g x y roots v → IsAncestor (induced g (free g x)) (has y) v
  reaches v (root i) = let r = reach v i in record {
    vertex = r.vertex;
    path = r.path;
    end = r.end;
    leads = free_path v r.path r.end r.leads;
    inside = r.inside;
  }
  reaches v (next {u} k o c) = record {
    vertex = graph.head_below u v (and_parts (g.arrow u v) (free g x u && free g x v) c.arrow).0;
    path = c.distance.path;
    end = c.distance.end;
    leads = c.distance.leads;
    inside = c.distance.inside;
  }

  -- a kept vertex outside y leads to y
  pub leading : (v : ℕ) → IsCarrier g x y roots v → has y v ≡ false → Leads g (free g x) (has y) v
  leading v k o = record { member = go (reaches v k).path (reaches v k).leads; outside = o; reaches = reaches v k }
    where
      go : (path : List ℕ) → IsDirectedPath (induced g (free g x)) v path (reaches v k).end → IsTrue (free g x v)
      go [] e = absurd (let i = (reaches v k).inside in let s : has y v ≡ true = ap (has y) e ∙ i in grind (arith, s, o))
      go (w ∷ path) p = (and_parts (free g x v) (free g x w) (and_parts (g.arrow v w) (free g x v && free g x w) p.0).1).0

  pub kept_low : (v : ℕ) → IsCarrier g x y roots v → v < 64
  kept_low v k = let r = (reaches v k).vertex in omega arith

-- ---- the choices that code made
module _ (g : MixedGraph) (graph : IsMixedGraph g) (small : g.vertices ≤ 64) (x y roots : ℕ) (reach : (v : ℕ) → IsTrue (has roots v) → Reaches g x y v)
    (choice : List ℕ) (chooses : (v : ℕ) → v < 64 → IsChoiceOf g (free g x) (has y) v (slice_index choice v))
    (kept : ℕ) (kept_is : IsSetOf kept (IsChosenFrom choice roots))
    (carry : List ℕ) (carry_is : (v : ℕ) → v < 64 → slice_index carry v ≡ cond (has kept v) (slice_index choice v) 64) where
  low : (v : ℕ) → IsCarrier g x y roots v → v < 64
  low = kept_low g graph small x y roots reach

  chosen_carries : (v : ℕ) → v < 64 → IsCarrier g x y roots v → has y v ≡ false → CarriesTo g x y v (slice_index choice v)
  chosen_carries v lt k o = go (chooses v lt)
    where
      go : IsChoiceOf g (free g x) (has y) v (slice_index choice v) → CarriesTo g x y v (slice_index choice v)
      go (inl c) = c.1
      go (inr c) = absurd (c.0 (leading g graph small x y roots reach v k o))

  none_at_y : (v : ℕ) → v < 64 → has y v ≡ true → slice_index choice v ≡ 64
  none_at_y v lt i = go (chooses v lt)
    where
      go : IsChoiceOf g (free g x) (has y) v (slice_index choice v) → slice_index choice v ≡ 64
      go (inl c) = absurd (let o = c.0.outside in grind (arith, i, o))
      go (inr c) = c.1

  sound : (v : ℕ) → IsChosenFrom choice roots v → IsCarrier g x y roots v
  sound v (at i) = root i
  sound v (by {u} r e lt) = go (has y u) refl (sound u r)
    where
      go : (b : Bool) → has y u ≡ b → IsCarrier g x y roots u → IsCarrier g x y roots v
      go true i k = absurd (let z = none_at_y u (low u k) i in omega (arith, z, e, lt))
      go false o k = next k o (rw (sym e) (chosen_carries u (low u k) k o))

  complete : (v : ℕ) → IsCarrier g x y roots v → IsChosenFrom choice roots v
  complete v (root i) = at i
  complete v (next {u} k o c) = by (complete u k) (same_child g x y u (slice_index choice u) v (chosen_carries u (low u k) k o) c) (low v (next k o c))

  pub are_kept : AreCarriers g x y roots kept carry
  are_kept = record {
    sound = λ v i. sound v (kept_is.sound v i);
    complete = λ v k. kept_is.complete v (complete v k);
    carries = λ v i o. let k = sound v (kept_is.sound v i) in rw (carry_is v (low v k) ∙ ap (λ b. cond b (slice_index choice v) 64) i)
        (chosen_carries v (low v k) k o);
    others = λ v lt h. go v lt h;
  }
    where
      go : (v : ℕ) → v < 64 → (has kept v ≡ false) ⊎ IsTrue (has y v) → slice_index carry v ≡ 64
      go v lt (inl o) = carry_is v lt ∙ ap (λ b. cond b (slice_index choice v) 64) o
      go v lt (inr i) = carry_is v lt ∙ at_y (has kept v)
        where
          at_y : (b : Bool) → cond b (slice_index choice v) 64 ≡ 64
          at_y true = none_at_y v lt i
          at_y false = refl
