-- The vertices on proper causal paths, by directed paths that don't come back to x.
use Rattle.std.proofs.Common.{ℕ, ◌≡◌, ◌<◌, Bool, true, false, not, refl, sym, ◌&&◌, inl, inr, List, [], ◌∷◌, ◌++◌, IsTrue, subst}
use Rattle.std.proofs.lemmas.Bool.{and_parts, and_from, not-true, not_from_false}
use Rattle.mixed_graph.specs.Vocabulary.{MixedGraph, IsMixedGraph, IsDirectedPath, IsAncestor, IsDescendant, Within}
use Rattle.mixed_graph.proofs.Paths.{end_below}
use Rattle.m_separation.specs.declared.marks.Mark.TheVariants.{Out}
use Rattle.m_separation.specs.Vocabulary.{Step, IsJoined, IsWalk, last, Avoids, IsPath}
use Rattle.do_rules.specs.Vocabulary.{cut_into}
use Rattle.adjustment.specs.Proper.{AreOutside, IsCausal, IsOn, IsProperPath, IsBetween}

-- the walk forwards along a directed path
abbrev pub forwards : List ℕ → List Step
forwards [] = []
forwards (x ∷ xs) = record { mark = Out; to = x } ∷ forwards xs

pub last-forwards : (g : MixedGraph) (v : ℕ) (xs : List ℕ) (t : ℕ) → IsDirectedPath g v xs t → last v (forwards xs) ≡ t
last-forwards g v [] t p = p
last-forwards g v (x ∷ xs) t p = last-forwards g x xs t p.1

walk_forwards : (g : MixedGraph) (v : ℕ) (xs : List ℕ) (t : ℕ) → IsDirectedPath g v xs t → IsWalk g v (forwards xs)
walk_forwards g v [] t p = tt
walk_forwards g v (x ∷ xs) t p = (p.0, walk_forwards g x xs t p.1)

pub causal_forwards : (xs : List ℕ) → IsCausal (forwards xs)
causal_forwards [] = tt
causal_forwards (x ∷ xs) = (refl, causal_forwards xs)

pub path_joined : (g : MixedGraph) (u : ℕ) (xs : List ℕ) (v : ℕ) (ys : List ℕ) (w : ℕ) → IsDirectedPath g u xs v → IsDirectedPath g v ys w
    → IsDirectedPath g u (xs ++ ys) w
path_joined g u [] v ys w p q = rw p q
path_joined g u (x ∷ xs) v ys w p q = (p.0, path_joined g x xs v ys w p.1 q)

on_forwards : (g : MixedGraph) (u : ℕ) (xs : List ℕ) (v : ℕ) (ys : List ℕ) → IsDirectedPath g u xs v → IsOn v u (forwards (xs ++ ys))
on_forwards g u [] v [] p = sym p
on_forwards g u [] v (y ∷ ys) p = inl (sym p)
on_forwards g u (x ∷ xs) v ys p = inr (on_forwards g x xs v ys p.1)

module _ (g : MixedGraph) (is_graph : IsMixedGraph g) where
  -- no vertex of a directed path from x on is v, where v leads to x
  avoids_forwards : (v x : ℕ) (back : List ℕ) (y : ℕ) (xs : List ℕ) (t : ℕ) → IsDirectedPath g v (y ∷ back) x → IsDirectedPath g x xs t → Avoids v (forwards xs)
  avoids_forwards v x back y [] t p q = tt
  avoids_forwards v x back y (z ∷ zs) t p q =
      let l : IsDirectedPath g v (y ∷ (back ++ (z ∷ []))) z = path_joined g v (y ∷ back) x (z ∷ []) z p (q.0, refl) in (
        (λ e. is_graph.acyclic v y (back ++ (z ∷ [])) (subst (λ w. IsDirectedPath g v (y ∷ (back ++ (z ∷ []))) w) e l)),
        avoids_forwards v z (back ++ (z ∷ [])) y zs t l q.1,
      )

  path_forwards : (v : ℕ) (xs : List ℕ) (t : ℕ) → IsDirectedPath g v xs t → IsPath v (forwards xs)
  path_forwards v [] t p = tt
  path_forwards v (x ∷ xs) t p =
      (((λ e. is_graph.acyclic v x [] (p.0, e)), avoids_forwards v x [] x xs t (p.0, refl) p.1), path_forwards x xs t p.1)

  module _ (X Y : ℕ → Bool) where
    path_into_more : (v : ℕ) (xs : List ℕ) (t : ℕ) → IsDirectedPath (cut_into g X) v xs t → IsDirectedPath g v xs t
    path_into_more v [] t p = p
    path_into_more v (y ∷ ys) t p = ((and_parts (g.arrow v y) (not (X y)) p.0).0, path_into_more y ys t p.1)

    outside_forwards : (v : ℕ) (xs : List ℕ) (t : ℕ) → IsDirectedPath (cut_into g X) v xs t → AreOutside X (forwards xs)
    outside_forwards v [] t p = tt
    outside_forwards v (y ∷ ys) t p = (not-true (X y) (and_parts (g.arrow v y) (not (X y)) p.0).1, outside_forwards y ys t p.1)

    pub proper_forwards : (v : ℕ) (xs : List ℕ) (t : ℕ) → X v ≡ true → Y t ≡ true → IsDirectedPath (cut_into g X) v xs t → IsProperPath g X Y v (forwards xs)
    proper_forwards v xs t x y p = let q = path_into_more v xs t p in
        record {
          begins = x;
          ends = rw (last-forwards g v xs t q) y;
          walk = walk_forwards g v xs t q;
          path = path_forwards v xs t q;
          outside = outside_forwards v xs t p;
        }

    pub between_from : (v : ℕ) → X v ≡ false → IsDescendant (cut_into g X) X v → IsAncestor (cut_into g X) Y v → IsBetween g X Y v
    between_from v o b a = record {
      first = b.start;
      steps = forwards (b.path ++ a.path);
      proper = proper_forwards b.start (b.path ++ a.path) a.end b.inside a.inside (path_joined (cut_into g X) b.start b.path v a.path a.end b.leads a.leads);
      causal = causal_forwards (b.path ++ a.path);
      on = on_forwards (cut_into g X) b.start b.path v a.path b.leads;
      outside = o;
    }

    arrow_into : (v : ℕ) (s : Step) → s.mark ≡ Out → IsJoined g v s.mark s.to → X s.to ≡ false → (g.arrow v s.to && not (X s.to)) ≡ true
    arrow_into v s e j o = and_from (g.arrow v s.to) (not (X s.to)) (subst (λ m. IsJoined g v m s.to) e j) (not_from_false (X s.to) o)

    -- the parts of a causal walk before and after a vertex
    all_forwards : (v : ℕ) (r : List Step) → IsWalk g v r → IsCausal r → AreOutside X r → (xs : List ℕ) × IsDirectedPath (cut_into g X) v xs (last v r)
    all_forwards v [] w c o = ([], refl)
    all_forwards v (s ∷ r) w c o = let k = all_forwards s.to r w.1 c.1 o.1 in (s.to ∷ k.0, (arrow_into v s c.0 w.0 o.0, k.1))

    before : (u v : ℕ) (r : List Step) → IsWalk g v r → IsCausal r → AreOutside X r → IsOn u v r → (xs : List ℕ) × IsDirectedPath (cut_into g X) v xs u
    before u v [] w c o i = ([], sym i)
    before u v (s ∷ r) w c o (inl e) = ([], sym e)
    before u v (s ∷ r) w c o (inr i) = let k = before u s.to r w.1 c.1 o.1 i in (s.to ∷ k.0, (arrow_into v s c.0 w.0 o.0, k.1))

    after : (u v : ℕ) (r : List Step) → IsWalk g v r → IsCausal r → AreOutside X r → IsOn u v r → (xs : List ℕ) × IsDirectedPath (cut_into g X) u xs (last v r)
    after u v [] w c o i = ([], i)
    after u v (s ∷ r) w c o (inl e) = rw e (all_forwards v (s ∷ r) w c o)
    after u v (s ∷ r) w c o (inr i) = after u s.to r w.1 c.1 o.1 i

    head_below : (u v : ℕ) → IsTrue (g.arrow u v && not (X v)) → v < g.vertices
    head_below u v a = is_graph.head_below u v (and_parts (g.arrow u v) (not (X v)) a).0

    module _ (within : Within g.vertices X) where
      -- a vertex on a proper causal path descends from x without the arrows into x too
      pub below_from : (v : ℕ) → IsBetween g X Y v → IsDescendant (cut_into g X) X v
      below_from v b = let k = before v b.first b.steps b.proper.walk b.causal b.proper.outside b.on in
          record {
            vertex = end_below (cut_into g X) head_below b.first k.0 v (within b.first b.proper.begins) k.1;
            path = k.0;
            start = b.first;
            leads = k.1;
            inside = b.proper.begins;
          }

      pub above_from : (v : ℕ) → IsBetween g X Y v → IsAncestor (cut_into g X) Y v
      above_from v b = let k = after v b.first b.steps b.proper.walk b.causal b.proper.outside b.on in
          record { vertex = (below_from v b).vertex; path = k.0; end = last b.first b.steps; leads = k.1; inside = b.proper.ends }

    -- an arrow from x to a vertex that leads to y outside x is the first of a proper causal path
    pub between_first : (u v : ℕ) → X u ≡ true → g.arrow u v ≡ true → X v ≡ false → IsAncestor (cut_into g X) Y v → IsBetween g X Y v
    between_first u v x a o i =
        between_from v o
        (record { vertex = i.vertex; path = v ∷ []; start = u; leads = (and_from (g.arrow u v) (not (X v)) a (not_from_false (X v) o), refl); inside = x }) i
