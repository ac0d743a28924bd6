-- What separates inside the ancestors is a separator of an undirected graph.
use Rattle.std.proofs.Common.{ℕ, ◌≡◌, Bool, true, false, refl, ◌||◌, ◌&&◌, ◌⊎◌, inl, inr, List, [], ◌∷◌, arith, ◌↔◌, IsTrue}
use Rattle.mixed_graph.specs.Vocabulary.{MixedGraph, IsMixedGraph, IsDirectedPath, IsAncestor, Within}
use Rattle.m_separation.specs.declared.marks.Mark.{Mark}
use Rattle.m_separation.specs.declared.marks.Mark.TheVariants.{Out, Into, Both}
use Rattle.m_separation.specs.Vocabulary.{Step, IsJoined, IsWalk, last, heads_first, heads_second, IsPassed, ArePassedFrom, IsSeparated}
use Rattle.m_separation.proofs.Going.{passed_from_start, passed_inside}
use Rattle.finite_models.proofs.Bools.{and_first, and_second, not_both, either}
use Rattle.std.proofs.lemmas.Bool.{and_from, false_from_ne_true, or_left, or_right}
use Rattle.do_rules.proofs.Reach.{Linked, here, by_child, by_parent, reach}
use Rattle.do_rules.proofs.Reach as linked
use Rattle.minimal_sets.specs.Separators.{Reached, start, step, IsSeparator, IsPart}
use Rattle.minimal_sets.specs.Moral.{Heads, by_arrow, by_both, on, Meets, heads, parent, beyond, IsNear}
use Rattle.minimal_sets.proofs.SeparatorLaws.{outside, apart}

module _ (g : MixedGraph) (is_graph : IsMixedGraph g) (X Y : ℕ → Bool) (xl : Within g.vertices X) (yl : Within g.vertices Y) (A : ℕ → Bool)
    (above : (v : ℕ) → IsTrue (A v) ↔ IsAncestor g (λ v. X v || Y v) v) (near : ℕ → ℕ → Bool) (is_near : IsNear g A near) where
  in_x : (v : ℕ) → X v ≡ true → A v ≡ true
  in_x v e = (above v).1 (record { vertex = xl v e; path = []; end = v; leads = refl; inside = or_left (X v) (Y v) e })

  in_y : (v : ℕ) → Y v ≡ true → A v ≡ true
  in_y v e = (above v).1 (record { vertex = yl v e; path = []; end = v; leads = refl; inside = or_right (X v) (Y v) e })

  in_parent : (u v : ℕ) → g.arrow u v ≡ true → A v ≡ true → A u ≡ true
  in_parent u v a e = let i = (above v).0 e in (above u).1 (record {
    vertex = is_graph.tail_below u v a;
    path = v ∷ i.path;
    end = i.end;
    leads = (a, i.leads);
    inside = i.inside;
  })

  in_path : (v : ℕ) (xs : List ℕ) (t : ℕ) → IsDirectedPath g v xs t → A t ≡ true → A v ≡ true
  in_path v [] t p e = rw p e
  in_path v (x ∷ xs) t p e = in_parent v x p.0 (in_path x xs t p.1 e)

  -- ---- the undirected graph is symmetric
  a_head : (u v : ℕ) → Heads g A u v → A v ≡ true
  a_head u v (by_arrow a e) = e
  a_head u v (by_both a e) = e
  a_head u v (on h a e) = e

  -- a walk of bidirected edges, read backwards
  heads_back : (u v w : ℕ) → A u ≡ true → Heads g A u v → Heads g A w v → (Heads g A w u) ⊎ ((c : ℕ) × Heads g A w c × (g.arrow u c ≡ true))
  heads_back u v w au (by_arrow a e) k = inr (v, k, a)
  heads_back u v w au (by_both b e) k = inl (on k (is_graph.symmetric u v b) au)
  heads_back u v w au (on {v = c} h b e) k = heads_back u c w au h (on k (is_graph.symmetric c v b) (a_head u c h))

  turn_heads : (u v : ℕ) → A u ≡ true → Heads g A u v → Meets g A v u
  turn_heads u v au (by_arrow a e) = parent e au a
  turn_heads u v au (by_both b e) = heads e (by_both (is_graph.symmetric u v b) au)
  turn_heads u v au (on {v = c} h b e) = elim (heads_back u c v au h (by_both (is_graph.symmetric c v b) (a_head u c h))) [
    | inl k ↦ heads e k
    | inr k ↦ beyond e au k.1 k.2
  ]

  turn_meets : (u v : ℕ) → Meets g A u v → Meets g A v u
  turn_meets u v (heads au h) = turn_heads u v au h
  turn_meets u v (parent au av a) = heads av (by_arrow a au)
  turn_meets u v (beyond {c = c} au av h a) = elim (heads_back u c v au h (by_arrow a (a_head u c h))) [
    | inl k ↦ heads av k
    | inr k ↦ beyond av au k.1 k.2
  ]

  pub turn : (u v : ℕ) → near u v ≡ true → near v u ≡ true
  turn u v e = is_near.complete v u (turn_meets u v (is_near.sound u v e))

  module _ (Z : ℕ → Bool) where
    -- ---- an open walk stays inside A
    module _ (z_in : IsPart Z A) where
      pub in_walk : (h : Bool) (v : ℕ) (r : List Step) → IsWalk g v r → ArePassedFrom g Z h v r → Y (last v r) ≡ true → (h ≡ false → A v ≡ true) → A v ≡ true
      in_walk false v r w p y t = t refl
      in_walk true v [] w p y t = in_y v y
      in_walk true v (s ∷ r) w p y t = go s.mark w.0 p.0 p.1 (λ q. in_walk true s.to r w.1 q y (λ e. absurd (grind (arith, e))))
        where
          go : (m : Mark) → IsJoined g v m s.to → IsPassed g Z v true (heads_first m) → ArePassedFrom g Z (heads_second m) s.to r
              → (ArePassedFrom g Z true s.to r → A s.to ≡ true) → A v ≡ true
          go Out j q k ih = in_parent v s.to j (ih k)
          go Into j i k ih = in_path v i.path i.end i.leads (z_in i.end i.inside)
          go Both j i k ih = in_path v i.path i.end i.leads (z_in i.end i.inside)

      in_next : (v : ℕ) (m : Mark) (w : ℕ) → IsJoined g v m w → A v ≡ true → heads_second m ≡ false → A w ≡ true
      in_next v Out w j e o = absurd (grind (arith, o))
      in_next v Into w j e o = in_parent w v j e
      in_next v Both w j e o = absurd (grind (arith, o))

      -- ---- a separator of the undirected graph separates in the mixed one
      -- where a walk from x has come: to v itself, or to v with an arrowhead from a vertex that is reached
      abbrev State : Bool → ℕ → Type 0
      State false v = Reached near X Z v
      State true v = (u : ℕ) × Reached near X Z u × (A u ≡ true) × Heads g A u v

      tail_outside : (v : ℕ) (r : List Step) → ArePassedFrom g Z false v r → Z (last v r) ≡ false → Z v ≡ false
      tail_outside v [] p o = o
      tail_outside v (s ∷ r) p o = p.0

      follow : (h : Bool) (v : ℕ) (r : List Step) → IsWalk g v r → ArePassedFrom g Z h v r → Y (last v r) ≡ true → Z (last v r) ≡ false → A v ≡ true
          → State h v → Reached near X Z (last v r)
      follow false v [] w p y o a s = s
      follow true v [] w p y o a s = step s.1 (is_near.complete s.0 v (heads s.2 s.3)) o
      follow false v (t ∷ r) w p y o a s =
          let a' : A t.to ≡ true = in_walk (heads_second t.mark) t.to r w.1 p.1 y (in_next v t.mark t.to w.0 a) in
          follow (heads_second t.mark) t.to r w.1 p.1 y o a' (next t.mark w.0 p.1 a')
        where
          next : (m : Mark) → IsJoined g v m t.to → ArePassedFrom g Z (heads_second m) t.to r → A t.to ≡ true → State (heads_second m) t.to
          next Out j q a' = (v, s, a, by_arrow j a')
          next Into j q a' = step s (is_near.complete v t.to (parent a a' j)) (tail_outside t.to r q o)
          next Both j q a' = (v, s, a, by_both j a')
      follow true v (t ∷ r) w p y o a s =
          let a' : A t.to ≡ true = in_walk (heads_second t.mark) t.to r w.1 p.1 y (in_next v t.mark t.to w.0 a) in
          follow (heads_second t.mark) t.to r w.1 p.1 y o a' (next t.mark w.0 p.0 p.1 a')
        where
          next : (m : Mark) → IsJoined g v m t.to → IsPassed g Z v true (heads_first m) → ArePassedFrom g Z (heads_second m) t.to r → A t.to ≡ true
              → State (heads_second m) t.to
          next Out j i q a' = (v, step s.1 (is_near.complete s.0 v (heads s.2 s.3)) i, a, by_arrow j a')
          next Into j i q a' = step s.1 (is_near.complete s.0 t.to (beyond s.2 a' s.3 j)) (tail_outside t.to r q o)
          next Both j i q a' = (s.0, s.1, s.2, on s.3 j a')

      pub separated_by_separator : IsSeparator near X Y Z → IsSeparated g X Y Z
      separated_by_separator c v r k = c (last v r) k.ends
          (follow false v r k.walk (passed_from_start g Z v r k.first_outside k.passed) k.ends k.last_outside (in_x v k.begins)
          (start k.begins k.first_outside))

    -- ---- what separates in the mixed graph is a separator of the undirected one
    module _ (x_out : (v : ℕ) → X v ≡ true → Z v ≡ false) (y_out : (v : ℕ) → Y v ≡ true → Z v ≡ false) where
      linked_head : (u v : ℕ) → Linked g A Z Y u → Z u ≡ false → Heads g A u v → Linked g A Z Y v
      linked_head u v l o (by_arrow a e) = linked.by_parent e a o l
      linked_head u v l o (by_both b e) = linked.by_both e (is_graph.symmetric u v b) l
      linked_head u v l o (on {v = c} h b e) = linked.by_both e (is_graph.symmetric c v b) (linked_head u c l o h)

      linked_meets : (u v : ℕ) → Linked g A Z Y u → Z u ≡ false → Z v ≡ false → Meets g A u v → Linked g A Z Y v
      linked_meets u v l o o' (heads au h) = linked_head u v l o h
      linked_meets u v l o o' (parent au av a) = linked.by_child av a o' l
      linked_meets u v l o o' (beyond {c = c} au av h a) = linked.by_child av a o' (linked_head u c l o h)

      linked_from : (v : ℕ) → Reached near Y Z v → Linked g A Z Y v
      linked_from v (start y o) = linked.here y
      linked_from v (step {u = u} r a o) = linked_meets u v (linked_from u r) (outside near Y Z u r) o (is_near.sound u v a)

      pub separator_from_separated : IsSeparated g X Y Z → IsSeparator near X Y Z
      separator_from_separated sep v y r = apart near turn X Y Z (λ t x k. opened t x (linked_from t k)) v r (start y (y_out v y))
        where
          opened : (t : ℕ) → X t ≡ true → Linked g A Z Y t → ⊥
          opened t x l = let c = reach g X Y Z A is_graph xl wide x_out y_out sep t l in
              sep t c.steps (record {
                vertex = xl t x;
                begins = x;
                ends = c.ends;
                first_outside = x_out t x;
                last_outside = c.last_outside;
                walk = c.walk;
                passed = c.passed;
              })
            where
              wide : (u : ℕ) → A u ≡ true → IsAncestor g (λ v. X v || (Y v || Z v)) u
              wide u e = let i = (above u).0 e in record {
                vertex = i.vertex;
                path = i.path;
                end = i.end;
                leads = i.leads;
                inside = either (X i.end) (Y i.end) ((X i.end || (Y i.end || Z i.end)) ≡ true) i.inside (λ p. or_left (X i.end) (Y i.end || Z i.end) p)
                    (λ p. or_right (X i.end) (Y i.end || Z i.end) (or_left (Y i.end) (Z i.end) p));
              }

  -- ---- what lies outside the ancestors isn't needed
  abbrev pub inner : (ℕ → Bool) → ℕ → Bool
  inner Z v = Z v && A v

  inner_in : (Z : ℕ → Bool) → IsPart (inner Z) A
  inner_in Z v e = and_second (Z v) (A v) e

  wide_passed : (Z : ℕ → Bool) (v : ℕ) (h l : Bool) → A v ≡ true → IsPassed g (inner Z) v h l → IsPassed g Z v h l
  wide_passed Z v true true a p = record { vertex = p.vertex; path = p.path; end = p.end; leads = p.leads; inside = and_first (Z p.end) (A p.end) p.inside }
  wide_passed Z v true false a p = false_from_ne_true (Z v) (λ e. not_both (Z v && A v) (and_from (Z v) (A v) e a) p)
  wide_passed Z v false l a p = false_from_ne_true (Z v) (λ e. not_both (Z v && A v) (and_from (Z v) (A v) e a) p)

  wide_from : (Z : ℕ → Bool) (h : Bool) (v : ℕ) (r : List Step) → IsWalk g v r → ArePassedFrom g (inner Z) h v r → Y (last v r) ≡ true → A v ≡ true
      → ArePassedFrom g Z h v r
  wide_from Z h v [] w p y a = tt
  wide_from Z h v (s ∷ r) w p y a = (
    wide_passed Z v h (heads_first s.mark) a p.0,
    wide_from Z (heads_second s.mark) s.to r w.1 p.1 y (in_walk (inner Z) (inner_in Z) (heads_second s.mark) s.to r w.1 p.1 y
        (in_next (inner Z) (inner_in Z) v s.mark s.to w.0 a)),
  )

  pub separated_inner : (Z : ℕ → Bool) → ((v : ℕ) → X v ≡ true → Z v ≡ false) → ((v : ℕ) → Y v ≡ true → Z v ≡ false) → IsSeparated g X Y Z
      → IsSeparated g X Y (inner Z)
  separated_inner Z x_out y_out sep v r k = sep v r (record {
    vertex = k.vertex;
    begins = k.begins;
    ends = k.ends;
    first_outside = x_out v k.begins;
    last_outside = y_out (last v r) k.ends;
    walk = k.walk;
    passed = passed_inside g Z false v r (wide_from Z false v r k.walk (passed_from_start g (inner Z) v r k.first_outside k.passed) k.ends (in_x v k.begins));
  })
