-- The edges of an open walk between two vertices are links, and their other ancestors separate them where any set does.
use Rattle.std.proofs.Common.{ℕ, ◌≡◌, ◌<◌, Bool, true, false, ◌||◌, List, [], ◌∷◌, ◌⊎◌, inl, inr, refl, arith, eqb, eqb-true, eq-eqb}
use Rattle.std.proofs.lemmas.Bool.{cases_eq, or_cases, or_left, or_right}
use Rattle.mixed_graph.specs.Vocabulary.{MixedGraph, IsMixedGraph, IsDirectedPath, IsAncestor}
use Rattle.m_separation.specs.declared.marks.Mark.{Mark}
use Rattle.m_separation.specs.declared.marks.Mark.TheVariants.{Out, Into, Both}
use Rattle.m_separation.specs.Vocabulary.{Step, IsJoined, IsWalk, last, heads_first, heads_second, IsPassed, ArePassedFrom, ArePassed, IsSeparated}
use Rattle.do_rules.proofs.Reach.{Linked, here, by_both, by_child, by_parent, reach}
use Rattle.implications.specs.Separable.{only, AreOtherAncestors}
use Rattle.implications.specs.Laws.{OtherAncestorsSeparate}

clash : {A : Type 0} (b : Bool) → b ≡ true → b ≡ false → A
clash b p q = absurd (grind (arith, p, q))

pub passed_first : (g : MixedGraph) (w : ℕ → Bool) (v : ℕ) (r : List Step) → w v ≡ false → ArePassed g w r → ArePassedFrom g w false v r
passed_first g w v [] o p = tt
passed_first g w v (s ∷ r) o p = (o, p)

module _ (g : MixedGraph) (ok : IsMixedGraph g) (a b : ℕ) (al : a < g.vertices) (bl : b < g.vertices) where
  abbrev pub Above : ℕ → Type 0
  Above v = IsAncestor g (λ u. only a u || only b u) v

  joined_path : (v : ℕ) → v < g.vertices → (xs : List ℕ) (t : ℕ) → IsDirectedPath g v xs t → Above t → Above v
  joined_path v vl [] t p r = rw p r
  joined_path v vl (x ∷ xs) t p r = let q = joined_path x (ok.head_below v x p.0) xs t p.1 r in
      record { vertex = vl; path = x ∷ q.path; end = q.end; leads = (p.0, q.leads); inside = q.inside }

  pub above_first : Above a
  above_first = record { vertex = al; path = []; end = a; leads = refl; inside = or_left (eqb a a) (eqb a b) (eq-eqb a a refl) }

  pub above_last : Above b
  above_last = record { vertex = bl; path = []; end = b; leads = refl; inside = or_right (eqb b a) (eqb b b) (eq-eqb b b refl) }

  above_parent : (v u : ℕ) → g.arrow v u ≡ true → Above u → Above v
  above_parent v u e r = joined_path v (ok.tail_below v u e) (u ∷ []) u (e, refl) r

  -- of a walk that is open given ancestors: w has no ancestor that these lack
  module _ (z : ℕ → Bool) (z_above : (v : ℕ) → z v ≡ true → Above v) (w : ℕ → Bool) (wb : w b ≡ false)
      (free : (v : ℕ) → Above v → z v ≡ false → w v ≡ false) (inner : ℕ → Bool) (inner_from : (v : ℕ) → Above v → inner v ≡ true) where
    above_collider : (v : ℕ) → IsAncestor g z v → Above v
    above_collider v r = joined_path v r.vertex r.path r.end r.leads (z_above r.end r.inside)

    -- each vertex of the walk is an ancestor of an end
    above : (h : Bool) (v : ℕ) (r : List Step) → IsWalk g v r → ArePassedFrom g z h v r → last v r ≡ b → (h ≡ false → Above v) → Above v
    above false v r k p s f = f refl
    above true v [] k p s f = rw s above_last
    above true v (t ∷ r) k p s f = go t.mark k.0 p.0 (λ e. above (heads_second t.mark) t.to r k.1 p.1 s (λ d. clash (heads_second t.mark) e d))
      where
        go : (m : Mark) → IsJoined g v m t.to → IsPassed g z v true (heads_first m) → (heads_second m ≡ true → Above t.to) → Above v
        go Out j q deeper = above_parent v t.to j (deeper refl)
        go Into j q deeper = above_collider v q
        go Both j q deeper = above_collider v q

    -- each edge of the walk is a link
    pub linked : (h : Bool) (v : ℕ) (r : List Step) → IsWalk g v r → ArePassedFrom g z h v r → last v r ≡ b → (h ≡ false → Above v)
        → Linked g inner w (only b) v
    linked h v [] k p s f = here (eq-eqb v b s)
    linked h v (t ∷ r) k p s f = go t.mark k.0 (λ e. out_of h p.0 e) hyp (λ e. tail_at r p.1 s e) (linked (heads_second t.mark) t.to r k.1 p.1 s hyp)
      where
        hyp : heads_second t.mark ≡ false → Above t.to
        hyp = by_mark t.mark k.0
          where
            by_mark : (m : Mark) → IsJoined g v m t.to → heads_second m ≡ false → Above t.to
            by_mark Out j e = absurd (grind (arith, e))
            by_mark Into j e = above_parent t.to v j (above h v (t ∷ r) k p s f)
            by_mark Both j e = absurd (grind (arith, e))

        out_of : (h : Bool) → IsPassed g z v h (heads_first t.mark) → heads_first t.mark ≡ false → w v ≡ false
        out_of true q e = free v (above h v (t ∷ r) k p s f) (by_head (heads_first t.mark) e q)
          where
            by_head : (c : Bool) → c ≡ false → IsPassed g z v true c → z v ≡ false
            by_head false e q = q
            by_head true e q = absurd (grind (arith, e))
        out_of false q e = free v (above h v (t ∷ r) k p s f) q

        tail_at : (r : List Step) → ArePassedFrom g z (heads_second t.mark) t.to r → last t.to r ≡ b → heads_second t.mark ≡ false → w t.to ≡ false
        tail_at [] q s e = rw s wb
        tail_at (t' ∷ r') q s e = free t.to (hyp e) (by_head (heads_second t.mark) e q.0)
          where
            by_head : (c : Bool) → c ≡ false → IsPassed g z t.to c (heads_first t'.mark) → z t.to ≡ false
            by_head false e q = q
            by_head true e q = absurd (grind (arith, e))

        go : (m : Mark) → IsJoined g v m t.to → (heads_first m ≡ false → w v ≡ false) → (heads_second m ≡ false → Above t.to)
            → (heads_second m ≡ false → w t.to ≡ false) → Linked g inner w (only b) t.to → Linked g inner w (only b) v
        go Out j o u q x = by_child (inner_from v (above h v (t ∷ r) k p s f)) j (o refl) x
        go Into j o u q x = by_parent (inner_from v (above h v (t ∷ r) k p s f)) j (q refl) x
        go Both j o u q x = by_both (inner_from v (above h v (t ∷ r) k p s f)) j x

  module _ (z : ℕ → Bool) (is : AreOtherAncestors g a b z) (w : ℕ → Bool) (wa : w a ≡ false) (wb : w b ≡ false) where
    z_above : (v : ℕ) → z v ≡ true → Above v
    z_above v e = ((is v).0 e).above

    -- an ancestor outside z is one of the two ends, so it is outside w
    free : (v : ℕ) → Above v → z v ≡ false → w v ≡ false
    free v r e = go (cases_eq v a) (cases_eq v b)
      where
        go : (v ≡ a) ⊎ (v ≡ a → ⊥) → (v ≡ b) ⊎ (v ≡ b → ⊥) → w v ≡ false
        go (inl s) t = rw s wa
        go (inr d) (inl s) = rw s wb
        go (inr d) (inr d') = clash (z v) ((is v).1 (record { not_a = d; not_b = d'; above = r })) e

    inner : ℕ → Bool
    inner v = z v || (only a v || only b v)

    inner_from : (v : ℕ) → Above v → inner v ≡ true
    unfolding inner
    inner_from v r = go (cases_eq v a) (cases_eq v b)
      where
        go : (v ≡ a) ⊎ (v ≡ a → ⊥) → (v ≡ b) ⊎ (v ≡ b → ⊥) → inner v ≡ true
        go (inl s) t = or_right (z v) (only a v || only b v) (or_left (eqb v a) (eqb v b) (eq-eqb v a s))
        go (inr d) (inl s) = or_right (z v) (only a v || only b v) (or_right (eqb v a) (eqb v b) (eq-eqb v b s))
        go (inr d) (inr d') = or_left (z v) (only a v || only b v) ((is v).1 (record { not_a = d; not_b = d'; above = r }))

    inner_is : (v : ℕ) → inner v ≡ true → IsAncestor g (λ u. only a u || (only b u || w u)) v
    unfolding inner
    inner_is v e = go (or_cases (z v) (only a v || only b v) e)
      where
        wider : (x y q : Bool) → (x || y) ≡ true → (x || (y || q)) ≡ true
        wider true y q f = refl
        wider false true q f = refl
        wider false false q f = absurd (grind (arith, f))

        widen : Above v → IsAncestor g (λ u. only a u || (only b u || w u)) v
        widen r = record { vertex = r.vertex; path = r.path; end = r.end; leads = r.leads; inside = wider (eqb r.end a) (eqb r.end b) (w r.end) r.inside }

        vertex : (v ≡ a) ⊎ (v ≡ b) → v < g.vertices
        vertex (inl s) = rw s al
        vertex (inr s) = rw s bl

        which : (eqb v a ≡ true) ⊎ (eqb v b ≡ true) → (v ≡ a) ⊎ (v ≡ b)
        which (inl f) = inl (eqb-true v a f)
        which (inr f) = inr (eqb-true v b f)

        go : (z v ≡ true) ⊎ ((only a v || only b v) ≡ true) → IsAncestor g (λ u. only a u || (only b u || w u)) v
        go (inl f) = widen ((is v).0 f).above
        go (inr f) = record {
          vertex = vertex (which (or_cases (eqb v a) (eqb v b) f));
          path = [];
          end = v;
          leads = refl;
          inside = wider (eqb v a) (eqb v b) (w v) f;
        }

    at_end : (v c : ℕ) → c < g.vertices → only c v ≡ true → v < g.vertices
    at_end v c l e = rw (eqb-true v c e) l

    outside : (v c : ℕ) → w c ≡ false → only c v ≡ true → w v ≡ false
    outside v c o e = rw (eqb-true v c e) o

    pub separated_by_others : IsSeparated g (only a) (only b) w → IsSeparated g (only a) (only b) z
    separated_by_others sep v r o =
        let s : v ≡ a = eqb-true v a o.begins in
        let c = reach g (only a) (only b) w inner ok (λ u e. at_end u a al e) inner_is (λ u e. outside u a wa e) (λ u e. outside u b wb e) sep v
        (linked z z_above w wb free inner inner_from false v r o.walk (passed_first g z v r o.first_outside o.passed) (eqb-true (last v r) b o.ends)
        (λ e. rw s above_first)) in
        sep v c.steps (record {
          vertex = o.vertex;
          begins = o.begins;
          ends = c.ends;
          first_outside = outside v a wa o.begins;
          last_outside = c.last_outside;
          walk = c.walk;
          passed = c.passed;
        })

pub other_ancestors_separate : OtherAncestorsSeparate
other_ancestors_separate g ok a b s z is =
    separated_by_others g ok a b (let l = s.order in let m = s.vertex in omega arith) s.vertex z is s.set
    s.separating.without_a s.separating.without_b s.separating.separates
