use Rattle.std.proofs.Common.{◌≡◌, ℕ, Bool, true, false, List, [], ◌∷◌, ◌++◌, refl, sym, ap, ◌∙◌, IsTrue, subst}
use Rattle.mixed_graph.specs.Vocabulary.{MixedGraph, IsMixedGraph, IsAncestor}
use Rattle.mixed_graph.proofs.Paths.{ancestor_parent}
use Rattle.m_separation.specs.declared.marks.Mark.{Mark}
use Rattle.m_separation.specs.declared.marks.Mark.TheVariants.{Out, Into, Both}
use Rattle.m_separation.specs.Walks.{Step, IsJoined, IsWalk, last, heads_first, heads_second, IsPassed, ArePassedFrom, IsOpenWalk}
use Rattle.m_separation.proofs.Going.{passed_from_start, passed_inside}

-- whether a walk ends with an arrowhead there; without a step it stays as it was
abbrev pub arrives : Bool → List Step → Bool
arrives h [] = h
arrives h (s ∷ r) = arrives (heads_second s.mark) r

pub last-append : (v : ℕ) (xs ys : List Step) → last v (xs ++ ys) ≡ last (last v xs) ys
last-append v [] ys = refl
last-append v (x ∷ xs) ys = last-append x.to xs ys

pub walk_from_append : (g : MixedGraph) (v : ℕ) (xs ys : List Step) → IsWalk g v (xs ++ ys) → IsWalk g v xs × IsWalk g (last v xs) ys
walk_from_append g v [] ys k = (tt, k)
walk_from_append g v (x ∷ xs) ys k = let p = walk_from_append g x.to xs ys k.1 in ((k.0, p.0), p.1)

pub walk-append : (g : MixedGraph) (v : ℕ) (xs ys : List Step) → IsWalk g v xs → IsWalk g (last v xs) ys → IsWalk g v (xs ++ ys)
walk-append g v [] ys k l = l
walk-append g v (x ∷ xs) ys k l = (k.0, walk-append g x.to xs ys k.1 l)

pub passed_from_append : (g : MixedGraph) (w : ℕ → Bool) (h : Bool) (v : ℕ) (xs ys : List Step) → ArePassedFrom g w h v (xs ++ ys) →
    ArePassedFrom g w h v xs × ArePassedFrom g w (arrives h xs) (last v xs) ys
passed_from_append g w h v [] ys p = (tt, p)
passed_from_append g w h v (x ∷ xs) ys p = let q = passed_from_append g w (heads_second x.mark) x.to xs ys p.1 in ((p.0, q.0), q.1)

pub passed-append : (g : MixedGraph) (w : ℕ → Bool) (h : Bool) (v : ℕ) (xs ys : List Step) → ArePassedFrom g w h v xs →
    ArePassedFrom g w (arrives h xs) (last v xs) ys → ArePassedFrom g w h v (xs ++ ys)
passed-append g w h v [] ys p q = q
passed-append g w h v (x ∷ xs) ys p q = (p.0, passed-append g w (heads_second x.mark) x.to xs ys p.1 q)

module _ (g : MixedGraph) (valid : IsMixedGraph g) (w : ℕ → Bool) where
  -- a walk that comes to u with an arrowhead there, and ends without one, has a collider at u or below
  pub descends : (h : Bool) (u : ℕ) (r : List Step) → h ≡ true → arrives h r ≡ false → IsWalk g u r → ArePassedFrom g w h u r → IsAncestor g w u
  descends h u [] with_head without walk passed = absurd (cc)
  descends h u (s ∷ r) with_head without walk passed = turn s.mark walk.0 (subst (λ b. IsPassed g w u b (heads_first s.mark)) with_head passed.0)
      (λ e. descends (heads_second s.mark) s.to r e without walk.1 passed.1)
    where
      turn : (m : Mark) → IsJoined g u m s.to → IsPassed g w u true (heads_first m) → (heads_second m ≡ true → IsAncestor g w s.to) → IsAncestor g w u
      turn Out j p deeper = ancestor_parent g w u s.to (valid.tail_below u s.to j) j (deeper refl)
      turn Into j p deeper = p
      turn Both j p deeper = p

  -- a way that leaves v by an arrow out of it and comes back without an arrowhead turns at a collider below v
  around : (m : Mark) (v u : ℕ) (r : List Step) → heads_first m ≡ false → IsJoined g v m u → arrives (heads_second m) r ≡ false → IsWalk g u r
      → ArePassedFrom g w (heads_second m) u r → IsAncestor g w v
  around Out v u r tail j without walk passed = ancestor_parent g w v u (valid.tail_below v u j) j (descends true u r refl without walk passed)
  around Into v u r tail j without walk passed = absurd (cc)
  around Both v u r tail j without walk passed = absurd (cc)

  outside_from_passed : (v : ℕ) (h : Bool) → IsPassed g w v h false → w v ≡ false
  outside_from_passed v true p = p
  outside_from_passed v false p = p

  -- the flags: h on coming to v first, b on leaving it, c on coming back, k on leaving it for good
  passed_spliced : (v : ℕ) (h b c k : Bool) → (b ≡ false → c ≡ false → IsAncestor g w v) → IsPassed g w v h b → IsPassed g w v c k → IsPassed g w v h k
  passed_spliced v false b c k around p q = p
  passed_spliced v true b c false around p q = outside_from_passed v c q
  passed_spliced v true true c true around p q = p
  passed_spliced v true false true true around p q = q
  passed_spliced v true false false true around p q = around refl refl

  -- the steps after a way from v back to it let a walk pass without it
  rest_spliced : (h : Bool) (v : ℕ) (s : Step) (r ys : List Step) → IsWalk g v (s ∷ r) → ArePassedFrom g w h v (s ∷ r) →
      ArePassedFrom g w (arrives (heads_second s.mark) r) v ys → ArePassedFrom g w h v ys
  rest_spliced h v s r [] walk way after = tt
  rest_spliced h v s r (y ∷ ys) walk way after = (
    passed_spliced v h (heads_first s.mark) (arrives (heads_second s.mark) r) (heads_first y.mark)
        (λ tail without. around s.mark v s.to r tail walk.0 without walk.1 way.1) way.0 after.0,
    after.1,
  )

  -- an open walk stays one where a way from a vertex back to it is left out
  pub IsOpenWalk-spliced : (x y : ℕ → Bool) (v : ℕ) (xs : List Step) (s : Step) (r ys : List Step) →
      last v xs ≡ last s.to r → IsOpenWalk g x y w v (xs ++ ((s ∷ r) ++ ys)) → IsOpenWalk g x y w v (xs ++ ys)
  IsOpenWalk-spliced x y v xs s r ys same o =
      let ends : last v (xs ++ ((s ∷ r) ++ ys)) ≡ last v (xs ++ ys) =
      last-append v xs ((s ∷ r) ++ ys) ∙ last-append s.to r ys ∙ ap (λ u. last u ys) (sym same) ∙ sym (last-append v xs ys) in
      let walks = walk_from_append g v xs ((s ∷ r) ++ ys) o.walk in
      let round = walk_from_append g (last v xs) (s ∷ r) ys walks.1 in
      let parts = passed_from_append g w false v xs ((s ∷ r) ++ ys) (passed_from_start g w v (xs ++ ((s ∷ r) ++ ys)) o.first_outside o.passed) in
      let way = passed_from_append g w (arrives false xs) (last v xs) (s ∷ r) ys parts.1 in
      let after = subst (λ u. ArePassedFrom g w (arrives (heads_second s.mark) r) u ys) (sym same) way.1 in
      record {
        vertex = o.vertex;
        begins = o.begins;
        ends = subst (λ u. IsTrue (y u)) ends o.ends;
        first_outside = o.first_outside;
        last_outside = subst (λ u. w u ≡ false) ends o.last_outside;
        walk = walk-append g v xs ys walks.0 (subst (λ u. IsWalk g u ys) (sym same) round.1);
        passed = passed_inside g w false v (xs ++ ys)
            (passed-append g w false v xs ys parts.0 (rest_spliced (arrives false xs) (last v xs) s r ys round.0 way.0 after));
      }
