-- Given x, once the edges into x are cut, nothing is open through x: the arrows out of x may be cut as well.
use Rattle.std.proofs.Common.{ℕ, ◌≡◌, Bool, true, false, not, ◌&&◌, ◌||◌, refl, sym, ◌∙◌, subst, List, [], ◌∷◌, arith}
use Rattle.std.proofs.lemmas.Bool.{and_from, not-true, not_from_false, or_from, or_right}
use Rattle.mixed_graph.specs.Vocabulary.{MixedGraph, IsMixedGraph, IsDirectedPath}
use Rattle.m_separation.specs.declared.marks.Mark.{Mark}
use Rattle.m_separation.specs.declared.marks.Mark.TheVariants.{Out, Into, Both}
use Rattle.m_separation.specs.Vocabulary.{Step, IsJoined, IsWalk, last, heads_first, heads_second, IsPassed, ArePassedFrom, IsSeparated}
use Rattle.m_separation.proofs.Going.{passed_from_start, passed_inside}
use Rattle.do_rules.specs.Vocabulary.{cut_into, cut_out}
use Rattle.do_rules.proofs.Fewer.{graph_into, fewer_out, path_of_fewer}
use Rattle.finite_models.proofs.Bools.{and_first, and_second, or_false}

-- g without the edges at x
abbrev pub isolated : MixedGraph → (ℕ → Bool) → MixedGraph
isolated g x = cut_out (cut_into g x) x

or_parts_false : (p q : Bool) → (p || q) ≡ false → (p ≡ false) × (q ≡ false)
or_parts_false true q e = absurd (grind (arith, e))
or_parts_false false q e = (refl, e)

module _ (g : MixedGraph) (ok : IsMixedGraph g) (X W : ℕ → Bool) where
  abbrev given : ℕ → Bool
  given v = X v || W v

  -- ---- with the arrows out of x
  path_more : (v : ℕ) (xs : List ℕ) (t : ℕ) → IsDirectedPath (isolated g X) v xs t → IsDirectedPath (cut_into g X) v xs t
  path_more = path_of_fewer (isolated g X) (cut_into g X) (fewer_out (cut_into g X) X (graph_into g X ok))

  joined_more : (u : ℕ) (m : Mark) (v : ℕ) → IsJoined (isolated g X) u m v → IsJoined (cut_into g X) u m v
  joined_more u Out v j = and_first (g.arrow u v && not (X v)) (not (X u)) j
  joined_more u Into v j = and_first (g.arrow v u && not (X u)) (not (X v)) j
  joined_more u Both v j = j

  next_out : (u : ℕ) (m : Mark) (v : ℕ) → IsJoined (isolated g X) u m v → X v ≡ false
  next_out u Out v j = not-true (X v) (and_second (g.arrow u v) (not (X v)) (and_first (g.arrow u v && not (X v)) (not (X u)) j))
  next_out u Into v j = not-true (X v) (and_second (g.arrow v u && not (X u)) (not (X v)) j)
  next_out u Both v j = not-true (X v) (and_second (not (X u)) (not (X v)) (and_second (g.both u v) (not (X u) && not (X v)) j))

  passed_more : (v : ℕ) (h l : Bool) → X v ≡ false → IsPassed (isolated g X) W v h l → IsPassed (cut_into g X) given v h l
  passed_more v true true out p = record {
    vertex = p.vertex;
    path = p.path;
    end = p.end;
    leads = path_more v p.path p.end p.leads;
    inside = or_right (X p.end) (W p.end) p.inside;
  }
  passed_more v true false out p = or_from (X v) (W v) out p
  passed_more v false l out p = or_from (X v) (W v) out p

  walk_more : (v : ℕ) (r : List Step) → IsWalk (isolated g X) v r → IsWalk (cut_into g X) v r
  walk_more v [] k = tt
  walk_more v (s ∷ r) k = (joined_more v s.mark s.to k.0, walk_more s.to r k.1)

  all_passed_more : (h : Bool) (v : ℕ) (r : List Step) → X v ≡ false → IsWalk (isolated g X) v r → ArePassedFrom (isolated g X) W h v r
      → ArePassedFrom (cut_into g X) given h v r
  all_passed_more h v [] out k p = tt
  all_passed_more h v (s ∷ r) out k p = (
    passed_more v h (heads_first s.mark) out p.0,
    all_passed_more (heads_second s.mark) s.to r (next_out v s.mark s.to k.0) k.1 p.1,
  )

  last_out : (v : ℕ) (r : List Step) → X v ≡ false → IsWalk (isolated g X) v r → X (last v r) ≡ false
  last_out v [] out k = out
  last_out v (s ∷ r) out k = last_out s.to r (next_out v s.mark s.to k.0) k.1

  pub separated_isolated : (y z : ℕ → Bool) → ((v : ℕ) → y v ≡ true → X v ≡ false) → IsSeparated (cut_into g X) y z given
      → IsSeparated (isolated g X) y z W
  separated_isolated y z y_out sep v r k = sep v r (record {
    vertex = k.vertex;
    begins = k.begins;
    ends = k.ends;
    first_outside = or_from (X v) (W v) (y_out v k.begins) k.first_outside;
    last_outside = or_from (X (last v r)) (W (last v r)) (last_out v r (y_out v k.begins) k.walk) k.last_outside;
    walk = walk_more v r k.walk;
    passed = passed_inside (cut_into g X) given false v r (all_passed_more false v r (y_out v k.begins) k.walk
        (passed_from_start (isolated g X) W v r k.first_outside k.passed));
  })

  -- ---- without them
  path_less : (v : ℕ) (xs : List ℕ) (t : ℕ) → X v ≡ false → IsDirectedPath (cut_into g X) v xs t → IsDirectedPath (isolated g X) v xs t × (X t ≡ false)
  path_less v [] t out p = (p, subst (λ u. X u ≡ false) p out)
  path_less v (n ∷ xs) t out p =
      let rest = path_less n xs t (not-true (X n) (and_second (g.arrow v n) (not (X n)) p.0)) p.1 in
      ((and_from (g.arrow v n && not (X n)) (not (X v)) p.0 (not_from_false (X v) out), rest.0), rest.1)

  joined_less : (u : ℕ) (m : Mark) (v : ℕ) → X u ≡ false → X v ≡ false → IsJoined (cut_into g X) u m v → IsJoined (isolated g X) u m v
  joined_less u Out v a b j = and_from (g.arrow u v && not (X v)) (not (X u)) j (not_from_false (X u) a)
  joined_less u Into v a b j = and_from (g.arrow v u && not (X u)) (not (X v)) j (not_from_false (X v) b)
  joined_less u Both v a b j = j

  passed_less : (v : ℕ) (h l : Bool) → X v ≡ false → IsPassed (cut_into g X) given v h l → IsPassed (isolated g X) W v h l
  passed_less v true true out p =
      let q = path_less v p.path p.end out p.leads in
      record { vertex = p.vertex; path = p.path; end = p.end; leads = q.0; inside = sym (or_false (X p.end) (W p.end) q.1) ∙ p.inside }
  passed_less v true false out p = (or_parts_false (X v) (W v) p).1
  passed_less v false l out p = (or_parts_false (X v) (W v) p).1

  -- a step leads to a vertex outside x
  step_out : (v : ℕ) (s : Step) (r : List Step) → IsJoined (cut_into g X) v s.mark s.to → ArePassedFrom (cut_into g X) given (heads_second s.mark) s.to r
      → X (last s.to r) ≡ false → X s.to ≡ false
  step_out v s r j p e = go s.mark r j p e
    where
      go : (m : Mark) (r : List Step) → IsJoined (cut_into g X) v m s.to → ArePassedFrom (cut_into g X) given (heads_second m) s.to r
          → X (last s.to r) ≡ false → X s.to ≡ false
      go Out r j p e = not-true (X s.to) (and_second (g.arrow v s.to) (not (X s.to)) j)
      go Into [] j p e = e
      go Into (t ∷ r) j p e = (or_parts_false (X s.to) (W s.to) p.0).0
      go Both r j p e = not-true (X s.to) (and_second (not (X v)) (not (X s.to)) (and_second (g.both v s.to) (not (X v) && not (X s.to)) j))

  walk_less : (h : Bool) (v : ℕ) (r : List Step) → X v ≡ false → X (last v r) ≡ false → IsWalk (cut_into g X) v r → ArePassedFrom (cut_into g X) given h v r
      → IsWalk (isolated g X) v r × ArePassedFrom (isolated g X) W h v r
  walk_less h v [] out e k p = (tt, tt)
  walk_less h v (s ∷ r) out e k p =
      let next = step_out v s r k.0 p.1 e in
      let rest = walk_less (heads_second s.mark) s.to r next e k.1 p.1 in
      ((joined_less v s.mark s.to out next k.0, rest.0), (passed_less v h (heads_first s.mark) out p.0, rest.1))

  pub isolated_separated : (y z : ℕ → Bool) → IsSeparated (isolated g X) y z W → IsSeparated (cut_into g X) y z given
  isolated_separated y z sep v r k =
      let out = or_parts_false (X v) (W v) k.first_outside in
      let end = or_parts_false (X (last v r)) (W (last v r)) k.last_outside in
      let less = walk_less false v r out.0 end.0 k.walk (passed_from_start (cut_into g X) given v r k.first_outside k.passed) in
      sep v r (record {
        vertex = k.vertex;
        begins = k.begins;
        ends = k.ends;
        first_outside = out.1;
        last_outside = end.1;
        walk = less.0;
        passed = passed_inside (isolated g X) W false v r less.1;
      })
