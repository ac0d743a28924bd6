-- Open walks of a graph, and of the graph without some arrows.
use Rattle.std.proofs.Common.{ℕ, ◌≡◌, Bool, true, false, not, refl, ◌&&◌, List, [], ◌∷◌}
use Rattle.std.proofs.lemmas.Bool.{and_parts, and_from, not_from_false, false_from_ne_true}
use Rattle.mixed_graph.specs.Vocabulary.{MixedGraph, IsMixedGraph, IsDirectedPath}
use Rattle.m_separation.specs.declared.marks.Mark.{Mark}
use Rattle.m_separation.specs.declared.marks.Mark.TheVariants.{Out, Into, Both}
use Rattle.m_separation.specs.Vocabulary.{Step, IsJoined, IsWalk, heads_first, heads_second, IsPassed, ArePassedFrom, ArePassed, IsOpenWalk}
use Rattle.do_rules.proofs.Fewer.{HasFewer, graph_of_fewer}
use Rattle.finite_models.proofs.Bools.{not_both}
use Rattle.adjustment.specs.Proper.{AreOutside, IsCausal}
use Rattle.adjustment.proofs.FirstEdges.{cut_arrows}

module _ (g : MixedGraph) (E : ℕ → ℕ → Bool) where
  -- ---- what the graph without the arrows of E has, g has
  pub fewer_arrows : IsMixedGraph g → HasFewer (cut_arrows g E) g
  fewer_arrows k = record {
    vertices = refl;
    arrows = λ u v e. (and_parts (g.arrow u v) (not (E u v)) e).0;
    spouses = λ u v e. e;
    symmetric = k.symmetric;
  }

  -- a mixed graph stays one without some of its arrows
  pub graph_arrows : IsMixedGraph g → IsMixedGraph (cut_arrows g E)
  graph_arrows k = graph_of_fewer (cut_arrows g E) g (fewer_arrows k) k

  joined_more : (u : ℕ) (m : Mark) (v : ℕ) → IsJoined (cut_arrows g E) u m v → IsJoined g u m v
  joined_more u Out v j = (and_parts (g.arrow u v) (not (E u v)) j).0
  joined_more u Into v j = (and_parts (g.arrow v u) (not (E v u)) j).0
  joined_more u Both v j = j

  pub walk_more : (v : ℕ) (r : List Step) → IsWalk (cut_arrows g E) v r → IsWalk g v r
  walk_more v [] w = tt
  walk_more v (s ∷ r) w = (joined_more v s.mark s.to w.0, walk_more s.to r w.1)

  path_more : (v : ℕ) (xs : List ℕ) (t : ℕ) → IsDirectedPath (cut_arrows g E) v xs t → IsDirectedPath g v xs t
  path_more v [] t p = p
  path_more v (y ∷ ys) t p = ((and_parts (g.arrow v y) (not (E v y)) p.0).0, path_more y ys t p.1)

  passed_more : (W : ℕ → Bool) (v : ℕ) (h l : Bool) → IsPassed (cut_arrows g E) W v h l → IsPassed g W v h l
  passed_more W v true true p = record { vertex = p.vertex; path = p.path; end = p.end; leads = path_more v p.path p.end p.leads; inside = p.inside }
  passed_more W v true false p = p
  passed_more W v false l p = p

  passed_from_more : (W : ℕ → Bool) (h : Bool) (v : ℕ) (r : List Step) → ArePassedFrom (cut_arrows g E) W h v r → ArePassedFrom g W h v r
  passed_from_more W h v [] p = tt
  passed_from_more W h v (s ∷ r) p = (passed_more W v h (heads_first s.mark) p.0, passed_from_more W (heads_second s.mark) s.to r p.1)

  passed_all_more : (W : ℕ → Bool) (r : List Step) → ArePassed (cut_arrows g E) W r → ArePassed g W r
  passed_all_more W [] p = tt
  passed_all_more W (s ∷ r) p = passed_from_more W (heads_second s.mark) s.to r p

  pub open_more : (X Y W : ℕ → Bool) (v : ℕ) (r : List Step) → IsOpenWalk (cut_arrows g E) X Y W v r → IsOpenWalk g X Y W v r
  open_more X Y W v r o = record {
    vertex = o.vertex;
    begins = o.begins;
    ends = o.ends;
    first_outside = o.first_outside;
    last_outside = o.last_outside;
    walk = walk_more v r o.walk;
    passed = passed_all_more W r o.passed;
  }

  -- Z has no descendant of the head of a cut arrow
  abbrev pub IsClear : (ℕ → Bool) → Type 0
  IsClear Z = (u v : ℕ) → g.arrow u v ≡ true → E u v ≡ true → (t : ℕ) (p : List ℕ) → IsDirectedPath g v p t → Z t ≡ true → ⊥

  -- ---- then An(Z) stays
  module _ (Z : ℕ → Bool) (clear : IsClear Z) where
    path_less : (v : ℕ) (xs : List ℕ) (t : ℕ) → IsDirectedPath g v xs t → Z t ≡ true → IsDirectedPath (cut_arrows g E) v xs t
    path_less v [] t p z = p
    path_less v (x ∷ xs) t p z = (
      and_from (g.arrow v x) (not (E v x)) p.0
          (not_from_false (E v x) (false_from_ne_true (E v x) (λ e. clear v x p.0 e t xs p.1 z))),
      path_less x xs t p.1 z,
    )

    passed_less : (v : ℕ) (h l : Bool) → IsPassed g Z v h l → IsPassed (cut_arrows g E) Z v h l
    passed_less v true true a = record { vertex = a.vertex; path = a.path; end = a.end; leads = path_less v a.path a.end a.leads a.inside; inside = a.inside }
    passed_less v true false p = p
    passed_less v false l p = p

    passed_from_less : (h : Bool) (v : ℕ) (r : List Step) → ArePassedFrom g Z h v r → ArePassedFrom (cut_arrows g E) Z h v r
    passed_from_less h v [] p = tt
    passed_from_less h v (s ∷ r) p = (passed_less v h (heads_first s.mark) p.0, passed_from_less (heads_second s.mark) s.to r p.1)

    passed_all_less : (r : List Step) → ArePassed g Z r → ArePassed (cut_arrows g E) Z r
    passed_all_less [] p = tt
    passed_all_less (s ∷ r) p = passed_from_less (heads_second s.mark) s.to r p

    -- a walk that comes by a cut arrow and isn't causal from there on isn't open
    turned : (b : ℕ) (r : List Step) → ((t : ℕ) (p : List ℕ) → IsDirectedPath g b p t → Z t ≡ true → ⊥) → IsWalk g b r → (IsCausal r → ⊥)
        → ArePassedFrom g Z true b r → ⊥
    turned b [] d w n p = n tt
    turned b (s ∷ r) d w n p = go s.mark refl w.0 p.0 p.1 (λ d' n' k. turned s.to r d' w.1 n' k)
      where
        go : (m : Mark) → s.mark ≡ m → IsJoined g b m s.to → IsPassed g Z b true (heads_first m) → ArePassedFrom g Z (heads_second m) s.to r
            → (((t : ℕ) (p : List ℕ) → IsDirectedPath g s.to p t → Z t ≡ true → ⊥) → (IsCausal r → ⊥) → ArePassedFrom g Z true s.to r → ⊥) → ⊥
        go Out e j q k ih = ih (λ t xs l z. d t (s.to ∷ xs) (j, l) z) (λ c. n (e, c)) k
        go Into e j i k ih = d i.end i.path i.leads i.inside
        go Both e j i k ih = d i.end i.path i.leads i.inside

    module _ (X : ℕ → Bool) (tails : (u v : ℕ) → E u v ≡ true → X u ≡ true) where
      not_cut : (u v : ℕ) → X u ≡ false → g.arrow u v ≡ true → (g.arrow u v && not (E u v)) ≡ true
      not_cut u v o a = and_from (g.arrow u v) (not (E u v)) a (not_from_false (E u v) (false_from_ne_true (E u v) (λ e. not_both (X u) (tails u v e) o)))

      joined_less : (u : ℕ) (m : Mark) (v : ℕ) → X u ≡ false → X v ≡ false → IsJoined g u m v → IsJoined (cut_arrows g E) u m v
      joined_less u Out v o o' j = not_cut u v o j
      joined_less u Into v o o' j = not_cut v u o' j
      joined_less u Both v o o' j = j

      walk_less : (v : ℕ) (r : List Step) → X v ≡ false → AreOutside X r → IsWalk g v r → IsWalk (cut_arrows g E) v r
      walk_less v [] o a w = tt
      walk_less v (s ∷ r) o a w = (joined_less v s.mark s.to o a.0 w.0, walk_less s.to r a.0 a.1 w.1)

      -- an open walk that leaves X at once for good, and isn't causal, has no cut arrow
      pub open_less : (Y : ℕ → Bool) (v : ℕ) (r : List Step) → AreOutside X r → (IsCausal r → ⊥) → IsOpenWalk g X Y Z v r
          → IsOpenWalk (cut_arrows g E) X Y Z v r
      open_less Y v [] a n o = absurd (n tt)
      open_less Y v (s ∷ r) a n o = record {
        vertex = o.vertex;
        begins = o.begins;
        ends = o.ends;
        first_outside = o.first_outside;
        last_outside = o.last_outside;
        walk = (first s.mark refl o.walk.0 o.passed, walk_less s.to r a.0 a.1 o.walk.1);
        passed = passed_all_less (s ∷ r) o.passed;
      }
        where
          first : (m : Mark) → s.mark ≡ m → IsJoined g v m s.to → ArePassedFrom g Z (heads_second m) s.to r → IsJoined (cut_arrows g E) v m s.to
          first Out e j p = and_from (g.arrow v s.to) (not (E v s.to)) j (not_from_false (E v s.to) (false_from_ne_true (E v s.to) (λ c.
              turned s.to r (clear v s.to j c) o.walk.1 (λ q. n (e, q)) p)))
          first Into e j p = not_cut s.to v a.0 j
          first Both e j p = j
