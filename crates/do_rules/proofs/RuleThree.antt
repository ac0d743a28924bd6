-- Rule 3: insertion and deletion of actions.
use Rattle.std.proofs.Common.{ℕ, zero, suc, ◌+◌, ◌-◌, ◌*◌, ◌≡◌, ◌<◌, ◌≤◌, Bool, true, false, not, refl, sym, ap, ◌∙◌, ◌||◌, ◌&&◌, ◌∷◌, [], List, ◌⊎◌}
use Rattle.std.proofs.Common.{inl, inr, arith}
use mathlib.Core.Path.{fun_ext}
use Rattle.std.proofs.lemmas.Bool.{and_from, false_from_ne_true, not-true, or_from, or_left, or_right}
use Rattle.mixed_graph.specs.Vocabulary.{MixedGraph, IsMixedGraph, IsDirectedPath, IsAncestor}
use Rattle.m_separation.specs.declared.marks.Mark.{Mark}
use Rattle.m_separation.specs.declared.marks.Mark.TheVariants.{Both, Into, Out}
use Rattle.m_separation.specs.Vocabulary.{Step, IsJoined, IsWalk, last, heads_first, heads_second, IsPassed, ArePassedFrom, ArePassed, IsSeparated}
use Rattle.do_rules.specs.Cuts.{cut_into, cut_out}
use Rattle.do_rules.proofs.Fewer.{graph_into}
use Rattle.finite_models.specs.Vocabulary.{FiniteModel, IsAssignment, IsPositiveModel, weight_of}
use Rattle.finite_models.proofs.Bools.{and_first, and_second, either, not_both}
use Rattle.finite_models.proofs.Following.{Follows}
use Rattle.finite_models.proofs.Positive.{positive_each}
use Rattle.finite_models.proofs.Solutions.{IsRanked}
use Rattle.finite_models.proofs.Tested.{stable, tested}
use Rattle.do_rules.proofs.Reach.{meets_or_not, back, AllOutside}
use Rattle.do_rules.proofs.TwoRules.{rule_1, rule_2, further}

-- ---- an open walk of a graph with fewer edges, given more, is one given less, where what is added has no arrowhead
module _ (h g : MixedGraph) (V W : ℕ → Bool) (same : h.vertices ≡ g.vertices)
    (arrows : (u v : ℕ) → h.arrow u v ≡ true → g.arrow u v ≡ true) (boths : (u v : ℕ) → h.both u v ≡ true → g.both u v ≡ true)
    (more : (v : ℕ) → W v ≡ true → V v ≡ true)
    (headless : (u v : ℕ) → h.arrow u v ≡ true → V v ≡ true → W v ≡ true)
    (headless_both : (u v : ℕ) → h.both u v ≡ true → (V u ≡ true → W u ≡ true) × (V v ≡ true → W v ≡ true)) where
  out_less : (v : ℕ) → V v ≡ false → W v ≡ false
  out_less v e = false_from_ne_true (W v) (λ w. not_both (V v) (more v w) e)

  joined_more : (u : ℕ) (m : Mark) (v : ℕ) → IsJoined h u m v → IsJoined g u m v
  joined_more u Out v j = arrows u v j
  joined_more u Into v j = arrows v u j
  joined_more u Both v j = boths u v j

  head_fact : (u : ℕ) (m : Mark) (v : ℕ) → IsJoined h u m v → heads_second m ≡ true → V v ≡ true → W v ≡ true
  head_fact u Out v j e = headless u v j
  head_fact u Into v j e = absurd (grind (arith, e))
  head_fact u Both v j e = (headless_both u v j).1

  path_more : (v : ℕ) (xs : List ℕ) (t : ℕ) → IsDirectedPath h v xs t → (V v ≡ true → W v ≡ true) → IsDirectedPath g v xs t × (V t ≡ true → W t ≡ true)
  path_more v [] t p f = (p, rw (sym p) f)
  path_more v (x ∷ xs) t p f = let r = path_more x xs t p.1 (headless v x p.0) in ((arrows v x p.0, r.0), r.1)

  ancestor_more : (v : ℕ) → (V v ≡ true → W v ≡ true) → IsAncestor h V v → IsAncestor g W v
  ancestor_more v f a = let r = path_more v a.path a.end a.leads f in record {
    vertex = rw (sym same) a.vertex;
    path = a.path;
    end = a.end;
    leads = r.0;
    inside = r.1 a.inside;
  }

  walk_more : (v : ℕ) (r : List Step) → IsWalk h v r → IsWalk g v r
  walk_more v [] k = tt
  walk_more v (s ∷ r) k = (joined_more v s.mark s.to k.0, walk_more s.to r k.1)

  passed_more : (v : ℕ) (c : Bool) (r : List Step) → (c ≡ true → V v ≡ true → W v ≡ true) → IsWalk h v r → ArePassedFrom h V c v r → ArePassedFrom g W c v r
  passed_more v c [] f k p = tt
  passed_more v c (s ∷ r) f k p = (at c (heads_first s.mark) f p.0, passed_more s.to (heads_second s.mark) r (head_fact v s.mark s.to k.0) k.1 p.1)
    where
      at : (c d : Bool) → (c ≡ true → V v ≡ true → W v ≡ true) → IsPassed h V v c d → IsPassed g W v c d
      at true true f a = ancestor_more v (f refl) a
      at true false f a = out_less v a
      at false d f a = out_less v a

  passed_more_whole : (v : ℕ) (r : List Step) → IsWalk h v r → ArePassed h V r → ArePassed g W r
  passed_more_whole v [] k p = tt
  passed_more_whole v (s ∷ r) k p = passed_more s.to (heads_second s.mark) r (head_fact v s.mark s.to k.0) k.1 p

  pub separated_less : (Y Z Z' : ℕ → Bool) → ((v : ℕ) → Z' v ≡ true → Z v ≡ true) → IsSeparated g Y Z W → IsSeparated h Y Z' V
  separated_less Y Z Z' part sep v r o = sep v r (record {
    vertex = rw (sym same) o.vertex;
    begins = o.begins;
    ends = part (last v r) o.ends;
    first_outside = out_less v o.first_outside;
    last_outside = out_less (last v r) o.last_outside;
    walk = walk_more v r o.walk;
    passed = passed_more_whole v r o.walk o.passed;
  })

above : (x d b : ℕ) → 1 ≤ b → b * x ≡ b * (x + suc d) → ⊥
above x d b le h = omega (arith, product b d le)
  where
    product : (b d : ℕ) → 1 ≤ b → 1 ≤ b * suc d
    product zero d le = absurd (omega arith)
    product (suc b) d le = omega arith

-- a positive factor can be cancelled
pub scaled : (x y b : ℕ) → 1 ≤ b → b * x ≡ b * y → x ≡ y
scaled x y b le h = stable x y (λ differ. up (λ lt. above x (y - suc x) b le (h ∙ ap (λ n. b * n) (omega arith)))
    (λ lt. above y (x - suc y) b le (sym h ∙ ap (λ n. b * n) (omega arith))) differ)
  where
    up : (x < y → ⊥) → (y < x → ⊥) → (x ≡ y → ⊥) → ⊥
    up a b c = c (omega arith)

cancel : (a b c d e f : ℕ) → 1 ≤ b → a * b ≡ c * d → c * e ≡ f * b → a * e ≡ f * d
cancel a (suc b) c d e f le p q = times_left (a * e) (f * d) (b) (same a (suc b) c d e f p q)
  where
    same : (a b c d e f : ℕ) → a * b ≡ c * d → c * e ≡ f * b → b * (a * e) ≡ b * (f * d)
    same a b c d e f p q = regroup₁ a b e ∙ ap (λ r. r * e) p ∙ regroup₂ c d e ∙ ap (λ r. d * r) q ∙ regroup₃ d f b
      where
        regroup₁ : (a b e : ℕ) → b * (a * e) ≡ (a * b) * e
        regroup₁ a b e = omega arith

        regroup₂ : (c d e : ℕ) → (c * d) * e ≡ d * (c * e)
        regroup₂ c d e = omega arith

        regroup₃ : (d f b : ℕ) → d * (f * b) ≡ b * (f * d)
        regroup₃ d f b = omega arith

    times_left : (x y b : ℕ) → suc b * x ≡ suc b * y → x ≡ y
    times_left x y b h = scaled x y (suc b) (omega arith) h
cancel a zero c d e f le p q = absurd (omega arith)

module _ (g : MixedGraph) (m : FiniteModel) (rank : ℕ → ℕ) (is_graph : IsMixedGraph g) (ranked : IsRanked g rank) (follows : Follows g m) (s : ℕ → ℕ)
    (within : IsAssignment m.vertices m.size s)
    (positive : IsPositiveModel m) (X Y Z W P : ℕ → Bool)
    (x_low : (v : ℕ) → X v ≡ true → v < g.vertices) (y_low : (v : ℕ) → Y v ≡ true → v < g.vertices) (z_low : (v : ℕ) → Z v ≡ true → v < g.vertices)
    (w_low : (v : ℕ) → W v ≡ true → v < g.vertices)
    (y_x : (v : ℕ) → Y v ≡ true → X v ≡ false) (y_w : (v : ℕ) → Y v ≡ true → W v ≡ false) (y_z : (v : ℕ) → Y v ≡ true → Z v ≡ false)
    (z_x : (v : ℕ) → Z v ≡ true → X v ≡ false) (z_w : (v : ℕ) → Z v ≡ true → W v ≡ false) (w_x : (v : ℕ) → W v ≡ true → X v ≡ false)
    -- P holds the members of Z that are no ancestors of W once the edges into X are cut
    (p_in : (v : ℕ) → P v ≡ true → Z v ≡ true) (p_no : (v : ℕ) → P v ≡ true → IsAncestor (cut_into g X) W v → ⊥)
    (sep : IsSeparated (cut_into (cut_into g X) P) Y Z (λ v. X v || W v)) where
  -- the rest of Z
  rest : ℕ → Bool
  rest v = Z v && not (P v)

  held : ℕ → Bool
  held v = X v || P v

  given : ℕ → Bool
  given v = (X v || P v) || W v

  given_of : (v : ℕ) → (X v || W v) ≡ true → ((X v || P v) || W v) ≡ true
  given_of v e = either (X v) (W v) (((X v || P v) || W v) ≡ true) e (λ x. or_left (X v || P v) (W v) (or_left (X v) (P v) x))
      (λ w. or_right (X v || P v) (W v) w)

  not_held : (v : ℕ) → not (X v || P v) ≡ true → ((X v || P v) || W v) ≡ true → (X v || W v) ≡ true
  not_held v n e = either (X v || P v) (W v) ((X v || W v) ≡ true) e (λ h. absurd (not_both (X v || P v) h (not-true (X v || P v) n)))
      (λ w. or_right (X v) (W v) w)

  split_not : (x p : Bool) → not (x || p) ≡ true → (not x ≡ true) × (not p ≡ true)
  split_not true p e = absurd (grind (arith, e))
  split_not false p e = (refl, e)

  arrow_twice : (u v : ℕ) → (cut_into g (λ v. X v || P v)).arrow u v ≡ true → (cut_into (cut_into g X) P).arrow u v ≡ true
  arrow_twice u v e = let n = split_not (X v) (P v) (and_second (g.arrow u v) (not (X v || P v)) e) in
      and_from (g.arrow u v && not (X v)) (not (P v)) (and_from (g.arrow u v) (not (X v)) (and_first (g.arrow u v) (not (X v || P v)) e) n.0) n.1

  both_twice : (u v : ℕ) → (cut_into g (λ v. X v || P v)).both u v ≡ true → (cut_into (cut_into g X) P).both u v ≡ true
  both_twice u v e = let r = and_second (g.both u v) (not (X u || P u) && not (X v || P v)) e in
      let nu = split_not (X u) (P u) (and_first (not (X u || P u)) (not (X v || P v)) r) in
      let nv = split_not (X v) (P v) (and_second (not (X u || P u)) (not (X v || P v)) r) in
      and_from (g.both u v && (not (X u) && not (X v))) (not (P u) && not (P v))
      (and_from (g.both u v) (not (X u) && not (X v)) (and_first (g.both u v) (not (X u || P u) && not (X v || P v)) e)
      (and_from (not (X u)) (not (X v)) nu.0 nv.0))
      (and_from (not (P u)) (not (P v)) nu.1 nv.1)

  rest_in : (v : ℕ) → (Z v && not (P v)) ≡ true → Z v ≡ true
  rest_in v e = and_first (Z v) (not (P v)) e

  sep_one : IsSeparated (cut_into g (λ v. X v || P v)) Y (λ v. Z v && not (P v)) (λ v. (X v || P v) || W v)
  sep_one = separated_less (cut_into g (λ v. X v || P v)) (cut_into (cut_into g X) P) (λ v. (X v || P v) || W v) (λ v. X v || W v)
      refl arrow_twice both_twice given_of
      (λ u v a e. not_held v (and_second (g.arrow u v) (not (X v || P v)) a) e)
      (λ u v b. let r = and_second (g.both u v) (not (X u || P u) && not (X v || P v)) b in
      (λ e. not_held u (and_first (not (X u || P u)) (not (X v || P v)) r) e, λ e. not_held v (and_second (not (X u || P u)) (not (X v || P v)) r) e))
      Y Z (λ v. Z v && not (P v)) rest_in sep

  sep_two : IsSeparated (cut_out (cut_into g (λ v. X v || P v)) (λ v. Z v && not (P v))) Y (λ v. Z v && not (P v)) (λ v. (X v || P v) || W v)
  sep_two = separated_less (cut_out (cut_into g (λ v. X v || P v)) (λ v. Z v && not (P v))) (cut_into (cut_into g X) P) (λ v. (X v || P v) || W v)
      (λ v. X v || W v) refl
      (λ u v a. arrow_twice u v (and_first (g.arrow u v && not (X v || P v)) (not (Z u && not (P u))) a)) both_twice given_of
      (λ u v a e. not_held v (and_second (g.arrow u v) (not (X v || P v)) (and_first (g.arrow u v && not (X v || P v)) (not (Z u && not (P u))) a)) e)
      (λ u v b. let r = and_second (g.both u v) (not (X u || P u) && not (X v || P v)) b in
      (λ e. not_held u (and_first (not (X u || P u)) (not (X v || P v)) r) e, λ e. not_held v (and_second (not (X u || P u)) (not (X v || P v)) r) e))
      Y Z (λ v. Z v && not (P v)) rest_in sep

  -- a directed path in the twice cut graph is one in the graph cut at X, and enters no member of X
  path_once : (v : ℕ) (xs : List ℕ) (t : ℕ) → IsDirectedPath (cut_into (cut_into g X) P) v xs t → IsDirectedPath (cut_into g X) v xs t
  path_once v [] t p = p
  path_once v (x ∷ xs) t p = (and_first (g.arrow v x && not (X x)) (not (P x)) p.0, path_once x xs t p.1)

  enters : (v : ℕ) (xs : List ℕ) (t : ℕ) → IsDirectedPath (cut_into (cut_into g X) P) v xs t → X v ≡ false → X t ≡ false
  enters v [] t p o = rw (sym p) o
  enters v (x ∷ xs) t p o = enters x xs t p.1 (not-true (X x) (and_second (g.arrow v x) (not (X x)) (and_first (g.arrow v x && not (X x)) (not (P x)) p.0)))

  -- no member of P leads to Y by a path that enters no other member of P
  final : (v : ℕ) (xs : List ℕ) (t : ℕ) → IsDirectedPath (cut_into (cut_into g X) P) v xs t → Y t ≡ true → P v ≡ true → ⊥
  final v xs t p y z = go (meets_or_not (cut_into (cut_into g X) P) (λ v. X v || W v) (graph_into (cut_into g X) P (graph_into g X is_graph)) v xs t
      (z_low v (p_in v z)) p)
    where
      zv : Z v ≡ true
      zv = p_in v z

      go : IsAncestor (cut_into (cut_into g X) P) (λ v. X v || W v) v ⊎ AllOutside (cut_into (cut_into g X) P) (λ v. X v || W v) v xs → ⊥
      go (inl a) = either (X a.end) (W a.end) ⊥ a.inside
          (λ x. not_both (X a.end) x (enters v a.path a.end a.leads (z_x v zv)))
          (λ w. p_no v z (record { vertex = a.vertex; path = a.path; end = a.end; leads = path_once v a.path a.end a.leads; inside = w }))
      go (inr o) = back (cut_into (cut_into g X) P) Y Z (λ v. X v || W v) v xs t (y_low t y) p o y [] zv (or_from (X v) (W v) (z_x v zv) (z_w v zv)) tt tt sep

  twice : (v : ℕ) (xs : List ℕ) (t : ℕ) → IsDirectedPath (cut_into g X) v xs t → Y t ≡ true → IsDirectedPath (cut_into (cut_into g X) P) v xs t
  twice v [] t p y = p
  twice v (x ∷ xs) t p y = let q = twice x xs t p.1 y in
      (and_from (g.arrow v x && not (X x)) (not (P x)) p.0 (rw (false_from_ne_true (P x) (λ z. final x xs t q y z)) refl), q)

  -- no member of P is an ancestor of Y or W once the edges into X are cut
  no_ancestor : (v : ℕ) → P v ≡ true → IsAncestor (cut_into g X) (λ v. Y v || W v) v → ⊥
  no_ancestor v z a = either (Y a.end) (W a.end) ⊥ a.inside
      (λ y. final v a.path a.end (twice v a.path a.end a.leads y) y z)
      (λ w. p_no v z (record { vertex = a.vertex; path = a.path; end = a.end; leads = a.leads; inside = w }))

  Above : ℕ → Type 0
  Above v = IsAncestor (cut_into g X) (λ v. Y v || W v) v

  above_parent : (p v : ℕ) → (cut_into g X).arrow p v ≡ true → Above v → Above p
  unfolding Above
  above_parent p v a r = record {
    vertex = is_graph.tail_below p v (and_first (g.arrow p v) (not (X v)) a);
    path = v ∷ r.path;
    end = r.end;
    leads = (a, r.leads);
    inside = r.inside;
  }

  dropped : (A : ℕ → Bool) → ((v : ℕ) → A v ≡ true → (Y v || W v) ≡ true) → weight_of m (λ v. X v || P v) A s ≡ weight_of m X A s
  unfolding Above
  dropped A part =
      stable (weight_of m (λ v. X v || P v) A s) (weight_of m X A s)
      (λ differ. tested Above g.vertices (λ C. differ (further g m rank is_graph ranked follows s within X P C.test A
      (λ p v a e. C.complete p (is_graph.tail_below p v (and_first (g.arrow p v) (not (X v)) a)) (above_parent p v a (C.sound v e)))
      (λ v e. false_from_ne_true (P v) (λ z. no_ancestor v z (C.sound v e)))
      (λ v e. C.complete v (either (Y v) (W v) (v < g.vertices) (part v e) (y_low v) (w_low v))
      (record { vertex = either (Y v) (W v) (v < g.vertices) (part v e) (y_low v) (w_low v); path = []; end = v; leads = refl; inside = part v e })))))

  whole : (v : ℕ) → ((X v || P v) || (Z v && not (P v))) ≡ (X v || Z v)
  whole v = at (X v) (P v) (Z v) (p_in v)
    where
      at : (x p z : Bool) → (p ≡ true → z ≡ true) → ((x || p) || (z && not p)) ≡ (x || z)
      at true p z h = refl
      at false true z h = sym (h refl)
      at false false true h = refl
      at false false false h = refl

  -- rule 3
  pub rule_3 : weight_of m (λ v. X v || Z v) (λ v. Y v || W v) s * weight_of m X W s ≡ weight_of m X (λ v. Y v || W v) s * weight_of m (λ v. X v || Z v) W s
  rule_3 =
      ap (λ B. weight_of m B (λ v. Y v || W v) s * weight_of m X W s) (sym (fun_ext whole))
      ∙ cancel (weight_of m (λ v. (X v || P v) || (Z v && not (P v))) (λ v. Y v || W v) s) (weight_of m (λ v. X v || P v) (λ v. (Z v && not (P v)) || W v) s)
      (weight_of m (λ v. X v || P v) (λ v. Y v || ((Z v && not (P v)) || W v)) s) (weight_of m (λ v. (X v || P v) || (Z v && not (P v))) W s)
      (weight_of m X W s) (weight_of m X (λ v. Y v || W v) s)
      (positive_each g m rank ranked follows s within positive (λ v. X v || P v) (λ v. (Z v && not (P v)) || W v))
      (rule_2 g m rank is_graph ranked follows s within (λ v. X v || P v) (λ v. Z v && not (P v))
      rest_held Y W held_low y_low rest_low w_low y_given rest_given
      (λ v y. false_from_ne_true (Z v && not (P v)) (λ r. not_both (Z v) (rest_in v r) (y_z v y))) sep_two)
      (ap (λ r. weight_of m (λ v. X v || P v) (λ v. Y v || ((Z v && not (P v)) || W v)) s * r) (sym (dropped W (λ v w. or_right (Y v) (W v) w)))
      ∙ rule_1 g m rank is_graph ranked follows s within (λ v. X v || P v) Y (λ v. Z v && not (P v)) W held_low y_low rest_low w_low y_given rest_given sep_one
      ∙ ap (λ r. r * weight_of m (λ v. X v || P v) (λ v. (Z v && not (P v)) || W v) s) (dropped (λ v. Y v || W v) (λ v e. e)))
      ∙ ap (λ B. weight_of m X (λ v. Y v || W v) s * weight_of m B W s) (fun_ext whole)
    where
      rest_held : (v : ℕ) → (Z v && not (P v)) ≡ true → (X v || P v) ≡ false
      rest_held v r = or_from (X v) (P v) (z_x v (rest_in v r)) (not-true (P v) (and_second (Z v) (not (P v)) r))

      held_low : (v : ℕ) → (X v || P v) ≡ true → v < g.vertices
      held_low v e = either (X v) (P v) (v < g.vertices) e (x_low v) (λ p. z_low v (p_in v p))

      rest_low : (v : ℕ) → (Z v && not (P v)) ≡ true → v < g.vertices
      rest_low v r = z_low v (rest_in v r)

      y_given : (v : ℕ) → Y v ≡ true → ((X v || P v) || W v) ≡ false
      y_given v y = or_from (X v || P v) (W v) (or_from (X v) (P v) (y_x v y) (false_from_ne_true (P v) (λ p. not_both (Z v) (p_in v p) (y_z v y)))) (y_w v y)

      rest_given : (v : ℕ) → (Z v && not (P v)) ≡ true → ((X v || P v) || W v) ≡ false
      rest_given v r = or_from (X v || P v) (W v) (rest_held v r) (z_w v (rest_in v r))
