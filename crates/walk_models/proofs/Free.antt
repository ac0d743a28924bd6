-- Where z is done in the walk, its first part is free.
use Rattle.std.proofs.Common.{ℕ, zero, suc, ◌≡◌, ◌≢◌, ◌<◌, ◌≤◌, ◌⊎◌, inl, inr, Bool, true, false, cond, eqb, ltb, not, ◌&&◌, ◌||◌, refl, sym, ap, ◌∙◌}
use Rattle.std.proofs.Common.{subst, IsTrue, arith, lt-ltb, le-ltb, ltb-true}
use Rattle.std.proofs.lemmas.Bool.{or_left, or_right, false_from_ne_true, cases_lt}
use Rattle.mixed_graph.specs.Vocabulary.{has, MixedGraph, IsMixedGraph}
use Rattle.mixed_graph.proofs.Masks.{has-zero}
use Rattle.m_separation.specs.declared.marks.Mark.{Mark}
use Rattle.m_separation.specs.declared.marks.Mark.TheVariants.{Out, Into, Both}
use Rattle.m_separation.specs.Vocabulary.{heads_first, heads_second}
use Rattle.finite_models.specs.Vocabulary.{FiniteModel, IsWorld, agree, weight_of, world_weight, differ}
use Rattle.finite_models.proofs.Bools.{not_both, same_truth}
use Rattle.finite_models.proofs.SumLaws.{over-congr_within}
use Rattle.finite_models.proofs.Solutions.{agree_gives, agree_from}
use Rattle.walk_models.specs.Visits.{Walk, IsWalkIn, IsPlain, head_before, is_collider}
use Rattle.walk_models.specs.WalkModels.{bit_of, coin, has_coin, sent_on, sent_back, new_bit, walk_model}
use Rattle.walk_models.specs.Laws.{DoneEndsAreFree, GivenEndsTell, IsWalkTo, IsFirstIn, IsBelowIn, event}
use Rattle.walk_models.proofs.Along.{last_bit, coins}
use Rattle.walk_models.proofs.Below.{tossed_below, below_bit, below_solves, below_blank, IsCutAt}
use Rattle.walk_models.proofs.Done.{neither}
use Rattle.walk_models.proofs.Lifted.{below_is_positive}
use Rattle.walk_models.proofs.Told.{agree_less, grows, one_at_least, below_from, sure}
use Rattle.walk_models.proofs.WalkFits.{walk_fits, walk_two}
use Rattle.walk_models.proofs.Worlds.{within, solved, only_one, bit_is, silent}
use Rattle.walk_models.proofs.Solved.{sizes, weighs, heads, heads_world, heads_beyond}

pub one : 1 ≤ 1
one = omega arith

module _ (g : MixedGraph) (ok : IsMixedGraph g) (p : Walk) (walk : IsWalkIn g p) (plain : IsPlain p) where
  module _ (done w y : ℕ → Bool) (c : ℕ) (some : 0 < c) (cut : IsCutAt g ok p walk plain 0 1 one done c)
      (undone : (i : ℕ) → i ≤ p.steps → i < c → done (p.at i) ≡ false)
      (later : (i : ℕ) → i ≤ p.steps → c ≤ i → done (p.at i) ≡ false
      → new_bit p (tossed_below g ok p walk plain 0 1 one done c) (heads p) i ≡ false)
      (strict : (i : ℕ) → i ≤ p.steps → i < c → w (p.at i) ≡ is_collider p i) (begins : IsTrue (y (p.at 0))) where
    abbrev coins_one : ℕ → ℕ
    coins_one = heads p

    abbrev at_one : ℕ → ℕ
    at_one = solved g ok p walk plain 0 1 one done coins_one

    at_heads : (v : ℕ) → v < g.vertices → at_one v ≡ tossed_below g ok p walk plain 0 1 one done c v
    at_heads = only_one g ok p walk plain 0 1 one done coins_one (tossed_below g ok p walk plain 0 1 one done c)
        (below_solves g ok p walk plain 0 1 one done c cut undone later)

    first_one : bit_of p at_one 0 ≡ true
    first_one = ap (λ x. has x 0) (at_heads (p.at 0) (walk.vertex 0 (omega arith))) ∙ below_bit g ok p walk plain 0 1 one done c 0 (omega arith)
        ∙ ap (λ q. q && true) (lt-ltb 0 c some)

    -- under done, y isn't sure given w
    pub free_of : weight_of (walk_model g.vertices p 0 1) done (λ v. y v || w v) (λ v. 0) < weight_of (walk_model g.vertices p 0 1) done w (λ v. 0)
    free_of = grows (walk_model g.vertices p 0 1) done (λ v. y v || w v) w (λ v. 0) (λ v i. or_right (y v) (w v) i) coins_one (heads_world g.vertices p 0 1)
        (heads_beyond p)
        (agree_from g.vertices w at_one (λ v. 0) (λ v lt i. at_heads v lt ∙ below_blank g ok p walk plain 0 1 one done c cut w strict v i))
        (false_from_ne_true (agree g.vertices (λ v. y v || w v) at_one (λ v. 0))
        (λ e. not_both (bit_of p at_one 0) first_one (ap (λ x. has x 0)
        (agree_gives g.vertices (λ v. y v || w v) at_one (λ v. 0) e (p.at 0) (walk.vertex 0 (omega arith)) (or_left (y (p.at 0)) (w (p.at 0)) begins))
        ∙ has-zero 0)))
        (weighs g.vertices p 0 1 one coins_one)

module _ (g : MixedGraph) (ok : IsMixedGraph g) (p : Walk) (b w y z : ℕ → Bool) (h : IsWalkTo g p b w y z) (first : IsFirstIn p z) (k : ℕ)
    (len : p.steps ≡ suc k) (mark : p.mark k ≢ Into) where
  abbrev done_z : ℕ → Bool
  done_z v = b v || z v

  free : IsBelowIn (walk_model g.vertices p 0 1) (λ v. 0) (event done_z (λ v. y v || w v)) (event b (λ v. z v || w v)) (event b
      (λ v. y v || (z v || w v))) (event done_z w)
  free = record {
    within = within g ok p h.walk h.plain 0 1 one b;
    below = below_from (weight_of (walk_model g.vertices p 0 1) done_z (λ v. y v || w v) (λ v. 0))
        (weight_of (walk_model g.vertices p 0 1) b (λ v. z v || w v) (λ v. 0))
        (weight_of (walk_model g.vertices p 0 1) b (λ v. y v || (z v || w v)) (λ v. 0)) (weight_of (walk_model g.vertices p 0 1) done_z w (λ v. 0))
        (free_of g ok p h.walk h.plain done_z w y p.steps (omega (arith, len))
        (λ i e. subst (λ q. p.mark q ≢ Into) (let s : k ≡ i = omega (arith, len, e) in s) mark)
        (λ i le lt. neither (b (p.at i)) (z (p.at i)) (h.outside i le) (first i lt))
        (λ i le ge out. absurd (not_both (done_z (p.at i)) (subst (λ q. done_z (p.at q) ≡ true) (let s : p.steps ≡ i = omega (arith, le, ge) in s)
        (or_right (b (p.at p.steps)) (z (p.at p.steps)) h.ends)) out))
        (λ i le lt. h.strict i le) h.begins)
        (sure g ok p b w y z h)
        (one_at_least (walk_model g.vertices p 0 1) b (λ v. y v || (z v || w v)) (λ v. 0) (λ j lt. sizes g.vertices p 0 1 j)
        (agree_from g.vertices (λ v. y v || (z v || w v)) (solved g ok p h.walk h.plain 0 1 one b (λ j. 0)) (λ v. 0)
        (λ v lt i. silent g ok p h.walk h.plain 0 1 one b (λ j. 0) (λ j le. refl) v lt)) (weighs g.vertices p 0 1 one (λ j. 0)));
  }

pub done_ends_are_free : DoneEndsAreFree
done_ends_are_free = λ g ok p b w y z k h first len mark.
    below_is_positive g ok (walk_model g.vertices p 0 1) (walk_fits g ok p h.walk 0 1 (omega arith)) (walk_two g.vertices p 0 1) (λ v. 0)
    (event (λ v. b v || z v) (λ v. y v || w v)) (event b (λ v. z v || w v)) (event b (λ v. y v || (z v || w v))) (event (λ v. b v || z v) w)
    (free g ok p b w y z h first k len mark)

-- ---- a walk that goes on from z by arrows forwards to w
module _ (g : MixedGraph) (ok : IsMixedGraph g) (p : Walk) (b w y z : ℕ → Bool) (k : ℕ) (walk : IsWalkIn g p) (plain : IsPlain p) (inside : suc k < p.steps)
    (mark : p.mark k ≢ Into)
    (forwards : (i : ℕ) → k < i → i < p.steps → p.mark i ≡ Out) (strict : (i : ℕ) → i ≤ suc k → w (p.at i) ≡ is_collider p i) (outside : (i : ℕ) → i ≤ p.steps
    → b (p.at i) ≡ false)
    (begins : IsTrue (y (p.at 0))) (ends : IsTrue (w (p.at p.steps))) (middle : IsTrue (z (p.at (suc k)))) (first : (i : ℕ) → i ≤ k → z (p.at i) ≡ false) where
  abbrev gm : FiniteModel
  gm = walk_model g.vertices p 0 1

  abbrev at : (ℕ → ℕ) → ℕ → ℕ
  at u = solved g ok p walk plain 0 1 one b u

  abbrev with_z : ℕ → Bool
  with_z v = b v || z v

  -- no visit behind z is a collider
  none_behind : (i : ℕ) → k < i → i ≤ p.steps → is_collider p i ≡ false
  none_behind i gt le = go (head_before p i) (ltb i p.steps) refl (p.mark i) refl
    where
      go : (h q : Bool) → ltb i p.steps ≡ q → (t : Mark) → p.mark i ≡ t → (h && (q && heads_first t)) ≡ false
      go false q l t e = refl
      go true false l t e = refl
      go true true l Out e = refl
      go true true l Into e = let f = forwards i gt (ltb-true i p.steps l) in absurd (cc)
      go true true l Both e = let f = forwards i gt (ltb-true i p.steps l) in absurd (cc)

  module _ (u : ℕ → ℕ) (world : IsWorld gm u) (e : agree g.vertices w (at u) (λ v. 0) ≡ true) where
    new_at : (i : ℕ) → i ≤ p.steps → bit_of p (at u) i ≡ new_bit p (at u) u i
    new_at i le = bit_is g ok p walk plain 0 1 one b u i le (outside i le)

    zero_in : (i : ℕ) → i ≤ p.steps → w (p.at i) ≡ true → bit_of p (at u) i ≡ false
    zero_in i le f = ap (λ x. has x i) (agree_gives g.vertices w (at u) (λ v. 0) e (p.at i) (walk.vertex i le) f) ∙ has-zero i

    blank : (i : ℕ) → i ≤ p.steps → is_collider p i ≡ true → bit_of p (at u) i ≡ false
    blank i le f = elim (cases_lt k i) [
      | inl gt ↦ absurd (not_both (is_collider p i) f (none_behind i gt le))
      | inr ge ↦ zero_in i le (strict i (omega (arith, ge)) ∙ f)
    ]

    start_zero : bit_of p (at u) 0 ≡ false
    start_zero = sym (last_bit p (at u) u plain (λ i lt. new_at i (omega (arith, lt))) (λ i lt. blank i (omega (arith, lt)))
        (new_at p.steps (omega arith)) p.steps refl) ∙ zero_in p.steps (omega arith) ends

    low : (x : ℕ) → x < 2 → eqb x 1 ≡ false → x ≡ 0
    low zero lt q = refl
    low (suc zero) lt q = absurd (grind (arith, q))
    low (suc (suc x)) lt q = absurd (omega (arith, lt))

    all_none : (v : ℕ) → v < g.vertices → at u v ≡ 0
    all_none = silent g ok p walk plain 0 1 one b u (λ j le. go j le (has_coin p j) refl (world j (omega (arith, le))))
      where
        go : (j : ℕ) → j ≤ p.steps → (c : Bool) → has_coin p j ≡ c → u j < cond c 2 1 → u j ≡ 0
        go j le true f lt =
            low (u j) lt (coins p (at u) u plain (λ i il. new_at i (omega (arith, il))) (λ i il. blank i (omega (arith, il)))
            (new_at p.steps (omega arith)) j le f ∙ start_zero)
        go j le false f lt = omega (arith, lt)

  shown : weight_of gm b w (λ v. 0) ≡ weight_of gm b (λ v. y v || w v) (λ v. 0)
  shown = over-congr_within (λ j. true) gm.values gm.causes
      (λ u. cond (agree g.vertices w (at u) (λ v. 0)) (world_weight gm u) 0)
      (λ u. cond (agree g.vertices (λ v. y v || w v) (at u) (λ v. 0)) (world_weight gm u) 0) (λ j. 0)
      (λ u world out. ap (λ c. cond c (world_weight gm u) 0)
      (same_truth (agree g.vertices w (at u) (λ v. 0)) (agree g.vertices (λ v. y v || w v) (at u) (λ v. 0))
      (λ e. agree_from g.vertices (λ v. y v || w v) (at u) (λ v. 0) (λ v lt i. all_none u (λ j lt. world j lt refl) e v lt))
      (λ e. agree_less g.vertices w (λ v. y v || w v) (at u) (λ v. 0) (λ v i. or_right (y v) (w v) i) e)))

  abbrev below : ℕ → ℕ
  below = tossed_below g ok p walk plain 0 1 one with_z (suc k)

  abbrev coins_z : ℕ → ℕ
  coins_z = heads p

  -- behind z all is 0
  behind : (i : ℕ) → i ≤ p.steps → suc k ≤ i → with_z (p.at i) ≡ false → new_bit p below coins_z i ≡ false
  behind zero le ge out = absurd (omega (arith, ge))
  behind (suc i) le ge out = go (cases_lt k i)
    where
      dark : (q : Bool) (t : Mark) (a c e d f : Bool) → f ≡ false → a ≡ false → (q ≡ true → t ≡ Out)
          → differ (sent_on Out a c) (differ (q && sent_back t e d) ((not (q && heads_first t) && (not (heads_second Out) || f)) && d)) ≡ false
      dark true Out false c e d false z n h = refl
      dark true Into a c e d f z n h = let x = h refl in absurd (cc)
      dark true Both a c e d f z n h = let x = h refl in absurd (cc)
      dark false t false c e d false z n h = refl
      dark q t true c e d f z n h = absurd (grind (arith, n))
      dark q t a c e d true z n h = absurd (grind (arith, z))

      go : (k < i) ⊎ (i ≤ k) → new_bit p below coins_z (suc i) ≡ false
      go (inr small) =
          absurd (not_both (with_z (p.at (suc i))) (subst (λ q. with_z (p.at q) ≡ true) (let s : suc k ≡ suc i = omega (arith, small, ge) in s)
          (or_right (b (p.at (suc k))) (z (p.at (suc k))) middle)) out)
      go (inl gt) =
          ap (λ t. differ (sent_on t (bit_of p below i) (coin coins_z i))
          (differ (ltb (suc i) p.steps && sent_back (p.mark (suc i)) (bit_of p below (suc (suc i))) (coin coins_z (suc i)))
          ((not (ltb (suc i) p.steps && heads_first (p.mark (suc i))) && (not (heads_second t) || p.free (suc i))) && coin coins_z (suc i))))
          (forwards i gt (omega (arith, le)))
          ∙ dark (ltb (suc i) p.steps) (p.mark (suc i)) (bit_of p below i) (coin coins_z i) (bit_of p below (suc (suc i))) (coin coins_z (suc i))
          (p.free (suc i)) (plain (suc i))
          (below_bit g ok p walk plain 0 1 one with_z (suc k) i (omega (arith, le))
          ∙ ap (λ q. q && not (is_collider p i)) (le-ltb i (suc k) (omega (arith, gt))))
          (λ l. forwards (suc i) (omega (arith, gt)) (ltb-true (suc i) p.steps l))

  given : IsBelowIn gm (λ v. 0) (event with_z (λ v. y v || w v)) (event b w) (event b (λ v. y v || w v)) (event with_z w)
  given = record {
    within = within g ok p walk plain 0 1 one b;
    below = below_from (weight_of gm with_z (λ v. y v || w v) (λ v. 0)) (weight_of gm b w (λ v. 0)) (weight_of gm b (λ v. y v || w v) (λ v. 0))
        (weight_of gm with_z w (λ v. 0))
        (free_of g ok p walk plain with_z w y (suc k) (omega arith)
        (λ i e. subst (λ q. p.mark q ≢ Into) (let s : k ≡ i = omega (arith, e) in s) mark)
        (λ i le lt. neither (b (p.at i)) (z (p.at i)) (outside i le) (first i (omega (arith, lt))))
        behind
        (λ i le lt. strict i (omega (arith, lt))) begins)
        shown
        (one_at_least gm b (λ v. y v || w v) (λ v. 0) (λ j lt. sizes g.vertices p 0 1 j)
        (agree_from g.vertices (λ v. y v || w v) (at (λ j. 0)) (λ v. 0) (λ v lt i. silent g ok p walk plain 0 1 one b (λ j. 0) (λ j le. refl) v lt))
        (weighs g.vertices p 0 1 one (λ j. 0)));
  }

pub given_ends_tell : GivenEndsTell
given_ends_tell = λ g ok p b w y z k walk plain inside mark forwards strict outside begins ends middle first.
    below_is_positive g ok (walk_model g.vertices p 0 1) (walk_fits g ok p walk 0 1 (omega arith)) (walk_two g.vertices p 0 1) (λ v. 0)
    (event (λ v. b v || z v) (λ v. y v || w v)) (event b w) (event b (λ v. y v || w v)) (event (λ v. b v || z v) w)
    (given g ok p b w y z k walk plain inside mark forwards strict outside begins ends middle first)
