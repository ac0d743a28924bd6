-- What is linked to a set has a mask, whether or not anybody computes it.
use Rattle.std.proofs.Common.{ℕ, zero, suc, ◌+◌, ◌≡◌, ◌≢◌, ◌<◌, ◌≤◌, ◌⊎◌, Bool, true, false, not, ◌&&◌, ◌||◌, ◌==◌, List, [], ◌∷◌, length, IsTrue}
use Rattle.std.proofs.Common.{inl, inr, refl, sym, ◌∙◌, subst, arith}
use Rattle.std.proofs.lemmas.Bool.{eqb-true, eq-eqb, ne_eqb, and_parts}
use Rattle.mixed_graph.specs.Vocabulary.{has, members_below, MixedGraph, IsMixedGraph, union, one, common}
use Rattle.mixed_graph.proofs.Members.{length-members-lt}
use Rattle.finite_models.specs.Vocabulary.{mask_of}
use Rattle.finite_models.proofs.Factors.{any_below, any_below_from, any_below_gives}
use Rattle.counter_models.proofs.Terms.{has-set}
use Rattle.hedge.specs.Vocabulary.{IsLinked, at, by}
use Rattle.prob_expr.specs.Tree.{Tree, tree}
use Rattle.prob_expr.specs.Vocabulary.{Trees, no_trees}
use Rattle.do_derivation.specs.Vocabulary.{as_one}
use Rattle.identification_theory.specs.Vocabulary.{IsPillow, IsParent, IsNear, Source, conditional, AreFactors, IsBody}
use Rattle.identification_theory.proofs.Bools.{both_true, or_l, or_r, or_e, not_e, not_i, clash}
use Rattle.identify.proofs.Shrinking.{members_lt}

-- a test that holds of exactly what is linked to s inside a
pub record LinkTest (g : MixedGraph) (a s : ℕ → Bool) : Type 0 where
  pub test : ℕ → Bool
  pub sound : (v : ℕ) → test v ≡ true → IsLinked g a s v
  pub complete : (v : ℕ) → IsLinked g a s v → test v ≡ true

module _ (g : MixedGraph) (valid : IsMixedGraph g) (few : g.vertices ≤ 64) where
  -- w lies in a, outside t, and is joined to t
  abbrev frontier : (a t : ℕ → Bool) → ℕ → Bool
  frontier a t w = a w && (not (t w) && any_below g.vertices (λ u. g.both w u && t u))

  -- t is all that is linked to s, or some vertex more is
  grown : (a s t : ℕ → Bool) → ((v : ℕ) → t v ≡ true → IsLinked g a s v) → ((v : ℕ) → s v ≡ true → t v ≡ true)
      → ((w : ℕ) → w < g.vertices → t w ≡ false → IsLinked g a s w → LinkTest g a s) → LinkTest g a s
  grown a s t sound start more = go (any_below g.vertices (frontier a t)) refl
    where
      go : (b : Bool) → any_below g.vertices (frontier a t) ≡ b → LinkTest g a s
      go true some =
          let w = any_below_gives g.vertices (frontier a t) some in
          let p = and_parts (a w.0) _ w.2 in
          let q = and_parts (not (t w.0)) _ p.1 in
          let u = any_below_gives g.vertices (λ u. g.both w.0 u && t u) q.1 in
          let r = and_parts (g.both w.0 u.0) (t u.0) u.2 in
          more w.0 w.1 (not_e (t w.0) q.0) (by p.0 r.0 (sound u.0 r.1))
      go false none = record { test = t; sound = sound; complete = complete }
        where
          inside : (u w : ℕ) → a u ≡ true → g.both u w ≡ true → t w ≡ true → (b : Bool) → t u ≡ b → b ≡ true
          inside u w i b k true e = refl
          inside u w i b k false e = absurd (clash (any_below g.vertices (frontier a t))
              (any_below_from g.vertices (frontier a t) u (valid.both_below u w b) (both_true _ _ i (both_true _ _ (not_i (t u) e)
              (any_below_from g.vertices (λ x. g.both u x && t x) w (valid.both_below w u (valid.symmetric u w b)) (both_true _ _ b k))))) none)

          complete : (v : ℕ) → IsLinked g a s v → t v ≡ true
          complete v (at i) = start v i
          complete u (by {v = w} i b r) = inside u w i b (complete w r) (t u) refl

  -- one vertex more
  abbrev with_one : (t : ℕ → Bool) → ℕ → ℕ → Bool
  with_one t w u = t u || (u == w)

  with_one_sound : (a s t : ℕ → Bool) (w : ℕ) → ((v : ℕ) → t v ≡ true → IsLinked g a s v) → IsLinked g a s w → (v : ℕ) → with_one t w v ≡ true
      → IsLinked g a s v
  with_one_sound a s t w sound linked v e = elim (or_e (t v) (v == w) e) [
    | inl i ↦ sound v i
    | inr i ↦ subst (IsLinked g a s) (sym (eqb-true v w i)) linked
  ]

  closed : (a s : ℕ → Bool) (k : ℕ) (t : ℕ → Bool) → 64 ≤ length (members_below t 64) + k → ((v : ℕ) → t v ≡ true → IsLinked g a s v)
      → ((v : ℕ) → s v ≡ true → t v ≡ true) → LinkTest g a s
  closed a s zero t enough sound start = grown a s t sound start (λ w lt out linked. absurd (let l = length-members-lt t 64 w (omega (arith, lt, few)) out in
      omega (arith, l, enough)))
  closed a s (suc k) t enough sound start = grown a s t sound start (λ w lt out linked.
      closed a s k (with_one t w) (let l = members_lt t (with_one t w) 64 w (omega (arith, lt, few)) (λ u i. or_l (t u) (u == w) i) out
      (or_r (t w) (w == w) (eq-eqb w w refl)) in omega (arith, l, enough)) (with_one_sound a s t w sound linked) (λ v i. or_l (t v) (v == w) (start v i)))

  pub link_test : (a s : ℕ → Bool) → LinkTest g a s
  link_test a s = closed a s 64 s (omega arith) (λ v i. at i) (λ v i. i)

  -- ---- the pillow
  module _ (s v : ℕ) where
    near : LinkTest g (has s) (λ w. w == v)
    near = link_test (has s) (λ w. w == v)

    abbrev above : ℕ → Bool
    above u = has s u && any_below g.vertices (λ c. g.arrow u c && near.test c)

    abbrev in_pillow : ℕ → Bool
    in_pillow u = not (u == v) && (near.test u || above u)

    near_low : (u : ℕ) → u ≢ v → IsNear g s v u → u < g.vertices
    near_low u other (at e) = absurd (other (eqb-true u v e))
    near_low u other (by {v = w} i b r) = valid.both_below u w b

    parent : (u : ℕ) → above u ≡ true → IsTrue (has s u) × IsParent g (IsNear g s v) u
    parent u e =
        let p = and_parts (has s u) _ e in
        let c = any_below_gives g.vertices (λ c. g.arrow u c && near.test c) p.1 in
        let q = and_parts (g.arrow u c.0) (near.test c.0) c.2 in
        (p.0, record { child = c.0; arrow = q.0; within = near.sound c.0 q.1 })

    other : (u : ℕ) → not (u == v) ≡ true → u ≢ v
    other u e same = clash (u == v) (eq-eqb u v same) (not_e (u == v) e)

    pillow_low : (u : ℕ) → in_pillow u ≡ true → u < 64
    pillow_low u e = let p = and_parts (not (u == v)) _ e in elim (or_e (near.test u) (above u) p.1) [
      | inl i ↦ let l = near_low u (other u p.0) (near.sound u i) in omega (arith, l, few)
      | inr i ↦ let q = (parent u i).1 in let l = valid.tail_below u q.child q.arrow in omega (arith, l, few)
    ]

    held : (u : ℕ) → has (mask_of in_pillow 64) u ≡ in_pillow u
    held = has-set in_pillow pillow_low

    sound : (u : ℕ) → IsTrue (has (mask_of in_pillow 64) u) → (u ≢ v) × (IsNear g s v u ⊎ (IsTrue (has s u) × IsParent g (IsNear g s v) u))
    sound u i = let p = and_parts (not (u == v)) _ (sym (held u) ∙ i) in (
      other u p.0,
      elim (or_e (near.test u) (above u) p.1) [
        | inl k ↦ inl (near.sound u k)
        | inr k ↦ inr (parent u k)
      ],
    )

    is_above : (u : ℕ) → IsTrue (has s u) → IsParent g (IsNear g s v) u → above u ≡ true
    is_above u i q = both_true _ _ i (any_below_from g.vertices (λ c. g.arrow u c && near.test c) q.child (valid.head_below u q.child q.arrow)
        (both_true _ _ q.arrow (near.complete q.child q.within)))

    complete : (u : ℕ) → (u ≢ v) × (IsNear g s v u ⊎ (IsTrue (has s u) × IsParent g (IsNear g s v) u)) → IsTrue (has (mask_of in_pillow 64) u)
    complete u (ne, inl k) = held u ∙ both_true _ _ (not_i (u == v) (ne_eqb u v ne)) (or_l (near.test u) (above u) (near.complete u k))
    complete u (ne, inr k) = held u ∙ both_true _ _ (not_i (u == v) (ne_eqb u v ne)) (or_r (near.test u) (above u) (is_above u k.0 k.1))

    pub pillow_of : (m : ℕ) × IsPillow g s v m
    pillow_of = (mask_of in_pillow 64, record { sound = sound; complete = complete })

  -- ---- the factors of the members of a district
  module _ (from : Source) (a t : ℕ) where
    pub factors_of : (p : ℕ) (o : List ℕ) → (fs : Trees) × AreFactors g from a t p o fs
    factors_of p [] = (no_trees, AreFactors.none)
    factors_of p (v ∷ o) = go (has t v) refl (factors_of (union p (one v)) o)
      where
        go : (b : Bool) → has t v ≡ b → (fs : Trees) × AreFactors g from a t (union p (one v)) o fs → (fs : Trees) × AreFactors g from a t p (v ∷ o) fs
        go true i r = let m = pillow_of (union (common a p) (one v)) v in (tree (conditional from a v m.0) r.0, AreFactors.take i m.1 r.1)
        go false out r = (r.0, AreFactors.skip out r.1)

    pub body_of : (order : List ℕ) → (e : Tree) × IsBody g order from a t e
    body_of order = let r = factors_of 0 order in (as_one r.0, record { factors = r.0; are = r.1; is = refl })
