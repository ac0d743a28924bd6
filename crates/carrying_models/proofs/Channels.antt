-- A bit that is carried along arrows.
use Rattle.std.proofs.Common.{ℕ, zero, suc, ◌≡◌, ◌<◌, Bool, true, false, not, inl, inr, sym, ap, subst, ◌∙◌, ◌&&◌, ◌||◌, List, [], ◌∷◌, eqb, eqb-true, arith}
use Rattle.std.proofs.lemmas.Bool.{and_parts, and_from, or_left, or_right, or_cases}
use Rattle.mixed_graph.specs.Vocabulary.{MixedGraph, IsMixedGraph, IsDirectedPath}
use Rattle.mixed_graph.proofs.Paths.{end_below}
use Rattle.do_rules.specs.Vocabulary.{cut_out}
use Rattle.finite_models.proofs.Bools.{same_truth}
use Rattle.finite_models.proofs.Factors.{any_below, any_below_from, any_below_gives}
use Rattle.finite_models.proofs.Solutions.{IsRanked}
use Rattle.finite_models.proofs.SumLaws.{eqb-refl}
use Rattle.counter_models.proofs.Truths.{not_true}

-- a parent of q outside `shut` has the bit
abbrev pub is_handed : MixedGraph → (shut bits : ℕ → Bool) → ℕ → Bool
is_handed g shut bits q = any_below g.vertices (λ r. (g.arrow r q && not (shut r)) && bits r)

-- outside `shut` a vertex has the bit where it begins there, or where it is handed on to it
abbrev pub IsCarried : MixedGraph → (shut begins bits : ℕ → Bool) → Type 0
IsCarried g shut begins bits = (q : ℕ) → q < g.vertices → shut q ≡ false → bits q ≡ (begins q || is_handed g shut bits q)

-- where a path comes to a vertex outside `shut` by arrows out of such vertices alone, it begins at one
pub begins_free : (g : MixedGraph) (shut : ℕ → Bool) (q : ℕ) (path : List ℕ) (e : ℕ) → IsDirectedPath (cut_out g shut) q path e → shut e ≡ false
    → shut q ≡ false
begins_free g shut q [] e p free = ap shut p ∙ free
begins_free g shut q (c ∷ cs) e p free = not_true (shut q) (and_parts (g.arrow q c) (not (shut q)) p.0).1

module _ (g : MixedGraph) (ok : IsMixedGraph g) (shut begins bits : ℕ → Bool) (carried : IsCarried g shut begins bits) where
  -- what has the bit hands it on
  handed : (q c : ℕ) → (cut_out g shut).arrow q c ≡ true → shut c ≡ false → bits q ≡ true → bits c ≡ true
  handed q c a free h =
      carried c (ok.head_below q c (and_parts (g.arrow q c) (not (shut q)) a).0) free
      ∙ or_right (begins c) (is_handed g shut bits c)
      (any_below_from g.vertices (λ r. (g.arrow r c && not (shut r)) && bits r) q
      (ok.tail_below q c (and_parts (g.arrow q c) (not (shut q)) a).0) (and_from (g.arrow q c && not (shut q)) (bits q) a h))

  -- the end of a path has it where the beginning does
  pub along : (q : ℕ) (path : List ℕ) (e : ℕ) → IsDirectedPath (cut_out g shut) q path e → shut e ≡ false → bits q ≡ true → bits e ≡ true
  along q [] e p free h = subst (λ v. bits v ≡ true) p h
  along q (c ∷ cs) e p free h = along c cs e p.1 free (handed q c p.0 (begins_free g shut c cs e p.1 free) h)

  -- and where the bit begins at the beginning
  pub from_start : (q : ℕ) (path : List ℕ) (e : ℕ) → q < g.vertices → IsDirectedPath (cut_out g shut) q path e → shut e ≡ false → begins q ≡ true
      → bits e ≡ true
  from_start q path e il p free h =
      along q path e p free (carried q il (begins_free g shut q path e p free) ∙ or_left (begins q) (is_handed g shut bits q) h)

  module _ (rank : ℕ → ℕ) (ranked : IsRanked g rank) (o : Bool) (only : (q : ℕ) → q < g.vertices → begins q ≡ true → o ≡ true) where
    -- what follows wherever the bit begins follows wherever it is
    began : (n q : ℕ) → q < g.vertices → rank q < n → shut q ≡ false → bits q ≡ true → o ≡ true
    began zero q il lt free h = absurd (omega arith)
    began (suc n) q il lt free h = elim (or_cases (begins q) (is_handed g shut bits q) (sym (carried q il free) ∙ h)) [
      | inl a ↦ only q il a
      | inr b ↦
          let r = any_below_gives g.vertices (λ r. (g.arrow r q && not (shut r)) && bits r) b in
          let p = and_parts (g.arrow r.0 q && not (shut r.0)) (bits r.0) r.2 in
          let a = and_parts (g.arrow r.0 q) (not (shut r.0)) p.0 in
          let l = ranked.rises r.0 q a.0 in
          began n r.0 r.1 (omega (arith, l, lt)) (not_true (shut r.0) a.1) p.1
    ]

    pub begins_there : (q : ℕ) → q < g.vertices → shut q ≡ false → bits q ≡ true → o ≡ true
    begins_there q il free h = began (suc (rank q)) q il (omega arith) free h

    -- where the bit begins only if o holds, and does so then at q, the end of a path from q has the bit o
    pub carries : (q : ℕ) (path : List ℕ) (e : ℕ) → q < g.vertices → IsDirectedPath (cut_out g shut) q path e → shut e ≡ false
        → (o ≡ true → begins q ≡ true) → bits e ≡ o
    carries q path e il p free h =
        same_truth (bits e) o
        (begins_there e (end_below (cut_out g shut) (λ u v a. ok.head_below u v (and_parts (g.arrow u v) (not (shut u)) a).0) q path e il p) free)
        (λ t. from_start q path e il p free (h t))

-- a bit that begins at i alone, as o i, begins only where o i holds
pub only_there : (n i : ℕ) (o : ℕ → Bool) (q : ℕ) → q < n → (eqb q i && o q) ≡ true → o i ≡ true
only_there n i o q lt e = let b = and_parts (eqb q i) (o q) e in ap o (sym (eqb-true q i b.0)) ∙ b.1

-- and is o i wherever a path leads
pub one_source : (g : MixedGraph) → IsMixedGraph g → (rank : ℕ → ℕ) → IsRanked g rank → (shut o bits : ℕ → Bool) (i : ℕ)
    → IsCarried g shut (λ q. eqb q i && o q) bits → (path : List ℕ) (e : ℕ) → i < g.vertices → IsDirectedPath (cut_out g shut) i path e → shut e ≡ false
    → bits e ≡ o i
one_source g ok rank ranked shut o bits i carried path e il p free =
    carries g ok shut (λ q. eqb q i && o q) bits carried rank ranked (o i) (only_there g.vertices i o) i path e il p free (λ h. rw (eqb-refl i) h)
