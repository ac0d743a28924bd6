-- A separating set thinned from its highest member down.
use Rattle.std.proofs.Common.{ℕ, ◌+◌, ◌≡◌, ◌≢◌, ◌<◌, ◌≤◌, Bool, true, false, not, ◌&&◌, ◌||◌, ◌==◌, ◌⊎◌, inl, inr, refl, sym, ap, ◌∙◌, subst, arith}
use Rattle.std.proofs.Common.{eqb, ltb, IsTrue}
use Rattle.std.proofs.lemmas.Bool.{cases_eq, cases_order, lt-ltb, le-ltb, ne_eqb, eq-eqb, and_parts, both_ways}
use mathlib.Core.Path.{fun_ext}
use Rattle.mixed_graph.specs.Vocabulary.{MixedGraph, Within}
use Rattle.m_separation.specs.Vocabulary.{HasOpenWalk, IsSeparated}
use Rattle.implications.specs.Separable.{only, IsSeparatingSet, rest_at, IsThinned}
use Rattle.implications.specs.Steps.{IsStep}

abbrev pub rest_of : (ℕ → Bool) → ℕ → ℕ → Bool
rest_of kept v u = kept u && not (u == v)

rest_other : (kept : ℕ → Bool) (v u : ℕ) → u ≢ v → rest_of kept v u ≡ kept u
rest_other kept v u d = go (kept u) (eqb u v) (ne_eqb u v d)
  where
    go : (k e : Bool) → e ≡ false → (k && not e) ≡ k
    go true false s = refl
    go false e s = refl
    go true true s = absurd (both_ways true s refl)

pub rest_itself : (kept : ℕ → Bool) (v : ℕ) → rest_of kept v v ≡ false
rest_itself kept v = go (kept v) (eqb v v) (eq-eqb v v refl)
  where
    go : (k e : Bool) → e ≡ true → (k && not e) ≡ false
    go true true s = refl
    go false e s = refl
    go true false s = absurd (both_ways false refl s)

-- the set without a member, as masks have it
pub rest_is : (kept after one : ℕ → Bool) (v : ℕ) → ((u : ℕ) → after u ≡ (kept u && not (one u))) → ((u : ℕ) → one u ≡ (u == v)) → after ≡ rest_of kept v
rest_is kept after one v e f = fun_ext (λ u. e u ∙ ap (λ t. kept u && not t) (f u))

module _ (g : MixedGraph) (a b v : ℕ) (kept after : ℕ → Bool) where
  pub step_dropped : after ≡ rest_of kept v → IsSeparated g (only a) (only b) after → IsStep g a b v kept after
  step_dropped e sep = record {
    others = λ u d. ap (λ f. f u) e ∙ rest_other kept v u d;
    inside = λ h. absurd (both_ways (after v) gone h);
    dropped = λ h n. subst (λ f. IsSeparated g (only a) (only b) f) e sep;
    needed = λ h. absurd (both_ways (after v) gone h);
  }
    where
      gone : after v ≡ false
      gone = ap (λ f. f v) e ∙ rest_itself kept v

pub step_kept : (g : MixedGraph) (a b v : ℕ) (kept rest : ℕ → Bool) → kept v ≡ true → rest ≡ rest_of kept v → HasOpenWalk g (only a) (only b) rest
    → IsStep g a b v kept kept
step_kept g a b v kept rest m e w = record {
  others = λ u d. refl;
  inside = λ h. h;
  dropped = λ h n. absurd (both_ways (kept v) n h);
  needed = λ h. subst (λ f. HasOpenWalk g (only a) (only b) f) e w;
}

-- the rest of a separating set still has its form
pub still_separating : (g : MixedGraph) (a b v : ℕ) (kept after : ℕ → Bool) → after ≡ rest_of kept v → IsSeparatingSet g a b kept
    → IsSeparated g (only a) (only b) after → IsSeparatingSet g a b after
still_separating g a b v kept after e s sep = record {
  within = λ u h. s.within u (inside u h);
  without_a = out a s.without_a;
  without_b = out b s.without_b;
  separates = sep;
}
  where
    inside : (u : ℕ) → after u ≡ true → kept u ≡ true
    inside u h = (and_parts (kept u) (not (u == v)) (sym (ap (λ f. f u) e) ∙ h)).0

    out : (c : ℕ) → kept c ≡ false → after c ≡ false
    out c o = ap (λ f. f c) e ∙ ap (λ t. t && not (c == v)) o

-- the members from i on were walked
pub record IsDownTo (g : MixedGraph) (a b : ℕ) (all : ℕ → Bool) (i : ℕ) (kept : ℕ → Bool) : Type 0 where
  pub inside : (v : ℕ) → IsTrue (kept v) → IsTrue (all v)
  pub below : (v : ℕ) → v < i → kept v ≡ all v
  pub dropped : (v : ℕ) → i ≤ v → IsTrue (all v) → kept v ≡ false → IsSeparated g (only a) (only b) (rest_at all kept v)
  pub needed : (v : ℕ) → i ≤ v → IsTrue (kept v) → HasOpenWalk g (only a) (only b) (rest_at all kept v)

module _ (g : MixedGraph) (a b : ℕ) (all : ℕ → Bool) where
  pub down_begins : (i : ℕ) → Within i all → IsDownTo g a b all i all
  down_begins i within = record {
    inside = λ v h. h;
    below = λ v l. refl;
    dropped = λ v l h n. absurd (both_ways (all v) n h);
    needed = λ v l h. absurd (let m = within v h in omega (arith, l, m));
  }

  pub down_ends : (kept : ℕ → Bool) → IsDownTo g a b all 0 kept → IsThinned g a b all kept
  down_ends kept d = record { inside = d.inside; dropped = λ v h n. d.dropped v (omega arith) h n; needed = λ v h. d.needed v (omega arith) h }

  module _ (i : ℕ) (kept after : ℕ → Bool) (d : IsDownTo g a b all (i + 1) kept) (s : IsStep g a b i kept after) where
    same_rest_at : (low high : Bool) (x y z : Bool) → x ≡ y → ((low && x) || (high && z)) ≡ ((low && y) || (high && z))
    same_rest_at low high x y z e = ap (λ t. (low && t) || (high && z)) e

    -- above i nothing changes
    rest_above : (v : ℕ) → i < v → rest_at all kept v ≡ rest_at all after v
    rest_above v l = fun_ext (λ u. go u (cases_eq u i))
      where
        at_i : (x y z : Bool) → (ltb v i) ≡ false → ((ltb v i && x) || z) ≡ ((ltb v i && y) || z)
        at_i x y z e = rw e refl

        go : (u : ℕ) → (u ≡ i) ⊎ (u ≡ i → ⊥) → rest_at all kept v u ≡ rest_at all after v u
        go u (inl e) = rw e (at_i (kept i) (after i) (ltb i v && all i) (le-ltb v i (omega arith)))
        go u (inr n) = same_rest_at (ltb v u) (ltb u v) (kept u) (after u) (all u) (sym (s.others u n))

    rest_here : rest_of kept i ≡ rest_at all after i
    rest_here = fun_ext (λ u. go u (cases_order u i))
      where
        lower : (u : ℕ) (k c t l r : Bool) → k ≡ t → l ≡ false → r ≡ true → k ≡ ((l && c) || (r && t))
        lower u k c t false true e f h = e
        lower u k c t true r e f h = absurd (both_ways true f refl)
        lower u k c t false false e f h = absurd (both_ways false refl h)

        higher : (u : ℕ) (k c t l r : Bool) → k ≡ c → l ≡ true → r ≡ false → k ≡ ((l && c) || (r && t))
        higher u k true t true false e f h = e
        higher u k false t true false e f h = e
        higher u k c t false r e f h = absurd (both_ways false refl f)
        higher u k c t true true e f h = absurd (both_ways true h refl)

        none : (c t l r : Bool) → l ≡ false → r ≡ false → false ≡ ((l && c) || (r && t))
        none c t false false f h = refl
        none c t true r f h = absurd (both_ways true f refl)
        none c t false true f h = absurd (both_ways true h refl)

        go : (u : ℕ) → (u ≡ i) ⊎ ((u < i) ⊎ (i < u)) → rest_of kept i u ≡ rest_at all after i u
        go u (inl e) = rw e (rest_itself kept i ∙ none (after i) (all i) (ltb i i) (ltb i i) (le-ltb i i (omega arith)) (le-ltb i i (omega arith)))
        go u (inr (inl l)) = rest_other kept i u (λ e. omega (arith, e, l))
            ∙ lower u (kept u) (after u) (all u) (ltb i u) (ltb u i) (d.below u (omega arith)) (le-ltb i u (omega arith)) (lt-ltb u i l)
        go u (inr (inr l)) = rest_other kept i u (λ e. omega (arith, e, l))
            ∙ higher u (kept u) (after u) (all u) (ltb i u) (ltb u i) (sym (s.others u (λ e. omega (arith, e, l)))) (lt-ltb i u l) (le-ltb u i (omega arith))

    pub down_step : IsDownTo g a b all i after
    down_step = record {
      inside = λ v h. inside v h (cases_eq v i);
      below = λ v l. s.others v (λ e. omega (arith, e, l)) ∙ d.below v (omega arith);
      dropped = λ v l h n. dropped v l h n (cases_eq v i);
      needed = λ v l h. needed v l h (cases_eq v i);
    }
      where
        inside : (v : ℕ) → after v ≡ true → (v ≡ i) ⊎ (v ≡ i → ⊥) → all v ≡ true
        inside v h (inl e) = d.inside v (rw e (s.inside (rw e at h)))
        inside v h (inr n) = d.inside v (sym (s.others v n) ∙ h)

        dropped : (v : ℕ) → i ≤ v → all v ≡ true → after v ≡ false → (v ≡ i) ⊎ (v ≡ i → ⊥) → IsSeparated g (only a) (only b) (rest_at all after v)
        dropped v l h n (inl e) = subst (λ x. IsSeparated g (only a) (only b) (rest_at all after x)) (sym e)
            (subst (λ f. IsSeparated g (only a) (only b) f) rest_here (s.dropped (d.below i (omega arith) ∙ (rw e at h)) (rw e at n)))
        dropped v l h n (inr ne) = subst (λ f. IsSeparated g (only a) (only b) f) (rest_above v (omega (arith, ne, l)))
            (d.dropped v (omega (arith, ne, l)) h (sym (s.others v ne) ∙ n))

        needed : (v : ℕ) → i ≤ v → after v ≡ true → (v ≡ i) ⊎ (v ≡ i → ⊥) → HasOpenWalk g (only a) (only b) (rest_at all after v)
        needed v l h (inl e) = subst (λ x. HasOpenWalk g (only a) (only b) (rest_at all after x)) (sym e)
            (subst (λ f. HasOpenWalk g (only a) (only b) f) rest_here (s.needed (rw e at h)))
        needed v l h (inr ne) = subst (λ f. HasOpenWalk g (only a) (only b) f) (rest_above v (omega (arith, ne, l)))
            (d.needed v (omega (arith, ne, l)) (sym (s.others v ne) ∙ h))
