-- A district apart from an experiment z: its ancestors in the graph without z, and the stage at which its factor begins.
use Rattle.std.proofs.Common.{ℕ, ◌≡◌, ◌<◌, Bool, true, false, not, eqb, refl, ◌∙◌, ◌&&◌, ◌⊎◌, inl, inr, List, [], ◌∷◌, eqb-true, eq-eqb}
use Rattle.do_derivation.specs.Vocabulary.{are_sets}
use Rattle.identification_theory.proofs.Bools.{and_l, and_r, both_true, clash, not_e, not_i, or_e, or_l, or_r}
use Rattle.identification_theory.proofs.Factor.{IsStage}
use Rattle.identification_theory.proofs.Sets.{all-is, all-below, apart, has-minus}
use Rattle.identification_theory.specs.Vocabulary.{AreAncestorsIn, Source}
use Rattle.mixed_graph.proofs.Masks.{has-zero}
use Rattle.mixed_graph.specs.Vocabulary.{has, IsAncestor, IsDirectedPath, IsMixedGraph, MixedGraph, induced, all, is_apart, is_below, is_empty, minus}
use Rattle.mixed_graph.proofs.MaskLaws.{apart_has, below_has}
use Rattle.prob_expr.specs.Vocabulary.{is_listed}
use Rattle.surrogates.specs.Surrogates.{without, ComesFirst}

-- what comes first is apart, and one of the list
pub record Chosen (c z : ℕ) (l : List ℕ) : Type 0 where
  pub off : is_apart z c ≡ true
  pub listed : is_listed z l ≡ true

pub chosen : (g : MixedGraph) (c z : ℕ) (l : List ℕ) → ComesFirst g c z l → Chosen c z l
chosen g c z _ (ComesFirst.here {zs = zs} a) = record { off = a; listed = or_l (eqb z z) (is_listed z zs) (eq-eqb z z refl) }
chosen g c z _ (ComesFirst.meets {w = w} {zs = zs} a r) = let q = chosen g c z zs r in record { off = q.off; listed = or_r (eqb z w) (is_listed z zs) q.listed }
chosen g c z _ (ComesFirst.stops {w = w} {zs = zs} a s r) = let q = chosen g c z zs r in
    record { off = q.off; listed = or_r (eqb z w) (is_listed z zs) q.listed }

-- the empty set is apart from each set
pub zero_apart : (c : ℕ) → is_apart 0 c ≡ true
zero_apart c = apart 0 c (λ u i j. clash (has 0 u) i (has-zero u))

-- listed experiments lie below n
member_low : (n z u : ℕ) → has z u ≡ true → (l : List ℕ) → are_sets n l ≡ true → is_listed z l ≡ true → u < n
member_low n z u i [] h e = absurd (clash false e refl)
member_low n z u i (w ∷ l) h e = go (or_e (eqb z w) (is_listed z l) e) (λ q. member_low n z u i l (and_r (is_below n w && not (is_empty w)) (are_sets n l) h) q)
  where
    go : (eqb z w ≡ true) ⊎ (is_listed z l ≡ true) → (is_listed z l ≡ true → u < n) → u < n
    go (inl q) f = below_has n w u (and_l (is_below n w) (not (is_empty w)) (and_l (is_below n w && not (is_empty w)) (are_sets n l) h))
        (rw (eqb-true z w q) at i)
    go (inr q) f = f q

pub listed_low : (n : ℕ) (zs : List ℕ) → are_sets n zs ≡ true → (z : ℕ) → is_listed z (0 ∷ zs) ≡ true → (u : ℕ) → has z u ≡ true → u < n
listed_low n zs h z e u i = pick (or_e (eqb z 0) (is_listed z zs) e)
  where
    pick : (eqb z 0 ≡ true) ⊎ (is_listed z zs ≡ true) → u < n
    pick (inl q) = absurd (clash (has 0 u) (rw (eqb-true z 0 q) at i) (has-zero u))
    pick (inr q) = member_low n z u i zs h q

module _ (g : MixedGraph) (ok : IsMixedGraph g) (z c : ℕ) (off : is_apart z c ≡ true) (c_low : (u : ℕ) → has c u ≡ true → u < g.vertices) where
  off_z : (u : ℕ) → has c u ≡ true → has z u ≡ false
  off_z u e = go (has z u) refl
    where
      go : (b : Bool) → has z u ≡ b → has z u ≡ false
      go true q = absurd (clash (has c u) e (apart_has z c u off q))
      go false q = q

  -- c lies among the vertices outside the experiment z
  pub c_room : (u : ℕ) → has c u ≡ true → has (minus (all g.vertices) z) u ≡ true
  c_room u e = has-minus (all g.vertices) z u ∙ both_true (has (all g.vertices) u) (not (has z u)) (all-is g.vertices u (c_low u e))
      (not_i (has z u) (off_z u e))

  module _ (a : ℕ) (is_a : AreAncestorsIn (without g z) (all g.vertices) c a) where
    pub a_room : (u : ℕ) → has a u ≡ true → has (minus (all g.vertices) z) u ≡ true
    a_room u e = let r : IsAncestor (induced (without g z) (has (all g.vertices))) (has c) u = is_a.sound u e in go u r.path r.end r.leads r.inside
      where
        go : (u : ℕ) (xs : List ℕ) (w : ℕ) → IsDirectedPath (induced (without g z) (has (all g.vertices))) u xs w → has c w ≡ true
            → has (minus (all g.vertices) z) u ≡ true
        go u [] w p i = c_room u (rw p i)
        go u (x ∷ xs) w p i = and_l (has (minus (all g.vertices) z) u) (has (minus (all g.vertices) z) x)
            (and_r (g.arrow u x) (has (minus (all g.vertices) z) u && has (minus (all g.vertices) z) x)
            (and_l (g.arrow u x && (has (minus (all g.vertices) z) u && has (minus (all g.vertices) z) x))
            (has (all g.vertices) u && has (all g.vertices) x) p.0))

    pub a_off : (u : ℕ) → has a u ≡ true → has z u ≡ false
    a_off u e = not_e (has z u) (and_r (has (all g.vertices) u) (not (has z u)) (rw (has-minus (all g.vertices) z u) at (a_room u e)))

    a_low : (u : ℕ) → has a u ≡ true → u < g.vertices
    a_low u e = all-below g.vertices u (and_l (has (all g.vertices) u) (not (has z u)) (rw (has-minus (all g.vertices) z u) at (a_room u e)))

    pub c_in_a : (u : ℕ) → has c u ≡ true → has a u ≡ true
    c_in_a u e = is_a.complete u (record { vertex = c_low u e; path = []; end = u; leads = refl; inside = e })

    a_above : (p u : ℕ) → (without g z).arrow p u ≡ true → has a u ≡ true → has a p ≡ true
    a_above p u b i =
        let r : IsAncestor (induced (without g z) (has (all g.vertices))) (has c) u = is_a.sound u i in
        let low : p < g.vertices = ok.tail_below p u (and_l (g.arrow p u) (has (minus (all g.vertices) z) p && has (minus (all g.vertices) z) u) b) in
        is_a.complete p (record {
          vertex = low;
          path = u ∷ r.path;
          end = r.end;
          leads = (
            both_true ((without g z).arrow p u) (has (all g.vertices) p && has (all g.vertices) u) b
                (both_true (has (all g.vertices) p) (has (all g.vertices) u) (all-is g.vertices p low) (all-is g.vertices u (a_low u i))),
            r.leads,
          );
          inside = r.inside;
        })

    module _ (some : ℕ) (some_in : has c some ≡ true) where
      pub stage : IsStage g (Source.Under z) a c
      stage = record {
        low = a_low;
        c_in = c_in_a;
        some = some;
        some_in = some_in;
        closed = λ p u b i e. a_above p u (both_true (g.arrow p u) (has (minus (all g.vertices) z) p && has (minus (all g.vertices) z) u) b
            (both_true (has (minus (all g.vertices) z) p) (has (minus (all g.vertices) z) u) i (a_room u e))) e;
      }

      pub inner_stage : IsStage (without g z) (Source.Under z) a c
      inner_stage = record { low = a_low; c_in = c_in_a; some = some; some_in = some_in; closed = λ p u b i e. a_above p u b e }
