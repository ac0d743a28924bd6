-- What separates a pair, by links; and a cut with one member less.
use Rattle.std.proofs.Common.{ℕ, ◌≡◌, ◌<◌, Bool, true, false, not, ◌&&◌, ◌||◌, ◌==◌, ◌↔◌, ◌⊎◌, inl, inr, refl, sym, subst, eqb-true, IsTrue}
use Rattle.std.proofs.lemmas.Bool.{or_left, or_right, and_from, both_ways, not_from_false}
use mathlib.Core.Path.{fun_ext}
use Rattle.mixed_graph.specs.Vocabulary.{has, MixedGraph, IsMixedGraph}
use Rattle.mixed_graph.specs.Reached.{Reached}
use Rattle.m_separation.specs.Vocabulary.{HasOpenWalk, IsSeparated, last}
use Rattle.do_rules.proofs.Reach.{Linked, here, by_both, by_child, by_parent}
use Rattle.implications.specs.Separable.{only, IsSeparable, AreOtherAncestors}
use Rattle.implications.specs.Links.{is_link, IsSide, IsNextTo, AreAbove, IsCut}
use Rattle.implications.specs.declared.sets.Pair.{Pair}
use Rattle.implications.specs.declared.sets.Cut.{Cut}
use Rattle.implications.proofs.LinkLaws.{rest_false, swapped, along, joins, untouched}
use Rattle.implications.proofs.OpenLinks.{open_by_links}
use Rattle.implications.proofs.OtherAncestors.{passed_first, above_first, above_last, linked, other_ancestors_separate}
use Rattle.implications.proofs.Others.{others_separating, others_without_first, others_without_last}
use Rattle.implications.proofs.Thinning.{rest_of, still_separating}

-- a search from one vertex has its side
pub side_from : (g : MixedGraph) (s w from found : ℕ → Bool) (a : ℕ) → ((u : ℕ) → from u ≡ (u == a))
    → ((v : ℕ) → IsTrue (found v) ↔ Reached (is_link g w) from s v) → IsSide g s w a found
side_from g s w from found a e r = subst (λ f. (v : ℕ) → IsTrue (found v) ↔ Reached (is_link g w) f s v) (fun_ext e) r

module _ (g : MixedGraph) (ok : IsMixedGraph g) (a b : ℕ) (al : a < g.vertices) (bl : b < g.vertices) (s : ℕ → Bool) (above : AreAbove g a b s) where
  pub has_first : s a ≡ true
  has_first = (above a).1 (above_first g ok a b al bl)

  has_last : s b ≡ true
  has_last = (above b).1 (above_last g ok a b al bl)

  module _ (w : ℕ → Bool) (inside : (v : ℕ) → w v ≡ true → s v ≡ true) (wa : w a ≡ false) (wb : w b ≡ false) where
    links_from : (v : ℕ) → Linked g s w (only b) v → Reached (is_link g w) (only b) s v
    links_from v (here e) = Reached.start e (rw (eqb-true v b e) has_last)
    links_from u (by_both {v = v} i e x) =
        Reached.next (links_from v x) (or_left (g.both v u) ((g.arrow v u && not (w v)) || (g.arrow u v && not (w u))) (ok.symmetric u v e)) i
    links_from u (by_child {v = v} i e o x) =
        Reached.next (links_from v x) (or_right (g.both v u) ((g.arrow v u && not (w v)) || (g.arrow u v && not (w u)))
        (or_right (g.arrow v u && not (w v)) (g.arrow u v && not (w u)) (and_from (g.arrow u v) (not (w u)) e (not_from_false (w u) o)))) i
    links_from u (by_parent {v = v} i e o x) =
        Reached.next (links_from v x) (or_right (g.both v u) ((g.arrow v u && not (w v)) || (g.arrow u v && not (w u)))
        (or_left (g.arrow v u && not (w v)) (g.arrow u v && not (w u)) (and_from (g.arrow v u) (not (w v)) e (not_from_false (w v) o)))) i

    -- where no links lead from one end to the other, the set separates them
    pub apart_without_links : (Reached (is_link g w) (only b) s a → ⊥) → IsSeparated g (only a) (only b) w
    apart_without_links none v r o =
        let e : v ≡ a = eqb-true v a o.begins in
        let l = linked g ok a b al bl w (λ u i. (above u).0 (inside u i)) w wb (λ u k n. n) s (λ u k. (above u).1 k) false v r o.walk
        (passed_first g w v r o.first_outside o.passed) (eqb-true (last v r) b o.ends) (λ q. rw e (above_first g ok a b al bl)) in
        none (subst (λ x. Reached (is_link g w) (only b) s x) e (links_from v l))

  -- where links lead from one end to the other outside all other ancestors, no set separates them
  pub inseparable : (z : ℕ → Bool) → AreOtherAncestors g a b z → Reached (is_link g z) (only a) s b → IsSeparable g a b → ⊥
  inseparable z is r separable =
      let o = open_by_links g ok a b al z (others_without_first g a b z is) (others_without_last g a b z is) s above
      (swapped g ok s z b a has_last r) in
      other_ancestors_separate g ok a b separable z is o.0 o.1 o.2

module _ (g : MixedGraph) (ok : IsMixedGraph g) (p : Pair) (al : p.a < g.vertices) (bl : p.b < g.vertices) (above : AreAbove g p.a p.b (has p.above.bits)) where
  -- the first cut: all other ancestors are kept
  pub first_cut : (c : Cut) → AreOtherAncestors g p.a p.b (has c.kept.bits) → IsSide g (has p.above.bits) (has c.kept.bits) p.a (has c.first.bits)
      → IsSide g (has p.above.bits) (has c.kept.bits) p.b (has c.second.bits) → has c.first.bits p.b ≡ false → IsCut g p c
  first_cut c is first second apart = record {
    inside = inside;
    separating = others_separating g p.a p.b (has c.kept.bits) is
        (apart_without_links g ok p.a p.b al bl (has p.above.bits) above (has c.kept.bits) inside
        (others_without_first g p.a p.b (has c.kept.bits) is) (others_without_last g p.a p.b (has c.kept.bits) is) none);
    first = first;
    second = second;
  }
    where
      inside : (v : ℕ) → has c.kept.bits v ≡ true → has p.above.bits v ≡ true
      inside v e = (above v).1 ((is v).0 e).above

      none : Reached (is_link g (has c.kept.bits)) (only p.b) (has p.above.bits) p.a → ⊥
      none r = both_ways (has c.first.bits p.b) apart
          ((first p.b).1 (swapped g ok (has p.above.bits) (has c.kept.bits) p.a p.b (has_first g ok p.a p.b al bl (has p.above.bits) above) r))

  module _ (c : Cut) (is : IsCut g p c) (v : ℕ) (member : has c.kept.bits v ≡ true) where
    abbrev kept : ℕ → Bool
    kept = has c.kept.bits

    abbrev s : ℕ → Bool
    s = has p.above.bits

    rest_a : rest_of kept v p.a ≡ false
    rest_a = rest_false kept v p.a is.separating.without_a

    rest_b : rest_of kept v p.b ≡ false
    rest_b = rest_false kept v p.b is.separating.without_b

    -- without a vertex next to both sides the rest doesn't separate
    pub open_without : IsNextTo g (has c.first.bits) v → IsNextTo g (has c.second.bits) v → HasOpenWalk g (only p.a) (only p.b) (rest_of kept v)
    open_without first second =
        open_by_links g ok p.a p.b al (rest_of kept v) rest_a rest_b s above (along g ok s (rest_of kept v) p.a p.b v
        (joins g ok s kept p.a v (has c.first.bits) is.first first (is.inside v member))
        (joins g ok s kept p.b v (has c.second.bits) is.second second (is.inside v member)))

    linked_before : Reached (is_link g kept) (only p.b) s p.a → ⊥
    linked_before r = let o = open_by_links g ok p.a p.b al kept is.separating.without_a is.separating.without_b s above r in
        is.separating.separates o.0 o.1 o.2

    rest_inside : (u : ℕ) → rest_of kept v u ≡ true → s u ≡ true
    rest_inside u e = is.inside u (go (kept u) (u == v) e)
      where
        go : (x y : Bool) → (x && not y) ≡ true → x ≡ true
        go true y h = refl
        go false y h = absurd (both_ways false refl h)

    -- without any other the rest does
    pub apart_without : (IsNextTo g (has c.first.bits) v → ⊥) ⊎ (IsNextTo g (has c.second.bits) v → ⊥)
        → IsSeparated g (only p.a) (only p.b) (rest_of kept v)
    apart_without away = apart_without_links g ok p.a p.b al bl s above (rest_of kept v) rest_inside rest_a rest_b (λ r. linked_before (go away r))
      where
        go : (IsNextTo g (has c.first.bits) v → ⊥) ⊎ (IsNextTo g (has c.second.bits) v → ⊥)
            → Reached (is_link g (rest_of kept v)) (only p.b) s p.a → Reached (is_link g kept) (only p.b) s p.a
        go (inl n) r = swapped g ok s kept p.b p.a (has_last g ok p.a p.b al bl s above) (untouched g ok s kept p.a v (has c.first.bits) is.first n p.b
            (swapped g ok s (rest_of kept v) p.a p.b (has_first g ok p.a p.b al bl s above) r))
        go (inr n) r = untouched g ok s kept p.b v (has c.second.bits) is.second n p.a r

    -- the next cut
    pub next_cut : (d : Cut) → has d.kept.bits ≡ rest_of kept v → IsSide g s (rest_of kept v) p.a (has d.first.bits)
        → IsSide g s (rest_of kept v) p.b (has d.second.bits) → IsSeparated g (only p.a) (only p.b) (rest_of kept v) → IsCut g p d
    next_cut d e first second apart = record {
      inside = λ u i. rest_inside u (subst (λ f. f u ≡ true) e i);
      separating = still_separating g p.a p.b v kept (has d.kept.bits) e is.separating (subst (λ f. IsSeparated g (only p.a) (only p.b) f) (sym e) apart);
      first = subst (λ f. IsSide g s f p.a (has d.first.bits)) (sym e) first;
      second = subst (λ f. IsSide g s f p.b (has d.second.bits)) (sym e) second;
    }
