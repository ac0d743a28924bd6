-- Where there is no minimal set, no set is admissible.
use Rattle.std.proofs.Common.{◌≡◌, ℕ, ◌≤◌, Bool, true, false, List, [], ◌∷◌, length, arith, refl}
use Rattle.std.proofs.lemmas.Bool.{false_from_ne_true}
use Rattle.mixed_graph.specs.declared.sets.VSet.{VSet}
use Rattle.mixed_graph.specs.Vocabulary.{MixedGraph}
use Rattle.do_rules.specs.Vocabulary.{AreThreeSets}
use Rattle.do_derivation.proofs.TermSets.{apart_back}
use Rattle.adjustment.specs.Vocabulary.{IsAdmissible}
use Rattle.minimal_sets.specs.Vocabulary.{IsPart, IsListingOf, IsMinimalSet}
use Rattle.minimal_sets.proofs.Smallest.{none_at_all}

module _ (g : MixedGraph) (x y : ℕ → Bool) where
  -- a part of a set is disjoint from what the set is disjoint from
  part_sets : (p z : ℕ → Bool) → IsPart p z → AreThreeSets g.vertices x y z → AreThreeSets g.vertices x y p
  part_sets p z part s = record {
    x_within = s.x_within;
    y_within = s.y_within;
    w_within = λ u h. s.w_within u (part u h);
    x_y = s.x_y;
    x_w = λ u h. false_from_ne_true (p u) (λ i. absurd (grind (arith, part u i, s.x_w u h)));
    y_w = λ u h. false_from_ne_true (p u) (λ i. absurd (grind (arith, part u i, s.y_w u h)));
  }

  -- where no set is minimal, none is admissible
  none_below : ((z : ℕ → Bool) → IsMinimalSet g x y z → ⊥) → (z : ℕ → Bool) → AreThreeSets g.vertices x y z → IsAdmissible g x y z → ⊥
  none_below none z s a = none_at_all (λ w. AreThreeSets g.vertices x y w × IsAdmissible g x y w) g.vertices (λ w is. is.0.w_within)
      (λ w is least. none w (record {
        within = is.0.w_within;
        x_apart = apart_back x w is.0.x_w;
        y_apart = apart_back y w is.0.y_w;
        admissible = is.1;
        minimal = λ p part fits. least p part (part_sets p w part is.0, fits);
      })) z (s, a)

  -- an empty listing of at least one set
  pub none_admissible : (most : ℕ) (sets : List VSet) (more : Bool) → 1 ≤ most → IsListingOf (IsMinimalSet g x y) most sets more → length sets ≡ 0
      → (z : ℕ → Bool) → AreThreeSets g.vertices x y z → IsAdmissible g x y z → ⊥
  none_admissible most sets true some l e z s a = let full : length sets ≡ most = l.full refl in absurd (omega (arith, full, e, some))
  none_admissible most [] false some l e z s a = none_below (λ w minimal. let found = l.all refl w minimal in absurd (omega (arith, found.2)))
      z s a
  none_admissible most (t ∷ rest) false some l e z s a = absurd (omega (arith, e))
