-- Equality of separations is equality of independences in models.
use Rattle.std.proofs.Common.{ℕ, ◌≡◌, ◌<◌, ◌==◌, Bool, false, [], sym, ◌∙◌, subst, rules}
use Rattle.std.proofs.lemmas.Bool.{false_from_ne_true, eqb-true}
use Rattle.finite_models.proofs.SumLaws.{eqb-refl}
use Rattle.mixed_graph.specs.Vocabulary.{MixedGraph, IsMixedGraph, Within}
use Rattle.m_separation.specs.Vocabulary.{IsSeparated}
use Rattle.do_rules.specs.Vocabulary.{AreThreeSets}
use Rattle.do_rules.proofs.Failing.{independence_is_separation}
use Rattle.markov_equivalence.specs.Comparisons.{SeparatesInOne}
use Rattle.markov_equivalence.specs.Sides.{one_of, other_side}
use Rattle.markov_equivalence.specs.declared.sides.Side.{Side}
use Rattle.markov_equivalence.specs.declared.sides.Side.TheVariants.{First, Second}
use Rattle.markov_equivalence.specs.Separations.{HaveSameSeparations, HaveSameIndependences}

-- two vertices that a set separates, and the set, are disjoint sets: a vertex isn't separated from itself
pair_sets : (k : MixedGraph) (a b : ℕ) (given : ℕ → Bool) → a < k.vertices → b < k.vertices → Within k.vertices given → given a ≡ false → given b ≡ false
    → IsSeparated k (λ v. v == a) (λ v. v == b) given → AreThreeSets k.vertices (λ v. v == a) (λ v. v == b) given
pair_sets k a b given below below' within out out' apart = record {
  x_within = λ v e. rw (eqb-true v a e) below;
  y_within = λ v e. rw (eqb-true v b e) below';
  w_within = within;
  x_y = λ v e. false_from_ne_true (v == b) (λ f. absurd (apart a [] (record {
    vertex = below;
    begins = search (rules, eqb-refl a);
    ends = search (rules, eqb-refl a, sym (eqb-true v a e) ∙ eqb-true v b f);
    first_outside = out;
    last_outside = out;
    walk = tt;
    passed = tt;
  })));
  x_w = λ v e. rw (eqb-true v a e) out;
  y_w = λ v e. rw (eqb-true v b e) out';
}

module _ (g h : MixedGraph) (gok : IsMixedGraph g) (hok : IsMixedGraph h) (size : g.vertices ≡ h.vertices) where
  moved : (x y w : ℕ → Bool) → AreThreeSets g.vertices x y w → AreThreeSets h.vertices x y w
  moved x y w sets = subst (λ n. AreThreeSets n x y w) size sets

  -- graphs with the same separations have the same independences
  pub same_independences : HaveSameSeparations g h → HaveSameIndependences g h
  same_independences same x y w sets = (
    λ i. (independence_is_separation h hok x y w (moved x y w sets)).0 ((same x y w).0 ((independence_is_separation g gok x y w sets).1 i)),
    λ i. (independence_is_separation g gok x y w sets).0 ((same x y w).1 ((independence_is_separation h hok x y w (moved x y w sets)).1 i)),
  )

  -- independences that are the same give a separation of disjoint sets in the one graph from that in the other
  separated_there : HaveSameIndependences g h → (x y w : ℕ → Bool) → AreThreeSets g.vertices x y w → IsSeparated g x y w → IsSeparated h x y w
  separated_there same x y w sets apart =
      (independence_is_separation h hok x y w (moved x y w sets)).1 ((same x y w sets).0 ((independence_is_separation g gok x y w sets).0 apart))

  separated_here : HaveSameIndependences g h → (x y w : ℕ → Bool) → AreThreeSets g.vertices x y w → IsSeparated h x y w → IsSeparated g x y w
  separated_here same x y w sets apart =
      (independence_is_separation g gok x y w sets).1 ((same x y w sets).1 ((independence_is_separation h hok x y w (moved x y w sets)).0 apart))

  -- where two vertices are separated in one of the graphs alone, the independences differ
  pub differ_in_models : (side : Side) (a b : ℕ) (given : ℕ → Bool) → a < g.vertices → b < g.vertices → Within g.vertices given
      → SeparatesInOne (one_of g h side) (one_of g h (other_side side)) a b given → HaveSameIndependences g h → ⊥
  differ_in_models First a b given below below' within s same =
      let w = s.not_there in
      separated_there same (λ v. v == a) (λ v. v == b) given (pair_sets g a b given below below' within s.without_a s.without_b s.there) s.there w.0 w.1 w.2
  differ_in_models Second a b given below below' within s same =
      let w = s.not_there in
      let sets : AreThreeSets h.vertices (λ v. v == a) (λ v. v == b) given =
      pair_sets h a b given (subst (λ n. a < n) size below) (subst (λ n. b < n) size below') (subst (λ n. Within n given) size within)
      s.without_a s.without_b s.there in
      separated_here same (λ v. v == a) (λ v. v == b) given (subst (λ n. AreThreeSets n (λ v. v == a) (λ v. v == b) given) (sym size) sets) s.there w.0 w.1 w.2
