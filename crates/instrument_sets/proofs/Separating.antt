-- The minimal sets of strata are the minimal separators by vertices that x doesn't move.
use Rattle.std.proofs.Common.{ℕ, ◌≡◌, ◌↔◌, Bool, true, false, not, refl, ◌∙◌, ◌||◌, ◌&&◌, List, [], get_or, IsTrue, arith, subst}
use mathlib.Core.Path.{fun_ext}
use Rattle.std.proofs.lemmas.Bool.{false_from_ne_true, or_right}
use Rattle.mixed_graph.specs.declared.sets.VSet.{VSet}
use Rattle.mixed_graph.specs.Vocabulary.{has, MixedGraph, IsMixedGraph, IsAncestor, IsDescendant, Within, Apart}
use Rattle.m_separation.specs.Vocabulary.{IsSeparated}
use Rattle.do_rules.specs.Vocabulary.{cut_into, AreThreeSets, AreFourSets}
use Rattle.do_rules.proofs.Fewer.{graph_into, graph_out}
use Rattle.finite_models.proofs.Bools.{and_first, and_second, either, not_both}
use Rattle.minimal_sets.specs.Vocabulary.{IsSeparator, IsPart, IsMinimalSeparator, IsFrame, IsListingOf, IsNear}
use Rattle.minimal_sets.proofs.Separations.{turn, separated_by_separator, separator_from_separated, separated_inner}
use Rattle.natural_bounds.specs.Vocabulary.{IsInstrument}
use Rattle.instrument_sets.specs.Strata.{AreMinimalStrata}
use Rattle.instrument_sets.proofs.Isolated.{isolated, separated_isolated, isolated_separated}

turned : (s t : ℕ → Bool) → Apart s t → Apart t s
turned s t apart v e = false_from_ne_true (s v) (λ h. not_both (t v) e (apart v h))

module _ (g : MixedGraph) (ok : IsMixedGraph g) (X Y Z : ℕ → Bool) (sets : AreThreeSets g.vertices X Y Z)
    (D : ℕ → Bool) (below : (v : ℕ) → IsTrue (D v) ↔ IsDescendant g X v) (unmoved : Apart Z D)
    (A : ℕ → Bool) (above : (v : ℕ) → IsTrue (A v) ↔ IsAncestor (isolated g X) (λ v. Y v || Z v) v)
    (near : ℕ → ℕ → Bool) (is_near : IsNear (isolated g X) A near)
    (R : ℕ → Bool) (r_is : (v : ℕ) → R v ≡ (((A v && not (Y v)) && not (Z v)) && not (D v))) where
  is_graph : IsMixedGraph (isolated g X)
  is_graph = graph_out (cut_into g X) X (graph_into g X ok)

  -- ---- the vertices that a separator may have
  r_a : (v : ℕ) → R v ≡ true → A v ≡ true
  r_a v e = let p = r_is v in grind arith

  r_y : (v : ℕ) → R v ≡ true → Y v ≡ false
  r_y v e = let p = r_is v in grind arith

  r_z : (v : ℕ) → R v ≡ true → Z v ≡ false
  r_z v e = let p = r_is v in grind arith

  r_d : (v : ℕ) → R v ≡ true → D v ≡ false
  r_d v e = let p = r_is v in grind arith

  r_from : (v : ℕ) → A v ≡ true → Y v ≡ false → Z v ≡ false → D v ≡ false → R v ≡ true
  r_from v a y z d = r_is v ∙ rw (a, y, z, d) refl

  x_below : (v : ℕ) → X v ≡ true → D v ≡ true
  x_below v e = (below v).1 (record { vertex = sets.x_within v e; path = []; start = v; leads = refl; inside = e })

  r_x : (v : ℕ) → R v ≡ true → X v ≡ false
  r_x v e = false_from_ne_true (X v) (λ x. not_both (D v) (x_below v x) (r_d v e))

  pub allowed_within : Within g.vertices R
  allowed_within v e = ((above v).0 (r_a v e)).vertex

  pub frame : IsFrame near R Y Z
  frame = record {
    turn = turn (isolated g X) is_graph Y Z sets.y_within sets.w_within A above near is_near;
    x_fixed = λ v e. false_from_ne_true (R v) (λ i. not_both (Y v) e (r_y v i));
    y_fixed = λ v e. false_from_ne_true (R v) (λ i. not_both (Z v) e (r_z v i));
  }

  -- ---- strata and separators
  four : (w : ℕ → Bool) → IsPart w R → AreFourSets g.vertices X Y Z w
  four w part = record {
    x_within = sets.x_within;
    y_within = sets.y_within;
    z_within = sets.w_within;
    w_within = λ v e. allowed_within v (part v e);
    x_y = sets.x_y;
    x_z = sets.x_w;
    x_w = turned w X (λ v e. r_x v (part v e));
    y_z = sets.y_w;
    y_w = turned w Y (λ v e. r_y v (part v e));
    z_w = turned w Z (λ v e. r_z v (part v e));
  }

  instrument_from : (w : ℕ → Bool) → IsPart w R → IsSeparated (isolated g X) Y Z w → IsInstrument g X Y Z w
  instrument_from w part sep = record {
    sets = four w part;
    unmoved = λ v i d. not_both (D v) ((below v).1 d) (either (Z v) (w v) (D v ≡ false) i (unmoved v) (λ e. r_d v (part v e)));
    separated = isolated_separated g ok X w Y Z sep;
  }

  separator_instrument : (w : ℕ → Bool) → IsPart w R → IsSeparator near Y Z w → IsInstrument g X Y Z w
  separator_instrument w part sep = instrument_from w part
      (separated_by_separator (isolated g X) is_graph Y Z sets.y_within sets.w_within A above near is_near w (λ v e. r_a v (part v e)) sep)

  cut_separated : (w : ℕ → Bool) → IsInstrument g X Y Z w → IsSeparated (isolated g X) Y Z w
  cut_separated w k = separated_isolated g ok X w Y Z (turned X Y sets.x_y) k.separated

  instrument_separator : (w : ℕ → Bool) → IsInstrument g X Y Z w → IsSeparator near Y Z w
  instrument_separator w k = separator_from_separated (isolated g X) is_graph Y Z sets.y_within sets.w_within A above near is_near w
      k.sets.y_w k.sets.z_w (cut_separated w k)

  -- what lies outside the ancestors isn't needed
  inner_part : (w : ℕ → Bool) → IsInstrument g X Y Z w → IsPart (λ v. w v && A v) R
  inner_part w k v e =
      let i = and_first (w v) (A v) e in
      r_from v (and_second (w v) (A v) e) (turned Y w k.sets.y_w v i) (turned Z w k.sets.z_w v i)
      (false_from_ne_true (D v) (λ d. k.unmoved v (or_right (Z v) (w v) i) ((below v).0 d)))

  inner_instrument : (w : ℕ → Bool) → IsInstrument g X Y Z w → IsInstrument g X Y Z (λ v. w v && A v)
  inner_instrument w k = instrument_from (λ v. w v && A v) (inner_part w k)
      (separated_inner (isolated g X) is_graph Y Z sets.y_within sets.w_within A above near is_near w k.sets.y_w k.sets.z_w (cut_separated w k))

  to_strata : (w : ℕ → Bool) → IsMinimalSeparator near R Y Z w → AreMinimalStrata g X Y Z w
  to_strata w k = record {
    instrument = separator_instrument w k.within k.separates;
    minimal = λ p part i. k.minimal p part (instrument_separator p i);
  }

  to_separator : (w : ℕ → Bool) → AreMinimalStrata g X Y Z w → IsMinimalSeparator near R Y Z w
  to_separator w k = record {
    within = part;
    separates = instrument_separator w k.instrument;
    minimal = λ p pw sep. k.minimal p pw (separator_instrument p (λ v e. part v (pw v e)) sep);
  }
    where
      part : IsPart w R
      part v e = inner_part w k.instrument v
          (k.minimal (λ u. w u && A u) (λ u i. and_first (w u) (A u) i) (inner_instrument w k.instrument) v e)

  pub strata_listed : (most : ℕ) (sets : List VSet) (more : Bool) → IsListingOf (IsMinimalSeparator near R Y Z) most sets more
      → IsListingOf (AreMinimalStrata g X Y Z) most sets more
  strata_listed most sets more l = record {
    each = λ k d lt. to_strata (has (get_or sets k d).bits) (l.each k d lt);
    sorted = l.sorted;
    few = l.few;
    all = λ m w k. l.all m w (to_separator w k);
    full = l.full;
    another = λ m. let a = l.another m in (a.0, to_strata (has a.0.bits) a.1, a.2);
  }

-- the same from the graph as it is handed over
module _ (g : MixedGraph) (ok : IsMixedGraph g) (X Y Z : ℕ → Bool) (sets : AreThreeSets g.vertices X Y Z)
    (D : ℕ → Bool) (below : (v : ℕ) → IsTrue (D v) ↔ IsDescendant g X v) (unmoved : Apart Z D)
    (h : MixedGraph) (is_h : h ≡ isolated g X) (U A : ℕ → Bool) (u_is : (v : ℕ) → U v ≡ (Y v || Z v)) (above : (v : ℕ) → IsTrue (A v) ↔ IsAncestor h U v)
    (near : ℕ → ℕ → Bool) (is_near : IsNear h A near) (R : ℕ → Bool) (r_is : (v : ℕ) → R v ≡ (((A v && not (Y v)) && not (Z v)) && not (D v))) where
  above_cut : (v : ℕ) → IsTrue (A v) ↔ IsAncestor (isolated g X) (λ v. Y v || Z v) v
  above_cut v = subst (λ k. IsTrue (A v) ↔ IsAncestor k (λ v. Y v || Z v) v) is_h
      (subst (λ (s : ℕ → Bool). IsTrue (A v) ↔ IsAncestor h s v) (fun_ext u_is) (above v))

  near_cut : IsNear (isolated g X) A near
  near_cut = subst (λ k. IsNear k A near) is_h is_near

  pub handed_within : Within g.vertices R
  handed_within = allowed_within g ok X Y Z sets D below unmoved A above_cut near near_cut R r_is

  pub handed_frame : IsFrame near R Y Z
  handed_frame = frame g ok X Y Z sets D below unmoved A above_cut near near_cut R r_is

  pub handed_strata : (most : ℕ) (list : List VSet) (more : Bool) → IsListingOf (IsMinimalSeparator near R Y Z) most list more
      → IsListingOf (AreMinimalStrata g X Y Z) most list more
  handed_strata = strata_listed g ok X Y Z sets D below unmoved A above_cut near near_cut R r_is
