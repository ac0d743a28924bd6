-- The minimal admissible sets are the minimal separators by allowed vertices.
use Rattle.std.proofs.Common.{ℕ, ◌≡◌, ◌↔◌, Bool, true, false, not, refl, sym, ◌∙◌, ◌||◌, ◌&&◌, List, get_or, IsTrue, arith, subst}
use mathlib.Core.Path.{fun_ext}
use Rattle.std.proofs.lemmas.Bool.{false_from_ne_true, not-true}
use Rattle.mixed_graph.specs.declared.sets.VSet.{VSet}
use Rattle.mixed_graph.specs.Vocabulary.{has, MixedGraph, IsMixedGraph, IsAncestor, IsDescendant, Within, Apart}
use Rattle.finite_models.proofs.Bools.{and_first, and_second, not_both}
use Rattle.prob_expr.specs.Vocabulary.{EqualsEffect, effect_on}
use Rattle.adjustment.specs.Vocabulary.{IsBetween, IsBackDoorGraph, IsForbidden, IsAdmissible, adjustment_formula}
use Rattle.adjustment.proofs.FirstEdges.{cut_arrows, firsts, back_door_graph_is}
use Rattle.adjustment.proofs.Effects.{admissible_adjusts}
use Rattle.adjustment.proofs.Separating.{forbidden_is, separated_from, admissible_from}
use Rattle.adjustment.proofs.Walks.{graph_arrows}
use Rattle.minimal_sets.specs.Separators.{IsSeparator, IsPart, IsMinimalSeparator}
use Rattle.minimal_sets.specs.Frames.{IsFrame}
use Rattle.minimal_sets.specs.Listings.{IsListingOf}
use Rattle.minimal_sets.specs.MinimalSets.{IsMinimalSet}
use Rattle.minimal_sets.specs.Moral.{IsNear}
use Rattle.minimal_sets.proofs.Separations.{turn, separated_by_separator, separator_from_separated, separated_inner}

module _ (g : MixedGraph) (ok : IsMixedGraph g) (X Y : ℕ → Bool) (xl : Within g.vertices X) (yl : Within g.vertices Y) (xy : Apart X Y)
    (B bad : ℕ → Bool) (is_between : (v : ℕ) → IsTrue (B v) ↔ IsBetween g X Y v) (is_forbidden : (v : ℕ) → IsTrue (bad v) ↔ IsForbidden g X Y v)
    (A : ℕ → Bool) (above : (v : ℕ) → IsTrue (A v) ↔ IsAncestor (cut_arrows g (firsts X B)) (λ v. X v || Y v) v)
    (near : ℕ → ℕ → Bool) (is_near : IsNear (cut_arrows g (firsts X B)) A near) where
  -- the vertices that a separator may have
  abbrev pub allowed : ℕ → Bool
  allowed v = A v && (not (X v) && (not (Y v) && not (bad v)))

  allowed_from : (v : ℕ) → A v ≡ true → X v ≡ false → Y v ≡ false → bad v ≡ false → allowed v ≡ true
  allowed_from v a x y b = rw (a, x, y, b) refl

  al_a : (v : ℕ) → allowed v ≡ true → A v ≡ true
  al_a v e = and_first (A v) (not (X v) && (not (Y v) && not (bad v))) e

  al_rest : (v : ℕ) → allowed v ≡ true → (not (X v) && (not (Y v) && not (bad v))) ≡ true
  al_rest v e = and_second (A v) (not (X v) && (not (Y v) && not (bad v))) e

  al_x : (v : ℕ) → allowed v ≡ true → X v ≡ false
  al_x v e = not-true (X v) (and_first (not (X v)) (not (Y v) && not (bad v)) (al_rest v e))

  al_y : (v : ℕ) → allowed v ≡ true → Y v ≡ false
  al_y v e = not-true (Y v) (and_first (not (Y v)) (not (bad v)) (and_second (not (X v)) (not (Y v) && not (bad v)) (al_rest v e)))

  al_bad : (v : ℕ) → allowed v ≡ true → bad v ≡ false
  al_bad v e = not-true (bad v) (and_second (not (Y v)) (not (bad v)) (and_second (not (X v)) (not (Y v) && not (bad v)) (al_rest v e)))

  apart_from : (p : ℕ → Bool) (W : ℕ → Bool) → ((v : ℕ) → p v ≡ true → W v ≡ false) → (v : ℕ) → W v ≡ true → p v ≡ false
  apart_from p W h v e = false_from_ne_true (p v) (λ i. not_both (W v) e (h v i))

  pub admissible_separator : (p : ℕ → Bool) → IsPart p allowed → IsSeparator near X Y p → IsAdmissible g X Y p
  admissible_separator p part separator = admissible_from g ok X Y xl xy B is_between p (λ v e x. not_both (bad v) ((is_forbidden v).1 x) (al_bad v (part v e)))
      (separated_by_separator (cut_arrows g (firsts X B)) (graph_arrows g (firsts X B) ok) X Y xl yl A above near is_near p (λ v e. al_a v (part v e))
      separator)

  pub separator_admissible : (p : ℕ → Bool) → ((v : ℕ) → p v ≡ true → X v ≡ false) → ((v : ℕ) → p v ≡ true → Y v ≡ false) → IsAdmissible g X Y p
      → IsSeparator near X Y p
  separator_admissible p px py adm = separator_from_separated (cut_arrows g (firsts X B)) (graph_arrows g (firsts X B) ok) X Y xl yl A above near is_near p
      (apart_from p X px) (apart_from p Y py) (separated_from g ok X Y xl xy B is_between p (apart_from p X px) adm)

  -- the part of an admissible set among the ancestors is admissible
  inner_admissible : (p : ℕ → Bool) → ((v : ℕ) → p v ≡ true → X v ≡ false) → ((v : ℕ) → p v ≡ true → Y v ≡ false) → IsAdmissible g X Y p
      → IsAdmissible g X Y (λ v. p v && A v)
  inner_admissible p px py adm = admissible_from g ok X Y xl xy B is_between (λ v. p v && A v) (λ v e x. adm.clear v (and_first (p v) (A v) e) x)
      (separated_inner (cut_arrows g (firsts X B)) (graph_arrows g (firsts X B) ok) X Y xl yl A above near is_near p (apart_from p X px) (apart_from p Y py)
      (separated_from g ok X Y xl xy B is_between p (apart_from p X px) adm))

  pub to_separator : (z : ℕ → Bool) → IsMinimalSet g X Y z → IsMinimalSeparator near allowed X Y z
  to_separator z k = record {
    within = part;
    separates = separator_admissible z k.x_apart k.y_apart k.admissible;
    minimal = λ p pz separator. k.minimal p pz (admissible_separator p (λ v e. part v (pz v e)) separator);
  }
    where
      part : IsPart z allowed
      part v e = allowed_from v
          (and_second (z v) (A v) (k.minimal (λ v. z v && A v) (λ w i. and_first (z w) (A w) i) (inner_admissible z k.x_apart k.y_apart k.admissible) v e))
          (k.x_apart v e) (k.y_apart v e) (false_from_ne_true (bad v) (λ b. k.admissible.clear v e ((is_forbidden v).0 b)))

  pub to_set : (z : ℕ → Bool) → IsMinimalSeparator near allowed X Y z → IsMinimalSet g X Y z
  to_set z k = record {
    within = λ v e. ((above v).0 (al_a v (k.within v e))).vertex;
    x_apart = λ v e. al_x v (k.within v e);
    y_apart = λ v e. al_y v (k.within v e);
    admissible = admissible_separator z k.within k.separates;
    minimal = λ p pz adm. k.minimal p pz (separator_admissible p (λ v e. al_x v (k.within v (pz v e))) (λ v e. al_y v (k.within v (pz v e))) adm);
  }

  -- ---- what the code hands over
  module _ (R : ℕ → Bool) (r_is : (v : ℕ) → R v ≡ (((A v && not (X v)) && not (Y v)) && not (bad v))) where
    same_allowed : R ≡ allowed
    same_allowed = fun_ext (λ v. r_is v ∙ regroup (A v) (not (X v)) (not (Y v)) (not (bad v)))
      where
        regroup : (a b c d : Bool) → (((a && b) && c) && d) ≡ (a && (b && (c && d)))
        regroup true true c d = refl
        regroup true false c d = refl
        regroup false b c d = refl

    pub allowed_within : Within g.vertices R
    allowed_within v e = ((above v).0 (let p = r_is v in grind arith)).vertex

    pub frame : IsFrame near R X Y
    frame = record {
      turn = turn (cut_arrows g (firsts X B)) (graph_arrows g (firsts X B) ok) X Y xl yl A above near is_near;
      x_fixed = λ v e. let p = r_is v in grind arith;
      y_fixed = λ v e. let p = r_is v in grind arith;
    }

    pub sets_listed : (most : ℕ) (sets : List VSet) (more : Bool) → IsListingOf (IsMinimalSeparator near R X Y) most sets more
        → IsListingOf (IsMinimalSet g X Y) most sets more
    sets_listed most sets more l = record {
      each = λ k d lt. set_of (has (get_or sets k d).bits) (l.each k d lt);
      sorted = l.sorted;
      few = l.few;
      all = λ m z k. l.all m z (subst (λ r. IsMinimalSeparator near r X Y z) (sym same_allowed) (to_separator z k));
      full = l.full;
      another = λ m. let a = l.another m in (a.0, set_of (has a.0.bits) a.1, a.2);
    }
      where
        set_of : (z : ℕ → Bool) → IsMinimalSeparator near R X Y z → IsMinimalSet g X Y z
        set_of z k = to_set z (subst (λ r. IsMinimalSeparator near r X Y z) same_allowed k)

-- the same from the back-door graph as it is handed over
module _ (g : MixedGraph) (ok : IsMixedGraph g) (X Y : ℕ → Bool) (xl : Within g.vertices X) (yl : Within g.vertices Y) (xy : Apart X Y)
    (B bad : ℕ → Bool) (is_between : (v : ℕ) → IsTrue (B v) ↔ IsBetween g X Y v) (below : (v : ℕ) → IsTrue (bad v) ↔ IsDescendant g B v)
    (h : MixedGraph) (is_h : IsBackDoorGraph g X Y h) (U A : ℕ → Bool) (u_is : (v : ℕ) → U v ≡ (X v || Y v)) (above : (v : ℕ) → IsTrue (A v) ↔ IsAncestor h U v)
    (near : ℕ → ℕ → Bool) (is_near : IsNear h A near) (R : ℕ → Bool) (r_is : (v : ℕ) → R v ≡ (((A v && not (X v)) && not (Y v)) && not (bad v))) where
  graph_is : h ≡ cut_arrows g (firsts X B)
  graph_is = back_door_graph_is g ok X Y xl B is_between h is_h

  forbidden : (v : ℕ) → IsTrue (bad v) ↔ IsForbidden g X Y v
  forbidden = forbidden_is g ok X Y xl B bad is_between below

  above_cut : (v : ℕ) → IsTrue (A v) ↔ IsAncestor (cut_arrows g (firsts X B)) (λ v. X v || Y v) v
  above_cut v = subst (λ k. IsTrue (A v) ↔ IsAncestor k (λ v. X v || Y v) v) graph_is
      (subst (λ (s : ℕ → Bool). IsTrue (A v) ↔ IsAncestor h s v) (fun_ext u_is) (above v))

  near_cut : IsNear (cut_arrows g (firsts X B)) A near
  near_cut = subst (λ k. IsNear k A near) graph_is is_near

  pub handed_within : Within g.vertices R
  handed_within = allowed_within g ok X Y xl yl xy B bad is_between forbidden A above_cut near near_cut R r_is

  pub handed_frame : IsFrame near R X Y
  handed_frame = frame g ok X Y xl yl xy B bad is_between forbidden A above_cut near near_cut R r_is

  pub handed_sets : (most : ℕ) (sets : List VSet) (more : Bool) → IsListingOf (IsMinimalSeparator near R X Y) most sets more
      → IsListingOf (IsMinimalSet g X Y) most sets more
  handed_sets = sets_listed g ok X Y xl yl xy B bad is_between forbidden A above_cut near near_cut R r_is

-- the formula of a minimal set is the effect
pub minimal_adjusts : (g : MixedGraph) → IsMixedGraph g → (x y z : ℕ) → Within g.vertices (has x) → Within g.vertices (has y) → Apart (has x) (has y)
    → IsMinimalSet g (has x) (has y) (has z)
    → EqualsEffect g (effect_on x y) (adjustment_formula x y z)
minimal_adjusts g ok x y z xl yl xy k =
    admissible_adjusts g ok x y z (record {
      x_within = xl;
      y_within = yl;
      w_within = k.within;
      x_y = xy;
      x_w = flipped (has z) (has x) k.x_apart;
      y_w = flipped (has z) (has y) k.y_apart;
    }) k.admissible
  where
    flipped : (s t : ℕ → Bool) → Apart s t → Apart t s
    flipped s t apart v e = false_from_ne_true (s v) (λ h. not_both (t v) e (apart v h))
