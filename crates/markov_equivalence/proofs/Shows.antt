-- The first difference of two graphs shows a separation that holds in one of them alone.
use Rattle.std.proofs.Common.{ℕ, ◌≡◌, ◌≢◌, ◌<◌, Bool, true, false, [], inl, inr, refl, sym, ◌∙◌, arith, subst}
use Rattle.std.proofs.lemmas.Bool.{cases_Bool, cases_order, or_cases}
use mathlib.Core.Path.{fun_ext}
use Rattle.mixed_graph.specs.Vocabulary.{MixedGraph, IsMixedGraph}
use Rattle.markov_equivalence.specs.Skeletons.{HasArrowsAlone, is_adjacent, is_unshielded_collider, HaveSameSkeleton}
use Rattle.markov_equivalence.specs.Laters.{IsAfter, AreParentsOfLater}
use Rattle.markov_equivalence.specs.Sides.{one_of, other_side, side_without}
use Rattle.markov_equivalence.specs.declared.sides.Side.{Side}
use Rattle.markov_equivalence.specs.declared.sides.Side.TheVariants.{First, Second}
use Rattle.markov_equivalence.specs.Comparisons.{SeparatesInOne}
use Rattle.markov_equivalence.proofs.ParentsSeparate.{differs, differs_back, edge_way, collider_way}
use Rattle.markov_equivalence.proofs.Places.{place_in, rises, later_place}

pub no_loop : (g : MixedGraph) → IsMixedGraph g → (a : ℕ) → g.arrow a a ≡ false
no_loop g valid a = elim (cases_Bool (g.arrow a a)) [
  | inl e ↦ absurd (valid.acyclic a a [] (e, refl))
  | inr e ↦ e
]

-- an arrow joins a and b exactly where one joins b and a
pub turned : (g : MixedGraph) (a b : ℕ) → is_adjacent g a b ≡ is_adjacent g b a
turned g a b = grind arith

turned_collider : (g : MixedGraph) (a m b : ℕ) → is_unshielded_collider g a m b ≡ is_unshielded_collider g b m a
turned_collider g a m b = grind arith

-- equal skeletons, whichever vertex is the lower one
same_pairs : (g h : MixedGraph) → IsMixedGraph g → IsMixedGraph h → HaveSameSkeleton g h → (a b : ℕ) → is_adjacent g a b ≡ is_adjacent h a b
same_pairs g h gv hv same a b = elim (cases_order a b) [
  | inl e ↦ rw e (let p = no_loop g gv b in let q = no_loop h hv b in grind arith)
  | inr (inl lt) ↦ same a b lt
  | inr (inr gt) ↦ turned g a b ∙ same b a gt ∙ turned h b a
]

module _ (k g : MixedGraph) (valid : IsMixedGraph k) (none : HasArrowsAlone k) (a b : ℕ) (s : ℕ → Bool) (given : AreParentsOfLater k a b s)
    (gvalid : IsMixedGraph g) (free : is_adjacent k a b ≡ false) where
  later_of : (a b : ℕ) (after : IsAfter k a b) → place_in after.list after.count a < place_in after.list after.count b
  later_of a b after =
      let p = later_place k valid after.list after.count after.order after.i after.j after.ascends after.within in
      rw (after.earlier, after.later) at p

  edge_below : is_adjacent g a b ≡ true → a < g.vertices
  edge_below edge = elim (or_cases (g.arrow a b) (g.arrow b a) edge) [
    | inl e ↦ gvalid.tail_below a b e
    | inr e ↦ gvalid.head_below b a e
  ]

  shown_edge : is_adjacent g a b ≡ true → SeparatesInOne k g a b s
  shown_edge edge = elim given [
    | inl (after, same) ↦
        let place = place_in after.list after.count in
        let up = rises k valid after.list after.count after.order in
        let later = later_of a b after in
        subst (λ p. SeparatesInOne k g a b p) (sym (fun_ext same)) (differs k place up a b later g none free (edge_below edge)
        (edge_way k place up a b later g none free edge))
    | inr (after, same) ↦
        let place = place_in after.list after.count in
        let up = rises k valid after.list after.count after.order in
        let later = later_of b a after in
        let free' : is_adjacent k b a ≡ false = turned k b a ∙ free in
        subst (λ p. SeparatesInOne k g a b p) (sym (fun_ext same)) (differs_back k place up b a later g none free' (edge_below edge)
        (edge_way k place up b a later g none free' (turned g b a ∙ edge)))
  ]

  shown_collider : ((u v : ℕ) → is_adjacent g u v ≡ is_adjacent k u v) → (m : ℕ) → is_unshielded_collider g a m b ≡ true → is_unshielded_collider k a m b
      ≡ false → SeparatesInOne k g a b s
  shown_collider pairs m in_g not_in_k = elim given [
    | inl (after, same) ↦
        let place = place_in after.list after.count in
        let up = rises k valid after.list after.count after.order in
        let later = later_of a b after in
        subst (λ p. SeparatesInOne k g a b p) (sym (fun_ext same)) (differs k place up a b later g none free (gvalid.tail_below a m (grind (arith, in_g)))
        (collider_way k place up a b later g none free gvalid pairs m in_g not_in_k))
    | inr (after, same) ↦
        let place = place_in after.list after.count in
        let up = rises k valid after.list after.count after.order in
        let later = later_of b a after in
        let free' : is_adjacent k b a ≡ false = turned k b a ∙ free in
        subst (λ p. SeparatesInOne k g a b p) (sym (fun_ext same)) (differs_back k place up b a later g none free' (gvalid.tail_below a m (grind (arith, in_g)))
        (collider_way k place up b a later g none free' gvalid pairs m (turned_collider g b m a ∙ in_g) (turned_collider k b m a ∙ not_in_k)))
  ]

other_of : (x y : Bool) → x ≢ y → (y ≡ true → x ≡ false) × (y ≡ false → x ≡ true)
other_of true y d = (λ e. absurd (d (sym e)), λ e. refl)
other_of false y d = (λ e. refl, λ e. absurd (d (sym e)))

in_second : (b : Bool) → First ≡ side_without b → b ≡ true
in_second true e = refl
in_second false e = cc e

in_first : (b : Bool) → Second ≡ side_without b → b ≡ false
in_first true e = cc e
in_first false e = refl

module _ (g h : MixedGraph) (gv : IsMixedGraph g) (hv : IsMixedGraph h) (gn : HasArrowsAlone g) (hn : HasArrowsAlone h) (a b : ℕ) (s : ℕ → Bool) where
  -- an edge that one graph has alone: the first graph is named where the second has it
  pub edge_shown : (side : Side) → is_adjacent g a b ≢ is_adjacent h a b → side ≡ side_without (is_adjacent h a b) → AreParentsOfLater (one_of g h side) a b s
      → SeparatesInOne (one_of g h side) (one_of g h (other_side side)) a b s
  edge_shown First other named given =
      let e = in_second (is_adjacent h a b) named in shown_edge g h gv gn a b s given hv ((other_of (is_adjacent g a b) (is_adjacent h a b) other).0 e) e
  edge_shown Second other named given =
      let e = in_first (is_adjacent h a b) named in shown_edge h g hv hn a b s given gv e ((other_of (is_adjacent g a b) (is_adjacent h a b) other).1 e)

  -- an unshielded collider that one graph has alone: the first graph is named where the second has it
  pub collider_shown : HaveSameSkeleton g h → (m : ℕ) (side : Side) → is_unshielded_collider g a m b ≢ is_unshielded_collider h a m b → side
      ≡ side_without (is_unshielded_collider h a m b)
      → AreParentsOfLater (one_of g h side) a b s → SeparatesInOne (one_of g h side) (one_of g h (other_side side)) a b s
  collider_shown same m First other named given =
      let pairs = same_pairs g h gv hv same in
      let e = in_second (is_unshielded_collider h a m b) named in
      let apart : is_adjacent g a b ≡ false = pairs a b ∙ grind (arith, e) in
      shown_collider g h gv gn a b s given hv apart (λ u v. sym (pairs u v)) m e
      ((other_of (is_unshielded_collider g a m b) (is_unshielded_collider h a m b) other).0 e)
  collider_shown same m Second other named given =
      let pairs = same_pairs g h gv hv same in
      let n = in_first (is_unshielded_collider h a m b) named in
      let e = (other_of (is_unshielded_collider g a m b) (is_unshielded_collider h a m b) other).1 n in
      let apart : is_adjacent h a b ≡ false = sym (pairs a b) ∙ grind (arith, e) in
      shown_collider h g hv hn a b s given gv apart pairs m e n
