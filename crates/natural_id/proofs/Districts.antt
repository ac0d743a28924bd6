-- The districts of what leads to y and z outside x.
use Rattle.std.proofs.Common.{ℕ, ◌≡◌, ◌<◌, Bool, true, false, not, refl, sym, ap, ◌∙◌, ◌||◌, ◌&&◌, arith, List, [], ◌∷◌, inl, inr, ◌⊎◌}
use Rattle.std.proofs.lemmas.Bool.{and_from, false_from_ne_true}
use Rattle.mixed_graph.specs.Vocabulary.{has, MixedGraph, IsMixedGraph, IsDirectedPath, induced, union, minus, all}
use Rattle.mixed_graph.proofs.MaskLaws.{has_join, has_minus}
use Rattle.finite_models.proofs.Bools.{and_first, and_second, not_both, same_truth}
use Rattle.hedge.specs.Vocabulary.{IsInOne, AreApart, IsPartition}
use Rattle.hedge.proofs.Collecting.{parts_from}
use Rattle.do_rules.specs.Vocabulary.{cut_out}
use Rattle.identification_theory.specs.Vocabulary.{AreAncestorsIn}
use Rattle.identification_theory.proofs.Groups.{AreParts, are_parts}
use Rattle.identification_theory.proofs.Sets.{all-is}
use Rattle.treated_models.specs.Vocabulary.{is_in, AreUnjoined, AreFree}
use Rattle.nested_models.proofs.Witnesses.{no_witness_tells_apart}
use Rattle.natural_id.specs.Parts.{IsNaturalTarget, NaturalFormulaIsRight, districts_of}
use Rattle.natural_id.proofs.Values.{value_is}

-- ---- one of the sets, as a test
pub one_of : (ts : List ℕ) (v : ℕ) → is_in ts v ≡ true → IsInOne ts v
one_of [] v e = absurd (grind (arith, e))
one_of (t ∷ ts) v e = go (has t v) refl (one_of ts v)
  where
    go : (b : Bool) → has t v ≡ b → (is_in ts v ≡ true → IsInOne ts v) → (has t v ≡ true) ⊎ IsInOne ts v
    go true h f = inl h
    go false h f = inr (f (bools (has t v) (is_in ts v) h e))
      where
        bools : (a b : Bool) → a ≡ false → (a || b) ≡ true → b ≡ true
        bools a b h k = grind (arith, h, k)

pub in_one : (ts : List ℕ) (v : ℕ) → IsInOne ts v → is_in ts v ≡ true
in_one [] v h = absurd h
in_one (t ∷ ts) v (inl e) = bools (has t v) (is_in ts v) e
  where
    bools : (a b : Bool) → a ≡ true → (a || b) ≡ true
    bools a b h = grind (arith, h)
in_one (t ∷ ts) v (inr h) = bools (has t v) (is_in ts v) (in_one ts v h)
  where
    bools : (a b : Bool) → b ≡ true → (a || b) ≡ true
    bools a b h = grind (arith, h)

-- ---- parts that are closed within d are unjoined
pub unjoined : (g : MixedGraph) (d : ℕ) (ts : List ℕ) → AreParts g d ts → AreApart ts → ((v : ℕ) → IsInOne ts v → has d v ≡ true) → AreUnjoined g ts
unjoined g d [] parts apart inside = tt
unjoined g d (t ∷ ts) parts apart inside = (
  λ u v i j. (
    λ e. apart.0 v (ap (has t) (sym e) ∙ i) (one_of ts v j),
    false_from_ne_true (g.both u v) (λ e. apart.0 v (parts.0.t_closed u v e i (inside v (inr (one_of ts v j)))) (one_of ts v j)),
  ),
  unjoined g d ts parts.1 apart.1 (λ v h. inside v (inr h)),
)

free_of : (g : MixedGraph) (x d : ℕ) (ts : List ℕ) → ((v : ℕ) → has d v ≡ true → has x v ≡ false) → ((v : ℕ) → IsInOne ts v → has d v ≡ true)
    → AreFree g (has x) ts
free_of g x d [] off inside = tt
free_of g x d (t ∷ ts) off inside = (
  λ p v a i e. false_from_ne_true (has t p) (λ h. not_both (has x p) e (off p (inside p (inl h)))),
  free_of g x d ts off (λ v h. inside v (inr h)),
)

-- ---- what leads to y and z outside x
module _ (g : MixedGraph) (ok : IsMixedGraph g) (x m y z d : ℕ) (target : IsNaturalTarget g x m y z)
    (are : AreAncestorsIn g (minus (all g.vertices) x) (union y z) d) where
  abbrev others : ℕ
  others = minus (all g.vertices) x

  outside : (v : ℕ) → has others v ≡ true → has x v ≡ false
  outside v e = bools (has (all g.vertices) v) (has x v) (sym (has_minus (all g.vertices) x v) ∙ e)
    where
      bools : (a b : Bool) → (a && not b) ≡ true → b ≡ false
      bools a b h = grind (arith, h)

  other : (v : ℕ) → v < g.vertices → has x v ≡ false → has others v ≡ true
  other v il o = has_minus (all g.vertices) x v ∙ bools (has (all g.vertices) v) (has x v) (all-is g.vertices v il) o
    where
      bools : (a b : Bool) → a ≡ true → b ≡ false → (a && not b) ≡ true
      bools a b h k = grind (arith, h, k)

  asked : (v : ℕ) → (has y v || has z v) ≡ true → (v < g.vertices) × (has x v ≡ false)
  asked v e = go (has y v) refl
    where
      go : (b : Bool) → has y v ≡ b → (v < g.vertices) × (has x v ≡ false)
      go true h = (target.y_low v h, target.asked.y_x v h)
      go false h = let k = bools (has y v) (has z v) h e in (target.z_low v k, target.asked.z_x v k)
        where
          bools : (a b : Bool) → a ≡ false → (a || b) ≡ true → b ≡ true
          bools a b h k = grind (arith, h, k)

  pub asked_in : (v : ℕ) → (has y v || has z v) ≡ true → has d v ≡ true
  asked_in v e = are.complete v (record { vertex = (asked v e).0; path = []; end = v; leads = refl; inside = has_join y z v ∙ e })

  pub d_off : (v : ℕ) → has d v ≡ true → has x v ≡ false
  d_off v e = let k = are.sound v e in go k.end k.path k.leads k.inside
    where
      go : (end : ℕ) (path : List ℕ) → IsDirectedPath (induced g (has others)) v path end → has (union y z) end ≡ true → has x v ≡ false
      go end [] p i = (asked v (ap (λ u. has y u || has z u) p ∙ sym (has_join y z end) ∙ i)).1
      go end (c ∷ path) p i = outside v (and_first (has others v) (has others c) (and_second (g.arrow v c) (has others v && has others c) p.0))

  pub d_low : (v : ℕ) → has d v ≡ true → v < g.vertices
  d_low v e = (are.sound v e).vertex

  pub closed : (p v : ℕ) → (cut_out g (has x)).arrow p v ≡ true → has d v ≡ true → has d p ≡ true
  closed p v a i =
      let k = are.sound v i in let arrow = and_first (g.arrow p v) (not (has x p)) a in
      are.complete p (record {
        vertex = ok.tail_below p v arrow;
        path = v ∷ k.path;
        end = k.end;
        leads = (
          and_from (g.arrow p v) (has others p && has others v) arrow
              (and_from (has others p) (has others v) (other p (ok.tail_below p v arrow) (bools (has x p) (and_second (g.arrow p v) (not (has x p)) a)))
              (other v (d_low v i) (d_off v i))),
          k.leads,
        );
        inside = k.inside;
      })
    where
      bools : (b : Bool) → not b ≡ true → b ≡ false
      bools b h = grind (arith, h)

pub natural_formula_is_right : NaturalFormulaIsRight
natural_formula_is_right g ok x m y z d target none ps parts w fit positive s t hs ht =
    value_is g ok w fit positive x parts.through s t hs ht m y z d target
    (no_witness_tells_apart g (has x) (has m) (has y) (has parts.through) none parts.is_through.sound parts.is_through.complete)
    ps parts.right (d_off g ok x m y z d target parts.ancestors) (asked_in g ok x m y z d target parts.ancestors)
    (closed g ok x m y z d target parts.ancestors)
    (λ v. same_truth (is_in (districts_of ps) v) (has d v) (λ e. partition.inside v (one_of (districts_of ps) v e))
    (λ e. in_one (districts_of ps) v (partition.cover v e)))
    (unjoined g d (districts_of ps) (are_parts g ok d 0 parts.districts.order (districts_of ps) parts.districts.districts) partition.apart partition.inside)
    (free_of g x d (districts_of ps) (d_off g ok x m y z d target parts.ancestors) partition.inside)
  where
    partition : IsPartition d (districts_of ps)
    partition = parts_from g ok d (districts_of ps) (d_low g ok x m y z d target parts.ancestors) parts.districts
