-- Accepted parts make up the effect, in the observed graph and in the diagram as drawn.
use Rattle.std.proofs.Common.{ℕ, suc, ◌≡◌, Bool, true, false, refl, ap, arith, List, [], ◌∷◌, inr}
use Rattle.std.specs.Prelude.{All}
use Rattle.mixed_graph.specs.Vocabulary.{has, MixedGraph, IsMixedGraph, union, minus, all}
use Rattle.finite_models.proofs.Bools.{not_both}
use Rattle.hedge.specs.Vocabulary.{IsMaximalJoined, IsSetOf}
use Rattle.hedge.proofs.Collecting.{maximal_from}
use Rattle.identification_theory.specs.Vocabulary.{AreAncestorsIn}
use Rattle.identification_theory.proofs.Unique.{one_set}
use Rattle.treated_id.specs.Vocabulary.{AreAncestors, IsConfounded, IsTreatedTarget}
use Rattle.treated_parts.specs.Vocabulary.{EqualsAmongParts}
use Rattle.treated_drawn.proofs.Among.{q_mixed}
use Rattle.nested_models.specs.Vocabulary.{LeadsThrough}
use Rattle.natural_id.specs.Vocabulary.{AreAlike, EqualsNatural, IsNaturalTarget, PlainPart, ReadsBoth}
use Rattle.natural_id.proofs.Leading.{child_past}
use Rattle.natural_drawn.proofs.Formulas.{right_parts_are_drawn}
use Rattle.derived_parts.specs.Vocabulary.{PlainDerivedPart}
use Rattle.part_checks.specs.Natural.{AreEachAlike, AreNaturallyAccepted}
use Rattle.part_checks.specs.Reading.{AreReadAs, ReadsOwn, ReadsThrough}
use Rattle.part_checks.specs.Treated.{AreAcceptedAmong}
use Rattle.part_checks.proofs.Right.{natural_effect, treated_effect}
use Rattle.parts_drawn.specs.Laws.{AcceptedAmongMakeUp, AcceptedNestedMakeUp}
use Rattle.parts_drawn.proofs.Formulas.{treated_parts_are_drawn}

module _ (g : MixedGraph) (ok : IsMixedGraph g) where
  -- accepted parts equal the effect among the treated, however they are read
  pub among_made_up : (x y z a : ℕ) → IsTreatedTarget g x y z → (IsConfounded g x y z → ⊥) → (ps : List PlainDerivedPart) → AreAcceptedAmong g x y z ps
      → AreAncestors g x y z a → (read : List PlainPart) → AreReadAs (ReadsOwn x) ps read → EqualsAmongParts g x y z (minus a (union (union x z) y)) read
  among_made_up x y z a target clear ps accepted are read is =
      treated_effect g ok x y z (minus a (union (union x z) y)) target ps read (record {
        clear = clear;
        a = accepted.a;
        sets = accepted.sets;
        are = accepted.are;
        accepted = accepted.accepted;
        summed = ap (λ s. minus s (union (union x z) y)) (one_set a accepted.a _ are accepted.are.ancestors);
      }) is

  module _ (x m y z d through : ℕ) (target : IsNaturalTarget g x m y z) (clear : ReadsBoth g x m y z → ⊥)
      (are : AreAncestorsIn g (minus (all g.vertices) x) (union y z) d) (is_through : IsSetOf through (LeadsThrough g (has x) (has m) (has y))) where
    -- where no district reads both values of a treatment, its children in a district are alike
    alike : (c : ℕ) → IsMaximalJoined g d c → AreAlike g x through c
    alike c whole p v w e cv cw iv iw = go (has through v) (has through w) refl refl
      where
        split : (u k : ℕ) → g.arrow p u ≡ true → g.arrow p k ≡ true → has c u ≡ true → has c k ≡ true → has through u ≡ false → has through k ≡ true → ⊥
        split u k cu ck iu ik off on = clear (inr (
          record { treatment = p; district = record { bits = c }; first = u; second = k },
          record {
            from_x = e;
            d = d;
            ancestors = are;
            district = whole;
            first_in = iu;
            first_child = cu;
            past = child_past g ok x m y z d target.asked are p u e cu (whole.inside u iu)
                (λ h. not_both (has through u) (is_through.complete u h) off);
            second_in = ik;
            second_child = ck;
            through = is_through.sound k on;
          },
        ))

        go : (a b : Bool) → has through v ≡ a → has through w ≡ b → a ≡ b
        go true true h k = refl
        go false false h k = refl
        go true false h k = absurd (split w v cw cv iw iv k h)
        go false true h k = absurd (split v w cv cw iv iw h k)

    each_alike : (ts : List ℕ) → All (IsMaximalJoined g d) ts → AreEachAlike g x through ts
    each_alike [] whole = tt
    each_alike (t ∷ ts) whole = (alike t (whole 0 0 (omega arith)), each_alike ts (λ i k lt. whole (suc i) k (omega (arith, lt))))

  -- accepted parts equal the nested effect, however they are read
  pub nested_made_up : (x m y z d through : ℕ) → IsNaturalTarget g x m y z → (ReadsBoth g x m y z → ⊥) → (ps : List PlainDerivedPart)
      → AreNaturallyAccepted g x y z ps → AreAncestorsIn g (minus (all g.vertices) x) (union y z) d
      → IsSetOf through (LeadsThrough g (has x) (has m) (has y)) → (read : List PlainPart) → AreReadAs (ReadsThrough g x through) ps read
      → EqualsNatural g x m y z (minus d (union y z)) read
  nested_made_up x m y z d through target clear ps accepted are is_through read is =
      natural_effect g ok x m y z through (minus d (union y z)) target ps read (record {
        is_through = is_through;
        clear = clear;
        d = accepted.d;
        sets = accepted.sets;
        are = accepted.are;
        accepted = accepted.accepted;
        alike = each_alike x m y z accepted.d through target clear accepted.are.ancestors is_through accepted.sets
            (maximal_from g ok accepted.d accepted.sets accepted.are.districts);
        summed = ap (λ s. minus s (union y z)) (one_set d accepted.d _ are accepted.are.ancestors);
      }) is

pub accepted_among_make_up : AcceptedAmongMakeUp
accepted_among_make_up = λ g ok l q is x y z target clear ps accepted a are read reads.
    treated_parts_are_drawn g ok l q is x y z (minus a (union (union x z) y)) read
    (among_made_up q (q_mixed g ok l q is) x y z a target clear ps accepted are read reads)

pub accepted_nested_make_up : AcceptedNestedMakeUp
accepted_nested_make_up = λ g ok l q is x m y z target clear ps accepted d through are is_through read reads.
    right_parts_are_drawn g ok l q is x m y z (minus d (union y z)) read
    (nested_made_up q (q_mixed g ok l q is) x m y z d through target clear ps accepted are is_through read reads)
