-- What is written for parts that are accepted and well made is read again.
use Rattle.std.proofs.Common.{ℕ, ◌≡◌, true, not, List, [], ◌∷◌, subst}
use Rattle.mixed_graph.specs.Vocabulary.{MixedGraph, IsMixedGraph, is_below, is_empty}
use Rattle.finite_models.proofs.Bools.{and_first, and_second}
use Rattle.derived_parts.specs.Accepted.{is_set}
use Rattle.derived_parts.specs.Vocabulary.{AreAccepted, IsAcceptedPart, PlainDerivedPart, district_target}
use Rattle.derived_parts.proofs.Turns.{target_is_term}
use Rattle.certificate_json.specs.Vocabulary.{ArePartsShallow, ArePartsWithin, IsPartWithin}
use Rattle.effect_answers.proofs.Shallow.{formula_shallow}
use Rattle.effect_answers.proofs.Within.{derivation_within}
use Rattle.part_checks.specs.Vocabulary.{AreWellMade, IsWellMade}

part_within : (g : MixedGraph) → IsMixedGraph g → (c : ℕ) (p : PlainDerivedPart) → IsAcceptedPart g c p → IsWellMade g.vertices p → IsPartWithin g.vertices p
part_within g ok c p is made =
    let set = subst (λ k. is_set g.vertices k ≡ true) is.district made.district in record {
      district = and_first (is_below g.vertices p.district) (not (is_empty p.district)) made.district;
      some = and_second (is_below g.vertices p.district) (not (is_empty p.district)) made.district;
      formed = made.formed;
      derivation = derivation_within g ok [] (district_target g c) p.formula p.derivation (target_is_term g.vertices c set) is.accepted;
    }

-- their sets and vertices are those of the graph
pub parts_within : (g : MixedGraph) → IsMixedGraph g → (cs : List ℕ) (ps : List PlainDerivedPart) → AreAccepted g cs ps → AreWellMade g.vertices ps
    → ArePartsWithin g.vertices ps
parts_within g ok [] [] a made = tt
parts_within g ok [] (p ∷ ps) a made = absurd a
parts_within g ok (c ∷ cs) [] a made = absurd a
parts_within g ok (c ∷ cs) (p ∷ ps) a made = (part_within g ok c p a.0 made.0, parts_within g ok cs ps a.1 made.1)

-- and they nest little
pub parts_shallow : (n : ℕ) (ps : List PlainDerivedPart) → AreWellMade n ps → ArePartsShallow ps
parts_shallow n [] made = tt
parts_shallow n (p ∷ ps) made = (formula_shallow p.formula p.derivation made.0.few made.0.nodes made.0.steps, parts_shallow n ps made.1)
