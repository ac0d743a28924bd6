-- What stands at a place of a list of sets.
use Rattle.std.proofs.Common.{ℕ, ◌≡◌, Bool, true, false, not, List, get_or, IsTrue, refl, sym, ap, ◌∙◌}
use Rattle.std.specs.Prelude.{◌↔◌}
use Rattle.std.proofs.Math.ListN.{get_or-map}
use Rattle.std.proofs.lemmas.Bool.{eq-eqb, ne_eqb}
use Rattle.mixed_graph.specs.declared.sets.VSet.{VSet}
use Rattle.hidden_models.specs.Reaching.{mask_at, has_some}

pub mask_is : (sets : List VSet) (j : ℕ) → mask_at sets j ≡ (get_or sets j (record { bits = 0 })).bits
mask_is sets j = get_or-map (λ (s : VSet). s.bits) sets j (record { bits = 0 })

-- a set has a member where it isn't empty
pub some_is : (sets : List VSet) (j : ℕ) (b : Bool) → IsTrue b ↔ ((get_or sets j (record { bits = 0 })).bits ≡ 0) → has_some sets j ≡ not b
some_is sets j true h = ap not (eq-eqb (mask_at sets j) 0 (mask_is sets j ∙ h.0 refl))
some_is sets j false h = ap not (ne_eqb (mask_at sets j) 0 (λ z. absurd (let e : false ≡ true = h.1 (sym (mask_is sets j) ∙ z) in cc)))
