-- How many names there are.
use Rattle.std.proofs.Common.{◌≡◌, ◌≤◌, ◌+◌, ◌&&◌, ℕ, length, sym, ap, arith, inl, inr}
use Rattle.std.specs.Prelude.{nat_lt}
use Rattle.std.proofs.lemmas.Bool.{cases_Bool}
use Rattle.mixed_graph.specs.Vocabulary.{has, members_below, Within}
use Rattle.latent_projection.proofs.Numbering.{length-members-cut}
use Rattle.treated_models.specs.Vocabulary.{name_count}

-- so many names there are with the primed ones
pub counted_names : (n x : ℕ) → n ≤ 64 → Within n (has x) → name_count n x ≡ n + length (members_below (has x) 64)
counted_names n x few within = ap (λ k. n + k) (sym (length-members-cut (has x) (has x) n 64 few cut))
  where
    cut : (v : ℕ) → has x v ≡ (nat_lt v n && has x v)
    cut v = elim (cases_Bool (has x v)) [
      | inl e ↦ let l = within v e in rw e (grind (arith, l))
      | inr e ↦ rw e (grind arith)
    ]
