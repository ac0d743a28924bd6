-- The vertices of each role, as four sets.
use Rattle.std.specs.Prelude.{ℕ, Bool}
use Rattle.mixed_graph.specs.Vocabulary.{has, Within, Apart}
use Rattle.dag_reader.specs.declared.marks.Role.{Role}
use Rattle.dag_reader.specs.declared.marks.Role.TheVariants.{Exposure, Outcome, Adjusted, Latent}
use Rattle.dag_reader.specs.declared.roles.Roles.{Roles}

-- the one of four sets that is the role's
abbrev pub set_of : (exposures outcomes adjusted latent : ℕ) → Role → ℕ
set_of e o a l Exposure = e
set_of e o a l Outcome = o
set_of e o a l Adjusted = a
set_of e o a l Latent = l

-- whether the vertex is in the set of the role
abbrev pub in_set : Roles → Role → ℕ → Bool
in_set s r v = has (set_of s.exposures.bits s.outcomes.bits s.adjusted.bits s.latent.bits r) v

-- the four sets are below n, and no two of them have a member in common
pub record AreRoleSets (n exposures outcomes adjusted latent : ℕ) : Type 0 where
  pub exposures_below : Within n (has exposures)
  pub outcomes_below : Within n (has outcomes)
  pub adjusted_below : Within n (has adjusted)
  pub latent_below : Within n (has latent)
  pub exposures_outcomes : Apart (has exposures) (has outcomes)
  pub exposures_adjusted : Apart (has exposures) (has adjusted)
  pub exposures_latent : Apart (has exposures) (has latent)
  pub outcomes_adjusted : Apart (has outcomes) (has adjusted)
  pub outcomes_latent : Apart (has outcomes) (has latent)
  pub adjusted_latent : Apart (has adjusted) (has latent)
