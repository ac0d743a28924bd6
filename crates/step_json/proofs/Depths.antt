-- A step, where one may still nest, and where none may.
use Rattle.std.proofs.Common.{◌≡◌, ℕ, zero, suc, ◌-◌, ◌<◌, List, Err, refl, arith}
use Rattle.serde_json.specs.Data.{Data}
use Rattle.step_json.specs.Reading.{list_by, word_and_arguments, step_within}
use Rattle.step_json.specs.declared.fault.ValueFault.TheVariants.{TooDeep}

pub step_none : (names : List (List ℕ)) (d : Data) → step_within names 0 d ≡ Err TooDeep
unfolding step_within
step_none names d = refl

pub step_suc : (names : List (List ℕ)) (m : ℕ) (d : Data) → step_within names (suc m) d ≡ list_by (word_and_arguments names (step_within names m)) d
unfolding step_within
step_suc names m d = refl

pub step_some : (names : List (List ℕ)) (m : ℕ) (d : Data) → 0 < m → step_within names m d ≡ list_by (word_and_arguments names (step_within names (m - 1))) d
step_some names zero d h = absurd (omega arith)
step_some names (suc m) d h = let e : m ≡ suc m - 1 = omega arith in rw (← e) (step_suc names m d)
