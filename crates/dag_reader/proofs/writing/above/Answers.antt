use Rattle.std.proofs.Common.{◌≡◌, ℕ, false, get_or, arith, inl, inr, refl, ap, ◌∙◌}
use Rattle.std.proofs.lemmas.Bool.{cases_lt}
use Rattle.std.proofs.lemmas.List.{get_or_past, length-replicate}
use Rattle.mixed_graph.specs.Vocabulary.{has}
use Rattle.mixed_graph.proofs.Masks.{has-zero}
use Rattle.mixed_graph.proofs.PairMasks.{blank}
use Rattle.dag_reader.proofs.writing.above.Goals as goal

pub loop-v-init : goal.loop-v-init
loop-v-init c = record { done = λ a b h. absurd (omega arith); rest = λ a h. blank 64 a; size = length-replicate {A = ℕ} 64 0 }

pub returns : goal.returns
returns c = λ a b. elim (cases_lt a 64) [
  | inl lt ↦ c.loop-v.invariant.done a b (omega arith)
  | inr ge ↦
      ap (λ m. has m b) (c.loop-v.invariant.rest a (omega arith)) ∙ has-zero b
      ∙ (let z : has (get_or c.args.rows.now a 0) b ≡ false = ap (λ m. has m b) (get_or_past c.args.rows.now a 0 (omega arith)) ∙ has-zero b in rw z refl)
]
