use Rattle.std.proofs.Common.{◌≡◌, refl, ℕ, false, get_or, inl, inr, ap, ◌∙◌, arith}
use Rattle.std.proofs.lemmas.Bool.{cases_lt}
use Rattle.std.proofs.lemmas.List.{length-replicate, get_or_past}
use Rattle.mixed_graph.specs.Vocabulary.{has}
use Rattle.mixed_graph.proofs.Masks.{has-zero}
use Rattle.mixed_graph.proofs.PairMasks.{blank}
use Rattle.do_rules.proofs.cuts.rows.without.Goals as goal

pub loop-u-init : goal.loop-u-init
loop-u-init c = (λ a b h. absurd (omega arith), λ a h. blank 64 a, length-replicate {A = ℕ} 64 0)

pub returns : goal.returns
returns c = λ u v. elim (cases_lt u 64) [
  | inl lt ↦ c.loop-u.invariant.0 u v (omega arith)
  | inr ge ↦ ap (λ m. has m v) (c.loop-u.invariant.1 u (omega arith)) ∙ has-zero v
      ∙ (let z : has (get_or c.args.rows.now u 0) v ≡ false = ap (λ m. has m v) (get_or_past c.args.rows.now u 0 (omega arith)) ∙ has-zero v in rw z refl)
]
