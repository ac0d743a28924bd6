use Rattle.std.proofs.Common.{◌≡◌, ◌≢◌, ℕ, false, get_or, length-set, ap, ◌∙◌, arith, inl, inr, refl}
use Rattle.std.proofs.lemmas.Bool.{cases_eq, cases_lt}
use Rattle.std.proofs.lemmas.List.{get_or-set_same, get_or-set_other, get_or_past, length-replicate}
use Rattle.mixed_graph.specs.Bits.{has}
use Rattle.mixed_graph.proofs.Masks.{has-zero}
use Rattle.mixed_graph.proofs.PairMasks.{blank}
use Rattle.mixed_graph.proofs.mixed.kept.Goals as goal

pub loop-v-init : goal.loop-v-init
loop-v-init c = (λ a b h. absurd (omega arith), λ a h. blank 64 a, length-replicate {A = ℕ} 64 0)

pub loop-v-preserved : goal.loop-v-preserved
loop-v-preserved c = (
  λ a b h. elim (cases_eq a c.loop-v.v) [
    | inl e ↦ rw e (ap (λ m. has m b) (get_or-set_same c.loop-v.out c.loop-v.v _ 0 (omega arith))
        ∙ (let p = c.only_if.ensures b in let q = c.intersection.ensures.members b in let r = c.has.ensures in grind arith))
    | inr d ↦ ap (λ m. has m b) (get_or-set_other c.loop-v.out c.loop-v.v a _ 0 d) ∙ c.loop-v.invariant.0 a b (omega arith)
  ],
  λ a h. (let d : a ≢ c.loop-v.v = omega arith in get_or-set_other c.loop-v.out c.loop-v.v a _ 0 d ∙ c.loop-v.invariant.1 a (omega arith)),
  simp length-set c.loop-v.invariant.2,
)

pub returns : goal.returns
returns c = λ a b. elim (cases_lt a 64) [
  | inl lt ↦ c.loop-v.invariant.0 a b (omega arith)
  | inr ge ↦
      ap (λ m. has m b) (c.loop-v.invariant.1 a (omega arith)) ∙ has-zero b
      ∙ (let z : has (get_or c.args.rows.now a 0) b ≡ false = ap (λ m. has m b) (get_or_past c.args.rows.now a 0 (omega arith)) ∙ has-zero b in rw z refl)
]
