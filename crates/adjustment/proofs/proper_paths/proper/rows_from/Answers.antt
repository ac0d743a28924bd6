use Rattle.std.proofs.Common.{◌≡◌, ◌≢◌, ℕ, false, length-set, ap, ◌∙◌, arith, inl, inr, refl}
use Rattle.std.proofs.lemmas.Bool.{cases_eq, cases_lt}
use Rattle.std.proofs.lemmas.List.{get_or-set_same, get_or-set_other, length-replicate}
use Rattle.mixed_graph.specs.Vocabulary.{has}
use Rattle.mixed_graph.proofs.Masks.{has-zero, has-above}
use Rattle.mixed_graph.proofs.PairMasks.{blank}
use Rattle.adjustment.proofs.proper_paths.proper.rows_from.Goals as goal

pub loop-u-init : goal.loop-u-init
loop-u-init c = (λ a b h. absurd (omega arith), λ a h. blank 64 a, length-replicate {A = ℕ} 64 0, omega arith)

pub loop-u-preserved : goal.loop-u-preserved
loop-u-preserved c = (
  λ a b h. elim (cases_eq a c.loop-u.u) [
    | inl e ↦ rw e (ap (λ m. has m b) (get_or-set_same c.loop-u.rows c.loop-u.u _ 0 (omega arith))
        ∙ (let p = c.only_if.ensures b in let r = c.has.ensures in grind arith))
    | inr d ↦ ap (λ m. has m b) (get_or-set_other c.loop-u.rows c.loop-u.u a _ 0 d) ∙ c.loop-u.invariant.0 a b (omega arith)
  ],
  λ a h. (let d : a ≢ c.loop-u.u = omega arith in get_or-set_other c.loop-u.rows c.loop-u.u a _ 0 d ∙ c.loop-u.invariant.1 a (omega arith)),
  simp length-set c.loop-u.invariant.2,
  c.loop-u.invariant.3,
)

pub returns : goal.returns
returns c = λ a b. elim (cases_lt a 64) [
  | inl lt ↦ c.loop-u.invariant.0 a b (omega arith)
  | inr ge ↦
      ap (λ m. has m b) (c.loop-u.invariant.1 a (omega arith)) ∙ has-zero b
      ∙ (let z : has c.args.tails.bits a ≡ false = has-above c.args.tails.bits a c.loop-u.invariant.3 ge in rw z refl)
]
