-- What breaks the adjustment criterion makes one stratum exceed the effect.
use Rattle.std.proofs.Common.{◌⊎◌, inl, inr, ℕ, zero, suc, ◌≡◌, ◌<◌, ◌≤◌, Bool, true, false, ◌&&◌, List, [], ◌∷◌, length, refl, sym, ap, ◌∙◌, subst}
use Rattle.std.proofs.Common.{IsTrue, slice_index, arith}
use Rattle.mixed_graph.specs.Vocabulary.{has, MixedGraph, IsMixedGraph, IsDirectedPath}
use Rattle.std.proofs.lemmas.Bool.{cases_lt}
use Rattle.m_separation.specs.declared.marks.Mark.TheVariants.{Out}
use Rattle.m_separation.specs.Vocabulary.{Step, IsWalk, IsOpenWalk, last, heads_first, heads_second}
use Rattle.m_separation.proofs.Going.{passed_from_start}
use Rattle.finite_models.proofs.Bools.{not_both}
use Rattle.do_rules.specs.Vocabulary.{AreThreeSets}
use Rattle.adjustment.specs.Proper.{AreOutside, IsCausal, IsOn, IsProperPath}
use Rattle.walk_models.specs.Vocabulary.{vertex_at, AreStrictFrom, IsCausalOutside, IsLate}
use Rattle.walk_models.proofs.Firsts.{search}
use Rattle.walk_models.proofs.LateSteps.{causal_marks, causal_outside, late_walks_exceed}
use Rattle.walk_models.proofs.Middle.{middles_exceed}
use Rattle.walk_models.proofs.Stricts.{StrictSteps, late_or_causal, late_from, around, walk_of, visits, starts_at, ends_at}
use Rattle.prob_expr.specs.Vocabulary.{FailsSomewhere, effect_on}
use Rattle.adjustment.specs.declared.criteria.AdjFault.{AdjFault}
use Rattle.adjustment.specs.declared.criteria.AdjFault.TheVariants.{Forbidden, Unblocked}
use Rattle.adjustment.specs.Criteria.{IsForbidden}
use Rattle.adjustment.specs.Faults.{IsAdjustmentFault, steps_of}
use Rattle.adjustment.specs.Formulas.{adjustment_formula}
use Rattle.adjustment.specs.Laws.{FaultsFail, AdjustsExactly}
use Rattle.adjustment.proofs.Effects.{admissible_adjusts}
use Rattle.adjustment.proofs.Exceeding.{Exceeds, exceeds_fails}

-- causal steps outside x, and back
causal_from : (x : ℕ → Bool) (r : List Step) → IsCausal r → AreOutside x r → IsCausalOutside x r
causal_from x [] c o = tt
causal_from x (s ∷ r) c o = (c.0, o.0, causal_from x r c.1 o.1)

is_causal : (x : ℕ → Bool) (r : List Step) → IsCausalOutside x r → IsCausal r
is_causal x [] c = tt
is_causal x (s ∷ r) c = (c.0, is_causal x r c.2)

not_met : (z : ℕ → Bool) (h : Bool) (v : ℕ) (s : Step) → s.mark ≡ Out → z v ≡ false → z v ≡ (h && heads_first s.mark)
not_met z h v s e out = out ∙ sym (ap (λ k. h && heads_first k) e ∙ go h)
  where
    go : (h : Bool) → (h && false) ≡ false
    go true = refl
    go false = refl

-- a causal path without a visit in z is strict for z
causal_strict : (x z : ℕ → Bool) (h : Bool) (v : ℕ) (r : List Step) → IsCausalOutside x r → ((i : ℕ) → i ≤ length r → z (vertex_at v r i) ≡ false)
    → AreStrictFrom z h v r
causal_strict x z h v [] c none = none 0 (omega arith)
causal_strict x z h v (s ∷ r) c none = (
  not_met z h v s c.0 (none 0 (omega arith)),
  causal_strict x z (heads_second s.mark) s.to r c.2 (λ i le. none (suc i) (omega (arith, le))),
)

abbrev IsFree : (ℕ → Bool) → ℕ → List Step → Type 0
IsFree z v r = (i : ℕ) → i ≤ length r → z (vertex_at v r i) ≡ false

module _ (g : MixedGraph) (x z : ℕ → Bool) (u : ℕ) (out : x u ≡ false) (t : ℕ) (inside : z t ≡ true) where
  -- from u down to z and back, and on along a causal path
  turn : (h : Bool) (r : List Step) → IsWalk g u r → IsCausalOutside x r → IsFree z u r → (path : List ℕ) → IsDirectedPath g u path t
      → StrictSteps g z (IsLate x) h u (last u r)
  turn h r walk c none [] leads = absurd (not_both (z t) inside (ap z (sym leads ∙ sym (starts_at u r)) ∙ none 0 (omega arith)))
  turn h r walk c none (w ∷ rest) leads =
      around g x z h u w rest t leads.0 leads.1 inside (ap z (sym (starts_at u r)) ∙ none 0 (omega arith)) out r walk (causal_strict x z false u r c none) c

  module _ (path : List ℕ) (leads : IsDirectedPath g u path t) where
    turn_at : (h : Bool) (v : ℕ) (r : List Step) → IsWalk g v r → IsCausalOutside x r → IsFree z v r → u ≡ v → StrictSteps g z (IsLate x) h v (last v r)
    turn_at h v r walk c none same =
        subst (λ v. IsWalk g v r → IsFree z v r → StrictSteps g z (IsLate x) h v (last v r)) same (λ k n. turn h r k c n path leads) walk none

    -- and so where the path comes to u later
    along_path : (h : Bool) (v : ℕ) (r : List Step) → IsWalk g v r → IsCausalOutside x r → IsFree z v r → IsOn u v r → StrictSteps g z (IsLate x) h v (last v r)
    along_path h v [] walk c none same = turn_at h v [] walk c none same
    along_path h v (s ∷ r) walk c none (inl same) = turn_at h v (s ∷ r) walk c none same
    along_path h v (s ∷ r) walk c none (inr on) =
        let d = along_path (heads_second s.mark) s.to r walk.1 c.2 (λ i le. none (suc i) (omega (arith, le))) on in
        record {
          steps = s ∷ d.steps;
          walk = (walk.0, d.walk);
          strict = (not_met z h v s c.0 (none 0 (omega arith)), d.strict);
          ends = d.ends;
          holds =
              inr d.holds;
        }

module _ (g : MixedGraph) (ok : IsMixedGraph g) (x y z : ℕ → Bool) (sets : AreThreeSets g.vertices x y z) where
  late : (v : ℕ) (r : List Step) → IsTrue (x v) → IsTrue (y (last v r)) → StrictSteps g z (IsLate x) false v (last v r) → Exceeds g x y z
  late v r begins ends d = late_walks_exceed g ok x y z v d.steps (sets.x_within v begins) begins
      (subst (λ u. IsTrue (y u)) (sym d.ends) ends) d.walk d.strict d.holds

  -- an open proper path that isn't causal
  pub unblocked_exceeds : (v : ℕ) (r : List Step) → IsProperPath g x y v r → (IsCausal r → ⊥) → IsOpenWalk g x y z v r → Exceeds g x y z
  unblocked_exceeds v r p not_causal o = elim (late_or_causal x r p.outside) [
    | inl c ↦ absurd (not_causal (is_causal x r c))
    | inr l ↦ late v r p.begins p.ends (late_from g x z false v r o.walk (passed_from_start g z v r o.first_outside o.passed) o.last_outside p.outside l)
  ]

  -- a member of z on a causal path: the first is an inner vertex
  on_path : (v : ℕ) (r : List Step) → IsProperPath g x y v r → IsCausal r → (n : ℕ) → n ≤ length r → z (vertex_at v r n) ≡ true
      → ((i : ℕ) → i < n → z (vertex_at v r i) ≡ false) → Exceeds g x y z
  on_path v r p causal zero low inside before = absurd (not_both (z v) (ap z (sym (starts_at v r)) ∙ inside) (sets.x_w v p.begins))
  on_path v r p causal (suc k) low inside before =
      middles_exceed g ok x y z (walk_of v r) k (visits g ok v r (sets.x_within v p.begins) p.walk) (λ i. refl)
      (ap x (starts_at v r) ∙ p.begins) (ap y (ends_at v r) ∙ p.ends)
      (causal_marks x r (causal_from x r causal p.outside)) (causal_outside x v r (causal_from x r causal p.outside))
      (ap z (starts_at v r) ∙ sets.x_w v p.begins) (inner (cases_lt (suc k) (length r))) inside (λ i some le. before i (omega (arith, le)))
    where
      inner : (suc k < length r) ⊎ (length r ≤ suc k) → suc k < length r
      inner (inl lt) = lt
      inner (inr ge) =
          absurd (not_both (z (last v r)) (ap z (sym (ends_at v r) ∙ ap (vertex_at v r) (let same : length r ≡ suc k = omega (arith, low, ge) in same))
          ∙ inside) (sets.y_w (last v r) p.ends))

  -- a member of z below a causal path
  pub forbidden_exceeds : (t : ℕ) → IsTrue (z t) → IsForbidden g x y t → Exceeds g x y z
  forbidden_exceeds t inside f =
      let b = f.between in
      let p = b.proper in
      elim (search (λ i. z (vertex_at b.first b.steps i)) (length b.steps)) [
        | inl none ↦ late b.first b.steps p.begins p.ends (along_path g x z f.from b.outside t inside f.path f.leads false b.first b.steps p.walk
            (causal_from x b.steps b.causal p.outside) none b.on)
        | inr met ↦ on_path b.first b.steps p b.causal met.at met.low met.inside met.before
      ]

-- ---- so the formula fails
pub faults_fail : FaultsFail
faults_fail = λ g ok x y z sets f. go g ok x y z sets f
  where
    go : (g : MixedGraph) → IsMixedGraph g → (x y z : ℕ) → AreThreeSets g.vertices (has x) (has y) (has z) → (f : AdjFault)
        → IsAdjustmentFault g (has x) (has y) (has z) f
        → FailsSomewhere g (effect_on x y) (adjustment_formula x y z)
    go g ok x y z sets (Forbidden v) k = exceeds_fails g ok x y z (forbidden_exceeds g ok (has x) (has y) (has z) sets v k.member k.holds)
    go g ok x y z sets (Unblocked p) k =
        exceeds_fails g ok x y z (unblocked_exceeds g ok (has x) (has y) (has z) sets (slice_index p.vertices 0)
        (steps_of p) k.1.proper k.1.not_causal k.1.open_path.walk)

pub adjusts_exactly : AdjustsExactly
adjusts_exactly = λ g ok x y z sets. (
  admissible_adjusts g ok x y z sets,
  λ all.
      let breaks = λ (d : Exceeds g (has x) (has y) (has z)). let k = exceeds_fails g ok x y z d in k.unequal (all k.model k.fits k.positive k.at k.within) in
      record {
        clear = λ v inside f. breaks (forbidden_exceeds g ok (has x) (has y) (has z) sets v inside f);
        blocked = λ v r p not_causal o. breaks (unblocked_exceeds g ok (has x) (has y) (has z) sets v r p not_causal o);
      },
)
