-- Late steps by numbers.
use Rattle.std.proofs.Common.{ℕ, zero, suc, ◌≡◌, ◌≢◌, ◌<◌, ◌≤◌, inl, inr, Bool, false, List, [], ◌∷◌, length, refl, sym, ap, ◌∙◌, subst, IsTrue, arith}
use Rattle.m_separation.specs.declared.marks.Mark.TheVariants.{Out}
use Rattle.m_separation.specs.Vocabulary.{Step}
use Rattle.walk_models.specs.Visits.{vertex_at, mark_at}
use Rattle.walk_models.specs.Strict.{IsCausalOutside, IsLate}
use Rattle.walk_models.specs.Laws.{LateWalksExceed}
use Rattle.walk_models.proofs.Late.{late_visits_exceed}
use Rattle.walk_models.proofs.Stricts.{walk_of, strict_visits, visits, starts_at, ends_at}

-- the step at `place` is the last that is no arrow forwards, and the vertices behind it are outside x
record LateAt (x : ℕ → Bool) (v : ℕ) (r : List Step) : Type 0 where
  place : ℕ
  inside : place < length r
  turn : mark_at r place ≢ Out
  forwards : (i : ℕ) → place < i → i < length r → mark_at r i ≡ Out
  apart : (i : ℕ) → place < i → i ≤ length r → x (vertex_at v r i) ≡ false

-- such steps are arrows forwards
pub causal_marks : (x : ℕ → Bool) (r : List Step) → IsCausalOutside x r → (i : ℕ) → i < length r → mark_at r i ≡ Out
causal_marks x [] k i lt = absurd (omega (arith, lt))
causal_marks x (s ∷ r) k zero lt = k.0
causal_marks x (s ∷ r) k (suc i) lt = causal_marks x r k.2 i (omega (arith, lt))

-- to visits outside x
pub causal_outside : (x : ℕ → Bool) (v : ℕ) (r : List Step) → IsCausalOutside x r → (i : ℕ) → 0 < i → i ≤ length r → x (vertex_at v r i) ≡ false
causal_outside x v r k zero some le = absurd (omega (arith, some))
causal_outside x v [] k (suc i) some le = absurd (omega (arith, le))
causal_outside x v (s ∷ r) k (suc zero) some le = ap x (starts_at s.to r) ∙ k.1
causal_outside x v (s ∷ r) k (suc (suc i)) some le = causal_outside x s.to r k.2 (suc i) (omega arith) (omega (arith, le))

late_at : (x : ℕ → Bool) (v : ℕ) (r : List Step) → IsLate x r → LateAt x v r
late_at x v [] k = absurd k
late_at x v (s ∷ r) (inl k) = record { place = 0; inside = omega arith; turn = k.0; forwards = forwards; apart = apart }
  where
    forwards : (i : ℕ) → 0 < i → i < length (s ∷ r) → mark_at (s ∷ r) i ≡ Out
    forwards zero gt lt = absurd (omega (arith, gt))
    forwards (suc i) gt lt = causal_marks x r k.2 i (omega (arith, lt))

    apart : (i : ℕ) → 0 < i → i ≤ length (s ∷ r) → x (vertex_at v (s ∷ r) i) ≡ false
    apart zero gt le = absurd (omega (arith, gt))
    apart (suc zero) gt le = ap x (starts_at s.to r) ∙ k.1
    apart (suc (suc i)) gt le = causal_outside x s.to r k.2 (suc i) (omega arith) (omega (arith, le))
late_at x v (s ∷ r) (inr k) = let q = late_at x s.to r k in
    record { place = suc q.place; inside = omega (arith, q.inside); turn = q.turn; forwards = forwards q; apart = apart q }
  where
    forwards : (q : LateAt x s.to r) (i : ℕ) → suc q.place < i → i < length (s ∷ r) → mark_at (s ∷ r) i ≡ Out
    forwards q zero gt lt = absurd (omega (arith, gt))
    forwards q (suc i) gt lt = q.forwards i (omega (arith, gt)) (omega (arith, lt))

    apart : (q : LateAt x s.to r) (i : ℕ) → suc q.place < i → i ≤ length (s ∷ r) → x (vertex_at v (s ∷ r) i) ≡ false
    apart q zero gt le = absurd (omega (arith, gt))
    apart q (suc i) gt le = q.apart i (omega (arith, gt)) (omega (arith, le))

pub late_walks_exceed : LateWalksExceed
late_walks_exceed = λ g ok x y z v r lt begins ends walk strict late.
    let q = late_at x v r late in
    late_visits_exceed g ok (walk_of v r) (visits g ok v r lt walk) (λ i. refl) x y z (strict_visits z v r strict)
    (subst (λ u. IsTrue (x u)) (sym (starts_at v r)) begins) (subst (λ u. IsTrue (y u)) (sym (ends_at v r)) ends) q.place q.inside q.turn q.forwards q.apart
