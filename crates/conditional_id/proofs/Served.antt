-- Each cause of the models serves one vertex, or two.
use Rattle.std.proofs.Common.{ℕ, suc, ◌+◌, ◌-◌, ◌≡◌, ◌<◌, ◌≤◌, Bool, true, false, cond, eqb, ltb, refl, sym, ap, ◌∙◌, ◌&&◌, ◌||◌, ◌⊎◌, inl, inr}
use Rattle.std.proofs.Common.{length, List, [], ◌∷◌, arith, ltb-true, ltb-false, eqb-true, ne_eqb}
use Rattle.mixed_graph.specs.Vocabulary.{MixedGraph, IsMixedGraph}
use Rattle.finite_models.specs.Vocabulary.{FiniteModel, ServesTwo}
use Rattle.finite_models.proofs.Bools.{and_first, and_second, same_truth}
use Rattle.finite_models.proofs.SumLaws.{eqb-refl}
use Rattle.counter_models.specs.Hedges.{links_of}
use Rattle.counter_models.specs.Vocabulary.{ParityHedge, IsWholeHedge, Link, is_end, first_model, serves_of}
use Rattle.counter_models.proofs.CounterFits.{or_split}
use Rattle.counter_models.proofs.Witness.{fit_one}
use Rattle.conditional_id.specs.HedgeLaws.{with_mechanism}
use Rattle.conditional_id.specs.Masked.{masked}

twice : (e : Bool) → e ≡ (e || e)
twice true = refl
twice false = refl

pub masked_two : (m q : FiniteModel) (w a b c : ℕ) → ServesTwo m → ServesTwo q → ServesTwo (masked m q w a b c)
masked_two m q w a b c t r =
    record {
      one = λ j. cond (ltb j m.causes) (t.one j) (r.one (j - m.causes));
      other = λ j. cond (ltb j m.causes) (t.other j) (r.other (j - m.causes));
      serves = λ j v lt. go j v lt (ltb j m.causes) refl;
    }
  where
    go : (j v : ℕ) → j < m.causes + q.causes → (e : Bool) → ltb j m.causes ≡ e
        → cond e (m.serves j v) (q.serves (j - m.causes) v) ≡
        (eqb v (cond e (t.one j) (r.one (j - m.causes))) || eqb v (cond e (t.other j) (r.other (j - m.causes))))
    go j v lt true e = t.serves j v (ltb-true j m.causes e)
    go j v lt false e = r.serves (j - m.causes) v (let ge = ltb-false j m.causes e in omega (arith, lt, ge))

pub mechanism_two : (m : FiniteModel) (f : ℕ → (ℕ → ℕ) → (ℕ → ℕ) → ℕ) → ServesTwo m → ServesTwo (with_mechanism m f)
mechanism_two m f t = record { one = t.one; other = t.other; serves = t.serves }

-- ---- the models of a hedge
-- the ends of link j of a list whose first link has the number k
entry_at : (k : ℕ) (r : List Link) (j : ℕ) → ℕ
entry_at k [] j = 0
entry_at k (l ∷ r) j = cond (eqb j k) l.entry (entry_at (suc k) r j)

partner_at : (k : ℕ) (r : List Link) (j : ℕ) → ℕ
partner_at k [] j = 0
partner_at k (l ∷ r) j = cond (eqb j k) l.partner (partner_at (suc k) r j)

ends_are : (k : ℕ) (r : List Link) (j v : ℕ) → k ≤ j → j < k + length r → is_end k r j v ≡ (eqb v (entry_at k r j) || eqb v (partner_at k r j))
unfolding entry_at partner_at
ends_are k [] j v le lt = absurd (omega (arith, le, lt))
ends_are k (l ∷ r) j v le lt = go (eqb j k) refl (λ a c. ends_are (suc k) r j v a c)
  where
    go : (c : Bool) → eqb j k ≡ c → (suc k ≤ j → j < suc k + length r → is_end (suc k) r j v ≡ (eqb v (entry_at (suc k) r j) || eqb v (partner_at (suc k) r j)))
        → cond c (eqb v l.entry || eqb v l.partner) (is_end (suc k) r j v) ≡
        (eqb v (cond c l.entry (entry_at (suc k) r j)) || eqb v (cond c l.partner (partner_at (suc k) r j)))
    go true e ih = refl
    go false e ih = ih (let d : j ≡ k → ⊥ = λ s. absurd (grind (arith, s, e)) in omega (arith, le, d)) (omega (arith, lt))

no_end : (k : ℕ) (r : List Link) (j v : ℕ) → (j < k) ⊎ (k + length r ≤ j) → is_end k r j v ≡ false
no_end k [] j v out = refl
no_end k (l ∷ r) j v out = rw (ne_eqb j k (λ e. away out e)) (no_end (suc k) r j v (further out))
  where
    away : (j < k) ⊎ (k + suc (length r) ≤ j) → j ≡ k → ⊥
    away (inl a) e = absurd (omega (arith, a, e))
    away (inr a) e = absurd (omega (arith, a, e))

    further : (j < k) ⊎ (k + suc (length r) ≤ j) → (j < suc k) ⊎ (suc k + length r ≤ j)
    further (inl a) = inl (omega (arith, a))
    further (inr a) = inr (omega (arith, a))

module _ (g : MixedGraph) (ok : IsMixedGraph g) (x : ℕ → Bool) (d : ParityHedge) (whole : IsWholeHedge g x d) where
  abbrev own : ℕ → ℕ → Bool
  own j v = (d.small v && eqb j (d.small_cause v)) || (d.kept v && eqb j (d.kept_cause v))

  held : (j v : ℕ) → own j v ≡ true → v ≡ whole.numbered.holder j
  held j v e = elim (or_split (d.small v && eqb j (d.small_cause v)) (d.kept v && eqb j (d.kept_cause v)) e) [
    | inl a ↦ sym (ap whole.numbered.holder (eqb-true j (d.small_cause v) (and_second (d.small v) (eqb j (d.small_cause v)) a))
        ∙ whole.numbered.own_holder v (and_first (d.small v) (eqb j (d.small_cause v)) a))
    | inr a ↦ sym (ap whole.numbered.holder (eqb-true j (d.kept_cause v) (and_second (d.kept v) (eqb j (d.kept_cause v)) a))
        ∙ whole.numbered.top_holder v (and_first (d.kept v) (eqb j (d.kept_cause v)) a))
  ]

  late : (j v : ℕ) → own j v ≡ true → links_of d ≤ j
  late j v e = elim (or_split (d.small v && eqb j (d.small_cause v)) (d.kept v && eqb j (d.kept_cause v)) e) [
    | inl a ↦ (let s = eqb-true j (d.small_cause v) (and_second (d.small v) (eqb j (d.small_cause v)) a) in let l = whole.hedge.own_high v
        (and_first (d.small v) (eqb j (d.small_cause v)) a) in omega (arith, s, l))
    | inr a ↦ (let s = eqb-true j (d.kept_cause v) (and_second (d.kept v) (eqb j (d.kept_cause v)) a) in let l = whole.hedge.top_high v
        (and_first (d.kept v) (eqb j (d.kept_cause v)) a) in omega (arith, s, l))
  ]

  no_own : (j v : ℕ) → j < links_of d → own j v ≡ false
  no_own j v lt = go (own j v) refl
    where
      go : (c : Bool) → own j v ≡ c → c ≡ false
      go true e = absurd (let l = late j v e in omega (arith, l, lt))
      go false e = refl

  first_end : ℕ → ℕ
  first_end j = cond (ltb j (length d.inner)) (entry_at 0 d.inner j) (cond (ltb j (links_of d)) (entry_at (length d.inner) d.outer j) (whole.numbered.holder j))

  second_end : ℕ → ℕ
  second_end j = cond (ltb j (length d.inner)) (partner_at 0 d.inner j)
      (cond (ltb j (links_of d)) (partner_at (length d.inner) d.outer j) (whole.numbered.holder j))

  ends : (j v : ℕ) → j < d.causes → serves_of d j v ≡ (eqb v (first_end j) || eqb v (second_end j))
  unfolding first_end second_end
  ends j v lt = go (ltb j (length d.inner)) refl (ltb j (links_of d)) refl
    where
      right_none : (p : Bool) → (p || false) ≡ p
      right_none true = refl
      right_none false = refl

      go : (a : Bool) → ltb j (length d.inner) ≡ a → (c : Bool) → ltb j (links_of d) ≡ c
          → (is_end 0 d.inner j v || (is_end (length d.inner) d.outer j v || own j v))
          ≡ (eqb v (cond a (entry_at 0 d.inner j) (cond c (entry_at (length d.inner) d.outer j) (whole.numbered.holder j)))
          || eqb v (cond a (partner_at 0 d.inner j) (cond c (partner_at (length d.inner) d.outer j) (whole.numbered.holder j))))
      go true e c f = let l = ltb-true j (length d.inner) e in
          rw (no_end (length d.inner) d.outer j v (inl l), no_own j v (omega (arith, l)))
          (right_none (is_end 0 d.inner j v) ∙ ends_are 0 d.inner j v (omega arith) (omega (arith, l)))
      go false e true f = let l = ltb-false j (length d.inner) e in let k = ltb-true j (links_of d) f in
          rw (no_end 0 d.inner j v (inr (omega (arith, l))), no_own j v k)
          (right_none (is_end (length d.inner) d.outer j v) ∙ ends_are (length d.inner) d.outer j v l k)
      go false e false f = let l = ltb-false j (length d.inner) e in let k = ltb-false j (links_of d) f in
          rw (no_end 0 d.inner j v (inr (omega (arith, l))), no_end (length d.inner) d.outer j v (inr k))
          (same_truth (own j v) (eqb v (whole.numbered.holder j)) (λ i. (let s = held j v i in rw s (eqb-refl (whole.numbered.holder j))))
          (λ i. back k (eqb-true v (whole.numbered.holder j) i)) ∙ twice (eqb v (whole.numbered.holder j)))
        where
          back : links_of d ≤ j → v ≡ whole.numbered.holder j → own j v ≡ true
          back k same = let c = (fit_one g ok x d whole).some_child j lt in
              let i : own j c.0 ≡ true = served c.0 c.1 in rw (same ∙ sym (held j c.0 i)) i
            where
              served : (u : ℕ) → serves_of d j u ≡ true → own j u ≡ true
              served u e = sym (off (is_end 0 d.inner j u) (is_end (length d.inner) d.outer j u) (own j u)
                  (no_end 0 d.inner j u (inr (let a = whole.hedge.links_low in omega (arith, k)))) (no_end (length d.inner) d.outer j u (inr k))) ∙ e
                where
                  off : (p q r : Bool) → p ≡ false → q ≡ false → (p || (q || r)) ≡ r
                  off p q r a b = rw (a, b) refl

  pub parity_two : ServesTwo (first_model g.vertices d)
  parity_two = record { one = first_end; other = second_end; serves = ends }
