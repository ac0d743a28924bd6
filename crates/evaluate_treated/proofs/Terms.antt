-- The factors of a formula over names are terms of vertices.
use Rattle.std.proofs.Common.{ℕ, zero, suc, ◌-◌, ◌≡◌, ◌<◌, Bool, true, false, cond, ◌||◌, ◌&&◌, refl, sym, ap, ◌∙◌, subst, arith}
use Rattle.std.proofs.Common.{List, [], ◌∷◌, ◌++◌, length, get_or, inl, inr, All, nat_lt, ltb-true, length-append}
use Rattle.std.specs.Prelude.{None}
use Rattle.std.proofs.lemmas.Bool.{cases_lt, lt-ltb, or_left, or_right}
use Rattle.std.proofs.lemmas.List.{get_or_append_left, get_or_at}
use Rattle.std.proofs.lemmas.List.Elements.{All-nil, All-cons, All-get_or}
use Rattle.mixed_graph.specs.Vocabulary.{has, members_below, is_apart, is_below}
use Rattle.mixed_graph.proofs.MaskLaws.{apart_has, below_has, has_none, filled_from}
use Rattle.finite_models.proofs.Bools.{and_first, and_second, either, not_both}
use Rattle.prob_expr.specs.Tree.{Tree, prob, sum, product, quotient, named, tree}
use Rattle.prob_expr.specs.Vocabulary.{Trees, no_trees, PlainFormula, are_terms, are_terms_each, fault_in, is_term}
use Rattle.prob_expr.proofs.Checked.{accepted_is_whole}
use Rattle.replies.proofs.OneTarget.{some_member}
use Rattle.identification_theory.proofs.Formed.{is_term_from}
use Rattle.identification_theory.proofs.Sets.{apart, below, not_empty}
use Rattle.table_cells.proofs.Tables.{all_members}
use Rattle.treated_models.specs.Vocabulary.{IsSingle, NamesOnce, EachNamesOnce, name_count, plain_in, prime_of, primed_in}
use Rattle.factor_values.specs.Vocabulary.{PlainFactor, PlainFactors}
use Rattle.named_factors.specs.Named.{IsFactorOfTerm, AreFactorsOf, AreNamedFactors, factors_in, body_in}
use Rattle.named_factors.specs.Shapes.{AreTerms, IsSumOfTerms}
use Rattle.evaluate_treated.specs.Effects.{IsTermOf}

-- ---- names of vertices

-- a member of a set stands at the place that has so many members before it
place_of_entry : (s : ℕ → Bool) (n i : ℕ) → i < length (members_below s n) → length (members_below s (get_or (members_below s n) i 0)) ≡ i
unfolding members_below
place_of_entry s zero i lt = absurd (omega (arith, lt))
place_of_entry s (suc n) i lt = go (place_of_entry s n i) (s n) lt
  where
    go : (i < length (members_below s n) → length (members_below s (get_or (members_below s n) i 0)) ≡ i) → (b : Bool)
        → i < length (members_below s n ++ cond b (n ∷ []) [])
        → length (members_below s (get_or (members_below s n ++ cond b (n ∷ []) []) i 0)) ≡ i
    go before_it true h = elim (cases_lt i (length (members_below s n))) [
      | inl before ↦ ap (λ v. length (members_below s v)) (get_or_append_left (members_below s n) (n ∷ []) 0 i before) ∙ before_it before
      | inr ge ↦
          let l = length-append (members_below s n) (n ∷ []) in
          let same : i ≡ length (members_below s n) = omega (arith, h, l, ge) in
          subst (λ j. length (members_below s (get_or (members_below s n ++ n ∷ []) j 0)) ≡ j) (sym same)
          (ap (λ v. length (members_below s v)) (get_or_at (members_below s n) n [] 0 (length (members_below s n)) refl))
    ]
    go before_it false h =
        let nothing : List ℕ = [] in let l = length-append (members_below s n) nothing in
        let before : i < length (members_below s n) = omega (arith, h, l) in
        ap (λ v. length (members_below s v)) (get_or_append_left (members_below s n) [] 0 i before) ∙ before_it before

-- a name in a set is that of a vertex
record HasVertex (n x : ℕ) (names : ℕ → Bool) : Type 0 where
  vertex : ℕ
  named : (plain_in n names vertex || primed_in n x names vertex) ≡ true

both : (p q : Bool) → p ≡ true → q ≡ true → (p && q) ≡ true
both p q h k = grind (arith, h, k)

some_vertex : (n x : ℕ) (names : ℕ → Bool) (k : ℕ) → k < name_count n x → names k ≡ true → HasVertex n x names
some_vertex n x names k lt e = elim (cases_lt k n) [
  | inl own ↦ record { vertex = k; named = or_left (plain_in n names k) (primed_in n x names k) (both (nat_lt k n) (names k) (lt-ltb k n own) e) }
  | inr ge ↦
      let i = k - n in
      let within : i < length (members_below (has x) n) = omega (arith, lt, ge) in
      let v = get_or (members_below (has x) n) i 0 in
      let member : has x v ≡ true = All-get_or (λ u. has x u ≡ true) (members_below (has x) n) i 0 within
      (all_members (λ u. has x u ≡ true) (has x) n (λ u low h. h)) in
      let place = place_of_entry (has x) n i within in
      let same : prime_of n x v ≡ k = omega (arith, place, ge) in
      record { vertex = v; named = or_right (plain_in n names v) (primed_in n x names v) (both (has x v) (names (prime_of n x v)) member (ap names same ∙ e)) }
]

-- ---- a term
module _ (n x : ℕ) (inside : (v : ℕ) → has x v ≡ true → v < n) where
  low : (names : ℕ → Bool) (v : ℕ) → (plain_in n names v || primed_in n x names v) ≡ true → v < n
  low names v h = either (plain_in n names v) (primed_in n x names v) (v < n) h
      (λ p. ltb-true v n (and_first (nat_lt v n) (names v) p)) (λ p. inside v (and_first (has x v) (names (prime_of n x v)) p))

  module _ (a b c : ℕ) (whole : is_term (name_count n x) a b c ≡ true) (once : IsSingle n x (λ k. has a k || has c k)) where
    sets : ((is_below (name_count n x) a && (is_below (name_count n x) b && is_below (name_count n x) c)) && (is_apart a b && (is_apart a c && is_apart b c)))
        ≡ true
    sets = and_first _ _ whole

    a_low : is_below (name_count n x) a ≡ true
    a_low = and_first _ _ (and_first _ _ sets)

    off : is_apart a c ≡ true
    off = and_first _ _ (and_second _ _ (and_second _ _ sets))

    -- no vertex has a name in both sets
    clash : (v : ℕ) → (plain_in n (has a) v || primed_in n x (has a) v) ≡ true → (plain_in n (has c) v || primed_in n x (has c) v) ≡ true → ⊥
    clash v h k = either (plain_in n (has a) v) (primed_in n x (has a) v) ⊥ h
        (λ p. either (plain_in n (has c) v) (primed_in n x (has c) v) ⊥ k
        (λ q. not_both (has c v) (and_second (nat_lt v n) (has c v) q) (apart_has a c v off (and_second (nat_lt v n) (has a v) p)))
        (λ q. not_both (primed_in n x (λ i. has a i || has c i) v)
        (both (has x v) (has a (prime_of n x v) || has c (prime_of n x v)) (and_first (has x v) (has c (prime_of n x v)) q)
        (or_right (has a (prime_of n x v)) (has c (prime_of n x v)) (and_second (has x v) (has c (prime_of n x v)) q)))
        (once v (both (nat_lt v n) (has a v || has c v) (and_first (nat_lt v n) (has a v) p)
        (or_left (has a v) (has c v) (and_second (nat_lt v n) (has a v) p))))))
        (λ p. either (plain_in n (has c) v) (primed_in n x (has c) v) ⊥ k
        (λ q. not_both (primed_in n x (λ i. has a i || has c i) v)
        (both (has x v) (has a (prime_of n x v) || has c (prime_of n x v)) (and_first (has x v) (has a (prime_of n x v)) p)
        (or_left (has a (prime_of n x v)) (has c (prime_of n x v)) (and_second (has x v) (has a (prime_of n x v)) p)))
        (once v (both (nat_lt v n) (has a v || has c v) (and_first (nat_lt v n) (has c v) q)
        (or_right (has a v) (has c v) (and_second (nat_lt v n) (has c v) q)))))
        (λ q. not_both (has c (prime_of n x v)) (and_second (has x v) (has c (prime_of n x v)) q)
        (apart_has a c (prime_of n x v) off (and_second (has x v) (has a (prime_of n x v)) p))))

    term_of : (f : PlainFactor) → (k : ℕ) → has a k ≡ true → IsFactorOfTerm n x a c f → IsTermOf n f
    term_of f k some t =
        let first = some_vertex n x (has a) k (below_has (name_count n x) a k a_low some) some in
        record {
          of = t.of;
          given = t.given;
          formula = t.formula;
          is = is_term_from n t.of 0 t.given (below n t.of (λ v h. low (has a) v (sym (t.are_of v) ∙ h)))
              (below n 0 (λ v h. absurd (not_both (has 0 v) h (has_none v)))) (below n t.given (λ v h. low (has c) v (sym (t.are_given v) ∙ h)))
              (not_empty t.of first.vertex (t.are_of first.vertex ∙ first.named)) (apart t.of 0 (λ v h i. not_both (has 0 v) i (has_none v)))
              (apart t.of t.given (λ v h i. clash v (sym (t.are_of v) ∙ h) (sym (t.are_given v) ∙ i)))
              (apart 0 t.given (λ v h i. not_both (has 0 v) h (has_none v)));
        }

-- ---- the factors of a formula
positive : (k : ℕ) → (k ≡ 0 → ⊥) → 0 < k
positive zero h = absurd (h refl)
positive (suc k) h = omega arith

whole_body : (n : ℕ) (main : Tree) → are_terms n main ≡ true → are_terms n (body_in main) ≡ true
whole_body n (prob a b c) h = h
whole_body n (sum u e) h = and_second (is_below n u) (are_terms n e) h
whole_body n (product ts) h = h
whole_body n (quotient p q) h = h
whole_body n (named k) h = h

whole_each : (n : ℕ) (e : Tree) → are_terms n e ≡ true → are_terms_each n (factors_in e) ≡ true
whole_each n (prob a b c) h = both (are_terms n (prob a b c)) true h refl
whole_each n (sum u e) h = both (are_terms n (sum u e)) true h refl
whole_each n (product ts) h = h
whole_each n (quotient p q) h = both (are_terms n (quotient p q)) true h refl
whole_each n (named k) h = refl

once_body : (n x : ℕ) (main : Tree) → NamesOnce n x main → NamesOnce n x (body_in main)
once_body n x (prob a b c) h = h
once_body n x (sum u e) h = h
once_body n x (product ts) h = h
once_body n x (quotient p q) h = h
once_body n x (named k) h = h

once_each : (n x : ℕ) (e : Tree) → NamesOnce n x e → EachNamesOnce n x (factors_in e)
once_each n x (prob a b c) h = (h, tt)
once_each n x (sum u e) h = (h, tt)
once_each n x (product ts) h = h
once_each n x (quotient p q) h = (h, tt)
once_each n x (named k) h = (h, tt)

module _ (n x : ℕ) (inside : (v : ℕ) → has x v ≡ true → v < n) where
  terms_are : (ts : Trees) (fs : List PlainFactor) → AreTerms ts → are_terms_each (name_count n x) ts ≡ true → EachNamesOnce n x ts → AreFactorsOf n x ts fs
      → All (IsTermOf n) fs
  terms_are no_trees [] are whole once of = All-nil (IsTermOf n)
  terms_are no_trees (f ∷ fs) are whole once of = absurd of
  terms_are (tree t ts) [] are whole once of = absurd of
  terms_are (tree (prob a b c) ts) (f ∷ fs) are whole once of =
      let one = and_first (is_term (name_count n x) a b c) (are_terms_each (name_count n x) ts) whole in
      let below_names : (v : ℕ) → has a v ≡ true → v < name_count n x =
      λ v h. below_has (name_count n x) a v (a_low n x inside a b c one once.0.1) h in
      let some = some_member (name_count n x) a below_names (positive a (filled_from a (and_second _ _ one))) in
      All-cons (IsTermOf n) f fs (term_of n x inside a b c one once.0.1 f some.0 some.1 of.0)
      (terms_are ts fs are.1 (and_second (is_term (name_count n x) a b c) (are_terms_each (name_count n x) ts) whole) once.1 of.1)
  terms_are (tree (sum u e) ts) (f ∷ fs) are whole once of = absurd are.0
  terms_are (tree (product us) ts) (f ∷ fs) are whole once of = absurd are.0
  terms_are (tree (quotient p q) ts) (f ∷ fs) are whole once of = absurd are.0
  terms_are (tree (named k) ts) (f ∷ fs) are whole once of = absurd are.0

  -- those of a formula that is accepted, whose terms name each vertex once
  pub factors_are_terms : (f : PlainFormula) → fault_in (name_count n x) f ≡ None → IsSumOfTerms f.main → NamesOnce n x f.main → (e : PlainFactors)
      → AreNamedFactors n x f.main e → All (IsTermOf n) e.factors
  factors_are_terms f fine are once e factors =
      terms_are (factors_in (body_in f.main)) e.factors are
      (whole_each (name_count n x) (body_in f.main) (whole_body (name_count n x) f.main (accepted_is_whole (name_count n x) f fine).main.terms))
      (once_each n x (body_in f.main) (once_body n x f.main once)) factors.factors
