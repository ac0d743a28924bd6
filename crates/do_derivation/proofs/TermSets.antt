-- Terms with a set added, taken away or moved are terms.
use Rattle.std.proofs.Common.{ℕ, ◌≡◌, ◌<◌, Bool, true, false, not, refl, sym, ap, ◌∙◌, ◌||◌, ◌&&◌, subst, arith, eqb-true}
use Rattle.std.proofs.lemmas.Bool.{and_from, or_from, false_from_ne_true}
use Rattle.mixed_graph.specs.Vocabulary.{has, union, minus, one, is_empty, is_apart, is_inside, is_below}
use Rattle.finite_models.proofs.Bools.{and_first, and_second, either}
use Rattle.do_rules.specs.Vocabulary.{AreFourSets}
use Rattle.prob_expr.specs.Vocabulary.{are_term_sets, is_term}
use Rattle.mixed_graph.proofs.MaskLaws.{filled_from, not_empty, has_join, has_minus, has_none, has_one, apart_has, apart_from, inside_has, below_has}
use Rattle.mixed_graph.proofs.MaskLaws.{below_from}
use Rattle.do_derivation.specs.Table.{is_new}

-- the sets of a term P(a | do(b), c): below n and pairwise disjoint
pub record IsTerm (n a b c : ℕ) : Type 0 where
  pub of_below : (v : ℕ) → has a v ≡ true → v < n
  pub doing_below : (v : ℕ) → has b v ≡ true → v < n
  pub given_below : (v : ℕ) → has c v ≡ true → v < n
  pub of_doing : (v : ℕ) → has a v ≡ true → has b v ≡ false
  pub of_given : (v : ℕ) → has a v ≡ true → has c v ≡ false
  pub doing_given : (v : ℕ) → has b v ≡ true → has c v ≡ false

-- a set below n that is disjoint from all three
pub record IsNew (n z a b c : ℕ) : Type 0 where
  pub below : (v : ℕ) → has z v ≡ true → v < n
  pub apart_of : (v : ℕ) → has z v ≡ true → has a v ≡ false
  pub apart_doing : (v : ℕ) → has z v ≡ true → has b v ≡ false
  pub apart_given : (v : ℕ) → has z v ≡ true → has c v ≡ false

-- apart the other way round
pub apart_back : (A B : ℕ → Bool) → ((v : ℕ) → A v ≡ true → B v ≡ false) → (v : ℕ) → B v ≡ true → A v ≡ false
apart_back A B h v e = false_from_ne_true (A v) (λ a. absurd (grind (arith, h v a, e)))

-- the sets as the rules take them
pub four_sets : (n a b z c : ℕ) → IsTerm n a b c → IsNew n z a b c → AreFourSets n (has b) (has a) (has z) (has c)
four_sets n a b z c t k = record {
  x_within = t.doing_below;
  y_within = t.of_below;
  z_within = k.below;
  w_within = t.given_below;
  x_y = apart_back (has a) (has b) t.of_doing;
  x_z = apart_back (has z) (has b) k.apart_doing;
  x_w = t.doing_given;
  y_z = apart_back (has z) (has a) k.apart_of;
  y_w = t.of_given;
  z_w = k.apart_given;
}

-- a member of a union is in the first set or in the second
pub join_cases : (a b v : ℕ) (C : Type 0) → has (union a b) v ≡ true → (has a v ≡ true → C) → (has b v ≡ true → C) → C
join_cases a b v C e f h = either (has a v) (has b v) C (sym (has_join a b v) ∙ e) f h

-- what is in neither of two sets is not in their union
pub join_false : (a b v : ℕ) → has a v ≡ false → has b v ≡ false → has (union a b) v ≡ false
join_false a b v e f = has_join a b v ∙ or_from (has a v) (has b v) e f

-- what is in a difference is in its first set
pub minus_left : (a b v : ℕ) → has (minus a b) v ≡ true → has a v ≡ true
minus_left a b v e = and_first (has a v) (not (has b v)) (sym (has_minus a b v) ∙ e)

not_so : (p : Bool) → not p ≡ true → p ≡ false
not_so true e = absurd (grind (arith, e))
not_so false e = refl

pub minus_right : (a b v : ℕ) → has (minus a b) v ≡ true → has b v ≡ false
minus_right a b v e = not_so (has b v) (and_second (has a v) (not (has b v)) (sym (has_minus a b v) ∙ e))

pub minus_false : (a b v : ℕ) → has a v ≡ false → has (minus a b) v ≡ false
minus_false a b v e = false_from_ne_true (has (minus a b) v) (λ h. absurd (grind (arith, minus_left a b v h, e)))

pub minus_taken : (a b v : ℕ) → has b v ≡ true → has (minus a b) v ≡ false
minus_taken a b v e = false_from_ne_true (has (minus a b) v) (λ h. absurd (grind (arith, minus_right a b v h, e)))

pub term_sets : (n a b c : ℕ) → are_term_sets n a b c ≡ true → IsTerm n a b c
term_sets n a b c e =
    let low = and_first (is_below n a && (is_below n b && is_below n c)) (is_apart a b && (is_apart a c && is_apart b c)) e in
    let rest = and_second (is_below n a && (is_below n b && is_below n c)) (is_apart a b && (is_apart a c && is_apart b c)) e in
    let low_bc = and_second (is_below n a) (is_below n b && is_below n c) low in
    let ac_bc = and_second (is_apart a b) (is_apart a c && is_apart b c) rest in
    record {
      of_below = λ v. below_has n a v (and_first (is_below n a) (is_below n b && is_below n c) low);
      doing_below = λ v. below_has n b v (and_first (is_below n b) (is_below n c) low_bc);
      given_below = λ v. below_has n c v (and_second (is_below n b) (is_below n c) low_bc);
      of_doing = λ v. apart_has a b v (and_first (is_apart a b) (is_apart a c && is_apart b c) rest);
      of_given = λ v. apart_has a c v (and_first (is_apart a c) (is_apart b c) ac_bc);
      doing_given = λ v. apart_has b c v (and_second (is_apart a c) (is_apart b c) ac_bc);
    }

-- sets that pass the test of a term are below n and pairwise disjoint
pub term_from : (n a b c : ℕ) → is_term n a b c ≡ true → IsTerm n a b c
term_from n a b c e = term_sets n a b c (and_first (are_term_sets n a b c) (not (is_empty a)) e)

-- the first set of a term is not empty
pub term_filled : (n a b c : ℕ) → is_term n a b c ≡ true → a ≡ 0 → ⊥
term_filled n a b c e = filled_from a (and_second (are_term_sets n a b c) (not (is_empty a)) e)

-- and back
pub term_test : (n a b c : ℕ) → IsTerm n a b c → (a ≡ 0 → ⊥) → is_term n a b c ≡ true
term_test n a b c t full =
    and_from (are_term_sets n a b c) (not (is_empty a))
    (and_from (is_below n a && (is_below n b && is_below n c)) (is_apart a b && (is_apart a c && is_apart b c))
    (and_from (is_below n a) (is_below n b && is_below n c) (below_from n a t.of_below)
    (and_from (is_below n b) (is_below n c) (below_from n b t.doing_below) (below_from n c t.given_below)))
    (and_from (is_apart a b) (is_apart a c && is_apart b c) (apart_from a b t.of_doing)
    (and_from (is_apart a c) (is_apart b c) (apart_from a c t.of_given) (apart_from b c t.doing_given))))
    (not_empty a full)

-- a set that passes the test of a new one is below n and disjoint from the term's three sets
pub new_from : (n z a b c : ℕ) → is_new n z a b c ≡ true → IsNew n z a b c
new_from n z a b c e =
    let r₁ = and_second (not (is_empty z)) (is_below n z && (is_apart z a && (is_apart z b && is_apart z c))) e in
    let r₂ = and_second (is_below n z) (is_apart z a && (is_apart z b && is_apart z c)) r₁ in
    let r₃ = and_second (is_apart z a) (is_apart z b && is_apart z c) r₂ in
    record {
      below = λ v. below_has n z v (and_first (is_below n z) (is_apart z a && (is_apart z b && is_apart z c)) r₁);
      apart_of = λ v. apart_has z a v (and_first (is_apart z a) (is_apart z b && is_apart z c) r₂);
      apart_doing = λ v. apart_has z b v (and_first (is_apart z b) (is_apart z c) r₃);
      apart_given = λ v. apart_has z c v (and_second (is_apart z b) (is_apart z c) r₃);
    }

module _ (n : ℕ) where
  pub given_more : (a b c z : ℕ) → IsTerm n a b c → IsNew n z a b c → IsTerm n a b (union c z)
  given_more a b c z t k = record {
    of_below = t.of_below;
    doing_below = t.doing_below;
    given_below = λ v e. join_cases c z v (v < n) e (t.given_below v) (k.below v);
    of_doing = t.of_doing;
    of_given = λ v e. join_false c z v (t.of_given v e) (apart_back (has z) (has a) k.apart_of v e);
    doing_given = λ v e. join_false c z v (t.doing_given v e) (apart_back (has z) (has b) k.apart_doing v e);
  }

  pub doing_more : (a b c z : ℕ) → IsTerm n a b c → IsNew n z a b c → IsTerm n a (union b z) c
  doing_more a b c z t k = record {
    of_below = t.of_below;
    doing_below = λ v e. join_cases b z v (v < n) e (t.doing_below v) (k.below v);
    given_below = t.given_below;
    of_doing = λ v e. join_false b z v (t.of_doing v e) (apart_back (has z) (has a) k.apart_of v e);
    of_given = t.of_given;
    doing_given = λ v e. join_cases b z v (has c v ≡ false) e (t.doing_given v) (k.apart_given v);
  }

  pub of_more : (a b c z : ℕ) → IsTerm n a b c → IsNew n z a b c → IsTerm n (union a z) b c
  of_more a b c z t k = record {
    of_below = λ v e. join_cases a z v (v < n) e (t.of_below v) (k.below v);
    doing_below = t.doing_below;
    given_below = t.given_below;
    of_doing = λ v e. join_cases a z v (has b v ≡ false) e (t.of_doing v) (k.apart_doing v);
    of_given = λ v e. join_cases a z v (has c v ≡ false) e (t.of_given v) (k.apart_given v);
    doing_given = t.doing_given;
  }

  pub given_less : (a b c z : ℕ) → IsTerm n a b c → IsTerm n a b (minus c z)
  given_less a b c z t = record {
    of_below = t.of_below;
    doing_below = t.doing_below;
    given_below = λ v e. t.given_below v (minus_left c z v e);
    of_doing = t.of_doing;
    of_given = λ v e. minus_false c z v (t.of_given v e);
    doing_given = λ v e. minus_false c z v (t.doing_given v e);
  }

  pub doing_less : (a b c z : ℕ) → IsTerm n a b c → IsTerm n a (minus b z) c
  doing_less a b c z t = record {
    of_below = t.of_below;
    doing_below = λ v e. t.doing_below v (minus_left b z v e);
    given_below = t.given_below;
    of_doing = λ v e. minus_false b z v (t.of_doing v e);
    of_given = t.of_given;
    doing_given = λ v e. t.doing_given v (minus_left b z v e);
  }

  -- with a part of the first set
  pub of_part : (a b c z : ℕ) → IsTerm n a b c → ((v : ℕ) → has z v ≡ true → has a v ≡ true) → IsTerm n z b c
  of_part a b c z t h = record {
    of_below = λ v e. t.of_below v (h v e);
    doing_below = t.doing_below;
    given_below = t.given_below;
    of_doing = λ v e. t.of_doing v (h v e);
    of_given = λ v e. t.of_given v (h v e);
    doing_given = t.doing_given;
  }

  pub taken_given : (a b c z : ℕ) → IsTerm n a b c → is_inside z c ≡ true → IsNew n z a b (minus c z)
  taken_given a b c z t i = record {
    below = λ v e. t.given_below v (inside_has z c v i e);
    apart_of = λ v e. apart_back (has a) (has c) t.of_given v (inside_has z c v i e);
    apart_doing = λ v e. apart_back (has b) (has c) t.doing_given v (inside_has z c v i e);
    apart_given = λ v e. minus_taken c z v e;
  }

  pub taken_doing : (a b c z : ℕ) → IsTerm n a b c → is_inside z b ≡ true → IsNew n z a (minus b z) c
  taken_doing a b c z t i = record {
    below = λ v e. t.doing_below v (inside_has z b v i e);
    apart_of = λ v e. apart_back (has a) (has b) t.of_doing v (inside_has z b v i e);
    apart_doing = λ v e. minus_taken b z v e;
    apart_given = λ v e. t.doing_given v (inside_has z b v i e);
  }

  pub taken_of : (a b c z : ℕ) → IsTerm n a b c → is_inside z a ≡ true → IsNew n z (minus a z) b c
  taken_of a b c z t i = record {
    below = λ v e. t.of_below v (inside_has z a v i e);
    apart_of = λ v e. minus_taken a z v e;
    apart_doing = λ v e. t.of_doing v (inside_has z a v i e);
    apart_given = λ v e. t.of_given v (inside_has z a v i e);
  }

  -- both sides of a split
  pub of_and_given : (a b c : ℕ) → IsTerm n a b c → IsTerm n (union a c) b 0
  of_and_given a b c t = record {
    of_below = λ v e. join_cases a c v (v < n) e (t.of_below v) (t.given_below v);
    doing_below = t.doing_below;
    given_below = λ v e. absurd (grind (arith, e, has_none v));
    of_doing = λ v e. join_cases a c v (has b v ≡ false) e (t.of_doing v) (apart_back (has b) (has c) t.doing_given v);
    of_given = λ v e. has_none v;
    doing_given = λ v e. has_none v;
  }

  pub given_alone : (a b c : ℕ) → IsTerm n a b c → IsTerm n c b 0
  given_alone a b c t = record {
    of_below = t.given_below;
    doing_below = t.doing_below;
    given_below = λ v e. absurd (grind (arith, e, has_none v));
    of_doing = apart_back (has b) (has c) t.doing_given;
    of_given = λ v e. has_none v;
    doing_given = λ v e. has_none v;
  }

  -- two neighbours in a chain
  pub of_next : (a b c a' : ℕ) → IsTerm n a b c → IsTerm n a' b (union c a) → IsTerm n (union a a') b c
  of_next a b c a' t r = record {
    of_below = λ v e. join_cases a a' v (v < n) e (t.of_below v) (r.of_below v);
    doing_below = t.doing_below;
    given_below = t.given_below;
    of_doing = λ v e. join_cases a a' v (has b v ≡ false) e (t.of_doing v) (r.of_doing v);
    of_given = λ v e. join_cases a a' v (has c v ≡ false) e (t.of_given v)
        (λ i. false_from_ne_true (has c v) (λ o. absurd (grind (arith, has_join c a v ∙ ap (λ p. p || has a v) o, r.of_given v i))));
    doing_given = t.doing_given;
  }

  -- a member taken from the first set to the given one
  pub chain_on : (a b c v : ℕ) → IsTerm n a b c → has a v ≡ true → IsTerm n (minus a (one v)) b (union c (one v))
  chain_on a b c v t i = record {
    of_below = λ w e. t.of_below w (minus_left a (one v) w e);
    doing_below = t.doing_below;
    given_below = λ w e. join_cases c (one v) w (w < n) e (t.given_below w) (λ o. t.of_below w (in_one w o));
    of_doing = λ w e. t.of_doing w (minus_left a (one v) w e);
    of_given = λ w e. join_false c (one v) w (t.of_given w (minus_left a (one v) w e)) (minus_right a (one v) w e);
    doing_given = λ w e. join_false c (one v) w (t.doing_given w e) (false_from_ne_true (has (one v) w)
        (λ o. absurd (grind (arith, t.of_doing w (in_one w o), e))));
  }
    where
      in_one : (w : ℕ) → has (one v) w ≡ true → has a w ≡ true
      in_one w o = subst (λ x. has a x ≡ true) (sym (eqb-true w v (sym (has_one v w) ∙ o))) i
