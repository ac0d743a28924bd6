-- Sets of a term lie within the vertices.
use Rattle.std.proofs.Common.{◌≡◌, ℕ, Bool, true, false, not, ◌&&◌, refl}
use Rattle.mixed_graph.specs.Vocabulary.{has, Within, is_empty, is_below, is_apart}
use Rattle.prob_expr.specs.Vocabulary.{are_term_sets, is_term}
use Rattle.mixed_graph.proofs.MaskLaws.{below_has}

-- where a conjunction is true both parts are
pub and_true : (a b : Bool) → (a && b) ≡ true → (a ≡ true) × (b ≡ true)
and_true true b h = (refl, h)
and_true false b h = cc h

pub below_within : (n a : ℕ) → is_below n a ≡ true → Within n (has a)
below_within n a h v t = below_has n a v h t

-- the parts of a term's test
pub record TermParts (n a b c : ℕ) : Type 0 where
  pub first : is_below n a ≡ true
  pub second : is_below n b ≡ true
  pub third : is_below n c ≡ true
  pub some : not (is_empty a) ≡ true

pub term_parts : (n a b c : ℕ) → is_term n a b c ≡ true → TermParts n a b c
term_parts n a b c h =
    let parts = and_true (are_term_sets n a b c) (not (is_empty a)) h in
    let sets = and_true (is_below n a && (is_below n b && is_below n c)) (is_apart a b && (is_apart a c && is_apart b c)) parts.0 in
    let la = and_true (is_below n a) (is_below n b && is_below n c) sets.0 in
    let lbc = and_true (is_below n b) (is_below n c) la.1 in
    record { first = la.0; second = lbc.0; third = lbc.1; some = parts.1 }

-- the first set of a term on n vertices has vertices below n alone
pub first_within : (n a b c : ℕ) → is_term n a b c ≡ true → Within n (has a)
first_within n a b c h = below_within n a (term_parts n a b c h).first

-- so has its second set
pub second_within : (n a b c : ℕ) → is_term n a b c ≡ true → Within n (has b)
second_within n a b c h = below_within n b (term_parts n a b c h).second

-- and its third
pub third_within : (n a b c : ℕ) → is_term n a b c ≡ true → Within n (has c)
third_within n a b c h = below_within n c (term_parts n a b c h).third
