-- Names and primed names: what they stand for, and the weights of observed events over both.
use Rattle.std.proofs.Common.{ℕ, ◌-◌, ◌≡◌, ◌<◌, ◌≤◌, Bool, true, false, cond, eqb, refl, sym, ap, ◌∙◌, ◌||◌, arith, nat_lt}
use Rattle.std.proofs.Common.{length}
use Rattle.std.proofs.lemmas.Bool.{lt-ltb, le-ltb, ne_eqb}
use mathlib.Core.Path.{fun_ext}
use Rattle.mixed_graph.specs.Vocabulary.{has, members_below, MixedGraph, IsMixedGraph}
use Rattle.mixed_graph.proofs.Masks.{has-zero}
use Rattle.latent_projection.proofs.Numbering.{at_place}
use Rattle.finite_models.specs.Vocabulary.{set_at, FiniteModel, Fits, IsAssignment, event_weight}
use Rattle.finite_models.proofs.Bools.{not_both}
use Rattle.finite_models.proofs.SumLaws.{set_at-other}
use Rattle.treated_models.specs.Treated.{held, joined, IsBefore}
use Rattle.treated_models.specs.Primes.{name_count, prime_of, vertex_of, as_observed, plain_in, primed_in, with_primes}
use Rattle.treated_models.proofs.Held.{treated_is_held}

-- ---- names
pub vertex_plain : (n x v : ℕ) → v < n → vertex_of n x v ≡ v
vertex_plain n x v il = let e : nat_lt v n ≡ true = lt-ltb v n il in rw e refl

-- primed names stand behind all vertices
pub prime_behind : (n x v : ℕ) → n ≤ prime_of n x v
prime_behind n x v = omega arith

pub prime_low : (n x v : ℕ) → v < n → has x v ≡ true → prime_of n x v < name_count n x
prime_low n x v il e = let b = (at_place (has x) n v il e).below in omega (arith, b)

pub vertex_primed : (n x v : ℕ) → v < n → has x v ≡ true → vertex_of n x (prime_of n x v) ≡ v
vertex_primed n x v il e =
    let f : nat_lt (prime_of n x v) n ≡ false = le-ltb (prime_of n x v) n (prime_behind n x v) in
    let d : prime_of n x v - n ≡ length (members_below (has x) v) = omega arith in
    rw (f, d) (at_place (has x) n v il e).entry

-- two members of x have two primed names
pub prime_one : (n x v w : ℕ) → v < n → w < n → has x v ≡ true → has x w ≡ true → prime_of n x v ≡ prime_of n x w → v ≡ w
prime_one n x v w vl wl ev ew e = sym (vertex_primed n x v vl ev) ∙ ap (vertex_of n x) e ∙ vertex_primed n x w wl ew

-- ---- assignments
module _ (n x : ℕ) (size s : ℕ → ℕ) (within : IsAssignment (name_count n x) (λ k. size (vertex_of n x k)) s) where
  pub plain_within : IsAssignment n size s
  plain_within v il = rw (sym (ap size (vertex_plain n x v il))) (within v (omega (arith, il)))

  pub observed_within : IsAssignment n size (as_observed n x s)
  observed_within v il = go (has x v) refl
    where
      go : (c : Bool) → has x v ≡ c → cond c (s (prime_of n x v)) (s v) < size v
      go true e = rw (sym (ap size (vertex_primed n x v il e))) (within (prime_of n x v) (prime_low n x v il e))
      go false e = plain_within v il

-- a value at the own name of a vertex outside x is one as observed
pub observed_set : (n x : ℕ) (c : ℕ → ℕ) (i z : ℕ) → i < n → has x i ≡ false → as_observed n x (set_at c i z) ≡ set_at (as_observed n x c) i z
observed_set n x c i z il out = fun_ext (λ v. go v (has x v) refl)
  where
    go : (v : ℕ) (b : Bool) → has x v ≡ b → cond (has x v) (set_at c i z (prime_of n x v)) (set_at c i z v)
        ≡ cond (eqb v i) z (cond (has x v) (c (prime_of n x v)) (c v))
    go v true e =
        let d : eqb v i ≡ false = ne_eqb v i (λ q. not_both (has x v) e (ap (has x) q ∙ out)) in
        let o : set_at c i z (prime_of n x v) ≡ c (prime_of n x v) = set_at-other c i z (prime_of n x v) (λ q. omega (arith, prime_behind n x v, q, il)) in
        rw (e, d) o
    go v false e = rw e refl

-- ---- observed events
pub held_none : (m : FiniteModel) (b : ℕ → Bool) (s : ℕ → ℕ) → ((v : ℕ) → b v ≡ false) → held m b s ≡ m
held_none m b s none =
    ap (λ (f : ℕ → (ℕ → ℕ) → (ℕ → ℕ) → ℕ). let h : FiniteModel = record m { mechanism = f } in h)
    (fun_ext (λ v. fun_ext (λ t. fun_ext (λ u. ap (λ (k : ℕ → ℕ). m.mechanism v k u) (fun_ext (λ p. let e = none p in rw e refl))))))

-- without an intervention the weight of a set of names, in which no vertex has both of its names, is that of an observed event
pub observed_weight : (g : MixedGraph) → IsMixedGraph g → (m : FiniteModel) → Fits g m → (x : ℕ) (a : ℕ → Bool)
    → ((v : ℕ) → plain_in m.vertices a v ≡ true → primed_in m.vertices x a v ≡ false) → (s : ℕ → ℕ) → IsAssignment m.vertices m.size s
    → (with_primes m x).weight (has 0) a s
    ≡ event_weight m (λ v. plain_in m.vertices a v || primed_in m.vertices x a v) (joined (primed_in m.vertices x a) s (as_observed m.vertices x s))
observed_weight g ok m fit x a apart s within =
    treated_is_held g ok m fit (has 0) (plain_in m.vertices a) (primed_in m.vertices x a) everything (λ v e. has-zero v) apart s
    (as_observed m.vertices x s) within
    ∙ ap (λ h. event_weight h (λ v. plain_in m.vertices a v || primed_in m.vertices x a v) (joined (primed_in m.vertices x a) s (as_observed m.vertices x s)))
    (held_none m (has 0) s has-zero)
  where
    everything : IsBefore g (has 0) (primed_in m.vertices x a)
    everything = record { past = λ v. true; holds = λ v e. refl; closed = λ p v arrow e. refl; untouched = λ p v arrow e. has-zero p }
