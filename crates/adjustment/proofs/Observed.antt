-- Weights of what is observed.
use Rattle.std.proofs.Common.{ℕ, ◌≡◌, Bool, true, false, refl, sym, ap, ◌∙◌, ◌||◌}
use mathlib.Core.Path.{fun_ext}
use Rattle.mixed_graph.specs.Vocabulary.{has, union}
use Rattle.mixed_graph.proofs.Masks.{has-zero, has-or}
use Rattle.finite_models.specs.Vocabulary.{FiniteModel, event_weight, weight_of, intervene, total}
use Rattle.finite_models.proofs.Weights.{weight-none, weight_of-none}

pub no_bits : (a : ℕ → Bool) → (λ v. a v || has 0 v) ≡ a
no_bits a = fun_ext (λ v. go (a v) (has 0 v) (has-zero v))
  where
    go : (p q : Bool) → q ≡ false → (p || q) ≡ p
    go true q e = refl
    go false q e = e

pub turned : (x y z : ℕ) → ◌≡◌ {A = ℕ → Bool} (λ v. has y v || has (union x z) v) (λ v. has x v || (has y v || has z v))
turned x y z = fun_ext (λ v. ap (λ t. has y v || t) (has-or x z v) ∙ go (has x v) (has y v) (has z v))
  where
    go : (p q r : Bool) → (q || (p || r)) ≡ (p || (q || r))
    go true true r = refl
    go true false r = refl
    go false q r = refl

pub turned_pair : (x y z : ℕ) → ((v : ℕ) → has z v ≡ false) → ◌≡◌ {A = ℕ → Bool} (λ v. has y v || has x v) (λ v. has x v || (has y v || has z v))
turned_pair x y z none = fun_ext (λ v. go (has x v) (has y v) (has z v) (none v))
  where
    go : (p q r : Bool) → r ≡ false → (q || p) ≡ (p || (q || r))
    go true true r e = refl
    go true false r e = refl
    go false true r e = refl
    go false false r e = sym e

pub turned_one : (x z : ℕ) → ((v : ℕ) → has z v ≡ false) → has x ≡ (λ v. has x v || has z v)
turned_one x z none = fun_ext (λ v. go (has x v) (has z v) (none v))
  where
    go : (p r : Bool) → r ≡ false → p ≡ (p || r)
    go true r e = refl
    go false r e = sym e

pub joined : (x z : ℕ) → has (union x z) ≡ (λ v. has x v || has z v)
joined x z = fun_ext (λ v. has-or x z v)

-- the weight of no event is the total
pub whole : (m : FiniteModel) (x : ℕ) (s : ℕ → ℕ) → weight_of m (has x) (has 0) s ≡ total m
whole m x s = weight-none (intervene m (has x) s) (has 0) s has-zero

-- the weights of what is observed, by equal sets
pub observed : (m : FiniteModel) (a b : ℕ → Bool) (c : ℕ → ℕ) → a ≡ b → weight_of m (has 0) a c ≡ event_weight m b c
observed m a b c e = weight_of-none m (has 0) a c has-zero ∙ ap (λ t. event_weight m t c) e

pub all_worlds : (m : FiniteModel) (c : ℕ → ℕ) → weight_of m (has 0) (has 0) c ≡ total m
all_worlds m c = weight_of-none m (has 0) (has 0) c has-zero ∙ weight-none m (has 0) c has-zero
