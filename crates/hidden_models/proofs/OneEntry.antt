-- One entry of a table.
use Rattle.std.proofs.Common.{ℕ, zero, suc, ◌+◌, ◌*◌, ◌/◌, ◌%◌, ◌≡◌, ◌<◌, ◌≤◌, Bool, List, length, get_or, min, refl, sym, ap, ap₂, ◌∙◌, subst, arith}
use mathlib.Core.Path.{fun_ext}
use Rattle.mixed_graph.specs.declared.sets.VSet.{VSet}
use Rattle.mixed_graph.specs.Vocabulary.{has, MixedGraph, IsMixedGraph}
use Rattle.latent_projection.specs.Vocabulary.{IsProjection}
use Rattle.finite_models.specs.declared.model.Model.{Model}
use Rattle.finite_models.specs.Vocabulary.{meaning, sum_below, radix_range, values_of, IsAcceptedModel}
use Rattle.finite_models.proofs.Digits.{positive_range}
use Rattle.hidden_models.specs.Digits.{digits}
use Rattle.hidden_models.specs.Reaching.{mask_at}
use Rattle.hidden_models.specs.Tables.{world_range, entries, parents_at, causes_at, folded_value, entry_at}
use Rattle.hidden_models.specs.Values.{IsWorldOf, filled}
use Rattle.hidden_models.proofs.DigitLaws.{digits-lt}

at_most : (x y : ℕ) → 0 < x → y ≤ x * y
at_most x y pos = grind arith

capped : (x y n r : ℕ) → y ≤ x → x ≤ n → r ≡ min (1 * y) (n + 1) → r ≡ y
capped x y n r le lt e = let o : 1 * y ≡ y = omega arith in omega arith

some_value : (k : ℕ) (f : ℕ → ℕ) → 1 ≤ sum_below k f → 0 < k
some_value zero f h = absurd (omega arith)
some_value (suc k) f h = omega arith

module _ (g : MixedGraph) (ok : IsMixedGraph g) (l : ℕ → Bool) (m : Model) (accepted : IsAcceptedModel g m) (p : MixedGraph) (projects : IsProjection g l p)
    (sets : List VSet) (v : ℕ) where
  size_positive : (k : ℕ) → k < p.vertices → 0 < get_or m.sizes.items k 0
  size_positive k kl = accepted.fits.positive_size k (subst (λ n. k < n) projects.vertices kl)

  pub values_positive : (j : ℕ) → j < length m.causes.items → 0 < values_of m.causes.items j
  values_positive j jl = some_value (values_of m.causes.items j) _ (accepted.fits.positive_weight j jl)

  worlds_positive : 0 < world_range m sets v
  worlds_positive = positive_range (length m.causes.items) (λ j. has (mask_at sets j) v) (values_of m.causes.items) values_positive

  pub worlds_is : (r : ℕ) → entries p m sets v ≤ 1048576 → r ≡ min (1 * world_range m sets v) 1048577 → r ≡ world_range m sets v
  worlds_is r small e = capped (entries p m sets v) (world_range m sets v) 1048576 r
      (at_most (radix_range p.vertices (λ k. p.arrow k v) (λ k. get_or m.sizes.items k 0)) (world_range m sets v)
      (positive_range p.vertices (λ k. p.arrow k v) (λ k. get_or m.sizes.items k 0) size_positive)) small e

  pub some_worlds : (r : ℕ) → entries p m sets v ≤ 1048576 → r ≡ min (1 * world_range m sets v) 1048577 → 0 < r
  some_worlds r small e = subst (λ n. 0 < n) (sym (worlds_is r small e)) worlds_positive

  pub at_within : (at : List ℕ) (number : ℕ) → ((k : ℕ) → get_or at k 0 ≡ digits p.vertices (λ k. p.arrow k v) (λ k. get_or m.sizes.items k 0) number k)
      → (k : ℕ) → k < g.vertices → get_or at k 0 < get_or m.sizes.items k 0
  at_within at number h k kl = subst (λ n. n < get_or m.sizes.items k 0) (sym (h k))
      (digits-lt p.vertices (λ k. p.arrow k v) (λ k. get_or m.sizes.items k 0) size_positive number k (subst (λ n. k < n) (sym projects.vertices) kl))

  pub world_of : (world : List ℕ) (number : ℕ) → length world ≡ length m.causes.items
      → ((j : ℕ) → get_or world j 0 ≡ digits (length m.causes.items) (λ j. has (mask_at sets j) v) (values_of m.causes.items) number j)
      → IsWorldOf m.causes.items world
  world_of world number long h = record {
    long = long;
    below = λ j jl. subst (λ n. n < values_of m.causes.items j) (sym (h j))
        (digits-lt (length m.causes.items) (λ j. has (mask_at sets j) v) (values_of m.causes.items) values_positive number j jl);
  }

  pub entry_is : (at world values : List ℕ) (place r w : ℕ) → v < g.vertices → w ≡ world_range m sets v
      → ((k : ℕ) → get_or at k 0 ≡ digits p.vertices (λ k. p.arrow k v) (λ k. get_or m.sizes.items k 0) (place / w) k)
      → ((j : ℕ) → get_or world j 0 ≡ digits (length m.causes.items) (λ j. has (mask_at sets j) v) (values_of m.causes.items) (place % w) j)
      → ((x : ℕ) → x < g.vertices → get_or values x 0 ≡ filled (meaning g m) l (λ k. get_or at k 0) (λ j. get_or world j 0) x)
      → r ≡ (meaning g m).mechanism v (λ k. get_or values k 0) (λ j. get_or world j 0) → r ≡ entry_at g p l m sets v place
  entry_is at world values place r w vl is hat hworld hvalues e =
      let a : (λ k. get_or at k 0) ≡ parents_at p m sets v place = fun_ext
      (λ k. hat k ∙ ap (λ n. digits p.vertices (λ k. p.arrow k v) (λ k. get_or m.sizes.items k 0) (place / n) k) is) in
      let b : (λ j. get_or world j 0) ≡ causes_at m sets v place = fun_ext
      (λ j. hworld j ∙ ap (λ n. digits (length m.causes.items) (λ j. has (mask_at sets j) v) (values_of m.causes.items) (place % n) j) is) in
      e ∙ accepted.fits.reads v vl (λ k. get_or values k 0) (filled (meaning g m) l (λ k. get_or at k 0) (λ j. get_or world j 0)) (λ j. get_or world j 0)
      (λ j. get_or world j 0)
      (λ q h. hvalues q (ok.tail_below q v h)) (λ j jl h. refl)
      ∙ ap₂ (λ (s u : ℕ → ℕ). folded_value (meaning g m) l v s u) a b
