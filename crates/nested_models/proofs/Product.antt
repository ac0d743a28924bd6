-- A nested event as a sum of products of effects.
use Rattle.std.proofs.Common.{ℕ, ◌*◌, ◌^◌, ◌≡◌, ◌<◌, Bool, true, false, cond, eqb, not, refl, sym, ap, ap₂, ◌∙◌, ◌||◌, ◌&&◌, List, [], ◌∷◌, length, arith}
use Rattle.std.proofs.lemmas.Bool.{cond-false}
use mathlib.Core.Path.{fun_ext}
use Rattle.mixed_graph.specs.Vocabulary.{has, MixedGraph, IsMixedGraph}
use Rattle.finite_models.specs.Vocabulary.{sum_over, FiniteModel, Fits, IsAssignment, event_weight, world_weight, total}
use Rattle.finite_models.proofs.Factors.{marginal, weight_by_checks}
use Rattle.finite_models.proofs.Following.{follows_of}
use Rattle.finite_models.proofs.Indicators.{number}
use Rattle.finite_models.proofs.Ranks.{with_rank}
use Rattle.finite_models.proofs.SumLaws.{over-congr, over-scale, product_below-congr}
use Rattle.do_rules.specs.Vocabulary.{cut_out}
use Rattle.do_rules.proofs.Altered.{ranked_out}
use Rattle.treated_models.specs.Vocabulary.{held, obeyed, factor_of, factors_of, AreFree, read_at}
use Rattle.treated_models.proofs.Held.{untouched_factors}
use Rattle.treated_models.proofs.Districts.{districts_multiply}
use Rattle.treated_models.proofs.Factor.{factor_is_effect}
use Rattle.treated_models.proofs.Product.{over-congr_assigned}
use Rattle.nested_models.specs.Nested.{held_apart, Reader, sets_of, ReadOneEach, weights_read, NestedIsProduct}
use Rattle.nested_models.proofs.Apart.{follows_apart, apart_fits}
use Rattle.nested_models.proofs.Held.{nested_is_held}

module _ (g : MixedGraph) (ok : IsMixedGraph g) (w : FiniteModel) (fit : Fits g w) (x k : ℕ → Bool) (s t : ℕ → ℕ) (hs : IsAssignment w.vertices w.size s)
    (ht : IsAssignment w.vertices w.size t) where
  -- an event is the sum of the factors of a set that has its parents
  event_is_sum : (e rest : ℕ → Bool) → ((v : ℕ) → e v ≡ true → rest v ≡ true → ⊥)
      → ((p v : ℕ) → (cut_out g x).arrow p v ≡ true → (e v || rest v) ≡ true → (e p || rest p) ≡ true) → (r : ℕ → ℕ)
      → event_weight (held_apart w x k s t) e r ≡ sum_over rest w.size w.vertices (factor_of (held_apart w x k s t) (λ v. e v || rest v)) r
  event_is_sum e rest apart closed r =
      with_rank g ok (event_weight (held_apart w x k s t) e r) (sum_over rest w.size w.vertices (factor_of (held_apart w x k s t) (λ v. e v || rest v)) r)
      (λ rank ranked. let follows = follows_apart g w x k s t hs ht (follows_of g w fit) in let order = ranked_out g x rank ranked in
      sym (marginal (cut_out g x) (held_apart w x k s t) rank order follows e rest r apart)
      ∙ over-congr rest w.size w.vertices (event_weight (held_apart w x k s t) (λ v. e v || rest v)) (factor_of (held_apart w x k s t) (λ v. e v || rest v)) r
      (λ q. weight_by_checks (cut_out g x) (held_apart w x k s t) rank order follows (λ v. e v || rest v) q closed))

  -- the values of x that a set reads
  abbrev pub read_value : ℕ → ℕ → ℕ
  read_value c v = cond (has c v) (t v) (s v)

  read_value_within : (c : ℕ) → IsAssignment w.vertices w.size (read_value c)
  read_value_within c v il = go (has c v)
    where
      go : (b : Bool) → cond b (t v) (s v) < w.size v
      go true = ht v il
      go false = hs v il

  read_within : (d : ℕ) (a r : ℕ → ℕ) → IsAssignment w.vertices w.size a → IsAssignment w.vertices w.size r → IsAssignment w.vertices w.size (read_at x d a r)
  read_within d a r ha hr v il = go (x v && not (has d v))
    where
      go : (c : Bool) → cond c (a v) (r v) < w.size v
      go true = ha v il
      go false = hr v il

  -- a set that reads one value of each treatment obeys as where each arrow out of x carries that
  one_read : (a : ℕ → Bool) (c : ℕ) → ((p v : ℕ) → g.arrow p v ≡ true → x p ≡ true → a v ≡ true → k v ≡ has c p) → (r u : ℕ → ℕ)
      → obeyed (held_apart w x k s t) a r u ≡ obeyed (held w x (read_value c)) a r u
  one_read a c one r u = product_below-congr w.vertices
      (λ v. number (cond (a v) (eqb (r v) (w.mechanism v (λ p. cond (x p) (cond (k v) (t p) (s p)) (r p)) u)) true))
      (λ v. number (cond (a v) (eqb (r v) (w.mechanism v (λ p. cond (x p) (read_value c p) (r p)) u)) true))
      (λ v il. at v il (a v) refl)
    where
      read : (p v : ℕ) → g.arrow p v ≡ true → a v ≡ true → (b : Bool) → x p ≡ b → cond (x p) (cond (k v) (t p) (s p)) (r p) ≡ cond (x p) (read_value c p) (r p)
      read p v e i true q = ap (λ b. cond (x p) (cond b (t p) (s p)) (r p)) (one p v e q i)
      read p v e i false q = cond-false (x p) (cond (k v) (t p) (s p)) (r p) q ∙ sym (cond-false (x p) (read_value c p) (r p) q)

      at : (v : ℕ) → v < w.vertices → (b : Bool) → a v ≡ b
          → number (cond (a v) (eqb (r v) (w.mechanism v (λ p. cond (x p) (cond (k v) (t p) (s p)) (r p)) u)) true)
          ≡ number (cond (a v) (eqb (r v) (w.mechanism v (λ p. cond (x p) (read_value c p) (r p)) u)) true)
      at v il false q = rw q refl
      at v il true q = ap (λ n. number (cond (a v) (eqb (r v) n) true))
          (fit.reads v il (λ p. cond (x p) (cond (k v) (t p) (s p)) (r p)) (λ p. cond (x p) (read_value c p) (r p)) u u (λ p e. read p v e q (x p) refl)
          (λ j jl h. refl))

  factors : (rs : List Reader) → AreFree g x (sets_of rs) → ReadOneEach g x k rs → (c : ℕ → ℕ) → IsAssignment w.vertices w.size c
      → factors_of (held_apart w x k s t) (sets_of rs) c ≡ weights_read w x rs s t c
  factors [] free once c inside = refl
  factors (r ∷ rs) free once c inside = ap₂ (λ i j. i * j)
      (over-congr (λ j. true) w.values w.causes (λ u. world_weight w u * obeyed (held_apart w x k s t) (has r.set) c u)
      (λ u. world_weight w u * obeyed (held w x (read_value r.second)) (has r.set) c u) (λ j. 0)
      (λ u. ap (λ n. world_weight w u * n) (one_read (has r.set) r.second once.0 c u))
      ∙ untouched_factors g w fit x (has r.set) free.0 (read_value r.second) c
      ∙ factor_is_effect g ok w fit (has r.set) (read_at x r.set (read_value r.second) c)
      (read_within r.set (read_value r.second) c (read_value_within r.second) inside))
      (factors rs free.1 once.1 c inside)

pub nested_is_product : NestedIsProduct
nested_is_product g ok w fit x m y z k rest asked tells off closed rs are unjoined free once s t hs ht =
    ap (λ n. n * total w ^ length (sets_of rs)) (nested_is_held g ok w fit x m y z k asked tells s t hs ht
    ∙ event_is_sum g ok w fit x k s t hs ht (λ v. y v || z v) rest off closed s)
    ∙ flipped (sum_over rest w.size w.vertices whole s) (total w ^ length (sets_of rs))
    ∙ sym (over-scale rest w.size w.vertices (total w ^ length (sets_of rs)) whole s)
    ∙ over-congr_assigned rest w.size w.vertices w.vertices (omega arith) (λ c. total w ^ length (sets_of rs) * whole c)
    (λ c. total w * weights_read w x rs s t c) s hs
    (λ c inside. flipped (total w ^ length (sets_of rs)) (whole c)
    ∙ ap (λ a. factor_of (held_apart w x k s t) a c * total w ^ length (sets_of rs)) (sym (fun_ext are))
    ∙ districts_multiply g (held_apart w x k s t) (apart_fits g w x k s t hs ht fit) (sets_of rs) unjoined c
    ∙ ap (λ n. total w * n) (factors g ok w fit x k s t hs ht rs free once c inside))
    ∙ over-scale rest w.size w.vertices (total w) (λ c. weights_read w x rs s t c) s
  where
    whole : (ℕ → ℕ) → ℕ
    whole = factor_of (held_apart w x k s t) (λ v. (y v || z v) || rest v)

    flipped : (a b : ℕ) → a * b ≡ b * a
    flipped a b = omega arith
