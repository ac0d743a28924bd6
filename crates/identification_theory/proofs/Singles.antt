-- Where each district has one member the chain's factors need no grouping.
use Rattle.std.proofs.Common.{ℕ, ◌≡◌, ◌<◌, Bool, true, false, leb, refl, sym, ap, ap₂, subst, ◌∙◌, ◌&&◌, ◌⊎◌, inl, inr, List, [], ◌∷◌, length, arith, le-leb}
use Rattle.hedge.specs.Vocabulary.{at, AreDistricts}
use Rattle.do_derivation.specs.Plans.{Move, Plan, plan}
use Rattle.do_derivation.specs.declared.faults.StepFault.TheVariants.{BadOrder}
use Rattle.do_derivation.specs.Vocabulary.{chained, is_list_of, MakesAll}
use Rattle.do_derivation.specs.Table.{Row}
use Rattle.identification_theory.proofs.Accepted.{unwrap_made, product_is, in_all, chain_made}
use Rattle.identification_theory.proofs.Assembly.{starts}
use Rattle.identification_theory.proofs.Bodies.{EachMade, each_made}
use Rattle.identification_theory.proofs.Body.{in_order-take, in_order-skip}
use Rattle.identification_theory.proofs.Bools.{and_r, both_true, clash}
use Rattle.identification_theory.proofs.Groups.{Among, count, home_is, homed, AreParts, are_parts, once, EachOnce, each_listed, among_in_order}
use Rattle.identification_theory.proofs.Groups.{common-in, common-none, common-out}
use Rattle.identification_theory.proofs.Orders.{IsOrderFrom}
use Rattle.identification_theory.proofs.Places.{made_if}
use Rattle.identification_theory.proofs.Sets.{one-is, one-self}
use Rattle.identification_theory.specs.Procedure.{product_of}
use Rattle.mixed_graph.proofs.Masks.{has-and, has-zero, same_from_has}
use Rattle.mixed_graph.specs.Vocabulary.{has, IsMixedGraph, MixedGraph, all, union, minus, one, common}
use Rattle.prob_expr.specs.Tree.{prob, product, tree}
use Rattle.prob_expr.specs.Vocabulary.{Trees}
use Rattle.identification_theory.specs.Derivations.{single, Lists, at_each, in_order, home, home_lists, unwrap_steps}

-- each set has one member
abbrev pub AreSingle : List ℕ → Type 0
AreSingle [] = Unit {0}
AreSingle (t ∷ ts) = ((u v : ℕ) → has t u ≡ true → has t v ≡ true → u ≡ v) × AreSingle ts

module _ (g : MixedGraph) (is_graph : IsMixedGraph g) (d : ℕ) (all_ts : List ℕ) (counted : (u : ℕ) → has d u ≡ true → count all_ts u ≡ 1) where
  one_only : (t v : ℕ) → has t v ≡ true → ((u w : ℕ) → has t u ≡ true → has t w ≡ true → u ≡ w) → t ≡ one v
  one_only t v i h = same_from_has t (one v) (λ u. go u (has t u) refl)
    where
      go : (u : ℕ) (b : Bool) → has t u ≡ b → b ≡ has (one v) u
      go u true e = let s : u ≡ v = h u v e i in sym (rw s (one-self v))
      go u false e = sym (out (has (one v) u) refl)
        where
          out : (b : Bool) → has (one v) u ≡ b → has (one v) u ≡ false
          out true q = absurd (clash (has t v) i (rw (one-is v u q) at e))
          out false q = q

  pub singles_same : (seen p q : ℕ) (o ts : List ℕ) → AreDistricts g d seen o ts → IsOrderFrom g p o → seen ≡ common d p → q ≡ common d p
      → ((t : ℕ) → Among t ts → Among t all_ts) → AreSingle ts
      → homed g.vertices all_ts q (in_order d o) ≡ starts g.vertices ts
  singles_same seen p q _ _ AreDistricts.none order es eq sub single = refl
  singles_same seen p q _ _ (AreDistricts.skip {v = v} {o = o} {ts = ts} w r) order es eq sub single =
      ap (homed g.vertices all_ts q) (in_order-skip d v o not_d)
      ∙ singles_same seen (union p (one v)) q o ts r order.3 (es ∙ sym (common-out d p v not_d)) (eq ∙ sym (common-out d p v not_d)) sub single
    where
      not_d : has d v ≡ false
      not_d = pick w
        where
          pick : (has d v ≡ false) ⊎ (has seen v ≡ true) → has d v ≡ false
          pick (inl n) = n
          pick (inr i) = absurd (clash (has p v) (and_r (has d v) (has p v) (sym (has-and d p v) ∙ (ap (λ z. has z v) (sym es) ∙ i))) order.1)
  singles_same seen p q _ _ (AreDistricts.take {v = v} {t = t} {o = o} {ts = ts} i n k r) order es eq sub single =
      ap (homed g.vertices all_ts q) (in_order-take d v o i)
      ∙ ap₂ tree head (singles_same (union seen t) (union p (one v)) (union q (one v)) o ts r order.3
      (ap (λ z. union seen z) t_one ∙ (ap (λ z. union z (one v)) es ∙ common-in d p v i)) (ap (λ z. union z (one v)) eq ∙ common-in d p v i)
      (λ s m. sub s (inr m)) single.1)
    where
      tv : has t v ≡ true
      tv = k.complete v (at (one-self v))

      t_one : t ≡ one v
      t_one = one_only t v tv single.0

      home_t : home all_ts v ≡ t
      home_t = home_is t v all_ts (counted v i) (sub t (inl refl)) tv

      none_before : common (home all_ts v) q ≡ 0
      none_before = same_from_has (common (home all_ts v) q) 0 (λ u. has-and (home all_ts v) q u
          ∙ (ap (λ z. has z u && has q u) (home_t ∙ t_one) ∙ (go u (has (one v) u) refl ∙ sym (has-zero u))))
        where
          go : (u : ℕ) (b : Bool) → has (one v) u ≡ b → (b && has q u) ≡ false
          go u false e = refl
          go u true e = rw (one-is v u e) ((ap (λ z. has z v) eq ∙ has-and d p v) ∙ rw (i, order.1) refl)

      head : prob (one v) (minus (all g.vertices) (home all_ts v)) (common (home all_ts v) q) ≡ prob t (minus (all g.vertices) t) 0
      head = ap₂ (λ z w. prob (one v) (minus (all g.vertices) z) w) home_t none_before ∙ ap (λ z. prob z (minus (all g.vertices) t) 0) (sym t_one)

module _ (g : MixedGraph) (is_graph : IsMixedGraph g) (o : List ℕ) (order : IsOrderFrom g 0 o) (d : ℕ) (low : (u : ℕ) → has d u ≡ true → u < g.vertices)
    (some : ℕ) (some_in : has d some ≡ true) where
  -- from P(d | do(the rest)) to the product of the factors, without a grouping
  pub single_made : (ls : List ℕ) (t s : ℕ) (ts : List ℕ) (xs : Lists) (fs : Trees) → AreSingle (t ∷ s ∷ ts) → AreDistricts g d 0 o (t ∷ s ∷ ts)
      → EachMade g ls xs (starts g.vertices (t ∷ s ∷ ts)) fs
      → MakesAll g ls (plan (Plan.Make (Move.Chain (in_order d o))) (at_each 0 (home_lists d (t ∷ s ∷ ts) 0 o) (at_each 0 xs (unwrap_steps fs))))
      (prob d (minus (all g.vertices) d) 0) (product_of fs)
  single_made ls t s ts xs fs single r h = chain_made g is_graph o order d low some some_in ls t s ts (at_each 0 xs (unwrap_steps fs)) (product_of fs) r
      (subst (λ z. MakesAll g ls (at_each 0 xs (unwrap_steps fs)) (product z) (product_of fs))
      (sym (singles_same g is_graph d (t ∷ s ∷ ts) (λ u i. once g is_graph d o (t ∷ s ∷ ts) r u i (in_all g is_graph o order d low some some_in u i)) 0 0 0 o
      (t ∷ s ∷ ts) r order (common-none d) (common-none d) (λ z m. m) single))
      (each_made g ls xs (starts g.vertices (t ∷ s ∷ ts)) fs (unwrap_steps fs) (product_of fs) h
      (subst (λ z. MakesAll g ls (unwrap_steps fs) (product fs) z) (sym (product_is g is_graph o order d low some some_in ls xs t s ts fs h))
      (unwrap_made g ls fs))))
