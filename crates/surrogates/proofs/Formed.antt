-- Each part of the formula over experiments has its form.
use Rattle.std.proofs.Common.{ℕ, ◌+◌, ◌≡◌, ◌<◌, true, not, refl, subst, List, [], ◌∷◌, ◌++◌, length, arith, length-append}
use Rattle.do_derivation.specs.Vocabulary.{are_sets}
use Rattle.identification_theory.proofs.Accepted.{d_low, y_in}
use Rattle.identification_theory.proofs.Bools.{and_l}
use Rattle.identification_theory.proofs.Groups.{count, once, in_list, AreParts, are_parts}
use Rattle.identification_theory.proofs.Orders.{IsOrderFrom, order_of}
use Rattle.identification_theory.proofs.Sets.{has-minus}
use Rattle.identification_theory.specs.Vocabulary.{IsTarget, Source, product_of}
use Rattle.identification_theory.proofs.Formed.{IsFormed, AreFormed, AllFormed, IsFormedFormula, formed_more, formed_more_each, sum_formed}
use Rattle.identification_theory.proofs.Formed.{factor_all, all_append, product_formed}
use Rattle.mixed_graph.proofs.Masks.{has-zero}
use Rattle.mixed_graph.specs.Vocabulary.{has, IsMixedGraph, MixedGraph, all, minus}
use Rattle.prob_expr.specs.Tree.{Tree}
use Rattle.prob_expr.specs.Vocabulary.{PlainFormula, Trees, no_trees}
use Rattle.surrogates.proofs.Induced.{inner_graph}
use Rattle.surrogates.proofs.Rooms.{Chosen, chosen, listed_low, a_off, inner_stage}
use Rattle.surrogates.specs.Surrogates.{without, AreFactoredWith, IsComposedOver}

no_districts : (g : MixedGraph) (zs : List ℕ) (k : ℕ) (cs : List ℕ) (ds : List Tree) → AreFactoredWith g zs k cs ds no_trees → cs ≡ []
no_districts g zs k _ _ AreFactoredWith.none = refl

module _ (g : MixedGraph) (ok : IsMixedGraph g) (o : List ℕ) (order : IsOrderFrom g 0 o) (zs : List ℕ) (sets : are_sets g.vertices zs ≡ true) where
  districts_formed : (d k : ℕ) (ts : List ℕ) (ds : List Tree) (fs : Trees) → ((u : ℕ) → has d u ≡ true → u < g.vertices) → AreParts g d ts
      → AreFactoredWith g zs k ts ds fs → AllFormed g.vertices k ds × AreFormed g.vertices (k + length ds) fs
  districts_formed d k _ _ _ low parts AreFactoredWith.none = (tt, tt)
  districts_formed d k _ _ _ low parts (AreFactoredWith.next {c = c} {z = z} {cs = cs} {ds = ds} {es = es} {e = e} {fs = fs} h t rest) =
      let q : Chosen c z (0 ∷ zs) = chosen g c z (0 ∷ zs) h in
      let c_low : (u : ℕ) → has c u ≡ true → u < g.vertices = λ u i. low u (parts.0.t_in u i) in
      let x : AllFormed g.vertices k ds × IsFormed g.vertices (k + length ds) e =
      factor_all (without g z) (inner_graph g (minus (all g.vertices) z) ok) t.order (order_of (without g z) t.order t.is_order) c t.a (Source.Under z)
      k ds e
      (listed_low g.vertices zs sets z q.listed, a_off g ok z c q.off c_low t.a t.ancestors)
      (inner_stage g ok z c q.off c_low t.a t.ancestors parts.0.some parts.0.some_in) t.factor in
      let y = districts_formed d (k + length ds) cs es fs low parts.1 rest in
      let l : length (ds ++ es) ≡ length ds + length es = length-append ds es in (
        all_append g ok o order k ds es x.0 y.0,
        (
          formed_more g.vertices (k + length ds) (k + length (ds ++ es)) e (omega (arith, l)) x.1,
          formed_more_each g.vertices ((k + length ds) + length es) (k + length (ds ++ es)) fs (omega (arith, l)) y.1,
        ),
      )

  module _ (x y : ℕ) (tgt : IsTarget g x y) (f : PlainFormula) (made : IsComposedOver g o zs x y f) where
    low : (u : ℕ) → has made.split.d u ≡ true → u < g.vertices
    low = d_low g ok o order x y tgt made.split.d made.split.is_d

    some_factor : made.factors ≡ no_trees → ⊥
    some_factor q = absurd (
        let c : count made.split.districts tgt.some ≡ 1 = once g ok made.split.d o made.split.districts made.split.are_districts tgt.some in_d
        (in_list g 0 tgt.some o order (d_low g ok o order x y tgt made.split.d made.split.is_d tgt.some in_d) (has-zero tgt.some)) in
        let e : made.split.districts ≡ [] = no_districts g zs 0 made.split.districts f.defs
        (subst (AreFactoredWith g zs 0 made.split.districts f.defs) q made.are_factored) in
        let z : 0 ≡ 1 = rw e at c in omega (arith, z))
      where
        in_d : has made.split.d tgt.some ≡ true
        in_d = y_in g ok o order x y tgt made.split.d made.split.is_d tgt.some tgt.some_in

    pub composed_formed : IsFormedFormula g.vertices f
    unfolding low
    composed_formed = let forms = districts_formed made.split.d 0 made.split.districts f.defs made.factors low
        (are_parts g ok made.split.d 0 o made.split.districts made.split.are_districts) made.are_factored in (
          forms.0,
          rw made.main (sum_formed g ok o order (minus made.split.d y) (length f.defs) (product_of made.factors)
              (λ u e. low u (and_l (has made.split.d u) (not (has y u)) (rw (has-minus made.split.d y u) at e)))
              (product_formed g ok o order (length f.defs) made.factors some_factor
              (formed_more_each g.vertices (0 + length f.defs) (length f.defs) made.factors (omega arith) forms.1))),
        )
