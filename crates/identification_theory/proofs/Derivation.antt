-- The derivation that the procedure makes, step by step: the chain's factors are grouped only where some district has two members.
use Rattle.std.proofs.Common.{ℕ, ◌≡◌, ◌<◌, Bool, true, false, cond, refl, sym, subst, ◌∙◌, ◌||◌, inl, inr, List, [], ◌∷◌, arith}
use Rattle.hedge.specs.Vocabulary.{AreDistricts}
use Rattle.do_derivation.specs.Vocabulary.{sets_of, PlainDerivation, MakesAll}
use Rattle.do_derivation.specs.Plans.{Move, Plan, Plans, plan}
use Rattle.identification_theory.proofs.Accepted.{Whole, whole, unwrap_deep, homes_deep, rest_made, rest_deep, main_made, main_deep, d_low, y_in}
use Rattle.identification_theory.proofs.Assembly.{starts, all_cited}
use Rattle.identification_theory.proofs.Bodies.{EachMade}
use Rattle.identification_theory.proofs.Free.{tree_free}
use Rattle.identification_theory.proofs.Groups.{Among, in_list, among_in_order, AreParts, are_parts}
use Rattle.identification_theory.proofs.Nesting.{each_at, are_lists_to}
use Rattle.identification_theory.proofs.Orders.{IsOrderFrom}
use Rattle.identification_theory.proofs.Singles.{AreSingle, single_made}
use Rattle.identification_theory.specs.Depth.{are_plans_within}
use Rattle.identification_theory.specs.Laws.{IsAcceptedFor}
use Rattle.identification_theory.specs.Procedure.{IsComposed, IsTarget, product_of}
use Rattle.mixed_graph.proofs.Masks.{has-zero}
use Rattle.mixed_graph.specs.Vocabulary.{has, IsMixedGraph, MixedGraph, all, minus}
use Rattle.prob_expr.specs.Tree.{prob}
use Rattle.prob_expr.specs.Vocabulary.{PlainFormula, Trees}
use Rattle.identification_theory.specs.Derivations.{group_lists, unchain_lists, IsComposedAndDerived, Lists, at_each, in_order, home_lists, unwrap_steps}
use Rattle.identification_theory.specs.Derivations.{two_or_more, has_pair, district_steps, main_steps}

or_false : (p q : Bool) → (p || q) ≡ false → (p ≡ false) × (q ≡ false)
or_false true q e = absurd (grind (arith, e))
or_false false q e = (refl, e)

at_most_one : (l : List ℕ) → two_or_more l ≡ false → (u v : ℕ) → Among u l → Among v l → u ≡ v
at_most_one [] h u v a b = absurd a
at_most_one (w ∷ []) h u v (inl a) (inl b) = a ∙ sym b
at_most_one (w ∷ []) h u v (inr a) b = absurd a
at_most_one (w ∷ []) h u v (inl a) (inr b) = absurd b
at_most_one (w ∷ x ∷ l) h u v a b = absurd (grind (arith, h))

are_single : (g : MixedGraph) (o : List ℕ) (d : ℕ) (ts : List ℕ) → ((u : ℕ) → has d u ≡ true → Among u o) → AreParts g d ts → has_pair o ts ≡ false
    → AreSingle ts
are_single g o d [] h p e = tt
are_single g o d (t ∷ ts) h p e = let q = or_false (two_or_more (in_order t o)) (has_pair o ts) e in (
  (λ u v iu iv. at_most_one (in_order t o) q.0 u v (among_in_order t u o iu (h u (p.0.t_in u iu))) (among_in_order t v o iv (h v (p.0.t_in v iv)))),
  are_single g o d ts h p.1 q.1,
)

module _ (g : MixedGraph) (is_graph : IsMixedGraph g) (o : List ℕ) (order : IsOrderFrom g 0 o) (d : ℕ) (low : (u : ℕ) → has d u ≡ true → u < g.vertices)
    (some : ℕ) (some_in : has d some ≡ true) where
  -- from P(d | do(all others)) to the product of its districts' factors, where each list makes its factor
  pub districts_made : (ls ts : List ℕ) (xs : Lists) (fs : Trees) → AreDistricts g d 0 o ts → EachMade g ls xs (starts g.vertices ts) fs
      → MakesAll g ls (district_steps o d ts xs fs) (prob d (minus (all g.vertices) d) 0) (product_of fs)
  districts_made ls [] xs fs r h = rest_made g is_graph o order d low some some_in ls [] xs fs r h
  districts_made ls (t ∷ []) xs fs r h = rest_made g is_graph o order d low some some_in ls (t ∷ []) xs fs r h
  districts_made ls (t ∷ s ∷ ts) xs fs r h = go (has_pair o (t ∷ s ∷ ts)) refl
    where
      go : (b : Bool) → has_pair o (t ∷ s ∷ ts) ≡ b → MakesAll g ls (plan (Plan.Make (Move.Chain (in_order d o))) (at_each 0 (home_lists d (t ∷ s ∷ ts) 0 o)
          (cond b (plan (Plan.Make (Move.Group (group_lists (t ∷ s ∷ ts) (in_order d o))))
          (at_each 0 (unchain_lists (t ∷ s ∷ ts) (in_order d o)) (at_each 0 xs (unwrap_steps fs)))) (at_each 0 xs (unwrap_steps fs)))))
          (prob d (minus (all g.vertices) d) 0) (product_of fs)
      go true e = rest_made g is_graph o order d low some some_in ls (t ∷ s ∷ ts) xs fs r h
      go false e = single_made g is_graph o order d low some some_in ls t s ts xs fs
          (are_single g o d (t ∷ s ∷ ts) (λ u i. in_list g 0 u o order (low u i) (has-zero u)) (are_parts g is_graph d 0 o (t ∷ s ∷ ts) r) e) r h

  -- the steps on d nest at most 11 deep where those of each factor nest at most 9
  pub districts_deep : (ts : List ℕ) (xs : Lists) (fs : Trees) → are_lists_to 9 xs ≡ true → are_plans_within 11 (district_steps o d ts xs fs) ≡ true
  districts_deep [] xs fs h = refl
  districts_deep (t ∷ []) xs fs h = rest_deep g is_graph o order d low some some_in (t ∷ []) xs fs h
  districts_deep (t ∷ s ∷ ts) xs fs h = go (has_pair o (t ∷ s ∷ ts))
    where
      go : (b : Bool) → are_plans_within 11 (plan (Plan.Make (Move.Chain (in_order d o))) (at_each 0 (home_lists d (t ∷ s ∷ ts) 0 o)
          (cond b (plan (Plan.Make (Move.Group (group_lists (t ∷ s ∷ ts) (in_order d o))))
          (at_each 0 (unchain_lists (t ∷ s ∷ ts) (in_order d o)) (at_each 0 xs (unwrap_steps fs)))) (at_each 0 xs (unwrap_steps fs))))) ≡ true
      go true = rest_deep g is_graph o order d low some some_in (t ∷ s ∷ ts) xs fs h
      go false = each_at 9 0 (home_lists d (t ∷ s ∷ ts) 0 o) (at_each 0 xs (unwrap_steps fs))
          (homes_deep g is_graph o order d low some some_in (t ∷ s ∷ ts) 0 o)
          (each_at 9 0 xs (unwrap_steps fs) h (unwrap_deep g is_graph o order d low some some_in fs))

module _ (g : MixedGraph) (is_graph : IsMixedGraph g) (o : List ℕ) (order : IsOrderFrom g 0 o) (x y : ℕ) (tgt : IsTarget g x y) (f : PlainFormula)
    (made : IsComposed g o x y f) where
  -- the derivation, and what is true of it
  pub record Derived : Type 0 where
    pub derivation : PlainDerivation
    pub by : IsComposedAndDerived g o x y f derivation
    pub accepted : IsAcceptedFor g x y f derivation

  -- the composed formula has a derivation by the same order, and it is accepted
  pub procedure : Derived
  procedure = record {
    derivation = record { lemmas = w.lemmas; main = Plan.Then (main_steps g.vertices x y made.split.d rest) };
    by = record { composed = made; lists = w.lists; are = w.are; main = refl };
    accepted = record {
      lemmas_deep = w.lemmas_deep;
      main_deep = main_deep g is_graph o order x y tgt made.split.d made.split.is_d rest
          (districts_deep g is_graph o order made.split.d low tgt.some (y_in g is_graph o order x y tgt made.split.d made.split.is_d tgt.some tgt.some_in)
          made.split.districts w.lists made.factors w.deep);
      accepted = record {
        sets = w.sets;
        define = w.define [] refl;
        main = subst (λ z. MakesAll g (sets_of w.lemmas) (main_steps g.vertices x y made.split.d rest) (prob y x 0) z) (sym made.main)
            (main_made g is_graph o order x y tgt made.split.d made.split.is_d (sets_of w.lemmas) rest (product_of made.factors)
            (districts_made g is_graph o order made.split.d low tgt.some (y_in g is_graph o order x y tgt made.split.d made.split.is_d tgt.some tgt.some_in)
            (sets_of w.lemmas) made.split.districts w.lists made.factors made.split.are_districts (w.made (sets_of w.lemmas) (all_cited [] w.lemmas 0 refl))));
        listed = tree_free g o x y f made;
      };
    };
  }
    where
      low : (u : ℕ) → has made.split.d u ≡ true → u < g.vertices
      low = d_low g is_graph o order x y tgt made.split.d made.split.is_d

      w : Whole g is_graph o order 0 made.split.districts f.defs made.factors
      w = whole g is_graph o order made.split.d 0 made.split.districts f.defs made.factors low
          (are_parts g is_graph made.split.d 0 o made.split.districts made.split.are_districts)
          made.are_factored

      rest : Plans
      rest = district_steps o made.split.d made.split.districts w.lists made.factors
