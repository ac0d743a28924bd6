-- The derivation of the formula over experiments is accepted.
use Rattle.std.proofs.Common.{ℕ, ◌+◌, ◌≡◌, ◌<◌, true, refl, sym, ap, ap₂, subst, ◌∙◌, List, [], ◌∷◌, ◌++◌, length, length-append}
use Rattle.do_derivation.specs.Vocabulary.{Define, are_sets, sets_of, no_plans, PlainDerivation, PlainLemma, MakesAll}
use Rattle.do_derivation.specs.Plans.{Plan, Plans}
use Rattle.identification_theory.proofs.Accepted.{are_sets-append, d_low, main_deep, main_made, y_in}
use Rattle.identification_theory.proofs.Assembly.{all_cited, cited_two, define-two, length-sets, sets-append, starts}
use Rattle.identification_theory.proofs.Bodies.{EachMade}
use Rattle.identification_theory.proofs.Bools.{both_true}
use Rattle.identification_theory.proofs.Derivation.{districts_deep, districts_made}
use Rattle.identification_theory.proofs.Factor.{AllCited, Factored, factored}
use Rattle.identification_theory.proofs.Free.{all_under-append, free_of, free_product, free_sum}
use Rattle.identification_theory.proofs.Groups.{AreParts, are_parts}
use Rattle.identification_theory.proofs.Nesting.{are_lists_to, lemmas_append}
use Rattle.identification_theory.proofs.Orders.{IsOrderFrom, order_of}
use Rattle.identification_theory.specs.Vocabulary.{are_lemmas_within, are_plans_within, Lists, district_steps, main_steps, IsTarget, Source, product_of}
use Rattle.identification_theory.proofs.OneDerivation.{factor_one}
use Rattle.mixed_graph.specs.Vocabulary.{has, IsMixedGraph, MixedGraph, all, minus}
use Rattle.prob_expr.specs.Vocabulary.{all_under, are_under, is_under, PlainFormula, Trees}
use Rattle.prob_expr.specs.Tree.{Tree, prob}
use Rattle.surrogates.proofs.Induced.{factor_out, steps_out}
use Rattle.surrogates.proofs.Rooms.{Chosen, chosen, listed_low, a_room, a_off, c_in_a, stage}
use Rattle.surrogates.specs.ExperimentLaws.{IsAcceptedWith}
use Rattle.surrogates.specs.Surrogates.{without, IsDerivedUnder, AreDerivedWith, IsComposedBySteps}

module _ (g : MixedGraph) (ok : IsMixedGraph g) (o : List ℕ) (order : IsOrderFrom g 0 o) (zs : List ℕ) (all_sets : are_sets g.vertices zs ≡ true) where
  -- what is true of the steps of one factor
  record Tried (c k : ℕ) (ds : List Tree) (e : Tree) (ls : List PlainLemma) (l : Plans) : Type 0 where
    same : length ls ≡ length ds
    deep : are_plans_within 9 l ≡ true
    lemmas_deep : are_lemmas_within 10 ls ≡ true
    sets : are_sets g.vertices (sets_of ls) ≡ true
    define : (before : List ℕ) → length before ≡ k → Define g before ls ds
    made : (cited : List ℕ) → AllCited cited k ls → MakesAll g cited l (prob c (minus (all g.vertices) c) 0) e

  tried : (c k z : ℕ) (ds : List Tree) (e : Tree) (ls : List PlainLemma) (l : Plans) → ((u : ℕ) → has c u ≡ true → u < g.vertices) → (some : ℕ) → has c some
      ≡ true → Chosen c z (0 ∷ zs)
      → IsDerivedUnder g z c k ds e ls l → Tried c k ds e ls l
  tried c k z ds e ls l c_low some some_in q t = subst (λ w. Tried c k ds e w l) one.lemmas (subst (λ w. Tried c k ds e x.lemmas w) one.steps (record {
    same = x.same;
    deep = x.deep;
    lemmas_deep = x.lemmas_deep;
    sets = x.sets;
    define = λ before h. x.define before h tt;
    made = λ cited i. x.made cited tt i;
  }))
    where
      a : ℕ
      a = t.made.a

      in_room : (u : ℕ) → has t.made.a u ≡ true → has (minus (all g.vertices) z) u ≡ true
      in_room = a_room g ok z c q.off c_low t.made.a t.made.ancestors

      c_in : (u : ℕ) → has c u ≡ true → has t.made.a u ≡ true
      c_in = c_in_a g ok z c q.off c_low t.made.a t.made.ancestors

      x : Factored g ok o order (minus (all g.vertices) z) t.made.order (order_of (without g z) t.made.order t.made.is_order) c t.made.a (Source.Under z) k ds e
      x = factored g ok o order (minus (all g.vertices) z) t.made.order (order_of (without g z) t.made.order t.made.is_order) c t.made.a (Source.Under z) k ds e
          (record { low = listed_low g.vertices zs all_sets z q.listed; outside = a_off g ok z c q.off c_low t.made.a t.made.ancestors; inside = λ u i. i })
          (stage g ok z c q.off c_low t.made.a t.made.ancestors some some_in)
          (factor_out g (minus (all g.vertices) z) t.made.order c c_low t.made.a (Source.Under z) k ds e in_room c_in t.made.factor)

      one : Rattle.identification_theory.proofs.OneDerivation.Same g t.made.order x.lemmas x.steps ls l
      one = factor_one g t.made.order c t.made.a (Source.Under z) k x.lemmas x.steps ls l x.are
          (steps_out g (minus (all g.vertices) z) t.made.order c c_low t.made.a (Source.Under z) k ls l in_room c_in t.steps)

  -- what is true of the steps of all factors
  pub record Whole (k : ℕ) (ts : List ℕ) (ds : List Tree) (fs : Trees) (ls : List PlainLemma) (lists : Lists) : Type 0 where
    pub same : length ls ≡ length ds
    pub deep : are_lists_to 9 lists ≡ true
    pub lemmas_deep : are_lemmas_within 10 ls ≡ true
    pub sets : are_sets g.vertices (sets_of ls) ≡ true
    pub define : (before : List ℕ) → length before ≡ k → Define g before ls ds
    pub made : (cited : List ℕ) → AllCited cited k ls → EachMade g cited lists (starts g.vertices ts) fs

  pub whole : (d k : ℕ) (ts : List ℕ) (ds : List Tree) (fs : Trees) (ls : List PlainLemma) (lists : Lists) → ((u : ℕ) → has d u ≡ true → u < g.vertices)
      → AreParts g d ts → AreDerivedWith g zs k ts ds fs ls lists
      → Whole k ts ds fs ls lists
  whole d k _ _ _ _ _ low parts AreDerivedWith.none = record {
    same = refl;
    deep = refl;
    lemmas_deep = refl;
    sets = refl;
    define = λ before q. tt;
    made = λ cited i. tt;
  }
  whole d k _ _ _ _ _ low parts (AreDerivedWith.next {c = c} {z = z} {cs = cs} {ds = ds} {es = es} {e = e} {fs = fs} {ls = ls} {more_ls = more_ls} {l = l}
      {lists = lists} h t rest) =
      let x : Tried c k ds e ls l = tried c k z ds e ls l (λ u i. low u (parts.0.t_in u i)) parts.0.some parts.0.some_in (chosen g c z (0 ∷ zs) h) t in
      let w : Whole (k + length ds) cs es fs more_ls lists = whole d (k + length ds) cs es fs more_ls lists low parts.1 rest in
      record {
        same = length-append ls more_ls ∙ (ap₂ (λ p q. p + q) x.same w.same ∙ sym (length-append ds es));
        deep = both_true (are_plans_within 9 l) (are_lists_to 9 lists) x.deep w.deep;
        lemmas_deep = lemmas_append 10 ls more_ls x.lemmas_deep w.lemmas_deep;
        sets = subst (λ z. are_sets g.vertices z ≡ true) (sym (sets-append ls more_ls))
            (are_sets-append g.vertices (sets_of ls) (sets_of more_ls) x.sets w.sets);
        define = λ before q. define-two g before ls more_ls ds es (x.define before q)
            (w.define (before ++ sets_of ls) (length-append before (sets_of ls) ∙ ap₂ (λ p q. p + q) q (length-sets ls ∙ x.same)));
        made = λ cited i. let r = cited_two cited k ls more_ls i in (
          x.made cited r.0,
          w.made cited (subst (λ z. AllCited cited z more_ls) (ap (λ z. k + z) x.same) r.1),
        );
      }

  -- each term is observed or under an experiment
  allowed_all : (k : ℕ) (ts : List ℕ) (ds : List Tree) (fs : Trees) (ls : List PlainLemma) (lists : Lists) → AreDerivedWith g zs k ts ds fs ls lists
      → (all_under zs ds ≡ true) × (are_under zs fs ≡ true)
  allowed_all k _ _ _ _ _ AreDerivedWith.none = (refl, refl)
  allowed_all k _ _ _ _ _ (AreDerivedWith.next {c = c} {z = z} {cs = cs} {ds = ds} {es = es} {e = e} {fs = fs} {more_ls = more_ls} {lists = lists} h t rest) =
      let x = free_of zs (without g z) t.made.order c t.made.a (Source.Under z) k ds e (chosen g c z (0 ∷ zs) h).listed t.made.factor in let y =
      allowed_all (k + length ds) cs es fs more_ls lists rest in
      (all_under-append zs ds es x.0 y.0, both_true (is_under zs e) (are_under zs fs) x.1 y.1)

  module _ (x y : ℕ) (tgt : IsTarget g x y) where
    pub accepted : (f : PlainFormula) (t : PlainDerivation) → IsComposedBySteps g o zs x y f t → IsAcceptedWith g zs x y f t
    accepted f t made = record {
      lemmas_deep = w.lemmas_deep;
      main_deep = subst (λ p. is_main p) (sym made.steps) (main_deep g ok o order x y tgt made.split.d made.split.is_d rest
          (districts_deep g ok o order made.split.d low tgt.some some_in made.split.districts made.lists made.factors w.deep));
      accepted = record {
        sets = w.sets;
        define = w.define [] refl;
        main = subst (λ p. Rattle.do_derivation.specs.Steps.Makes g (sets_of t.lemmas) p (prob y x 0) f.main) (sym made.steps)
            (subst (λ z. MakesAll g (sets_of t.lemmas) (main_steps g.vertices x y made.split.d rest) (prob y x 0) z) (sym made.main)
            (main_made g ok o order x y tgt made.split.d made.split.is_d (sets_of t.lemmas) rest (product_of made.factors)
            (districts_made g ok o order made.split.d low tgt.some some_in (sets_of t.lemmas) made.split.districts made.lists made.factors
            made.split.are_districts (w.made (sets_of t.lemmas) (all_cited [] t.lemmas 0 refl)))));
        listed = both_true (all_under zs f.defs) (is_under zs f.main) under.0
            (rw made.main (free_sum zs (minus made.split.d y) (product_of made.factors) (free_product zs made.factors under.1)));
      };
    }
      where
        is_main : Plan → Type 0
        is_main p = Rattle.identification_theory.specs.Depth.is_plan_within 14 p ≡ true

        low : (u : ℕ) → has made.split.d u ≡ true → u < g.vertices
        low = d_low g ok o order x y tgt made.split.d made.split.is_d

        some_in : has made.split.d tgt.some ≡ true
        some_in = y_in g ok o order x y tgt made.split.d made.split.is_d tgt.some tgt.some_in

        w : Whole 0 made.split.districts f.defs made.factors t.lemmas made.lists
        w = whole made.split.d 0 made.split.districts f.defs made.factors t.lemmas made.lists low
            (are_parts g ok made.split.d 0 o made.split.districts made.split.are_districts) made.are_derived

        rest : Plans
        rest = district_steps o made.split.d made.split.districts made.lists made.factors

        under : (all_under zs f.defs ≡ true) × (are_under zs made.factors ≡ true)
        under = allowed_all 0 made.split.districts f.defs made.factors t.lemmas made.lists made.are_derived

-- P(y) is P(y | do(nothing)) without a step
pub observed_with : (g : MixedGraph) (zs : List ℕ) (x y : ℕ) (f : PlainFormula) (t : PlainDerivation) → x ≡ 0 → f ≡ record { defs = []; main = prob y 0 0 }
    → t ≡ record { lemmas = []; main = Plan.Then no_plans } → IsAcceptedWith g zs x y f t
observed_with g zs x y f t ex ef et = subst (λ z. IsAcceptedWith g zs z y f t) (sym ex)
    (subst (λ z. IsAcceptedWith g zs 0 y z t) (sym ef) (subst (λ z. IsAcceptedWith g zs 0 y (record { defs = []; main = prob y 0 0 }) z) (sym et)
    (record { main_deep = refl; lemmas_deep = refl; accepted = record { sets = refl; define = tt; main = refl; listed = refl } })))
