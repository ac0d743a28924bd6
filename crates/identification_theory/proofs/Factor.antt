-- The steps of a factor, and the lemmas that they cite.
use Rattle.std.proofs.Common.{ℕ, zero, suc, ◌+◌, ◌≡◌, ◌<◌, Bool, true, false, not, refl, sym, ap, ap₂, subst, ◌∙◌, ◌||◌, ◌&&◌, ◌⊎◌, inl, inr, List}
use Rattle.std.proofs.Common.{[], ◌∷◌, ◌++◌, length, arith, length-append}
use Rattle.hedge.specs.Vocabulary.{at, by, IsDistrict, IsLinked}
use Rattle.do_derivation.specs.declared.faults.StepFault.TheVariants.{Sets}
use Rattle.do_derivation.specs.Vocabulary.{Define, are_sets, sets_of, PlainLemma, no_plans, Makes, MakesAll, is_part}
use Rattle.do_derivation.specs.Plans.{Move, Plan, Plans, plan}
use Rattle.do_derivation.specs.Table.{Row}
use Rattle.do_rules.specs.declared.rules.Rule.TheVariants.{Three}
use Rattle.do_rules.specs.Vocabulary.{IsBlockedFor, cut_into}
use Rattle.do_rules.proofs.RuleGraphs.{asked_of_three}
use Rattle.do_derivation.specs.declared.moves.SetMove.TheVariants as set_move
use Rattle.identification_theory.proofs.Bodies.{IsCited, widen_made}
use Rattle.identification_theory.proofs.Body.{IsSite, IsHeld, universe_in, body_made}
use Rattle.identification_theory.proofs.Bools.{and_l, and_r, both_true, clash, decide, not_e, not_i}
use Rattle.identification_theory.proofs.Nesting.{steps_more, place_at}
use Rattle.identification_theory.proofs.Orders.{IsOrderFrom}
use Rattle.identification_theory.proofs.Places.{made_if, part, cut_three}
use Rattle.identification_theory.proofs.Separations.{actions_apart}
use Rattle.identification_theory.proofs.Sets.{all-is, below, empty-has, has-minus, not_empty}
use Rattle.identification_theory.specs.Depth.{are_lemmas_within, are_plans_within}
use Rattle.identification_theory.specs.Procedure.IsFactor.{whole, summed, further}
use Rattle.identification_theory.specs.Procedure.{AreAncestorsIn, IsFactor, Source}
use Rattle.mixed_graph.proofs.Masks.{has-or, has-zero, same_from_has}
use Rattle.mixed_graph.specs.Vocabulary.{has, IsAncestor, IsDirectedPath, IsMixedGraph, MixedGraph, induced, all, is_below, is_empty, union, minus}
use Rattle.prob_expr.specs.Tree.{Tree, prob, sum}
use Rattle.identification_theory.specs.Derivations.{AreFactorSteps, at_zero, universe, cut_steps}

-- c lies in a, which holds what leads to it from the universe
pub record IsStage (g : MixedGraph) (from : Source) (a c : ℕ) : Type 0 where
  pub low : (u : ℕ) → has a u ≡ true → u < g.vertices
  pub closed : (p u : ℕ) → g.arrow p u ≡ true → has (universe g.vertices from a) p ≡ true → has a u ≡ true → has a p ≡ true
  pub c_in : (u : ℕ) → has c u ≡ true → has a u ≡ true
  pub some : ℕ
  pub some_in : has c some ≡ true

pub sum_at : (g : MixedGraph) (ls : List ℕ) (l : Plans) (s : ℕ) (b e : Tree) → MakesAll g ls l b e → MakesAll g ls (at_zero l) (sum s b) (sum s e)
sum_at g ls no_plans s b e h = ap (sum s) h
sum_at g ls (plan x l) s b e h = (sum s e, (e, h, refl), refl)

-- the lemmas from number k on are cited
abbrev pub AllCited : List ℕ → ℕ → List PlainLemma → Type 0
AllCited ls k [] = Unit {0}
AllCited ls k (l ∷ rest) = IsCited ls (Source.Defined k) l.set × AllCited ls (suc k) rest

pub at_end : (before : List ℕ) (k x : ℕ) → length before ≡ k → IsCited (before ++ (x ∷ [])) (Source.Defined k) x
at_end [] k x e = subst (λ k. IsCited (x ∷ []) (Source.Defined k) x) e (omega arith, refl)
at_end (y ∷ ys) zero x e = absurd (omega (arith, e))
at_end (y ∷ ys) (suc k) x e = let r : IsCited (ys ++ (x ∷ [])) (Source.Defined k) x = at_end ys k x (omega (arith, e)) in
    let l : k < length (ys ++ (x ∷ [])) = r.0 in (omega (arith, l), r.1)

module _ (g : MixedGraph) (is_graph : IsMixedGraph g) (o : List ℕ) (order : IsOrderFrom g 0 o) where
  -- the district of c in a is a place for a body where a holds what leads to it from the universe
  pub site_of : (from : Source) (a c t : ℕ) → IsStage g from a c → IsDistrict g a c t → IsSite g from a t
  site_of from a c t s d = record {
    low = s.low;
    closed = s.closed;
    t_in = λ u e. inside u (d.sound u e);
    t_closed = λ u w b e i. d.complete w (by i (is_graph.symmetric u w b) (d.sound u e));
    some = s.some;
    some_in = d.complete s.some (at s.some_in);
  }
    where
      inside : (u : ℕ) → IsLinked g (has a) (has c) u → has a u ≡ true
      inside u (at e) = s.c_in u e
      inside u (by i b r) = i

  -- the ancestors of c in the graph induced on t lie in t, where c does
  pub ancestors_in : (c t : ℕ) → ((u : ℕ) → has c u ≡ true → has t u ≡ true) → (u : ℕ) → IsAncestor (induced g (has t)) (has c) u → has t u ≡ true
  ancestors_in c t within u r = go u r.path r.leads
    where
      go : (u : ℕ) (xs : List ℕ) → IsDirectedPath (induced g (has t)) u xs r.end → has t u ≡ true
      go u [] p = within u (rw p r.inside)
      go u (x ∷ xs) p = and_l (has t u) (has t x) (and_r (g.arrow u x) (has t u && has t x) p.0)

  -- the next stage: c lies in its ancestors in its district t, which are the set of a definition
  pub stage_of : (from : Source) (a c t a2 k : ℕ) → IsStage g from a c → IsDistrict g a c t → AreAncestorsIn g t c a2 → IsStage g (Source.Defined k) a2 c
  stage_of from a c t a2 k s d n = record {
    low = λ u e. s.low u ((site_of from a c t s d).t_in u (ancestors_in c t (λ w i. d.complete w (at i)) u (n.sound u e)));
    closed = λ p u b e i. e;
    c_in = λ u e. n.complete u (record { vertex = s.low u (s.c_in u e); path = []; end = u; leads = refl; inside = e });
    some = s.some;
    some_in = s.some_in;
  }

  -- something is left of t without a, where a lies in t and isn't t
  pub not_all : (t a : ℕ) → ((u : ℕ) → has a u ≡ true → has t u ≡ true) → (a ≡ t → ⊥) → is_empty (minus t a) ≡ false
  not_all t a within ne = go (decide (is_empty (minus t a)))
    where
      bools : (x y : Bool) → (y ≡ true → x ≡ true) → (x && not y) ≡ false → y ≡ x
      bools x y h1 h2 = grind (arith, h1, h2)

      go : (is_empty (minus t a) ≡ true) ⊎ (is_empty (minus t a) ≡ false) → is_empty (minus t a) ≡ false
      go (inr e) = e
      go (inl e) = absurd (ne (same_from_has a t (λ u. bools (has t u) (has a u) (within u) (sym (has-minus t a u) ∙ empty-has (minus t a) u e))))

  -- from P(a2 | do(the rest)) to the sum of the body of t
  cut_made : (c t a2 : ℕ) → ((u : ℕ) → has t u ≡ true → u < g.vertices) → ((u : ℕ) → has c u ≡ true → has t u ≡ true) → AreAncestorsIn g t c a2 → (a2 ≡ t → ⊥)
      → (ls : List ℕ) (l : Plans) (b : Tree)
      → MakesAll g ls l (prob t (minus (all g.vertices) t) 0) b → MakesAll g ls (cut_steps (minus t a2) l) (prob a2 (minus (all g.vertices) a2) 0)
      (sum (minus t a2) b)
  cut_made c t a2 low within n ne ls l b h = (
    prob a2 (minus (all g.vertices) t) 0,
    first,
    (sum (minus t a2) (prob t (minus (all g.vertices) t) 0), second, sum_at g ls l (minus t a2) (prob t (minus (all g.vertices) t) 0) b h),
  )
    where
      a_in : (u : ℕ) → has a2 u ≡ true → has t u ≡ true
      a_in u e = ancestors_in c t within u (n.sound u e)

      z : ℕ
      z = minus t a2

      z_of : (u : ℕ) → has (minus t a2) u ≡ true → (has t u ≡ true) × (has a2 u ≡ false)
      z_of u e = let q : (has t u && not (has a2 u)) ≡ true = rw (has-minus t a2 u) at e in
          (and_l (has t u) (not (has a2 u)) q, not_e (has a2 u) (and_r (has t u) (not (has a2 u)) q))

      left : minus (minus (all g.vertices) a2) (minus t a2) ≡ minus (all g.vertices) t
      left = same_from_has (minus (minus (all g.vertices) a2) (minus t a2)) (minus (all g.vertices) t) (λ u.
          (has-minus (minus (all g.vertices) a2) (minus t a2) u ∙ ap₂ (λ x y. x && not y) (has-minus (all g.vertices) a2 u) (has-minus t a2 u))
          ∙ (bools (has (all g.vertices) u) (has t u) (has a2 u) (a_in u) ∙ sym (has-minus (all g.vertices) t u)))
        where
          bools : (x y w : Bool) → (w ≡ true → y ≡ true) → ((x && not w) && not (y && not w)) ≡ (x && not y)
          bools x y w h = grind (arith, h)

      outside : (u p : ℕ) → g.arrow p u ≡ true → has (minus (all g.vertices) t) p ≡ false → has t p ≡ true
      outside u p b e = bools (has t p) (rw (has-minus (all g.vertices) t p, all-is g.vertices p (is_graph.tail_below p u b)) at e)
        where
          bools : (x : Bool) → (true && not x) ≡ false → x ≡ true
          bools x h = grind (arith, h)

      above : (p u : ℕ) → g.arrow p u ≡ true → has (minus (all g.vertices) t) p ≡ false → has a2 u ≡ true → has a2 p ≡ true
      above p u b e i = let r : IsAncestor (induced g (has t)) (has c) u = n.sound u i in
          n.complete p (record {
            vertex = is_graph.tail_below p u b;
            path = u ∷ r.path;
            end = r.end;
            leads = (both_true (g.arrow p u) (has t p && has t u) b (both_true (has t p) (has t u) (outside u p b e) (a_in u i)), r.leads);
            inside =
                r.inside;
          })

      none : (u : ℕ) → has (minus t a2) u ≡ true → IsAncestor (cut_into g (has (minus (all g.vertices) t))) (has 0) u → ⊥
      none u e r = clash (has 0 r.end) r.inside (has-zero r.end)

      first : Makes g ls (Plan.Make (Move.WithSet set_move.Rule3Out (minus t a2))) (prob a2 (minus (all g.vertices) a2) 0) (prob a2 (minus (all g.vertices) t) 0)
      first = subst (λ x. Makes g ls (Plan.Make (Move.WithSet set_move.Rule3Out (minus t a2))) (prob a2 (minus (all g.vertices) a2) 0) (prob a2 x 0)) left
          (made_if g (is_part (minus t a2) (minus (all g.vertices) a2))
          (Row.Ask Three (minus (minus (all g.vertices) a2) (minus t a2)) a2 (minus t a2) 0 (prob a2 (minus (minus (all g.vertices) a2) (minus t a2)) 0))
          Sets
          (prob a2 (minus (minus (all g.vertices) a2) (minus t a2)) 0)
          (part (minus t a2) (minus (all g.vertices) a2) (not_all t a2 a_in ne)
          (λ u e. has-minus (all g.vertices) a2 u ∙ both_true (has (all g.vertices) u) (not (has a2 u)) (all-is g.vertices u (low u (z_of u e).0))
          (not_i (has a2 u) (z_of u e).1))) (
            subst (λ x. IsBlockedFor Three g (has x) (has a2) (has (minus t a2)) (has 0)) (sym left)
                (asked_of_three g (has (minus (all g.vertices) t)) (has a2) (has (minus t a2)) (has 0) (has (minus t a2))
                (cut_three g (minus (all g.vertices) t) (minus t a2) 0 none)
                (actions_apart g (has (minus (all g.vertices) t)) (has (minus t a2)) (has a2) (λ u. has (minus (all g.vertices) t) u || has 0 u)
                (λ u. has a2 u ≡ true)
                (λ u e. e) above (λ u e i. clash (has a2 u) i (z_of u e).1) (λ u. bare (has (minus (all g.vertices) t) u) (has 0 u) (has-zero u)))),
            refl,
          ))
        where
          bare : (x y : Bool) → y ≡ false → (x || y) ≡ x
          bare x y h = grind (arith, h)

      back : union a2 (minus t a2) ≡ t
      back = same_from_has (union a2 (minus t a2)) t (λ u. has-or a2 (minus t a2) u
          ∙ (ap (λ x. has a2 u || x) (has-minus t a2 u) ∙ bools (has t u) (has a2 u) (a_in u)))
        where
          bools : (y w : Bool) → (w ≡ true → y ≡ true) → (w || (y && not w)) ≡ y
          bools y w h = grind (arith, h)

      second : Makes g ls (Plan.Make (Move.WithSet set_move.Widen (minus t a2))) (prob a2 (minus (all g.vertices) t) 0) (sum (minus t a2) (prob t (minus (all g.vertices) t) 0))
      second = subst (λ x. Makes g ls (Plan.Make (Move.WithSet set_move.Widen (minus t a2))) (prob a2 (minus (all g.vertices) t) 0)
          (sum (minus t a2) (prob x (minus (all g.vertices) t) 0))) back
          (widen_made g ls (minus t a2) a2 (minus (all g.vertices) t) (not_all t a2 a_in ne) (λ u e. low u (z_of u e).0)
          (λ u e i. clash (has a2 u) i (z_of u e).1)
          (λ u e i. clash (has t u) (z_of u e).0 (not_e (has t u) (and_r (has (all g.vertices) u) (not (has t u)) (rw (has-minus (all g.vertices) t u) at i)))))

  pub held_next : (room : ℕ) (from : Source) (a c t a2 k : ℕ) → IsStage g from a c → IsDistrict g a c t → AreAncestorsIn g t c a2
      → IsHeld g.vertices room from a → IsHeld g.vertices room (Source.Defined k) a2
  held_next room from a c t a2 k s d n h = record {
    low = tt;
    outside = tt;
    inside = λ u e. h.inside u (universe_in g.vertices from a u h.outside s.low
        ((site_of from a c t s d).t_in u (ancestors_in c t (λ w i. d.complete w (at i)) u (n.sound u e))));
  }

-- the factor of a district, by an order of the graph induced on the room
module _ (g : MixedGraph) (is_graph : IsMixedGraph g) (o : List ℕ) (order : IsOrderFrom g 0 o) (room : ℕ) (r : List ℕ)
    (ordered : IsOrderFrom (induced g (has room)) 0 r) where
  pub record Factored (c a : ℕ) (from : Source) (k : ℕ) (ds : List Tree) (e : Tree) : Type 0 where
    pub lemmas : List PlainLemma
    pub steps : Plans
    pub are : AreFactorSteps g r c a from k lemmas steps
    pub same : length lemmas ≡ length ds
    pub deep : are_plans_within 9 steps ≡ true
    pub lemmas_deep : are_lemmas_within 10 lemmas ≡ true
    pub sets : are_sets g.vertices (sets_of lemmas) ≡ true
    pub define : (before : List ℕ) → length before ≡ k → IsCited before from a → Define g before lemmas ds
    pub made : (ls : List ℕ) → IsCited ls from a → AllCited ls k lemmas → MakesAll g ls steps (prob c (minus (all g.vertices) c) 0) e

  -- each factor has lemmas and steps that make it from P(c | do(all others)) and nest little
  pub factored : (c a : ℕ) (from : Source) (k : ℕ) (ds : List Tree) (e : Tree) → IsHeld g.vertices room from a → IsStage g from a c
      → IsFactor g r c a from k ds e → Factored c a from k ds e
  factored c a from k _ e h s (whole d q) = let b = body_made g is_graph room from a c h (site_of g is_graph o order from a c c s d) r e ordered q in
      record {
        lemmas = [];
        steps = b.steps;
        are = AreFactorSteps.whole d b.are;
        same = refl;
        deep = steps_more 8 b.steps (steps_more 7 b.steps b.deep);
        lemmas_deep = refl;
        sets = refl;
        define = λ before q i. tt;
        made = λ ls i j. b.made ls i;
      }
  factored c a from k _ _ h s (summed {t = t} {e = x} d ne n q) = let b =
      body_made g is_graph room from a t h (site_of g is_graph o order from a c t s d) r x ordered q in
      record {
        lemmas = [];
        steps = cut_steps (minus t c) b.steps;
        are = AreFactorSteps.summed d ne n b.are;
        same = refl;
        deep = place_at 7 0 b.steps no_plans b.deep refl;
        lemmas_deep = refl;
        sets = refl;
        define = λ before q i. tt;
        made = λ ls i j. cut_made g is_graph o order c t c (λ u e. s.low u ((site_of g is_graph o order from a c t s d).t_in u e))
            (λ u e. d.complete u (at e)) n (λ q. ne (sym q)) ls b.steps x (b.made ls i);
      }
  factored c a from k _ e h s (further {t = t} {a2 = a2} {b = x} {ds = ds} d ne n more_left not_c q next) =
      let b = body_made g is_graph room from a t h (site_of g is_graph o order from a c t s d) r x ordered q in
      let f = factored c a2 (Source.Defined k) (suc k) ds e (held_next g is_graph o order room from a c t a2 k s d n h)
      (stage_of g is_graph o order from a c t a2 k s d n) next in
      record {
        lemmas = record { set = a2; plan = Plan.Then (cut_steps (minus t a2) b.steps) } ∷ f.lemmas;
        steps = f.steps;
        are = AreFactorSteps.further d ne n more_left not_c b.are f.are;
        same = ap suc f.same;
        deep = f.deep;
        lemmas_deep = both_true (are_plans_within 9 (cut_steps (minus t a2) b.steps)) (are_lemmas_within 10 f.lemmas)
            (place_at 7 0 b.steps no_plans b.deep refl) f.lemmas_deep;
        sets = let q : IsStage g (Source.Defined k) a2 c = stage_of g is_graph o order from a c t a2 k s d n in
            both_true (is_below g.vertices a2 && not (is_empty a2)) (are_sets g.vertices (sets_of f.lemmas))
            (both_true (is_below g.vertices a2) (not (is_empty a2)) (below g.vertices a2 q.low)
            (not_i (is_empty a2) (not_empty a2 q.some (q.c_in q.some q.some_in)))) f.sets;
        define = λ before q i. (
          cut_made g is_graph o order c t a2 (λ u e. s.low u ((site_of g is_graph o order from a c t s d).t_in u e)) (λ u e. d.complete u (at e))
              n more_left before b.steps x (b.made before i),
          f.define (before ++ (a2 ∷ [])) (let l : length (before ++ (a2 ∷ [])) ≡ length before + 1 = length-append before (a2 ∷ []) in omega (arith, l, q))
              (at_end before k a2 q),
        );
        made = λ ls i j. f.made ls j.0 j.1;
      }
