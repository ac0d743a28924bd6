-- The formula of identification has an accepted derivation.
use Rattle.std.proofs.Common.{ℕ, ◌+◌, ◌≡◌, ◌<◌, ◌≤◌, Bool, true, false, cond, leb, not, refl, sym, ap, ap₂, subst, ◌∙◌, ◌||◌, ◌&&◌, ◌⊎◌, inl, inr}
use Rattle.std.proofs.Common.{List, [], ◌∷◌, ◌++◌, length, arith, length-append, le-leb}
use Rattle.std.specs.Prelude.{Option, Some, None}
use Rattle.hedge.specs.Vocabulary.{AreDistricts}
use Rattle.do_derivation.specs.declared.faults.StepFault.TheVariants.{BadOrder, Grouping, Sets, Shape}
use Rattle.do_derivation.specs.declared.faults.StepFault.{StepFault}
use Rattle.do_derivation.specs.Vocabulary.{Define, are_sets, sets_of, PlainLemma, no_plans, chained, count_factors, flat, grouped, groups_of, has_product, is_grouping, is_list_of, unwrapped, IsMade, Makes, MakesAll, if_made, is_new}
use Rattle.do_derivation.specs.Plans.{Move, Plan, Plans, plan}
use Rattle.do_derivation.specs.Table.{Row}
use Rattle.do_rules.specs.declared.rules.Rule.TheVariants.{Three}
use Rattle.do_rules.proofs.RuleGraphs.{asked_of_three}
use Rattle.do_derivation.specs.declared.moves.SetMove.TheVariants as set_move
use Rattle.do_derivation.specs.declared.moves.BareMove.TheVariants as bare_move
use Rattle.identification_theory.proofs.Assembly.{starts, listed, each_unchained, each_homed, cited_two, sets-append, length-sets, define-two}
use Rattle.identification_theory.proofs.Bodies.{EachMade, each_made, widen_made}
use Rattle.identification_theory.proofs.Body.{order_in}
use Rattle.identification_theory.proofs.Bools.{and_l, and_r, both_true, clash, not_e, not_i}
use Rattle.identification_theory.proofs.Chain.{new_set}
use Rattle.identification_theory.proofs.Factor.{IsStage, Factored, factored, AllCited, sum_at, ancestors_in}
use Rattle.identification_theory.proofs.Groups.{Among, count, IsPart, AreParts, are_parts, once, in_list, homed, by_district, is_grouped, groups_are}
use Rattle.identification_theory.proofs.Groups.{count-homed, once_at, EachOnce, each_listed, among_in_order, common-none}
use Rattle.identification_theory.proofs.Nesting.{steps_more, with_deep, place_at, each_at, are_lists_to, lemmas_append}
use Rattle.identification_theory.proofs.Orders.{IsOrderFrom}
use Rattle.identification_theory.proofs.Places.{made_if, cut_three, made_with}
use Rattle.identification_theory.proofs.Separations.{actions_apart}
use Rattle.identification_theory.proofs.Sets.{all-below, all-is, empty-has, has-minus}
use Rattle.identification_theory.specs.Depth.{are_lemmas_within, are_plans_within}
use Rattle.identification_theory.specs.Procedure.AreFactored.{none, next}
use Rattle.identification_theory.specs.Procedure.{AreAncestorsIn, AreFactored, IsTarget, Source, product_of, sum_if}
use Rattle.mixed_graph.proofs.Masks.{has-and, has-or, has-zero, same_from_has}
use Rattle.mixed_graph.specs.Vocabulary.{has, IsAncestor, IsMixedGraph, MixedGraph, induced, all, is_below, is_empty, union, minus, one, common}
use Rattle.prob_expr.specs.Tree.{Tree, named, prob, product, quotient, sum, tree}
use Rattle.prob_expr.specs.Vocabulary.{Trees, no_trees}
use Rattle.identification_theory.specs.Derivations.{AreAllSteps, single, with_set, Lists, no_more, more, at_each, at_zero, in_order, home, home_list}
use Rattle.identification_theory.specs.Derivations.{home_lists, group_lists, unchain_steps, unchain_lists, unwrap_steps, main_steps}

-- two lists of sets below n that aren't empty make one such list
pub are_sets-append : (n : ℕ) (a b : List ℕ) → are_sets n a ≡ true → are_sets n b ≡ true → are_sets n (a ++ b) ≡ true
are_sets-append n [] b h k = k
are_sets-append n (x ∷ a) b h k = both_true (is_below n x && not (is_empty x)) (are_sets n (a ++ b))
    (and_l (is_below n x && not (is_empty x)) (are_sets n a) h) (are_sets-append n a b (and_r (is_below n x && not (is_empty x)) (are_sets n a) h) k)

module _ (g : MixedGraph) (is_graph : IsMixedGraph g) (o : List ℕ) (order : IsOrderFrom g 0 o) where
  -- the stage at which a factor begins
  pub first_stage : (c a : ℕ) → ((u : ℕ) → has c u ≡ true → u < g.vertices) → (some : ℕ) → has c some ≡ true → AreAncestorsIn g (all g.vertices) c a
      → IsStage g (Source.Under 0) a c
  first_stage c a low some some_in n = record {
    low = below_all;
    closed = λ p u b i e. let r : IsAncestor (induced g (has (all g.vertices))) (has c) u = n.sound u e in
        n.complete p (record {
          vertex = is_graph.tail_below p u b;
          path = u ∷ r.path;
          end = r.end;
          leads = (
            both_true (g.arrow p u) (has (all g.vertices) p && has (all g.vertices) u) b
                (both_true (has (all g.vertices) p) (has (all g.vertices) u) (all-is g.vertices p (is_graph.tail_below p u b))
                (all-is g.vertices u (below_all u e))),
            r.leads,
          );
          inside = r.inside;
        });
    c_in = λ u e. n.complete u (record { vertex = low u e; path = []; end = u; leads = refl; inside = e });
    some = some;
    some_in = some_in;
  }
    where
      below_all : (u : ℕ) → has a u ≡ true → u < g.vertices
      below_all u e = all-below g.vertices u (ancestors_in g is_graph o order c (all g.vertices) (λ w i. all-is g.vertices w (low w i)) u (n.sound u e))

  pub record Whole (k : ℕ) (ts : List ℕ) (ds : List Tree) (fs : Trees) : Type 0 where
    pub lemmas : List PlainLemma
    pub lists : Lists
    pub are : AreAllSteps g o k ts lemmas lists
    pub same : length lemmas ≡ length ds
    pub deep : are_lists_to 9 lists ≡ true
    pub lemmas_deep : are_lemmas_within 10 lemmas ≡ true
    pub sets : are_sets g.vertices (sets_of lemmas) ≡ true
    pub define : (before : List ℕ) → length before ≡ k → Define g before lemmas ds
    pub made : (ls : List ℕ) → AllCited ls k lemmas → EachMade g ls lists (starts g.vertices ts) fs

  pub whole : (d k : ℕ) (ts : List ℕ) (ds : List Tree) (fs : Trees) → ((u : ℕ) → has d u ≡ true → u < g.vertices) → AreParts g d ts
      → AreFactored g o k ts ds fs → Whole k ts ds fs
  whole d k _ _ _ low parts none = record {
    lemmas = [];
    lists = no_more;
    are = AreAllSteps.none;
    same = refl;
    deep = refl;
    lemmas_deep = refl;
    sets = refl;
    define = λ before q. tt;
    made = λ ls i. tt;
  }
  whole d k _ _ _ low parts (next {c = c} {a = a} {cs = cs} {ds = ds} {es = es} {e = e} {fs = fs} n f rest) =
      let s : IsStage g (Source.Under 0) a c = first_stage c a (λ u i. low u (parts.0.t_in u i)) parts.0.some parts.0.some_in n in
      let x : Factored g is_graph o order (minus (all g.vertices) 0) o (order_in g (minus (all g.vertices) 0) 0 o order) c a (Source.Under 0) k ds e =
      factored g is_graph o order (minus (all g.vertices) 0) o (order_in g (minus (all g.vertices) 0) 0 o order) c a (Source.Under 0) k ds e
      (record { low = λ u i. absurd (clash (has 0 u) i (has-zero u)); outside = λ u i. has-zero u; inside = λ u i. i }) s f in
      let w : Whole (k + length ds) cs es fs = whole d (k + length ds) cs es fs low parts.1 rest in
      record {
        lemmas = x.lemmas ++ w.lemmas;
        lists = more x.steps w.lists;
        are = AreAllSteps.next n x.are (subst (λ z. AreAllSteps g o (k + z) cs w.lemmas w.lists) (sym x.same) w.are);
        same = length-append x.lemmas w.lemmas ∙ (ap₂ (λ p q. p + q) x.same w.same ∙ sym (length-append ds es));
        deep = both_true (are_plans_within 9 x.steps) (are_lists_to 9 w.lists) x.deep w.deep;
        lemmas_deep = lemmas_append 10 x.lemmas w.lemmas x.lemmas_deep w.lemmas_deep;
        sets = subst (λ z. are_sets g.vertices z ≡ true) (sym (sets-append x.lemmas w.lemmas))
            (are_sets-append g.vertices (sets_of x.lemmas) (sets_of w.lemmas) x.sets w.sets);
        define = λ before q. define-two g before x.lemmas w.lemmas ds es (x.define before q tt)
            (w.define (before ++ sets_of x.lemmas) (length-append before (sets_of x.lemmas) ∙ ap₂ (λ p q. p + q) q (length-sets x.lemmas ∙ x.same)));
        made = λ ls i. let r = cited_two ls k x.lemmas w.lemmas i in (
          x.made ls tt r.0,
          w.made ls (subst (λ z. AllCited ls z w.lemmas) (ap (λ z. k + z) x.same) r.1),
        );
      }

-- ---- the last step: a factor that is a product
-- with a group for each district
abbrev pub rest_steps : List ℕ → (d : ℕ) → List ℕ → Lists → Trees → Plans
rest_steps order d [] ls fs = no_plans
rest_steps order d (t ∷ []) no_more fs = no_plans
rest_steps order d (t ∷ []) (more l ls) fs = l
rest_steps order d (t ∷ s ∷ ts) ls fs = plan (Plan.Make (Move.Chain (in_order d order)))
    (at_each 0 (home_lists d (t ∷ s ∷ ts) 0 order) (plan (Plan.Make (Move.Group (group_lists (t ∷ s ∷ ts) (in_order d order))))
    (at_each 0 (unchain_lists (t ∷ s ∷ ts) (in_order d order)) (at_each 0 ls (unwrap_steps fs)))))

flat-same : (fs : Trees) → has_product fs ≡ false → flat fs ≡ fs
flat-same no_trees h = refl
flat-same (tree (product es) fs) h = absurd (grind (arith, h))
flat-same (tree (prob a b c) fs) h = ap (tree (prob a b c)) (flat-same fs h)
flat-same (tree (sum u e) fs) h = ap (tree (sum u e)) (flat-same fs h)
flat-same (tree (quotient p q) fs) h = ap (tree (quotient p q)) (flat-same fs h)
flat-same (tree (named k) fs) h = ap (tree (named k)) (flat-same fs h)

made_option : (g : MixedGraph) (o : Option Tree) (x : Tree) (fault : StepFault) → o ≡ Some x → IsMade g (if_made o fault) x
made_option g o x fault q = rw q refl

if_true : (b : Bool) (x : Tree) → b ≡ true → cond b (Some x) None ≡ Some x
if_true b x e = rw e refl

pub unwrap_made : (g : MixedGraph) (ls : List ℕ) (fs : Trees) → MakesAll g ls (unwrap_steps fs) (product fs) (product (flat fs))
unwrap_made g ls fs = go (has_product fs) refl
  where
    go : (b : Bool) → has_product fs ≡ b → MakesAll g ls (cond b (single (Plan.Make (Move.Bare bare_move.Unwrap))) no_plans) (product fs) (product (flat fs))
    go true e = (product (flat fs), made_option g (unwrapped (product fs)) (product (flat fs)) Shape (if_true (has_product fs) (product (flat fs)) e), refl)
    go false e = ap product (flat-same fs e)

module _ (g : MixedGraph) (is_graph : IsMixedGraph g) (o : List ℕ) (order : IsOrderFrom g 0 o) (d : ℕ) (low : (u : ℕ) → has d u ≡ true → u < g.vertices)
    (some : ℕ) (some_in : has d some ≡ true) where
  pub in_all : (u : ℕ) → has d u ≡ true → Among u o
  in_all u e = in_list g 0 u o order (low u e) (has-zero u)

  pub d_part : IsPart g d d
  d_part = record { t_in = λ u e. e; t_closed = λ u w b e i. i; some = some; some_in = some_in }

  pub two_long : (t s : ℕ) (ts l : List ℕ) → AreParts g d (t ∷ s ∷ ts) → ((u : ℕ) → has d u ≡ true → Among u l) → EachOnce (t ∷ s ∷ ts) l → 2 ≤ length l
  two_long t s ts [] p h c = absurd (h some some_in)
  two_long t s ts (v ∷ []) p h c = absurd (go (h p.0.some (p.0.t_in p.0.some p.0.some_in)) (h p.1.0.some (p.1.0.t_in p.1.0.some p.1.0.some_in)))
    where
      go : (p.0.some ≡ v) ⊎ ⊥ → (p.1.0.some ≡ v) ⊎ ⊥ → ⊥
      go (inr x) y = x
      go (inl x) (inr y) = y
      go (inl x) (inl y) = let i : has t v ≡ true = rw x at p.0.some_in in let j : has s v ≡ true = rw y at p.1.0.some_in in let z : 1 + (1 + count ts v)
          ≡ 1 = rw (i, j) at c.0 in omega (arith, z)
  two_long t s ts (v ∷ w ∷ l) p h c = omega arith

  pub product_is : (ls : List ℕ) (xs : Lists) (t s : ℕ) (ts : List ℕ) (fs : Trees) → EachMade g ls xs (starts g.vertices (t ∷ s ∷ ts)) fs → product_of fs
      ≡ product (flat fs)
  product_is ls (more l (more l2 xs)) t s ts (tree e (tree f fs)) h = refl
  product_is ls (more l (more l2 xs)) t s ts (tree e no_trees) h = absurd h.1
  product_is ls (more l (more l2 xs)) t s ts no_trees h = absurd h
  product_is ls (more l no_more) t s ts (tree e fs) h = absurd h.1
  product_is ls (more l no_more) t s ts no_trees h = absurd h
  product_is ls no_more t s ts fs h = absurd h

  pub homes_deep : (ts : List ℕ) (p : ℕ) (o2 : List ℕ) → are_lists_to 9 (home_lists d ts p o2) ≡ true
  homes_deep ts p [] = refl
  homes_deep ts p (v ∷ o2) = go (has d v) (homes_deep ts (union p (one v)) o2)
    where
      t : ℕ
      t = home ts v

      go : (b : Bool) → are_lists_to 9 (home_lists d ts (union p (one v)) o2) ≡ true
          → are_lists_to 9 (cond b (more (home_list d (home ts v) p) (home_lists d ts (union p (one v)) o2)) (home_lists d ts (union p (one v)) o2)) ≡ true
      go true r = both_true (are_plans_within 9 (home_list d (home ts v) p)) (are_lists_to 9 (home_lists d ts (union p (one v)) o2))
          (with_deep 9 (minus (common d p) t) (Plan.Make (Move.WithSet set_move.Rule2Do (minus (common d p) t)))
          (with_set (minus (minus d t) (minus (common d p) t)) (Plan.Make (Move.WithSet set_move.Rule3In (minus (minus d t) (minus (common d p) t)))) no_plans) refl
          (with_deep 9 (minus (minus d t) (minus (common d p) t)) (Plan.Make (Move.WithSet set_move.Rule3In (minus (minus d t) (minus (common d p) t)))) no_plans refl refl)) r
      go false r = r

  unchains_deep : (ts l : List ℕ) → are_lists_to 9 (unchain_lists ts l) ≡ true
  unchains_deep [] l = refl
  unchains_deep (t ∷ ts) l = both_true (are_plans_within 9 (unchain_steps (in_order t l))) (are_lists_to 9 (unchain_lists ts l)) (go (in_order t l))
      (unchains_deep ts l)
    where
      go : (o2 : List ℕ) → are_plans_within 9 (unchain_steps o2) ≡ true
      go [] = refl
      go (v ∷ []) = refl
      go (v ∷ w ∷ o2) = refl

  pub unwrap_deep : (fs : Trees) → are_plans_within 11 (unwrap_steps fs) ≡ true
  unwrap_deep fs = go (has_product fs)
    where
      go : (b : Bool) → are_plans_within 11 (cond b (single (Plan.Make (Move.Bare bare_move.Unwrap))) no_plans) ≡ true
      go true = refl
      go false = refl

  pub rest_deep : (ts : List ℕ) (xs : Lists) (fs : Trees) → are_lists_to 9 xs ≡ true → are_plans_within 11 (rest_steps o d ts xs fs) ≡ true
  rest_deep [] xs fs h = refl
  rest_deep (t ∷ []) no_more fs h = refl
  rest_deep (t ∷ []) (more l xs) fs h = steps_more 10 l (steps_more 9 l (and_l (are_plans_within 9 l) (are_lists_to 9 xs) h))
  rest_deep (t ∷ s ∷ ts) xs fs h = each_at 9 0 (home_lists d (t ∷ s ∷ ts) 0 o) after (homes_deep (t ∷ s ∷ ts) 0 o)
      (each_at 9 0 (unchain_lists (t ∷ s ∷ ts) (in_order d o)) (at_each 0 xs (unwrap_steps fs)) (unchains_deep (t ∷ s ∷ ts) (in_order d o))
      (each_at 9 0 xs (unwrap_steps fs) h (unwrap_deep fs)))
    where
      after : Plans
      after = plan (Plan.Make (Move.Group (group_lists (t ∷ s ∷ ts) (in_order d o))))
          (at_each 0 (unchain_lists (t ∷ s ∷ ts) (in_order d o)) (at_each 0 xs (unwrap_steps fs)))

  -- from P(d | do(the rest)) to the chain of d, with each vertex at its district
  pub chain_made : (ls : List ℕ) (t s : ℕ) (ts : List ℕ) (rest : Plans) (e : Tree) → AreDistricts g d 0 o (t ∷ s ∷ ts)
      → MakesAll g ls rest (product (homed g.vertices (t ∷ s ∷ ts) 0 (in_order d o))) e
      → MakesAll g ls (plan (Plan.Make (Move.Chain (in_order d o))) (at_each 0 (home_lists d (t ∷ s ∷ ts) 0 o) rest)) (prob d (minus (all g.vertices) d) 0) e
  chain_made ls t s ts rest e r h = (
    product (chained outer 0 l),
    made_if g (leb 2 (length l) && is_list_of l d) (Row.Make (product (chained outer 0 l))) BadOrder (product (chained outer 0 l))
        (both_true (leb 2 (length l)) (is_list_of l d) (le-leb 2 (length l) (two_long t s ts l parts (λ u i. among_in_order d u o i (in_all u i)) each))
        (listed g is_graph o order d low d d_part)) refl,
    each_made g ls (home_lists d all_ts 0 o) (chained outer 0 l) (homed g.vertices all_ts 0 l) rest e
        (each_homed g is_graph o order d low ls all_ts 0 0 0 o parts (λ u i m. once g is_graph d o all_ts r u i m) (common-none d) (common-none d)
        (λ w u b i. absurd (clash (has 0 u) i (has-zero u))) order) h,
  )
    where
      all_ts : List ℕ
      all_ts = t ∷ s ∷ ts

      outer : ℕ
      outer = minus (all g.vertices) d

      l : List ℕ
      l = in_order d o

      parts : AreParts g d (t ∷ s ∷ ts)
      parts = are_parts g is_graph d 0 o (t ∷ s ∷ ts) r

      each : EachOnce (t ∷ s ∷ ts) (in_order d o)
      each = each_listed d (t ∷ s ∷ ts) o (λ u i m. once g is_graph d o (t ∷ s ∷ ts) r u i m)

  -- from P(d | do(the rest)) to the product of the factors
  pub rest_made : (ls ts : List ℕ) (xs : Lists) (fs : Trees) → AreDistricts g d 0 o ts → EachMade g ls xs (starts g.vertices ts) fs
      → MakesAll g ls (rest_steps o d ts xs fs) (prob d (minus (all g.vertices) d) 0) (product_of fs)
  rest_made ls [] xs fs r h = absurd (let c : 0 ≡ 1 = once g is_graph d o [] r some some_in (in_all some some_in) in omega (arith, c))
  rest_made ls (t ∷ []) (more l no_more) (tree e no_trees) r h = subst (λ z. MakesAll g ls l (prob z (minus (all g.vertices) z) 0) e) same h.0
    where
      parts : AreParts g d (t ∷ [])
      parts = are_parts g is_graph d 0 o (t ∷ []) r

      covered : (u : ℕ) → has d u ≡ true → has t u ≡ true
      covered u e = go (has t u) refl
        where
          go : (b : Bool) → has t u ≡ b → has t u ≡ true
          go true q = q
          go false q = absurd (let c : cond (has t u) 1 0 + 0 ≡ 1 = once g is_graph d o (t ∷ []) r u e (in_all u e) in let z : 0 + 0 ≡ 1 = rw q at c in
              omega (arith, z))

      same : t ≡ d
      same = same_from_has t d (λ u. bools (has t u) (has d u) (parts.0.t_in u) (covered u))
        where
          bools : (x y : Bool) → (x ≡ true → y ≡ true) → (y ≡ true → x ≡ true) → x ≡ y
          bools x y h1 h2 = grind (arith, h1, h2)
  rest_made ls (t ∷ []) (more l no_more) (tree e (tree f fs)) r h = absurd h.1
  rest_made ls (t ∷ []) (more l no_more) no_trees r h = absurd h
  rest_made ls (t ∷ []) (more l (more l2 xs)) (tree e fs) r h = absurd h.1
  rest_made ls (t ∷ []) (more l (more l2 xs)) no_trees r h = absurd h
  rest_made ls (t ∷ []) no_more fs r h = absurd h
  rest_made ls (t ∷ s ∷ ts) xs fs r h = chain_made ls t s ts after_homes (product_of fs) r (
    product (by_district g.vertices all_ts l),
    made_option g (grouped (group_lists all_ts l) (product (homed g.vertices all_ts 0 l))) (product (by_district g.vertices all_ts l)) Grouping
        (if_true (is_grouping (count_factors (homed g.vertices all_ts 0 l)) (group_lists all_ts l))
        (product (groups_of (homed g.vertices all_ts 0 l) (group_lists all_ts l)))
        (subst (λ z. is_grouping z (group_lists all_ts l) ≡ true) (sym (count-homed g.vertices all_ts 0 l))
        (is_grouped g d all_ts l parts (λ u i. among_in_order d u o i (in_all u i)) (λ i q. once_at all_ts l i each q) (omega arith)))
        ∙ ap (λ z. Some (product z)) (groups_are g.vertices all_ts l each)),
    each_made g ls (unchain_lists all_ts l) (by_district g.vertices all_ts l) (starts g.vertices all_ts) (at_each 0 xs (unwrap_steps fs)) (product_of fs)
        (each_unchained g is_graph o order d low ls all_ts parts)
        (each_made g ls xs (starts g.vertices all_ts) fs (unwrap_steps fs) (product_of fs) h
        (subst (λ z. MakesAll g ls (unwrap_steps fs) (product fs) z) (sym (product_is ls xs t s ts fs h)) (unwrap_made g ls fs))),
  )
    where
      all_ts : List ℕ
      all_ts = t ∷ s ∷ ts

      l : List ℕ
      l = in_order d o

      parts : AreParts g d all_ts
      parts = are_parts g is_graph d 0 o all_ts r

      each : EachOnce all_ts l
      each = each_listed d all_ts o (λ u i m. once g is_graph d o all_ts r u i m)

      after_homes : Plans
      after_homes = plan (Plan.Make (Move.Group (group_lists (t ∷ s ∷ ts) (in_order d o))))
          (at_each 0 (unchain_lists (t ∷ s ∷ ts) (in_order d o)) (at_each 0 xs (unwrap_steps fs)))

-- ---- the whole derivation
module _ (g : MixedGraph) (is_graph : IsMixedGraph g) (o : List ℕ) (order : IsOrderFrom g 0 o) (x y : ℕ) (tgt : IsTarget g x y) (d : ℕ)
    (is_d : AreAncestorsIn g (minus (all g.vertices) x) y d) where
  y_free : (u : ℕ) → has y u ≡ true → has (minus (all g.vertices) x) u ≡ true
  y_free u e = has-minus (all g.vertices) x u ∙ both_true (has (all g.vertices) u) (not (has x u)) (all-is g.vertices u (tgt.y_low u e))
      (not_i (has x u) (go (has x u) refl))
    where
      go : (b : Bool) → has x u ≡ b → has x u ≡ false
      go true q = absurd (tgt.off u q e)
      go false q = q

  pub d_free : (u : ℕ) → has d u ≡ true → has (minus (all g.vertices) x) u ≡ true
  d_free u e = ancestors_in g is_graph o order y (minus (all g.vertices) x) y_free u (is_d.sound u e)

  -- the members of d are vertices of the graph
  pub d_low : (u : ℕ) → has d u ≡ true → u < g.vertices
  d_low u e = all-below g.vertices u (and_l (has (all g.vertices) u) (not (has x u)) (rw (has-minus (all g.vertices) x u) at (d_free u e)))

  -- no member of d is in x
  pub d_off : (u : ℕ) → has d u ≡ true → has x u ≡ false
  d_off u e = not_e (has x u) (and_r (has (all g.vertices) u) (not (has x u)) (rw (has-minus (all g.vertices) x u) at (d_free u e)))

  -- each member of y is in d, as its own ancestor
  pub y_in : (u : ℕ) → has y u ≡ true → has d u ≡ true
  y_in u e = is_d.complete u (record { vertex = tgt.y_low u e; path = []; end = u; leads = refl; inside = e })

  abbrev others : ℕ
  others = minus (minus (all g.vertices) x) d

  others_of : (u : ℕ) → has others u ≡ true → (u < g.vertices) × (has x u ≡ false) × (has d u ≡ false)
  others_of u e = let q : ((has (all g.vertices) u && not (has x u)) && not (has d u)) ≡ true =
      sym (has-minus (minus (all g.vertices) x) d u ∙ ap (λ z. z && not (has d u)) (has-minus (all g.vertices) x u)) ∙ e in
      let r : (has (all g.vertices) u && not (has x u)) ≡ true = and_l (has (all g.vertices) u && not (has x u)) (not (has d u)) q in (
        all-below g.vertices u (and_l (has (all g.vertices) u) (not (has x u)) r),
        not_e (has x u) (and_r (has (all g.vertices) u) (not (has x u)) r),
        not_e (has d u) (and_r (has (all g.vertices) u && not (has x u)) (not (has d u)) q),
      )

  held : union x others ≡ minus (all g.vertices) d
  held = same_from_has (union x others) (minus (all g.vertices) d) (λ u.
      (has-or x others u ∙ ap (λ z. has x u || z) (has-minus (minus (all g.vertices) x) d u ∙ ap (λ z. z && not (has d u)) (has-minus (all g.vertices) x u))) ∙
      (bools (has (all g.vertices) u) (has x u) (has d u) (λ e. all-is g.vertices u (tgt.x_low u e)) (d_off u) ∙ sym (has-minus (all g.vertices) d u)))
    where
      bools : (v x d : Bool) → (x ≡ true → v ≡ true) → (d ≡ true → x ≡ false) → (x || ((v && not x) && not d)) ≡ (v && not d)
      bools v x d h1 h2 = grind (arith, h1, h2)

  -- a parent outside x of a member of d is in d
  pub d_closed : (p u : ℕ) → g.arrow p u ≡ true → has x p ≡ false → has d u ≡ true → has d p ≡ true
  d_closed p u b n i = let r = is_d.sound u i in is_d.complete p (record {
    vertex = is_graph.tail_below p u b;
    path = u ∷ r.path;
    end = r.end;
    leads = (
      both_true (g.arrow p u) (has (minus (all g.vertices) x) p && has (minus (all g.vertices) x) u) b
          (both_true (has (minus (all g.vertices) x) p) (has (minus (all g.vertices) x) u)
          (has-minus (all g.vertices) x p ∙ both_true (has (all g.vertices) p) (not (has x p)) (all-is g.vertices p (is_graph.tail_below p u b))
          (not_i (has x p) n)) (d_free u i)),
      r.leads,
    );
    inside = r.inside;
  })

  act : (ls : List ℕ) → is_empty others ≡ false → Makes g ls (Plan.Make (Move.WithSet set_move.Rule3In others)) (prob y x 0) (prob y (minus (all g.vertices) d) 0)
  act ls ne = made_if g (is_new g.vertices others y x 0) (Row.Ask Three x y others 0 (prob y (union x others) 0)) Sets (prob y (minus (all g.vertices) d) 0)
      (new_set g.vertices others y x 0 ne (λ u e. (others_of u e).0) (λ u e i. clash (has d u) (y_in u i) (others_of u e).2)
      (λ u e i. clash (has x u) i (others_of u e).1) (λ u e i. clash (has 0 u) i (has-zero u))) (
        asked_of_three g (has x) (has y) (has others) (has 0) (has others) (cut_three g x others 0 (λ u e r. clash (has 0 r.end) r.inside (has-zero r.end)))
            (actions_apart g (has x) (has others) (has y) (λ u. has x u || has 0 u) (λ u. has d u ≡ true) y_in d_closed
            (λ u e i. clash (has d u) i (others_of u e).2) (λ u. bare (has x u) (has 0 u) (has-zero u))),
        ap (λ z. prob y z 0) (sym held),
      )
    where
      bare : (x y : Bool) → y ≡ false → (x || y) ≡ x
      bare x y h = grind (arith, h)

  no_act : is_empty others ≡ true → prob y (minus (all g.vertices) d) 0 ≡ prob y x 0
  no_act e = ap (λ z. prob y z 0) (sym held ∙ same_from_has (union x others) x (λ u. has-or x others u ∙ rw (empty-has others u e) (bare (has x u))))
    where
      bare : (b : Bool) → (b || false) ≡ b
      bare b = grind arith

  abbrev summed_out : ℕ
  summed_out = minus d y

  -- from P(y | do(x)) to the sum over d outside y of what the rest makes of P(d | do(all others))
  pub main_made : (ls : List ℕ) (rest : Plans) (e : Tree) → MakesAll g ls rest (prob d (minus (all g.vertices) d) 0) e
      → MakesAll g ls (main_steps g.vertices x y d rest) (prob y x 0) (sum_if summed_out e)
  main_made ls rest e h = made_with g ls others (Plan.Make (Move.WithSet set_move.Rule3In others))
      (cond (is_empty summed_out) rest (plan (Plan.Make (Move.WithSet set_move.Widen summed_out)) (at_zero rest))) (prob y x 0) (prob y (minus (all g.vertices) d) 0)
      (sum_if summed_out e) no_act (act ls) (go (is_empty summed_out) refl)
    where
      of_sum : (u : ℕ) → has summed_out u ≡ true → (has d u ≡ true) × (has y u ≡ false)
      of_sum u i = let q : (has d u && not (has y u)) ≡ true = rw (has-minus d y u) at i in
          (and_l (has d u) (not (has y u)) q, not_e (has y u) (and_r (has d u) (not (has y u)) q))

      back : union y summed_out ≡ d
      back = same_from_has (union y summed_out) d (λ u. has-or y summed_out u ∙ (ap (λ z. has y u || z) (has-minus d y u) ∙ bools (has y u) (has d u) (y_in u)))
        where
          bools : (p q : Bool) → (p ≡ true → q ≡ true) → (p || (q && not p)) ≡ q
          bools p q h = grind (arith, h)

      go : (b : Bool) → is_empty summed_out ≡ b → MakesAll g ls (cond b rest (plan (Plan.Make (Move.WithSet set_move.Widen summed_out)) (at_zero rest)))
          (prob y (minus (all g.vertices) d) 0) (cond b e (sum summed_out e))
      go true q = subst (λ z. MakesAll g ls rest (prob z (minus (all g.vertices) d) 0) e)
          (same_from_has d y (λ u. bools (has y u) (has d u) (y_in u) (sym (has-minus d y u) ∙ empty-has summed_out u q))) h
        where
          bools : (p q : Bool) → (p ≡ true → q ≡ true) → (q && not p) ≡ false → q ≡ p
          bools p q h1 h2 = grind (arith, h1, h2)
      go false q = (
        sum summed_out (prob d (minus (all g.vertices) d) 0),
        subst (λ z. Makes g ls (Plan.Make (Move.WithSet set_move.Widen summed_out)) (prob y (minus (all g.vertices) d) 0)
            (sum summed_out (prob z (minus (all g.vertices) d) 0))) back
            (widen_made g ls summed_out y (minus (all g.vertices) d) q (λ u i. d_low u (of_sum u i).0) (λ u i j. clash (has y u) j (of_sum u i).1)
            (λ u i j. clash (has d u) (of_sum u i).0 (not_e (has d u) (and_r (has (all g.vertices) u) (not (has d u))
            (rw (has-minus (all g.vertices) d u) at j))))),
        sum_at g ls rest summed_out (prob d (minus (all g.vertices) d) 0) e h,
      )

  -- the steps of main nest at most 13 deep where the rest of them nests at most 11
  pub main_deep : (rest : Plans) → are_plans_within 11 rest ≡ true → are_plans_within 13 (main_steps g.vertices x y d rest) ≡ true
  main_deep rest h = with_deep 13 others (Plan.Make (Move.WithSet set_move.Rule3In others))
      (cond (is_empty summed_out) rest (plan (Plan.Make (Move.WithSet set_move.Widen summed_out)) (at_zero rest))) refl (go (is_empty summed_out))
    where
      go : (b : Bool) → are_plans_within 13 (cond b rest (plan (Plan.Make (Move.WithSet set_move.Widen summed_out)) (at_zero rest))) ≡ true
      go true = steps_more 12 rest (steps_more 11 rest h)
      go false = place_at 11 0 rest no_plans h refl
