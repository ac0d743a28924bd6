-- The derivation of the formula that the identification procedure answers: the steps of the do-calculus that turn P(y | do(x)) into it.
use Rattle.std.specs.Prelude.{ℕ, suc, ◌+◌, ◌≡◌, ◌≢◌, ◌⊎◌, Bool, true, false, ◌||◌, List, [], ◌∷◌, ◌++◌, length, IsTrue, if◌then◌else◌}
use Rattle.mixed_graph.specs.Vocabulary.{has, MixedGraph, IsOrder, union, minus, one, all, is_empty, common}
use Rattle.hedge.specs.Vocabulary.{IsDistrict}
use Rattle.prob_expr.specs.Tree.{prob}
use Rattle.prob_expr.specs.Vocabulary.{Trees, PlainFormula}
use Rattle.do_derivation.specs.Plans.{Move, Plan, Plans, plan}
use Rattle.do_derivation.specs.Vocabulary.{no_plans, PlainLemma, PlainDerivation, has_product}
use Rattle.do_derivation.specs.declared.moves.SetMove.TheVariants as set_move
use Rattle.do_derivation.specs.declared.moves.BareMove.TheVariants as bare_move
use Rattle.identification_theory.specs.Procedure.{AreAncestorsIn, IsPillow, Source, IsComposed}

-- ---- lists of steps

-- one step
abbrev pub single : Plan → Plans
single s = plan s no_plans

-- a step is left out where its set is empty
abbrev pub with_set : ℕ → Plan → Plans → Plans
with_set z s rest = if is_empty z then rest else plan s rest

-- one list of steps for each factor of a product
pub data Lists : Type 0 where
  no_more : Lists
  more : Plans → Lists → Lists

-- a list of steps at child i, left out where the list is empty
abbrev pub at_place : ℕ → Plans → Plans → Plans
at_place i no_plans rest = rest
at_place i (plan s l) rest = plan (Plan.At i (Plan.Then (plan s l))) rest

-- each list at its factor, the first at factor i
abbrev pub at_each : ℕ → Lists → Plans → Plans
at_each i no_more rest = rest
at_each i (more l ls) rest = at_place i l (at_each (suc i) ls rest)

-- a list of steps inside a sum
abbrev pub at_zero : Plans → Plans
at_zero l = at_place 0 l no_plans

-- the members of t in the order
abbrev pub in_order : ℕ → List ℕ → List ℕ
in_order t [] = []
in_order t (v ∷ o) = if has t v then (v ∷ in_order t o) else in_order t o

-- ---- the steps of a body: from P(t | do(all others)) to the product of the factors of t

-- the vertices that may have arrows into a: the others are under intervention
abbrev pub universe : ℕ → Source → ℕ → ℕ
universe n (Source.Under z) a = minus (all n) z
universe n (Source.Defined k) a = a

-- definition k, of the set a, summed down to u
abbrev pub marginal_steps : (k a u : ℕ) → Plans
marginal_steps k a u = if is_empty (minus a u) then single (Plan.Make (Move.Cite k)) else plan (Plan.Make (Move.WithSet set_move.Widen (minus a u)))
    (single (Plan.At 0 (Plan.Then (single (Plan.Make (Move.Cite k))))))

-- P(v | m) read from a definition: the quotient of two sums of it
abbrev pub source_steps : Source → (a v m : ℕ) → Plans
source_steps (Source.Under z) a v m = no_plans
source_steps (Source.Defined k) a v m = if is_empty m then marginal_steps k a (one v)
    else (plan (Plan.Make (Move.Bare bare_move.Split)) (plan (Plan.At 0 (Plan.Then (marginal_steps k a (union m (one v)))))
    (single (Plan.At 1 (Plan.Then (marginal_steps k a m))))))

-- The rules at the term of one vertex of t, where p has the vertices before it, u is the universe and m the pillow: rule 3 drops the actions on what
-- comes later or lies
-- outside a, rule 2 makes those on earlier members of a outside t observations, and rule 1 drops what isn't in the pillow.
abbrev pub place_list : (p u a t m : ℕ) → Plans → Plans
place_list p u a t m rest = with_set (minus (minus u t) (minus (common a p) t)) (Plan.Make (Move.WithSet set_move.Rule3Out (minus (minus u t) (minus (common a p) t))))
    (with_set (minus (common a p) t) (Plan.Make (Move.WithSet set_move.Rule2See (minus (common a p) t)))
    (with_set (minus (common a p) m) (Plan.Make (Move.WithSet set_move.Rule1Out (minus (common a p) m))) rest))

-- the lists of the members of t in the order, where p has the vertices before the list
pub data ArePlaceLists (g : MixedGraph) (from : Source) (a t : ℕ) : ℕ → List ℕ → Lists → Type 0 where
  none : {p : ℕ} → ArePlaceLists g from a t p [] no_more
  skip : {p v : ℕ} {o : List ℕ} {ls : Lists} → has t v ≡ false → ArePlaceLists g from a t (union p (one v)) o ls → ArePlaceLists g from a t p (v ∷ o) ls
  take : {p v m : ℕ} {o : List ℕ} {ls : Lists} → IsTrue (has t v) → IsPillow g (union (common a p) (one v)) v m
      → ArePlaceLists g from a t (union p (one v)) o ls
      → ArePlaceLists g from a t p (v ∷ o) (more (place_list p (universe g.vertices from a) a t m (source_steps from a v m)) ls)

-- one member: its list; several: the chain, and each list at its factor
abbrev pub body_steps : List ℕ → Lists → Plans
body_steps [] ls = no_plans
body_steps (v ∷ []) no_more = no_plans
body_steps (v ∷ []) (more l ls) = l
body_steps (v ∷ w ∷ o) ls = plan (Plan.Make (Move.Chain (v ∷ w ∷ o))) (at_each 0 ls no_plans)

-- the steps of the body of t
pub record AreBodySteps (g : MixedGraph) (order : List ℕ) (from : Source) (a t : ℕ) (steps : Plans) : Type 0 where
  pub lists : Lists
  pub are : ArePlaceLists g from a t 0 order lists
  pub is : steps ≡ body_steps (in_order t order) lists

-- ---- the steps of a factor

-- to a sum over z of the larger term, whose list works inside the sum
abbrev pub cut_steps : ℕ → Plans → Plans
cut_steps z l = plan (Plan.Make (Move.WithSet set_move.Rule3Out z)) (plan (Plan.Make (Move.WithSet set_move.Widen z)) (at_zero l))

-- the lemmas of the factor's definitions from number k on, and its steps
pub data AreFactorSteps (g : MixedGraph) (order : List ℕ) (c : ℕ) : (a : ℕ) (from : Source) (k : ℕ) → List PlainLemma → Plans → Type 0 where
  whole : {a k : ℕ} {from : Source} {l : Plans} → IsDistrict g a c c → AreBodySteps g order from a c l → AreFactorSteps g order c a from k [] l
  summed : {a t k : ℕ} {from : Source} {l : Plans} → IsDistrict g a c t → t ≢ c → AreAncestorsIn g t c c → AreBodySteps g order from a t l
      → AreFactorSteps g order c a from k [] (cut_steps (minus t c) l)
  further : {a t a2 k : ℕ} {from : Source} {b l : Plans} {ls : List PlainLemma} → IsDistrict g a c t → t ≢ c → AreAncestorsIn g t c a2 → a2 ≢ t → a2 ≢ c
      → AreBodySteps g order from a t b
      → AreFactorSteps g order c a2 (Source.Defined k) (suc k) ls l → AreFactorSteps g order c a from k
      (record { set = a2; plan = Plan.Then (cut_steps (minus t a2) b) } ∷ ls) l

-- those of the factors of these districts
pub data AreAllSteps (g : MixedGraph) (order : List ℕ) : (k : ℕ) → List ℕ → List PlainLemma → Lists → Type 0 where
  none : {k : ℕ} → AreAllSteps g order k [] [] no_more
  next : {k c a : ℕ} {cs : List ℕ} {ls more_ls : List PlainLemma} {l : Plans} {lists : Lists} → AreAncestorsIn g (all g.vertices) c a
      → AreFactorSteps g order c a (Source.Under 0) k ls l
      → AreAllSteps g order (k + length ls) cs more_ls lists → AreAllSteps g order k (c ∷ cs) (ls ++ more_ls) (more l lists)

-- ---- the steps of main, on d, the ancestors of y once x is left out

-- the first of the sets that has v
abbrev pub home : List ℕ → ℕ → ℕ
home [] v = 0
home (t ∷ ts) v = if has t v then t else home ts v

-- from the term of a vertex in the chain of d to that in the chain of its district t, where p has the vertices before it
abbrev pub home_list : (d t p : ℕ) → Plans
home_list d t p = with_set (minus (common d p) t) (Plan.Make (Move.WithSet set_move.Rule2Do (minus (common d p) t)))
    (with_set (minus (minus d t) (minus (common d p) t)) (Plan.Make (Move.WithSet set_move.Rule3In (minus (minus d t) (minus (common d p) t)))) no_plans)

-- one such list for each member of d in the order, where p has the vertices before the list
abbrev pub home_lists : (d : ℕ) → List ℕ → (p : ℕ) → List ℕ → Lists
home_lists d ts p [] = no_more
home_lists d ts p (v ∷ o) = if has d v then more (home_list d (home ts v) p) (home_lists d ts (union p (one v)) o) else home_lists d ts (union p (one v)) o

-- the places of the members of t in the list, counted from i
abbrev pub places : ℕ → ℕ → List ℕ → List ℕ
places t i [] = []
places t i (v ∷ l) = if has t v then (i ∷ places t (suc i) l) else places t (suc i) l

-- the places of the members of each district
abbrev pub group_lists : List ℕ → List ℕ → List (List ℕ)
group_lists [] l = []
group_lists (t ∷ ts) l = places t 0 l ∷ group_lists ts l

-- the factors of several members are one term again
abbrev pub unchain_steps : List ℕ → Plans
unchain_steps [] = no_plans
unchain_steps (v ∷ []) = no_plans
unchain_steps (v ∷ w ∷ l) = single (Plan.Make (Move.Bare bare_move.Unchain))

-- those of each district
abbrev pub unchain_lists : List ℕ → List ℕ → Lists
unchain_lists [] l = no_more
unchain_lists (t ∷ ts) l = more (unchain_steps (in_order t l)) (unchain_lists ts l)

-- factors that are products are opened
abbrev pub unwrap_steps : Trees → Plans
unwrap_steps fs = if has_product fs then single (Plan.Make (Move.Bare bare_move.Unwrap)) else no_plans

-- the list has two entries or more
abbrev pub two_or_more : List ℕ → Bool
two_or_more [] = false
two_or_more (v ∷ []) = false
two_or_more (v ∷ w ∷ l) = true

-- some set has two members in the order
abbrev pub has_pair : List ℕ → List ℕ → Bool
has_pair order [] = false
has_pair order (t ∷ ts) = two_or_more (in_order t order) || has_pair order ts

-- where some district has two members, the factors of each district become one term
abbrev pub group_steps : (order chain : List ℕ) → List ℕ → Plans → Plans
group_steps order chain ts rest = if has_pair order ts then plan (Plan.Make (Move.Group (group_lists ts chain)))
    (at_each 0 (unchain_lists ts chain) rest) else rest

-- One district: its list. Several: the chain of d, each vertex to its district, one term for each district, and then the list of each.
abbrev pub district_steps : List ℕ → (d : ℕ) → List ℕ → Lists → Trees → Plans
district_steps order d [] ls fs = no_plans
district_steps order d (t ∷ []) no_more fs = no_plans
district_steps order d (t ∷ []) (more l ls) fs = l
district_steps order d (t ∷ s ∷ ts) ls fs = plan (Plan.Make (Move.Chain (in_order d order))) (at_each 0 (home_lists d (t ∷ s ∷ ts) 0 order)
    (group_steps order (in_order d order) (t ∷ s ∷ ts) (at_each 0 ls (unwrap_steps fs))))

-- rule 3 puts in the actions that change nothing in y, and the sum over d outside y holds the rest
abbrev pub main_steps : (n x y d : ℕ) → Plans → Plans
main_steps n x y d rest = with_set (minus (minus (all n) x) d) (Plan.Make (Move.WithSet set_move.Rule3In (minus (minus (all n) x) d)))
    (if is_empty (minus d y) then rest else plan (Plan.Make (Move.WithSet set_move.Widen (minus d y))) (at_zero rest))

-- by this order the composed formula has that derivation
pub record IsComposedAndDerived (g : MixedGraph) (order : List ℕ) (x y : ℕ) (f : PlainFormula) (d : PlainDerivation) : Type 0 where
  pub composed : IsComposed g order x y f
  pub lists : Lists
  pub are : AreAllSteps g order 0 composed.split.districts d.lemmas lists
  pub main : d.main
      ≡ Plan.Then (main_steps g.vertices x y composed.split.d (district_steps order composed.split.d composed.split.districts lists composed.factors))

-- by this order P(y | do(x)) has that formula with that derivation: no step where x is empty
abbrev pub IsDerivedBy : MixedGraph → List ℕ → (x y : ℕ) → PlainFormula → PlainDerivation → Type 0
IsDerivedBy g order x y f d = ((x ≡ 0) × (f ≡ record { defs = []; main = prob y 0 0 }) × (d ≡ record { lemmas = []; main = Plan.Then no_plans }))
    ⊎ ((x ≢ 0) × IsComposedAndDerived g order x y f d)

-- the formula that the procedure answers for P(y | do(x)), in the graph's order, and its derivation
pub record IsDerived (g : MixedGraph) (x y : ℕ) (f : PlainFormula) (d : PlainDerivation) : Type 0 where
  pub order : List ℕ
  pub is_order : IsOrder g order (length order)
  pub answer : IsDerivedBy g order x y f d
