-- The counter of nodes, and steps in turn.
use Rattle.std.proofs.Common.{ℕ, zero, suc, ◌+◌, ◌≡◌, ◌<◌, true, sym, ap, ◌∙◌, List, length, get_or, drop, Some, None, Option, MatchOption, Result}
use Rattle.std.proofs.Common.{Ok, Err, subst, inl, inr, arith}
use Rattle.std.proofs.lemmas.List.{at_drop_more}
use Rattle.mixed_graph.specs.Vocabulary.{MixedGraph, IsMixedGraph}
use Rattle.finite_models.proofs.Bools.{and_first, and_second}
use Rattle.prob_expr.specs.declared.expr.Expr.{Expr}
use Rattle.prob_expr.specs.Vocabulary.{cap, are_terms, are_terms_each, Trees, no_trees}
use Rattle.prob_expr.specs.Tree.{Tree, product, tree}
use Rattle.prob_expr.specs.View.{view}
use Rattle.do_derivation.specs.Applied.{IsRow, IsApplied, IsAppliedBoxed, IsAppliedAt}
use Rattle.do_derivation.specs.Plans.{Move, Plan, Plans, no_plans, plan, numbered, numbered_all}
use Rattle.do_derivation.specs.Shapes.{child, factor_at}
use Rattle.do_derivation.specs.Steps.{Makes, MakesAll, Refuses, RefusesAny}
use Rattle.do_derivation.specs.Table.{row}
use Rattle.do_derivation.specs.View.{step_view, steps_view}
use Rattle.do_derivation.specs.declared.faults.Refusal.{Refusal}
use Rattle.do_derivation.specs.declared.faults.Refusal.TheVariants.{Fault, NoMemory}
use Rattle.do_derivation.specs.declared.faults.StepFault.{StepFault}
use Rattle.do_derivation.specs.declared.faults.StepFault.TheVariants.{NoPlace}
use Rattle.do_derivation.specs.declared.steps.Step.{Step}
use Rattle.do_derivation.proofs.Children.{some_is}
use Rattle.do_derivation.proofs.Preserved.{step_keeps_terms}
use Rattle.std.proofs.lemmas.Option.{none-some}

pub row_applied : (g : MixedGraph) (lemmas : List ℕ) (m : Move) (e : Tree) (from to : ℕ) (made : Result Expr Refusal) → to ≡ cap (from + 1)
    → IsRow g (row g.vertices lemmas m e) made → IsApplied g lemmas (Plan.Make m) e from to made
row_applied g lemmas m e from to (Ok x) count h = (h, omega (arith, count))
row_applied g lemmas m e from to (Err (Fault f)) count h = (count, h)
row_applied g lemmas m e from to (Err NoMemory) count h = tt

-- a step that is one move makes what its move makes
pub moved : (g : MixedGraph) (lemmas : List ℕ) (e : Tree) (from to : ℕ) (made result : Result Expr Refusal) {s t : Step} {m : Move} → s ≡ t → step_view t
    ≡ Plan.Make m
    → ((g : MixedGraph) (lemmas : List ℕ) (m : Move) (e : Tree) → IsRow g (row g.vertices lemmas m e) made
    → IsApplied g lemmas (Plan.Make m) e from to result) → IsRow g (row g.vertices lemmas m e) made → IsApplied g lemmas (step_view s) e from to result
moved g lemmas e from to made result {m = m} is seen counted h = subst (λ p. IsApplied g lemmas p e from to result) (sym (ap step_view is ∙ seen))
    (counted g lemmas m e h)

pub cap-cap : (a b : ℕ) → cap (cap a + b) ≡ cap (a + b)
cap-cap a b = omega arith

pub cap_same : (a b k : ℕ) → cap a ≡ cap b → cap (a + k) ≡ cap (b + k)
cap_same a b k e = sym (cap-cap a k) ∙ ap (λ n. cap (n + k)) e ∙ cap-cap b k

at_capped : (a b i number : ℕ) (f : StepFault) (o : Option Tree) (Q R : Tree → Type 0) → cap (a + 1) ≡ cap (b + 1) → ((c : Tree) → Q c → R c)
    → MatchOption o ((number ≡ cap (a + 1)) × (f ≡ NoPlace i)) (λ c. Q c) → MatchOption o ((number ≡ cap (b + 1)) × (f ≡ NoPlace i)) (λ c. R c)
at_capped a b i number f None Q R e h r = (r.0 ∙ e, r.1)
at_capped a b i number f (Some c) Q R e h r = h c r

-- where a step is refused depends on the count before it as far as 32 bits show
module _ (g : MixedGraph) (lemmas : List ℕ) where
  mutual
    pub refuses_capped : (p : Plan) (e : Tree) (a b number : ℕ) (f : StepFault) → cap a ≡ cap b → Refuses g lemmas p e a number f
        → Refuses g lemmas p e b number f
    refuses_capped (Plan.Make m) e a b number f same h = (h.0 ∙ cap_same a b 1 same, h.1)
    refuses_capped (Plan.At i p) e a b number f same h =
        at_capped a b i number f (child e i) (λ c. Refuses g lemmas p c (a + 1) number f) (λ c. Refuses g lemmas p c (b + 1) number f) (cap_same a b 1 same)
        (λ c k. refuses_capped p c (a + 1) (b + 1) number f (cap_same a b 1 same) k) h
    refuses_capped (Plan.Then ps) e a b number f same h = refuses_any_capped ps e a b number f same h

    pub refuses_any_capped : (ps : Plans) (e : Tree) (a b number : ℕ) (f : StepFault) → cap a ≡ cap b → RefusesAny g lemmas ps e a number f
        → RefusesAny g lemmas ps e b number f
    refuses_any_capped no_plans e a b number f same h = absurd h
    refuses_any_capped (plan p ps) e a b number f same (inl h) = inl (refuses_capped p e a b number f same h)
    refuses_any_capped (plan p ps) e a b number f same (inr h) =
        inr (h.0, h.1, refuses_any_capped ps h.0 (a + numbered p) (b + numbered p) number f (cap_same a b (numbered p) same) h.2)

  pub child_refused : (p : Plan) (e c : Tree) (i from mid to : ℕ) (f : StepFault) → child e i ≡ Some c → mid ≡ cap (from + 1) → Refuses g lemmas p c mid to f
      → Refuses g lemmas (Plan.At i p) e from to f
  child_refused p e c i from mid to f is count h =
      subst (λ o. MatchOption o ((to ≡ cap (from + 1)) × (f ≡ NoPlace i)) (λ c. Refuses g lemmas p c (from + 1) to f)) (sym is)
      (refuses_capped p c mid (from + 1) to f (ap cap count ∙ omega arith) h)

  pub child_err : (p : Plan) (e c : Tree) (i from mid to : ℕ) (r : Refusal) → child e i ≡ Some c → mid ≡ cap (from + 1)
      → IsAppliedBoxed g lemmas p c mid to (Err r) → IsApplied g lemmas (Plan.At i p) e from to (Err r)
  child_err p e c i from mid to (Fault f) is count h = child_refused p e c i from mid to f is count h
  child_err p e c i from mid to NoMemory is count h = tt

  product_refused : (p : Plan) (i from mid to : ℕ) (f : StepFault) (o : Option Tree) → mid ≡ cap (from + 1)
      → MatchOption o ((to ≡ mid) × (f ≡ NoPlace i)) (λ c. Refuses g lemmas p c mid to f)
      → MatchOption o ((to ≡ cap (from + 1)) × (f ≡ NoPlace i)) (λ c. Refuses g lemmas p c (from + 1) to f)
  product_refused p i from mid to f None count h = (h.0 ∙ count, h.1)
  product_refused p i from mid to f (Some c) count h = refuses_capped p c mid (from + 1) to f (ap cap count ∙ omega arith) h

  pub child_product : (p : Plan) (e : Tree) (ts : Trees) (i from mid to : ℕ) (res : Result Expr Refusal) → e ≡ product ts → mid ≡ cap (from + 1)
      → IsAppliedAt g lemmas i p ts mid to res → IsApplied g lemmas (Plan.At i p) e from to res
  child_product p e ts i from mid to (Ok x) seen count h =
      (subst (λ y. Makes g lemmas (Plan.At i p) y (view x)) (sym seen) h.0, (let k = h.1 in omega (arith, k, count)))
  child_product p e ts i from mid to (Err (Fault f)) seen count h =
      subst (λ y. Refuses g lemmas (Plan.At i p) y from to f) (sym seen) (product_refused p i from mid to f (factor_at ts i) count h)
  child_product p e ts i from mid to (Err NoMemory) seen count h = tt

-- ---- steps in turn
pub steps_more : (l : List Step) (i : ℕ) (s : Step) → i < length l → s ≡ get_or l i s → steps_view (drop i l) ≡ plan (step_view s) (steps_view (drop (i + 1) l))
steps_more l i s lt is = at_drop_more steps_view l i s lt ∙ ap (λ x. plan (step_view x) (steps_view (drop (i + 1) l))) (sym is)

-- what the steps left make of e, all make of the first; and where they are refused
pub record IsLeft (g : MixedGraph) (lemmas : List ℕ) (left : Plans) (e : Tree) (at : ℕ) (all : Plans) (first : Tree) (from : ℕ) : Type 0 where
  pub terms : are_terms g.vertices e ≡ true
  pub count : cap (at + numbered_all left) ≡ cap (from + numbered_all all)
  pub makes : (x : Tree) → MakesAll g lemmas left e x → MakesAll g lemmas all first x
  pub refuses : (k : ℕ) (f : StepFault) → RefusesAny g lemmas left e at k f → RefusesAny g lemmas all first from k f

pub left_more : (g : MixedGraph) (ok : IsMixedGraph g) (lemmas : List ℕ) (l : List Step) (i : ℕ) (s : Step) (e m first : Tree) (at to from : ℕ) → i < length l
    → s ≡ get_or l i s
    → IsLeft g lemmas (steps_view (drop i l)) e at (steps_view l) first from → Makes g lemmas (step_view s) e m → cap to ≡ cap (at + numbered (step_view s))
    → IsLeft g lemmas (steps_view (drop (i + 1) l)) m to (steps_view l) first from
left_more g ok lemmas l i s e m first at to from lt is left made count =
    let p = step_view s in
    let rest = steps_view (drop (i + 1) l) in
    let cut : steps_view (drop i l) ≡ plan p rest = steps_more l i s lt is in
    record {
      terms = step_keeps_terms g ok lemmas p e m left.terms made;
      count = (let a : at + (numbered p + numbered_all rest) ≡ (at + numbered p) + numbered_all rest = omega arith in
          cap_same to (at + numbered p) (numbered_all rest) count ∙ ap cap (sym a) ∙ ap (λ z. cap (at + numbered_all z)) (sym cut) ∙ left.count);
      makes = λ x h. left.makes x (subst (λ z. MakesAll g lemmas z e x) (sym cut) (m, made, h));
      refuses = λ k f h. left.refuses k f (subst (λ z. RefusesAny g lemmas z e at k f) (sym cut)
          (inr (m, made, refuses_any_capped g lemmas rest m to (at + numbered p) k f count h)));
    }

pub left_refused : (g : MixedGraph) (lemmas : List ℕ) (l : List Step) (i : ℕ) (s : Step) (e first : Tree) (at from k : ℕ) (f : StepFault) → i < length l → s
    ≡ get_or l i s
    → IsLeft g lemmas (steps_view (drop i l)) e at (steps_view l) first from → Refuses g lemmas (step_view s) e at k f
    → RefusesAny g lemmas (steps_view l) first from k f
left_refused g lemmas l i s e first at from k f lt is left h = left.refuses k f
    (subst (λ z. RefusesAny g lemmas z e at k f) (sym (steps_more l i s lt is)) (inl h))

-- ---- one factor
pub factor_terms : (n : ℕ) (ts : Trees) (k : ℕ) (t : Tree) → are_terms_each n ts ≡ true → factor_at ts k ≡ Some t → are_terms n t ≡ true
factor_terms n no_trees k t h e = absurd (none-some t e)
factor_terms n (tree u ts) zero t h e = subst (λ x. are_terms n x ≡ true) (some_is u t e) (and_first (are_terms n u) (are_terms_each n ts) h)
factor_terms n (tree u ts) (suc k) t h e = factor_terms n ts k t (and_second (are_terms n u) (are_terms_each n ts) h) e
