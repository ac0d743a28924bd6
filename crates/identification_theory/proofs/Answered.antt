-- The laws of the procedure's answers, with the case of an empty x.
use Rattle.std.proofs.Common.{ℕ, ◌≡◌, true, refl, sym, ap, subst, ◌∙◌, inl, inr, List, [], ◌+◌, length}
use Rattle.identification_theory.proofs.Bools.{clash}
use Rattle.identification_theory.proofs.Derivation.{procedure}
use Rattle.identification_theory.proofs.Formulas.{observed_accepted}
use Rattle.identification_theory.specs.Derivations.{IsDerivedBy}
use Rattle.identification_theory.specs.Laws.{IsAcceptedFor}
use Rattle.identification_theory.proofs.OneDerivation.{derivation_one}
use Rattle.identification_theory.proofs.Groups.{Among, are_parts, part_among}
use Rattle.identification_theory.proofs.Orders.{order_of, one_order}
use Rattle.identification_theory.proofs.Sets.{below, apart, not_empty}
use Rattle.identification_theory.specs.Procedure.{IsIdentifiedBy, IsStopped, IsTarget, IsUnidentified, IsUnidentifiedBy, StopsAt}
use Rattle.identification_theory.proofs.Depth.{tree_flat}
use Rattle.identification_theory.proofs.Faults.{no_fault}
use Rattle.identification_theory.proofs.Formed.{IsFormedFormula, is_term_from, composed_formed}
use Rattle.identification_theory.proofs.Names.{names_ancestors}
use Rattle.identification_theory.proofs.Stops.{hedge, meets, home_of}
use Rattle.identification_theory.proofs.Unique.{tree_one, tree_or_stop, stop_one}
use Rattle.identification_theory.specs.AnswerDepth.{is_tree_within, are_defs_within}
use Rattle.identification_theory.specs.AnswerLaws.{FormulaNamesAncestors, FormulaIsFormed, FormulaIsShallow, OneFormula, DerivedIsIdentified}
use Rattle.identification_theory.specs.AnswerLaws.{OneDerivation, DerivationIsAccepted, OneStop, NeverBoth, StopIsHedge}
use Rattle.identification_theory.specs.Names.{FormulaNamesOnly}
use Rattle.mixed_graph.proofs.Masks.{has-zero}
use Rattle.mixed_graph.specs.Vocabulary.{has, IsAncestor, IsMixedGraph, MixedGraph, is_apart, is_below}
use Rattle.prob_expr.specs.Vocabulary.{is_term}
use Rattle.hedge.specs.Vocabulary.{Meets}

observed_term : (g : MixedGraph) (x y : ℕ) → IsTarget g x y → is_term g.vertices y 0 0 ≡ true
observed_term g x y t = is_term_from g.vertices y 0 0 (below g.vertices y t.y_low) zero_low zero_low (not_empty y t.some t.some_in) (off y) (off y) (off 0)
  where
    zero_low : is_below g.vertices 0 ≡ true
    zero_low = below g.vertices 0 (λ v e. absurd (clash (has 0 v) e (has-zero v)))

    off : (a : ℕ) → is_apart a 0 ≡ true
    off a = apart a 0 (λ v e i. clash (has 0 v) i (has-zero v))

-- the formula names only ancestors of y
pub formula_names_ancestors : FormulaNamesAncestors
formula_names_ancestors g ok x y tgt f i = go i.answer
  where
    go : IsIdentifiedBy g i.order x y f → FormulaNamesOnly (IsAncestor g (has y)) f
    go (inr t) = names_ancestors g ok i.order (order_of g i.order i.is_order) x y tgt f t.1
    go (inl t) = subst (FormulaNamesOnly (IsAncestor g (has y))) (sym t.1) (
      tt,
      (
        λ u e. record { vertex = tgt.y_low u e; path = []; end = u; leads = refl; inside = e },
        λ u e. absurd (clash (has 0 u) e (has-zero u)),
        λ u e. absurd (clash (has 0 u) e (has-zero u)),
      ),
    )

-- the check of formulas finds no fault in the formula
pub formula_is_formed : FormulaIsFormed
formula_is_formed g ok x y tgt f i = no_fault g.vertices f (go i.answer)
  where
    go : IsIdentifiedBy g i.order x y f → IsFormedFormula g.vertices f
    go (inr t) = composed_formed g ok i.order (order_of g i.order i.is_order) x y tgt f t.1
    go (inl t) = subst (IsFormedFormula g.vertices) (sym t.1) (tt, observed_term g x y tgt)

-- the formula nests at most 7 deep in main and 5 in a definition, for any number of vertices
pub formula_is_shallow : FormulaIsShallow
formula_is_shallow g x y f i = go i.answer
  where
    go : IsIdentifiedBy g i.order x y f → (are_defs_within 5 f.defs ≡ true) × (is_tree_within 7 f.main ≡ true)
    go (inr t) = tree_flat g i.order x y f t.1
    go (inl t) = subst (λ f. (are_defs_within 5 f.defs ≡ true) × (is_tree_within 7 f.main ≡ true)) (sym t.1) (refl, refl)

-- P(y | do(x)) has at most one formula of the procedure
pub one_formula : OneFormula
one_formula g x y f h i j = go i.answer (subst (λ o. IsIdentifiedBy g o x y h) (one_order g j.order i.order j.is_order i.is_order) j.answer)
  where
    go : IsIdentifiedBy g i.order x y f → IsIdentifiedBy g i.order x y h → f ≡ h
    go (inl s) (inl t) = s.1 ∙ sym t.1
    go (inl s) (inr t) = absurd (t.0 s.0)
    go (inr s) (inl t) = absurd (s.0 t.0)
    go (inr s) (inr t) = tree_one g i.order x y f h s.1 t.1

-- a formula that comes with the procedure's derivation is the formula of the procedure
pub derived_is_identified : DerivedIsIdentified
derived_is_identified g x y f d i = record { order = i.order; is_order = i.is_order; answer = go i.answer }
  where
    go : IsDerivedBy g i.order x y f d → IsIdentifiedBy g i.order x y f
    go (inl s) = inl (s.0, s.1)
    go (inr s) = inr (s.0, s.1.composed)

-- P(y | do(x)) has at most one derivation of the procedure
pub one_derivation : OneDerivation
one_derivation g x y f h d e i j = go i.answer (subst (λ o. IsDerivedBy g o x y h e) (one_order g j.order i.order j.is_order i.is_order) j.answer)
  where
    go : IsDerivedBy g i.order x y f d → IsDerivedBy g i.order x y h e → d ≡ e
    go (inl s) (inl t) = s.2 ∙ sym t.2
    go (inl s) (inr t) = absurd (t.0 s.0)
    go (inr s) (inl t) = absurd (s.0 t.0)
    go (inr s) (inr t) = derivation_one g i.order x y f h d e s.1 t.1

-- the procedure's derivation is accepted for P(y | do(x)) and its formula
pub derivation_is_accepted : DerivationIsAccepted
derivation_is_accepted g ok x y tgt f d i = go i.answer
  where
    go : IsDerivedBy g i.order x y f d → IsAcceptedFor g x y f d
    go (inl s) = observed_accepted g x y f d s.0 s.1 s.2
    go (inr s) = let p = procedure g ok i.order (order_of g i.order i.is_order) x y tgt f s.1.composed in
        subst (IsAcceptedFor g x y f) (derivation_one g i.order x y f f p.derivation d p.by s.1) p.accepted

pub one_stop : OneStop
one_stop g x y small big small' big' i j = stop_one g i.order x y small big small' big' i.stop
    (subst (λ o. IsUnidentifiedBy g o x y small' big') (one_order g j.order i.order j.is_order i.is_order) j.stop)

-- the district whose factor stops
record IsAt (g : MixedGraph) (cs : List ℕ) (small big : ℕ) : Type 0 where
  a : ℕ
  among : Among small cs
  stops : IsStopped g small a big

where_stopped : (g : MixedGraph) (o : List ℕ) (k : ℕ) (cs : List ℕ) (small big : ℕ) → StopsAt g o k cs small big → IsAt g cs small big
where_stopped g o _ _ _ big (StopsAt.first {a = a} n s) = record { a = a; among = inl refl; stops = s }
where_stopped g o _ _ small big (StopsAt.after {k = k} {cs = cs} {ds = ds} n f r) = let q = where_stopped g o (k + length ds) cs small big r in
    record { a = q.a; among = inr q.among; stops = q.stops }

-- where the procedure stops, its two sets with the roots of the smaller one are a hedge for the effect of x on y
pub stop_is_hedge : StopIsHedge
stop_is_hedge g ok x y small big roots tgt i r = let u = i.stop.split in let q = where_stopped g i.order 0 u.districts small big i.stop.stops in
    hedge g ok i.order (order_of g i.order i.is_order) x y tgt u.d u.is_d small
    (part_among g u.d small u.districts (are_parts g ok u.d 0 i.order u.districts u.are_districts) q.among)
    (home_of g u.d 0 i.order u.districts small u.are_districts q.among) q.a big q.stops roots r

-- what stops meets x
stop_meets : (g : MixedGraph) → IsMixedGraph g → (x y small big : ℕ) → IsTarget g x y → IsUnidentified g x y small big → Meets (has big) (has x)
stop_meets g ok x y small big tgt i = let u = i.stop.split in let q = where_stopped g i.order 0 u.districts small big i.stop.stops in
    meets g ok i.order (order_of g i.order i.is_order) x y tgt u.d u.is_d small
    (part_among g u.d small u.districts (are_parts g ok u.d 0 i.order u.districts u.are_districts) q.among)
    (home_of g u.d 0 i.order u.districts small u.are_districts q.among) q.a big q.stops

-- the procedure doesn't both make a formula and stop
pub never_both : NeverBoth
never_both g ok x y small big tgt f i j = go i.answer
  where
    m : Meets (has big) (has x)
    m = stop_meets g ok x y small big tgt j

    go : IsIdentifiedBy g i.order x y f → ⊥
    go (inl s) = clash (has x m.vertex) m.in_second (ap (λ z. has z m.vertex) s.0 ∙ has-zero m.vertex)
    go (inr s) = tree_or_stop g i.order x y small big f s.1 (subst (λ o. IsUnidentifiedBy g o x y small big)
        (one_order g j.order i.order j.is_order i.is_order) j.stop)
