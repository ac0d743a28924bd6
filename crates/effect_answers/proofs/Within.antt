-- The steps of an accepted derivation name vertices of the graph alone.
use Rattle.std.proofs.Common.{ℕ, ◌≡◌, ◌<◌, Bool, true, false, not, ◌&&◌, leb, ltb, List, [], ◌∷◌, ◌++◌, length, Option, Some, None, MatchOption, refl}
use Rattle.std.proofs.lemmas.Bool.{and_from, lt-ltb}
use Rattle.mixed_graph.specs.Vocabulary.{has, MixedGraph, IsMixedGraph, minus, one, is_empty, is_apart, is_inside, is_below}
use Rattle.finite_models.proofs.Bools.{and_first, and_second}
use Rattle.prob_expr.specs.Vocabulary.{is_term, PlainFormula, PlainTarget, term_of}
use Rattle.prob_expr.specs.Tree.{Tree, prob, sum, product, quotient, named}
use Rattle.mixed_graph.proofs.MaskLaws.{below_from, inside_has}
use Rattle.do_derivation.specs.Accepts.{Accepts}
use Rattle.do_derivation.specs.Vocabulary.{Define, start_of, sets_of, are_sets, no_plans, PlainLemma, PlainDerivation, is_list_of, child, with_child, IsMade, Makes, MakesAll}
use Rattle.do_derivation.specs.Plans.{Move, Plan, Plans, plan}
use Rattle.do_derivation.specs.Table.{row}
use Rattle.do_derivation.proofs.Accepted.{start_term}
use Rattle.do_derivation.proofs.MadeSets.{so, on_a_term, set_below}
use Rattle.do_derivation.proofs.Preserved.{step_keeps_terms}
use Rattle.do_derivation.proofs.TermSets.{IsTerm, minus_left, term_from, term_filled}
use Rattle.do_derivation.proofs.TreeTerms.{AreTerms, child_terms, terms_of, terms_test}
use Rattle.mixed_graph.proofs.MaskLaws.{filled_from}
use Rattle.certificate_json.specs.Vocabulary.{are_below, is_move_within, is_within, are_within, are_steps_within, IsDerivationWithin}

-- the vertices of a chain are those of the term
list_below : (n : ℕ) (o : List ℕ) (a : ℕ) → is_list_of o a ≡ true → ((v : ℕ) → has a v ≡ true → v < n) → are_below n o ≡ true
list_below n [] a e low = refl
list_below n (v ∷ o) a e low =
    and_from (ltb v n) (are_below n o) (lt-ltb v n (low v (and_first (has a v) (is_list_of o (minus a (one v))) e)))
    (list_below n o (minus a (one v)) (and_second (has a v) (is_list_of o (minus a (one v))) e) (λ u h. low u (minus_left a (one v) u h)))

module _ (g : MixedGraph) (ok : IsMixedGraph g) (lemmas : List ℕ) where
  move_within : (m : Move) (e e' : Tree) → AreTerms g.vertices e → IsMade g (row g.vertices lemmas m e) e' → is_move_within g.vertices m ≡ true
  move_within (Move.WithSet kind z) e e' t h = set_below g lemmas kind z e e' t h
  move_within (Move.Bare kind) e e' t h = refl
  move_within (Move.Chain o) e e' t h = on_a_term g _ (are_below g.vertices o ≡ true) e e' t (λ a b c k made.
      list_below g.vertices o a (and_second (leb 2 (length o)) (is_list_of o a) (so g (leb 2 (length o) && is_list_of o a) _ _ e' made)) k.of_below) h
  move_within (Move.Group l) e e' t h = refl
  move_within (Move.Cite k) e e' t h = refl

  -- a step on a child
  at_child : (p : Plan) (e : Tree) (i : ℕ) (o : Option Tree) (e' : Tree) → child e i ≡ o → AreTerms g.vertices e
      → ((c c' : Tree) → AreTerms g.vertices c → Makes g lemmas p c c' → is_within g.vertices p ≡ true)
      → MatchOption o ⊥ (λ c. (c' : Tree) × Makes g lemmas p c c' × (e' ≡ with_child e i c')) → is_within g.vertices p ≡ true
  at_child p e i None e' is t k h = absurd h
  at_child p e i (Some c) e' is t k h = k c h.0 (child_terms g.vertices e i c is t) h.1

  kept : (p : Plan) (e e' : Tree) → AreTerms g.vertices e → Makes g lemmas p e e' → AreTerms g.vertices e'
  kept p e e' t h = terms_of g.vertices e' (step_keeps_terms g ok lemmas p e e' (terms_test g.vertices e t) h)

  mutual
    -- a step that makes something of terms names vertices of the graph alone
    pub step_within : (p : Plan) (e e' : Tree) → AreTerms g.vertices e → Makes g lemmas p e e' → is_within g.vertices p ≡ true
    step_within (Plan.Make m) e e' t h = move_within m e e' t h
    step_within (Plan.At i p) e e' t h = at_child p e i (child e i) e' refl t (λ c c' tc k. step_within p c c' tc k) h
    step_within (Plan.Then ps) e e' t h = steps_within ps e e' t h

    steps_within : (ps : Plans) (e e' : Tree) → AreTerms g.vertices e → MakesAll g lemmas ps e e' → are_within g.vertices ps ≡ true
    steps_within no_plans e e' t h = refl
    steps_within (plan p ps) e e' t h = and_from (is_within g.vertices p) (are_within g.vertices ps) (step_within p e h.0 t h.1)
        (steps_within ps h.0 e' (kept p e h.0 t h.1) h.2)

-- and so do the steps of the lemmas
lemmas_within : (g : MixedGraph) → IsMixedGraph g → (before : List ℕ) (ls : List PlainLemma) (ds : List Tree) → are_sets g.vertices (sets_of ls) ≡ true
    → Define g before ls ds → are_steps_within g.vertices ls ≡ true
lemmas_within g ok before [] ds s h = refl
lemmas_within g ok before (l ∷ ls) [] s h = absurd h
lemmas_within g ok before (l ∷ ls) (d ∷ ds) s h =
    let here = and_first (is_below g.vertices l.set && not (is_empty l.set)) (are_sets g.vertices (sets_of ls)) s in
    and_from (is_within g.vertices l.plan) (are_steps_within g.vertices ls)
    (step_within g ok before l.plan (start_of g.vertices l.set) d (
      start_term g.vertices l.set (and_first (is_below g.vertices l.set) (not (is_empty l.set)) here),
      filled_from l.set (and_second (is_below g.vertices l.set) (not (is_empty l.set)) here),
    ) h.0)
    (lemmas_within g ok (before ++ (l.set ∷ [])) ls ds (and_second (is_below g.vertices l.set && not (is_empty l.set)) (are_sets g.vertices (sets_of ls)) s)
    h.1)

-- an accepted derivation names vertices of the graph alone
pub derivation_within : (g : MixedGraph) → IsMixedGraph g → (allowed : List ℕ) (t : PlainTarget) (f : PlainFormula) (d : PlainDerivation)
    → is_term g.vertices t.y t.x t.given ≡ true → Accepts g allowed t f d → IsDerivationWithin g.vertices d
derivation_within g ok allowed t f d term a = record {
  sets = a.sets;
  lemmas = lemmas_within g ok [] d.lemmas f.defs a.sets a.define;
  main = step_within g ok (sets_of d.lemmas) d.main (term_of t) f.main
      (term_from g.vertices t.y t.x t.given term, term_filled g.vertices t.y t.x t.given term) a.main;
}
