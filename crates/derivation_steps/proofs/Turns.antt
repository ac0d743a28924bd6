-- Moves in turn.
use Rattle.std.proofs.Common.{ℕ, ◌+◌, ◌≡◌, ◌<◌, true, sym, ap, ◌∙◌, subst, refl, List, [], ◌∷◌, ◌++◌, map, length, get_or, drop, append_assoc, append-nil}
use Rattle.std.proofs.lemmas.List.{at_drop_more}
use Rattle.mixed_graph.specs.Vocabulary.{MixedGraph, IsMixedGraph}
use Rattle.prob_expr.specs.Vocabulary.{are_terms}
use Rattle.prob_expr.specs.Tree.{Tree}
use Rattle.prob_expr.specs.View.{view}
use Rattle.do_derivation.specs.Plans.{Plan}
use Rattle.do_derivation.specs.Vocabulary.{Makes, step_view}
use Rattle.do_derivation.specs.declared.steps.Step.{Step}
use Rattle.do_derivation.proofs.Exact.{steps_are_exact}
use Rattle.do_derivation.proofs.Preserved.{step_keeps_terms}
use Rattle.derivation_steps.specs.Asked.{IsAsked}
use Rattle.derivation_steps.specs.Traces.{IsMadeOf, plans_in, Leads, MadeInTurn}
use Rattle.derivation_steps.specs.declared.tracing.Made.{Made}

pub moves_more : (l : List Step) (i : ℕ) (s : Step) → i < length l → s ≡ get_or l i s → map step_view (drop i l) ≡ step_view s ∷ map step_view (drop (i + 1) l)
moves_more l i s lt is = at_drop_more (map step_view) l i s lt ∙ ap (λ x. step_view x ∷ map step_view (drop (i + 1) l)) (sym is)

module _ (g : MixedGraph) (lemmas : List ℕ) where
  -- the moves that are done lead from the first expression to e, and those that are left make of e what all make of the first
  pub record IsLeft (done : List Made) (left : List Plan) (e : Tree) (all : List Plan) (first : Tree) : Type 0 where
    pub terms : are_terms g.vertices e ≡ true
    pub plans : plans_in done ++ left ≡ all
    pub leads : (x : Tree) → MadeInTurn g lemmas all first x
        → MadeInTurn g lemmas left e x × ((more : List Made) → Leads g lemmas e more x → Leads g lemmas first (done ++ more) x)

  pub left_all : (all : List Plan) (first : Tree) → are_terms g.vertices first ≡ true → IsLeft [] all first all first
  left_all all first terms = record { terms = terms; plans = refl; leads = λ x made. (made, λ more l. l) }

  -- what is left can be made, so the first of it too
  pub next_made : (done : List Made) (p : Plan) (left : List Plan) (e : Tree) (all : List Plan) (first : Tree)
      → (x : Tree) × MadeInTurn g lemmas all first x → IsLeft done (p ∷ left) e all first → (x : Tree) × Makes g lemmas p e x
  next_made done p left e all first can is = let a = (is.leads can.0 can.1).0 in (a.0, a.1)

  plans_more : (done : List Made) (m : Made) → plans_in (done ++ (m ∷ [])) ≡ plans_in done ++ (step_view m.step ∷ [])
  plans_more [] m = refl
  plans_more (d ∷ ds) m = ap (λ l. step_view d.step ∷ l) (plans_more ds m)

  pub left_more : IsMixedGraph g → (done : List Made) (p : Plan) (left : List Plan) (e : Tree) (all : List Plan) (first : Tree) (m : Made) (next : Tree)
      → IsLeft done (p ∷ left) e all first → IsMadeOf g lemmas p e m → next ≡ view m.after → IsLeft (done ++ (m ∷ [])) left next all first
  left_more ok done p left e all first m next is made same = record {
    terms = subst (λ z. are_terms g.vertices z ≡ true) (sym same) (step_keeps_terms g ok lemmas p e (view m.after) is.terms made.makes);
    plans = ap (λ l. l ++ left) (plans_more done m) ∙ append_assoc (plans_in done) (step_view m.step ∷ []) left
        ∙ ap (λ q. plans_in done ++ (q ∷ left)) made.step ∙ is.plans;
    leads = λ x h.
        let a = is.leads x h in
        let rest = a.0 in
        let one : rest.0 ≡ next = (steps_are_exact g lemmas p e).one_result rest.0 (view m.after) rest.1 made.makes ∙ sym same in (
          subst (λ z. MadeInTurn g lemmas left z x) one rest.2,
          λ more l. subst (λ ms. Leads g lemmas first ms x) (sym (append_assoc done (m ∷ []) more))
              (a.1 (m ∷ more) (
                record {
                  step = refl;
                  makes = subst (λ q. Makes g lemmas q e (view m.after)) (sym made.step) made.makes;
                  asked = subst (λ q. IsAsked g lemmas q e m.asked) (sym made.step) made.asked;
                },
                subst (λ z. Leads g lemmas z more x) same l,
              )),
        );
  }

  -- no move is left
  pub none_left : (done : List Made) (e : Tree) (all : List Plan) (first : Tree) → IsLeft done [] e all first
      → (plans_in done ≡ all) × ((x : Tree) → MadeInTurn g lemmas all first x → Leads g lemmas first done x)
  none_left done e all first is = (
    sym (append-nil (plans_in done)) ∙ is.plans,
    λ x h. let a = is.leads x h in subst (λ ms. Leads g lemmas first ms x) (append-nil done) (a.1 [] a.0),
  )
