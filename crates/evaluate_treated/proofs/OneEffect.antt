-- Lists name one effect, whose values are had in one way.
use Rattle.std.proofs.Common.{◌≡◌, false, Some, Ok, sym, ap, ◌∙◌, subst}
use Rattle.mixed_graph.specs.Vocabulary.{MixedGraph, graph_of, union}
use Rattle.prob_expr.specs.declared.expr.Formula.{Formula}
use Rattle.prob_expr.specs.Vocabulary.{PlainFormula, formula_view}
use Rattle.identification_theory.specs.Vocabulary as identification
use Rattle.identification_theory.proofs.Answered as answered
use Rattle.targets.specs.declared.query.Sets.{Sets}
use Rattle.targets.specs.Vocabulary.{Lists, AreListedSets}
use Rattle.diagram.specs.declared.diagram.Diagram.{Diagram}
use Rattle.diagram.specs.Vocabulary.{query_lists}
use Rattle.diagram.proofs.OneDiagram.{AreSameDiagrams, same_drawing, same_query_lists}
use Rattle.replies.proofs.OneTarget.{one_set}
use Rattle.treated_command.specs.Requests.{Request}
use Rattle.treated_command.specs.Right.{IsAskedFor, IsForNames, IsForSets, IsOfSets}
use Rattle.treated_command.specs.Vocabulary.{IsTreatedAnswer}
use Rattle.treated_command.specs.declared.answer.Asked.{Asked}
use Rattle.treated_command.specs.declared.answer.Answer.{Answer}
use Rattle.treated_command.specs.declared.answer.Answer.TheVariants as treated
use Rattle.treated_command.proofs.Lawful.{treated_alike}
use Rattle.treated_id.specs.declared.answers.Confounding.{Confounding}
use Rattle.hedge.specs.declared.hedge.Hedge.{Hedge}
use Rattle.counter_models.specs.declared.counter_pair.CounterPair.{CounterPair}
use Rattle.named_factors.specs.Vocabulary.{AreNamedFactors}
use Rattle.paired_values.specs.Vocabulary.{PlainReading, by_factors, by_split}
use Rattle.evaluate_treated.specs.Effects.{IsFoundBy, PlainAmong, Identifies}
use Rattle.evaluate_treated.proofs.OneFormula.{one_formula, one_list, one_names}

-- ---- what is asked for
module _ (g : MixedGraph) (l : Lists) where
  same_sets : (s t : Sets) → AreListedSets l s.x.bits s.y.bits s.given.bits → AreListedSets l t.x.bits t.y.bits t.given.bits → t ≡ s
  same_sets s t n m = λ i. record {
    x = record { bits = one_set l.observed l.x s.x.bits t.x.bits n.set_x m.set_x i };
    y = record { bits = one_set l.observed l.y s.y.bits t.y.bits n.set_y m.set_y i };
    given = record { bits = one_set l.observed l.given s.given.bits t.given.bits n.set_given m.set_given i };
  }

  same_asked : (s : Sets) (a b : Asked) → IsAskedFor g s a → IsAskedFor g s b → b ≡ a
  same_asked s a b h k = λ i. record {
    sets = (k.sets ∙ sym h.sets) i;
    primes = record { bits = one_names g.vertices s.x.bits s.x.bits s.x.bits b.primes.bits a.primes.bits k.primes h.primes i };
  }

  -- an answer for other sets that lists name is one for these
  moved : (a b : Answer) (p : IsOfSets l (λ s. IsForSets false g s a)) → IsOfSets l (λ s. IsForSets false g s b) → IsForSets false g p.sets b
  moved a b p r = subst (λ (t : Sets). IsForSets false g t b) (same_sets p.sets r.sets p.named r.named) r.is

  one_by_formula : (a b : Asked) (f h : Formula) → IsOfSets l (λ s. IsForSets false g s (treated.Formula a f))
      → IsOfSets l (λ s. IsForSets false g s (treated.Formula b h)) → (b ≡ a) × (formula_view h ≡ formula_view f)
  one_by_formula a b f h p r =
      let s = p.sets in let k = moved (treated.Formula a f) (treated.Formula b h) p r in (
        same_asked s a b p.is.decided.0 k.decided.0,
        one_formula g s.x.bits s.y.bits s.given.bits (formula_view h) (formula_view f) k.decided.1.formula p.is.decided.1.formula,
      )

  pub one_by_path : (a b : Asked) (c e : Confounding) → IsOfSets l (λ s. IsForSets false g s (treated.Unfixed a c))
      → IsOfSets l (λ s. IsForSets false g s (treated.Unfixed b e)) → b ≡ a
  one_by_path a b c e p r = same_asked p.sets a b p.is.decided.0 (moved (treated.Unfixed a c) (treated.Unfixed b e) p r).decided.0

  -- a path that excludes a hedge, and a hedge
  pub path_or_hedge : (a b : Asked) (c e : Confounding) (h : Hedge) (pair : CounterPair) → IsOfSets l (λ s. IsForSets false g s (treated.Unfixed a c))
      → IsOfSets l (λ s. IsForSets false g s (treated.Excluded b e h pair)) → ⊥
  path_or_hedge a b c e h pair p r =
      p.is.decided.1.no_hedge h (moved (treated.Unfixed a c) (treated.Excluded b e h pair) p r).decided.1.found.evidence

-- an answer on a diagram is one on one that is the same
pub on_same : (d e : Diagram) → AreSameDiagrams d e → (q : Request) (a : Answer) → IsTreatedAnswer false e q.x q.y q.given (Ok a)
    → IsTreatedAnswer false d q.x q.y q.given (Ok a)
on_same d e s q a h =
    subst (λ (l : Lists). IsForNames false (graph_of d.observed.graph) l (Ok a)) (same_query_lists q.x q.y (Some q.given) d e s)
    (subst (λ (g : MixedGraph). IsForNames false g (query_lists e.read e.observed.names q.x q.y (Some q.given)) (Ok a)) (sym (same_drawing d e s)) h)

-- ---- the effect
module _ (d e : Diagram) (s : AreSameDiagrams d e) (q : Request) (a b : PlainAmong) (graphs : b.graph ≡ a.graph) where
  abbrev l : Lists
  l = query_lists d.read d.observed.names q.x q.y (Some q.given)

  abbrev g : MixedGraph
  g = graph_of d.observed.graph

  -- an answer with a formula, and one without
  formula_or_path : (f : Formula) (c : Confounding) → IsTreatedAnswer false d q.x q.y q.given (Ok (treated.Formula a.asked f))
      → IsTreatedAnswer false e q.x q.y q.given (Ok (treated.Unfixed b.asked c)) → ⊥
  formula_or_path f c h k = cc (treated_alike false false d e s q.x q.y q.given (Ok (treated.Formula a.asked f)) (Ok (treated.Unfixed b.asked c)) h k)

  path_or_formula : (c : Confounding) (f : Formula) → IsTreatedAnswer false d q.x q.y q.given (Ok (treated.Unfixed a.asked c))
      → IsTreatedAnswer false e q.x q.y q.given (Ok (treated.Formula b.asked f)) → ⊥
  path_or_formula c f h k = cc (treated_alike false false d e s q.x q.y q.given (Ok (treated.Unfixed a.asked c)) (Ok (treated.Formula b.asked f)) h k)

  one_reading : (r u : PlainReading) → IsFoundBy d q a r → IsFoundBy e q b u → (b.asked ≡ a.asked) × (u ≡ r)
  one_reading (by_factors f) (by_factors k) i j =
      let both = one_by_formula g l a.asked b.asked i.formula j.formula i.answered (on_same d e s q (treated.Formula b.asked j.formula) j.answered) in (
        both.0,
        ap by_factors (one_list a.graph.vertices a.asked.sets.x.bits (formula_view i.formula).main k f
            (subst (λ (h : PlainFormula). AreNamedFactors a.graph.vertices a.asked.sets.x.bits h.main k) both.1
            (subst (λ (h : Asked). AreNamedFactors a.graph.vertices h.sets.x.bits (formula_view j.formula).main k) both.0
            (subst (λ (h : MixedGraph). AreNamedFactors h.vertices b.asked.sets.x.bits (formula_view j.formula).main k) graphs j.factors)))
            i.factors),
      )
  one_reading (by_split joint) (by_split other) i j =
      let same = one_by_path g l a.asked b.asked i.path j.path i.answered (on_same d e s q (treated.Unfixed b.asked j.path) j.answered) in (
        same,
        ap by_split (answered.one_formula a.graph a.asked.sets.x.bits (union a.asked.sets.y.bits a.asked.sets.given.bits) other joint
            (subst (λ (h : Asked). identification.IsIdentified a.graph h.sets.x.bits (union h.sets.y.bits h.sets.given.bits) other) same
            (subst (λ (h : MixedGraph). identification.IsIdentified h b.asked.sets.x.bits (union b.asked.sets.y.bits b.asked.sets.given.bits) other) graphs j.formula))
            i.formula),
      )
  one_reading (by_factors f) (by_split other) i j = absurd (formula_or_path i.formula j.path i.answered j.answered)
  one_reading (by_split joint) (by_factors k) i j = absurd (path_or_formula i.path j.formula i.answered j.answered)

-- an effect of a request is one on diagrams that are the same
pub same_effect : (d e : Diagram) → AreSameDiagrams d e → (q : Request) (a b : PlainAmong) → Identifies d q a → Identifies e q b → b ≡ a
same_effect d e s q a b i j =
    let names : b.names ≡ a.names = j.names ∙ s.observed.names ∙ sym i.names in
    let graphs : b.graph ≡ a.graph = j.graph ∙ sym (same_drawing d e s) ∙ sym i.graph in
    let both = one_reading d e s q a b graphs a.reading b.reading i.found j.found in
    λ k. record { names = names k; graph = graphs k; asked = both.0 k; reading = both.1 k }
