-- From the answer of `natural` to an effect that is identified.
use Rattle.std.proofs.Common.{◌≡◌, ◌<◌, ◌≤◌, ℕ, Bool, true, false, List, [], ◌∷◌, Ok, map, sym, ap, subst, ◌∙◌, not, ◌&&◌, arith}
use Rattle.mixed_graph.specs.Vocabulary.{has, MixedGraph, IsMixedGraph, IsAncestor, graph_of, union}
use Rattle.mixed_graph.proofs.MaskLaws.{has_minus}
use Rattle.do_rules.specs.Vocabulary.{AreFourSets}
use Rattle.prob_expr.specs.Mentioned.{mentioned}
use Rattle.treated_models.specs.Vocabulary.{name_count}
use Rattle.targets.proofs.Effects.{query_outcome}
use Rattle.diagram.specs.declared.diagram.Diagram.{Diagram}
use Rattle.natural_id.specs.declared.answers.NaturalFormula.{NaturalFormula}
use Rattle.natural_id.specs.Vocabulary.{AreFoundParts, EqualsNatural, IsFormulaByParts, IsNaturalTarget, PlainPart, parts_view}
use Rattle.natural_id.proofs.Districts.{d_low}
use Rattle.natural_command.specs.Requests.{Request}
use Rattle.natural_command.specs.declared.asking.Question.{Question}
use Rattle.natural_command.specs.declared.answer.Asked.{Asked}
use Rattle.natural_command.specs.declared.answer.Answer.TheVariants as natural
use Rattle.natural_command.specs.Vocabulary.{IsNaturalAnswer, natural_lists}
use Rattle.natural_command.proofs.Naming.{four_sets}
use Rattle.natural_command.proofs.Ways.{target_of}
use Rattle.factor_values.specs.Vocabulary.{PlainFactors, factors_view}
use Rattle.natural_values.specs.Factors.{factor_of_part}
use Rattle.natural_values.specs.Vocabulary.{mentioned_in_factors, natural_factors}
use Rattle.evaluate_command.proofs.Mentions.{in_either, in_none, mentioned_only}
use Rattle.evaluate_natural.specs.Effects.{PlainNested, nested_in, IsIdentified, Identifies}
use Rattle.evaluate_natural.specs.declared.identified.Identified.{Identified}

-- the vertices that the factors of found parts name are vertices of the graph
named_low : (g : MixedGraph) (x k : ℕ) (ps : List PlainPart) → AreFoundParts g x k ps → (v : ℕ) → has (mentioned_in_factors (map factor_of_part ps)) v ≡ true
    → v < g.vertices
named_low g x k [] h v e = in_none (v < g.vertices) v e
named_low g x k (p ∷ ps) h v e =
    in_either (v < g.vertices) (mentioned p.formula) (mentioned_in_factors (map factor_of_part ps)) v
    (λ i. (mentioned_only (IsAncestor g (has p.district)) p.formula h.0.names v i).vertex) (named_low g x k ps h.1 v) e

module _ (g : MixedGraph) (ok : IsMixedGraph g) (q : Question) (sets : AreFourSets g.vertices (has q.x.bits) (has q.y.bits) (has q.through.bits) (has q.given.bits))
    (target : IsNaturalTarget g q.x.bits q.through.bits q.y.bits q.given.bits) (summed : ℕ) (ps : List PlainPart)
    (found : IsFormulaByParts g q.x.bits q.through.bits q.y.bits q.given.bits summed ps) where
  summed_low : (v : ℕ) → has summed v ≡ true → v < g.vertices
  summed_low v e = d_low g ok q.x.bits q.through.bits q.y.bits q.given.bits found.d target found.ancestors v
      (first (has found.d v) (has (union q.y.bits q.given.bits) v)
      (sym (has_minus found.d (union q.y.bits q.given.bits) v) ∙ subst (λ u. has u v ≡ true) found.sum e))
    where
      first : (a b : Bool) → (a && not b) ≡ true → a ≡ true
      first a b h = grind (arith, h)

  -- what is read are vertices of the graph
  read_low : (v : ℕ) → has (union (mentioned_in_factors (map factor_of_part ps)) (union (union summed q.given.bits) (union q.x.bits (union q.y.bits q.given.bits)))) v ≡ true
      → v < g.vertices
  read_low v e =
      let P = v < g.vertices in
      in_either P (mentioned_in_factors (map factor_of_part ps)) (union (union summed q.given.bits) (union q.x.bits (union q.y.bits q.given.bits))) v
      (named_low g q.x.bits found.through ps found.parts v)
      (in_either P (union summed q.given.bits) (union q.x.bits (union q.y.bits q.given.bits)) v
      (in_either P summed q.given.bits v (summed_low v) (sets.w_within v))
      (in_either P q.x.bits (union q.y.bits q.given.bits) v (sets.x_within v)
      (in_either P q.y.bits q.given.bits v (sets.y_within v) (sets.w_within v)))) e

-- an effect that has the sets of a question
effect_of : List (List ℕ) → MixedGraph → Asked → PlainFactors → PlainNested
effect_of names g a e = record { names = names; graph = g; asked = a; factors = e }

-- the effect is identified
module _ (d : Diagram) (q : Request) (asked : Asked) (formula : NaturalFormula) (i : Identified) (same : i.asked ≡ asked)
    (made : factors_view i.factors ≡ natural_factors formula.summed.bits asked.question.given.bits (parts_view formula.parts.items))
    (h : IsNaturalAnswer false d q.x q.y q.through q.given (Ok (natural.Formula asked formula))) where
  abbrev g : MixedGraph
  g = graph_of d.observed.graph

  abbrev ps : List PlainPart
  ps = parts_view formula.parts.items

  ask : Question
  ask = h.question

  is_asked : asked.question ≡ h.question
  is_asked = h.is.decided.0.question

  asked_sets : AreFourSets g.vertices (has h.question.x.bits) (has h.question.y.bits) (has h.question.through.bits) (has h.question.given.bits)
  asked_sets = four_sets (natural_lists d q.x q.y q.through q.given) h.question h.named g.vertices d.observed.sized

  target : IsNaturalTarget g h.question.x.bits h.question.through.bits h.question.y.bits h.question.given.bits
  target = target_of g h.question asked_sets h.is.before

  -- what holds of the question holds of what is asked for
  by_question : (P : Question → Type 0) → P h.question → P i.asked.question
  by_question P k = subst (λ (a : Asked). P a.question) (sym same) (subst P (sym is_asked) k)

  factors_are : factors_view i.factors ≡ natural_factors formula.summed.bits i.asked.question.given.bits ps
  factors_are = made ∙ ap (λ (a : Asked). natural_factors formula.summed.bits a.question.given.bits ps) (sym same)

  pub identified : IsIdentified (nested_in d.observed i)
  identified = record {
    named = d.observed.sized;
    few = by_question (λ k. name_count g.vertices k.x.bits ≤ 64) h.is.few;
    graph = d.observed.graph.valid;
    sets = by_question (λ k. AreFourSets g.vertices (has k.x.bits) (has k.y.bits) (has k.through.bits) (has k.given.bits)) asked_sets;
    some = by_question (λ k. 0 < k.y.bits) (query_outcome _ h.question.x.bits h.question.y.bits h.question.given.bits h.named.query);
    factors = record {
      target = by_question (λ k. IsNaturalTarget g k.x.bits k.through.bits k.y.bits k.given.bits) target;
      summed = formula.summed.bits;
      parts = ps;
      found = by_question (λ k. IsFormulaByParts g k.x.bits k.through.bits k.y.bits k.given.bits formula.summed.bits ps) h.is.decided.1.found;
      equals = by_question (λ k. EqualsNatural g k.x.bits k.through.bits k.y.bits k.given.bits formula.summed.bits ps) h.is.decided.1.equals;
      factors = factors_are;
    };
    read = subst (λ (e : PlainFactors). (v : ℕ) → has (union (mentioned_in_factors e.factors) (union (union e.summed e.given)
        (union i.asked.question.x.bits (union i.asked.question.y.bits i.asked.question.given.bits)))) v ≡ true → v < g.vertices) (sym factors_are)
        (by_question (λ k. (v : ℕ) → has (union (mentioned_in_factors (map factor_of_part ps)) (union (union formula.summed.bits k.given.bits)
        (union k.x.bits (union k.y.bits k.given.bits)))) v ≡ true → v < g.vertices)
        (read_low g d.observed.graph.valid h.question asked_sets target formula.summed.bits ps h.is.decided.1.found));
  }

  pub identifies : Identifies d q (nested_in d.observed i)
  identifies = record {
    names = λ j. d.observed.names;
    graph = λ j. g;
    identified = identified;
    found = record {
      formula = formula;
      answered = subst (λ (a : Asked). IsNaturalAnswer false d q.x q.y q.through q.given (Ok (natural.Formula a formula))) (sym same) h;
      factors = factors_are;
    };
  }
