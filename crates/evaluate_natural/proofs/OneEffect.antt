-- Lists name one nested effect with one formula, and bytes are the text of one table.
use Rattle.std.proofs.Common.{◌≡◌, ℕ, Bool, true, false, List, Ok, refl, sym, ap, ◌∙◌, subst}
use Rattle.mixed_graph.specs.declared.sets.VSet.{VSet}
use Rattle.mixed_graph.specs.Vocabulary.{MixedGraph, graph_of}
use Rattle.identification_theory.proofs.Unique.{one_set}
use Rattle.diagram.specs.declared.diagram.Diagram.{Diagram}
use Rattle.diagram.proofs.OneDiagram.{AreSameDiagrams, same_drawing}
use Rattle.factor_values.specs.Vocabulary.{PlainFactors}
use Rattle.natural_id.specs.Vocabulary.{IsFormulaByParts, parts_view}
use Rattle.natural_id.proofs.One.{one_formula_by_parts}
use Rattle.natural_command.specs.Requests.{Request}
use Rattle.natural_command.specs.declared.asking.Question.{Question}
use Rattle.natural_command.specs.declared.answer.Asked.{Asked}
use Rattle.natural_command.specs.declared.answer.Answer.TheVariants as natural
use Rattle.natural_command.specs.Asking.{natural_lists}
use Rattle.natural_command.specs.Vocabulary.{IsAskedFor}
use Rattle.natural_command.proofs.Lawful.{one_question, same_answer}
use Rattle.natural_values.specs.Vocabulary.{natural_factors}
use Rattle.evaluate_natural.specs.Effects.{PlainNested, Identifies, IsFound}

vertex_set : (a b : VSet) → b.bits ≡ a.bits → b ≡ a
vertex_set a b e = λ i. record { bits = e i }

-- two flags that are true, or false, of the same
one_flag : (P : Type 0) (a b : Bool) → (a ≡ true → P → ⊥) → (a ≡ false → P) → (b ≡ true → P → ⊥) → (b ≡ false → P) → b ≡ a
one_flag P true true h i j k = refl
one_flag P false false h i j k = refl
one_flag P true false h i j k = absurd (h refl (k refl))
one_flag P false true h i j k = absurd (j refl (i refl))

-- a question is asked in one way
one_asked : (g : MixedGraph) (q : Question) (a b : Asked) → IsAskedFor g q a → IsAskedFor g q b → b ≡ a
one_asked g q a b x y = λ i. record {
  question = (y.question ∙ sym x.question) i;
  primes = vertex_set a.primes b.primes (one_set b.primes.bits a.primes.bits _ y.primes x.primes) i;
  indirect = one_flag _ a.indirect b.indirect x.some_indirect x.no_indirect y.some_indirect y.no_indirect i;
  direct = one_flag _ a.direct b.direct x.some_direct x.no_direct y.some_direct y.no_direct i;
}

abbrev effect_for : List (List ℕ) → MixedGraph → Asked → PlainFactors → PlainNested
effect_for names g a e = record { names = names; graph = g; asked = a; factors = e }

-- and has one formula
module _ (q : Request) (d : Diagram) (e f : PlainNested) (a : IsFound d q e) (b : IsFound d q f) where
  abbrev g : MixedGraph
  g = graph_of d.observed.graph

  same_question : b.answered.question ≡ a.answered.question
  same_question = one_question g (natural_lists d q.x q.y q.through q.given) a.answered.question b.answered.question a.answered.named b.answered.named

  asked_again : IsAskedFor g a.answered.question f.asked
  asked_again = subst (λ k. IsAskedFor g k f.asked) same_question b.answered.is.decided.0

  pub same_asked : f.asked ≡ e.asked
  same_asked = one_asked g a.answered.question e.asked f.asked a.answered.is.decided.0 asked_again

  same_formula : (b.formula.summed.bits ≡ a.formula.summed.bits) × (parts_view b.formula.parts.items ≡ parts_view a.formula.parts.items)
  same_formula =
      let k = a.answered.question in
      one_formula_by_parts g k.x.bits k.through.bits k.y.bits k.given.bits b.formula.summed.bits a.formula.summed.bits
      (parts_view b.formula.parts.items) (parts_view a.formula.parts.items)
      (subst (λ (r : Question). IsFormulaByParts g r.x.bits r.through.bits r.y.bits r.given.bits b.formula.summed.bits
      (parts_view b.formula.parts.items)) same_question b.answered.is.decided.1.found)
      a.answered.is.decided.1.found

  pub same_factors : f.factors ≡ e.factors
  same_factors =
      let given : f.asked.question.given.bits ≡ e.asked.question.given.bits = ap (λ (k : Asked). k.question.given.bits) same_asked in
      b.factors
      ∙ ap (λ u. natural_factors u f.asked.question.given.bits (parts_view b.formula.parts.items)) same_formula.0
      ∙ ap (λ z. natural_factors a.formula.summed.bits z (parts_view b.formula.parts.items)) given
      ∙ ap (natural_factors a.formula.summed.bits e.asked.question.given.bits) same_formula.1
      ∙ sym a.factors

pub same_effect : (q : Request) (d d' : Diagram) → AreSameDiagrams d d' → (e f : PlainNested) → Identifies d q e → Identifies d' q f → f ≡ e
same_effect q d d' s e f a i =
    let ns : f.names ≡ e.names = i.names ∙ s.observed.names ∙ sym a.names in
    let gs : f.graph ≡ e.graph = i.graph ∙ sym (same_drawing d d' s) ∙ sym a.graph in
    let found : IsFound d q f = record {
      formula = i.found.formula;
      answered = same_answer false q.x q.y q.through q.given d d' s (Ok (natural.Formula f.asked i.found.formula)) i.found.answered;
      factors = i.found.factors;
    } in
    let asked_same = same_asked q d e f a.found found in
    let fs = same_factors q d e f a.found found in
    λ j. effect_for (ns j) (gs j) (asked_same j) (fs j)
