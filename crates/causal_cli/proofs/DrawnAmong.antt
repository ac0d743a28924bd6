-- What is told of effects among the treated over counts, in the diagram as drawn.
use Rattle.std.proofs.Common.{◌≡◌, ◌⊎◌, ℕ, Bool, true, false, List, Result, Ok, Err, inl, inr, ap, sym, ◌∙◌, subst, arith}
use Rattle.std.specs.Prelude.{All, IfSome, codes}
use Rattle.std.specs.Io.KnownBytes.{Appends}
use Rattle.std.proofs.lemmas.Bool.{false≢true}
use Rattle.std.proofs.lemmas.List.Elements.{All-weaker}
use Rattle.mixed_graph.specs.Vocabulary.{has, IsMixedGraph, graph_of}
use Rattle.fractions.specs.Vocabulary.{Fraction, IsEqual}
use Rattle.command_words.specs.Vocabulary.{Text, Use, has_flag}
use Rattle.replies.specs.declared.outcome.Outcome.TheVariants.{Yes, No}
use Rattle.replies.specs.Vocabulary.{code_of}
use Rattle.replies.specs.Told.{Told}
use Rattle.told.specs.Vocabulary.{Tells, outcome_in}
use Rattle.diagram.specs.declared.diagram.Diagram.{Diagram}
use Rattle.diagram.specs.Vocabulary.{IsObservedGraph}
use Rattle.diagram.proofs.ObservedParts.{part_of}
use Rattle.dag_reader.specs.declared.graph.ReadGraph.{ReadGraph}
use Rattle.quantity.specs.Vocabulary.{exact_lawful, bounds_lawful}
use Rattle.differences.specs.Laws.Exact.{exact_difference_lawful}
use Rattle.differences.specs.Laws.Interval.{bounds_difference_lawful}
use Rattle.quantity.specs.Kinds.{Pair}
use Rattle.count_rows.specs.Vocabulary.{Table}
use Rattle.count_table.specs.Cells as cells
use Rattle.count_eval.specs.Vocabulary.{weights_in, is_used, cell_of}
use Rattle.hidden_models.proofs.Drawn.{matched_folded}
use Rattle.treated_models.proofs.NoFormula.{among}
use Rattle.treated_drawn.specs.Drawn.{drawn_among}
use Rattle.treated_drawn.proofs.Both.{each_has_both_folded}
use Rattle.treated_drawn.proofs.Among.{one_effect, positive}
use Rattle.treated_command.specs.Vocabulary.{treated_refusal, treated_telling}
use Rattle.treated_command.specs.declared.answer.Asked.{Asked}
use Rattle.treated_command.specs.declared.answer.Answer.{Answer as TreatedAnswer}
use Rattle.treated_command.specs.declared.answer.Answer.TheVariants as treated
use Rattle.treated_command.specs.declared.fault.TreatedFault.{TreatedFault}
use Rattle.evaluate_command.specs.Vocabulary.{CellValue, values_refusal}
use Rattle.evaluate_command.specs.declared.answer.Values.{Values}
use Rattle.evaluate_treated.specs.Effects.{IsByPath, IsFoundBy, PlainAmong, Identifies}
use Rattle.evaluate_treated.specs.First.{HasNoFormula, IsForDiagram}
use Rattle.evaluate_treated.specs.Requests as among_requests
use Rattle.evaluate_treated.specs.Right.{CoversAmong, HasMoreLevels, IsForCounts, NoModelHas, shown_in}
use Rattle.evaluate_treated.specs.Vocabulary.{among_telling}
use Rattle.evaluate_treated.specs.declared.answer.Answer.{Answer}
use Rattle.evaluate_treated.specs.declared.answer.Answer.TheVariants as answers
use Rattle.paired_values.specs.Vocabulary.{PlainReading, are_exact, by_factors, by_split, plain_values}
use Rattle.command_choice.specs.Choice as choice
use Rattle.command_run.specs.Vocabulary.{HoldsAnswer, DefinedWith, of}
use Rattle.causal_cli.specs.AsDrawn.{AreAmongAsDrawn, CoversAmongAsDrawn, EachCoversAmongAsDrawn, IsTreatedAsDrawn, NoModelHasAsDrawn}
use Rattle.causal_cli.specs.Calls.{Call, WrittenFor, WrittenForBoth}
use Rattle.causal_cli.specs.Commands.{commands}
use Rattle.causal_cli.specs.declared.commands.Command.TheVariants.{Evaluate}
use Rattle.causal_cli.specs.Drawn.{IsEvaluatedAmong, IsUnevaluatedAmong}
use Rattle.causal_cli.proofs.AsDrawn.{treats}
use Rattle.causal_cli.proofs.CallAnswers.{CallAnswer, on_words, on_file, on_both, on_held, under_name, under_names}
use Rattle.causal_cli.proofs.Refused.{treated_refused, values_refused}
use Rattle.causal_cli.proofs.ToldAnswers.{answered, answered_on_both}

-- ---- what values cover

-- the fractions that a quantity stands for are as many as are equal
shown_equal : (is_exact : Bool) (r : PlainReading) (n : Pair) (f h : Fraction) → shown_in is_exact r n f → IsEqual f h → shown_in is_exact r n h
shown_equal true (by_factors k) = exact_lawful.keeps.equal
shown_equal false (by_factors k) = bounds_lawful.keeps.equal
shown_equal true (by_split joint) = exact_difference_lawful.equal
shown_equal false (by_split joint) = bounds_difference_lawful.equal

module _ (g : ReadGraph) (e : PlainAmong) (is : IsObservedGraph g e.graph) (t : Table) where
  -- what covers the effect in each model of the observed graph that the counts match covers it in the diagram as drawn
  covers_as_drawn : (covers : Pair → Fraction → Type 0) → ((n : Pair) (f h : Fraction) → covers n f → IsEqual f h → covers n h)
      → (v : CellValue) → CoversAmong covers e t v → CoversAmongAsDrawn covers g e t v
  covers_as_drawn covers equal v h m fit observed matched hs =
      let l = has g.latent.bits in let x = e.asked.sets.x.bits in let y = e.asked.sets.y.bits in let z = e.asked.sets.given.bits in
      let c = cell_of v.cell in
      let f = each_has_both_folded (graph_of g.graph) g.graph.valid l e.graph is m fit in
      let match = matched_folded (graph_of g.graph) g.graph.valid l e.graph is m f.folded fit f.fits f.folds.folds (is_used t) (weights_in e.graph.vertices t)
      (cells.total t.rows) matched in
      equal v.quantity (among f.folded x y z c) (drawn_among l m x y z c)
      (h f.folded f.fits (positive (graph_of g.graph) g.graph.valid l e.graph is m f.folded fit f.fits f.folds x observed) match)
      (one_effect (graph_of g.graph) g.graph.valid l e.graph is m f.folded fit f.fits f.folds x observed y z c hs)

  -- counts that no model of the observed graph has, none of the diagram as drawn has
  none_as_drawn : NoModelHas e.graph t → NoModelHasAsDrawn g e t
  none_as_drawn h m fit observed matched =
      let l = has g.latent.bits in
      let f = each_has_both_folded (graph_of g.graph) g.graph.valid l e.graph is m fit in
      h f.folded f.fits (positive (graph_of g.graph) g.graph.valid l e.graph is m f.folded fit f.fits f.folds e.asked.sets.x.bits observed)
      (matched_folded (graph_of g.graph) g.graph.valid l e.graph is m f.folded fit f.fits f.folds.folds (is_used t) (weights_in e.graph.vertices t)
      (cells.total t.rows) matched)

  -- each value is so, in either kind of quantity
  each_covers : (is_exact : Bool) (values : Values) → are_exact values ≡ is_exact
      → All (CoversAmong (shown_in is_exact e.reading) e t) (plain_values values) → EachCoversAmongAsDrawn g e t values
  each_covers is_exact values same all =
      let k = are_exact values in
      All-weaker (CoversAmong (shown_in k e.reading) e t) (CoversAmongAsDrawn (shown_in k e.reading) g e t)
      (λ v c. covers_as_drawn (shown_in k e.reading) (shown_equal k e.reading) v c) (plain_values values)
      (subst (λ b. All (CoversAmong (shown_in b e.reading) e t) (plain_values values)) (sym same) all)

-- the answer by a path is so as drawn, as that of `treated` is
path_drawn : (q : among_requests.Request) (d : Diagram) (e : PlainAmong) (t : Table) (r : PlainReading) → IsFoundBy d q.effect e r
    → HasMoreLevels e.asked.sets.x.bits t r → (a : TreatedAnswer) → IsByPath e.graph e.asked a → IsTreatedAsDrawn d a
path_drawn q d e t (by_factors f) found more a is = absurd more
path_drawn q d e t (by_split joint) found more (treated.Unfixed a c) is =
    subst (λ (k : Asked). IsTreatedAsDrawn d (treated.Unfixed k c)) (sym is.0)
    (treats false q.effect.x q.effect.y q.effect.given d (treated.Unfixed e.asked found.path) found.answered)
path_drawn q d e t (by_split joint) found more (treated.Formula a f) is = absurd is
path_drawn q d e t (by_split joint) found more (treated.Certified a c) is = absurd is
path_drawn q d e t (by_split joint) found more (treated.Excluded a c h pair) is = absurd is

-- a right answer over counts
among_drawn : (q : among_requests.Request) (other : List ℕ) (d : Diagram) (e : PlainAmong) (a : Answer) → Identifies d q.effect e
    → IsForCounts q.exact e q.count other (Ok a) → AreAmongAsDrawn d e a
among_drawn q other d e (answers.Values a) identifies h =
    subst (λ (t : Table). EachCoversAmongAsDrawn d.read e t a.values) (sym h.answer.table)
    (each_covers d.read e (subst (IsObservedGraph d.read) (sym identifies.graph) (part_of d).graph) h.table q.exact a.values h.answer.values.kind h.answer.effects)
among_drawn q other d e (answers.NoModel a) identifies h =
    subst (λ (t : Table). NoModelHasAsDrawn d.read e t) (sym h.answer.table)
    (none_as_drawn d.read e (subst (IsObservedGraph d.read) (sym identifies.graph) (part_of d).graph) h.table h.answer.none)
among_drawn q other d e (answers.Path a) identifies h = path_drawn q d e h.table e.reading identifies.found h.answer.1 a.now h.answer.0

-- ---- a yes is given over counts
module _ (r : Call) (uses : List Use) (code : ℕ) (text : Told) (is_treated : has_flag uses (codes "treated") ≡ true) (status : code ≡ 0)
    (whole : Appends r.before r.after text.text) where
  no_values_alone : (k : Result TreatedAnswer TreatedFault) → HasNoFormula k → Yes ≡ outcome_in treated_telling treated_refusal k → ⊥
  no_values_alone (Ok (treated.Formula a f)) h e = h
  no_values_alone (Ok (treated.Certified a c)) h e = h
  no_values_alone (Ok (treated.Excluded a c h pair)) none e = let c : 0 ≡ 1 = ap code_of e in omega (arith, c)
  no_values_alone (Ok (treated.Unfixed a c)) none e = let c : 0 ≡ 1 = ap code_of e in omega (arith, c)
  no_values_alone (Err fault) none e = let c : 0 ≡ 3 = ap code_of e in omega (arith, c)

  pub evaluated_among : CallAnswer r Evaluate uses Yes text
      → WrittenForBoth among_requests.IsRequest (λ q. q.effect.file) (λ q. q.counts) (λ q bytes other. IsEvaluatedAmong q bytes other code) r uses
  evaluated_among (on_words (choice.first q) is h) = absurd h
  evaluated_among (on_words (choice.second (choice.first q)) is h) = absurd h
  evaluated_among (on_words (choice.second (choice.second q)) is h) = absurd h
  evaluated_among (on_file (choice.first q) is file names h) = absurd (false≢true (sym is.plain.treated ∙ is_treated))
  evaluated_among (on_both (choice.first q) is file second names names_second other all h) = absurd (false≢true (sym is.plain.treated ∙ is_treated))
  evaluated_among (on_file (choice.second (choice.second q)) is file names h) = absurd (false≢true (sym is.alone.treated ∙ is_treated))
  evaluated_among (on_file (choice.second (choice.first q)) is file names h) = record {
    request = q;
    told = text;
    asks = is;
    right = under_name r.held q.effect.file file (λ bytes. HoldsAnswer commands (of Evaluate (choice.second (choice.first q))) bytes Yes text)
        (λ bytes. IfSome (r.held_second q.counts) (λ other. IsEvaluatedAmong q bytes other code text))
        (λ bytes b. absurd (no_values_alone b.answer.answer b.answer.right.1 b.answer.ends)) names h;
    whole = whole;
  }
  evaluated_among (on_both (choice.second (choice.second q)) is file second names names_second other all h) = absurd (false≢true (sym is.alone.treated ∙ is_treated))
  evaluated_among (on_both (choice.second (choice.first q)) is file second names names_second other all h) = record {
    request = q;
    told = text;
    asks = is;
    right = under_names r.held r.held_second q.effect.file file q.counts second
        (λ bytes other. DefinedWith commands (of Evaluate (choice.second (choice.first q))) bytes other Yes text) (λ bytes other. IsEvaluatedAmong q bytes other code text)
        (λ bytes other d. answered_on_both among_telling values_refusal values_refused q.effect.form bytes code Yes text status
        (omega (arith, status)) other (λ d. Identifies d q.effect) (λ d e. IsForCounts q.exact e q.count) AreAmongAsDrawn
        (λ d e a identifies h. among_drawn q other d e a identifies h) d.0 d.1 d.3.0 d.3.1
        (subst (λ (names : List (List ℕ)). Tells among_telling values_refusal (IsForCounts q.exact d.3.0 q.count other) q.effect.form names Yes text)
        d.3.1.names d.3.2)) names names_second (on_held r (of Evaluate (choice.second (choice.first q))) Yes text file second other all h);
    whole = whole;
  }

-- ---- a no is given on the diagram alone, or over counts
module _ (r : Call) (uses : List Use) (code : ℕ) (text : Told) (is_treated : has_flag uses (codes "treated") ≡ true) (status : code ≡ 1)
    (whole : Appends r.before r.after text.text) where
  abbrev IsNo : Type 0
  IsNo = WrittenFor among_requests.IsRequest (λ q. q.effect.file) (λ q bytes. IsUnevaluatedAmong q bytes code) r uses
      ⊎ WrittenForBoth among_requests.IsRequest (λ q. q.effect.file) (λ q. q.counts) (λ q bytes other. IsEvaluatedAmong q bytes other code) r uses

  pub unevaluated_among : CallAnswer r Evaluate uses No text → IsNo
  unevaluated_among (on_words (choice.first q) is h) = absurd h
  unevaluated_among (on_words (choice.second (choice.first q)) is h) = absurd h
  unevaluated_among (on_words (choice.second (choice.second q)) is h) = absurd h
  unevaluated_among (on_file (choice.first q) is file names h) = absurd (false≢true (sym is.plain.treated ∙ is_treated))
  unevaluated_among (on_both (choice.first q) is file second names names_second other all h) = absurd (false≢true (sym is.plain.treated ∙ is_treated))
  unevaluated_among (on_file (choice.second (choice.second q)) is file names h) = absurd (false≢true (sym is.alone.treated ∙ is_treated))
  unevaluated_among (on_file (choice.second (choice.first q)) is file names h) = inl (record {
    request = q;
    told = text;
    asks = is;
    right = under_name r.held q.effect.file file (λ bytes. HoldsAnswer commands (of Evaluate (choice.second (choice.first q))) bytes No text)
        (λ bytes. IsUnevaluatedAmong q bytes code text)
        (λ bytes b. answered treated_telling treated_refusal treated_refused q.effect.form bytes code No text status (omega (arith, status))
        (λ d. IsForDiagram d q.effect) IsTreatedAsDrawn (λ d a h. treats false q.effect.x q.effect.y q.effect.given d a h.0) b.diagram b.holds b.answer) names h;
    whole = whole;
  })
  unevaluated_among (on_both (choice.second (choice.second q)) is file second names names_second other all h) = absurd (false≢true (sym is.alone.treated ∙ is_treated))
  unevaluated_among (on_both (choice.second (choice.first q)) is file second names names_second other all h) = inr (record {
    request = q;
    told = text;
    asks = is;
    right = under_names r.held r.held_second q.effect.file file q.counts second
        (λ bytes other. DefinedWith commands (of Evaluate (choice.second (choice.first q))) bytes other No text) (λ bytes other. IsEvaluatedAmong q bytes other code text)
        (λ bytes other d. answered_on_both among_telling values_refusal values_refused q.effect.form bytes code No text status
        (omega (arith, status)) other (λ d. Identifies d q.effect) (λ d e. IsForCounts q.exact e q.count) AreAmongAsDrawn
        (λ d e a identifies h. among_drawn q other d e a identifies h) d.0 d.1 d.3.0 d.3.1
        (subst (λ (names : List (List ℕ)). Tells among_telling values_refusal (IsForCounts q.exact d.3.0 q.count other) q.effect.form names No text)
        d.3.1.names d.3.2)) names names_second (on_held r (of Evaluate (choice.second (choice.first q))) No text file second other all h);
    whole = whole;
  })
