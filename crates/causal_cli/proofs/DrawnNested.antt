-- What is told of nested effects over counts, in the diagram as drawn.
use Rattle.std.proofs.Common.{◌≡◌, ℕ, ◌<◌, ◌≤◌, Bool, true, false, List, Option, Some, Result, Ok, Err, ap, sym, ◌∙◌, subst, arith}
use Rattle.std.specs.Prelude.{All, IfSome, codes}
use Rattle.std.specs.Io.KnownBytes.{Appends}
use Rattle.std.proofs.lemmas.Bool.{false≢true}
use Rattle.std.proofs.lemmas.List.Elements.{All-weaker}
use Rattle.mixed_graph.specs.Vocabulary.{has, graph_of}
use Rattle.fractions.specs.Vocabulary.{Fraction}
use Rattle.command_words.specs.Vocabulary.{Use, has_flag}
use Rattle.replies.specs.declared.outcome.Outcome.TheVariants.{Yes, No}
use Rattle.replies.specs.Vocabulary.{code_of}
use Rattle.replies.specs.Told.{Told}
use Rattle.told.specs.Vocabulary.{Tells, outcome_in}
use Rattle.diagram.specs.declared.diagram.Diagram.{Diagram}
use Rattle.diagram.specs.Vocabulary.{IsObservedGraph}
use Rattle.diagram.proofs.ObservedParts.{part_of}
use Rattle.dag_reader.specs.declared.graph.ReadGraph.{ReadGraph}
use Rattle.quantity.specs.Exacts.{exact}
use Rattle.quantity.specs.Vocabulary.{Equals, Covers, Kind, IsLawful, exact_lawful, bounds_lawful}
use Rattle.quantity.specs.Intervals.{bounds}
use Rattle.quantity.specs.Kinds.{Pair}
use Rattle.count_rows.specs.Vocabulary.{Table}
use Rattle.count_table.specs.Cells as cells
use Rattle.count_eval.specs.Vocabulary.{weights_in, is_used, cell_of}
use Rattle.nested_models.specs.Vocabulary.{nested_effect}
use Rattle.natural_drawn.specs.Vocabulary.{drawn_nested_effect}
use Rattle.natural_drawn.proofs.Matched.{each_has_nested_matched}
use Rattle.natural_command.specs.Vocabulary.{natural_refusal, natural_telling}
use Rattle.natural_command.specs.declared.answer.Answer.{Answer as NaturalAnswer}
use Rattle.natural_command.specs.declared.answer.Answer.TheVariants as natural
use Rattle.natural_command.specs.declared.fault.NaturalFault.{NaturalFault}
use Rattle.evaluate_command.specs.Vocabulary.{CellValue, values_refusal}
use Rattle.evaluate_command.specs.declared.answer.Values.{Values}
use Rattle.evaluate_command.specs.declared.answer.Values.TheVariants as values
use Rattle.evaluate_command.specs.declared.faults.ValuesFault.{ValuesFault}
use Rattle.paired_values.specs.Vocabulary.{second_levels}
use Rattle.evaluate_natural.specs.Effects.{PlainNested, Identifies, paired_in}
use Rattle.evaluate_natural.specs.First.{HasNoFormula, IsForDiagram}
use Rattle.evaluate_natural.specs.Requests as nested_requests
use Rattle.evaluate_natural.specs.Right.{CoversNested, IsForCounts, IsOverTable}
use Rattle.evaluate_natural.specs.Vocabulary.{nested_telling}
use Rattle.evaluate_natural.specs.declared.answer.Answer.{Answer}
use Rattle.command_choice.specs.Choice as choice
use Rattle.command_run.specs.Vocabulary.{HoldsAnswer, DefinedWith, of}
use Rattle.causal_cli.specs.AsDrawn.{AreNestedAsDrawn, CoversNestedAsDrawn, EachCoversNestedAsDrawn}
use Rattle.causal_cli.specs.NaturalDrawn.{IsNaturalAsDrawn}
use Rattle.causal_cli.specs.Calls.{Call, WrittenFor, WrittenForBoth}
use Rattle.causal_cli.specs.Commands.{commands}
use Rattle.causal_cli.specs.declared.commands.Command.TheVariants.{Evaluate}
use Rattle.causal_cli.specs.Drawn.{IsEvaluatedNested, IsUnevaluatedNested}
use Rattle.causal_cli.proofs.CallAnswers.{CallAnswer, on_words, on_file, on_both, on_held, under_name, under_names}
use Rattle.causal_cli.proofs.NaturalDrawn.{naturals, natural_refused}
use Rattle.causal_cli.proofs.Refused.{values_refused}
use Rattle.causal_cli.proofs.ToldAnswers.{answered, answered_on_both}

-- ---- what values cover

-- what covers the effect in each model of the observed graph that the counts match covers it in the diagram as drawn
covers_as_drawn : (kind : Kind) (covers : Pair → Fraction → Type 0) → IsLawful kind covers → (g : ReadGraph) (e : PlainNested) → IsObservedGraph g e.graph
    → (t : Table) (v : CellValue) → CoversNested covers e t v → CoversNestedAsDrawn covers g e t v
covers_as_drawn kind covers lawful g e is t v h m fit observed matched hs ht =
    let l = has g.latent.bits in let q = e.asked.question in let s = cell_of v.cell in let u = second_levels (paired_in e) v.cell in
    let f = each_has_nested_matched (graph_of g.graph) g.graph.valid l e.graph is m fit observed (is_used t) (weights_in e.graph.vertices t)
    (cells.total t.rows) matched in
    lawful.keeps.equal v.quantity (nested_effect f.folded (has q.x.bits) (has q.through.bits) (has q.y.bits) (has q.given.bits) s u)
    (drawn_nested_effect l m q.x.bits q.through.bits q.y.bits q.given.bits s u)
    (h f.folded f.fits f.positive f.matched)
    (f.same q.x.bits q.through.bits q.y.bits q.given.bits s u (f.levels s hs) (f.levels u ht))

-- each value is so, in either kind of quantity
each_covers : (is_exact : Bool) (g : ReadGraph) (e : PlainNested) (t : Table) (v : Values) → IsObservedGraph g e.graph → IsOverTable is_exact e t v
    → EachCoversNestedAsDrawn g e t v
each_covers true g e t (values.Exact list) is h =
    All-weaker (CoversNested Equals e t) (CoversNestedAsDrawn Equals g e t) (λ v c. covers_as_drawn exact Equals exact_lawful g e is t v c) _ h.effects
each_covers false g e t (values.Bounds list) is h =
    All-weaker (CoversNested Covers e t) (CoversNestedAsDrawn Covers g e t) (λ v c. covers_as_drawn bounds Covers bounds_lawful g e is t v c) _ h.effects
each_covers true g e t (values.Bounds list) is h = absurd (false≢true h.evaluated.kind)
each_covers false g e t (values.Exact list) is h = absurd (false≢true (sym h.evaluated.kind))

-- a right answer over counts
nested_drawn : (q : nested_requests.Request) (other : List ℕ) (d : Diagram) (e : PlainNested) (a : Answer) → Identifies d q.effect e
    → IsForCounts q.exact e q.count other (Ok a) → AreNestedAsDrawn d e a
nested_drawn q other d e a identifies h = subst (λ (t : Table). EachCoversNestedAsDrawn d.read e t a.values) (sym h.answer.table)
    (each_covers q.exact d.read e h.table a.values (subst (IsObservedGraph d.read) (sym identifies.graph) (part_of d).graph) h.answer.values)

-- ---- a yes is given over counts
module _ (r : Call) (uses : List Use) (code : ℕ) (text : Told) (is_natural : has_flag uses (codes "natural") ≡ true) (status : code ≡ 0)
    (whole : Appends r.before r.after text.text) where
  no_values_alone : (k : Result NaturalAnswer NaturalFault) → HasNoFormula k → Yes ≡ outcome_in natural_telling natural_refusal k → ⊥
  no_values_alone (Ok (natural.Formula a f)) h e = h
  no_values_alone (Ok (natural.Certified a c)) h e = h
  no_values_alone (Ok (natural.Excluded a h pair)) none e = let c : 0 ≡ 1 = ap code_of e in omega (arith, c)
  no_values_alone (Ok (natural.Witness a w other)) none e = let c : 0 ≡ 1 = ap code_of e in omega (arith, c)
  no_values_alone (Ok (natural.Split a s other)) none e = let c : 0 ≡ 1 = ap code_of e in omega (arith, c)
  no_values_alone (Err fault) none e = let c : 0 ≡ 3 = ap code_of e in omega (arith, c)

  pub evaluated_nested : CallAnswer r Evaluate uses Yes text
      → WrittenForBoth nested_requests.IsRequest (λ q. q.effect.file) (λ q. q.counts) (λ q bytes other. IsEvaluatedNested q bytes other code) r uses
  evaluated_nested (on_words (choice.first q) is h) = absurd h
  evaluated_nested (on_words (choice.second (choice.second q)) is h) = absurd h
  evaluated_nested (on_words (choice.second (choice.first q)) is h) = absurd h
  evaluated_nested (on_file (choice.first q) is file names h) = absurd (false≢true (sym is.plain.natural ∙ is_natural))
  evaluated_nested (on_both (choice.first q) is file second names names_second other all h) = absurd (false≢true (sym is.plain.natural ∙ is_natural))
  evaluated_nested (on_file (choice.second (choice.first q)) is file names h) = absurd (false≢true (sym is.alone.natural ∙ is_natural))
  evaluated_nested (on_file (choice.second (choice.second q)) is file names h) = record {
    request = q;
    told = text;
    asks = is;
    right = under_name r.held q.effect.file file (λ bytes. HoldsAnswer commands (of Evaluate (choice.second (choice.second q))) bytes Yes text)
        (λ bytes. IfSome (r.held_second q.counts) (λ other. IsEvaluatedNested q bytes other code text))
        (λ bytes b. absurd (no_values_alone b.answer.answer b.answer.right.1 b.answer.ends)) names h;
    whole = whole;
  }
  evaluated_nested (on_both (choice.second (choice.first q)) is file second names names_second other all h) = absurd (false≢true (sym is.alone.natural ∙ is_natural))
  evaluated_nested (on_both (choice.second (choice.second q)) is file second names names_second other all h) = record {
    request = q;
    told = text;
    asks = is;
    right = under_names r.held r.held_second q.effect.file file q.counts second
        (λ bytes other. DefinedWith commands (of Evaluate (choice.second (choice.second q))) bytes other Yes text) (λ bytes other. IsEvaluatedNested q bytes other code text)
        (λ bytes other d. answered_on_both nested_telling values_refusal values_refused q.effect.form bytes code Yes text status
        (omega (arith, status)) other (λ d. Identifies d q.effect) (λ d e. IsForCounts q.exact e q.count) AreNestedAsDrawn
        (λ d e a identifies h. nested_drawn q other d e a identifies h) d.0 d.1 d.3.0 d.3.1
        (subst (λ (names : List (List ℕ)). Tells nested_telling values_refusal (IsForCounts q.exact d.3.0 q.count other) q.effect.form names Yes text)
        d.3.1.names d.3.2)) names names_second (on_held r (of Evaluate (choice.second (choice.second q))) Yes text file second other all h);
    whole = whole;
  }

-- ---- a no is given on the diagram alone
module _ (r : Call) (uses : List Use) (code : ℕ) (text : Told) (is_natural : has_flag uses (codes "natural") ≡ true) (status : code ≡ 1)
    (whole : Appends r.before r.after text.text) where
  no_over_counts : (k : Result Answer ValuesFault) → No ≡ outcome_in nested_telling values_refusal k → ⊥
  no_over_counts (Ok a) n = let c : 1 ≡ 0 = ap code_of n in omega (arith, c)
  no_over_counts (Err fault) n = let c : 1 ≡ code_of (values_refusal.outcome fault) = ap code_of n in omega (arith, c, values_refused fault)

  pub unevaluated_nested : CallAnswer r Evaluate uses No text
      → WrittenFor nested_requests.IsRequest (λ q. q.effect.file) (λ q bytes. IsUnevaluatedNested q bytes code) r uses
  unevaluated_nested (on_words (choice.first q) is h) = absurd h
  unevaluated_nested (on_words (choice.second (choice.second q)) is h) = absurd h
  unevaluated_nested (on_words (choice.second (choice.first q)) is h) = absurd h
  unevaluated_nested (on_file (choice.first q) is file names h) = absurd (false≢true (sym is.plain.natural ∙ is_natural))
  unevaluated_nested (on_both (choice.first q) is file second names names_second other all h) = absurd (false≢true (sym is.plain.natural ∙ is_natural))
  unevaluated_nested (on_file (choice.second (choice.first q)) is file names h) = absurd (false≢true (sym is.alone.natural ∙ is_natural))
  unevaluated_nested (on_file (choice.second (choice.second q)) is file names h) = record {
    request = q;
    told = text;
    asks = is;
    right = under_name r.held q.effect.file file (λ bytes. HoldsAnswer commands (of Evaluate (choice.second (choice.second q))) bytes No text)
        (λ bytes. IsUnevaluatedNested q bytes code text)
        (λ bytes b. answered natural_telling natural_refusal natural_refused q.effect.form bytes code No text status (omega (arith, status))
        (λ d. IsForDiagram d q.effect) IsNaturalAsDrawn (λ d a h. naturals false q.effect.x q.effect.y q.effect.through q.effect.given d a h.0) b.diagram b.holds b.answer) names h;
    whole = whole;
  }
  unevaluated_nested (on_both (choice.second (choice.first q)) is file second names names_second other all h) = absurd (false≢true (sym is.alone.natural ∙ is_natural))
  unevaluated_nested (on_both (choice.second (choice.second q)) is file second names names_second other all h) = record {
    request = q;
    told = text;
    asks = is;
    right = under_name r.held q.effect.file file (λ bytes. DefinedWith commands (of Evaluate (choice.second (choice.second q))) bytes other No text)
        (λ bytes. IsUnevaluatedNested q bytes code text)
        (λ bytes d. absurd (no_over_counts d.3.2.answer d.3.2.ends)) names h;
    whole = whole;
  }
