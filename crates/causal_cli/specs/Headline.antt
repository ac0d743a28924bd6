-- The headline, on a run: what words that ask for `identify` are answered.
use Rattle.std.specs.Prelude.{ℕ, ◌≡◌, ◌≤◌, ◌⊎◌, List, [], ◌∷◌, Some, unwrap_or}
use Rattle.std.specs.Option.{option_or}
use Rattle.mixed_graph.specs.Vocabulary.{MixedGraph, has, graph_of}
use Rattle.command_words.specs.Vocabulary.{Use, IsCall}
use Rattle.prob_expr.specs.Vocabulary.{effect_on, target_view, formula_view}
use Rattle.do_derivation.specs.Vocabulary.{PlainDerivation}
use Rattle.dag_reader.specs.declared.graph.ReadGraph.{ReadGraph}
use Rattle.hedge.specs.Vocabulary.{IsHedge}
use Rattle.counter_models.specs.Vocabulary.{IsPairOf}
use Rattle.latent_projection.specs.Vocabulary.{IsObserved}
use Rattle.hidden_models.specs.Vocabulary.{EqualsAsDrawn, NotIdentifiableAsDrawn}
use Rattle.identify.specs.Vocabulary.{IsRightFormula, IsRightHedge}
use Rattle.targets.specs.Vocabulary.{AreEffectSets}
use Rattle.replies.specs.Told.{Told}
use Rattle.replies.specs.Vocabulary.{code_of, HoldsGraph}
use Rattle.diagram.specs.Vocabulary.{observed_names, effect_lists}
use Rattle.effect_answers.specs.declared.formulas.EffectFormula.{EffectFormula}
use Rattle.effect_answers.specs.declared.hedges.EffectHedge.{EffectHedge}
use Rattle.effect_answers.specs.Vocabulary.{effect_of}
use Rattle.identify_command.specs.declared.answer.Answer.{Answer}
use Rattle.identify_command.specs.declared.answer.Answer.TheVariants.{Formula, Hedge, Joint}
use Rattle.identify_command.specs.Vocabulary.{IsRequest, identify_row, identify_telling}
use Rattle.identify_command.specs.Requests.{Request}
use Rattle.causal_io.specs.Vocabulary.{Rose}
use Rattle.command_run.specs.Run.{Run}
use Rattle.causal_cli.specs.Answered.{told_of_answer}
use Rattle.causal_cli.specs.Calls.{call_of, WrittenFor}

-- The formula is for P(y | do(x)). It has no intervention, and a derivation that the checker accepts; it equals the effect at each assignment in each
-- positive finite model that fits the observed graph q, and in the diagram as drawn.
pub record IsRightFormulaFor (g : ReadGraph) (q : MixedGraph) (x y : ℕ) (f : EffectFormula) : Type 0 where
  pub target : target_view f.target ≡ effect_on x y
  pub derivation : PlainDerivation
  pub right : IsRightFormula q x y (formula_view f.formula) derivation
  pub drawn : EqualsAsDrawn (graph_of g.graph) (has g.latent.bits) (effect_on x y) (formula_view f.formula)

-- The hedge is one for P(y | do(x)), with its evidence and the two models that are built of it: they are positive and finite, fit the observed graph q, agree
-- on all observations, and differ on the effect under every value of x. So do two models of the diagram as drawn.
pub record IsRightHedgeFor (g : ReadGraph) (q : MixedGraph) (x y : ℕ) (h : EffectHedge) : Type 0 where
  pub effect : effect_of h ≡ effect_on x y
  pub right : IsRightHedge q x y h.hedge h.pair
  pub evidence : IsHedge q x y h.hedge
  pub built : IsPairOf q x y h.hedge h.pair
  pub drawn : NotIdentifiableAsDrawn (graph_of g.graph) (has g.latent.bits) (effect_on x y)

-- the one or the other
abbrev pub IsRightAnswerFor : ReadGraph → MixedGraph → (x y : ℕ) → Answer → Type 0
IsRightAnswerFor g q x y (Formula f) = IsRightFormulaFor g q x y f
IsRightAnswerFor g q x y (Hedge h) = IsRightHedgeFor g q x y h
IsRightAnswerFor g q x y (Joint t settled h) = ⊥

-- The bytes hold a graph, in whose observed graph the lists of the request name two sets, and this is a right answer for them; the status is 0 for a formula
-- and 1 for a hedge, and what is told is what is told of the answer.
pub record IsIdentified (q : Request) (bytes : List ℕ) (code : ℕ) (told : Told) : Type 0 where
  pub graph : ReadGraph
  pub holds : HoldsGraph bytes graph
  pub seen : MixedGraph
  pub observed : IsObserved (graph_of graph.graph) (has graph.latent.bits) seen
  pub x : ℕ
  pub y : ℕ
  pub sets : AreEffectSets (effect_lists graph (observed_names graph) q.x q.y) x y
  pub answer : Answer
  pub right : IsRightAnswerFor graph seen x y answer
  pub status : code ≡ code_of (identify_telling.outcome answer)
  pub prints : told ≡ told_of_answer identify_telling (record { format = q.form.format; writing = q.form.writing }) (observed_names graph) answer

-- these uses ask for the effect of x on y, without a condition, in the diagram of a file: its bytes, or the text that stands for them, are told and hold
-- a graph, in which the lists name these two sets of observed vertices, y not empty; and no count of failed reads of the file rose
pub record AsksEffect (r : Run) (uses : List Use) : Type 0 where
  pub request : Request
  pub asks : IsRequest uses request
  pub bare : unwrap_or request.given [] ≡ []
  pub bytes : List ℕ
  pub held : option_or r.kept (r.held request.file) ≡ Some bytes
  pub read : Rose (r.read_faults request.file) (r.read_faults_after request.file) → ⊥
  pub graph : ReadGraph
  pub holds : HoldsGraph bytes graph
  pub x : ℕ
  pub y : ℕ
  pub sets : AreEffectSets (effect_lists graph (observed_names graph) request.x request.y) x y

-- Where the words are a call of `identify` and the status is 0 or 1, a right answer was written for the bytes of the file that they ask for; nothing is said
-- where they give a condition. Where they ask for the effect of two sets in a graph that was read, and no count of failed writes rose, the status is one of
-- these, or memory was refused (8).
pub record Headline (r : Run) (code : ℕ) : Type 0 where
  pub right : (uses : List Use) → IsCall (identify_row ∷ []) r.words identify_row uses → code ≤ 1
      → WrittenFor IsRequest (λ q. q.file) (λ q bytes told. unwrap_or q.given [] ≡ [] → IsIdentified q bytes code told) (call_of r) uses
  pub answered : (uses : List Use) → IsCall (identify_row ∷ []) r.words identify_row uses → AsksEffect r uses → (Rose r.out.faults r.out.faults_after → ⊥)
      → (code ≡ 0) ⊎ ((code ≡ 1) ⊎ (code ≡ 8))
