-- From the end of a run to its headline.
use Rattle.std.proofs.Common.{◌≡◌, ◌⊎◌, ℕ, List, [], ◌∷◌, Option, Some, None, Result, Ok, Err, inl, inr, refl, sym, ap, ◌∙◌, subst, arith}
use Rattle.std.proofs.lemmas.Option.{same_Some, none-some}
use Rattle.std.specs.Prelude.{Bool, unwrap_or, IfSome}
use Rattle.std.specs.Option.{option_or}
use Rattle.mixed_graph.specs.Vocabulary.{MixedGraph, graph_of}
use Rattle.causal_io.specs.Vocabulary.{Rose}
use Rattle.command_words.specs.Vocabulary.{Text, Use}
use Rattle.prob_expr.specs.Vocabulary.{effect_on, formula_view}
use Rattle.dag_reader.specs.declared.graph.ReadGraph.{ReadGraph}
use Rattle.dag_reader.specs.Vocabulary.{AreSame}
use Rattle.dag_reader.proofs.OneReading.{reads_either}
use Rattle.targets.specs.declared.fault.TargetFault.{TargetFault}
use Rattle.targets.specs.declared.query.EffectSets.{EffectSets}
use Rattle.targets.specs.Vocabulary.{EffectLists, AreEffectSets, IsEffectFault, listed}
use Rattle.replies.specs.Told.{Told}
use Rattle.replies.specs.declared.outcome.Outcome.{Outcome}
use Rattle.replies.specs.declared.outcome.Outcome.TheVariants.{Graph}
use Rattle.replies.specs.Vocabulary.{IsGraphRefusal, too_long, faulty, HoldsGraph, HoldsDiagram, code_of}
use Rattle.replies.proofs.OneGraph.{one_reading}
use Rattle.replies.proofs.OneTarget.{no_effect_fault}
use Rattle.diagram.specs.declared.diagram.Diagram.{Diagram}
use Rattle.diagram.specs.Vocabulary.{IsObservedGraph, observed_names, Names, effect_lists}
use Rattle.diagram.proofs.OneObserved.{same_observed_names}
use Rattle.diagram.proofs.ObservedParts.{as_read, part_of}
use Rattle.told.specs.Vocabulary.{is_certified, target_refusal, outcome_in}
use Rattle.identify_command.specs.declared.answer.Answer.{Answer}
use Rattle.identify_command.specs.declared.answer.Answer.TheVariants.{Formula, Hedge, Joint}
use Rattle.identify_command.specs.Vocabulary.{identify_command, told_form, IsRequest, identify_row, IsFaultFor, IsForEffect, IsIdentifyAnswer, asked_of, identify_telling}
use Rattle.identify_command.specs.Requests.{Request as Asked}
use Rattle.identify_command.proofs.Lawful.{identify_lawful}
use Rattle.command_run.specs.Vocabulary.{Request, of, command_of, Asks, IsRequest as IsRequestOf, Defined, ReadsName, file, second, NothingFailed}
use Rattle.command_run.specs.Run.{Run}
use Rattle.command_run.specs.Complete.{Complete}
use Rattle.command_run.proofs.Deliveries.{mapped}
use Rattle.causal_cli.specs.Answered.{told_of_answer}
use Rattle.causal_cli.specs.Calls.{Call, call_of, IsCallOf, WrittenFor}
use Rattle.causal_cli.specs.Commands.{commands, form_of}
use Rattle.causal_cli.specs.declared.commands.Command.{Command}
use Rattle.causal_cli.specs.declared.commands.Command.TheVariants.{Identify}
use Rattle.causal_cli.specs.Drawn.{IsIdentifiedAsDrawn, RightAsDrawn}
use Rattle.causal_cli.specs.Headline.{IsIdentified, AsksEffect, Headline}
use Rattle.causal_cli.proofs.AsDrawn.{drawn, effect_lost}
use Rattle.causal_cli.proofs.CallAnswers.{CallAnswer, on_words, on_file, on_both, by_table, is_of, by_them, call_answer}

-- ---- right answers

module _ (asked : Asked) (bytes : List ℕ) (code : ℕ) (told : Told) (g : ReadGraph) (holds : HoldsGraph bytes g) (q : MixedGraph) (observed : IsObservedGraph g q)
    (short certified : Bool) where
  -- an answer for the lists of an effect
  of_effect : (a : Answer) → IsForEffect short certified q (effect_lists g (observed_names g) asked.x asked.y) a
      → code ≡ code_of (identify_telling.outcome a) → told ≡ told_of_answer identify_telling (told_form asked.form) (observed_names g) a
      → IsIdentified asked bytes code told
  of_effect (Formula f) h status prints = let x = h.sets.x.bits in let y = h.sets.y.bits in record {
    graph = g;
    holds = holds;
    seen = q;
    observed = observed;
    x = x;
    y = y;
    sets = h.named;
    answer = Formula f;
    right = record {
      target = h.decided.target;
      derivation = h.decided.derivation;
      right = h.decided.right;
      drawn = drawn g q observed (effect_on x y) (formula_view f.formula) h.decided.right.effect;
    };
    status = status;
    prints = prints;
  }
  of_effect (Hedge k) h status prints = let x = k.sets.x.bits in let y = k.sets.y.bits in let found = h.decided.1.found in record {
    graph = g;
    holds = holds;
    seen = q;
    observed = observed;
    x = x;
    y = y;
    sets = subst (λ (s : EffectSets). AreEffectSets (effect_lists g (observed_names g) asked.x asked.y) s.x.bits s.y.bits) (sym h.decided.0) h.named;
    answer = Hedge k;
    right = record {
      effect = refl;
      right = found.right;
      evidence = found.evidence;
      built = found.models;
      drawn = effect_lost g q observed x y k.pair found.right.counter;
    };
    status = status;
    prints = prints;
  }
  of_effect (Joint t settled k) h status prints = absurd h.decided

-- where nothing is given, an answer is one for the lists of an effect
bare : (short certified : Bool) (d : Diagram) (x y given : Names) (a : Answer) → unwrap_or given [] ≡ [] → IsIdentifyAnswer short certified d x y given (Ok a)
    → IsForEffect short certified (graph_of d.observed.graph) (effect_lists d.read d.observed.names x y) a
bare short certified d x y None a none h = h
bare short certified d x y (Some []) a none h = h
bare short certified d x y (Some (n ∷ ns)) a none h = absurd (cc none)

is_identified : (q : Asked) (bytes : List ℕ) (code : ℕ) (told : Told) → IsIdentifiedAsDrawn q bytes code told → unwrap_or q.given [] ≡ []
    → IsIdentified q bytes code told
is_identified q bytes code told h none =
    let certified = is_certified q.form.writing in
    let k = as_read h.diagram (λ p names. IsForEffect q.form.short certified p (effect_lists h.diagram.read names q.x q.y) h.answer
    × (told ≡ told_of_answer identify_telling (told_form q.form) names h.answer))
    (bare q.form.short certified h.diagram q.x q.y q.given h.answer none h.right, h.prints) in
    of_effect q bytes code told h.diagram.read h.holds k.0 k.1 q.form.short certified h.answer k.2.0 h.status k.2.1

identified_written : (r : Call) (code : ℕ) (uses : List Use) → WrittenFor IsRequest (λ q. q.file) (λ q bytes. IsIdentifiedAsDrawn q bytes code) r uses
    → WrittenFor IsRequest (λ q. q.file) (λ q bytes told. unwrap_or q.given [] ≡ [] → IsIdentified q bytes code told) r uses
identified_written r code uses w = record {
  request = w.request;
  told = w.told;
  asks = w.asks;
  right = mapped (r.held w.request.file) (λ bytes. IsIdentifiedAsDrawn w.request bytes code w.told)
      (λ bytes. unwrap_or w.request.given [] ≡ [] → IsIdentified w.request bytes code w.told) (λ bytes. is_identified w.request bytes code w.told) w.right;
  whole = w.whole;
}

-- ---- that there is one

-- the bytes of a graph aren't refused
held_or_refused : (bytes : List ℕ) (g : ReadGraph) (told : Told) → HoldsGraph bytes g → IsGraphRefusal bytes told → ⊥
held_or_refused bytes g told h (too_long long e) = omega (arith, long, h.small)
held_or_refused bytes g told h (faulty fault small some reads e) = reads_either bytes g fault h.reads some reads

-- graphs that are the same have the same lists of an effect
same_lists : (g : ReadGraph) (d : Diagram) (x y : Names) → AreSame g d.read
    → effect_lists d.read d.observed.names x y ≡ effect_lists g (observed_names g) x y
same_lists g d x y same = λ i. record {
  all = same.names i;
  observed = ((part_of d).names ∙ same_observed_names g d.read same) i;
  x = listed (same.names i) (same.exposures i) x;
  y = listed (same.names i) (same.outcomes i) y;
}

-- the words ask for the effect of two sets of a graph, and nothing failed: then the answer is yes or no
module _ (r : Run) (code : ℕ) (uses : List Use) (call : IsCallOf identify_row r.words uses) (a : AsksEffect r uses) where
  -- where nothing is given, a fault is one of the lists of an effect
  effect_fault : (d : Diagram) (x y given : Names) (fault : TargetFault) → unwrap_or given [] ≡ [] → IsFaultFor (asked_of d x y given) fault
      → IsEffectFault (effect_lists d.read d.observed.names x y) fault
  effect_fault d x y None fault none is = is
  effect_fault d x y (Some []) fault none is = is
  effect_fault d x y (Some (n ∷ ns)) fault none is = absurd (cc none)

  -- on a diagram of the bytes the lists have no fault
  on_diagram : (o : Outcome) (told : Told) (d : Diagram) → HoldsDiagram a.bytes d → identify_command.by_diagram a.request d o told → code ≡ code_of o
      → (code ≡ 0) ⊎ ((code ≡ 1) ⊎ (code ≡ 8))
  on_diagram o told d holds h e = go h.answer h.right (e ∙ ap code_of h.ends)
    where
      go : (r : Result Answer TargetFault)
          → IsIdentifyAnswer a.request.form.short (is_certified a.request.form.writing) d a.request.x a.request.y a.request.given r
          → code ≡ code_of (outcome_in identify_telling target_refusal r) → (code ≡ 0) ⊎ ((code ≡ 1) ⊎ (code ≡ 8))
      go (Ok (Formula f)) right c = inl c
      go (Ok (Hedge k)) right c = inr (inl c)
      go (Ok (Joint t settled k)) right c = inr (inl c)
      go (Err fault) right c = absurd (no_effect_fault (effect_lists d.read d.observed.names a.request.x a.request.y) a.x a.y fault
          (subst (λ (l : EffectLists). AreEffectSets l a.x a.y)
          (sym (same_lists a.graph d a.request.x a.request.y (one_reading a.bytes a.graph d.read a.holds holds))) a.sets)
          (effect_fault d a.request.x a.request.y a.request.given fault a.bare right))

  on_bytes : (o : Outcome) (told : Told) → Defined commands (of Identify a.request) a.bytes o told → code ≡ code_of o
      → (code ≡ 0) ⊎ ((code ≡ 1) ⊎ (code ≡ 8))
  on_bytes Graph told (inl refused) e = absurd (held_or_refused a.bytes a.graph told a.holds refused)
  on_bytes Graph told (inr h) e = on_diagram Graph told h.diagram h.holds h.answer e
  on_bytes o told h e = on_diagram o told h.diagram h.holds h.answer e

  of_request : (o : Outcome) (told : Told) → CallAnswer (call_of r) Identify uses o told → code ≡ code_of o → (code ≡ 0) ⊎ ((code ≡ 1) ⊎ (code ≡ 8))
  of_request o told (on_words q is h) e = absurd h
  of_request o told (on_file q is input names defined) e =
      let same = identify_lawful.one_request uses a.request q a.asks is in
      let named = subst (λ (p : Asked). p.file ≡ input) same (same_Some q.file input names) in
      let there = subst (λ (p : Asked). IfSome (option_or r.kept (r.held input)) (λ bytes. Defined commands (of Identify p) bytes o told)) same defined in
      let told_bytes = subst (λ (n : Text). IfSome (option_or r.kept (r.held n)) (λ bytes. Defined commands (of Identify a.request) bytes o told))
      (sym named) there in
      on_bytes o told (subst (λ (m : Option (List ℕ)). IfSome m (λ bytes. Defined commands (of Identify a.request) bytes o told)) a.held told_bytes) e
  of_request o told (on_both q is input other names names_other bytes all h) e = absurd (none-some other names_other)

  -- nothing failed where no read of the file did
  file_alone : (name : Text) → (w : Request commands) → command_of commands w ≡ Identify → IsRequestOf commands uses w → ReadsName commands r w name
      → name ≡ a.request.file
  file_alone name (of c q) e is reads =
      (subst (λ (k : Command). (p : (form_of k).Request) → IsRequestOf commands uses (of k p) → ReadsName commands r (of k p) name → name ≡ a.request.file)
      (sym e) own) q is reads
    where
      own : (p : Asked) → IsRequestOf commands uses (of Identify p) → ReadsName commands r (of Identify p) name → name ≡ a.request.file
      own p is (file none names) = same_Some name p.file (sym names) ∙ ap (λ (k : Asked). k.file) (identify_lawful.one_request uses a.request p a.asks is)
      own p is (second input names named there h) = absurd (none-some name named)

  nothing_failed : (Rose r.out.faults r.out.faults_after → ⊥) → NothingFailed commands r
  nothing_failed writes = record {
    reads = λ w asks name reads rose. a.read (subst (λ (n : Text). Rose (r.read_faults n) (r.read_faults_after n))
        (file_alone name w (is_of (call_of r) Identify uses call w asks) (by_them (call_of r) Identify uses call w asks) reads) rose);
    writes = writes;
  }

  pub answered : Complete commands r code → (Rose r.out.faults r.out.faults_after → ⊥) → (code ≡ 0) ⊎ ((code ≡ 1) ⊎ (code ≡ 8))
  answered c writes = elim (c.answered (of Identify a.request) asked (nothing_failed writes)) [
    | inl d ↦ of_request d.outcome d.told (call_answer r d.outcome d.told d.answers Identify uses call) d.status
    | inr e ↦ inr (inr e)
  ]
    where
      asked : Asks commands r.words (of Identify a.request)
      asked = record { uses = uses; call = by_table (call_of r) Identify uses call; asks = a.asks }

pub headline : (r : Run) (code : ℕ) → RightAsDrawn (call_of r) code → Complete commands r code → Headline r code
headline r code drawn whole = record {
  right = λ uses call small. identified_written (call_of r) code uses (drawn.identified uses call small);
  answered = λ uses call a. answered r code uses call a whole;
}
