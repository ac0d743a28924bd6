-- What is answered where the words are a call of one command.
use Rattle.std.proofs.Common.{◌≡◌, ℕ, ◌≤◌, List, Option, Some, None, refl, sym, ◌∙◌, subst, arith}
use Rattle.std.proofs.lemmas.Option.{same_Some, none-some}
use Rattle.std.specs.Prelude.{IfSome}
use Rattle.std.specs.Io.KnownBytes.{Appends}
use Rattle.command_words.specs.Vocabulary.{Text, Use, IsCall, row_named}
use Rattle.replies.specs.Told.{Told}
use Rattle.replies.specs.declared.outcome.Outcome.{Outcome}
use Rattle.replies.specs.declared.outcome.Outcome.TheVariants.{Yes, No}
use Rattle.replies.specs.Vocabulary.{code_of}
use Rattle.command_run.specs.Vocabulary.{WordsAnswer, Defined, DefinedWith, Request, of, command_of, file_of, second_of, IsRequest, Asks, by_words, by_file, by_both}
use Rattle.command_run.specs.Run.{Run, Answers, Ends}
use Rattle.command_run.proofs.Deliveries.{mapped, told}
use Rattle.command_run.proofs.OneRequest.{words_ask_once}
use Rattle.causal_cli.specs.Calls.{Call, call_of, IsCallOf, WrittenFor}
use Rattle.causal_cli.specs.Commands.{commands, form_of, table, row_for}
use Rattle.causal_cli.proofs.Lawful.{lawful}
use Rattle.causal_cli.specs.declared.commands.Command.{Command}
use Rattle.causal_cli.specs.declared.commands.Command.TheVariants as command

-- the answer to the request of a command that these uses ask for: by the words alone, on the bytes of its file, or on those of both inputs
pub data CallAnswer (r : Call) (c : Command) (uses : List Use) (o : Outcome) (text : Told) : Type 0 where
  on_words : (q : (form_of c).Request) → IsRequest commands uses (of c q) → WordsAnswer commands (of c q) o text → CallAnswer r c uses o text
  on_file : (q : (form_of c).Request) → IsRequest commands uses (of c q) → (file : Text) → file_of commands (of c q) ≡ Some file
      → IfSome (r.held file) (λ bytes. Defined commands (of c q) bytes o text) → CallAnswer r c uses o text
  on_both : (q : (form_of c).Request) → IsRequest commands uses (of c q) → (file second : Text) → file_of commands (of c q) ≡ Some file
      → second_of commands (of c q) ≡ Some second → (other : List ℕ) → IfSome (r.held_second second) (λ all. other ≡ all)
      → IfSome (r.held file) (λ bytes. DefinedWith commands (of c q) bytes other o text) → CallAnswer r c uses o text

-- what is answered on both inputs is answered on what is held of both
pub on_held : (r : Call) (w : Request commands) (o : Outcome) (text : Told) (file second : Text) (other : List ℕ)
    → IfSome (r.held_second second) (λ all. other ≡ all) → IfSome (r.held file) (λ bytes. DefinedWith commands w bytes other o text)
    → IfSome (r.held file) (λ bytes. IfSome (r.held_second second) (λ more. DefinedWith commands w bytes more o text))
on_held r w o text file second other all = mapped (r.held file) (λ bytes. DefinedWith commands w bytes other o text)
    (λ bytes. IfSome (r.held_second second) (λ more. DefinedWith commands w bytes more o text))
    (λ bytes d. told (r.held_second second) other (λ more. DefinedWith commands w bytes more o text) all d)

-- what a call gave: the answer of the command whose call the words are, written whole
pub record Gave (r : Call) (o : Outcome) (text : Told) : Type 0 where
  pub answers : (c : Command) (uses : List Use) → IsCallOf (row_for c) r.words uses → CallAnswer r c uses o text
  pub whole : Appends r.before r.after text.text

-- the table finds the row of a command by its name, computed for each
in_table : (c : Command) → row_named table (row_for c).name ≡ Some (row_for c)
in_table command.Graph = refl
in_table c = refl

module _ (r : Call) (c : Command) (uses : List Use) (call : IsCallOf (row_for c) r.words uses) where
  pub by_table : IsCall table r.words (row_for c) uses
  by_table = record { command = in_table c; spelling = call.spelling; allowed = call.allowed }

  -- a request that the words ask for is one of this command, by the same uses
  pub is_of : (w : Request commands) → Asks commands r.words w → command_of commands w ≡ c
  is_of w a = lawful.apart (command_of commands w) c (words_ask_once commands lawful r.words (row_for c) (row_for (command_of commands w))
      uses a.uses by_table a.call).0

  pub by_them : (w : Request commands) → Asks commands r.words w → IsRequest commands uses w
  by_them w a = subst (λ us. IsRequest commands us w) (words_ask_once commands lawful r.words (row_for c) (row_for (command_of commands w))
      uses a.uses by_table a.call).1 a.asks

module _ (r : Call) (c : Command) (uses : List Use) (o : Outcome) (text : Told) where
  pub for_words : (w : Request commands) → command_of commands w ≡ c → IsRequest commands uses w → WordsAnswer commands w o text → CallAnswer r c uses o text
  for_words (of d q) e is answer = subst (λ (k : Command). CallAnswer r k uses o text) e (on_words q is answer)

  pub for_file : (w : Request commands) → command_of commands w ≡ c → IsRequest commands uses w → (file : Text) → file_of commands w ≡ Some file
      → IfSome (r.held file) (λ bytes. Defined commands w bytes o text) → CallAnswer r c uses o text
  for_file (of d q) e is file names defined = subst (λ (k : Command). CallAnswer r k uses o text) e (on_file q is file names defined)

  pub for_both : (w : Request commands) → command_of commands w ≡ c → IsRequest commands uses w → (file second : Text) → file_of commands w ≡ Some file
      → second_of commands w ≡ Some second → (other : List ℕ) → IfSome (r.held_second second) (λ all. other ≡ all)
      → IfSome (r.held file) (λ bytes. DefinedWith commands w bytes other o text) → CallAnswer r c uses o text
  for_both (of d q) e is file second names names_second other all defined = subst (λ (k : Command). CallAnswer r k uses o text) e
      (on_both q is file second names names_second other all defined)

-- ---- runs

pub call_answer : (r : Run) (o : Outcome) (text : Told) → Answers commands r o text → (c : Command) (uses : List Use) → IsCallOf (row_for c) r.words uses
    → CallAnswer (call_of r) c uses o text
call_answer r o text (by_words a) c uses call =
    for_words (call_of r) c uses o text a.request (is_of (call_of r) c uses call a.request a.asks) (by_them (call_of r) c uses call a.request a.asks) a.answer
call_answer r o text (by_file a) c uses call =
    for_file (call_of r) c uses o text a.request (is_of (call_of r) c uses call a.request a.asks) (by_them (call_of r) c uses call a.request a.asks)
    a.file a.names_it a.defined
call_answer r o text (by_both a) c uses call =
    for_both (call_of r) c uses o text a.request (is_of (call_of r) c uses call a.request a.asks) (by_them (call_of r) c uses call a.request a.asks)
    a.file a.second a.names_it a.names_second a.other a.all a.defined

-- a run that ends with yes or no gave its answer
pub gave : (r : Run) (code : ℕ) (o : Outcome) (text : Told) → code ≡ code_of o → Ends commands r o text → code ≤ 1 → Gave (call_of r) o text
gave r code Yes text c h small = record { answers = call_answer r Yes text h.answers; whole = h.whole }
gave r code No text c h small = record { answers = call_answer r No text h.answers; whole = h.whole }
gave r code o text c h small = absurd (omega (arith, c, small))

-- ---- what is held under a name

-- the bytes under the name that a request gives, and what follows of them
pub under_name : (held : Text → Option (List ℕ)) (name file : Text) (P Q : List ℕ → Type 0) → ((bytes : List ℕ) → P bytes → Q bytes) → Some name ≡ Some file
    → IfSome (held file) P → IfSome (held name) Q
under_name held name file P Q f e h = mapped (held name) P Q f (subst (λ n. IfSome (held n) P) (sym (same_Some name file e)) h)

-- the same of two names
pub under_names : (held also : Text → Option (List ℕ)) (name file other second : Text) (P Q : List ℕ → List ℕ → Type 0)
    → ((bytes more : List ℕ) → P bytes more → Q bytes more)
    → Some name ≡ Some file → Some other ≡ Some second → IfSome (held file) (λ bytes. IfSome (also second) (λ more. P bytes more))
    → IfSome (held name) (λ bytes. IfSome (also other) (λ more. Q bytes more))
under_names held also name file other second P Q f e g h =
    under_name held name file (λ bytes. IfSome (also second) (λ more. P bytes more)) (λ bytes. IfSome (also other) (λ more. Q bytes more))
    (λ bytes k. under_name also other second (λ more. P bytes more) (λ more. Q bytes more) (f bytes) g k) e h

-- what is answered to a call of a command that has a file alone, and was written, was written for the request
module _ (r : Call) (c : Command) (uses : List Use) (o : Outcome) (text : Told) (file : (form_of c).Request → Text)
    (shows : (form_of c).Request → (bytes : List ℕ) (text : Told) → Type 0)
    (wordless : (q : (form_of c).Request) → WordsAnswer commands (of c q) o text → ⊥)
    (names : (q : (form_of c).Request) → file_of commands (of c q) ≡ Some (file q))
    (single : (q : (form_of c).Request) → second_of commands (of c q) ≡ None)
    (shown : (q : (form_of c).Request) → IsRequest commands uses (of c q) → (bytes : List ℕ) → Defined commands (of c q) bytes o text
    → shows q bytes text) where
  pub written_for : Appends r.before r.after text.text → CallAnswer r c uses o text → WrittenFor (λ us q. IsRequest commands us (of c q)) file shows r uses
  written_for whole (on_words q is h) = absurd (wordless q h)
  written_for whole (on_file q is name named h) = record {
    request = q;
    told = text;
    asks = is;
    right = under_name r.held (file q) name (λ bytes. Defined commands (of c q) bytes o text) (λ bytes. shows q bytes text) (shown q is)
        (sym (names q) ∙ named) h;
    whole = whole;
  }
  written_for whole (on_both q is name second named named_second other all h) = absurd (none-some second (sym (single q) ∙ named_second))
