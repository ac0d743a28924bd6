-- A run whose inputs are told has one defined answer at most, as far as its outcome goes.
use Rattle.std.proofs.Common.{◌≡◌, ◌⊎◌, ℕ, true, false, List, Option, Some, None, inl, inr, refl, sym, ap, ◌∙◌, subst, arith}
use Rattle.std.proofs.lemmas.Option.{same_Some}
use Rattle.std.proofs.lemmas.Bool.{false≢true}
use Rattle.std.specs.Prelude.{IfSome}
use Rattle.std.specs.Option.{option_or}
use Rattle.command_words.specs.Vocabulary.{Text}
use Rattle.diagram.specs.declared.diagram.Diagram.{Diagram}
use Rattle.diagram.proofs.OneDiagram.{AreSameDiagrams}
use Rattle.replies.specs.declared.outcome.Outcome.{Outcome}
use Rattle.replies.specs.declared.outcome.Outcome.TheVariants.{Graph}
use Rattle.replies.specs.Vocabulary.{HoldsDiagram, IsAnswerOn, IsGraphRefusal, too_long, faulty}
use Rattle.replies.specs.Told.{Told}
use Rattle.replies.specs.OneOutcome.{OneOutcome}
use Rattle.dag_reader.proofs.OneReading.{reads_either}
use Rattle.replies.proofs.OneGraph.{one_holding}
use Rattle.command_run.specs.Commands.{CommandSet, Request, of, file_of, second_of, Asks, IsFixed}
use Rattle.command_run.specs.Laws.{AreLawful}
use Rattle.command_run.specs.Answers.{WordsAnswer, DiagramAnswer, NeedsSecond, SecondAnswer, HoldsAnswer, Defined}
use Rattle.command_run.specs.Answers.{Continues, DefinedWith}
use Rattle.command_run.specs.Run.{Run, AnswersFile, AnswersBoth, Answers, by_words, by_file, by_both, ReadsName}
use Rattle.command_run.specs.Complete.{InputsAreKnown, IsFixedAnswer}
use Rattle.command_run.proofs.OneRequest.{one_request}

-- the answer to a request, by the bytes of its file, or by those of both inputs
record ByFile (s : CommandSet) (r : Run) (w : Request s) (o : Outcome) (text : Told) : Type 0 where
  file : Text
  bytes : List ℕ
  names : file_of s w ≡ Some file
  there : r.kept ≡ None → r.lacks file ≡ false
  held : option_or r.kept (r.held file) ≡ Some bytes
  defined : Defined s w bytes o text

record ByBoth (s : CommandSet) (r : Run) (w : Request s) (o : Outcome) (text : Told) : Type 0 where
  file : Text
  second : Text
  bytes : List ℕ
  other : List ℕ
  names : file_of s w ≡ Some file
  names_second : second_of s w ≡ Some second
  there : r.kept ≡ None → r.lacks file ≡ false
  second_there : r.lacks second ≡ false
  held : option_or r.kept (r.held file) ≡ Some bytes
  held_second : r.held second ≡ Some other
  accepted : Continues s w bytes
  defined : DefinedWith s w bytes other o text

-- the answer to a request
abbrev ByAny : (s : CommandSet) → Run → Request s → Outcome → Told → Type 0
ByAny s r w o text = WordsAnswer s w o text ⊎ (ByFile s r w o text ⊎ ByBoth s r w o text)

-- the request fixes its outcome
abbrev IsFixedBy : (s : CommandSet) (r : Run) (w : Request s) (o : Outcome) (text : Told) → ByAny s r w o text → Type 0
IsFixedBy s r w o text (inl a) = Unit {0}
IsFixedBy s r w o text (inr (inl a)) = Unit {0}
IsFixedBy s r w o text (inr (inr a)) = IsFixed s w

-- what is said of bytes is said of those that are told
of_told : (held : Option (List ℕ)) (bytes : List ℕ) (P : List ℕ → Type 0) → held ≡ Some bytes → IfSome held P → P bytes
of_told held bytes P e h = subst (λ (o : Option (List ℕ)). IfSome o P) e h

-- the words of a defined answer ask for something
pub asked : (s : CommandSet) (r : Run) (o : Outcome) (text : Told) → Answers s r o text → (q : Request s) × Asks s r.words q
asked s r o text (by_words a) = (a.request, a.asks)
asked s r o text (by_file a) = (a.request, a.asks)
asked s r o text (by_both a) = (a.request, a.asks)

-- one name holds one run of bytes
same_bytes : (held : Text → Option (List ℕ)) (name : Option Text) (file other : Text) (bytes more : List ℕ) → name ≡ Some file → name ≡ Some other
    → held file ≡ Some bytes → held other ≡ Some more → more ≡ bytes
same_bytes held name file other bytes more a b c d = same_Some more bytes (sym d ∙ ap (λ (n : Text). held n) (same_Some other file (sym b ∙ a)) ∙ c)

-- what stands for a file of the run
abbrev of_file : Run → Text → Option (List ℕ)
of_file r file = option_or r.kept (r.held file)

module _ (s : CommandSet) (laws : AreLawful s) where
  -- ---- what each command answers

  pub words_once : (w : Request s) → OneOutcome (WordsAnswer s w)
  words_once (of c q) = (laws.each c).words_once q

  -- a request that words alone answer has no file
  pub words_alone : (w : Request s) (file : Text) (o : Outcome) (text : Told) → WordsAnswer s w o text → file_of s w ≡ Some file → ⊥
  words_alone (of c q) file o text a names = (laws.each c).no_file q o text a file names

  on_diagram : (w : Request s) (bytes : List ℕ) → OneOutcome (IsAnswerOn bytes (λ d. DiagramAnswer s w d))
  on_diagram (of c q) bytes = (laws.each c).diagram_once q bytes

  on_both : (w : Request s) → IsFixed s w → (bytes other : List ℕ) → OneOutcome (IsAnswerOn bytes (λ d. SecondAnswer s w d other))
  on_both (of c q) fixed bytes other = (laws.each c).both_once q fixed bytes other

  -- a request that the file alone answers reads no second input
  file_alone : (w : Request s) (second : Text) (d e : Diagram) → AreSameDiagrams d e → second_of s w ≡ Some second → (o : Outcome) (text : Told)
      → DiagramAnswer s w d o text → NeedsSecond s w e → ⊥
  file_alone (of c q) second d e same names o text a n = (laws.each c).file_alone q second d e same names o text a n

  -- ---- what bytes answer

  -- bytes that hold a diagram are no refused graph
  held_or_refused : (bytes : List ℕ) (d : Diagram) (line : Told) → HoldsDiagram bytes d → IsGraphRefusal bytes line → ⊥
  held_or_refused bytes d line h (too_long long is) = absurd (let small = h.small in omega (arith, small, long))
  held_or_refused bytes d line h (faulty fault short ne reads is) = reads_either bytes d.read fault h.reads ne reads

  -- a defined answer is a refused graph, or one on a diagram
  split : (w : Request s) (bytes : List ℕ) (o : Outcome) (text : Told) → Defined s w bytes o text → ((o ≡ Graph) × IsGraphRefusal bytes text)
      ⊎ HoldsAnswer s w bytes o text
  split w bytes Graph text (inl r) = inl (refl, r)
  split w bytes Graph text (inr h) = inr h
  split w bytes o text h = inr h

  pub defined_once : (w : Request s) (bytes : List ℕ) → OneOutcome (Defined s w bytes)
  defined_once w bytes o p text line a b = go (split w bytes o text a) (split w bytes p line b)
    where
      go : ((o ≡ Graph) × IsGraphRefusal bytes text) ⊎ HoldsAnswer s w bytes o text → ((p ≡ Graph) × IsGraphRefusal bytes line) ⊎ HoldsAnswer s w bytes p line
          → o ≡ p
      go (inl x) (inl y) = x.0 ∙ sym y.0
      go (inl x) (inr y) = absurd (held_or_refused bytes y.diagram text y.holds x.1)
      go (inr x) (inl y) = absurd (held_or_refused bytes x.diagram line x.holds y.1)
      go (inr x) (inr y) = on_diagram w bytes o p text line (record { diagram = x.diagram; holds = x.holds; given = x.answer })
          (record { diagram = y.diagram; holds = y.holds; given = y.answer })

  -- where the file alone is answered, the second input isn't read
  pub alone : (w : Request s) (second : Text) (bytes : List ℕ) (o : Outcome) (text : Told) → second_of s w ≡ Some second → Defined s w bytes o text
      → Continues s w bytes → ⊥
  alone w second bytes o text names a c = go (split w bytes o text a)
    where
      go : ((o ≡ Graph) × IsGraphRefusal bytes text) ⊎ HoldsAnswer s w bytes o text → ⊥
      go (inl x) = held_or_refused bytes c.0 text c.1 x.1
      go (inr x) = file_alone w second x.diagram c.0 (one_holding bytes x.diagram c.0 x.holds c.1) names o text x.answer c.2

  pub with_once : (w : Request s) → IsFixed s w → (bytes other : List ℕ) → OneOutcome (DefinedWith s w bytes other)
  with_once w fixed bytes other o p text line a b =
      on_both w fixed bytes other o p text line (record { diagram = a.0; holds = a.1; given = a.3 }) (record { diagram = b.0; holds = b.1; given = b.3 })

  -- what stands for the file is told
  file_told : (r : Run) → InputsAreKnown s r → (w : Request s) → Asks s r.words w → (file : Text) → file_of s w ≡ Some file
      → (r.kept ≡ None → r.lacks file ≡ false) → (bytes : List ℕ) × (of_file r file ≡ Some bytes)
  file_told r told w asks file names there = go r.kept refl
    where
      go : (k : Option (List ℕ)) → r.kept ≡ k → (bytes : List ℕ) × (option_or k (r.held file) ≡ Some bytes)
      go None none = told w asks file (ReadsName.file none names) (there none)
      go (Some text) is = (text, refl)

  module _ (r : Run) (told : InputsAreKnown s r) (w : Request s) (asks : Asks s r.words w) (o : Outcome) (text : Told) where
    same : (q : Request s) → Asks s r.words q → q ≡ w
    same q a = one_request s laws r.words w q asks a

    from_file : AnswersFile s r o text → ByFile s r w o text
    from_file a =
        let e = same a.request a.asks in
        let names : file_of s w ≡ Some a.file = subst (λ (q : Request s). file_of s q ≡ Some a.file) e a.names_it in
        let held = file_told r told w asks a.file names a.there in record {
          file = a.file;
          bytes = held.0;
          names = names;
          there = a.there;
          held = held.1;
          defined = of_told (of_file r a.file) held.0 (λ bytes. Defined s w bytes o text) held.1
              (subst (λ (q : Request s). IfSome (of_file r a.file) (λ bytes. Defined s q bytes o text)) e a.defined);
        }

    from_both : AnswersBoth s r o text → ByBoth s r w o text
    from_both a =
        let e = same a.request a.asks in
        let names : file_of s w ≡ Some a.file = subst (λ (q : Request s). file_of s q ≡ Some a.file) e a.names_it in
        let names_second : second_of s w ≡ Some a.second = subst (λ (q : Request s). second_of s q ≡ Some a.second) e a.names_second in
        let accepted : IfSome (of_file r a.file) (λ bytes. Continues s w bytes) =
        subst (λ (q : Request s). IfSome (of_file r a.file) (λ bytes. Continues s q bytes)) e a.accepted in
        let held = file_told r told w asks a.file names a.there in
        let held_second = told w asks a.second (ReadsName.second a.file names names_second a.there accepted) a.second_there in
        let all : a.other ≡ held_second.0 = of_told (r.held a.second) held_second.0 (λ (bytes : List ℕ). a.other ≡ bytes) held_second.1 a.all in
        let defined = of_told (of_file r a.file) held.0 (λ bytes. DefinedWith s w bytes a.other o text) held.1
        (subst (λ (q : Request s). IfSome (of_file r a.file) (λ bytes. DefinedWith s q bytes a.other o text)) e a.defined) in
        record {
          file = a.file;
          second = a.second;
          bytes = held.0;
          other = held_second.0;
          names = names;
          names_second = names_second;
          there = a.there;
          second_there = a.second_there;
          held = held.1;
          held_second = held_second.1;
          accepted = of_told (of_file r a.file) held.0 (λ bytes. Continues s w bytes) held.1 accepted;
          defined = subst (λ (other : List ℕ). DefinedWith s w held.0 other o text) all defined;
        }

    from_any : Answers s r o text → ByAny s r w o text
    from_any (by_words a) = inl (subst (λ (q : Request s). WordsAnswer s q o text) (same a.request a.asks) a.answer)
    from_any (by_file a) = inr (inl (from_file a))
    from_any (by_both a) = inr (inr (from_both a))

    fixed_any : (a : Answers s r o text) → IsFixedAnswer s r o text a → IsFixedBy s r w o text (from_any a)
    unfolding from_any
    fixed_any (by_words a) f = tt
    fixed_any (by_file a) f = tt
    fixed_any (by_both a) f = subst (λ (q : Request s). IsFixed s q) (same a.request a.asks) f

  module _ (r : Run) (w : Request s) (o p : Outcome) (text line : Told) where
    two_files : ByFile s r w o text → ByFile s r w p line → o ≡ p
    two_files a b = defined_once w a.bytes o p text line a.defined
        (subst (λ (bytes : List ℕ). Defined s w bytes p line)
        (same_bytes (of_file r) (file_of s w) a.file b.file a.bytes b.bytes a.names b.names a.held b.held) b.defined)

    file_and_both : ByFile s r w o text → ByBoth s r w p line → ⊥
    file_and_both a b = alone w b.second a.bytes o text b.names_second a.defined
        (subst (λ (bytes : List ℕ). Continues s w bytes)
        (same_bytes (of_file r) (file_of s w) a.file b.file a.bytes b.bytes a.names b.names a.held b.held) b.accepted)

    two_both : IsFixed s w → ByBoth s r w o text → ByBoth s r w p line → o ≡ p
    two_both fixed a b = with_once w fixed a.bytes a.other o p text line a.defined
        (subst (λ (bytes : List ℕ). DefinedWith s w bytes a.other p line)
        (same_bytes (of_file r) (file_of s w) a.file b.file a.bytes b.bytes a.names b.names a.held b.held)
        (subst (λ (other : List ℕ). DefinedWith s w b.bytes other p line)
        (same_bytes r.held (second_of s w) a.second b.second a.other b.other a.names_second b.names_second a.held_second b.held_second) b.defined))

  joined : (r : Run) (w : Request s) (o p : Outcome) (text line : Told) → ByAny s r w o text → (b : ByAny s r w p line) → IsFixedBy s r w p line b → o ≡ p
  joined r w o p text line (inl a) (inl b) f = words_once w o p text line a b
  joined r w o p text line (inl a) (inr (inl b)) f = absurd (words_alone w b.file o text a b.names)
  joined r w o p text line (inl a) (inr (inr b)) f = absurd (words_alone w b.file o text a b.names)
  joined r w o p text line (inr (inl a)) (inl b) f = absurd (words_alone w a.file p line b a.names)
  joined r w o p text line (inr (inl a)) (inr (inl b)) f = two_files r w o p text line a b
  joined r w o p text line (inr (inl a)) (inr (inr b)) f = absurd (file_and_both r w o p text line a b)
  joined r w o p text line (inr (inr a)) (inl b) f = absurd (words_alone w a.file p line b a.names)
  joined r w o p text line (inr (inr a)) (inr (inl b)) f = absurd (file_and_both r w p o line text b a)
  joined r w o p text line (inr (inr a)) (inr (inr b)) f = two_both r w o p text line f a b

  -- a defined answer of a run whose inputs are told has the outcome of each that is fixed
  pub one_answer : (r : Run) → InputsAreKnown s r → (o p : Outcome) (text line : Told) → Answers s r o text → (b : Answers s r p line)
      → IsFixedAnswer s r p line b → o ≡ p
  one_answer r told o p text line a b fixed =
      let q = asked s r o text a in
      joined r q.0 o p text line (from_any r told q.0 q.1 o text a) (from_any r told q.0 q.1 p line b) (fixed_any r told q.0 q.1 p line b fixed)

  -- ---- inputs that are lacked

  -- a name that is lacked is none of those that a defined answer was read of
  module _ (r : Run) (w : Request s) (name : Text) (lacked : r.lacks name ≡ true) (o : Outcome) (text : Told) where
    -- another name, which isn't lacked
    is_other : (known : Option Text) (other : Text) → known ≡ Some name → known ≡ Some other → r.lacks other ≡ false → ⊥
    is_other known other a b there =
        false≢true (sym there ∙ ap (λ (n : Text). r.lacks n) (same_Some other name (sym b ∙ a)) ∙ lacked)

    not_of_file : ByFile s r w o text → ReadsName s r w name → ⊥
    not_of_file a (ReadsName.file none names) = is_other (file_of s w) a.file names a.names (a.there none)
    not_of_file a (ReadsName.second file names names_second there accepted) =
        let e = same_Some file a.file (sym names ∙ a.names) in
        alone w name a.bytes o text names_second a.defined
        (of_told (of_file r a.file) a.bytes (λ bytes. Continues s w bytes) a.held
        (subst (λ (n : Text). IfSome (of_file r n) (λ bytes. Continues s w bytes)) e accepted))

    not_of_both : ByBoth s r w o text → ReadsName s r w name → ⊥
    not_of_both a (ReadsName.file none names) = is_other (file_of s w) a.file names a.names (a.there none)
    not_of_both a (ReadsName.second file names names_second there accepted) =
        is_other (second_of s w) a.second names_second a.names_second a.second_there

    not_of_words : WordsAnswer s w o text → ReadsName s r w name → ⊥
    not_of_words a (ReadsName.file none names) = words_alone w name o text a names
    not_of_words a (ReadsName.second file names names_second there accepted) = words_alone w file o text a names

    not_of_any : ByAny s r w o text → ReadsName s r w name → ⊥
    not_of_any (inl a) is = not_of_words a is
    not_of_any (inr (inl a)) is = not_of_file a is
    not_of_any (inr (inr a)) is = not_of_both a is

  -- where an input that is read is lacked, a run whose inputs are told has no defined answer
  pub none_lacked : (r : Run) → InputsAreKnown s r → (w : Request s) → Asks s r.words w → (name : Text) → ReadsName s r w name → r.lacks name ≡ true
      → (o : Outcome) (text : Told) → Answers s r o text → ⊥
  none_lacked r told w asks name is lacked o text a = not_of_any r w name lacked o text (from_any r told w asks o text a) is
