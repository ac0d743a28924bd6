-- From what was read to the reply, and from a reply that was delivered to the end of the run.
use Rattle.std.proofs.Common.{◌≡◌, ℕ, ◌<◌, ◌≤◌, arith, Bool, true, false, List, [], Option, Some, None, IfSome, IfOk, Result, Ok, Err, length, inl, ◌∙◌}
use Rattle.std.proofs.Common.{refl, sym, ap, subst}
use Rattle.std.specs.Prelude.{IfErr, OnOk, OnErr, take}
use Rattle.std.specs.Option.{option_or}
use Rattle.std.proofs.Math.Seq.{take-length}
use Rattle.std.proofs.KnownBytes.{Appends-nil}
use Rattle.std.proofs.lemmas.Bool.{false≢true}
use Rattle.std.proofs.lemmas.Option.{none-some}
use Rattle.std.specs.Global.{Vec}
use Rattle.command_words.specs.Vocabulary.{Text}
use Rattle.causal_io.specs.declared.ReadError.{ReadError}
use Rattle.causal_io.specs.declared.ReadError.TheVariants.{Fault, TooLong, NoMemory}
use Rattle.causal_io.specs.Vocabulary.{Rose, AnswersAll}
use Rattle.std.specs.Io.KnownBytes.{Appends}
use Rattle.replies.specs.declared.outcome.Outcome.{Outcome}
use Rattle.replies.specs.declared.format.Format.{Format}
use Rattle.replies.specs.declared.outcome.Outcome.TheVariants.{Yes, No, Words, Graph, Second, Evaluation, Read, Write, Memory}
use Rattle.replies.specs.declared.outcome.Reply.{Reply}
use Rattle.replies.specs.Vocabulary.{told_of, IsAnswered, Remainder, too_long, HoldsDiagram}
use Rattle.replies.specs.Told.{Told}
use Rattle.command_run.specs.Commands.{CommandSet, Request, Asks, HasFormat, file_of}
use Rattle.command_run.specs.Laws.{AreLawful}
use Rattle.diagram.specs.declared.diagram.Diagram.{Diagram}
use Rattle.command_run.specs.Answers.{WordsAnswer, DiagramAnswer, RefusesAs, RefusesBytes, Defined, Continues, DefinedWith, GivesSecond}
use Rattle.command_run.specs.Answers.{IsAnsweredWith, IsLeft}
use Rattle.command_run.specs.Run.{Stream, Run, Answers, Received, ReceivedLine, by_words, by_file, by_both, file as reads_file, second, Refused, Ends}
use Rattle.command_run.specs.Shown.{object_in, shown}
use Rattle.command_run.specs.Ends.{FailedRead, Replied, RepliesWith, IsTextOf, IsOfFile, WereRead, IsReadOf, TellsUnread, IsMade, GivesOnRead, written_for}
use Rattle.command_run.specs.Ends.{EndsWith, Delivers, written, unwritten, silent, IsTooLongAs, Proceeds, replied, unread, no_memory}
use Rattle.command_run.proofs.Answered.{long, long_more, words_answered, diagram_answered, long_answered, names_left, needs, second_answer}
use Rattle.command_run.proofs.Definitions.{defined_on}

-- what holds of the bytes that were read holds of those that are held, where they are told
pub told : (held : Option (List ℕ)) (items : List ℕ) (P : List ℕ → Type 0) → IfSome held (λ all. items ≡ all) → P items → IfSome held P
told None items P h p = tt
told (Some all) items P h p = subst P h p

pub mapped : (held : Option (List ℕ)) (P Q : List ℕ → Type 0) → ((all : List ℕ) → P all → Q all) → IfSome held P → IfSome held Q
mapped None P Q f h = tt
mapped (Some all) P Q f h = f all h

-- bytes that are more than a limit: those that are held, where they are told
more_than : (limit : ℕ) (held : Option (List ℕ)) → IfSome held (λ all. limit < length all)
    → (other : List ℕ) × (limit < length other) × IfSome held (λ all. other ≡ all)
more_than limit None h = (long limit, long_more limit, tt)
more_than limit (Some all) h = (all, h, refl)

-- a test that can't be true is false
pub not_true : (b : Bool) → (b ≡ true → ⊥) → b ≡ false
not_true true n = absurd (n refl)
not_true false n = refl

-- ---- the diagram of a file

-- what is held under the name of a file stands for it where no text does
pub of_name : (kept held : Option (List ℕ)) (P : List ℕ → Type 0) → kept ≡ None → IfSome held P → IfSome (option_or kept held) P
of_name kept held P none h = subst (λ k. IfSome (option_or k held) P) (sym none) h

-- a text that is kept holds the diagram that is given
pub of_given : (kept : Option (List ℕ)) (held : Text → Option (List ℕ)) (lacks : Text → Bool) (file : Text) (given : Option Diagram) (d : Diagram)
    → given ≡ Some d → IsTextOf kept given → IsOfFile kept held lacks file d
of_given kept held lacks file given d is text = go kept (subst (IsTextOf kept) is text)
  where
    go : (k : Option (List ℕ)) → IsTextOf k (Some d) → IsOfFile k held lacks file d
    go None h = absurd h
    go (Some text) h = record { there = λ none. absurd (none-some text (sym none)); holds = h }

-- what was read of a file that isn't lacked was read of it as the shelf is then
pub were_read : (held held_after : Text → Option (List ℕ)) (lacks lacks_after : Text → Bool) (file : Text) (items bytes : List ℕ) → held_after ≡ held
    → lacks_after ≡ lacks → (lacks file ≡ true → ⊥) → IfSome (held file) (λ all. items ≡ all) → length items ≤ 1048576 → bytes ≡ items
    → WereRead held_after lacks_after file bytes
were_read held held_after lacks lacks_after file items bytes same_held same_lacks there is small same =
    subst (WereRead held_after lacks_after file) (sym same) (subst (λ h. WereRead h lacks_after file items) (sym same_held)
    (subst (λ l. WereRead held l file items) (sym same_lacks) (record { all = is; there = not_true (lacks file) there; small = small })))

-- the diagram of what was read is that of the file
pub of_read : (held : Text → Option (List ℕ)) (lacks : Text → Bool) (file : Text) (bytes : List ℕ) (d : Diagram) → WereRead held lacks file bytes
    → HoldsDiagram bytes d → IsOfFile None held lacks file d
of_read held lacks file bytes d read holds = record {
  there = λ none. read.there;
  holds = told (held file) bytes (λ all. HoldsDiagram all d) read.all holds;
}

-- none is kept where none is given
pub none_kept : (kept : Option (List ℕ)) (given : Option Diagram) → given ≡ None → IsTextOf kept given → kept ≡ None
none_kept kept given is text = go kept (subst (IsTextOf kept) is text)
  where
    go : (k : Option (List ℕ)) → IsTextOf k None → k ≡ None
    go None h = refl
    go (Some text) h = absurd h

-- a count that rose after it stood higher rose
rose_since : (before middle after : ℕ) → before ≤ middle → Rose middle after → Rose before after
rose_since before middle after h r = omega (arith, h, r)

-- ---- replies

module _ (s : CommandSet) (laws : AreLawful s) where
  -- the defined answer is a reply
  an_answer : (r : Run) (o : Outcome) (text : Told) → IsAnswered o → Answers s r o text → Replied s r o text
  an_answer r Words text only a = absurd only
  an_answer r Read text only a = absurd only
  an_answer r Write text only a = absurd only
  an_answer r Memory text only a = absurd only
  an_answer r o text only a = a

  -- the words ask for nothing
  pub not_understood : (r : Run) (reply : Reply) → reply.outcome ≡ Words → ((w : Request s) → Asks s r.words w → ⊥) → RepliesWith s r reply
  not_understood r reply is none = subst (λ o. Replied s r o (told_of reply)) (sym is) none

  -- memory was refused
  pub no_room : (r : Run) (reply : Reply) → reply.outcome ≡ Memory → RepliesWith s r reply
  no_room r reply is = subst (λ o. Replied s r o (told_of reply)) (sym is) tt

  -- the reply on the words alone
  pub replied_words : (r : Run) (w : Request s) (reply : Reply) → Asks s r.words w → WordsAnswer s w reply.outcome (told_of reply) → RepliesWith s r reply
  replied_words r w reply asks a = an_answer r reply.outcome (told_of reply) (words_answered s laws w reply.outcome (told_of reply) a)
      (by_words (record { request = w; asks = asks; answer = a }))

  -- on the diagram of the file of a request that the words ask for
  module _ (r : Run) (w : Request s) (file : Text) (d : Diagram) (reply : Reply) (asks : Asks s r.words w) (names : file_of s w ≡ Some file)
      (stands : IsOfFile r.kept r.held r.lacks file d) where
    -- the reply on the file alone
    pub replied_file : DiagramAnswer s w d reply.outcome (told_of reply) → RepliesWith s r reply
    replied_file a = an_answer r reply.outcome (told_of reply) (diagram_answered s laws w d reply.outcome (told_of reply) a) (by_file (record {
      request = w;
      asks = asks;
      file = file;
      names_it = names;
      there = stands.there;
      defined = mapped (option_or r.kept (r.held file)) (λ all. HoldsDiagram all d) (λ all. Defined s w all reply.outcome (told_of reply))
          (λ all holds. defined_on s w all d reply.outcome (told_of reply) holds a) stands.holds;
    }))

    -- the second input was read, over the shelf as the first read left it
    module _ (l : Remainder) (held : Text → Option (List ℕ)) (lacks : Text → Bool) (faults : Text → ℕ) (is : IsLeft s w d l)
        (same_held : held ≡ r.held) (same_lacks : lacks ≡ r.lacks) (grown : (name : Text) → r.read_faults name ≤ faults name) where
      accepted_file : IfSome (option_or r.kept (r.held file)) (λ all. Continues s w all)
      accepted_file = mapped (option_or r.kept (r.held file)) (λ all. HoldsDiagram all d) (λ all. Continues s w all)
          (λ all holds. (d, holds, needs s w d l is)) stands.holds

      -- the answer on the bytes of both
      answer_with : (all other : List ℕ) → HoldsDiagram all d → GivesSecond l other reply → DefinedWith s w all other reply.outcome (told_of reply)
      answer_with all other holds gives = (d, holds, needs s w d l is, second_answer s w d l other reply is gives)

      pub proceeded : Proceeds held lacks faults r.read_faults_after l reply → RepliesWith s r reply
      proceeded (replied only second_there other all gives) = an_answer r reply.outcome (told_of reply) only (by_both (record {
        request = w;
        asks = asks;
        file = file;
        names_it = names;
        second = l.second;
        names_second = names_left s w d l is;
        there = stands.there;
        second_there = subst (λ f. f l.second ≡ false) same_lacks second_there;
        accepted = accepted_file;
        other = other;
        all = subst (λ h. IfSome (h l.second) (λ bytes. other ≡ bytes)) same_held all;
        defined = mapped (option_or r.kept (r.held file)) (λ bytes. HoldsDiagram bytes d)
            (λ bytes. DefinedWith s w bytes other reply.outcome (told_of reply)) (λ bytes holds. answer_with bytes other holds gives) stands.holds;
      }))
      proceeded (unread same rose) =
          let failed : FailedRead s r = record {
            request = w;
            asks = asks;
            name = l.second;
            is_read = second file names (names_left s w d l is) stands.there accepted_file;
            rose = rose_since (r.read_faults l.second) (faults l.second) (r.read_faults_after l.second) (grown l.second) rose;
          } in
          subst (λ o. Replied s r o (told_of reply)) (sym same) failed
      proceeded (no_memory same) = no_room r reply same

  -- where no text is kept, and the file isn't lacked
  module _ (r : Run) (w : Request s) (file : Text) (asks : Asks s r.words w) (names : file_of s w ≡ Some file) (none : r.kept ≡ None)
      (there : r.lacks file ≡ false) where
    -- the answer on what is held
    by_held : (o : Outcome) (text : Told) → IfSome (r.held file) (λ all. Defined s w all o text) → Answers s r o text
    by_held o text h = by_file (record {
      request = w;
      asks = asks;
      file = file;
      names_it = names;
      there = λ e. there;
      defined = of_name r.kept (r.held file) (λ all. Defined s w all o text) none h;
    })

    -- the reply to a text that is too long
    long_file : IfSome (r.held file) (λ all. 1048576 < length all) → (o : Outcome) (text : Told) → IsTooLongAs o text → Replied s r o text
    long_file held Graph line long = by_held Graph line
        (mapped (r.held file) (λ all. 1048576 < length all) (λ all. Defined s w all Graph line) (λ all h. inl (too_long h long)) held)
    long_file held Memory line long = tt
    long_file held o line long = absurd long

    -- the reply to bytes that hold no diagram
    refused_bytes : (bytes : List ℕ) → IfSome (r.held file) (λ all. bytes ≡ all) → (o : Outcome) (text : Told) → RefusesAs bytes o text
        → Replied s r o text
    refused_bytes bytes held Graph line h = by_held Graph line (told (r.held file) bytes (λ all. Defined s w all Graph line) held (inl h))
    refused_bytes bytes held Memory line h = tt
    refused_bytes bytes held o line h = absurd h

    pub refused_file : (bytes : List ℕ) (reply : Reply) → IfSome (r.held file) (λ all. bytes ≡ all) → RefusesBytes bytes reply → RepliesWith s r reply
    refused_file bytes reply held h = refused_bytes bytes held reply.outcome (told_of reply) h

  -- the file couldn't be read whole
  pub unread_file : (r : Run) (w : Request s) (name : Text) (f : ReadError) (reply : Reply) → Asks s r.words w → file_of s w ≡ Some name → r.kept ≡ None
      → IsReadOf (r.held name) (r.lacks name) (r.read_faults name) (r.read_faults_after name) 1048576 (Err f)
      → TellsUnread f reply → RepliesWith s r reply
  unread_file r w name Fault reply asks names none h is =
      let failed : FailedRead s r = record { request = w; asks = asks; name = name; is_read = reads_file none names; rose = h.failed refl } in
      subst (λ o. Replied s r o (told_of reply)) (sym is) failed
  unread_file r w name (TooLong most) reply asks names none h long =
      long_file r w name asks names none (not_true (r.lacks name) (λ t. let e = h.lacked t in cc e)) h.answer.1 reply.outcome (told_of reply) long
  unread_file r w name NoMemory reply asks names none h is = no_room r reply is

-- ---- the second input

-- bytes that were read before are what is read of an input of the same name
pub read_again : (held : Option (List ℕ)) (lacks : Bool) (faults limit : ℕ) (bytes : List ℕ) (r : Result (Vec ℕ) ReadError) → IfSome held (λ all. bytes ≡ all)
    → lacks ≡ false → length bytes ≤ limit
    → IfOk r (λ copy. copy.items ≡ bytes) → IfErr r (λ f. f ≡ NoMemory) → IsReadOf held lacks faults faults limit r
read_again held lacks faults limit bytes (Ok copy) told_it there small same memory = record {
  answer = (
    subst (λ (xs : List ℕ). length xs ≤ limit) (sym same) small,
    mapped held (λ all. bytes ≡ all) (λ all. copy.items ≡ all) (λ all e. same ∙ e) told_it,
  );
  lacked = λ t. absurd (false≢true (sym there ∙ t));
  failed = λ e. cc e;
}
read_again held lacks faults limit bytes (Err f) told_it there small same memory =
    subst (λ (k : ReadError). IsReadOf held lacks faults faults limit (Err k)) (sym memory) (record {
      answer = tt;
      lacked = λ t. absurd (false≢true (sym there ∙ t));
      failed = λ e. cc e;
    })

-- what was read is within the limit
pub within : (held : Option (List ℕ)) (limit : ℕ) (r : Result (Vec ℕ) ReadError) → AnswersAll held limit r → IfOk r (λ other. length other.items ≤ limit)
within held limit (Ok other) a = a.0
within held limit (Err f) a = tt

module _ (held : Text → Option (List ℕ)) (lacks : Text → Bool) (faults faults_after : Text → ℕ) (l : Remainder) (only : IsAnsweredWith l) where
  -- the reply on what was read of the second input
  given_on : (reply : Reply) (read : Result (Vec ℕ) ReadError)
      → IsReadOf (held l.second) (lacks l.second) (faults l.second) (faults_after l.second) (l.limit) read → GivesOnRead l read reply
      → Proceeds held lacks faults faults_after l reply
  given_on reply (Ok other) h gives = replied (only other.items reply.outcome (told_of reply) gives)
      (not_true (lacks l.second) (λ t. let e = h.lacked t in cc e)) other.items h.answer.1 gives
  given_on reply (Err (TooLong most)) h gives = let long = more_than l.limit (held l.second) h.answer.1 in
      replied (long_answered l reply only gives) (not_true (lacks l.second) (λ t. let e = h.lacked t in cc e)) long.0 long.2 (gives long.0 long.1)
  given_on reply (Err Fault) h is = unread is (h.failed refl)
  given_on reply (Err NoMemory) h is = absurd is

  -- or that memory was refused for it
  pub given_second : {E : Type 0} (name : Text) (limit : ℕ) (read : Result (Vec ℕ) ReadError) (made : Result Reply E) (reply : Reply) → name ≡ l.second
      → limit ≡ l.limit
      → IsReadOf (held name) (lacks name) (faults name) (faults_after name) limit read → IfOk made (GivesOnRead l read) → IsMade made reply
      → Proceeds held lacks faults faults_after l reply
  given_second name limit read (Ok made) reply en el h gives is =
      let at = subst (λ n. IsReadOf (held n) (lacks n) (faults n) (faults_after n) (l.limit) read) en
      (subst (λ k. IsReadOf (held name) (lacks name) (faults name) (faults_after name) k read) el h) in
      subst (Proceeds held lacks faults faults_after l) (sym is) (given_on made read at gives)
  given_second name limit read (Err e) reply en el h gives is = no_memory is

-- ---- deliveries

-- of these outcomes nothing is shown
pub shown_answered : (format : Format) (o : Outcome) (text : Told) → (shown format o text ≡ [] → ⊥) → IsAnswered o
shown_answered format Yes text some = tt
shown_answered format No text some = tt
shown_answered format Graph text some = tt
shown_answered format Second text some = tt
shown_answered format Evaluation text some = tt
shown_answered format o text some = some refl

-- to what stays nothing was appended
nothing_appended : (before after : Option (List ℕ)) (text : List ℕ) → text ≡ [] → after ≡ before → Appends before after text
nothing_appended before after text none same = subst (Appends before after) (sym none)
    (subst (λ (k : Option (List ℕ)). Appends before k []) (sym same) (Appends-nil before))

module _ (s : CommandSet) (r : Run) (format : Format) where
  -- a defined answer that was shown, or of which nothing is shown
  abbrev WasShown : Outcome → Told → Type 0
  WasShown o text = Appends r.out.before r.out.after (shown format o text) × (shown format o text ≡ [] → r.out.after ≡ r.out.before)

  -- that of a refusal
  refused_end : (o : Outcome) (text : Told) → shown format o text ≡ object_in format text → HasFormat s r.words format → Answers s r o text
      → WasShown o text → Refused s r o text
  refused_end o text is has a w = record {
    format = format;
    of_words = has;
    answers = a;
    whole = w.0;
    nothing = λ as_text. w.1 (is ∙ ap (λ f. object_in f text) as_text);
  }

  -- a reply that was shown, or of which nothing is shown
  shown_end : (o : Outcome) (text : Told) → (IsAnswered o → HasFormat s r.words format) → Replied s r o text → WasShown o text
      → Ends s r o (record { text = written_for s o text.text; object = text.object })
  shown_end Yes text has a w = record { answers = a; whole = w.0 }
  shown_end No text has a w = record { answers = a; whole = w.0 }
  shown_end Graph text has a w = refused_end Graph text refl (has tt) a w
  shown_end Second text has a w = refused_end Second text refl (has tt) a w
  shown_end Evaluation text has a w = refused_end Evaluation text refl (has tt) a w
  shown_end Words text has a w = (record { no_request = a; nothing = w.1 refl }, refl)
  shown_end Read text has a w = (
    record {
      request = a.request;
      asks = a.asks;
      name = a.name;
      is_read = a.is_read;
      rose = a.rose;
      nothing = w.1 refl;
    },
    refl,
  )
  shown_end Write text has a w = absurd a
  shown_end Memory text has a w = (w.1 refl, refl)

  -- an answer that a command gives
  given_answer : (o : Outcome) (text : Told) → IsAnswered o → Replied s r o text → Answers s r o text
  given_answer Words text only a = absurd only
  given_answer Read text only a = absurd only
  given_answer Write text only a = absurd only
  given_answer Memory text only a = absurd only
  given_answer o text only a = a

  -- the reply was delivered
  pub delivered : (reply last : Reply) → (IsAnswered reply.outcome → HasFormat s r.words format) → RepliesWith s r reply
      → Delivers r.out format reply last → EndsWith s r last
  delivered reply last has a (written same some whole) = subst (EndsWith s r) (sym same)
      (shown_end reply.outcome (told_of reply) has a (whole, λ none. absurd (some none)))
  delivered reply last has a (silent same none stays) = subst (EndsWith s r) (sym same) (shown_end reply.outcome (told_of reply) has a
      (nothing_appended r.out.before r.out.after (shown format reply.outcome (told_of reply)) none stays, λ e. stays))
  delivered reply last has a (unwritten is some count within front rose) =
      let only = shown_answered format reply.outcome (told_of reply) some in
      subst (λ o. Ends s r o (record { text = written_for s o last.text.items; object = last.object.items })) (sym is) (
        record {
          outcome = reply.outcome;
          told = told_of reply;
          format = format;
          of_words = has only;
          answered = only;
          answers = given_answer reply.outcome (told_of reply) only a;
          some = some;
          count = count;
          within = within;
          front = front;
          rose = rose;
        },
        refl,
      )

-- ---- the line

-- what was written of a line was received: all of it, or a front of it where a write failed
line_received : {A E : Type 0} (err : Stream) (line : List ℕ) (r : Result A E) → OnOk r (Appends err.before err.after line)
    → OnErr r ((count : ℕ) × (count ≤ length line) × Appends err.before err.after (take count line)) → OnErr r (Rose err.faults err.faults_after)
    → ReceivedLine err line
line_received err line (Ok x) whole front rose = record {
  count = length line;
  within = omega arith;
  front = subst (Appends err.before err.after) (sym (take-length line)) whole;
  whole = λ none. whole;
}
line_received err line (Err e) whole front rose = record { count = front.0; within = front.1; front = front.2; whole = λ none. absurd (none rose) }

pub received : {A E : Type 0} (err : Stream) (o : Outcome) (line : List ℕ) (r : Result A E) → (o ≡ Yes → ⊥) → (o ≡ No → ⊥)
    → OnOk r (Appends err.before err.after line)
    → OnErr r ((count : ℕ) × (count ≤ length line) × Appends err.before err.after (take count line)) → OnErr r (Rose err.faults err.faults_after)
    → Received err o line
received err Yes line r not_yes not_no whole front rose = absurd (not_yes refl)
received err No line r not_yes not_no whole front rose = absurd (not_no refl)
received err o line r not_yes not_no whole front rose = line_received err line r whole front rose
