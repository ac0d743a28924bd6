-- Words are one call at most, and ask for one request at most.
use Rattle.std.proofs.Common.{◌≡◌, List, sym, ap, subst, ◌∙◌}
use Rattle.command_words.specs.Vocabulary.{Text, Use}
use Rattle.command_words.proofs.Exact.{one_call}
use Rattle.replies.specs.declared.format.Format.{Format}
use Rattle.command_run.specs.Commands.{CommandSet, table, Request, of, command_of, format_of, IsRequest, Asks, HasFormat}
use Rattle.command_run.specs.Complete.{WordsAskOnce}
use Rattle.command_run.specs.Laws.{AreLawful}

module _ (s : CommandSet) (laws : AreLawful s) where
  pub words_ask_once : WordsAskOnce s
  words_ask_once words row other uses others one two = one_call (table s) laws.clear words row other uses others one two

  abbrev AreSame : Request s → Request s → Type 0
  AreSame q r = q ≡ r

  -- the uses of a command ask for one request
  one_of_uses : (uses : List Use) (q r : Request s) → command_of s q ≡ command_of s r → IsRequest s uses q → IsRequest s uses r → r ≡ q
  one_of_uses uses (of c q) (of d r) e a b =
      subst (λ (k : s.Command). (w : (s.form_of k).Request) → IsRequest s uses (of k w) → AreSame (of k w) (of c q)) e
      (λ w h. ap {0, 0} (λ (v : (s.form_of c).Request). of c v) ((laws.each c).one_request uses q w a h)) r b

  pub one_request : (words : List Text) (q r : Request s) → Asks s words q → Asks s words r → r ≡ q
  one_request words q r a b =
      let once = words_ask_once words (s.row_for (command_of s q)) (s.row_for (command_of s r)) a.uses b.uses a.call b.call in
      one_of_uses a.uses q r (laws.apart (command_of s q) (command_of s r) (sym once.0)) a.asks (subst (λ (us : List Use). IsRequest s us r) once.1 b.asks)

  -- the format of a request that words ask for is that in which they ask
  pub asked_format : (words : List Text) (q : Request s) (format : Format) → Asks s words q → format ≡ format_of s q → HasFormat s words format
  asked_format words q format a is = λ r b. ap (format_of s) (one_request words q r a b) ∙ sym is
