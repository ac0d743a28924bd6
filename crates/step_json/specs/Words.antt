-- The words of steps.
use Rattle.std.specs.Prelude.{ℕ, List, Option, Some, None, if◌then◌else◌, codes}
use Rattle.std.specs.Str.{bytes_eq}
use Rattle.do_derivation.specs.declared.moves.SetMove.{SetMove}
use Rattle.do_derivation.specs.declared.moves.BareMove.{BareMove}
use Rattle.do_derivation.specs.Vocabulary.{set_move_of, bare_move_of}
use Rattle.step_json.specs.declared.words.Word.{Word}
use Rattle.step_json.specs.declared.words.Word.TheVariants as words

-- the words with arguments of their own
unfoldable pub other_word_of : List ℕ → Option Word
other_word_of text =
    if bytes_eq text (codes "chain") then Some words.Chain else (
    if bytes_eq text (codes "group") then Some words.Group else (
    if bytes_eq text (codes "cite") then Some words.Cite else (
    if bytes_eq text (codes "at") then Some words.At else (
    if bytes_eq text (codes "then") then Some words.Then else (
    None)))))

-- the first word, where there is one, else the other
abbrev pub or_bare : Option BareMove → Option Word → Option Word
or_bare (Some r) other = Some (words.Bare r)
or_bare None other = other

-- the same for words with a set
abbrev pub or_set : Option SetMove → Option Word → Option Word
or_set (Some r) other = Some (words.WithSet r)
or_set None other = other

-- the word that a text is, if it is one
unfoldable pub word_of : List ℕ → Option Word
word_of text = or_set (set_move_of text) (or_bare (bare_move_of text) (other_word_of text))
