-- The words of moves are ASCII, and each is read as its move.
use Rattle.std.proofs.Common.{◌≡◌, true, Some, None, refl}
use Rattle.do_derivation.specs.Words.{set_word, bare_word, set_move_of, bare_move_of}
use Rattle.do_derivation.specs.declared.moves.SetMove.{SetMove}
use Rattle.do_derivation.specs.declared.moves.SetMove.TheVariants as set_move
use Rattle.do_derivation.specs.declared.moves.BareMove.{BareMove}
use Rattle.do_derivation.specs.declared.moves.BareMove.TheVariants as bare_move

-- the word of a move with a set is read as that move
pub set_word_read : (kind : SetMove) → set_move_of (set_word kind) ≡ Some kind
unfolding set_move_of
set_word_read set_move.Rule1In = refl
set_word_read set_move.Rule1Out = refl
set_word_read set_move.Rule2See = refl
set_word_read set_move.Rule2Do = refl
set_word_read set_move.Rule3In = refl
set_word_read set_move.Rule3Out = refl
set_word_read set_move.Widen = refl

-- the word of a move without an argument is read as that move
pub bare_word_read : (kind : BareMove) → bare_move_of (bare_word kind) ≡ Some kind
unfolding bare_move_of
bare_word_read bare_move.Unchain = refl
bare_word_read bare_move.Narrow = refl
bare_word_read bare_move.Split = refl
bare_word_read bare_move.Unwrap = refl

-- and it is no word of a move with a set
pub bare_word_unread : (kind : BareMove) → set_move_of (bare_word kind) ≡ None
unfolding set_move_of
bare_word_unread bare_move.Unchain = refl
bare_word_unread bare_move.Narrow = refl
bare_word_unread bare_move.Split = refl
bare_word_unread bare_move.Unwrap = refl
