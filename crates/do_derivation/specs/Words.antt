-- The words of moves, as certificates have them.
use Rattle.std.specs.Prelude.{ℕ, List, Option, Some, None, if◌then◌else◌, codes}
use Rattle.std.specs.Str.{bytes_eq}
use Rattle.do_derivation.specs.Plans.{Move}
use Rattle.do_derivation.specs.declared.moves.SetMove.{SetMove}
use Rattle.do_derivation.specs.declared.moves.SetMove.TheVariants as set_move
use Rattle.do_derivation.specs.declared.moves.BareMove.{BareMove}
use Rattle.do_derivation.specs.declared.moves.BareMove.TheVariants as bare_move

-- the word of a move with a set
abbrev pub set_word : SetMove → List ℕ
set_word set_move.Rule1In = codes "rule1in"
set_word set_move.Rule1Out = codes "rule1out"
set_word set_move.Rule2See = codes "rule2see"
set_word set_move.Rule2Do = codes "rule2do"
set_word set_move.Rule3In = codes "rule3in"
set_word set_move.Rule3Out = codes "rule3out"
set_word set_move.Widen = codes "widen"

-- that of a move without an argument
abbrev pub bare_word : BareMove → List ℕ
bare_word bare_move.Unchain = codes "unchain"
bare_word bare_move.Narrow = codes "narrow"
bare_word bare_move.Split = codes "split"
bare_word bare_move.Unwrap = codes "unwrap"

-- the word of a move
abbrev pub move_word : Move → List ℕ
move_word (Move.WithSet kind z) = set_word kind
move_word (Move.Bare kind) = bare_word kind
move_word (Move.Chain o) = codes "chain"
move_word (Move.Group l) = codes "group"
move_word (Move.Cite k) = codes "cite"

-- the move with a set whose word a text is
unfoldable pub set_move_of : List ℕ → Option SetMove
set_move_of text =
    if bytes_eq text (codes "rule1in") then Some set_move.Rule1In else (
    if bytes_eq text (codes "rule1out") then Some set_move.Rule1Out else (
    if bytes_eq text (codes "rule2see") then Some set_move.Rule2See else (
    if bytes_eq text (codes "rule2do") then Some set_move.Rule2Do else (
    if bytes_eq text (codes "rule3in") then Some set_move.Rule3In else (
    if bytes_eq text (codes "rule3out") then Some set_move.Rule3Out else (
    if bytes_eq text (codes "widen") then Some set_move.Widen else (
    None)))))))

-- the move without an argument whose word a text is
unfoldable pub bare_move_of : List ℕ → Option BareMove
bare_move_of text =
    if bytes_eq text (codes "unchain") then Some bare_move.Unchain else (
    if bytes_eq text (codes "narrow") then Some bare_move.Narrow else (
    if bytes_eq text (codes "split") then Some bare_move.Split else (
    if bytes_eq text (codes "unwrap") then Some bare_move.Unwrap else (
    None))))
