-- What the code's values stand for.
use Rattle.std.specs.Prelude.{ℕ, List, map}
use Rattle.std.specs.Global.{Vec}
use Rattle.command_words.specs.Vocabulary.{names_in}

-- lists of names, as their bytes
abbrev pub lists_in : Vec (Vec (Vec ℕ)) → List (List (List ℕ))
lists_in v = map names_in v.items
