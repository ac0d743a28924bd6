-- The flags that only an effect as it is understands.
use Rattle.std.specs.Prelude.{◌≡◌, false, List, codes}
use Rattle.command_words.specs.Vocabulary.{Use, has_flag}

-- none of these is there
pub record HaveNoPlainFlag (uses : List Use) : Type 0 where
  pub back_door : has_flag uses (codes "back-door") ≡ false
  pub zero : has_flag uses (codes "zero") ≡ false
  pub matched : has_flag uses (codes "matched") ≡ false
  pub short : has_flag uses (codes "short") ≡ false
