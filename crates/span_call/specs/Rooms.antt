-- What a room of a caller shows of a text.
use Rattle.std.specs.Prelude.{ℕ, ◌≡◌, List, length, take, drop, min}

-- a room shows the front of a text, or all of it, and stays as it was behind that
pub record ShowsText (text before room : List ℕ) (size : ℕ) : Type 0 where
  pub whole : size ≡ length text
  pub front : take (min size (length room)) room ≡ take (min size (length room)) text
  pub rest : drop (min size (length room)) room ≡ drop (min size (length room)) before
