-- Vertices whose names are printed bare. Words for code inside this crate.
use Rattle.std.specs.Prelude.{ℕ, ◌≡◌, Bool, List, IsTrue}
use Rattle.mixed_graph.specs.Vocabulary.{name_of}
use Rattle.answer_text.specs.Vocabulary.{printed}

-- each of them is printed as its name is
abbrev pub AreBare : List (List ℕ) → (ℕ → Bool) → Type 0
AreBare names bare = (v : ℕ) → IsTrue (bare v) → printed (name_of names v) ≡ name_of names v
