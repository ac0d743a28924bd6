-- Lines of bytes. Words for code inside this crate.
use Rattle.std.specs.Prelude.{ℕ, Bool, ◌==◌}

-- whether the byte is a line feed
abbrev pub is_feed : ℕ → Bool
is_feed b = b == 10
