-- Sets of the terms of an expression.
use Rattle.std.specs.Prelude.{ℕ, Bool, ◌&&◌}
use Rattle.mixed_graph.specs.Vocabulary.{is_apart, is_below}

-- three sets below n, no two of which meet
abbrev pub are_term_sets : ℕ → ℕ → ℕ → ℕ → Bool
are_term_sets n a b c = (is_below n a && (is_below n b && is_below n c)) && (is_apart a b && (is_apart a c && is_apart b c))
