-- The graph of a survey: one draw for each pair of vertices.
use Rattle.std.specs.Prelude.{ℕ, zero, suc, ◌+◌, ◌-◌, Bool, ◌&&◌, ◌||◌, ◌==◌, nat_lt}
use Rattle.mixed_graph.specs.Vocabulary.{MixedGraph}
use Rattle.survey_command.specs.Draws.{state_after, draw_of}

-- how many pairs (a, b) with a < b < 40 have a < i: the rows before row i, where row a has the pairs (a, a + 1) to (a, 39)
abbrev pub pairs_before : ℕ → ℕ
pairs_before zero = zero
pairs_before (suc i) = pairs_before i + (39 - i)

-- the draw of the pair i < j: pairs are drawn row by row, each row in ascending order
abbrev pub draw_at : ℕ → ℕ → ℕ → ℕ
draw_at seed i j = draw_of (state_after seed (pairs_before i + (j - i)))

-- i < j are two of the 40 vertices, and their draw passes the test
abbrev pub is_drawn : ℕ → (ℕ → Bool) → ℕ → ℕ → Bool
is_drawn seed test i j = nat_lt i j && (nat_lt j 40 && test (draw_at seed i j))

-- the draws 0, 1 and 2 give i -> j, and 3 gives i <-> j
abbrev pub drawn_graph : ℕ → MixedGraph
drawn_graph seed = record {
  vertices = 40;
  arrow = λ i j. is_drawn seed (λ r. nat_lt r 3) i j;
  both = λ i j. is_drawn seed (λ r. r == 3) i j || is_drawn seed (λ r. r == 3) j i;
}
