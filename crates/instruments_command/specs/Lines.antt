-- The printed answers of `instruments`.
use Rattle.std.specs.Prelude.{ℕ, Bool, true, false, List, [], ◌∷◌, ◌++◌, codes}
use Rattle.std.specs.List.{flat_map}
use Rattle.mixed_graph.specs.declared.sets.VSet.{VSet}
use Rattle.mixed_graph.specs.Vocabulary.{name_of}
use Rattle.answer_text.specs.Vocabulary.{printed, set_text}
use Rattle.instrument_sets.specs.declared.instruments.Candidate.{Candidate}

-- `Z given {W}`: a vertex, and a set of strata in which it is an instrument
abbrev pub strata_line : List (List ℕ) → (vertex strata : ℕ) → List ℕ
strata_line names v strata = printed (name_of names v) ++ (codes " given " ++ (set_text names strata ++ codes "\n"))

-- a line for each set
abbrev pub strata_lines : List (List ℕ) → (vertex : ℕ) → List VSet → List ℕ
strata_lines names v sets = flat_map (λ s. strata_line names v s.bits) sets

-- `more of Z`, where there are more sets
abbrev pub more_line : List (List ℕ) → (vertex : ℕ) → Bool → List ℕ
more_line names v true = codes "more of " ++ (printed (name_of names v) ++ codes "\n")
more_line names v false = []

-- the lines of a vertex: none where it has no set
abbrev pub candidate_lines : List (List ℕ) → Candidate → List ℕ
candidate_lines names c = strata_lines names c.vertex c.strata.sets.items ++ more_line names c.vertex c.strata.more

-- the lines of all of them
abbrev pub listing_text : List (List ℕ) → List Candidate → List ℕ
listing_text names list = flat_map (candidate_lines names) list
