-- The names by which vertices are read where some of x are read at their second values.
use Rattle.std.specs.Prelude.{ℕ, nat_lt, ◌&&◌, if◌then◌else◌, List, length, map}
use Rattle.mixed_graph.specs.Vocabulary.{has, members_below, all, name_of}
use Rattle.primed_names.specs.Vocabulary.{primed_names}
use Rattle.treated_models.specs.Vocabulary.{prime_of}

-- the place of v among so many names: a member of x that is read at its second value has that of its primed name, where there is one, and any other
-- vertex its own
abbrev pub place_read : (n x second count v : ℕ) → ℕ
place_read n x second count v = if has x v && has second v then (if nat_lt (prime_of n x v) count then prime_of n x v else v) else v

-- the names by which the vertices are read, where these members of x are read at their second values
abbrev pub names_read : List (List ℕ) → (x second : ℕ) → List (List ℕ)
names_read names x second =
    map (λ v. name_of (primed_names names x) (place_read (length names) x second (length (primed_names names x)) v)) (members_below (has (all (length names))) 64)
