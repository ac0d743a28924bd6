-- How sets of vertices and paths are printed.
use Rattle.std.specs.Prelude.{ℕ, Bool, zero, suc, List, [], ◌∷◌, ◌++◌, map, codes, slice_index, slice_index_or}
use Rattle.mixed_graph.specs.Vocabulary.{has, members_below, name_of}
use Rattle.m_separation.specs.declared.marks.Mark.{Mark}
use Rattle.m_separation.specs.declared.marks.Mark.TheVariants.{Out, Into, Both}
use Rattle.answer_text.specs.Printing.{printed}
use Rattle.answer_text.specs.declared.signs.Notation.{Notation}
use Rattle.answer_text.specs.declared.signs.Notation.TheVariants.{Plain}
use Rattle.answer_text.specs.declared.signs.Sign.{Sign}
use Rattle.answer_text.specs.declared.signs.Sign.TheVariants.{Comma, Bar, Do}
use Rattle.answer_text.specs.Notations.{sign_text, name_in}

-- names with commas between them
abbrev pub names_in : Notation → List (List ℕ) → List ℕ
names_in notation [] = []
names_in notation (n ∷ []) = name_in notation n
names_in notation (n ∷ m ∷ ns) = name_in notation n ++ (sign_text notation Comma ++ names_in notation (m ∷ ns))

-- a comma where more is to come
abbrev pub comma_in : Notation → List ℕ → List ℕ
comma_in notation [] = []
comma_in notation (v ∷ vs) = sign_text notation Comma

-- in the plain notation
abbrev pub comma_before : List ℕ → List ℕ
comma_before vs = comma_in Plain vs

-- the names of a set's members, in index order
abbrev pub member_names : List (List ℕ) → (ℕ → Bool) → List (List ℕ)
member_names names set = map (name_of names) (members_below set 64)

-- a set: its names in index order, with commas between them, in braces, which are also those of a group of LaTeX
abbrev pub set_in : Notation → List (List ℕ) → ℕ → List ℕ
set_in notation names set = codes "{" ++ (names_in notation (member_names names (has set)) ++ codes "}")

-- in the plain notation
abbrev pub set_text : List (List ℕ) → ℕ → List ℕ
set_text names set = set_in Plain names set

-- a mark of a path, with a space on each side
abbrev pub mark_text : Mark → List ℕ
mark_text Out = codes " -> "
mark_text Into = codes " <- "
mark_text Both = codes " <-> "

-- the first k steps of a path behind its first vertex: mark i and then vertex i + 1
abbrev pub steps_text : List (List ℕ) → List ℕ → List Mark → ℕ → List ℕ
steps_text names vertices marks zero = []
steps_text names vertices marks (suc k) = steps_text names vertices marks k
    ++ (mark_text (slice_index_or marks k Out) ++ printed (name_of names (slice_index vertices (suc k))))

-- a path of so many vertices
abbrev pub path_text : List (List ℕ) → List ℕ → List Mark → ℕ → List ℕ
path_text names vertices marks zero = []
path_text names vertices marks (suc k) = printed (name_of names (slice_index vertices 0)) ++ steps_text names vertices marks k

-- names behind a sign; nothing where there are none
abbrev pub names_behind : Notation → Sign → List (List ℕ) → List ℕ
names_behind notation sign [] = []
names_behind notation sign (n ∷ ns) = sign_text notation sign ++ names_in notation (n ∷ ns)

-- what stands behind the bar of a term, with the bar: what is done, and then what is given; nothing where both are empty
abbrev pub conditions_in : Notation → (doing given : List (List ℕ)) → List ℕ
conditions_in notation [] given = names_behind notation Bar given
conditions_in notation (b ∷ bs) given =
    sign_text notation Bar ++ (sign_text notation Do ++ (names_in notation (b ∷ bs) ++ (codes ")" ++ names_behind notation Comma given)))

-- the probability of a set, under an intervention on another and given a third: `P(Y|do(X),Z)`, or `P(Y \mid \mathrm{do}(X), Z)`
abbrev pub term_in : Notation → List (List ℕ) → (of doing given : ℕ → Bool) → List ℕ
term_in notation names of doing given =
    codes "P("
    ++ (names_in notation (member_names names of) ++ (conditions_in notation (member_names names doing) (member_names names given) ++ codes ")"))

-- in the plain notation
abbrev pub term_text : List (List ℕ) → (of doing given : ℕ → Bool) → List ℕ
term_text names of doing given = term_in Plain names of doing given
