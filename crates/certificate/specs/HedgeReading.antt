-- Reading the choice and the links of a hedge, item by item, with the first fault.
use Rattle.std.specs.Prelude.{ℕ, ◌+◌, ◌==◌, nat_lt, List, [], ◌∷◌, ◌++◌, length, get_or, set, replicate, Result, Ok, Err, if◌then◌else◌}
use Rattle.serde_json.specs.Data.{Data, Items, no_items, item}
use Rattle.step_json.specs.declared.fault.ValueFault.{ValueFault}
use Rattle.step_json.specs.declared.fault.ValueFault.TheVariants.{Form}
use Rattle.step_json.specs.Vocabulary.{◌>>=◌, list_by, vertex_in, is_end}

-- the first item by f, and then the others
abbrev pub first_by : {A B : Type 0} → (Data → Result A ValueFault) → (A → Items → Result B ValueFault) → Items → Result B ValueFault
first_by f rest no_items = Err Form
first_by f rest (item d ds) = f d >>= λ x. rest x ds

-- no further item
abbrev pub alone : {A : Type 0} → A → Items → Result A ValueFault
alone x ds = if is_end ds then Ok x else Err Form

-- ---- choices

-- a vertex without a choice so far
abbrev pub unchosen : List ℕ → ℕ → Result ℕ ValueFault
unchosen next v = if get_or next v 0 == 64 then Ok v else Err Form

-- a name of such a vertex
abbrev pub unchosen_in : List (List ℕ) → List ℕ → Data → Result ℕ ValueFault
unchosen_in names next d = vertex_in names d >>= unchosen next

-- the choices with a further one: a vertex that has none yet, and its child
abbrev pub with_choice : List (List ℕ) → List ℕ → Items → Result (List ℕ) ValueFault
with_choice names next ds = first_by (unchosen_in names next) (λ v. first_by (vertex_in names) (λ child. alone (set next v child))) ds

-- the choices behind those before, which are so many: 64 in all
abbrev pub more_choices : List (List ℕ) → (count : ℕ) → List ℕ → Items → Result (List ℕ) ValueFault
more_choices names count next no_items = Ok next
more_choices names count next (item d ds) =
    if nat_lt count 64 then (list_by (with_choice names next) d >>= λ more. more_choices names (count + 1) more ds) else Err Form

-- a list of choices: in any order, at most 64, one for each vertex
unfoldable pub choice_in : List (List ℕ) → Data → Result (List ℕ) ValueFault
choice_in names d = list_by (more_choices names 0 (replicate 64 64)) d

-- ---- links

-- the entry of the start: its vertex alone
abbrev pub start_of : List (List ℕ) → Items → Result (ℕ × ℕ) ValueFault
start_of names ds = first_by (vertex_in names) (λ v. alone (v, 0)) ds

-- a later entry: the found vertex and its partner
abbrev pub link_of : List (List ℕ) → Items → Result (ℕ × ℕ) ValueFault
link_of names ds = first_by (vertex_in names) (λ v. first_by (vertex_in names) (λ partner. alone (v, partner))) ds

-- the entries behind those before: 64 in all
abbrev pub more_links : List (List ℕ) → List (ℕ × ℕ) → Items → Result (List (ℕ × ℕ)) ValueFault
more_links names before no_items = Ok before
more_links names before (item d ds) =
    if nat_lt (length before) 64 then (list_by (link_of names) d >>= λ l. more_links names (before ++ l ∷ []) ds) else Err Form

-- a list of links: it isn't empty, the start comes first, and there are at most 64
unfoldable pub links_in : List (List ℕ) → Data → Result (List (ℕ × ℕ)) ValueFault
links_in names d = list_by (first_by (list_by (start_of names)) (λ l. more_links names (l ∷ []))) d
