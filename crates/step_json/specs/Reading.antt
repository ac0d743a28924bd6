-- Reading a step or a set from a JSON value, item by item, with the first fault.
use Rattle.std.specs.Prelude.{◌≡◌, ℕ, zero, suc, ◌+◌, ◌^◌, Bool, true, false, nat_lt, List, [], ◌∷◌, ◌++◌, length, Option, Some, None}
use Rattle.std.specs.Prelude.{option_and_then, Result, Ok, Err, if◌then◌else◌}
use Rattle.mixed_graph.specs.Vocabulary.{has, is_named, index_of, union, one, is_empty}
use Rattle.do_derivation.specs.Plans.{Move, Plan}
use Rattle.do_derivation.specs.Vocabulary.{plans_of}
use Rattle.serde_json.specs.Data.{Data, Items, no_items, item}
use Rattle.serde_json.specs.Find.{as_str, as_array, as_number, as_u64}
use Rattle.step_json.specs.Words.{word_of}
use Rattle.step_json.specs.declared.words.Word.{Word}
use Rattle.step_json.specs.declared.words.Word.TheVariants as words
use Rattle.step_json.specs.declared.fault.ValueFault.{ValueFault}
use Rattle.step_json.specs.declared.fault.ValueFault.TheVariants.{Form, TooDeep, Name, NoMemory}

infixl 10 ◌>>=◌
-- the next part is read where the first has no fault
abbrev pub ◌>>=◌ : {A B : Type 0} → Result A ValueFault → (A → Result B ValueFault) → Result B ValueFault
(Ok x) >>= f = f x
(Err e) >>= f = Err e

-- what a function answers, seen by `view`, is what reading gives, unless memory ran out
abbrev pub Fails : {A : Type 0} → ValueFault → Result A ValueFault → Type 0
Fails Form read = read ≡ Err Form
Fails TooDeep read = read ≡ Err TooDeep
Fails (Name t) read = read ≡ Err (Name t)
Fails NoMemory read = Unit {0}

-- the answer, seen by a view, is what reading gives
abbrev pub Gives : {X A : Type 0} → (X → A) → Result X ValueFault → Result A ValueFault → Type 0
Gives view (Ok x) read = read ≡ Ok (view x)
Gives view (Err e) read = Fails e read

-- what has to be there
abbrev pub or_form : {A : Type 0} → Option A → Result A ValueFault
or_form (Some x) = Ok x
or_form None = Err Form

-- what is read from the items of a list
abbrev pub list_by : {A : Type 0} → (Items → Result A ValueFault) → Data → Result A ValueFault
list_by f d = or_form (as_array d) >>= f

-- each item by f, in order, behind what was read before
abbrev pub each : {A : Type 0} → (Data → Result A ValueFault) → List A → Items → Result (List A) ValueFault
each f before no_items = Ok before
each f before (item d ds) = f d >>= λ x. each f (before ++ x ∷ []) ds

-- ---- names and numbers

-- the vertex of a name
abbrev pub vertex_of : List (List ℕ) → List ℕ → Result ℕ ValueFault
vertex_of names text = if is_named names text then Ok (index_of names text) else Err (Name text)

-- a name of a vertex
abbrev pub vertex_in : List (List ℕ) → Data → Result ℕ ValueFault
vertex_in names d = or_form (as_str d) >>= vertex_of names

-- a set with a vertex that isn't in it and isn't barred
abbrev pub with_member : (barred set v : ℕ) → Result ℕ ValueFault
with_member barred set v = if has (union barred set) v then Err Form else Ok (union set (one v))

-- the members behind those before, which are so many: 64 in all, each once, and none that is barred
abbrev pub more_of_set : List (List ℕ) → (barred count set : ℕ) → Items → Result ℕ ValueFault
more_of_set names barred count set no_items = Ok set
more_of_set names barred count set (item d ds) =
    if nat_lt count 64 then (vertex_in names d >>= λ v. with_member barred set v >>= λ more. more_of_set names barred (count + 1) more ds)
    else Err Form

-- a set: a list of at most 64 names in any order, each once, and none of a barred vertex
unfoldable pub set_in : List (List ℕ) → (barred : ℕ) → Data → Result ℕ ValueFault
set_in names barred d = list_by (more_of_set names barred 0 0) d

-- a set that isn't empty, which is asked at the end of its list
abbrev pub filled : ℕ → Result ℕ ValueFault
filled set = if is_empty set then Err Form else Ok set

-- a set that isn't empty
abbrev pub filled_set_in : List (List ℕ) → (barred : ℕ) → Data → Result ℕ ValueFault
filled_set_in names barred d = set_in names barred d >>= filled

-- names in their order, at most 64, behind those before
abbrev pub more_vertices : List (List ℕ) → List ℕ → Items → Result (List ℕ) ValueFault
more_vertices names before no_items = Ok before
more_vertices names before (item d ds) =
    if nat_lt (length before) 64 then (vertex_in names d >>= λ v. more_vertices names (before ++ v ∷ []) ds) else Err Form

-- names of vertices in their order
unfoldable pub vertices_in : List (List ℕ) → Data → Result (List ℕ) ValueFault
vertices_in names d = list_by (more_vertices names []) d

-- a number of 32 bits
abbrev pub short : ℕ → Result ℕ ValueFault
short n = if nat_lt n (2 ^ 32) then Ok n else Err Form

-- a whole number of 32 bits
unfoldable pub number_in : Data → Result ℕ ValueFault
number_in d = or_form (option_and_then as_u64 (as_number d)) >>= short

-- a list of numbers
unfoldable pub numbers_in : Data → Result (List ℕ) ValueFault
numbers_in d = list_by (each number_in []) d

-- a list of such lists
unfoldable pub groups_in : Data → Result (List (List ℕ)) ValueFault
groups_in d = list_by (each numbers_in []) d

-- ---- steps

abbrev pub is_end : Items → Bool
is_end no_items = true
is_end (item d ds) = false

-- no argument more
abbrev pub last : Plan → Items → Result Plan ValueFault
last p ds = if is_end ds then Ok p else Err Form

-- the next argument, and what follows
abbrev pub argument : {A : Type 0} → (Data → Result A ValueFault) → (A → Items → Result Plan ValueFault) → Items → Result Plan ValueFault
argument f next no_items = Err Form
argument f next (item d ds) = f d >>= λ x. next x ds

-- the arguments of a word, where `inner` reads a step inside
abbrev pub arguments : List (List ℕ) → (inner : Data → Result Plan ValueFault) → Word → Items → Result Plan ValueFault
arguments names inner (words.WithSet kind) ds = argument (set_in names 0) (λ z. last (Plan.Make (Move.WithSet kind z))) ds
arguments names inner (words.Bare kind) ds = last (Plan.Make (Move.Bare kind)) ds
arguments names inner words.Chain ds = argument (vertices_in names) (λ o. last (Plan.Make (Move.Chain o))) ds
arguments names inner words.Group ds = argument groups_in (λ l. last (Plan.Make (Move.Group l))) ds
arguments names inner words.Cite ds = argument number_in (λ k. last (Plan.Make (Move.Cite k))) ds
arguments names inner words.At ds = argument number_in (λ i. argument inner (λ p. last (Plan.At i p))) ds
arguments names inner words.Then ds = argument (list_by (each inner [])) (λ ps. last (Plan.Then (plans_of ps))) ds

-- a word, and its arguments
abbrev pub word_and_arguments : List (List ℕ) → (inner : Data → Result Plan ValueFault) → Items → Result Plan ValueFault
word_and_arguments names inner no_items = Err Form
word_and_arguments names inner (item d ds) = or_form (option_and_then word_of (as_str d)) >>= λ w. arguments names inner w ds

-- a step in which so many may nest, itself among them; depth is asked first
unfoldable pub step_within : List (List ℕ) → ℕ → Data → Result Plan ValueFault
step_within names zero d = Err TooDeep
step_within names (suc more) d = list_by (word_and_arguments names (step_within names more)) d

-- a step: 60 nest at most
abbrev pub step_in : List (List ℕ) → Data → Result Plan ValueFault
step_in names d = step_within names 60 d
