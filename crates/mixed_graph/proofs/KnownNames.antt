-- A name that is found at a place is the name of that vertex.
use Rattle.std.proofs.Common.{◌≡◌, ◌<◌, ℕ, true, false, List, [], length, get_or, Some, sym, subst, ◌∙◌, arith}
use Rattle.std.specs.Prelude.{slice_get}
use Rattle.std.specs.Str.{bytes_eq}
use Rattle.std.proofs.lemmas.Bool.{false_from_ne_true}
use Rattle.std.proofs.lemmas.List.Elements.{All-from_get_or, All-get_or}
use Rattle.std.proofs.lemmas.List.Folds.{list_any_at, list_any_none}
use Rattle.std.proofs.lemmas.List.Sums.{position_or_len_is}
use Rattle.std.proofs.lemmas.Option.{get_or_from_slice_get}
use Rattle.std.proofs.lemmas.Slice.Eq.{bytes_eq-Decides}
use Rattle.mixed_graph.specs.Names.{IsName, AreNames, is_named, index_of}

-- the name at a place is there, and this is its place
pub name_here : (names : List (List ℕ)) (name : List ℕ) (i : ℕ) → AreNames names → i < length names → bytes_eq name (get_or names i []) ≡ true
    → (is_named names name ≡ true) × (i ≡ index_of names name)
name_here names name i are below same = (
  list_any_at (bytes_eq name) names i [] below same,
  sym (position_or_len_is (bytes_eq name) names i [] (omega arith)
      (λ k less. false_from_ne_true (bytes_eq name (get_or names k []))
      (λ t. are.distinct k i [] less below
      (sym ((bytes_eq-Decides name (get_or names k [])).0 t) ∙ (bytes_eq-Decides name (get_or names i [])).0 same)))
      (λ _. same)),
)

-- and has the form of a name
pub formed_here : (names : List (List ℕ)) (name : List ℕ) (i : ℕ) → AreNames names → i < length names → bytes_eq name (get_or names i []) ≡ true → IsName name
formed_here names name i are below same =
    subst IsName (sym ((bytes_eq-Decides name (get_or names i [])).0 same)) (All-get_or IsName names i [] below are.formed)

-- the same where the name that stands there was got
pub name_at : (names : List (List ℕ)) (name at : List ℕ) (i : ℕ) → AreNames names → i < length names → slice_get names i ≡ Some at → bytes_eq at name ≡ true
    → (is_named names name ≡ true) × (i ≡ index_of names name)
name_at names name at i are below here same =
    let found : get_or names i [] ≡ at = get_or_from_slice_get names i at [] here in
    let equal : at ≡ name = (bytes_eq-Decides at name).0 same in
    name_here names name i are below ((bytes_eq-Decides name (get_or names i [])).1 (sym (found ∙ equal)))

-- a name that stands at no place isn't there
pub nowhere : (names : List (List ℕ)) (name : List ℕ) → ((i : ℕ) → i < length names → bytes_eq name (get_or names i []) ≡ false) → is_named names name ≡ false
nowhere names name out = list_any_none (bytes_eq name) names (All-from_get_or (λ n. bytes_eq name n ≡ false) names [] out)

-- each place's bytes have the form of a name
pub formed_at : (names : List (List ℕ)) (i : ℕ) → AreNames names → i < length names → IsName (get_or names i [])
formed_at names i are below = All-get_or IsName names i [] below are.formed
