-- The names of the observed vertices.
use Rattle.std.proofs.Common.{ℕ, zero, suc, ◌+◌, ◌<◌, ◌≤◌, ◌≡◌, Bool, true, false, ◌||◌, List, [], ◌∷◌, ◌++◌, length, get_or, take, Some, inl, inr}
use Rattle.std.proofs.Common.{refl, sym, ap, ◌∙◌, subst, arith, add-one}
use Rattle.std.proofs.lemmas.Bool.{cases_Bool, false_from_ne_true, or_from}
use Rattle.std.proofs.lemmas.List.{map-append, length-map}
use Rattle.std.proofs.lemmas.List.Folds.{list_any-append}
use Rattle.std.proofs.lemmas.List.{take_more}
use Rattle.std.proofs.Math.Seq.{take-length}
use Rattle.std.proofs.lemmas.Option.{get_or_from_slice_get, slice_get-get_or}
use Rattle.std.proofs.lemmas.Slice.Eq.{bytes_eq-Decides}
use Rattle.std.specs.Prelude.{slice_get}
use Rattle.std.specs.List.{list_any}
use Rattle.std.specs.Str.{bytes_eq}
use Rattle.mixed_graph.specs.Vocabulary.{members_below, AreNames, is_named}
use Rattle.latent_projection.specs.Renumbering.{names_at}
use Rattle.latent_projection.proofs.Numbering.{members-more, members-same}

-- no vertex is below 0, so no name is listed
pub names_at-none : (s : ℕ → Bool) (names : List (List ℕ)) → names_at (members_below s 0) names ≡ []
unfolding members_below
names_at-none s names = refl

-- one more member puts its name at the end of the list
pub names_at-more : (s : ℕ → Bool) (v : ℕ) (names : List (List ℕ)) (name : List ℕ) → s v ≡ true → slice_get names v ≡ Some name
    → names_at (members_below s (v + 1)) names ≡ names_at (members_below s v) names ++ name ∷ []
names_at-more s v names name e at =
    ap (λ vs. names_at vs names) (members-more s v e) ∙ map-append (λ k. get_or names k []) (members_below s v) (v ∷ [])
    ∙ ap (λ x. names_at (members_below s v) names ++ x ∷ []) (get_or_from_slice_get names v name [] at)

pub names_at-same : (s : ℕ → Bool) (v : ℕ) (names : List (List ℕ)) → s v ≡ false → names_at (members_below s (v + 1)) names ≡ names_at (members_below s v) names
names_at-same s v names e = ap (λ vs. names_at vs names) (members-same s v e)

-- as many names are listed as vertices
pub length-names_at : (vs : List ℕ) (names : List (List ℕ)) → length (names_at vs names) ≡ length vs
length-names_at vs names = simp length-map refl

-- different vertices have different names
differ : (names : List (List ℕ)) (u v : ℕ) → AreNames names → u < v → v < length names → bytes_eq (get_or names v []) (get_or names u []) ≡ false
differ names u v are less below = false_from_ne_true (bytes_eq (get_or names v []) (get_or names u []))
    (λ e. are.distinct u v [] less below (sym ((bytes_eq-Decides (get_or names v []) (get_or names u [])).0 e)))

-- no name of a vertex below k is that of v
pub not_named : (s : ℕ → Bool) (k v : ℕ) (names : List (List ℕ)) → AreNames names → k ≤ v → v < length names
    → is_named (names_at (members_below s k) names) (get_or names v []) ≡ false
not_named s zero v names are le below = rw (names_at-none s names) refl
not_named s (suc k) v names are le below =
    let before = not_named s k v names are (omega arith) below in
    subst (λ n. is_named (names_at (members_below s n) names) (get_or names v []) ≡ false) (add-one k) (elim (cases_Bool (s k)) [
      | inl e ↦
          ap (λ vs. is_named (names_at vs names) (get_or names v [])) (members-more s k e)
          ∙ ap (λ xs. list_any (bytes_eq (get_or names v [])) xs) (map-append (λ u. get_or names u []) (members_below s k) (k ∷ []))
          ∙ list_any-append (bytes_eq (get_or names v [])) (names_at (members_below s k) names) (get_or names k [] ∷ [])
          ∙ or_from (is_named (names_at (members_below s k) names) (get_or names v [])) (bytes_eq (get_or names v []) (get_or names k []) || false) before
          (or_from (bytes_eq (get_or names v []) (get_or names k [])) false (differ names k v are (omega arith) below) refl)
      | inr e ↦ ap (λ vs. is_named (names_at vs names) (get_or names v [])) (members-same s k e) ∙ before
    ])

-- the names of the first k vertices, where all are listed
first_names : (s : ℕ → Bool) → ((v : ℕ) → s v ≡ true) → (names : List (List ℕ)) (k : ℕ) → k ≤ length names → names_at (members_below s k) names ≡ take k names
first_names s every names zero le = names_at-none s names
first_names s every names (suc k) le =
    let lt : k < length names = omega (arith, le) in
    subst (λ n. names_at (members_below s n) names ≡ take n names) (add-one k)
    (names_at-more s k names (get_or names k []) (every k) (slice_get-get_or names k [] lt)
    ∙ ap (λ ns. ns ++ get_or names k [] ∷ []) (first_names s every names k (omega (arith, le))) ∙ sym (take_more names k [] lt))

-- where all are listed, these are all names
pub all_names : (s : ℕ → Bool) → ((v : ℕ) → s v ≡ true) → (names : List (List ℕ)) → names_at (members_below s (length names)) names ≡ names
all_names s every names = first_names s every names (length names) (omega arith) ∙ take-length names
