-- The vertex of each vertex's name is that vertex.
use Rattle.std.proofs.Common.{◌≡◌, ℕ, ◌<◌, cond, List, [], length, Ok, Err, true, refl, sym, ap, ◌∙◌, arith}
use Rattle.std.specs.Str.{bytes_eq}
use Rattle.std.proofs.lemmas.Bool.{false_from_ne_true}
use Rattle.std.proofs.lemmas.List.Folds.{list_any_at}
use Rattle.std.proofs.lemmas.List.Sums.{position_or_len_is}
use Rattle.std.proofs.lemmas.Slice.Eq.{bytes_eq-Decides}
use Rattle.mixed_graph.specs.Vocabulary.{AreNames, is_named, index_of, name_of}
use Rattle.step_json.specs.declared.fault.ValueFault.TheVariants.{Name}
use Rattle.step_json.specs.Vocabulary.{vertex_of}

same : (names : List (List ℕ)) (v : ℕ) → bytes_eq (name_of names v) (name_of names v) ≡ true
same names v = (bytes_eq-Decides (name_of names v) (name_of names v)).1 refl

-- a name that differs from those before it stands at its place
index_back : (names : List (List ℕ)) (v : ℕ) → AreNames names → v < length names → index_of names (name_of names v) ≡ v
index_back names v are lt = position_or_len_is (bytes_eq (name_of names v)) names v [] (omega (arith, lt))
    (λ i less. false_from_ne_true _ (λ e. are.distinct i v [] less lt (sym ((bytes_eq-Decides _ _).0 e)))) (λ _. same names v)

is_there : (names : List (List ℕ)) (v : ℕ) → v < length names → is_named names (name_of names v) ≡ true
is_there names v lt = list_any_at (bytes_eq (name_of names v)) names v [] lt (same names v)

-- the name of a vertex is read as that vertex
pub vertex_back : (names : List (List ℕ)) (v : ℕ) → AreNames names → v < length names → vertex_of names (name_of names v) ≡ Ok v
vertex_back names v are lt =
    ap (λ b. cond b (Ok (index_of names (name_of names v))) (Err (Name (name_of names v)))) (is_there names v lt)
    ∙ ap (λ (k : ℕ). Ok k) (index_back names v are lt)
