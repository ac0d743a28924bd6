-- What is used of the names of a graph when a text is read.
use Rattle.std.proofs.Common.{◌≡◌, ℕ, suc, ◌+◌, ◌<◌, ◌≤◌, Bool, true, false, cond, ◌&&◌, List, [], ◌∷◌, length, get_or, refl, sym, arith}
use Rattle.std.specs.List.{prefix_len, list_all}
use Rattle.std.specs.Str.{bytes_eq}
use Rattle.std.proofs.lemmas.Bool.{false_from_ne_true}
use Rattle.std.proofs.lemmas.List.Elements.{All-get_or}
use Rattle.std.proofs.lemmas.List.Folds.{list_any_at}
use Rattle.std.proofs.lemmas.List.Sums.{position_or_len_is}
use Rattle.std.proofs.lemmas.Slice.Eq.{bytes_eq-Decides}
use Rattle.mixed_graph.specs.Vocabulary.{IsName, AreNames, is_line_byte, is_named, index_of}

-- not empty, and without a quotation mark or a line's end
pub record IsKnown (name : List ℕ) : Type 0 where
  pub some : 0 < length name
  pub inner : prefix_len is_line_byte name ≡ length name

-- each is a name, and stands there once
pub record AreKnown (names : List (List ℕ)) : Type 0 where
  pub few : length names ≤ 64
  pub each : (k : ℕ) → k < length names → IsKnown (get_or names k [])
  pub once : (k : ℕ) → k < length names → index_of names (get_or names k []) ≡ k
  pub there : (k : ℕ) → k < length names → is_named names (get_or names k []) ≡ true

run_step : (b c : Bool) (n m : ℕ) → (b && c) ≡ true → (c ≡ true → n ≡ m) → cond b (1 + n) 0 ≡ suc m
run_step true c n m h f = omega (arith, f h)
run_step false c n m h f = cc h

-- a list whose elements all pass is one run
pub whole_run : (p : ℕ → Bool) (xs : List ℕ) → list_all p xs ≡ true → prefix_len p xs ≡ length xs
whole_run p [] h = refl
whole_run p (x ∷ xs) h = run_step (p x) (list_all p xs) (prefix_len p xs) (length xs) h (whole_run p xs)

known_name : (name : List ℕ) → IsName name → IsKnown name
known_name name is = record { some = is.some; inner = whole_run is_line_byte name is.line }

-- a name stands where it is first
place_is : (names : List (List ℕ)) (k : ℕ) → AreNames names → k < length names → index_of names (get_or names k []) ≡ k
place_is names k are lt =
    let name = get_or names k [] in
    position_or_len_is (bytes_eq name) names k [] (omega (arith, lt))
    (λ i less. false_from_ne_true (bytes_eq name (get_or names i [])) (λ e. are.distinct i k [] less lt
    (sym ((bytes_eq-Decides name (get_or names i [])).0 e))))
    (λ _. (bytes_eq-Decides name name).1 refl)

pub known : (names : List (List ℕ)) → AreNames names → AreKnown names
known names are = record {
  few = are.few;
  each = λ k lt. known_name (get_or names k []) (All-get_or IsName names k [] lt are.formed);
  once = λ k lt. place_is names k are lt;
  there = λ k lt. list_any_at (bytes_eq (get_or names k [])) names k [] lt ((bytes_eq-Decides (get_or names k []) (get_or names k [])).1 refl);
}
