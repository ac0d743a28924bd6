-- What a reader sees of sets and steps.
use Rattle.std.proofs.Common.{◌≡◌, ℕ, suc, ◌+◌, ◌*◌, ◌^◌, ◌<◌, true, ltb, List, [], ◌∷◌, map, codes, decimal, refl, arith, ltb-true}
use Rattle.std.specs.Str.{IsUtf8}
use Rattle.std.proofs.lemmas.Bool.{and_parts}
use Rattle.json.specs.Json.{Json}
use Rattle.json.specs.Json as json
use Rattle.json.proofs.Printed.Utf8.{IsUtf8-are_ascii}
use Rattle.mixed_graph.specs.Vocabulary.{has, members_below, AreNames, name_of}
use Rattle.do_derivation.specs.Plans.{Move, Plan, Plans, plan}
use Rattle.do_derivation.specs.declared.moves.SetMove.{SetMove}
use Rattle.do_derivation.specs.declared.moves.BareMove.{BareMove}
use Rattle.do_derivation.specs.Vocabulary.{no_plans, set_word, bare_word}
use Rattle.do_derivation.specs.declared.moves.SetMove.TheVariants as set_move
use Rattle.do_derivation.specs.declared.moves.BareMove.TheVariants as bare_move
use Rattle.serde_json.specs.Data.{Items, string, number, unsigned, array, no_items, item}
use Rattle.certificate_json.specs.StepSizes.{are_below, groups_below, is_move_short, is_short, are_short, nesting, nesting_each}
use Rattle.answer_json.specs.Vocabulary.{vertex_json, vertices_json, set_json}
use Rattle.certificate_json.specs.Steps.{numbers_json, said_json, move_json, step_json, steps_json}
use Rattle.certificate_json.proofs.Seen.{IsSeen, AreSeen, deeper, all_deeper, string_seen, text_seen, number_seen, none_seen, one_more, array_seen}
use Rattle.certificate_json.proofs.Utf8.{name_utf8}
use Rattle.certificate_json.proofs.Values.{strings, numbers, groups, names_value, set_value, said, move_value, step_value, step_values}

-- ---- names and numbers

names_seen : (names : List (List ℕ)) (vs : List ℕ) (n : ℕ) → AreNames names → AreSeen (map (vertex_json names) vs) (strings (map (name_of names) vs)) n
names_seen names [] n are = none_seen n
names_seen names (v ∷ vs) n are = one_more (vertex_json names v) (string (name_of names v)) (map (vertex_json names) vs) (strings (map (name_of names) vs)) n
    (text_seen (name_of names v) n (name_utf8 names v are)) (names_seen names vs n are)

pub vertices_seen : (names : List (List ℕ)) (vs : List ℕ) (n : ℕ) → AreNames names → IsSeen (vertices_json names vs) (names_value names vs) (suc n)
vertices_seen names vs n are = array_seen (map (vertex_json names) vs) (strings (map (name_of names) vs)) n (names_seen names vs n are)

pub set_seen : (names : List (List ℕ)) (set n : ℕ) → AreNames names → IsSeen (set_json names set) (set_value names set) (suc n)
set_seen names set n are = vertices_seen names (members_below (has set) 64) n are

short_seen : (k n : ℕ) → ltb k (2 ^ 32) ≡ true → IsSeen (json.number (decimal k)) (number (unsigned k)) n
short_seen k n h = let lt : k < 2 ^ 32 = ltb-true k (2 ^ 32) h in number_seen k n (omega (arith, lt))

each_seen : (ks : List ℕ) (n : ℕ) → are_below (2 ^ 32) ks ≡ true → AreSeen (map (λ k. json.number (decimal k)) ks) (numbers ks) n
each_seen [] n h = none_seen n
each_seen (k ∷ ks) n h =
    let parts = and_parts (ltb k (2 ^ 32)) (are_below (2 ^ 32) ks) h in
    one_more (json.number (decimal k)) (number (unsigned k)) (map (λ k. json.number (decimal k)) ks) (numbers ks) n (short_seen k n parts.0)
    (each_seen ks n parts.1)

groups_seen : (ls : List (List ℕ)) (n : ℕ) → groups_below (2 ^ 32) ls ≡ true → AreSeen (map numbers_json ls) (groups ls) (suc n)
groups_seen [] n h = none_seen (suc n)
groups_seen (l ∷ ls) n h =
    let parts = and_parts (are_below (2 ^ 32) l) (groups_below (2 ^ 32) ls) h in
    one_more (numbers_json l) (array (numbers l)) (map numbers_json ls) (groups ls) (suc n)
    (array_seen (map (λ k. json.number (decimal k)) l) (numbers l) n (each_seen l n parts.0)) (groups_seen ls n parts.1)

-- ---- steps

said_seen : (word : List ℕ) (js : List Json) (ds : Items) (n : ℕ) → IsUtf8 word → AreSeen js ds n → IsSeen (said_json word js) (said word ds) (suc n)
said_seen word js ds n utf8 h =
    array_seen (json.string word ∷ js) (item (string word) ds) n (one_more (json.string word) (string word) js ds n (string_seen word n utf8) h)

set_word_utf8 : (kind : SetMove) → IsUtf8 (set_word kind)
set_word_utf8 set_move.Rule1In = IsUtf8-are_ascii (set_word set_move.Rule1In) refl
set_word_utf8 set_move.Rule1Out = IsUtf8-are_ascii (set_word set_move.Rule1Out) refl
set_word_utf8 set_move.Rule2See = IsUtf8-are_ascii (set_word set_move.Rule2See) refl
set_word_utf8 set_move.Rule2Do = IsUtf8-are_ascii (set_word set_move.Rule2Do) refl
set_word_utf8 set_move.Rule3In = IsUtf8-are_ascii (set_word set_move.Rule3In) refl
set_word_utf8 set_move.Rule3Out = IsUtf8-are_ascii (set_word set_move.Rule3Out) refl
set_word_utf8 set_move.Widen = IsUtf8-are_ascii (set_word set_move.Widen) refl

bare_word_utf8 : (kind : BareMove) → IsUtf8 (bare_word kind)
bare_word_utf8 bare_move.Unchain = IsUtf8-are_ascii (bare_word bare_move.Unchain) refl
bare_word_utf8 bare_move.Narrow = IsUtf8-are_ascii (bare_word bare_move.Narrow) refl
bare_word_utf8 bare_move.Split = IsUtf8-are_ascii (bare_word bare_move.Split) refl
bare_word_utf8 bare_move.Unwrap = IsUtf8-are_ascii (bare_word bare_move.Unwrap) refl

move_seen : (names : List (List ℕ)) (m : Move) → AreNames names → is_move_short m ≡ true → IsSeen (move_json names m) (move_value names m) 3
move_seen names (Move.WithSet kind z) are h = deeper 3 (omega arith)
    (said_seen (set_word kind) (set_json names z ∷ []) (item (set_value names z) no_items) 1 (set_word_utf8 kind)
    (one_more (set_json names z) (set_value names z) [] no_items 1 (set_seen names z 0 are) (none_seen 1)))
move_seen names (Move.Bare kind) are h = said_seen (bare_word kind) [] no_items 2 (bare_word_utf8 kind) (none_seen 2)
move_seen names (Move.Chain o) are h =
    said_seen (codes "chain") (vertices_json names o ∷ []) (item (names_value names o) no_items) 2 (IsUtf8-are_ascii (codes "chain") refl)
    (one_more (vertices_json names o) (names_value names o) [] no_items 2 (vertices_seen names o 1 are) (none_seen 2))
move_seen names (Move.Group l) are h =
    said_seen (codes "group") _ (item (array (groups l)) no_items) 2 (IsUtf8-are_ascii (codes "group") refl)
    (one_more _ (array (groups l)) [] no_items 2 (array_seen (map numbers_json l) (groups l) 1 (groups_seen l 0 h)) (none_seen 2))
move_seen names (Move.Cite k) are h =
    said_seen (codes "cite") (json.number (decimal k) ∷ []) (item (number (unsigned k)) no_items) 2 (IsUtf8-are_ascii (codes "cite") refl)
    (one_more (json.number (decimal k)) (number (unsigned k)) [] no_items 2 (short_seen k 2 h) (none_seen 2))

mutual
  -- a move nests three lists at most, and each step round it adds two or fewer
  pub step_seen : (names : List (List ℕ)) (p : Plan) → AreNames names → is_short p ≡ true → IsSeen (step_json names p) (step_value names p) (2 * nesting p + 1)
  step_seen names (Plan.Make m) are h = move_seen names m are h
  step_seen names (Plan.At i p) are h =
      let parts = and_parts (ltb i (2 ^ 32)) (is_short p) h in
      let n = 2 * nesting p + 1 in
      deeper (2 * nesting (Plan.At i p) + 1) (omega arith)
      (said_seen (codes "at") (json.number (decimal i) ∷ step_json names p ∷ []) (item (number (unsigned i)) (item (step_value names p) no_items)) n
      (IsUtf8-are_ascii (codes "at") refl)
      (one_more (json.number (decimal i)) (number (unsigned i)) (step_json names p ∷ []) (item (step_value names p) no_items) n (short_seen i n parts.0)
      (one_more (step_json names p) (step_value names p) [] no_items n (step_seen names p are parts.1) (none_seen n))))
  step_seen names (Plan.Then ps) are h =
      let n = 2 * nesting_each ps + 1 in
      deeper (2 * nesting (Plan.Then ps) + 1) (omega arith)
      (said_seen (codes "then") _ (item (array (step_values names ps)) no_items) (suc n) (IsUtf8-are_ascii (codes "then") refl)
      (one_more _ (array (step_values names ps)) [] no_items (suc n) (array_seen (steps_json names ps) (step_values names ps) n (steps_seen names ps are h))
      (none_seen (suc n))))

  pub steps_seen : (names : List (List ℕ)) (ps : Plans) → AreNames names → are_short ps ≡ true
      → AreSeen (steps_json names ps) (step_values names ps) (2 * nesting_each ps + 1)
  steps_seen names no_plans are h = none_seen 1
  steps_seen names (plan p ps) are h =
      let parts = and_parts (is_short p) (are_short ps) h in
      let n = 2 * nesting_each (plan p ps) + 1 in
      one_more (step_json names p) (step_value names p) (steps_json names ps) (step_values names ps) n (deeper n (omega arith) (step_seen names p are parts.0))
      (all_deeper n (omega arith) (steps_seen names ps are parts.1))
