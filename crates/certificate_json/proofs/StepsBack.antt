-- The value of a step is read again as that step.
use Rattle.std.proofs.Common.{◌≡◌, ℕ, zero, suc, ◌+◌, ◌^◌, ◌≤◌, Bool, true, false, cond, ◌&&◌, bit_and, eqb, ltb, leb, List, [], ◌∷◌, ◌++◌, length}
use Rattle.std.proofs.Common.{map, Some, Ok, Err, codes, refl, sym, ap, ap₂, ◌∙◌, append_assoc, append-nil, length-append, arith, ltb-true, leb-true}
use Rattle.std.proofs.Common.{lt-ltb}
use Rattle.mixed_graph.specs.Vocabulary.{has, AreNames, name_of, is_below}
use Rattle.mixed_graph.proofs.Masks.{has-zero, has-and, zero_from_empty}
use Rattle.mixed_graph.specs.Masks as masks
use Rattle.do_derivation.specs.Plans.{Move, Plan, Plans, plan}
use Rattle.do_derivation.specs.declared.moves.SetMove.{SetMove}
use Rattle.do_derivation.specs.declared.moves.BareMove.{BareMove}
use Rattle.do_derivation.specs.Vocabulary.{no_plans, plans_of, set_word, bare_word, set_move_of, bare_move_of}
use Rattle.do_derivation.proofs.WordsBack.{set_word_read, bare_word_read, bare_word_unread}
use Rattle.serde_json.specs.Data.{array, number, unsigned, Items, no_items, item}
use Rattle.certificate_json.proofs.Values.{strings, numbers, groups, names_value, set_value, said, move_value, step_value, step_values}
use Rattle.step_json.specs.declared.words.Word.{Word}
use Rattle.step_json.specs.declared.fault.ValueFault.TheVariants.{Form}
use Rattle.step_json.specs.Vocabulary.{◌>>=◌, or_form, vertex_of, more_vertices, vertices_in, number_in, each, numbers_in, groups_in, last, argument, arguments, step_within, step_in, other_word_of, or_bare, or_set, word_of}
use Rattle.certificate_json.specs.StepSizes.{are_below, groups_below, is_move_within, is_within, are_within, is_move_short, is_short, are_short, nesting}
use Rattle.certificate_json.specs.StepSizes.{nesting_each}
use Rattle.step_json.specs.declared.words.Word.TheVariants as words
use Rattle.step_json.proofs.Depths.{step_suc}
use Rattle.certificate_json.proofs.NamesBack.{vertex_back}
use Rattle.certificate_json.proofs.SetsBack.{set_reads_back}

both : (a b : Bool) → (a && b) ≡ true → (a ≡ true) × (b ≡ true)
both true b h = (refl, h)
both false b h = cc h

none_apart : (set : ℕ) → masks.is_apart 0 set ≡ true
none_apart set = ap (λ n. eqb n 0) (zero_from_empty (bit_and 0 set) (λ v. has-and 0 set v ∙ ap (λ b. b && has set v) (has-zero v)))

-- ---- lists of vertices and of numbers

chain_back : (names : List (List ℕ)) (vs before : List ℕ) → AreNames names → are_below (length names) vs ≡ true → length before + length vs ≤ 64
    → more_vertices names before (strings (map (name_of names) vs)) ≡ Ok (before ++ vs)
chain_back names [] before are all le = ap (λ vs. Ok vs) (sym (append-nil before))
chain_back names (v ∷ vs) before are all le =
    let parts = both (ltb v (length names)) (are_below (length names) vs) all in
    let rest = strings (map (name_of names) vs) in
    ap (λ b. cond b (vertex_of names (name_of names v) >>= λ v. more_vertices names (before ++ v ∷ []) rest) (Err Form))
    (lt-ltb (length before) 64 (omega arith))
    ∙ ap (λ r. r >>= λ v. more_vertices names (before ++ v ∷ []) rest) (vertex_back names v are (ltb-true _ _ parts.0))
    ∙ chain_back names vs (before ++ v ∷ []) are parts.1 (omega (arith, length-append before (v ∷ [])))
    ∙ ap (λ vs. Ok vs) (append_assoc before (v ∷ []) vs)

vertices_back : (names : List (List ℕ)) (vs : List ℕ) → AreNames names → are_below (length names) vs ≡ true → leb (length vs) 64 ≡ true
    → vertices_in names (names_value names vs) ≡ Ok vs
unfolding vertices_in
vertices_back names vs are all le = chain_back names vs [] are all (omega (arith, leb-true (length vs) 64 le))

number_back : (n : ℕ) → ltb n (2 ^ 32) ≡ true → number_in (number (unsigned n)) ≡ Ok n
unfolding number_in
number_back n h = ap (λ b. cond b (Ok n) (Err Form)) h

each_number_back : (ns before : List ℕ) → are_below (2 ^ 32) ns ≡ true → each number_in before (numbers ns) ≡ Ok (before ++ ns)
each_number_back [] before all = ap (λ ns. Ok ns) (sym (append-nil before))
each_number_back (n ∷ ns) before all =
    let parts = both (ltb n (2 ^ 32)) (are_below (2 ^ 32) ns) all in
    ap (λ r. r >>= λ x. each number_in (before ++ x ∷ []) (numbers ns)) (number_back n parts.0)
    ∙ each_number_back ns (before ++ n ∷ []) parts.1
    ∙ ap (λ ns. Ok ns) (append_assoc before (n ∷ []) ns)

numbers_back : (ns : List ℕ) → are_below (2 ^ 32) ns ≡ true → numbers_in (array (numbers ns)) ≡ Ok ns
unfolding numbers_in
numbers_back ns all = each_number_back ns [] all

each_group_back : (ls before : List (List ℕ)) → groups_below (2 ^ 32) ls ≡ true → each numbers_in before (groups ls) ≡ Ok (before ++ ls)
each_group_back [] before all = ap (λ ls. Ok ls) (sym (append-nil before))
each_group_back (l ∷ ls) before all =
    let parts = both (are_below (2 ^ 32) l) (groups_below (2 ^ 32) ls) all in
    ap (λ r. r >>= λ x. each numbers_in (before ++ x ∷ []) (groups ls)) (numbers_back l parts.0)
    ∙ each_group_back ls (before ++ l ∷ []) parts.1
    ∙ ap (λ ls. Ok ls) (append_assoc before (l ∷ []) ls)

groups_back : (ls : List (List ℕ)) → groups_below (2 ^ 32) ls ≡ true → groups_in (array (groups ls)) ≡ Ok ls
unfolding groups_in
groups_back ls all = each_group_back ls [] all

-- ---- words

set_word_back : (kind : SetMove) → word_of (set_word kind) ≡ Some (words.WithSet kind)
unfolding word_of
set_word_back kind = ap (λ o. or_set o (or_bare (bare_move_of (set_word kind)) (other_word_of (set_word kind)))) (set_word_read kind)

bare_word_back : (kind : BareMove) → word_of (bare_word kind) ≡ Some (words.Bare kind)
unfolding word_of
bare_word_back kind = ap₂ (λ o b. or_set o (or_bare b (other_word_of (bare_word kind)))) (bare_word_unread kind) (bare_word_read kind)

chain_word : word_of (codes "chain") ≡ Some words.Chain
unfolding word_of set_move_of bare_move_of other_word_of
chain_word = refl

group_word : word_of (codes "group") ≡ Some words.Group
unfolding word_of set_move_of bare_move_of other_word_of
group_word = refl

cite_word : word_of (codes "cite") ≡ Some words.Cite
unfolding word_of set_move_of bare_move_of other_word_of
cite_word = refl

at_word : word_of (codes "at") ≡ Some words.At
unfolding word_of set_move_of bare_move_of other_word_of
at_word = refl

then_word : word_of (codes "then") ≡ Some words.Then
unfolding word_of set_move_of bare_move_of other_word_of
then_word = refl

-- ---- steps

-- a word's arguments are read
said_back : (names : List (List ℕ)) (d : ℕ) (text : List ℕ) (w : Word) (ds : Items) → word_of text ≡ Some w → step_within names (suc d) (said text ds)
    ≡ arguments names (step_within names d) w ds
said_back names d text w ds h =
    step_suc names d (said text ds) ∙ ap (λ o. or_form o >>= λ w. arguments names (step_within names d) w ds) h

move_back : (names : List (List ℕ)) (d : ℕ) (m : Move) → AreNames names → is_move_within (length names) m ≡ true → is_move_short m ≡ true
    → step_within names (suc d) (move_value names m) ≡ Ok (Plan.Make m)
move_back names d (Move.WithSet kind z) are within fits =
    said_back names d (set_word kind) (words.WithSet kind) (item (set_value names z) no_items) (set_word_back kind)
    ∙ ap (λ res. res >>= λ z. last (Plan.Make (Move.WithSet kind z)) no_items) (set_reads_back names 0 z are within (none_apart z))
move_back names d (Move.Bare kind) are within fits = said_back names d (bare_word kind) (words.Bare kind) no_items (bare_word_back kind)
move_back names d (Move.Chain o) are within fits =
    said_back names d (codes "chain") words.Chain (item (names_value names o) no_items) chain_word
    ∙ ap (λ r. r >>= λ o. last (Plan.Make (Move.Chain o)) no_items) (vertices_back names o are within fits)
move_back names d (Move.Group l) are within fits =
    said_back names d (codes "group") words.Group (item (array (groups l)) no_items) group_word
    ∙ ap (λ r. r >>= λ l. last (Plan.Make (Move.Group l)) no_items) (groups_back l fits)
move_back names d (Move.Cite k) are within fits =
    said_back names d (codes "cite") words.Cite (item (number (unsigned k)) no_items) cite_word
    ∙ ap (λ r. r >>= λ k. last (Plan.Make (Move.Cite k)) no_items) (number_back k fits)

abbrev StepBack : List (List ℕ) → Plan → Type 0
StepBack names p = (d : ℕ) → is_within (length names) p ≡ true → is_short p ≡ true → nesting p ≤ d → step_within names d (step_value names p) ≡ Ok p

abbrev EachBack : List (List ℕ) → Plans → Type 0
EachBack names ps = (d : ℕ) (before : List Plan) → are_within (length names) ps ≡ true → are_short ps ≡ true → nesting_each ps ≤ d
    → (all : List Plan) × (each (step_within names d) before (step_values names ps) ≡ Ok (before ++ all)) × (plans_of all ≡ ps)

mutual
  step_back : (names : List (List ℕ)) → AreNames names → (p : Plan) → StepBack names p
  step_back names are (Plan.Make m) zero within fits nest = absurd (omega arith)
  step_back names are (Plan.Make m) (suc d) within fits nest = move_back names d m are within fits
  step_back names are (Plan.At i p) zero within fits nest = absurd (omega arith)
  step_back names are (Plan.At i p) (suc d) within fits nest =
      let parts = both (ltb i (2 ^ 32)) (is_short p) fits in
      said_back names d (codes "at") words.At (item (number (unsigned i)) (item (step_value names p) no_items)) at_word
      ∙ ap (λ r. r >>= λ i. argument (step_within names d) (λ p. last (Plan.At i p)) (item (step_value names p) no_items)) (number_back i parts.0)
      ∙ ap (λ r. r >>= λ p. last (Plan.At i p) no_items) (step_back names are p d within parts.1 (omega arith))
  step_back names are (Plan.Then ps) zero within fits nest = absurd (omega arith)
  step_back names are (Plan.Then ps) (suc d) within fits nest =
      let e = each_back names are ps d [] within fits (omega arith) in
      said_back names d (codes "then") words.Then (item (array (step_values names ps)) no_items) then_word
      ∙ ap (λ r. r >>= λ ps. last (Plan.Then (plans_of ps)) no_items) e.1
      ∙ ap (λ ps. Ok (Plan.Then ps)) e.2

  each_back : (names : List (List ℕ)) → AreNames names → (ps : Plans) → EachBack names ps
  each_back names are no_plans d before within fits nest = ([], ap (λ ps. Ok ps) (sym (append-nil before)), refl)
  each_back names are (plan p ps) d before within fits nest =
      let inside = both (is_within (length names) p) (are_within (length names) ps) within in
      let parts = both (is_short p) (are_short ps) fits in
      let e = each_back names are ps d (before ++ p ∷ []) inside.1 parts.1 (omega arith) in (
        p ∷ e.0,
        ap (λ r. r >>= λ x. each (step_within names d) (before ++ x ∷ []) (step_values names ps)) (step_back names are p d inside.0 parts.0 (omega arith))
            ∙ e.1 ∙ ap (λ ps. Ok ps) (append_assoc before (p ∷ []) e.0),
        ap (plan p) e.2,
      )

-- the value of a step is read as that step, where steps nest 60 deep at most
pub step_reads_back : (names : List (List ℕ)) (p : Plan) → AreNames names → is_within (length names) p ≡ true → is_short p ≡ true → nesting p ≤ 60
    → step_in names (step_value names p) ≡ Ok p
step_reads_back names p are within fits nest = step_back names are p 60 within fits nest
