-- The value of a set is read again as that set.
use Rattle.std.proofs.Common.{◌≡◌, ℕ, zero, suc, ◌+◌, ◌*◌, ◌%◌, ◌^◌, ◌<◌, ◌≤◌, Bool, true, false, cond, eqb, ◌||◌, ◌&&◌, List, [], ◌∷◌, ◌++◌, length}
use Rattle.std.proofs.Common.{map, Result, Ok, Err, bit_and, refl, sym, ap, ◌∙◌, append-nil, lit<, inl, inr, arith, eqb-true, ltb-true, lt-ltb}
use Rattle.std.proofs.lemmas.Bool.{cases_lt, false≢true}
use Rattle.std.specs.Int.{bit_at}
use Rattle.std.proofs.lemmas.List.{map-append}
use Rattle.std.proofs.lemmas.Nat.{or_disjoint, mod-pow-add, pow_pos}
use Rattle.std.proofs.lemmas.Nat.Bits.{and_pow, bit_at-lt, bit_at_above}
use Rattle.std.proofs.Math.Nat.{mod-eq_of_lt, pow-le-pow_right}
use Rattle.mixed_graph.specs.Vocabulary.{has, members_below, AreNames, name_of, union, one, is_below, is_apart}
use Rattle.mixed_graph.proofs.Masks.{has-zero, has-or, has-and}
use Rattle.mixed_graph.proofs.Members.{length-members-le}
use Rattle.serde_json.specs.Data.{string, Items, no_items, item}
use Rattle.certificate_json.proofs.Values.{strings, set_value}
use Rattle.step_json.specs.declared.fault.ValueFault.{ValueFault}
use Rattle.step_json.specs.declared.fault.ValueFault.TheVariants.{Form}
use Rattle.step_json.specs.Vocabulary.{◌>>=◌, vertex_of, with_member, more_of_set, set_in}
use Rattle.certificate_json.proofs.NamesBack.{vertex_back}

-- ---- the members below k, as a mask

zero_bit : (n : ℕ) → n < 2 → eqb n 1 ≡ false → n ≡ 0
zero_bit zero lt h = refl
zero_bit (suc zero) lt h = cc h
zero_bit (suc (suc n)) lt h = absurd (omega arith)

more_low : (set k : ℕ) → set % 2 ^ (k + 1) ≡ bit_at set k * 2 ^ k + set % 2 ^ k
more_low set k = let e : k + 1 ≡ 1 + k = omega arith in rw e (mod-pow-add set 1 k)

low_out : (set k : ℕ) → has set k ≡ false → set % 2 ^ (k + 1) ≡ set % 2 ^ k
unfolding has
low_out set k h =
    let z : bit_at set k ≡ 0 = zero_bit (bit_at set k) (bit_at-lt set k) h in
    more_low set k ∙ ap (λ b. b * 2 ^ k + set % 2 ^ k) z ∙ omega arith

low_lt : (set k : ℕ) → set % 2 ^ k < 2 ^ k
low_lt set k = let p = pow_pos k in omega arith

low_in : (set k : ℕ) → has set k ≡ true → set % 2 ^ (k + 1) ≡ union (set % 2 ^ k) (one k)
unfolding has
low_in set k h =
    let low = set % 2 ^ k in
    let apart : bit_and low (2 ^ k) ≡ 0 = and_pow low k ∙ ap (λ b. b * 2 ^ k) (bit_at_above low k k (low_lt set k) (omega arith)) ∙ omega arith in
    more_low set k ∙ ap (λ b. b * 2 ^ k + low) (eqb-true _ _ h) ∙ omega (arith, or_disjoint low (2 ^ k) apart)

-- a member of a set below n is below n
pub not_above : (n set k : ℕ) → set < 2 ^ n → n ≤ k → has set k ≡ false
unfolding has
not_above n set k lt le = ap (λ b. eqb b 1) (bit_at_above set n k lt le)

apart_bits : (a b : Bool) → (a && b) ≡ false → b ≡ true → a ≡ false
apart_bits true true h e = h
apart_bits true false h e = cc e
apart_bits false b h e = refl

apart_at : (a b k : ℕ) → is_apart a b ≡ true → has b k ≡ true → has a k ≡ false
apart_at a b k apart h = apart_bits (has a k) (has b k) (sym (has-and a b k) ∙ ap (λ n. has n k) (eqb-true (bit_and a b) 0 apart) ∙ has-zero k) h

-- ---- the names of a list, before other items

abbrev before : List (List ℕ) → Items → Items
before [] rest = rest
before (t ∷ ts) rest = item (string t) (before ts rest)

all_before : (ts : List (List ℕ)) → strings ts ≡ before ts no_items
all_before [] = refl
all_before (t ∷ ts) = ap (item (string t)) (all_before ts)

before-append : (ts us : List (List ℕ)) (rest : Items) → before (ts ++ us) rest ≡ before ts (before us rest)
before-append [] us rest = refl
before-append (t ∷ ts) us rest = ap (item (string t)) (before-append ts us rest)

-- ---- one member after another

open_place : (barred set k : ℕ) → is_apart barred set ≡ true → has set k ≡ true → has (union barred (set % 2 ^ k)) k ≡ false
open_place barred set k apart h =
    has-or barred (set % 2 ^ k) k ∙ ap (λ b. b || has (set % 2 ^ k) k) (apart_at barred set k apart h)
    ∙ not_above k (set % 2 ^ k) k (low_lt set k) (omega arith)

member_read : (names : List (List ℕ)) (barred count low k : ℕ) (rest : Items) → AreNames names → count < 64 → k < length names → has (union barred low) k
    ≡ false
    → more_of_set names barred count low (item (string (name_of names k)) rest) ≡ more_of_set names barred (count + 1) (union low (one k)) rest
member_read names barred count low k rest are few lt free =
    let next = λ (r : Result ℕ ValueFault). r >>= λ v. with_member barred low v >>= λ more. more_of_set names barred (count + 1) more rest in
    ap (λ b. cond b (next (vertex_of names (name_of names k))) (Err Form)) (lt-ltb count 64 few)
    ∙ ap next (vertex_back names k are lt)
    ∙ ap (λ b. cond b (Err Form) (Ok (union low (one k))) >>= λ more. more_of_set names barred (count + 1) more rest) free

abbrev RunsTo : List (List ℕ) → (barred set k : ℕ) → Type 0
RunsTo names barred set k = (rest : Items) → more_of_set names barred 0 0 (before (map (name_of names) (members_below (has set) k)) rest)
    ≡ more_of_set names barred (length (members_below (has set) k)) (set % 2 ^ k) rest

-- the members below k + 1, where k is one, and where it isn't
grown : (s : ℕ → Bool) (k : ℕ) (b : Bool) → s k ≡ b → members_below s (suc k) ≡ members_below s k ++ cond b (k ∷ []) []
unfolding members_below
grown s k b h = ap (λ b. members_below s k ++ cond b (k ∷ []) []) h

length-one_more : (vs : List ℕ) (k : ℕ) → length (vs ++ k ∷ []) ≡ length vs + 1
length-one_more [] k = refl
length-one_more (v ∷ vs) k = omega (arith, length-one_more vs k)

step_in_set : (names : List (List ℕ)) (barred set k : ℕ) → AreNames names → is_below (length names) set ≡ true → is_apart barred set ≡ true → k < 64
    → (b : Bool) → has set k ≡ b → RunsTo names barred set k → RunsTo names barred set (suc k)
step_in_set names barred set k are within apart lt false h runs rest =
    let vs = members_below (has set) k in
    let same : members_below (has set) (suc k) ≡ vs = grown (has set) k false h ∙ append-nil vs in
    let next : suc k ≡ k + 1 = omega arith in
    let low : set % 2 ^ (suc k) ≡ set % 2 ^ k = ap (λ j. set % 2 ^ j) next ∙ low_out set k h in
    ap (λ l. more_of_set names barred 0 0 (before (map (name_of names) l) rest)) same
    ∙ runs rest
    ∙ ap (λ l. more_of_set names barred (length l) (set % 2 ^ k) rest) (sym same)
    ∙ ap (λ s. more_of_set names barred (length (members_below (has set) (suc k))) s rest) (sym low)
step_in_set names barred set k are within apart lt true h runs rest =
    let vs = members_below (has set) k in
    let f = name_of names in
    let same : members_below (has set) (suc k) ≡ vs ++ k ∷ [] = grown (has set) k true h in
    let next : suc k ≡ k + 1 = omega arith in
    let low : set % 2 ^ (suc k) ≡ union (set % 2 ^ k) (one k) = ap (λ j. set % 2 ^ j) next ∙ low_in set k h in
    let below : k < length names = elim (cases_lt k (length names)) [
      | inl lt ↦ lt
      | inr le ↦ absurd
          (false≢true (sym (not_above (length names) set k (ltb-true _ _ within) le) ∙ h))
    ] in
    let few : length vs < 64 = omega (arith, length-members-le (has set) k) in
    ap (λ l. more_of_set names barred 0 0 (before (map f l) rest)) same
    ∙ ap (λ l. more_of_set names barred 0 0 (before l rest)) (map-append f vs (k ∷ []))
    ∙ ap (more_of_set names barred 0 0) (before-append (map f vs) (f k ∷ []) rest)
    ∙ runs (item (string (f k)) rest)
    ∙ member_read names barred (length vs) (set % 2 ^ k) k rest are few below (open_place barred set k apart h)
    ∙ ap (λ c. more_of_set names barred c (union (set % 2 ^ k) (one k)) rest) (sym (length-one_more vs k))
    ∙ ap (λ l. more_of_set names barred (length l) (union (set % 2 ^ k) (one k)) rest) (sym same)
    ∙ ap (λ s. more_of_set names barred (length (members_below (has set) (suc k))) s rest) (sym low)

none_yet : (names : List (List ℕ)) (barred set : ℕ) → RunsTo names barred set 0
unfolding members_below
none_yet names barred set rest =
    let e : set % 2 ^ 0 ≡ 0 = omega arith in
    ap (λ s. more_of_set names barred 0 s rest) (sym e)

runs_to : (names : List (List ℕ)) (barred set k : ℕ) → AreNames names → is_below (length names) set ≡ true → is_apart barred set ≡ true → k ≤ 64
    → RunsTo names barred set k
runs_to names barred set zero are within apart le = none_yet names barred set
runs_to names barred set (suc k) are within apart le = step_in_set names barred set k are within apart (omega arith) (has set k) refl
    (runs_to names barred set k are within apart (omega arith))

-- the value of a set of vertices, none of them barred, is read as that set
pub set_reads_back : (names : List (List ℕ)) (barred set : ℕ) → AreNames names → is_below (length names) set ≡ true → is_apart barred set ≡ true
    → set_in names barred (set_value names set) ≡ Ok set
unfolding set_in
set_reads_back names barred set are within apart =
    let wide : 2 ^ length names ≤ 2 ^ 64 = pow-le-pow_right (lit< tt) {j = 64} are.few in
    let inside : set < 2 ^ length names = ltb-true _ _ within in
    let lt : set < 2 ^ 64 = omega arith in
    let vs = members_below (has set) 64 in
    ap (more_of_set names barred 0 0) (all_before (map (name_of names) vs))
    ∙ runs_to names barred set 64 are within apart (omega arith) no_items
    ∙ ap (λ s. Ok s) (mod-eq_of_lt {n = set} {m = 2 ^ 64} lt)
