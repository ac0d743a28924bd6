-- The names of a set, read back.
use Rattle.std.proofs.Common.{◌≡◌, ℕ, zero, suc, ◌+◌, ◌*◌, ◌%◌, ◌^◌, ◌<◌, ◌≤◌, Bool, true, false, eqb, List, [], ◌∷◌, ◌++◌, length, get_or, drop}
use Rattle.std.proofs.Common.{Some, None, Ok, bit_or, refl, sym, ap, subst, ◌∙◌, append_assoc, arith, eqb-true, codes}
use Rattle.std.specs.Int.{bit_at}
use Rattle.std.proofs.lemmas.Nat.{or_disjoint, mod-pow-add, pow_pos}
use Rattle.std.proofs.lemmas.Nat.Bits.{and_pow, bit_at-zero, bit_at-lt, bit_at_above}
use Rattle.std.proofs.Math.Nat.{mod-eq_of_lt}
use Rattle.mixed_graph.specs.Vocabulary.{has, is_named, index_of}
use Rattle.answer_text.specs.Vocabulary.{is_plain_byte, printed}
use Rattle.expr_text.specs.Read.{◌>>=◌, when, bad, trim, next_is, with_vertex, name_at, name_step, names_at, repeat}
use Rattle.expr_text.proofs.Known.{AreKnown}
use Rattle.expr_text.proofs.Listed.{members, listed, more_listed, names_text, member_in, member_out, members_end}
use Rattle.expr_text.proofs.Repeats.{end_with}
use Rattle.expr_text.proofs.Fronts.{Stops, raw_name_is_read}

-- ---- the members below k, as a number

zero_bit : (n : ℕ) → n < 2 → eqb n 1 ≡ false → n ≡ 0
zero_bit zero lt h = refl
zero_bit (suc zero) lt h = cc h
zero_bit (suc (suc n)) lt h = absurd (omega arith)

more_members : (set k : ℕ) → set % 2 ^ (k + 1) ≡ bit_at set k * 2 ^ k + set % 2 ^ k
more_members set k = let e : k + 1 ≡ 1 + k = omega arith in rw e (mod-pow-add set 1 k)

pub low_out : (set k : ℕ) → has set k ≡ false → set % 2 ^ (k + 1) ≡ set % 2 ^ k
unfolding has
low_out set k h =
    let z : bit_at set k ≡ 0 = zero_bit (bit_at set k) (bit_at-lt set k) h in
    more_members set k ∙ ap (λ b. b * 2 ^ k + set % 2 ^ k) z ∙ omega arith

low_lt : (set k : ℕ) → set % 2 ^ k < 2 ^ k
low_lt set k = let p = pow_pos k in omega arith

pub low_has_not : (n k : ℕ) → n < 2 ^ k → has n k ≡ false
unfolding has
low_has_not n k lt = ap (λ b. eqb b 1) (bit_at_above n k k lt (omega arith))

or_is : (n k : ℕ) → n < 2 ^ k → bit_or n (2 ^ k) ≡ n + 2 ^ k
or_is n k lt = or_disjoint n (2 ^ k) (and_pow n k ∙ ap (λ b. b * 2 ^ k) (bit_at_above n k k lt (omega arith)) ∙ omega arith)

pub low_in : (set k : ℕ) → has set k ≡ true → set % 2 ^ (k + 1) ≡ bit_or (set % 2 ^ k) (2 ^ k)
unfolding has
low_in set k h =
    more_members set k ∙ ap (λ b. b * 2 ^ k + set % 2 ^ k) (eqb-true _ _ h) ∙ (omega (arith, or_is (set % 2 ^ k) k (low_lt set k)))

-- ---- one name

pub vertex_new : (names : List (List ℕ)) (have : ℕ) (name : List ℕ) (k : ℕ) → is_named names name ≡ true → index_of names name ≡ k → has have k ≡ false
    → with_vertex names have name ≡ Some (bit_or have (2 ^ k))
vertex_new names have name k there e h = rw (there, e, h) refl

pub name_is_read : (names : List (List ℕ)) (have k : ℕ) (rest : List ℕ) → AreKnown names → k < length names → has have k ≡ false → Stops is_plain_byte rest
    → name_at names have (printed (get_or names k []) ++ rest) ≡ Ok (bit_or have (2 ^ k), rest)
unfolding name_at
name_is_read names have k rest are lt h stops =
    let text = printed (get_or names k []) ++ rest in
    ap (λ o. when o (bad text) (λ name. when (with_vertex names have name.0) (bad text) (λ more. Ok (more, name.1))))
    (raw_name_is_read (get_or names k []) rest (are.each k lt) stops)
    ∙ ap (λ o. when o (bad text) (λ more. Ok (more, rest))) (vertex_new names have (get_or names k []) k (are.there k lt) (are.once k lt) h)

-- ---- the others

stops_more : (names : List (List ℕ)) (rest : List ℕ) → Stops is_plain_byte rest → Stops is_plain_byte (more_listed names ++ rest)
stops_more [] rest s = s
stops_more (n ∷ names) rest s = refl

longer : (a b : List ℕ) (n : ℕ) → n ≤ length b → n ≤ length (a ++ b)
longer [] b n h = h
longer (x ∷ a) b n h = omega (arith, longer a b n h)

fewer : (names : List (List ℕ)) (rest : List ℕ) → length names ≤ length (more_listed names ++ rest)
fewer [] rest = omega arith
fewer (n ∷ names) rest =
    let h : length names ≤ length ((printed n ++ more_listed names) ++ rest) =
    rw (append_assoc (printed n) (more_listed names) rest) (longer (printed n) (more_listed names ++ rest) (length names) (fewer names rest)) in
    omega arith

-- the set is read from the names that are left, where those before k are members already
abbrev Back : List (List ℕ) → ℕ → List ℕ → ℕ → List (List ℕ) → Type 0
Back names set rest k left = (fuel : ℕ) → length left ≤ fuel → repeat (name_step names) fuel (set % 2 ^ k) (more_listed left ++ rest) ≡ Ok (set, rest)

back_out : (names : List (List ℕ)) (set : ℕ) (rest : List ℕ) (k : ℕ) (left : List (List ℕ)) → has set k ≡ false → Back names set rest (k + 1) left
    → Back names set rest k left
back_out names set rest k left h back fuel le = rw (← low_out set k h) (back fuel le)

back_in : (names : List (List ℕ)) (set : ℕ) (rest : List ℕ) (k : ℕ) (left : List (List ℕ)) → AreKnown names → Stops is_plain_byte rest → k < length names
    → has set k ≡ true
    → Back names set rest (k + 1) left → Back names set rest k (get_or names k [] ∷ left)
unfolding next_is trim
back_in names set rest k left are stops lt h back zero le = absurd (omega arith)
back_in names set rest k left are stops lt h back (suc fuel) le =
    let step = name_step names in
    let low = set % 2 ^ k in
    let behind = more_listed left ++ rest in
    ap (λ t. repeat step (suc fuel) low (44 ∷ t)) (append_assoc (printed (get_or names k [])) (more_listed left) rest)
    ∙ ap (λ r. r >>= λ p. repeat step fuel p.0 p.1) (name_is_read names low k behind are lt (low_has_not low k (low_lt set k)) (stops_more left rest stops))
    ∙ ap (λ n. repeat step fuel n behind) (sym (low_in set k h))
    ∙ back fuel (omega arith)

back_end : (names : List (List ℕ)) (set : ℕ) (rest : List ℕ) (k : ℕ) → next_is (codes ",") rest ≡ None → set < 2 ^ k → Back names set rest k []
back_end names set rest k none lt fuel le =
    end_with (name_step names) (set % 2 ^ k) rest fuel (ap (λ o. when o None (λ r. Some (name_at names (set % 2 ^ k) r))) none)
    ∙ ap (λ n. Ok (n, rest)) (mod-eq_of_lt lt)

by_bit : (names : List (List ℕ)) (set : ℕ) (rest : List ℕ) (k : ℕ) (b : Bool) → has set k ≡ b → AreKnown names → Stops is_plain_byte rest → k < length names
    → Back names set rest (k + 1) (members set (k + 1) (drop (k + 1) names)) → Back names set rest k (members set k (drop k names))
by_bit names set rest k true h are stops lt back =
    subst (Back names set rest k) (sym (member_in set k names lt h)) (back_in names set rest k _ are stops lt h back)
by_bit names set rest k false h are stops lt back =
    subst (Back names set rest k) (sym (member_out set k names lt h)) (back_out names set rest k _ h back)

pub rest_is_read : (names : List (List ℕ)) (set : ℕ) (rest : List ℕ) → AreKnown names → set < 2 ^ length names → Stops is_plain_byte rest
    → next_is (codes ",") rest ≡ None
    → (m k : ℕ) → k + m ≡ length names → Back names set rest k (members set k (drop k names))
rest_is_read names set rest are lt stops none zero k e =
    let at : length names ≡ k = omega arith in
    subst (Back names set rest k) (sym (members_end set k names at)) (back_end names set rest k none (subst (λ n. set < 2 ^ n) at lt))
rest_is_read names set rest are lt stops none (suc m) k e =
    by_bit names set rest k (has set k) refl are stops (omega arith) (rest_is_read names set rest are lt stops none m (k + 1) (omega arith))

-- ---- all of them

abbrev First : List (List ℕ) → ℕ → List ℕ → ℕ → List (List ℕ) → Type 0
First names set rest k left = set % 2 ^ k ≡ 0 → names_at names (listed left ++ rest) ≡ Ok (set, rest)

first_in : (names : List (List ℕ)) (set : ℕ) (rest : List ℕ) (k : ℕ) (left : List (List ℕ)) → AreKnown names → Stops is_plain_byte rest → k < length names
    → has set k ≡ true
    → Back names set rest (k + 1) left → First names set rest k (get_or names k [] ∷ left)
unfolding names_at has
first_in names set rest k left are stops lt h back none =
    let step = name_step names in
    let behind = more_listed left ++ rest in
    let same : bit_or 0 (2 ^ k) ≡ set % 2 ^ (k + 1) = ap (λ n. bit_or n (2 ^ k)) (sym none) ∙ sym (low_in set k h) in
    ap (λ t. name_at names 0 t >>= λ first. repeat step (length first.1) first.0 first.1) (append_assoc (printed (get_or names k [])) (more_listed left) rest)
    ∙ ap (λ r. r >>= λ first. repeat step (length first.1) first.0 first.1)
    (name_is_read names 0 k behind are lt (ap (λ b. eqb b 1) (bit_at-zero k)) (stops_more left rest stops))
    ∙ ap (λ n. repeat step (length behind) n behind) same
    ∙ back (length behind) (fewer left rest)

first_by_bit : (names : List (List ℕ)) (set : ℕ) (rest : List ℕ) (k : ℕ) (b : Bool) → has set k ≡ b → AreKnown names → Stops is_plain_byte rest
    → k < length names
    → Back names set rest (k + 1) (members set (k + 1) (drop (k + 1) names)) → First names set rest (k + 1) (members set (k + 1) (drop (k + 1) names))
    → First names set rest k (members set k (drop k names))
first_by_bit names set rest k true h are stops lt back first =
    subst (First names set rest k) (sym (member_in set k names lt h)) (first_in names set rest k _ are stops lt h back)
first_by_bit names set rest k false h are stops lt back first =
    subst (First names set rest k) (sym (member_out set k names lt h)) (λ none. first (low_out set k h ∙ none))

first_is_read : (names : List (List ℕ)) (set : ℕ) (rest : List ℕ) → AreKnown names → 0 < set → set < 2 ^ length names → Stops is_plain_byte rest
    → next_is (codes ",") rest ≡ None
    → (m k : ℕ) → k + m ≡ length names → First names set rest k (members set k (drop k names))
first_is_read names set rest are pos lt stops none zero k e =
    let at : length names ≡ k = omega arith in
    λ empty. absurd (omega (arith, mod-eq_of_lt {n = set} {m = 2 ^ k} (subst (λ n. set < 2 ^ n) at lt), empty, pos))
first_is_read names set rest are pos lt stops none (suc m) k e =
    first_by_bit names set rest k (has set k) refl are stops (omega arith) (rest_is_read names set rest are lt stops none m (k + 1) (omega arith))
    (first_is_read names set rest are pos lt stops none m (k + 1) (omega arith))

pub names_are_read : (names : List (List ℕ)) (set : ℕ) (rest : List ℕ) → AreKnown names → 0 < set → set < 2 ^ length names → Stops is_plain_byte rest
    → next_is (codes ",") rest ≡ None
    → names_at names (names_text names set ++ rest) ≡ Ok (set, rest)
unfolding names_text
names_are_read names set rest are pos lt stops none =
    first_is_read names set rest are pos lt stops none (length names) 0 (omega arith) (omega arith)

-- ---- what holds of the names of a set, whichever is the first

by_first : (P : List (List ℕ) → Type 0) (names : List (List ℕ)) (set k : ℕ) (b : Bool) → has set k ≡ b → k < length names
    → P (get_or names k [] ∷ members set (k + 1) (drop (k + 1) names)) → (set % 2 ^ (k + 1) ≡ 0 → P (members set (k + 1) (drop (k + 1) names)))
    → set % 2 ^ k ≡ 0 → P (members set k (drop k names))
by_first P names set k true h lt here later none = subst P (sym (member_in set k names lt h)) here
by_first P names set k false h lt here later none = subst P (sym (member_out set k names lt h)) (later (low_out set k h ∙ none))

from_first : (P : List (List ℕ) → Type 0) (names : List (List ℕ)) (set : ℕ) → 0 < set → set < 2 ^ length names
    → ((k : ℕ) (left : List (List ℕ)) → k < length names → P (get_or names k [] ∷ left))
    → (m k : ℕ) → k + m ≡ length names → set % 2 ^ k ≡ 0 → P (members set k (drop k names))
from_first P names set pos lt each zero k e none =
    let at : length names ≡ k = omega arith in
    absurd (omega (arith, mod-eq_of_lt {n = set} {m = 2 ^ k} (subst (λ n. set < 2 ^ n) at lt), none, pos))
from_first P names set pos lt each (suc m) k e none =
    by_first P names set k (has set k) refl (omega arith) (each k _ (omega arith)) (from_first P names set pos lt each m (k + 1) (omega arith)) none

pub by_first_name : (P : List (List ℕ) → Type 0) (names : List (List ℕ)) (set : ℕ) → 0 < set → set < 2 ^ length names
    → ((k : ℕ) (left : List (List ℕ)) → k < length names → P (get_or names k [] ∷ left)) → P (members set 0 names)
by_first_name P names set pos lt each = from_first P names set pos lt each (length names) 0 (omega arith) (omega arith)
