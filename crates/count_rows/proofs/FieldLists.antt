-- Fields by the places where they end.
use Rattle.std.proofs.Common.{ℕ, zero, suc, ◌≡◌, ◌+◌, ◌-◌, ◌<◌, ◌≤◌, List, [], ◌∷◌, ◌++◌, length, take, drop, get_or}
use Rattle.std.proofs.Common.{refl, sym, ap, ◌∙◌, arith}
use Rattle.std.proofs.Common.{append_assoc, length-append, length-drop}
use Rattle.std.proofs.Math.Seq.{drop-append_seam, take-append_seam}
use Rattle.std.proofs.lemmas.List.{drop-take, take-append-le, take-take, length-take-le, take_more, get_or-drop}
use Rattle.count_rows.specs.Fields.{cut_from, start_of, AreEnds}

-- no field
pub ends-nil : (ends bytes : List ℕ) → ends ≡ [] → bytes ≡ [] → AreEnds 0 ends (length bytes)
unfolding AreEnds
ends-nil ends bytes e b = rw (e, b) refl

pub cut-nil : (ends bytes : List ℕ) → ends ≡ [] → cut_from 0 ends bytes ≡ []
unfolding cut_from
cut-nil ends bytes e = rw e refl

pub length-cut : (s : ℕ) (ends text : List ℕ) → length (cut_from s ends text) ≡ length ends
unfolding cut_from
length-cut s [] text = refl
length-cut s (e ∷ ends) text = ap suc (length-cut (e + 1) ends text)

-- the fields end where they stop
ends-le : (s : ℕ) (ends : List ℕ) (stop : ℕ) → AreEnds s ends stop → s ≤ stop
unfolding AreEnds
ends-le s [] stop h = omega (arith, h)
ends-le s (e ∷ ends) stop h = let more = ends-le (e + 1) ends stop h.1 in omega (arith, h.0, more)

-- one field more
pub ends-push : (s : ℕ) (ends : List ℕ) (stop end : ℕ) → AreEnds s ends stop → stop ≤ end → AreEnds s (ends ++ end ∷ []) (end + 1)
unfolding AreEnds
ends-push s [] stop end h le = (omega (arith, h, le), refl)
ends-push s (e ∷ ends) stop end h le = (h.0, ends-push (e + 1) ends stop end h.1 le)

pub cut-push : (s : ℕ) (ends text : List ℕ) (stop end : ℕ) → AreEnds s ends stop → cut_from s (ends ++ end ∷ []) text
    ≡ cut_from s ends text ++ take (end - stop) (drop stop text) ∷ []
unfolding AreEnds cut_from
cut-push s [] text stop end h = rw h refl
cut-push s (e ∷ ends) text stop end h = ap (λ (l : List (List ℕ)). take (e - s) (drop s text) ∷ l) (cut-push (e + 1) ends text stop end h.1)

-- texts that are the same up to where the fields stop have the same fields
pub cut-same : (s : ℕ) (ends xs ys : List ℕ) (stop : ℕ) → AreEnds s ends stop → ((n : ℕ) → n < stop → take n xs ≡ take n ys) → cut_from s ends xs
    ≡ cut_from s ends ys
unfolding AreEnds cut_from
cut-same s [] xs ys stop h same = refl
cut-same s (e ∷ ends) xs ys stop h same =
    let below = ends-le (e + 1) ends stop h.1 in
    let whole : s + (e - s) ≡ e = omega (arith, h.0) in
    let here : take (e - s) (drop s xs) ≡ take (e - s) (drop s ys) =
    sym (drop-take s (e - s) xs) ∙ ap (λ n. drop s (take n xs)) whole ∙ ap (λ (l : List ℕ). drop s l) (same e (omega (arith, below)))
    ∙ ap (λ n. drop s (take n ys)) (sym whole) ∙ drop-take s (e - s) ys in
    rw here (ap (λ (l : List (List ℕ)). take (e - s) (drop s ys) ∷ l) (cut-same (e + 1) ends xs ys stop h.1 same))

-- a field by its bounds
pub field_between : (s : ℕ) (ends text : List ℕ) (i : ℕ) → i < length ends → get_or (cut_from s ends text) i []
    ≡ take (get_or ends i 0 - start_of s ends i) (drop (start_of s ends i) text)
unfolding cut_from start_of
field_between s [] text i h = absurd (omega (arith, h))
field_between s (e ∷ ends) text zero h = refl
field_between s (e ∷ ends) text (suc i) h = field_between (e + 1) ends text i (omega (arith, h))

pub bounds : (s : ℕ) (ends : List ℕ) (stop i : ℕ) → AreEnds s ends stop → i < length ends → (start_of s ends i ≤ get_or ends i 0) × (get_or ends i 0 < stop)
unfolding AreEnds start_of
bounds s [] stop i h below = absurd (omega (arith, below))
bounds s (e ∷ ends) stop zero h below = let more = ends-le (e + 1) ends stop h.1 in (h.0, omega (arith, more))
bounds s (e ∷ ends) stop (suc i) h below = bounds (e + 1) ends stop i h.1 (omega (arith, below))

start-suc : (s : ℕ) (ends : List ℕ) (i : ℕ) → i < length ends → start_of s ends (suc i) ≡ get_or ends i 0 + 1
unfolding start_of
start-suc s [] i h = absurd (omega (arith, h))
start-suc s (e ∷ ends) zero h = refl
start-suc s (e ∷ ends) (suc i) h = start-suc (e + 1) ends i (omega (arith, h))

-- where the first field begins, and the others
pub start-first : (ends : List ℕ) (i : ℕ) → i ≡ 0 → start_of 0 ends i ≡ 0
unfolding start_of
start-first ends i e = rw e refl

pub start-behind : (ends : List ℕ) (i : ℕ) → 0 < i → i < length ends → start_of 0 ends i ≡ get_or ends (i - 1) 0 + 1
start-behind ends zero some h = absurd (omega (arith, some))
start-behind ends (suc i) some h = let e : suc i - 1 ≡ i = omega arith in rw e (start-suc 0 ends i (omega (arith, h)))

-- behind the last field there is none
pub no_field : (fields : List (List ℕ)) (i : ℕ) → length fields ≤ i → ◌≡◌ {A = List ℕ} [] (get_or fields i [])
no_field [] i h = refl
no_field (f ∷ fs) zero h = absurd (omega (arith, h))
no_field (f ∷ fs) (suc i) h = no_field fs i (omega (arith, h))

-- one field and one byte more
pub ends-pushed : (ends ends2 bytes bytes1 bytes2 field : List ℕ) (end b : ℕ) → AreEnds 0 ends (length bytes) → bytes1 ≡ bytes ++ field → end ≡ length bytes1
    → bytes2 ≡ bytes1 ++ b ∷ [] → ends2 ≡ ends ++ end ∷ [] → AreEnds 0 ends2 (length bytes2)
ends-pushed ends ends2 bytes bytes1 bytes2 field end b h one at two more =
    let long : length bytes1 ≡ length bytes + length field = ap length one ∙ length-append bytes field in
    let longer : length bytes2 ≡ end + 1 = ap length two ∙ length-append bytes1 (b ∷ []) ∙ ap (λ n. n + 1) (sym at) in
    rw (more, longer) (ends-push 0 ends (length bytes) end h (omega (arith, long, at)))

pub cut-pushed : (ends ends2 bytes bytes1 bytes2 field : List ℕ) (end b : ℕ) → AreEnds 0 ends (length bytes) → bytes1 ≡ bytes ++ field → end ≡ length bytes1
    → bytes2 ≡ bytes1 ++ b ∷ [] → ends2 ≡ ends ++ end ∷ [] → cut_from 0 ends2 bytes2 ≡ cut_from 0 ends bytes ++ field ∷ []
cut-pushed ends ends2 bytes bytes1 bytes2 field end b h one at two more =
    let whole : bytes2 ≡ bytes ++ (field ++ b ∷ []) = two ∙ ap (λ (l : List ℕ). l ++ b ∷ []) one ∙ append_assoc bytes field (b ∷ []) in
    let far : end - length bytes ≡ length field = let long = ap length one ∙ length-append bytes field in omega (arith, long, at) in
    let last : take (end - length bytes) (drop (length bytes) bytes2) ≡ field =
    ap (λ n. take n (drop (length bytes) bytes2)) far ∙ ap (λ (l : List ℕ). take (length field) (drop (length bytes) l)) whole
    ∙ ap (λ (l : List ℕ). take (length field) l) (drop-append_seam bytes (field ++ b ∷ [])) ∙ take-append_seam field (b ∷ []) in
    let first : cut_from 0 ends bytes2 ≡ cut_from 0 ends bytes = cut-same 0 ends bytes2 bytes (length bytes) h (λ n below.
    ap (λ (l : List ℕ). take n l) whole ∙ take-append-le n bytes (field ++ b ∷ []) (omega (arith, below))) in
    ap (λ (l : List ℕ). cut_from 0 l bytes2) more ∙ cut-push 0 ends bytes2 (length bytes) end h
    ∙ ap (λ (l : List (List ℕ)). l ++ take (end - length bytes) (drop (length bytes) bytes2) ∷ []) first
    ∙ ap (λ (f : List ℕ). cut_from 0 ends bytes ++ f ∷ []) last

-- the bytes up to the last end, and one more, have the same fields
pub ends-taken : (ends text bytes1 bytes2 : List ℕ) (end b : ℕ) → AreEnds 0 ends (end + 1) → end ≤ length text → bytes1 ≡ take end text
    → bytes2 ≡ bytes1 ++ b ∷ [] → AreEnds 0 ends (length bytes2)
ends-taken ends text bytes1 bytes2 end b h le one two =
    let short : length bytes1 ≡ end = ap length one ∙ length-take-le end text le in
    let long : length bytes2 ≡ end + 1 = ap length two ∙ length-append bytes1 (b ∷ []) ∙ ap (λ n. n + 1) short in
    rw long h

pub cut-taken : (ends text bytes1 bytes2 : List ℕ) (end b : ℕ) → AreEnds 0 ends (end + 1) → end ≤ length text → bytes1 ≡ take end text
    → bytes2 ≡ bytes1 ++ b ∷ [] → cut_from 0 ends text ≡ cut_from 0 ends bytes2
cut-taken ends text bytes1 bytes2 end b h le one two = cut-same 0 ends text bytes2 (end + 1) h (λ n below.
    let short : length bytes1 ≡ end = ap length one ∙ length-take-le end text le in
    sym (ap (λ (l : List ℕ). take n l) two ∙ take-append-le n bytes1 (b ∷ []) (omega (arith, short, below))
    ∙ ap (λ (l : List ℕ). take n l) one ∙ take-take n end text (omega (arith, below))))

-- one byte more of a part
pub part-more : (text : List ℕ) (from at : ℕ) → from ≤ at → at < length text → take (at + 1 - from) (drop from text)
    ≡ take (at - from) (drop from text) ++ get_or text at 0 ∷ []
part-more text from at le below =
    let more : at + 1 - from ≡ at - from + 1 = omega (arith, le) in
    let there : from + (at - from) ≡ at = omega (arith, le) in
    ap (λ n. take n (drop from text)) more
    ∙ take_more (drop from text) (at - from) 0 (let long = length-drop from text in omega (arith, long, le, below))
    ∙ ap (λ b. take (at - from) (drop from text) ++ b ∷ []) (get_or-drop from text (at - from) 0 ∙ ap (λ n. get_or text n 0) there)
