-- The names of a set, one after another, and the texts that stand for them.
use Rattle.std.proofs.Common.{◌≡◌, ℕ, zero, suc, ◌+◌, ◌^◌, ◌<◌, ◌≤◌, Bool, true, false, cond, List, [], ◌∷◌, ◌++◌, length, get_or, drop, map, ◌-◌}
use Rattle.std.proofs.Common.{lit<, refl, sym, ap, ◌∙◌, append_assoc, append-nil, arith, codes, eqb-true}
use Rattle.std.specs.Prelude.{if◌then◌else◌}
use Rattle.std.proofs.lemmas.List.{at_drop_more, at_drop_all, map-append}
use Rattle.std.proofs.lemmas.Bool.{lt-ltb, eq-eqb, false≢true}
use Rattle.std.proofs.Math.Nat.{pow-le-pow_right}
use Rattle.mixed_graph.specs.Vocabulary.{has, members_below, name_of, is_empty}
use Rattle.mixed_graph.proofs.FirstMembers.{members-empty, members-some}
use Rattle.answer_text.specs.declared.signs.Notation.TheVariants.{Plain}
use Rattle.answer_text.specs.Vocabulary.{printed, names_in, member_names, conditions_in, term_text}
use Rattle.mixed_graph.proofs.MaskLaws.{below_has}

-- the names of the members, where the first of these names has index k
abbrev pub members : ℕ → ℕ → List (List ℕ) → List (List ℕ)
members set k [] = []
members set k (name ∷ names) = if has set k then name ∷ members set (k + 1) names else members set (k + 1) names

abbrev pub more_listed : List (List ℕ) → List ℕ
more_listed [] = []
more_listed (name ∷ names) = codes "," ++ (printed name ++ more_listed names)

abbrev pub listed : List (List ℕ) → List ℕ
listed [] = []
listed (name ∷ names) = printed name ++ more_listed names

unfoldable pub names_text : List (List ℕ) → ℕ → List ℕ
names_text names set = listed (members set 0 names)

abbrev pub given_text : List (List ℕ) → ℕ → List ℕ
given_text names given = if is_empty given then [] else codes "," ++ names_text names given

unfoldable pub conds_text : List (List ℕ) → ℕ → ℕ → List ℕ
conds_text names doing given =
    if is_empty doing then (if is_empty given then [] else codes "|" ++ names_text names given)
    else codes "|do(" ++ (names_text names doing ++ (codes ")" ++ given_text names given))

pub members_more : (set v : ℕ) (names : List (List ℕ)) → v < length names → members set v (drop v names)
    ≡ members set v (get_or names v [] ∷ drop (v + 1) names)
members_more set v names h = at_drop_more (members set v) names v [] h

pub member_in : (set v : ℕ) (names : List (List ℕ)) → v < length names → has set v ≡ true → members set v (drop v names) ≡ get_or names v []
    ∷ members set (v + 1) (drop (v + 1) names)
member_in set v names h b = members_more set v names h ∙ ap (λ t. cond t (get_or names v [] ∷ members set (v + 1) (drop (v + 1) names))
    (members set (v + 1) (drop (v + 1) names))) b

pub member_out : (set v : ℕ) (names : List (List ℕ)) → v < length names → has set v ≡ false → members set v (drop v names)
    ≡ members set (v + 1) (drop (v + 1) names)
member_out set v names h b = members_more set v names h ∙ ap (λ t. cond t (get_or names v [] ∷ members set (v + 1) (drop (v + 1) names))
    (members set (v + 1) (drop (v + 1) names))) b

pub members_end : (set v : ℕ) (names : List (List ℕ)) → length names ≡ v → members set v (drop v names) ≡ []
members_end set v names h = at_drop_all (members set v) names v (omega arith)

-- ---- the same as members in ascending order

map_one : (f : ℕ → List ℕ) (b : Bool) (k : ℕ) → map f (cond b (k ∷ []) []) ≡ cond b (f k ∷ []) []
map_one f true k = refl
map_one f false k = refl

one_more : (b : Bool) (name : List ℕ) (rest : List (List ℕ)) → cond b (name ∷ []) [] ++ rest ≡ cond b (name ∷ rest) rest
one_more true name rest = refl
one_more false name rest = refl

front_and_rest : (set : ℕ) (names : List (List ℕ)) (k : ℕ) → k ≤ length names → map (name_of names) (members_below (has set) k)
    ++ members set k (drop k names) ≡ members set 0 names
unfolding members_below
front_and_rest set names zero le = refl
front_and_rest set names (suc k) le =
    let f = name_of names in
    let rest = members set (suc k) (drop (suc k) names) in
    let next : suc k ≡ k + 1 = omega arith in
    let here : members set k (drop k names) ≡ cond (has set k) (f k ∷ rest) rest =
    members_more set k names (omega arith) ∙ ap (λ j. cond (has set k) (f k ∷ members set j (drop j names)) (members set j (drop j names))) (sym next) in
    ap (λ t. t ++ rest) (map-append f (members_below (has set) k) (cond (has set k) (k ∷ []) [])
    ∙ ap (λ t. map f (members_below (has set) k) ++ t) (map_one f (has set k) k))
    ∙ append_assoc (map f (members_below (has set) k)) (cond (has set k) (f k ∷ []) []) rest
    ∙ ap (λ t. map f (members_below (has set) k) ++ t) (one_more (has set k) (f k) rest ∙ sym here)
    ∙ front_and_rest set names k (omega arith)

none_above : (s : ℕ → Bool) (n m : ℕ) → ((v : ℕ) → n ≤ v → s v ≡ false) → members_below s (m + n) ≡ members_below s n
unfolding members_below
none_above s n zero out = let e : zero + n ≡ n = omega arith in ap (members_below s) e
none_above s n (suc m) out =
    let e : suc m + n ≡ suc (m + n) = omega arith in
    ap (members_below s) e
    ∙ ap (λ b. members_below s (m + n) ++ cond b ((m + n) ∷ []) []) (out (m + n) (omega arith))
    ∙ append-nil (members_below s (m + n))
    ∙ none_above s n m out

no_member : (n set v : ℕ) (b : Bool) → has set v ≡ b → set < 2 ^ n → n ≤ v → b ≡ false
no_member n set v false h lt le = refl
no_member n set v true h lt le = absurd (omega (arith, below_has n set v (lt-ltb set (2 ^ n) lt) h))

pub names_same : (names : List (List ℕ)) (set : ℕ) → length names ≤ 64 → set < 2 ^ length names → member_names names (has set) ≡ members set 0 names
names_same names set few lt =
    let n = length names in
    let m : ℕ = 64 - n in
    let e : 64 ≡ m + n = omega arith in
    let rest : members set n (drop n names) ≡ [] = members_end set n names refl in
    ap (λ j. map (name_of names) (members_below (has set) j)) e
    ∙ ap (map (name_of names)) (none_above (has set) n m (λ v le. no_member n set v (has set v) refl lt le))
    ∙ sym (append-nil (map (name_of names) (members_below (has set) n)))
    ∙ ap (λ t. map (name_of names) (members_below (has set) n) ++ t) (sym rest)
    ∙ front_and_rest set names n (omega arith)

commas : (names : List (List ℕ)) → names_in Plain names ≡ listed names
commas [] = refl
commas (n ∷ []) = sym (append-nil (printed n))
commas (n ∷ m ∷ names) = ap (λ t. printed n ++ 44 ∷ t) (commas (m ∷ names))

pub text_same : (names : List (List ℕ)) (set : ℕ) → length names ≤ 64 → set < 2 ^ length names → names_in Plain (member_names names (has set))
    ≡ names_text names set
unfolding names_text
text_same names set few lt = ap (names_in Plain) (names_same names set few lt) ∙ commas (members set 0 names)

-- ---- terms

wide : (names : List (List ℕ)) (set : ℕ) → length names ≤ 64 → set < 2 ^ length names → set < 2 ^ 64
wide names set few lt = let p : 2 ^ length names ≤ 2 ^ 64 = pow-le-pow_right (lit< tt) {j = 64} few in omega arith

filled : (set : ℕ) → is_empty set ≡ false → set ≡ 0 → ⊥
filled set h e = false≢true (sym h ∙ eq-eqb set 0 e)

conds_same_by : (names : List (List ℕ)) (b c : ℕ) (eb ec : Bool) → length names ≤ 64 → b < 2 ^ length names → c < 2 ^ length names → is_empty b ≡ eb
    → is_empty c ≡ ec
    → conditions_in Plain (member_names names (has b)) (member_names names (has c))
    ≡ cond eb (cond ec [] (124 ∷ names_in Plain (member_names names (has c))))
    (124 ∷ 100 ∷ 111 ∷ 40 ∷ (names_in Plain (member_names names (has b)) ++ (41 ∷ cond ec [] (44 ∷ names_in Plain (member_names names (has c))))))
conds_same_by names b c true true few lb lc hb hc =
    let eb = members-empty b (eqb-true b 0 hb) in let ec = members-empty c (eqb-true c 0 hc) in rw (eb, ec) refl
conds_same_by names b c true false few lb lc hb hc =
    let eb = members-empty b (eqb-true b 0 hb) in let some = members-some c (filled c hc) (wide names c few lc) in let ec = some.2 in rw (eb, ec) refl
conds_same_by names b c false true few lb lc hb hc =
    let some = members-some b (filled b hb) (wide names b few lb) in let eb = some.2 in let ec = members-empty c (eqb-true c 0 hc) in rw (eb, ec) refl
conds_same_by names b c false false few lb lc hb hc =
    let some_b = members-some b (filled b hb) (wide names b few lb) in
    let some_c = members-some c (filled c hc) (wide names c few lc) in
    let eb = some_b.2 in let ec = some_c.2 in rw (eb, ec) refl

pub term_same : (names : List (List ℕ)) (a b c : ℕ) → length names ≤ 64 → a < 2 ^ length names → b < 2 ^ length names → c < 2 ^ length names
    → term_text names (has a) (has b) (has c) ≡ codes "P(" ++ (names_text names a ++ (conds_text names b c ++ codes ")"))
unfolding conds_text
term_same names a b c few la lb lc =
    ap (λ t. codes "P(" ++ (t ++ (conditions_in Plain (member_names names (has b)) (member_names names (has c)) ++ codes ")"))) (text_same names a few la)
    ∙ ap (λ t. codes "P(" ++ (names_text names a ++ (t ++ codes ")"))) (
    conds_same_by names b c (is_empty b) (is_empty c) few lb lc refl refl
    ∙ ap (λ t. cond (is_empty b) (cond (is_empty c) [] (124 ∷ t)) (124 ∷ 100 ∷ 111 ∷ 40
    ∷ (names_in Plain (member_names names (has b)) ++ (41 ∷ cond (is_empty c) [] (44 ∷ t))))) (text_same names c few lc)
    ∙ ap (λ t. cond (is_empty b) (cond (is_empty c) [] (124 ∷ names_text names c))
    (124 ∷ 100 ∷ 111 ∷ 40 ∷ (t ++ (41 ∷ cond (is_empty c) [] (44 ∷ names_text names c))))) (text_same names b few lb))
