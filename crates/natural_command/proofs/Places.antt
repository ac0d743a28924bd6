-- The names by which vertices are read where some of x are read at their second values are names, no two of them equal.
use Rattle.std.proofs.Common.{◌≡◌, ◌≢◌, ◌<◌, ◌≤◌, ◌||◌, ◌&&◌, ◌==◌, ℕ, suc, Bool, true, false, cond, List, [], ◌∷◌, ◌++◌, length, map, nat_lt, refl, sym, ap, ◌∙◌, subst}
use Rattle.std.proofs.Common.{arith, length-append, inl, inr}
use Rattle.std.specs.Str.{bytes_eq}
use Rattle.std.proofs.lemmas.Bool.{cases_Bool, ltb-true, eqb-true, eq-eqb}
use Rattle.std.proofs.lemmas.List.{append-nil, append_assoc, length-map}
use Rattle.std.proofs.lemmas.List.Folds.{list_any-append}
use Rattle.std.proofs.lemmas.List.Elements.{All-get_or}
use Rattle.std.proofs.lemmas.Slice.Eq.{bytes_eq-Decides}
use Rattle.mixed_graph.specs.Vocabulary.{has, members_below, all, IsName, AreNames, is_named, name_of}
use Rattle.mixed_graph.proofs.MemberLists.{AreMembers, is_in}
use Rattle.mixed_graph.proofs.Members.{length-members-le}
use Rattle.finite_models.proofs.Bools.{and_first}
use Rattle.primed_names.specs.Vocabulary.{with_primes, primed_name, primed_names}
use Rattle.treated_models.specs.Vocabulary.{prime_of}
use Rattle.treated_models.proofs.Primes.{prime_behind, prime_one}
use Rattle.natural_command.specs.Second.{place_read, names_read}

-- names with primed names are no fewer
primed_longer : (names taken : List (List ℕ)) (vs : List ℕ) → length taken ≤ length (with_primes names taken vs)
primed_longer names taken [] = omega arith
primed_longer names taken (v ∷ vs) = go (λ (t : List (List ℕ)). primed_longer names t vs) (nat_lt (length taken) 64) refl
  where
    go : ((t : List (List ℕ)) → length t ≤ length (with_primes names t vs)) → (b : Bool) → nat_lt (length taken) 64 ≡ b
        → length taken ≤ length (with_primes names (cond b (taken ++ primed_name taken (name_of names v) ∷ []) taken) vs)
    go longer true e =
        let more = longer (taken ++ primed_name taken (name_of names v) ∷ []) in
        let long = length-append taken (primed_name taken (name_of names v) ∷ []) in omega (arith, more, long)
    go longer false e = longer taken

pub both_longer : (names : List (List ℕ)) (x : ℕ) → length names ≤ length (primed_names names x)
both_longer names x = primed_longer names names (members_below (has x) 64)

module _ (n x second count : ℕ) where
  -- a place is one of the names
  pub place_low : (v : ℕ) → v < n → n ≤ count → place_read n x second count v < count
  place_low v il le = go (has x v && has second v) (nat_lt (prime_of n x v) count) refl
    where
      go : (a b : Bool) → nat_lt (prime_of n x v) count ≡ b → cond a (cond b (prime_of n x v) v) v < count
      go true true e = ltb-true (prime_of n x v) count e
      go true false e = omega (arith, il, le)
      go false b e = omega (arith, il, le)

  -- two vertices have two places
  pub place_one : (v w : ℕ) → v < n → w < n → place_read n x second count v ≡ place_read n x second count w → v ≡ w
  place_one v w vl wl = go (has x v && has second v) (has x w && has second w) (nat_lt (prime_of n x v) count) (nat_lt (prime_of n x w) count) refl refl
    where
      go : (a b c d : Bool) → (has x v && has second v) ≡ a → (has x w && has second w) ≡ b → cond a (cond c (prime_of n x v) v) v ≡ cond b (cond d (prime_of n x w) w) w → v ≡ w
      go true true true true i j e = prime_one n x v w vl wl (and_first (has x v) (has second v) i) (and_first (has x w) (has second w) j) e
      go true true true false i j e = absurd (let p = prime_behind n x v in omega (arith, p, wl, e))
      go true true false true i j e = absurd (let p = prime_behind n x w in omega (arith, p, vl, e))
      go true true false false i j e = e
      go true false true d i j e = absurd (let p = prime_behind n x v in omega (arith, p, wl, e))
      go true false false d i j e = e
      go false true c true i j e = absurd (let p = prime_behind n x w in omega (arith, p, vl, e))
      go false true c false i j e = e
      go false false c d i j e = e

-- names at two places are two
names_apart : (all : List (List ℕ)) → AreNames all → (p q : ℕ) → p < length all → q < length all → p ≢ q → bytes_eq (name_of all p) (name_of all q) ≡ false
names_apart all are p q pl ql d = elim (cases_Bool (bytes_eq (name_of all p) (name_of all q))) [
  | inl e ↦ absurd (differ ((bytes_eq-Decides (name_of all p) (name_of all q)).0 e))
  | inr e ↦ e
]
  where
    differ : name_of all p ≡ name_of all q → ⊥
    differ e = go (nat_lt p q) refl
      where
        go : (b : Bool) → nat_lt p q ≡ b → ⊥
        go true l = are.distinct p q [] (ltb-true p q l) ql e
        go false l = are.distinct q p [] (let m : q ≤ p = grind (arith, l) in omega (arith, m, d)) pl (sym e)

module _ (names : List (List ℕ)) (x second : ℕ) where
  abbrev pub both : List (List ℕ)
  both = primed_names names x

  abbrev pub n : ℕ
  n = length names

  -- the name of v
  abbrev pub read_as : ℕ → List ℕ
  read_as v = name_of both (place_read n x second (length both) v)

  -- what was read, and what is left
  pub record IsReading (left : List ℕ) (read : List (List ℕ)) : Type 0 where
    pub are : AreMembers (has (all n)) 64 left
    pub whole : read ++ map read_as left ≡ names_read names x second
    pub fresh : (v : ℕ) → is_in left v ≡ true → is_named read (read_as v) ≡ false

  pub reading_none : (left : List ℕ) → left ≡ members_below (has (all n)) 64 → AreMembers (has (all n)) 64 left → IsReading left []
  reading_none left e are = record { are = are; whole = ap (map read_as) e; fresh = λ v i. refl }

  pub reading_more : AreNames both → ((v : ℕ) → has (all n) v ≡ nat_lt v n) → (v : ℕ) (left rest : List ℕ) (read : List (List ℕ)) (name : List ℕ) → left ≡ v ∷ rest
      → name ≡ read_as v → IsReading left read → IsReading rest (read ++ name ∷ [])
  reading_more fresh_names low v left rest read name first is r = record {
    are = here.3;
    whole = ap (λ t. (read ++ t ∷ []) ++ map read_as rest) is ∙ append_assoc read (read_as v ∷ []) (map read_as rest)
        ∙ ap (λ vs. read ++ map read_as vs) (sym first) ∙ r.whole;
    fresh = λ w i. list_any-append (bytes_eq (read_as w)) read (name ∷ []) ∙ next w i;
  }
    where
      here : AreMembers (has (all n)) 64 (v ∷ rest)
      here = subst (AreMembers (has (all n)) 64) first r.are

      member_low : (vs : List ℕ) → AreMembers (has (all n)) 64 vs → (w : ℕ) → is_in vs w ≡ true → w < n
      member_low [] are w i = absurd (cc i)
      member_low (u ∷ us) are w i = elim (cases_Bool (w == u)) [
        | inl e ↦ let same = eqb-true w u e in ltb-true w n (ap (λ k. nat_lt k n) same ∙ sym (low u) ∙ are.1)
        | inr e ↦ member_low us are.3 w (sym (ap (λ b. b || is_in us w) e) ∙ i)
      ]

      next : (w : ℕ) → is_in rest w ≡ true → (is_named read (read_as w) || (bytes_eq (read_as w) name || false)) ≡ false
      next w i =
          let il : w < n = member_low rest here.3 w i in
          let vl : v < n = ltb-true v n (sym (low v) ∙ here.1) in
          let long = both_longer names x in
          let other : w ≢ v = λ e. absurd (let a = here.2 in let b = i in let c : is_in rest v ≡ true = subst (λ k. is_in rest k ≡ true) e i in cc (a, c)) in
          let old : is_named read (read_as w) ≡ false = r.fresh w (ap (λ vs. is_in vs w) first ∙ either (w == v) (is_in rest w) i) in
          let new : bytes_eq (read_as w) (read_as v) ≡ false = names_apart both fresh_names (place_read n x second (length both) w) (place_read n x second (length both) v)
          (place_low n x second (length both) w il long) (place_low n x second (length both) v vl long)
          (λ e. other (place_one n x second (length both) w v il vl e)) in
          let named : bytes_eq (read_as w) name ≡ false = ap (bytes_eq (read_as w)) is ∙ new in
          rw (old, named) refl
        where
          either : (p q : Bool) → q ≡ true → (p || q) ≡ true
          either p q h = grind (arith, h)

  -- there is room for one more
  pub reading_room : (v : ℕ) (left rest : List ℕ) (read : List (List ℕ)) → left ≡ v ∷ rest → IsReading left read → length read < 64
  reading_room v left rest read first r =
      let long = length-append read (map read_as left) in
      let most = length-members-le (has (all n)) 64 in
      let many : length (map read_as left) ≡ suc (length (map read_as rest)) = ap (λ vs. length (map read_as vs)) first in
      let same : length (read ++ map read_as left) ≡ length (members_below (has (all n)) 64) = ap length r.whole ∙ length-map (members_below (has (all n)) 64) read_as in
      omega (arith, long, most, many, same)

  -- the name is a name
  pub reading_formed : AreNames both → (v : ℕ) → v < n → IsName (read_as v)
  reading_formed fresh_names v il = All-get_or IsName both (place_read n x second (length both) v) [] (place_low n x second (length both) v il (both_longer names x))
      fresh_names.formed

  pub reading_done : (left : List ℕ) (read : List (List ℕ)) → left ≡ [] → IsReading left read → read ≡ names_read names x second
  reading_done left read none r = sym (append-nil read) ∙ ap (λ vs. read ++ map read_as vs) (sym none) ∙ r.whole

-- the first of a list is in it
pub first_in : (left rest : List ℕ) (v : ℕ) → left ≡ v ∷ rest → is_in left v ≡ true
first_in left rest v first = ap (λ vs. is_in vs v) first ∙ either (v == v) (is_in rest v) (eq-eqb v v refl)
  where
    either : (p q : Bool) → p ≡ true → (p || q) ≡ true
    either p q h = grind (arith, h)
