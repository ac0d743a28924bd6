-- The records of a text, cut off one by one.
use Rattle.std.proofs.Common.{ℕ, zero, suc, ◌≡◌, ◌+◌, ◌-◌, ◌<◌, ◌≤◌, List, [], ◌∷◌, ◌++◌, length, Option, Some, None, refl, sym, ap, ◌∙◌, subst}
use Rattle.std.proofs.Common.{arith, inl, inr}
use Rattle.std.proofs.lemmas.Bool.{cases_Bool}
use Rattle.csv.specs.Machine.{Read, next_record, step, is_end, ends_at_end, fields_after, field_after}
use Rattle.csv.specs.Reading.{Reached, records_from, records_next}
use Rattle.csv.specs.declared.parser.Config.{Config}
use Rattle.csv.specs.declared.parser.State.{State}
use Rattle.csv.specs.declared.parser.State.TheVariants as st
use Rattle.count_rows.specs.Records.{Record}

abbrev text_of : Option Read → List ℕ
text_of None = []
text_of (Some p) = p.2

abbrev state_of : Option Read → State
state_of None = st.StartRecord
state_of (Some p) = p.1

-- what follows a record at the end of the text
at_end : (cfg : Config) (s : State) (fields : List (List ℕ)) (field : List ℕ) (p : Read) → next_record cfg s fields field [] ≡ Some p → (p.1 ≡ st.StartRecord)
    × (p.2 ≡ [])
unfolding next_record
at_end cfg s fields field p e = elim (cases_Bool (ends_at_end s)) [
  | inl ends ↦
      let q : ◌≡◌ {A = Option Read} (Some (fields ++ (field ∷ []), st.StartRecord, [])) (Some p) = rw ends at e in
      (sym (ap state_of q), sym (ap text_of q))
  | inr goes ↦ absurd (let q : ◌≡◌ {A = Option Read} None (Some p) = rw goes at e in cc (q))
]

-- a record is followed by less text
shorter : (cfg : Config) (s : State) (fields : List (List ℕ)) (field xs : List ℕ) (p : Read) → next_record cfg s fields field xs ≡ Some p
    → length p.2 ≤ length xs - 1
unfolding next_record
shorter cfg s fields field [] p e = let z = (at_end cfg s fields field p e).1 in rw z (omega arith)
shorter cfg s fields field (c ∷ rest) p e = elim (cases_Bool (is_end (step cfg s c).1)) [
  | inl ends ↦
      let q : ◌≡◌ {A = Option Read} (Some (fields_after (step cfg s c).1 fields field, (step cfg s c).0, rest)) (Some p) = rw ends at e in
      let r : p.2 ≡ rest = sym (ap text_of q) in rw r (omega arith)
  | inr goes ↦
      let q = rw goes at e in
      let r = shorter cfg (step cfg s c).0 (fields_after (step cfg s c).1 fields field) (field_after (step cfg s c).1 c field) rest p q in
      omega (arith, r)
]

nothing_left : (n : ℕ) (cfg : Config) → records_from cfg n st.StartRecord [] ≡ []
unfolding next_record records_from
nothing_left zero cfg = refl
nothing_left (suc n) cfg = refl

one_turn : (n : ℕ) (cfg : Config) (s : State) (xs : List ℕ) (o : Option Read) → next_record cfg s [] [] xs ≡ o → records_from cfg (suc n) s xs
    ≡ records_next (records_from cfg n) o
unfolding records_from
one_turn n cfg s xs o e = ap (records_next (records_from cfg n)) e

-- more turns than there are bytes cut off no more records
enough : (n m : ℕ) (cfg : Config) (s : State) (xs : List ℕ) → length xs < n → length xs < m → records_from cfg n s xs ≡ records_from cfg m s xs
enough zero m cfg s xs h k = absurd (omega arith)
enough (suc n) zero cfg s xs h k = absurd (omega arith)
enough (suc n) (suc m) cfg s xs h k = go (next_record cfg s [] [] xs) refl (λ p l r. enough n m cfg p.1 p.2 l r)
  where
    after_all : (ys : List ℕ) (p : Read) → xs ≡ ys → next_record cfg s [] [] xs ≡ Some p
        → (length p.2 < n → length p.2 < m → records_from cfg n p.1 p.2 ≡ records_from cfg m p.1 p.2) →
        records_from cfg n p.1 p.2 ≡ records_from cfg m p.1 p.2
    after_all [] p e at more =
        let z = at_end cfg s [] [] p (subst (λ (l : List ℕ). next_record cfg s [] [] l ≡ Some p) e at) in
        rw (z.0, z.1) (nothing_left n cfg ∙ sym (nothing_left m cfg))
    after_all (y ∷ ys) p e at more =
        let r = shorter cfg s [] [] xs p at in
        let l : length xs ≡ suc (length ys) = ap length e in
        more (omega (arith, r, l)) (omega (arith, r, l))

    go : (o : Option Read) → next_record cfg s [] [] xs ≡ o → ((p : Read) → length p.2 < n → length p.2 < m → records_from cfg n p.1 p.2
        ≡ records_from cfg m p.1 p.2) →
        records_from cfg (suc n) s xs ≡ records_from cfg (suc m) s xs
    go None e more = one_turn n cfg s xs None e ∙ sym (one_turn m cfg s xs None e)
    go (Some p) e more =
        one_turn n cfg s xs (Some p) e ∙ ap (λ (l : List (List (List ℕ))). p.0 ∷ l) (after_all xs p refl e (more p)) ∙ sym (one_turn m cfg s xs (Some p) e)

-- one record, and then those of what follows it
one_more : (cfg : Config) (s : State) (xs : List ℕ) (p : Read) → next_record cfg s [] [] xs ≡ Some p →
    records_from cfg (length xs + 1) s xs ≡ p.0 ∷ records_from cfg (length p.2 + 1) p.1 p.2
one_more cfg s [] p at =
    let z = at_end cfg s [] [] p at in
    one_turn 0 cfg s [] (Some p) at
    ∙ ap (λ (l : List (List (List ℕ))). p.0 ∷ l) (rw (z.0, z.1) (nothing_left 0 cfg ∙ sym (nothing_left 1 cfg)))
one_more cfg s (c ∷ rest) p at =
    let r = shorter cfg s [] [] (c ∷ rest) p at in
    let turns : length (c ∷ rest) + 1 ≡ suc (length (c ∷ rest)) = omega arith in
    ap (λ n. records_from cfg n s (c ∷ rest)) turns
    ∙ one_turn (length (c ∷ rest)) cfg s (c ∷ rest) (Some p) at
    ∙ ap (λ (l : List (List (List ℕ))). p.0 ∷ l) (enough (length (c ∷ rest)) (length p.2 + 1) cfg p.1 p.2 (omega (arith, r)) (omega (arith)))

-- the records that were read are the first of the text's
pub read_first : (cfg : Config) (s s2 : State) (xs ys : List ℕ) (rs : List Record) → Reached cfg s xs rs s2 ys →
    records_from cfg (length xs + 1) s xs ≡ rs ++ records_from cfg (length ys + 1) s2 ys
unfolding Reached
read_first cfg s s2 xs ys [] h = rw (h.0, h.1) refl
read_first cfg s s2 xs ys (r ∷ rs) h =
    let (p, at, is, more) = h in
    one_more cfg s xs p at ∙ rw (is) (ap (λ (l : List (List (List ℕ))). p.0 ∷ l) (read_first cfg p.1 s2 p.2 ys rs more))

-- where no record follows there is none left
pub none_left : (cfg : Config) (s : State) (xs : List ℕ) → next_record cfg s [] [] xs ≡ None → records_from cfg (length xs + 1) s xs ≡ []
none_left cfg s xs e =
    let turns : length xs + 1 ≡ suc (length xs) = omega arith in
    ap (λ n. records_from cfg n s xs) turns ∙ one_turn (length xs) cfg s xs None e

-- where one follows it is the first that is left
pub some_left : (cfg : Config) (s : State) (xs : List ℕ) (p : Read) → next_record cfg s [] [] xs ≡ Some p →
    (more : List Record) × (records_from cfg (length xs + 1) s xs ≡ p.0 ∷ more)
some_left cfg s xs p e = (records_from cfg (length p.2 + 1) p.1 p.2, one_more cfg s xs p e)
