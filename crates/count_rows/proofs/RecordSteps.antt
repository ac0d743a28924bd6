-- One byte more, and one field more, of a record.
use Rattle.std.proofs.Common.{ℕ, ◌≡◌, ◌+◌, ◌<◌, ◌≤◌, ◌==◌, ◌||◌, not, Bool, true, false, cond, List, [], ◌∷◌, ◌++◌, length, drop, get_or, Option, Some, None}
use Rattle.std.proofs.Common.{refl, sym, ap, ◌∙◌, inl, inr, arith}
use Rattle.std.specs.List.{list_all}
use Rattle.std.proofs.lemmas.Bool.{cases_Bool, or_parts, and_parts, eqb-true}
use Rattle.std.proofs.lemmas.List.{drop_more, drop_all}
use Rattle.csv.specs.Machine.{next_record, step, is_end, fields_after, field_after, Runs, Read}
use Rattle.csv.specs.Reading.{default_config}
use Rattle.csv.specs.declared.parser.State.{State}
use Rattle.csv.specs.declared.parser.State.TheVariants as st
use Rattle.csv.specs.declared.parser.Action.{Action}
use Rattle.csv.specs.declared.parser.Action.TheVariants as act
use Rattle.csv.proofs.ReadFacts.{run-copies}
use Rattle.count_rows.specs.Records.{Record}
use Rattle.count_rows.specs.Reader.{IsBetween, is_line_end, is_plain}

pub skip : (s t : State) (c : ℕ) (rs : Record) (f rest : List ℕ) → step default_config s c ≡ (t, act.Skip) → next_record default_config s rs f (c ∷ rest)
    ≡ next_record default_config t rs f rest
unfolding next_record
skip s t c rs f rest e = rw e refl

pub copy : (s t : State) (c : ℕ) (rs : Record) (f rest : List ℕ) → step default_config s c ≡ (t, act.Copy) → next_record default_config s rs f (c ∷ rest)
    ≡ next_record default_config t rs (f ++ c ∷ []) rest
unfolding next_record
copy s t c rs f rest e = rw e refl

pub end_field : (s : State) (c : ℕ) (rs : Record) (f rest : List ℕ) → step default_config s c ≡ (st.StartField, act.EndField)
    → next_record default_config s rs f (c ∷ rest) ≡ next_record default_config st.StartField (rs ++ f ∷ []) [] rest
unfolding next_record
end_field s c rs f rest e = rw e refl

pub end_record : (s : State) (c : ℕ) (rs : Record) (f rest : List ℕ) → (step default_config s c).1 ≡ act.EndRecord
    → next_record default_config s rs f (c ∷ rest) ≡ Some (rs ++ f ∷ [], (step default_config s c).0, rest)
unfolding next_record
end_record s c rs f rest e = rw e refl

-- a record that was read, the state behind it and the text that is left
abbrev pub read_as : Record → State → List ℕ → Option Read
read_as rs s rest = Some (rs, s, rest)

by_step : (s : State) (q : State × Action) (c : ℕ) (rs : Record) (f rest : List ℕ) → step default_config s c ≡ q → next_record default_config s rs f (c ∷ rest)
    ≡ cond (is_end q.1) (read_as (fields_after q.1 rs f) q.0 rest) (next_record default_config q.0 (fields_after q.1 rs f) (field_after q.1 c f) rest)
unfolding next_record
by_step s q c rs f rest e = rw e refl

no_feed : (c : ℕ) → (c == 10) ≡ false → step default_config st.AfterCr c ≡ step default_config st.StartRecord c
no_feed c e = ap (λ b. cond b (st.StartRecord, act.Skip) (step default_config st.StartRecord c)) e

-- behind a carriage return a record begins as at the start
behind_return : (xs : List ℕ) → next_record default_config st.AfterCr [] [] xs ≡ next_record default_config st.StartRecord [] [] xs
unfolding next_record
behind_return [] = refl
behind_return (c ∷ rest) = elim (cases_Bool (c == 10)) [
  | inl feed ↦ rw (eqb-true c 10 feed) refl
  | inr other ↦
      by_step st.AfterCr (step default_config st.StartRecord c) c [] [] rest (no_feed c other)
      ∙ sym (by_step st.StartRecord (step default_config st.StartRecord c) c [] [] rest refl)
]

pub as_at_start : (s : State) (xs : List ℕ) → IsBetween s → next_record default_config s [] [] xs ≡ next_record default_config st.StartRecord [] [] xs
as_at_start s xs (inl e) = rw e refl
as_at_start s xs (inr e) = rw e (behind_return xs)

-- a line end before a record
pub line_end : (text : List ℕ) (at : ℕ) → at < length text → is_line_end (get_or text at 0) ≡ true → next_record default_config st.StartRecord [] []
    (drop at text)
    ≡ next_record default_config st.StartRecord [] [] (drop (at + 1) text)
line_end text at below e =
    rw (drop_more text at 0 below) (skip st.StartRecord st.StartRecord (get_or text at 0) [] [] (drop (at + 1) text) (rw e refl))

same_begin : (c : ℕ) (rest : List ℕ) → is_line_end c ≡ false → next_record default_config st.StartRecord [] [] (c ∷ rest)
    ≡ next_record default_config st.StartField [] [] (c ∷ rest)
unfolding next_record
same_begin c rest n = rw n refl

-- a record begins with a field
pub begun : (text : List ℕ) (at : ℕ) → at < length text → is_line_end (get_or text at 0) ≡ false → next_record default_config st.StartRecord [] []
    (drop at text)
    ≡ next_record default_config st.StartField [] [] (drop at text)
begun text at below e = rw (drop_more text at 0 below) (same_begin (get_or text at 0) (drop (at + 1) text) e)

-- nothing is behind the text
pub none_behind : (text : List ℕ) (at : ℕ) → length text ≤ at → next_record default_config st.StartRecord [] [] (drop at text) ≡ None
unfolding next_record
none_behind text at past = rw (drop_all at text past) refl

-- the state in a field without quotation marks
abbrev pub state_in : List ℕ → State
state_in [] = st.StartField
state_in (c ∷ f) = st.InField

plain_tests : (c : ℕ) → is_plain c ≡ true → ((c == 44) ≡ false) × ((c == 34) ≡ false) × ((c == 13) ≡ false) × ((c == 10) ≡ false)
plain_tests c e =
    let marks = or_parts ((c == 44) || (c == 34)) (is_line_end c) (no_not _ e) in
    let first = or_parts (c == 44) (c == 34) marks.0 in
    let last = or_parts (c == 13) (c == 10) marks.1 in
    (first.0, first.1, last.0, last.1)
  where
    no_not : (b : Bool) → not b ≡ true → b ≡ false
    no_not true n = absurd (cc n)
    no_not false n = refl

pub plain_step : (c : ℕ) → is_plain c ≡ true → step default_config st.InField c ≡ (st.InField, act.Copy)
plain_step c e = let t = plain_tests c e in rw (t.0, t.2, t.3) refl

plain_runs : (f : List ℕ) → list_all is_plain f ≡ true → Runs default_config st.InField f
unfolding Runs
plain_runs [] e = tt
plain_runs (c ∷ f) e =
    let p = and_parts (is_plain c) (list_all is_plain f) e in
    let t = plain_tests c p.0 in
    (rw (t.0, t.2, t.3) refl, plain_runs f p.1)

-- plain bytes are the front of a field
pub plain_field : (f rest : List ℕ) (rs : Record) → list_all is_plain f ≡ true → next_record default_config st.StartField rs [] (f ++ rest)
    ≡ next_record default_config (state_in f) rs f rest
plain_field [] rest rs e = refl
plain_field (c ∷ f) rest rs e =
    let p = and_parts (is_plain c) (list_all is_plain f) e in
    let t = plain_tests c p.0 in
    copy st.StartField st.InField c rs [] (f ++ rest) (rw (t.0, t.1, t.2, t.3) refl)
    ∙ run-copies default_config st.InField rs (c ∷ []) f rest (plain_runs f p.1)

-- a comma ends such a field
pub comma_step : (f : List ℕ) → step default_config (state_in f) 44 ≡ (st.StartField, act.EndField)
comma_step [] = refl
comma_step (c ∷ f) = refl

-- a line end ends it, and the record
pub line_end_step : (f : List ℕ) (c : ℕ) → is_line_end c ≡ true → ((step default_config (state_in f) c).1 ≡ act.EndRecord)
    × IsBetween (step default_config (state_in f) c).0
line_end_step f c e = elim (cases_Bool (c == 13)) [
  | inl return ↦ rw (eqb-true c 13 return) (at_return f)
  | inr other ↦
      let feed : (c == 10) ≡ true = sym (ap (λ b. b || (c == 10)) other) ∙ e in
      rw (eqb-true c 10 feed) (at_feed f)
]
  where
    at_return : (g : List ℕ) → ((step default_config (state_in g) 13).1 ≡ act.EndRecord) × IsBetween (step default_config (state_in g) 13).0
    at_return [] = (refl, inr refl)
    at_return (d ∷ g) = (refl, inr refl)

    at_feed : (g : List ℕ) → ((step default_config (state_in g) 10).1 ≡ act.EndRecord) × IsBetween (step default_config (state_in g) 10).0
    at_feed [] = (refl, inl refl)
    at_feed (d ∷ g) = (refl, inl refl)

-- and so does the end of the text
pub text_end : (f : List ℕ) (rs : Record) → next_record default_config (state_in f) rs f [] ≡ Some (rs ++ f ∷ [], st.StartRecord, [])
unfolding next_record
text_end [] rs = refl
text_end (c ∷ f) rs = refl

-- behind the text no line end is skipped
pub past_end : (text : List ℕ) (at : ℕ) → length text ≤ at → drop at text ≡ drop (length text) text
past_end text at h = drop_all at text h ∙ sym (drop_all (length text) text (omega arith))
