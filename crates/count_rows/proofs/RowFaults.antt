-- The first fault of the rows.
use Rattle.std.proofs.Common.{◌≡◌, ◌≢◌, ℕ, ◌+◌, ◌<◌, cond, List, [], ◌∷◌, ◌++◌, length, refl, ap, sym, ◌∙◌, arith, subst, Option, Some, None, Result}
use Rattle.std.proofs.Common.{Ok, Err}
use Rattle.std.specs.Prelude.{IfOk, IfErr, MatchResult, map, slice_get}
use Rattle.std.specs.Option.{option_to_list}
use Rattle.std.proofs.Common.{get_or}
use Rattle.std.proofs.lemmas.Option.{get_or_from_slice_get}
use Rattle.mixed_graph.specs.Vocabulary.{name_of}
use Rattle.std.proofs.lemmas.Bool.{ne_eqb, eq-eqb}
use Rattle.std.proofs.lemmas.List.{append_assoc, append-nil}
use Rattle.count_rows.specs.declared.fault.CountFault.{CountFault}
use Rattle.count_rows.specs.declared.fault.CountFault.TheVariants.{NotCsv, NoColumn, NoRows}
use Rattle.count_rows.specs.declared.tally.Tally.{Tally}
use Rattle.count_rows.specs.Records.{Record, Layout, records_of, header_of, rows_of, layout_of, sum_of}
use Rattle.count_rows.specs.Faults.{or_else, row_fault, rows_fault, empty_fault, records_fault, header_fault, IsExpectedFault}
use Rattle.count_rows.specs.Reader.{HasRead}
use Rattle.count_rows.specs.Tally.{HoldsRecords}
use Rattle.count_rows.proofs.ReadingSteps.{split}

or_else-assoc : (a b c : Option CountFault) → or_else a (or_else b c) ≡ or_else (or_else a b) c
or_else-assoc None b c = refl
or_else-assoc (Some f) b c = refl

or_else-none : (a : Option CountFault) → or_else a None ≡ a
or_else-none None = refl
or_else-none (Some f) = refl

rows_fault-append : (w : ℕ) (l : Layout) (before rows more : List Record) → rows_fault w l before (rows ++ more)
    ≡ or_else (rows_fault w l before rows) (rows_fault w l (before ++ rows) more)
unfolding rows_fault
rows_fault-append w l before [] more = ap (λ (b : List Record). rows_fault w l b more) (sym (append-nil before))
rows_fault-append w l before (r ∷ rs) more =
    ap (or_else (row_fault w l before r)) (rows_fault-append w l (before ++ r ∷ []) rs more
    ∙ ap (λ (b : List Record). or_else (rows_fault w l (before ++ r ∷ []) rs) (rows_fault w l b more)) (append_assoc before (r ∷ []) rs))
    ∙ or_else-assoc (row_fault w l before r) (rows_fault w l (before ++ r ∷ []) rs) (rows_fault w l (before ++ (r ∷ rs)) more)

pub rows_fault-nil : (w : ℕ) (l : Layout) → rows_fault w l [] [] ≡ None
unfolding rows_fault
rows_fault-nil w l = refl

-- one row more
pub rows_fault-last : (w : ℕ) (l : Layout) (rows : List Record) (r : Record) → rows_fault w l [] rows ≡ None → rows_fault w l [] (rows ++ r ∷ [])
    ≡ row_fault w l rows r
unfolding rows_fault
rows_fault-last w l rows r fine =
    rows_fault-append w l [] rows (r ∷ []) ∙ ap (λ (o : Option CountFault). or_else o (or_else (row_fault w l rows r) None)) fine
    ∙ or_else-none (row_fault w l rows r)

-- the first row at fault
rows_fault-first : (w : ℕ) (l : Layout) (rows more : List Record) (r : Record) (f : CountFault) → rows_fault w l [] rows ≡ None → row_fault w l rows r
    ≡ Some f → rows_fault w l [] (rows ++ r ∷ more) ≡ Some f
unfolding rows_fault
rows_fault-first w l rows more r f fine bad =
    rows_fault-append w l [] rows (r ∷ more) ∙ ap (λ (o : Option CountFault). or_else o
    (or_else (row_fault w l rows r) (rows_fault w l (rows ++ r ∷ []) more))) fine
    ∙ ap (λ (o : Option CountFault). or_else o (rows_fault w l (rows ++ r ∷ []) more)) bad

refused : (text : List ℕ) (header : Record) (rows more : List Record) (r : Record) (l : Layout) (f : CountFault) → records_of text ≡ (header ∷ rows) ++ r
    ∷ more →
    rows_fault (length header) l [] rows ≡ None → row_fault (length header) l rows r ≡ Some f →
    or_else (rows_fault (length header) l [] (rows_of (records_of text))) (empty_fault l (rows_of (records_of text))) ≡ Some f
refused text header rows more r l f is fine bad =
    let behind : rows_of (records_of text) ≡ rows ++ r ∷ more = ap rows_of is in
    ap (λ (o : Option CountFault). or_else o (empty_fault l (rows_of (records_of text))))
    (ap (rows_fault (length header) l []) behind ∙ rows_fault-first (length header) l rows more r f fine bad)

-- a row that was read, and refused
pub row_refused : (text : List ℕ) (header : Record) (rows : List Record) (r : Record) (at : ℕ) (l : Layout) (f : CountFault)
    → HasRead text ((header ∷ rows) ++ r ∷ []) at →
    length r ≡ length header → rows_fault (length header) l [] rows ≡ None → row_fault (length r) l rows r ≡ Some f →
    or_else (rows_fault (length header) l [] (rows_of (records_of text))) (empty_fault l (rows_of (records_of text))) ≡ Some f
row_refused text header rows r at l f read long fine bad =
    refused text header rows _ r l f (split text ((header ∷ rows) ++ r ∷ []) at read ∙ append_assoc (header ∷ rows) (r ∷ []) _) fine
    (ap (λ w. row_fault w l rows r) (sym long) ∙ bad)

wrong : (width : ℕ) (rows : List Record) (other : Record) (l : Layout) → length other ≢ width → row_fault width l rows other ≡ Some (NotCsv (length rows + 1))
unfolding row_fault
wrong width rows other l d = rw (ne_eqb (length other) width d) refl

-- a row of another length
pub row_too_long : (text : List ℕ) (header : Record) (rows : List Record) (r : Record) (at : ℕ) (l : Layout)
    → HasRead text ((header ∷ rows) ++ r ∷ []) at → length r ≢ length header → rows_fault (length header) l [] rows ≡ None →
    or_else (rows_fault (length header) l [] (rows_of (records_of text))) (empty_fault l (rows_of (records_of text))) ≡ Some (NotCsv (length rows + 1))
row_too_long text header rows r at l read long fine =
    refused text header rows _ r l (NotCsv (length rows + 1)) (split text ((header ∷ rows) ++ r ∷ []) at read ∙ append_assoc (header ∷ rows) (r ∷ []) _) fine
    (wrong (length header) rows r l long)

-- all rows were read
pub ended : (text : List ℕ) (header : Record) (rows : List Record) (l : Layout) (tally : Tally) (result : Result Tally CountFault) → records_of text ≡ header
    ∷ rows → rows_fault (length header) l [] rows ≡ None → HoldsRecords l rows tally →
    IfOk result (λ t. (t ≡ tally) × (0 < tally.sum)) → IfErr result (λ f. (f ≡ NoRows) × (tally.sum ≡ 0)) →
    MatchResult result
    (λ t. HoldsRecords l (rows_of (records_of text)) t × (or_else (rows_fault (length header) l [] (rows_of (records_of text)))
    (empty_fault l (rows_of (records_of text))) ≡ None))
    (IsExpectedFault (or_else (rows_fault (length header) l [] (rows_of (records_of text))) (empty_fault l (rows_of (records_of text)))))
ended text header rows l tally (Ok t) is fine held ok err =
    let behind : rows_of (records_of text) ≡ rows = ap rows_of is in
    rw behind (
      subst (λ (x : Tally). HoldsRecords l rows x) (sym ok.0) held,
      ap (λ (o : Option CountFault). or_else o (empty_fault l rows)) fine
          ∙ ap (λ b. cond b (Some NoRows) None) (ne_eqb (sum_of l rows) 0 (let s = held.sum in let p = ok.1 in omega (arith, s, p))),
    )
ended text header rows l tally (Err f) is fine held ok err =
    λ n. let behind : rows_of (records_of text) ≡ rows = ap rows_of is in
    rw behind (ap (λ (o : Option CountFault). or_else o (empty_fault l rows)) fine
    ∙ ap (λ b. cond b (Some NoRows) None) (eq-eqb (sum_of l rows) 0 (sym held.sum ∙ err.1)) ∙ ap (λ (x : CountFault). Some x) (sym err.0))

empty_header : (name : List ℕ) (names : List (List ℕ)) (count : Option (List ℕ)) → records_fault [] (name ∷ names) count ≡ Some (NoColumn name)
unfolding records_fault header_fault
empty_header name names count = refl

-- a text without a record lacks the first name
pub no_header : (records : List Record) (names : List (List ℕ)) (vertices : List ℕ) (name : List ℕ) (count : Option (List ℕ)) → records ≡ []
    → 0 < length vertices → slice_get names (get_or vertices 0 0) ≡ Some name →
    records_fault records (map (name_of names) vertices) count ≡ Some (NoColumn name)
no_header records names [] name count none some e = absurd (omega (arith, some))
no_header records names (v ∷ vs) name count none some e = missing records none
    ∙ ap (λ (x : List ℕ). Some (NoColumn x)) (get_or_from_slice_get names v name [] e)
  where
    missing : (rs : List Record) → rs ≡ [] → records_fault rs (name_of names v ∷ map (name_of names) vs) count ≡ Some (NoColumn (name_of names v))
    missing [] n = empty_header (name_of names v) (map (name_of names) vs) count
    missing (h ∷ t) n = absurd (cc n)

-- a header at fault
pub bad_header : (records : List Record) (h : Record) (used : List (List ℕ)) (count : Option (List ℕ)) (f : CountFault) → header_of records ≡ h
    → header_fault h (used ++ option_to_list count) ≡ Some f →
    records_fault records used count ≡ Some f
unfolding records_fault
bad_header records h used count f is bad =
    ap (λ (o : Option CountFault). or_else o (or_else (rows_fault (length (header_of records)) (layout_of (header_of records) used count) []
    (rows_of records)) (empty_fault (layout_of (header_of records) used count) (rows_of records))))
    (ap (λ (x : Record). header_fault x (used ++ option_to_list count)) is ∙ bad)

-- a header without a fault
pub good_header : (records : List Record) (h : Record) (used : List (List ℕ)) (count : Option (List ℕ)) (l : Layout) → header_of records ≡ h
    → header_fault h (used ++ option_to_list count) ≡ None → l ≡ layout_of h used count →
    records_fault records used count ≡ or_else (rows_fault (length h) l [] (rows_of records)) (empty_fault l (rows_of records))
unfolding records_fault
good_header records h used count l is fine at =
    ap (λ (o : Option CountFault). or_else o (or_else (rows_fault (length (header_of records)) (layout_of (header_of records) used count) []
    (rows_of records)) (empty_fault (layout_of (header_of records) used count) (rows_of records))))
    (ap (λ (x : Record). header_fault x (used ++ option_to_list count)) is ∙ fine)
    ∙ rw (is, at) refl

-- what a reading of the rows gives
pub when_ok : {T E : Type 0} (r : Result T E) (P : T → Type 0) (Q : E → Type 0) → MatchResult r P Q → IfOk r P
when_ok (Ok t) P Q h = h
when_ok (Err e) P Q h = tt

pub when_err : {T E : Type 0} (r : Result T E) (P : T → Type 0) (Q : E → Type 0) → MatchResult r P Q → IfErr r Q
when_err (Ok t) P Q h = tt
when_err (Err e) P Q h = h

pub ok_both : {T E : Type 0} (r : Result T E) (P P' : T → Type 0) → ((t : T) → P t → P' t) → IfOk r P → IfOk r P'
ok_both (Ok t) P P' f h = f t h
ok_both (Err e) P P' f h = tt

pub err_both : {T E : Type 0} (r : Result T E) (Q Q' : E → Type 0) → ((e : E) → Q e → Q' e) → IfErr r Q → IfErr r Q'
err_both (Ok t) Q Q' f h = tt
err_both (Err e) Q Q' f h = f e h

-- the header is the record that was read first
pub header_first : (text : List ℕ) (header : Record) (at : ℕ) → HasRead text (header ∷ []) at → header_of (records_of text) ≡ header
header_first text header at read = ap header_of (split text (header ∷ []) at read)
