-- What the rows hold at the end.
use Rattle.std.proofs.Common.{◌≡◌, ◌&&◌, ◌||◌, Bool, true, false, not, List, [], ◌∷◌, ◌++◌, Option, Some, None, option_map, refl, ap, ◌∙◌, arith}
use Rattle.std.specs.Prelude.{fold, codes, if◌then◌else◌, find}
use Rattle.std.specs.Str.{bytes_eq}
use Rattle.std.specs.List.{list_all}
use Rattle.std.proofs.lemmas.Bool.Decides.{nat_tests}
use Rattle.std.proofs.lemmas.Slice.Eq.{bytes_eq-Decides}
use Rattle.clap.specs.Walk.{Row as Entry, Rule, has_row, arg_by_id, with_default, more_values, is_empty, reading_by}
use Rattle.clap.specs.declared.parser.matches.ValueSource.TheVariants.{DefaultValue}
use Rattle.clap.proofs.WalkLemmas.{both}
use Rattle.command_words.specs.Form.{Text, Row, Use, positional, apart, in_one, flag, fits, is_among, is_value, is_positional, value_names, words_in}
use Rattle.command_words.specs.Form.{value_of, has_flag, word_at}
use Rattle.command_words.proofs.Texts.{same_bytes}
use Rattle.command_words.proofs.Steps.{flag_built, entry_of, flag_entry, or_false, row_missing}
use Rattle.command_words.proofs.Uses.{entries}
use Rattle.command_words.proofs.Counts.{differs}
use Rattle.std.proofs.Math.Bool.{or-true}
use Rattle.std.proofs.lemmas.Bool.{not-true}

-- the row of an id
abbrev pub row_by : Text → List Entry → Option Entry
row_by id rows = find (λ r. bytes_eq r.id id) rows

-- ---- rows that are added

pub kept : (id : Text) (rows more : List Entry) (r : Entry) → row_by id rows ≡ Some r → row_by id (rows ++ more) ≡ Some r
kept id [] more r h = cc h
kept id (x ∷ xs) more r h = go (bytes_eq x.id id) refl (kept id xs more r)
  where
    go : (t : Bool) → bytes_eq x.id id ≡ t → (row_by id xs ≡ Some r → row_by id (xs ++ more) ≡ Some r) → row_by id (x ∷ (xs ++ more)) ≡ Some r
    go true e next = rw e (rw e at h)
    go false e next = rw e (next (rw e at h))

pub passed_over : (id : Text) (rows : List Entry) (e : Entry) → row_by id rows ≡ None → row_by id (rows ++ e ∷ []) ≡ row_by id (e ∷ [])
passed_over id [] e h = refl
passed_over id (x ∷ xs) e h = go (bytes_eq x.id id) refl (passed_over id xs e)
  where
    go : (t : Bool) → bytes_eq x.id id ≡ t → (row_by id xs ≡ None → row_by id (xs ++ e ∷ []) ≡ row_by id (e ∷ [])) → row_by id (x ∷ (xs ++ e ∷ []))
        ≡ row_by id (e ∷ [])
    go true same next = let bad : Some x ≡ None = rw same at h in cc bad
    go false other next = rw other (next (rw other at h))

pub no_row : (id : Text) (rows : List Entry) → row_by id rows ≡ None → has_row id rows ≡ false
no_row id [] h = refl
no_row id (x ∷ xs) h = go (bytes_eq x.id id) refl (no_row id xs)
  where
    go : (t : Bool) → bytes_eq x.id id ≡ t → (row_by id xs ≡ None → has_row id xs ≡ false) → has_row id (x ∷ xs) ≡ false
    go true same next = let bad : Some x ≡ None = rw same at h in cc bad
    go false other next = rw other (next (rw other at h))

-- the row of a default
abbrev pub default_entry : Rule → Text → List Text → Entry
default_entry a v vs = record { id = a.id; values = v ∷ vs; count = None; source = Some DefaultValue; reading = reading_by a }

defaulted : (rows : List Entry) (a : Rule) (v : Text) (vs : List Text) → a.defaults ≡ v ∷ vs → has_row a.id rows ≡ false → with_default rows a ≡ rows
    ++ default_entry a v vs ∷ []
defaulted rows a v vs e h = rw (h, e) (row_missing a.id (more_values DefaultValue (v ∷ vs)) (default_entry a v vs ∷ []) rows h)

no_default : (rows : List Entry) (a : Rule) → a.defaults ≡ [] → with_default rows a ≡ rows
no_default rows a e = go (has_row a.id rows) refl
  where
    go : (t : Bool) → has_row a.id rows ≡ t → with_default rows a ≡ rows
    go true h = rw h
    go false h = rw (h, e) refl

present : (rows : List Entry) (a : Rule) → has_row a.id rows ≡ true → with_default rows a ≡ rows
present rows a h = rw h

kept_default : (id : Text) (rows : List Entry) (a : Rule) (r : Entry) → row_by id rows ≡ Some r → row_by id (with_default rows a) ≡ Some r
kept_default id rows a r h = go (has_row a.id rows) a.defaults refl refl
  where
    go : (t : Bool) (ds : List Text) → has_row a.id rows ≡ t → a.defaults ≡ ds → row_by id (with_default rows a) ≡ Some r
    go true ds e d = ap (row_by id) (present rows a e) ∙ h
    go false [] e d = ap (row_by id) (no_default rows a d) ∙ h
    go false (v ∷ vs) e d = ap (row_by id) (defaulted rows a v vs d e) ∙ kept id rows (default_entry a v vs ∷ []) r h

pub kept_defaults : (id : Text) (rules : List Rule) (rows : List Entry) (r : Entry) → row_by id rows ≡ Some r → row_by id (fold with_default rows rules)
    ≡ Some r
kept_defaults id [] rows r h = h
kept_defaults id (a ∷ rules) rows r h = kept_defaults id rules (with_default rows a) r (kept_default id rows a r h)

-- the rule has no default, or another id
abbrev pub adds_none : Text → Rule → Bool
adds_none id a = is_empty a.defaults || not (bytes_eq a.id id)

not_nil : (v : Text) (vs : List Text) → is_empty (v ∷ vs) ≡ false
not_nil v vs = grind (arith, nat_tests)

none_default : (id : Text) (rows : List Entry) (a : Rule) → adds_none id a ≡ true → row_by id rows ≡ None → row_by id (with_default rows a) ≡ None
none_default id rows a q h = go (has_row a.id rows) a.defaults refl refl
  where
    go : (t : Bool) (ds : List Text) → has_row a.id rows ≡ t → a.defaults ≡ ds → row_by id (with_default rows a) ≡ None
    go true ds e d = ap (row_by id) (present rows a e) ∙ h
    go false [] e d = ap (row_by id) (no_default rows a d) ∙ h
    go false (v ∷ vs) e d =
        let some : is_empty (v ∷ vs) ≡ false = not_nil v vs in
        let other : not (bytes_eq a.id id) ≡ true = rw (d, some) at q in
        ap (row_by id) (defaulted rows a v vs d e) ∙ (passed_over id rows (default_entry a v vs) h ∙ rw (not-true _ other) refl)

pub none_defaults : (id : Text) (rules : List Rule) (rows : List Entry) → list_all (adds_none id) rules ≡ true → row_by id rows ≡ None
    → row_by id (fold with_default rows rules) ≡ None
none_defaults id [] rows q h = h
none_defaults id (a ∷ rules) rows q h = let p = both (adds_none id a) _ q in none_defaults id rules (with_default rows a) p.1 (none_default id rows a p.0 h)

pub flag_default : (f : Text) (rules : List Rule) (rows : List Entry) → arg_by_id rules f ≡ Some (flag_built f) → row_by f rows ≡ None
    → row_by f (fold with_default rows rules) ≡ Some (default_entry (flag_built f) (codes "false") [])
flag_default f [] rows at h = cc at
flag_default f (a ∷ rules) rows at h = go (bytes_eq a.id f) refl (flag_default f rules (with_default rows a))
  where
    go : (t : Bool) → bytes_eq a.id f ≡ t
        → (arg_by_id rules f ≡ Some (flag_built f) → row_by f (with_default rows a) ≡ None → row_by f (fold with_default (with_default rows a) rules)
        ≡ Some (default_entry (flag_built f) (codes "false") []))
        → row_by f (fold with_default (with_default rows a) rules) ≡ Some (default_entry (flag_built f) (codes "false") [])
    go true same next =
        let found : Some a ≡ Some (flag_built f) = rw same at at in
        let is : a ≡ flag_built f = cc found in
        let step : row_by f (with_default rows (flag_built f)) ≡ Some (default_entry (flag_built f) (codes "false") []) =
        ap (row_by f) (defaulted rows (flag_built f) (codes "false") [] refl (no_row f rows h))
        ∙ (passed_over f rows (default_entry (flag_built f) (codes "false") []) h ∙ rw (same_bytes f) refl) in
        kept_defaults f rules (with_default rows a) _ (ap (λ (b : Rule). row_by f (with_default rows b)) is ∙ step)
    go false other next =
        next (rw other at at) (none_default f rows a (rw other (or-true (is_empty a.defaults))) h)

-- ---- the entries of uses

-- an entry before others: it is that of its own name, and the others are those of any other
entry_first : (x y v : Text) (es : List Entry) (o : Option Text) → row_by x es ≡ option_map (entry_of x) o → row_by x (entry_of y v ∷ es)
    ≡ option_map (entry_of x) (if bytes_eq y x then Some v else o)
entry_first x y v es o next = go (bytes_eq y x) refl
  where
    go : (t : Bool) → bytes_eq y x ≡ t → row_by x (entry_of y v ∷ es) ≡ option_map (entry_of x) (if bytes_eq y x then Some v else o)
    go true e = rw e (ap (λ z. Some (entry_of z v)) ((bytes_eq-Decides y x).0 e))
    go false e = rw e next

pub option_entry : (row : Row) (x : Text) (names : List Text) (uses : List Use) → list_all (fits row) uses ≡ true → is_among names x ≡ false
    → is_among row.flags x ≡ false
    → row_by x (entries names uses) ≡ option_map (entry_of x) (value_of uses x)
option_entry row x names [] fit a b = refl
option_entry row x [] (positional w ∷ uses) fit a b = option_entry row x [] uses (both (is_positional w) _ fit).1 a b
option_entry row x (n ∷ names) (positional w ∷ uses) fit a b =
    let p = or_false (bytes_eq n x) _ a in rw (p.0) (option_entry row x names uses (both (is_positional w) _ fit).1 p.1 b)
option_entry row x names (apart y v ∷ uses) fit a b =
    entry_first x y v (entries names uses) (value_of uses x) (option_entry row x names uses (both (is_among (value_names row) y && is_value v) _ fit).1 a b)
option_entry row x names (in_one y v ∷ uses) fit a b =
    entry_first x y v (entries names uses) (value_of uses x) (option_entry row x names uses (both (is_among (value_names row) y && is_value v) _ fit).1 a b)
option_entry row x names (flag y ∷ uses) fit a b =
    let f = both (is_among row.flags y) _ fit in rw (differs row.flags y x b f.0) (option_entry row x names uses f.1 a b)

pub flag_found : (row : Row) (x : Text) (names : List Text) (uses : List Use) → list_all (fits row) uses ≡ true → is_among names x ≡ false
    → is_among (value_names row) x ≡ false
    → row_by x (entries names uses) ≡ (if has_flag uses x then Some (flag_entry x) else None)
flag_found row x names [] fit a b = refl
flag_found row x [] (positional w ∷ uses) fit a b = flag_found row x [] uses (both (is_positional w) _ fit).1 a b
flag_found row x (n ∷ names) (positional w ∷ uses) fit a b =
    let p = or_false (bytes_eq n x) _ a in rw (p.0) (flag_found row x names uses (both (is_positional w) _ fit).1 p.1 b)
flag_found row x names (apart y v ∷ uses) fit a b =
    let f = both (is_among (value_names row) y && is_value v) _ fit in
    rw (differs (value_names row) y x b (both (is_among (value_names row) y) _ f.0).0) (flag_found row x names uses f.1 a b)
flag_found row x names (in_one y v ∷ uses) fit a b =
    let f = both (is_among (value_names row) y && is_value v) _ fit in
    rw (differs (value_names row) y x b (both (is_among (value_names row) y) _ f.0).0) (flag_found row x names uses f.1 a b)
flag_found row x names (flag y ∷ uses) fit a b = go (bytes_eq y x) refl (flag_found row x names uses (both (is_among row.flags y) _ fit).1 a b)
  where
    go : (t : Bool) → bytes_eq y x ≡ t → row_by x (entries names uses) ≡ (if has_flag uses x then Some (flag_entry x) else None)
        → row_by x (flag_entry y ∷ entries names uses) ≡ (if bytes_eq y x || has_flag uses x then Some (flag_entry x) else None)
    go true e next = rw e (ap (λ z. Some (flag_entry z)) ((bytes_eq-Decides y x).0 e))
    go false e next = rw e next

pub positional_found : (row : Row) (x : Text) (names : List Text) (uses : List Use) → list_all (fits row) uses ≡ true → is_among (value_names row) x ≡ false
    → is_among row.flags x ≡ false
    → row_by x (entries names uses) ≡ option_map (entry_of x) (word_at names (words_in uses) x)
positional_found row x [] [] fit a b = refl
positional_found row x (n ∷ names) [] fit a b = refl
positional_found row x [] (positional w ∷ uses) fit a b = positional_found row x [] uses (both (is_positional w) _ fit).1 a b
positional_found row x (n ∷ names) (positional w ∷ uses) fit a b =
    entry_first x n w (entries names uses) (word_at names (words_in uses) x) (positional_found row x names uses (both (is_positional w) _ fit).1 a b)
positional_found row x names (apart y v ∷ uses) fit a b =
    let f = both (is_among (value_names row) y && is_value v) _ fit in
    rw (differs (value_names row) y x a (both (is_among (value_names row) y) _ f.0).0) (positional_found row x names uses f.1 a b)
positional_found row x names (in_one y v ∷ uses) fit a b =
    let f = both (is_among (value_names row) y && is_value v) _ fit in
    rw (differs (value_names row) y x a (both (is_among (value_names row) y) _ f.0).0) (positional_found row x names uses f.1 a b)
positional_found row x names (flag y ∷ uses) fit a b =
    let f = both (is_among row.flags y) _ fit in rw (differs row.flags y x b f.0) (positional_found row x names uses f.1 a b)
