-- Each id is used at most once.
use Rattle.std.proofs.Common.{◌≡◌, ◌≤◌, ◌+◌, ◌==◌, ◌&&◌, ℕ, Bool, true, false, not, List, [], ◌∷◌, ◌++◌, length, refl, subst, arith, cond}
use Rattle.std.specs.Prelude.{nat_le}
use Rattle.std.specs.Str.{bytes_eq}
use Rattle.std.specs.List.{list_all}
use Rattle.std.proofs.lemmas.Bool.Decides.{nat_tests}
use Rattle.std.proofs.lemmas.Slice.Eq.{bytes_eq-Decides}
use Rattle.clap.specs.Walk.{Row as Entry, has_row}
use Rattle.clap.proofs.WalkLemmas.{both}
use Rattle.command_words.specs.Form.{counts, Text, Row, Use, positional, apart, in_one, flag, fits, is_among, is_allowed, is_value, is_positional}
use Rattle.command_words.specs.Form.{value_names, positional_names, words_in, times}
use Rattle.command_words.proofs.Texts.{same_bytes}
use Rattle.command_words.proofs.Steps.{or_false}
use Rattle.command_words.proofs.Uses.{entries, fresh}
use Rattle.command_words.proofs.Names.{all_at}
use Rattle.std.proofs.lemmas.Bool.{not-true}

-- how many entries have this id
abbrev pub n_in : Text → List Entry → ℕ
n_in id es = counts (λ e. bytes_eq e.id id) es

-- how many names are this one
abbrev pub n_named : Text → List Text → ℕ
n_named id names = counts (λ n. bytes_eq n id) names

none_in : (id : Text) (rows : List Entry) → n_in id rows ≤ 0 → has_row id rows ≡ false
none_in id [] h = refl
none_in id (r ∷ rs) h = go (bytes_eq r.id id) refl (none_in id rs)
  where
    go : (t : Bool) → bytes_eq r.id id ≡ t → (n_in id rs ≤ 0 → has_row id rs ≡ false) → has_row id (r ∷ rs) ≡ false
    go true e next = let k : 1 + n_in id rs ≤ 0 = rw e at h in absurd (omega arith)
    go false e next = let k : 0 + n_in id rs ≤ 0 = rw e at h in rw e (next (omega arith))

n_more : (id : Text) (rows : List Entry) (e : Entry) → n_in id (rows ++ e ∷ []) ≡ n_in id rows + cond (bytes_eq e.id id) 1 0
n_more id [] e = omega arith
n_more id (r ∷ rs) e = let ih = n_more id rs e in omega arith

pub fresh_from : (rows es : List Entry) → ((id : Text) → n_in id rows + n_in id es ≤ 1) → fresh rows es ≡ true
fresh_from rows [] h = refl
fresh_from rows (e ∷ es) h =
    let here : n_in e.id rows + (1 + n_in e.id es) ≤ 1 = rw (same_bytes e.id) at (h e.id) in
    rw (none_in e.id rows (omega arith)) (fresh_from (rows ++ e ∷ []) es (λ id. let k = h id in let m = n_more id rows e in omega arith))

pub at_most : (id : Text) (names : List Text) (uses : List Use) → n_in id (entries names uses) ≤ times uses id + n_named id names
at_most id names [] = omega arith
at_most id [] (positional w ∷ uses) = let ih = at_most id [] uses in omega arith
at_most id (n ∷ names) (positional w ∷ uses) = let ih = at_most id names uses in omega arith
at_most id names (apart x v ∷ uses) = let ih = at_most id names uses in omega arith
at_most id names (in_one x v ∷ uses) = let ih = at_most id names uses in omega arith
at_most id names (flag x ∷ uses) = let ih = at_most id names uses in omega arith

-- ---- names that no use has

pub differs : (names : List Text) (x y : Text) → is_among names y ≡ false → is_among names x ≡ true → bytes_eq x y ≡ false
differs names x y lacks has = go (bytes_eq x y) refl
  where
    go : (t : Bool) → bytes_eq x y ≡ t → bytes_eq x y ≡ false
    go true e = let is : x ≡ y = (bytes_eq-Decides x y).0 e in let bad : is_among names y ≡ true = subst (λ z. is_among names z ≡ true) is has in cc
    go false e = e

pub unused : (row : Row) (id : Text) (uses : List Use) → list_all (fits row) uses ≡ true → is_among (value_names row) id ≡ false → is_among row.flags id
    ≡ false → times uses id ≤ 0
unused row id [] fit a b = omega arith
unused row id (positional w ∷ uses) fit a b = let ih = unused row id uses (both (is_positional w) _ fit).1 a b in omega arith
unused row id (apart x v ∷ uses) fit a b =
    let f = both (is_among (value_names row) x && is_value v) _ fit in
    let ih = unused row id uses f.1 a b in rw (differs (value_names row) x id a (both (is_among (value_names row) x) _ f.0).0) (omega arith)
unused row id (in_one x v ∷ uses) fit a b =
    let f = both (is_among (value_names row) x && is_value v) _ fit in
    let ih = unused row id uses f.1 a b in rw (differs (value_names row) x id a (both (is_among (value_names row) x) _ f.0).0) (omega arith)
unused row id (flag x ∷ uses) fit a b =
    let f = both (is_among row.flags x) _ fit in
    let ih = unused row id uses f.1 a b in rw (differs row.flags x id b f.0) (omega arith)

pub none_named : (id : Text) (names : List Text) → is_among names id ≡ false → n_named id names ≤ 0
none_named id [] h = omega arith
none_named id (n ∷ names) h = let p = or_false (bytes_eq n id) _ h in let ih = none_named id names p.1 in rw (p.0) (omega arith)

pub among_parts : (xs ys : List Text) (x : Text) → is_among (xs ++ ys) x ≡ false → (is_among xs x ≡ false) × (is_among ys x ≡ false)
among_parts [] ys x h = (refl, h)
among_parts (z ∷ zs) ys x h = let p = or_false (bytes_eq z x) _ h in let q = among_parts zs ys x p.1 in (rw (p.0) q.0, q.1)

pub among_joint : (xs ys : List Text) (x : Text) → is_among xs x ≡ false → is_among ys x ≡ false → is_among (xs ++ ys) x ≡ false
among_joint [] ys x h k = k
among_joint (z ∷ zs) ys x h k = let p = or_false (bytes_eq z x) _ h in rw (p.0) (among_joint zs ys x p.1 k)

-- no positional is an option or a flag, each positional has its own name, and no option is a flag
pub record Sound (row : Row) : Type 0 where
  pub apart_names : list_all (λ n. not (is_among (value_names row ++ row.flags) n)) (positional_names row) ≡ true
  pub once : list_all (λ n. n_named n (positional_names row) == 1) (positional_names row) ≡ true
  pub apart_flags : list_all (λ x. not (is_among row.flags x)) (value_names row) ≡ true

-- what uses keep that the row allows
pub record Allowed (row : Row) (uses : List Use) : Type 0 where
  pub fit : list_all (fits row) uses ≡ true
  pub least : length row.positionals ≤ length (words_in uses)
  pub most : length (words_in uses) ≤ length row.positionals + length row.optional
  pub required : list_all (λ x. times uses x == 1) row.required ≡ true
  pub options : list_all (λ x. nat_le (times uses x) 1) row.options ≡ true
  pub flags : list_all (λ x. nat_le (times uses x) 1) row.flags ≡ true

pub allowed : (row : Row) (uses : List Use) → is_allowed row uses ≡ true → Allowed row uses
allowed row uses h =
    let a = both (list_all (fits row) uses) _ h in
    let b = both (nat_le (length row.positionals) (length (words_in uses))) _ a.1 in
    let c = both (nat_le (length (words_in uses)) (length row.positionals + length row.optional)) _ b.1 in
    let d = both (list_all (λ x. times uses x == 1) row.required) _ c.1 in
    let e = both (list_all (λ x. nat_le (times uses x) 1) row.options) _ d.1 in
    record { fit = a.0; least = grind (arith, nat_tests, b.0); most = grind (arith, nat_tests, c.0); required = d.0; options = e.0; flags = e.1 }

one_use : (row : Row) (uses : List Use) → Allowed row uses → (id : Text) → times uses id ≤ 1
one_use row uses a id = go (is_among row.required id) (is_among row.options id) (is_among row.flags id) refl refl refl
  where
    go : (p q r : Bool) → is_among row.required id ≡ p → is_among row.options id ≡ q → is_among row.flags id ≡ r → times uses id ≤ 1
    go true q r e f g = let k = all_at (λ x. times uses x == 1) row.required id a.required e in grind (arith, nat_tests)
    go false true r e f g = let k = all_at (λ x. nat_le (times uses x) 1) row.options id a.options f in grind (arith, nat_tests)
    go false false true e f g = let k = all_at (λ x. nat_le (times uses x) 1) row.flags id a.flags g in grind (arith, nat_tests)
    go false false false e f g = let k = unused row id uses a.fit (among_joint row.required row.options id e f) g in omega arith

once_each : (row : Row) (uses : List Use) → Sound row → Allowed row uses → (id : Text) → times uses id + n_named id (positional_names row) ≤ 1
once_each row uses s a id = go (is_among (positional_names row) id) refl
  where
    go : (p : Bool) → is_among (positional_names row) id ≡ p → times uses id + n_named id (positional_names row) ≤ 1
    go true e =
        let k = all_at (λ n. n_named n (positional_names row) == 1) (positional_names row) id s.once e in
        let none_here = not-true _ (all_at (λ n. not (is_among (value_names row ++ row.flags) n)) (positional_names row) id s.apart_names e) in
        let parts = among_parts (value_names row) row.flags id none_here in
        let none = unused row id uses a.fit parts.0 parts.1 in
        let is : n_named id (positional_names row) ≡ 1 = grind (arith, nat_tests) in
        omega arith
    go false e = let none = none_named id (positional_names row) e in let one = one_use row uses a id in omega arith

pub uses_fresh : (row : Row) (uses : List Use) → Sound row → Allowed row uses → fresh [] (entries (positional_names row) uses) ≡ true
uses_fresh row uses s a = fresh_from [] (entries (positional_names row) uses)
    (λ id. let k = at_most id (positional_names row) uses in let m = once_each row uses s a id in omega arith)
