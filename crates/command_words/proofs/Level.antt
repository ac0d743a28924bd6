-- One command on words of the form: what it takes, and what it gives.
use Rattle.std.proofs.Common.{◌≡◌, ◌≤◌, ◌+◌, ◌==◌, ◌&&◌, ◌||◌, Bool, true, false, not, List, [], ◌∷◌, ◌++◌, length, map, Option, Some, None}
use Rattle.std.proofs.Common.{option_map, is_some, refl, ap, ◌∙◌, arith, length-append}
use Rattle.std.specs.Prelude.{fold, codes, if◌then◌else◌}
use Rattle.std.specs.Str.{bytes_eq}
use Rattle.std.specs.List.{list_all, flat_map}
use Rattle.std.proofs.lemmas.Bool.Decides.{nat_tests}
use Rattle.clap.specs.Walk.{Row as Entry, Rule, Walk, walk, arg_by_id, with_default, first_of, one_of, nothing_held, rows_after, finished}
use Rattle.clap.specs.Simple.{Shape}
use Rattle.clap.specs.Takes.{is_given, level_passes, default_passes, is_valid, settle_passes}
use Rattle.clap.proofs.WalkLemmas.{both}
use Rattle.command_words.specs.Form.{Text, Row, Use, positional, apart, in_one, flag, spelled, fits, is_among, is_value, is_positional, value_names}
use Rattle.command_words.specs.Form.{positional_names, words_in, times, value_of, has_flag, word_at}
use Rattle.command_words.proofs.Steps.{flag_built, entry_of, flag_entry, between, settles, settles_well, held}
use Rattle.command_words.proofs.Uses.{Lookups, Reads, Runs, runs, entries, same_at}
use Rattle.command_words.proofs.Names.{other_side, all_at, among_left, among_right}
use Rattle.command_words.specs.Gives.{GivesUses}
use Rattle.command_words.proofs.Counts.{Sound, Allowed, uses_fresh, differs, among_parts, among_joint}
use Rattle.command_words.proofs.Finds.{row_by, kept_defaults, none_defaults, flag_default, adds_none, option_entry, flag_found, positional_found}
use Rattle.std.specs.Cmp.Derive.{both_true}
use Rattle.std.proofs.Math.Bool.{or-true}
use Rattle.std.proofs.lemmas.Bool.{not-true}

-- the rest of what clap asks of a command
pub record Closes (row : Row) (s : Shape) : Type 0 where
  pub defaults : list_all default_passes s.rules ≡ true
  pub help : s.arg_required_else_help ≡ false
  pub subcommand : s.subcommand_required ≡ false
  pub free : list_all (λ a. a.is_free) s.rules ≡ true
  pub required : list_all (λ a. not a.required || is_among (row.positionals ++ row.required) a.id) s.rules ≡ true
  pub flag_ids : map (arg_by_id s.rules) row.flags ≡ map (λ x. Some (flag_built x)) row.flags
  pub undefaulted : list_all (λ x. list_all (adds_none x) s.rules) (value_names row ++ positional_names row) ≡ true

-- ---- what stands where

-- an option before others: its value is there where its name is used
given_first : (x y v : Text) (uses : List Use) → 1 ≤ (if bytes_eq y x then 1 else 0) + times uses x → (1 ≤ times uses x → is_some (value_of uses x) ≡ true)
    → is_some (if bytes_eq y x then Some v else value_of uses x) ≡ true
given_first x y v uses h next = go (bytes_eq y x) refl
  where
    go : (t : Bool) → bytes_eq y x ≡ t → is_some (if bytes_eq y x then Some v else value_of uses x) ≡ true
    go true e = rw e
    go false e = rw e (next (let k : 1 ≤ 0 + times uses x = rw e at h in omega arith))

-- an option that is used has a value
pub option_given : (row : Row) (x : Text) (uses : List Use) → list_all (fits row) uses ≡ true → is_among row.flags x ≡ false → 1 ≤ times uses x
    → is_some (value_of uses x) ≡ true
option_given row x [] fit a h = absurd (omega arith)
option_given row x (positional w ∷ uses) fit a h = option_given row x uses (both (is_positional w) _ fit).1 a (omega arith)
option_given row x (apart y v ∷ uses) fit a h = given_first x y v uses h (option_given row x uses (both (is_among (value_names row) y && is_value v) _ fit).1 a)
option_given row x (in_one y v ∷ uses) fit a h = given_first x y v uses h
    (option_given row x uses (both (is_among (value_names row) y && is_value v) _ fit).1 a)
option_given row x (flag y ∷ uses) fit a h =
    let f = both (is_among row.flags y) _ fit in
    option_given row x uses f.1 a (let k : 1 ≤ 0 + times uses x = rw (differs row.flags y x a f.0) at h in omega arith)

-- a positional without brackets has a word where there are enough
pub positional_given : (ps optional words : List Text) (x : Text) → is_among ps x ≡ true → length ps ≤ length words → is_some (word_at (ps ++ optional) words x)
    ≡ true
positional_given [] optional words x a h = cc a
positional_given (p ∷ ps) optional [] x a h = absurd (omega arith)
positional_given (p ∷ ps) optional (w ∷ words) x a h = go (bytes_eq p x) refl (positional_given ps optional words x)
  where
    go : (t : Bool) → bytes_eq p x ≡ t → (is_among ps x ≡ true → length ps ≤ length words → is_some (word_at (ps ++ optional) words x) ≡ true)
        → is_some (if bytes_eq p x then Some w else word_at (ps ++ optional) words x) ≡ true
    go true e next = rw e
    go false e next = rw e (next (rw e at a) (omega arith))

-- ---- what the rows give

module _ (row : Row) (s : Shape) (reads : Reads row s) (closes : Closes row s) (sound : Sound row) (uses : List Use) (a : Allowed row uses) where
  abbrev es : List Entry
  es = entries (positional_names row) uses

  abbrev rows : List Entry
  rows = fold with_default es s.rules

  value_at : (x : Text) (o : Option Text) → is_among (value_names row ++ positional_names row) x ≡ true → row_by x es ≡ option_map (entry_of x) o
      → first_of x rows ≡ o
  value_at x (Some v) among e = rw (kept_defaults x s.rules es (entry_of x v) e)
  value_at x None among e =
      rw (none_defaults x s.rules es (all_at (λ y. list_all (adds_none y) s.rules) (value_names row ++ positional_names row) x closes.undefaulted among) e)

  option_row : (x : Text) → is_among (value_names row) x ≡ true → row_by x es ≡ option_map (entry_of x) (value_of uses x)
  option_row x has = option_entry row x (positional_names row) uses a.fit
      (other_side (positional_names row) (value_names row ++ row.flags) x sound.apart_names (among_left (value_names row) row.flags x has))
      (not-true _ (all_at (λ y. not (is_among row.flags y)) (value_names row) x sound.apart_flags has))

  positional_row : (n : Text) → is_among (positional_names row) n ≡ true → row_by n es
      ≡ option_map (entry_of n) (word_at (positional_names row) (words_in uses) n)
  positional_row n has =
      let parts = among_parts (value_names row) row.flags n (not-true _
      (all_at (λ m. not (is_among (value_names row ++ row.flags) m)) (positional_names row) n sound.apart_names has)) in
      positional_found row n (positional_names row) uses a.fit parts.0 parts.1

  flag_row : (x : Text) → is_among row.flags x ≡ true → row_by x es ≡ (if has_flag uses x then Some (flag_entry x) else None)
  flag_row x has = flag_found row x (positional_names row) uses a.fit
      (other_side (positional_names row) (value_names row ++ row.flags) x sound.apart_names (among_right (value_names row) row.flags x has))
      (other_side (value_names row) row.flags x sound.apart_flags has)

  flag_value : (x : Text) (t : Bool) → has_flag uses x ≡ t → is_among row.flags x ≡ true → one_of x rows
      ≡ Some (if has_flag uses x then codes "true" else codes "false")
  flag_value x true e has =
      let here : row_by x es ≡ Some (flag_entry x) = rw e at (flag_row x has) in
      rw (e, kept_defaults x s.rules es (flag_entry x) here)
  flag_value x false e has =
      let here : row_by x es ≡ None = rw e at (flag_row x has) in
      let by_id = same_at (arg_by_id s.rules) (λ y. Some (flag_built y)) row.flags x closes.flag_ids has in
      rw (e, flag_default x s.rules es by_id here)

  pub gives : GivesUses row uses rows
  gives = record {
    options = λ x has. value_at x (value_of uses x) (among_left (value_names row) (positional_names row) x has) (option_row x has);
    flags = λ x has. flag_value x (has_flag uses x) refl has;
    positionals = λ n has. value_at n (word_at (positional_names row) (words_in uses) n) (among_right (value_names row) (positional_names row) n has)
        (positional_row n has);
  }

  -- ---- what is required is given

  given_row : (x : Text) (o : Option Text) → is_some o ≡ true → row_by x es ≡ option_map (entry_of x) o → is_given x rows ≡ true
  given_row x (Some v) h e = rw (kept_defaults x s.rules es (entry_of x v) e)
  given_row x None h e = cc h

  needed_given : (x : Text) → is_among row.required x ≡ true → is_given x rows ≡ true
  needed_given x has =
      let among = among_left row.required row.options x has in
      let k = all_at (λ y. times uses y == 1) row.required x a.required has in
      let one : 1 ≤ times uses x = grind (arith, nat_tests) in
      given_row x (value_of uses x) (option_given row x uses a.fit (not-true _
      (all_at (λ y. not (is_among row.flags y)) (value_names row) x sound.apart_flags among)) one) (option_row x among)

  place_given : (n : Text) → is_among row.positionals n ≡ true → is_given n rows ≡ true
  place_given n has =
      given_row n (word_at (positional_names row) (words_in uses) n) (positional_given row.positionals row.optional (words_in uses) n has a.least)
      (positional_row n (among_left row.positionals row.optional n has))

  required_given : (x : Text) → is_among (row.positionals ++ row.required) x ≡ true → is_given x rows ≡ true
  required_given x has = go (is_among row.positionals x) (is_among row.required x) refl refl
    where
      go : (p q : Bool) → is_among row.positionals x ≡ p → is_among row.required x ≡ q → is_given x rows ≡ true
      go true q e f = place_given x e
      go false true e f = needed_given x f
      go false false e f = let none = among_joint row.positionals row.required x e f in cc (none, has)

  all_given : (rules : List Rule) → list_all (λ b. not b.required || is_among (row.positionals ++ row.required) b.id) rules ≡ true
      → list_all (λ b. not b.required || is_given b.id rows) rules ≡ true
  all_given [] h = refl
  all_given (b ∷ rules) h = let p = both (not b.required || is_among (row.positionals ++ row.required) b.id) _ h in
      here b.required refl p.0 (all_given rules p.1)
    where
      here : (t : Bool) → b.required ≡ t → (not b.required || is_among (row.positionals ++ row.required) b.id) ≡ true
          → list_all (λ c. not c.required || is_given c.id rows) rules ≡ true
          → list_all (λ c. not c.required || is_given c.id rows) (b ∷ rules) ≡ true
      here true e q next = let among : is_among (row.positionals ++ row.required) b.id ≡ true = rw e at q in rw (e, required_given b.id among) next
      here false e q next = rw e next

  -- ---- the walk

  run : Runs s (between 1 None []) (flat_map spelled uses) es
  run = runs row s reads uses 1 None [] (positional_names row) tt a.fit (let k = a.most in omega (arith, length-append row.positionals row.optional))
      (ap (λ (l : Lookups). l.places) reads) (ap (λ (l : Lookups). l.place_ids) reads) (uses_fresh row uses sound a)

  pub rows_are : rows_after s.rules [] (flat_map spelled uses) ≡ rows
  rows_are = ap (λ (w : Walk). finished s.rules w.held) run.walk ∙ ap (λ (r : List Entry). fold with_default r s.rules)
      (settles s.rules run.pending run.before run.known ∙ run.total)

  settled_well : settle_passes s.rules s.args_override_self (walk s.rules [] nothing_held (flat_map spelled uses)).held ≡ true
  settled_well = ap (λ (w : Walk). settle_passes s.rules s.args_override_self w.held) run.walk
      ∙ (ap (λ (b : Bool). settle_passes s.rules b (held run.pending run.before)) (ap (λ (l : Lookups). l.again) reads)
      ∙ settles_well s.rules run.pending run.before run.known)

  valid_rows : is_valid s rows false ≡ true
  valid_rows = rw (closes.help, closes.subcommand, closes.free, all_given s.rules closes.required) (or-true (s.subcommand_negates_reqs && false))

  pub passes : level_passes s [] nothing_held (flat_map spelled uses) false ≡ true
  passes = both_true run.passes (both_true settled_well (both_true closes.defaults (ap (λ (r : List Entry). is_valid s r false) rows_are ∙ valid_rows)))
