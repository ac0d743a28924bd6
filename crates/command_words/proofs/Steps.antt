-- One use more, from any state between uses.
use Rattle.std.proofs.Common.{◌≡◌, ◌+◌, ◌||◌, ℕ, Bool, true, false, List, [], ◌∷◌, ◌++◌, min, Option, Some, None, refl, ap, ◌∙◌}
use Rattle.std.specs.Prelude.{codes}
use Rattle.std.specs.Str.{bytes_eq}
use Rattle.clap.specs.Walk.{Row as Entry, Rule, Held, Walk, walked, used, arg_by_long, arg_by_index, arg_by_id, at_row, has_row, idle, option}
use Rattle.clap.specs.Walk.{is_pending, without, more_values, settled_rows}
use Rattle.clap.specs.Lexer.{usize_max}
use Rattle.clap.specs.Simple.{Shape, new_rule}
use Rattle.clap.specs.Takes.{turn_passes, settle_passes}
use Rattle.clap.specs.Values.{reading_of}
use Rattle.clap.specs.declared.builder.action.ArgAction.TheVariants.{Set, SetTrue}
use Rattle.clap.specs.declared.builder.value_parser.ValueParser.TheVariants as vp
use Rattle.clap.specs.declared.parser.matches.ValueSource.TheVariants.{CommandLine}
use Rattle.command_words.specs.Form.{Text, long}
use Rattle.command_words.proofs.Texts.{same_bytes, long_alone, long_joined, long_no_dashes, joined_no_dashes, IsPlainWord}
use Rattle.command_words.specs.Form.{is_name}
use Rattle.std.proofs.lemmas.List.{append-nil}
use Rattle.std.proofs.Math.Bool.{and-false}

-- an argument with one value, and a flag, as building leaves them
pub record Single : Type 0 where
  pub id : Text
  pub long : Option Text
  pub index : Option ℕ
  pub required : Bool

-- the argument with one value
abbrev pub rule_of_single : Single → Rule
rule_of_single s = record (new_rule s.id) {
  long = s.long;
  index = s.index;
  required = s.required;
  action = Some Set;
  range = Some (record { start_inclusive = 1; end_inclusive = 1 });
  parser = Some vp.String;
}

-- the flag
abbrev pub flag_built : Text → Rule
flag_built f = record (new_rule f) {
  long = Some f;
  action = Some SetTrue;
  range = Some (record { start_inclusive = 0; end_inclusive = 0 });
  defaults = codes "false" ∷ [];
  missing = codes "true" ∷ [];
  parser = Some vp.Bool;
}

-- the entry of a value
abbrev pub entry_of : Text → Text → Entry
entry_of id v = record { id = id; values = v ∷ []; count = None; source = Some CommandLine; reading = reading_of vp.String }

-- the entry of a flag that is there
abbrev pub flag_entry : Text → Entry
flag_entry id = record { id = id; values = codes "true" ∷ []; count = None; source = Some CommandLine; reading = reading_of vp.Bool }

-- an argument whose value was read and is used with the next word
abbrev pub Pending : Type 0
Pending = Option (Single × Text)

-- it as texts: the name and the word
abbrev pub pending_texts : Pending → Option (Text × List Text)
pending_texts None = None
pending_texts (Some q) = Some (q.0.id, q.1 ∷ [])

-- what a state holds: its rows, and what is pending
abbrev pub held : Pending → List Entry → Held
held p rows = record { rows = rows; pending = pending_texts p; skip = 0 }

-- a state between uses, at the positional with this number
abbrev pub between : ℕ → Pending → List Entry → Walk
between k p rows = record { held = held p rows; waiting = idle; position = k; is_trailing = false; stopped = None }

-- the rows with those of what is pending
abbrev pub settle : Pending → List Entry → List Entry
settle None rows = rows
settle (Some q) rows = rows ++ entry_of q.0.id q.1 ∷ []

-- what is pending is an argument of the command, and has no row yet
abbrev pub Known : List Rule → Pending → List Entry → Type 0
Known rules None rows = Unit {0}
Known rules (Some q) rows = (arg_by_id rules q.0.id ≡ Some (rule_of_single q.0)) × (has_row q.0.id rows ≡ false)

-- ---- rows

pub or_false : (a b : Bool) → (a || b) ≡ false → (a ≡ false) × (b ≡ false)
or_false true b h = cc h
or_false false b h = (refl, h)

pub row_missing : (id : Text) (change : Entry → List Entry) (missing rows : List Entry) → has_row id rows ≡ false → at_row id change missing rows ≡ rows
    ++ missing
row_missing id change missing [] h = refl
row_missing id change missing (r ∷ rs) h =
    let p = or_false (bytes_eq r.id id) _ h in rw (p.0) (ap (λ ys. r ∷ ys) (row_missing id change missing rs p.1))

nothing_removed : (id : Text) (rows : List Entry) → has_row id rows ≡ false → without id rows ≡ rows
nothing_removed id rows h = row_missing id (λ (r : Entry). []) [] rows h ∙ append-nil rows

pub used_once : (s : Single) (v : Text) (rows : List Entry) → has_row s.id rows ≡ false → used (rule_of_single s) (v ∷ []) rows ≡ rows ++ entry_of s.id v ∷ []
used_once s v rows h = rw (nothing_removed s.id rows h) (row_missing s.id (more_values CommandLine (v ∷ [])) (entry_of s.id v ∷ []) rows h)

pub flag_once : (f : Text) (rows : List Entry) → has_row f rows ≡ false → used (flag_built f) [] rows ≡ rows ++ flag_entry f ∷ []
flag_once f rows h = rw (nothing_removed f rows h) (row_missing f (more_values CommandLine (codes "true" ∷ [])) (flag_entry f ∷ []) rows h)

-- ---- what is pending settles

pub settles : (rules : List Rule) (p : Pending) (rows : List Entry) → Known rules p rows → settled_rows rules (pending_texts p) rows ≡ settle p rows
settles rules None rows h = refl
settles rules (Some q) rows h = rw (h.0) (used_once q.0 q.1 rows h.1)

pub settles_well : (rules : List Rule) (p : Pending) (rows : List Entry) → Known rules p rows → settle_passes rules false (held p rows) ≡ true
settles_well rules None rows h = refl
settles_well rules (Some q) rows h = rw (h.0, h.1) refl

-- ---- one use

module _ (rules : List Rule) (k : ℕ) (p : Pending) (rows : List Entry) (known : Known rules p rows) where
  pub joined_walks : (x v : Text) (a : Single) → is_name x ≡ true → arg_by_long rules x ≡ Some (rule_of_single a) → has_row a.id (settle p rows) ≡ false
      → walked rules [] (between k p rows) (long x ++ 61 ∷ v) ≡ between k None (settle p rows ++ entry_of a.id v ∷ [])
  unfolding walked
  joined_walks x v a name found new = rw (joined_no_dashes x v name, long_joined x v name, found, settles rules p rows known)
      (ap (λ r. between k None r) (used_once a v (settle p rows) new))

  pub flag_walks : (x : Text) → is_name x ≡ true → arg_by_long rules x ≡ Some (flag_built x) → has_row x (settle p rows) ≡ false
      → walked rules [] (between k p rows) (long x) ≡ between k None (settle p rows ++ flag_entry x ∷ [])
  unfolding walked
  flag_walks x name found new = rw (long_no_dashes x name, long_alone x name, found, settles rules p rows known)
      (ap (λ r. between k None r) (flag_once x (settle p rows) new))

  -- `--x`, which waits for a value
  pub asks : (x : Text) (a : Single) → is_name x ≡ true → arg_by_long rules x ≡ Some (rule_of_single a)
      → walked rules [] (between k p rows) (long x) ≡ record (between k None (settle p rows))
      { held = record { rows = settle p rows; pending = Some (a.id, []); skip = 0 }; waiting = option a.id }
  unfolding walked
  asks x a name found = rw (long_no_dashes x name, long_alone x name, found, settles rules p rows known) refl

  pub positional_walks : (word : Text) (a : Single) → IsPlainWord word → arg_by_index rules k ≡ Some (rule_of_single a)
      → walked rules [] (between k p rows) word ≡ between (min (k + 1) usize_max) (Some (a, word)) (settle p rows)
  unfolding walked
  positional_walks word a plain found = rw (
    plain.no_dashes,
    plain.no_long,
    plain.no_short,
    found,
    and-false (is_pending (rule_of_single a) (pending_texts p)),
    settles rules p rows known,
  ) refl

module _ (rules : List Rule) (k : ℕ) (rows : List Entry) where
  pub answers : (a : Single) (v : Text) → IsPlainWord v → arg_by_id rules a.id ≡ Some (rule_of_single a)
      → walked rules [] (record (between k None rows) { held = record { rows = rows; pending = Some (a.id, []); skip = 0 }; waiting = option a.id }) v
      ≡ between k (Some (a, v)) rows
  unfolding walked
  answers a v plain found = rw (plain.no_dashes, plain.no_long, plain.no_short, found, same_bytes a.id) refl

-- ---- each of them passes

module _ (s : Shape) (again : s.args_override_self ≡ false) (k : ℕ) (p : Pending) (rows : List Entry) (known : Known s.rules p rows) where
  pub joined_passes : (x v : Text) (a : Single) → is_name x ≡ true → arg_by_long s.rules x ≡ Some (rule_of_single a) → has_row a.id (settle p rows) ≡ false
      → turn_passes s [] (between k p rows) (long x ++ 61 ∷ v) ≡ true
  joined_passes x v a name found new =
      rw (joined_no_dashes x v name, long_joined x v name, found, again, settles_well s.rules p rows known, settles s.rules p rows known, new) refl

  pub flag_passes : (x : Text) → is_name x ≡ true → arg_by_long s.rules x ≡ Some (flag_built x) → has_row x (settle p rows) ≡ false
      → turn_passes s [] (between k p rows) (long x) ≡ true
  flag_passes x name found new =
      rw (long_no_dashes x name, long_alone x name, found, again, settles_well s.rules p rows known, settles s.rules p rows known, new) refl

  pub asks_passes : (x : Text) (a : Single) → is_name x ≡ true → arg_by_long s.rules x ≡ Some (rule_of_single a)
      → turn_passes s [] (between k p rows) (long x) ≡ true
  asks_passes x a name found = rw (long_no_dashes x name, long_alone x name, found, again, settles_well s.rules p rows known) refl

  pub positional_passes : (word : Text) (a : Single) → IsPlainWord word → arg_by_index s.rules k ≡ Some (rule_of_single a)
      → turn_passes s [] (between k p rows) word ≡ true
  positional_passes word a plain found =
      rw (
        plain.no_dashes,
        plain.no_long,
        plain.no_short,
        found,
        again,
        and-false (is_pending (rule_of_single a) (pending_texts p)),
        settles_well s.rules p rows known,
      ) refl

module _ (s : Shape) (again : s.args_override_self ≡ false) (k : ℕ) (rows : List Entry) where
  pub answer_passes : (a : Single) (v : Text) → IsPlainWord v
      → turn_passes s [] (record (between k None rows) { held = record { rows = rows; pending = Some (a.id, []); skip = 0 }; waiting = option a.id }) v ≡ true
  answer_passes a v plain = rw (plain.no_dashes, plain.no_long, plain.no_short) refl
