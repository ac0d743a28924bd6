-- A program of one level of commands on words of the form.
use Rattle.std.proofs.Common.{◌≡◌, ◌==◌, ◌||◌, Bool, true, false, not, List, [], ◌∷◌, ◌++◌, map, Option, Some, option_map, is_some, refl, sym, ap}
use Rattle.std.proofs.Common.{◌∙◌, subst, append_assoc}
use Rattle.std.specs.Prelude.{fold, codes, find}
use Rattle.std.specs.Str.{bytes_eq}
use Rattle.std.specs.List.{list_all, flat_map}
use Rattle.std.specs.Option.{option_map_or}
use Rattle.clap.specs.Walk.{Row as Entry, Rule, Names, Walk, walk, walk_from, walked, idle, subcommand_met, nothing_held, rows_after, finished}
use Rattle.clap.specs.Walk.{answers_to, arg_by_id, stop_after}
use Rattle.clap.specs.Simple.{App, Shape, names_of, label_of, entered, rows_at}
use Rattle.clap.specs.Takes.{walk_passes, level_passes, default_passes, is_valid, built_takes, entered_passes, settle_passes}
use Rattle.command_words.specs.Form.{Text, Row, Use, spelled, is_among, value_names, positional_names, row_named, is_allowed}
use Rattle.command_words.proofs.Steps.{flag_built}
use Rattle.command_words.proofs.Uses.{Lookups, lookups, wanted_lookups, Reads}
use Rattle.command_words.proofs.Counts.{Sound, n_named, allowed}
use Rattle.command_words.specs.Gives.{GivesUses}
use Rattle.command_words.proofs.Finds.{adds_none}
use Rattle.command_words.proofs.Level.{Closes, gives, rows_are, passes}
use Rattle.std.proofs.lemmas.List.{append-nil}
use Rattle.std.specs.Cmp.Derive.{both_true}

-- what clap makes of a row, as data that computes at a table that is written out
pub record Seen : Type 0 where
  pub name : Text
  pub lookups : Lookups
  pub flag_ids : List (Option Rule)
  pub defaults : Bool
  pub help : Bool
  pub subcommand : Bool
  pub free : Bool
  pub required : Bool
  pub undefaulted : Bool
  pub apart_names : Bool
  pub once : Bool
  pub apart_flags : Bool
  pub no_help : Bool
  pub met : Option Text
  pub found : Option Shape

-- what it makes of a row, whose command in the program is the leaf
abbrev pub seen : App → (Row → Shape) → Row → Seen
seen b leaf row = let s = leaf row in record {
  name = s.name;
  lookups = lookups row s;
  flag_ids = map (arg_by_id s.rules) row.flags;
  defaults = list_all default_passes s.rules;
  help = s.arg_required_else_help;
  subcommand = s.subcommand_required;
  free = list_all (λ a. a.is_free) s.rules;
  required = list_all (λ a. not a.required || is_among (row.positionals ++ row.required) a.id) s.rules;
  undefaulted = list_all (λ x. list_all (adds_none x) s.rules) (value_names row ++ positional_names row);
  apart_names = list_all (λ n. not (is_among (value_names row ++ row.flags) n)) (positional_names row);
  once = list_all (λ n. n_named n (positional_names row) == 1) (positional_names row);
  apart_flags = list_all (λ x. not (is_among row.flags x)) (value_names row);
  no_help = bytes_eq row.name (codes "help");
  met = subcommand_met (names_of b) idle row.name;
  found = find (λ t. answers_to row.name (label_of t)) b.subs;
}

-- what it is to make of it
abbrev pub wanted : (Row → Shape) → Row → Seen
wanted leaf row = record {
  name = row.name;
  lookups = wanted_lookups row;
  flag_ids = map (λ x. Some (flag_built x)) row.flags;
  defaults = true;
  help = false;
  subcommand = false;
  free = true;
  required = true;
  undefaulted = true;
  apart_names = true;
  once = true;
  apart_flags = true;
  no_help = false;
  met = Some row.name;
  found = Some (leaf row);
}

module _ (b : App) (leaf : Row → Shape) (row : Row) (e : seen b leaf row ≡ wanted leaf row) where
  pub reads_of : Reads row (leaf row)
  reads_of = ap (λ (x : Seen). x.lookups) e

  pub closes_of : Closes row (leaf row)
  closes_of = record {
    defaults = ap (λ (x : Seen). x.defaults) e;
    help = ap (λ (x : Seen). x.help) e;
    subcommand = ap (λ (x : Seen). x.subcommand) e;
    free = ap (λ (x : Seen). x.free) e;
    required = ap (λ (x : Seen). x.required) e;
    flag_ids = ap (λ (x : Seen). x.flag_ids) e;
    undefaulted = ap (λ (x : Seen). x.undefaulted) e;
  }

  pub sound_of : Sound row
  sound_of = record {
    apart_names = ap (λ (x : Seen). x.apart_names) e;
    once = ap (λ (x : Seen). x.once) e;
    apart_flags = ap (λ (x : Seen). x.apart_flags) e;
  }

pub named_same : {X : Type 0} (f g : Row → X) (rows : List Row) (name : Text) (row : Row) → map f rows ≡ map g rows → row_named rows name ≡ Some row → f row
    ≡ g row
named_same f g [] name row e h = cc h
named_same f g (r ∷ rs) name row e h = let rest : map f rs ≡ map g rs = cc e in go (bytes_eq r.name name) refl (named_same f g rs name row rest)
  where
    go : (t : Bool) → bytes_eq r.name name ≡ t → (row_named rs name ≡ Some row → f row ≡ g row) → f row ≡ g row
    go true same next = let is : Some r ≡ Some row = rw same at h in let here : f r ≡ g r = cc e in cc
    go false other next = next (rw other at h)

-- ---- the walk above stops at the command

stops_here : (rules : List Rule) (names : Names) (w : Walk) (name : Text) (before words : List Text)
    → fold (walked rules names) (record w { stopped = Some (name, before) }) words ≡ record w { stopped = Some (name, before ++ words) }
unfolding walked
stops_here rules names w name before [] = ap (λ (ws : List Text). record w { stopped = Some (name, ws) }) (sym (append-nil before))
stops_here rules names w name before (word ∷ words) =
    stops_here rules names w name (before ++ word ∷ []) words ∙ ap (λ (ws : List Text). record w { stopped = Some (name, ws) })
    (append_assoc before (word ∷ []) words)

stopped_passes : (s : Shape) (names : Names) (w : Walk) (name : Text) (before words : List Text)
    → walk_passes s names (record w { stopped = Some (name, before) }) words ≡ true
unfolding walk_passes walked
stopped_passes s names w name before [] = refl
stopped_passes s names w name before (word ∷ words) = stopped_passes s names w name (before ++ word ∷ []) words

abbrev stopped_at : Text → List Text → Walk
stopped_at name words = record (walk_from nothing_held) { stopped = Some (name, words) }

first_walks : (rules : List Rule) (names : Names) (name : Text) → subcommand_met names idle name ≡ Some name
    → walked rules names (walk_from nothing_held) name ≡ stopped_at name []
unfolding walked
first_walks rules names name met = rw met refl

pub top_walks : (rules : List Rule) (names : Names) (name : Text) (words : List Text) → subcommand_met names idle name ≡ Some name
    → walk rules names nothing_held (name ∷ words) ≡ stopped_at name words
top_walks rules names name words met =
    ap (λ (w : Walk). fold (walked rules names) w words) (first_walks rules names name met) ∙ stops_here rules names (walk_from nothing_held) name [] words

top_passes : (s : Shape) (names : Names) (name : Text) (words : List Text) → bytes_eq name (codes "help") ≡ false → subcommand_met names idle name ≡ Some name
    → walk_passes s names (walk_from nothing_held) (name ∷ words) ≡ true
unfolding walk_passes
top_passes s names name words no_help met =
    both_true (rw (met, no_help) refl)
    (ap (λ (w : Walk). walk_passes s names w words) (first_walks s.rules names name met) ∙ stopped_passes s names (walk_from nothing_held) name [] words)

-- the top asks nothing of words that name a command
pub record TopIsFree (s : Shape) : Type 0 where
  pub defaults : list_all default_passes s.rules ≡ true
  pub valid : is_valid s (finished s.rules nothing_held) true ≡ true

module _ (b : App) (leaf : Row → Shape) (free : TopIsFree b.top) (table : List Row) (all : map (seen b leaf) table ≡ map (wanted leaf) table)
    (row : Row) (uses : List Use) (command : row_named table row.name ≡ Some row) (allows : is_allowed row uses ≡ true) where
  here : seen b leaf row ≡ wanted leaf row
  here = named_same (seen b leaf) (wanted leaf) table row.name row all command

  abbrev words : List Text
  words = row.name ∷ flat_map spelled uses

  walks : walk b.top.rules (names_of b) nothing_held words ≡ stopped_at row.name (flat_map spelled uses)
  walks = top_walks b.top.rules (names_of b) row.name (flat_map spelled uses) (ap (λ (x : Seen). x.met) here)

  found : find (λ t. answers_to row.name (label_of t)) b.subs ≡ Some (leaf row)
  found = ap (λ (x : Seen). x.found) here

  abbrev pub rows : List Entry
  rows = rows_after (leaf row).rules [] (flat_map spelled uses)

  pub found_below : entered b (stop_after b.top.rules (names_of b) words) ≡ Some (row.name, rows)
  found_below =
      ap (λ (w : Walk). entered b w.stopped) walks
      ∙ (ap (λ (o : Option Shape). option_map (λ s. rows_at s (flat_map spelled uses)) o) found ∙ ap (λ (x : Seen). Some (x.name, rows)) here)

  pub gives_uses : GivesUses row uses rows
  gives_uses = subst (λ (r : List Entry). GivesUses row uses r)
      (sym (rows_are row (leaf row) (reads_of b leaf row here) (closes_of b leaf row here) (sound_of b leaf row here) uses (allowed row uses allows)))
      (gives row (leaf row) (reads_of b leaf row here) (closes_of b leaf row here) (sound_of b leaf row here) uses (allowed row uses allows))

  below : entered_passes b (stop_after b.top.rules (names_of b) words) ≡ true
  below =
      ap (λ (w : Walk). entered_passes b w.stopped) walks
      ∙ (ap (λ (o : Option Shape). option_map_or (λ s. level_passes s [] nothing_held (flat_map spelled uses) false) o true) found
      ∙ passes row (leaf row) (reads_of b leaf row here) (closes_of b leaf row here) (sound_of b leaf row here) uses (allowed row uses allows))

  above : level_passes b.top (names_of b) nothing_held words true ≡ true
  above =
      both_true (top_passes b.top (names_of b) row.name (flat_map spelled uses) (ap (λ (x : Seen). x.no_help) here) (ap (λ (x : Seen). x.met) here))
      (both_true (ap (λ (w : Walk). settle_passes b.top.rules b.top.args_override_self w.held) walks)
      (both_true free.defaults (ap (λ (w : Walk). is_valid b.top (finished b.top.rules w.held) true) walks ∙ free.valid)))

  pub takes_words : built_takes b nothing_held words ≡ true
  takes_words = both_true below (ap (λ (o : Option (Text × List Entry)). level_passes b.top (names_of b) nothing_held words (is_some o)) found_below ∙ above)
