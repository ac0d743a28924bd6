-- All the uses, in any order.
use Rattle.std.proofs.Common.{◌≡◌, ◌≤◌, ◌+◌, ◌&&◌, ℕ, Bool, true, false, not, List, [], ◌∷◌, ◌++◌, min, length, map, Option, Some, None, refl, sym}
use Rattle.std.proofs.Common.{ap, ◌∙◌, subst, arith, append_assoc}
use Rattle.std.specs.Prelude.{fold}
use Rattle.std.specs.Str.{bytes_eq}
use Rattle.std.specs.List.{list_all, flat_map}
use Rattle.std.proofs.lemmas.Slice.Eq.{bytes_eq-Decides}
use Rattle.clap.specs.Walk.{Row as Entry, Rule, Walk, walked, arg_by_long, arg_by_index, arg_by_id, has_row}
use Rattle.clap.specs.Lexer.{usize_max}
use Rattle.clap.specs.Simple.{Shape}
use Rattle.clap.specs.Takes.{turn_passes, walk_passes}
use Rattle.clap.proofs.WalkLemmas.{both}
use Rattle.command_words.specs.Form.{Text, Row, Use, positional, apart, in_one, flag, long, spelled, fits, is_among, value_names, positional_names, words_in}
use Rattle.command_words.specs.Form.{is_value, is_positional}
use Rattle.command_words.proofs.Texts.{value_word, positional_word}
use Rattle.command_words.proofs.Names.{all_at, among_left, among_right}
use Rattle.command_words.specs.Form.{is_name}
use Rattle.command_words.proofs.Steps.{Single, rule_of_single, flag_built, entry_of, flag_entry, Pending, between, settle, Known, joined_walks, joined_passes}
use Rattle.command_words.proofs.Steps.{flag_walks, flag_passes, asks, asks_passes, answers, answer_passes, positional_walks, positional_passes}
use Rattle.std.proofs.lemmas.List.{append-nil}
use Rattle.std.proofs.lemmas.Bool.{not-true}

-- ---- what clap finds for the names of a row

-- the option x of a row
abbrev pub single_named : Row → Text → Single
single_named row x = record { id = x; long = Some x; index = None; required = is_among row.required x }

-- the positional of a number and a name
abbrev pub single_at : Row → ℕ × Text → Single
single_at row q = record { id = q.1; long = None; index = Some q.0; required = is_among row.positionals q.1 }

-- names with their numbers, from k on
abbrev pub numbered : ℕ → List Text → List (ℕ × Text)
numbered k [] = []
numbered k (n ∷ names) = (k, n) ∷ numbered (min (k + 1) usize_max) names

-- whether arguments override themselves and names are names, and the arguments found for the names
pub record Lookups : Type 0 where
  pub again : Bool
  pub names : Bool
  pub longs : List (Option Rule)
  pub ids : List (Option Rule)
  pub flags : List (Option Rule)
  pub places : List (Option Rule)
  pub place_ids : List (Option Rule)

-- what a command finds for the names of a row
abbrev pub lookups : Row → Shape → Lookups
lookups row s = record {
  again = s.args_override_self;
  names = list_all is_name (value_names row ++ row.flags);
  longs = map (arg_by_long s.rules) (value_names row);
  ids = map (arg_by_id s.rules) (value_names row);
  flags = map (arg_by_long s.rules) row.flags;
  places = map (λ (q : ℕ × Text). arg_by_index s.rules q.0) (numbered 1 (positional_names row));
  place_ids = map (λ (q : ℕ × Text). arg_by_id s.rules q.1) (numbered 1 (positional_names row));
}

-- what it is to find: for each name its own argument
abbrev pub wanted_lookups : Row → Lookups
wanted_lookups row = record {
  again = false;
  names = true;
  longs = map (λ x. Some (rule_of_single (single_named row x))) (value_names row);
  ids = map (λ x. Some (rule_of_single (single_named row x))) (value_names row);
  flags = map (λ x. Some (flag_built x)) row.flags;
  places = map (λ q. Some (rule_of_single (single_at row q))) (numbered 1 (positional_names row));
  place_ids = map (λ q. Some (rule_of_single (single_at row q))) (numbered 1 (positional_names row));
}

-- the command finds what it is to find
abbrev pub Reads : Row → Shape → Type 0
Reads row s = lookups row s ≡ wanted_lookups row

-- ---- lists of names

-- functions that agree on all names agree on each that is among them
pub same_at : {X : Type 0} (f g : Text → X) (names : List Text) (x : Text) → map f names ≡ map g names → is_among names x ≡ true → f x ≡ g x
same_at f g [] x e h = cc h
same_at f g (y ∷ ys) x e h = let rest : map f ys ≡ map g ys = cc e in go (bytes_eq y x) refl (same_at f g ys x rest)
  where
    go : (t : Bool) → bytes_eq y x ≡ t → (is_among ys x ≡ true → f x ≡ g x) → f x ≡ g x
    go true same next = let is : y ≡ x = (bytes_eq-Decides y x).0 same in let here : f y ≡ g y = cc e in cc
    go false other next = next (rw other at h)

-- the entries of the uses, where the positionals have these names
abbrev pub entries : List Text → List Use → List Entry
entries names [] = []
entries [] (positional w ∷ uses) = entries [] uses
entries (n ∷ names) (positional w ∷ uses) = entry_of n w ∷ entries names uses
entries names (apart x v ∷ uses) = entry_of x v ∷ entries names uses
entries names (in_one x v ∷ uses) = entry_of x v ∷ entries names uses
entries names (flag x ∷ uses) = flag_entry x ∷ entries names uses

-- no entry has the id of one before it
abbrev pub fresh : List Entry → List Entry → Bool
fresh rows [] = true
fresh rows (e ∷ es) = not (has_row e.id rows) && fresh (rows ++ e ∷ []) es

-- ---- from a state between uses, the words are taken, and these rows are there at the end
pub record Runs (s : Shape) (w : Walk) (words : List Text) (rows : List Entry) : Type 0 where
  pub place : ℕ
  pub pending : Pending
  pub before : List Entry
  pub walk : fold (walked s.rules []) w words ≡ between place pending before
  pub known : Known s.rules pending before
  pub total : settle pending before ≡ rows
  pub passes : walk_passes s [] w words ≡ true

pub more : (s : Shape) (w next : Walk) (word : Text) (words : List Text) (rows : List Entry) → walked s.rules [] w word ≡ next → turn_passes s [] w word
    ≡ true → Runs s next words rows
    → Runs s w (word ∷ words) rows
unfolding walk_passes
more s w next word words rows e pass r = record {
  place = r.place;
  pending = r.pending;
  before = r.before;
  walk = ap (λ (v : Walk). fold (walked s.rules []) v words) e ∙ r.walk;
  known = r.known;
  total = r.total;
  passes = rw (pass, e) r.passes;
}

pub moved : {s : Shape} {w : Walk} {words : List Text} {a b : List Entry} → a ≡ b → Runs s w words a → Runs s w words b
moved {s = s} {w = w} {words = words} e r = subst (λ rows. Runs s w words rows) e r

module _ (row : Row) (s : Shape) (reads : Reads row s) where
  again : s.args_override_self ≡ false
  again = ap (λ (l : Lookups). l.again) reads

  named : (x : Text) → is_among (value_names row ++ row.flags) x ≡ true → is_name x ≡ true
  named x has = all_at is_name (value_names row ++ row.flags) x (ap (λ (l : Lookups). l.names) reads) has

  by_long : (x : Text) → is_among (value_names row) x ≡ true → arg_by_long s.rules x ≡ Some (rule_of_single (single_named row x))
  by_long x has = same_at (arg_by_long s.rules) (λ y. Some (rule_of_single (single_named row y))) (value_names row) x (ap (λ (l : Lookups). l.longs) reads) has

  pub runs : (uses : List Use) (k : ℕ) (p : Pending) (rows : List Entry) (names : List Text) → Known s.rules p rows → list_all (fits row) uses ≡ true
      → length (words_in uses) ≤ length names
      → map (λ (q : ℕ × Text). arg_by_index s.rules q.0) (numbered k names) ≡ map (λ q. Some (rule_of_single (single_at row q))) (numbered k names)
      → map (λ (q : ℕ × Text). arg_by_id s.rules q.1) (numbered k names) ≡ map (λ q. Some (rule_of_single (single_at row q))) (numbered k names)
      → fresh (settle p rows) (entries names uses) ≡ true
      → Runs s (between k p rows) (flat_map spelled uses) (settle p rows ++ entries names uses)
  unfolding walk_passes
  runs [] k p rows names known fit enough at ids new = record {
    place = k;
    pending = p;
    before = rows;
    walk = refl;
    known = known;
    total = sym (append-nil (settle p rows));
    passes = refl;
  }
  runs (positional w ∷ uses) k p rows [] known fit enough at ids new = absurd (omega arith)
  runs (positional w ∷ uses) k p rows (n ∷ names) known fit enough at ids new =
      let f = both (is_positional w) _ fit in
      let e = both (not (has_row n (settle p rows))) _ new in
      let plain = positional_word w f.0 in
      let a : Single = single_at row (k, n) in
      let here : arg_by_index s.rules k ≡ Some (rule_of_single a) = cc at in
      let here_id : arg_by_id s.rules n ≡ Some (rule_of_single a) = cc ids in
      let at_rest : map (λ (q : ℕ × Text). arg_by_index s.rules q.0) (numbered (min (k + 1) usize_max) names)
      ≡ map (λ q. Some (rule_of_single (single_at row q))) (numbered (min (k + 1) usize_max) names) = cc at in
      let ids_rest : map (λ (q : ℕ × Text). arg_by_id s.rules q.1) (numbered (min (k + 1) usize_max) names)
      ≡ map (λ q. Some (rule_of_single (single_at row q))) (numbered (min (k + 1) usize_max) names) = cc ids in
      let rest = runs uses (min (k + 1) usize_max) (Some (a, w)) (settle p rows) names (here_id, not-true _ e.0) f.1 (omega arith) at_rest ids_rest e.1 in
      more s _ _ w _ _ (positional_walks s.rules k p rows known w a plain here) (positional_passes s again k p rows known w a plain here)
      (moved (append_assoc (settle p rows) (entry_of n w ∷ []) (entries names uses)) rest)
  runs (apart x v ∷ uses) k p rows names known fit enough at ids new =
      let f = both (is_among (value_names row) x && is_value v) _ fit in
      let g = both (is_among (value_names row) x) _ f.0 in
      let e = both (not (has_row x (settle p rows))) _ new in
      let a : Single = single_named row x in
      let plain = value_word v g.1 in
      let name : is_name x ≡ true = named x (among_left (value_names row) row.flags x g.0) in
      let found : arg_by_long s.rules x ≡ Some (rule_of_single a) = by_long x g.0 in
      let by_id : arg_by_id s.rules x ≡ Some (rule_of_single a) = same_at (arg_by_id s.rules) (λ y. Some (rule_of_single (single_named row y)))
      (value_names row) x (ap (λ (l : Lookups). l.ids) reads) g.0 in
      let rest = runs uses k (Some (a, v)) (settle p rows) names (by_id, not-true _ e.0) f.1 enough at ids e.1 in
      more s _ _ (long x) _ _ (asks s.rules k p rows known x a name found) (asks_passes s again k p rows known x a name found)
      (more s _ _ v _ _ (answers s.rules k (settle p rows) a v plain by_id) (answer_passes s again k (settle p rows) a v plain)
      (moved (append_assoc (settle p rows) (entry_of x v ∷ []) (entries names uses)) rest))
  runs (in_one x v ∷ uses) k p rows names known fit enough at ids new =
      let f = both (is_among (value_names row) x && is_value v) _ fit in
      let g = both (is_among (value_names row) x) _ f.0 in
      let e = both (not (has_row x (settle p rows))) _ new in
      let a : Single = single_named row x in
      let name : is_name x ≡ true = named x (among_left (value_names row) row.flags x g.0) in
      let found : arg_by_long s.rules x ≡ Some (rule_of_single a) = by_long x g.0 in
      let rest = runs uses k None (settle p rows ++ entry_of x v ∷ []) names tt f.1 enough at ids e.1 in
      more s _ _ (long x ++ 61 ∷ v) _ _ (joined_walks s.rules k p rows known x v a name found (not-true _ e.0))
      (joined_passes s again k p rows known x v a name found (not-true _ e.0))
      (moved (append_assoc (settle p rows) (entry_of x v ∷ []) (entries names uses)) rest)
  runs (flag x ∷ uses) k p rows names known fit enough at ids new =
      let f = both (is_among row.flags x) _ fit in
      let e = both (not (has_row x (settle p rows))) _ new in
      let name : is_name x ≡ true = named x (among_right (value_names row) row.flags x f.0) in
      let found : arg_by_long s.rules x ≡ Some (flag_built x) = same_at (arg_by_long s.rules) (λ y. Some (flag_built y)) row.flags x
      (ap (λ (l : Lookups). l.flags) reads) f.0 in
      let rest = runs uses k None (settle p rows ++ flag_entry x ∷ []) names tt f.1 enough at ids e.1 in
      more s _ _ (long x) _ _ (flag_walks s.rules k p rows known x name found (not-true _ e.0))
      (flag_passes s again k p rows known x name found (not-true _ e.0))
      (moved (append_assoc (settle p rows) (flag_entry x ∷ []) (entries names uses)) rest)
