-- The call that is found is the call that the words are.
use Rattle.std.proofs.Common.{◌≡◌, Bool, true, false, List, [], ◌∷◌, Option, Some, None, option_map, refl, sym, ap, ap₂, ◌∙◌, subst}
use Rattle.std.proofs.Common.{Result, Ok, Err, IfOk}
use Rattle.std.specs.Prelude.{IfSome, IfNone}
use Rattle.std.specs.List.{list_all, flat_map}
use Rattle.std.specs.Str.{bytes_eq}
use Rattle.std.proofs.lemmas.Slice.Eq.{bytes_eq-Decides}
use Rattle.std.specs.Option.{option_and_then}
use Rattle.clap.proofs.WalkLemmas.{both}
use Rattle.command_words.specs.declared.forms.Call.{Call}
use Rattle.command_words.specs.Form.{Text, Row, Use, spelled, fits, row_named, is_complete, is_clear, IsCall, IsOnlyCall, HasForm}
use Rattle.command_words.specs.Step.{uses_of}
use Rattle.command_words.specs.Views.{call_of, call_by, only_complete, row_of, uses_in}
use Rattle.command_words.proofs.Law.{read_back, spells, Spells}
use Rattle.std.specs.Cmp.Derive.{both_true}

-- the words are this call, or have no form
abbrev pub Says : List Row → List Text → Option (Row × List Use) → Type 0
Says table words None = HasForm table words → ⊥
Says table words (Some p) = IsCall table words p.0 p.1

pub row_at : (p : Row → Bool) (table : List Row) (name : Text) (row : Row) → list_all p table ≡ true → row_named table name ≡ Some row → (p row ≡ true)
    × (row.name ≡ name)
row_at p [] name row e h = cc h
row_at p (r ∷ rs) name row e h = go (bytes_eq r.name name) refl (row_at p rs name row (both (p r) _ e).1)
  where
    go : (t : Bool) → bytes_eq r.name name ≡ t → (row_named rs name ≡ Some row → (p row ≡ true) × (row.name ≡ name)) → (p row ≡ true) × (row.name ≡ name)
    go true same next =
        let found : Some r ≡ Some row = rw same at h in
        let is : r ≡ row = cc found in
        (ap p (sym is) ∙ (both (p r) _ e).0, ap (λ (x : Row). x.name) (sym is) ∙ (bytes_eq-Decides r.name name).0 same)
    go false other next = next (rw other at h)

module _ (table : List Row) (clear : list_all is_clear table ≡ true) (name : Text) (words : List Text) where
  -- what any reading of these words is
  same_row : (r : Row) (us : List Use) → IsCall table (name ∷ words) r us → row_named table name ≡ Some r
  same_row r us c = let e : name ≡ r.name = cc (c.spelling) in ap (row_named table) e ∙ c.command

  same_uses : (r : Row) (us : List Use) → IsCall table (name ∷ words) r us → uses_of r None words ≡ Some us
  same_uses r us c =
      let e : words ≡ flat_map spelled us = cc (c.spelling) in
      let k = (row_at is_clear table r.name r clear c.command).0 in
      ap (uses_of r None) e ∙ read_back r k us (both (list_all (fits r) us) _ c.allowed).0

  complete : (r : Row) (us : List Use) → IsCall table (name ∷ words) r us → is_complete r us ≡ true
  complete r us c = (both (list_all (fits r) us) _ c.allowed).1

  with_uses : (row : Row) (us : List Use) → row_named table name ≡ Some row → uses_of row None words ≡ Some us → (t : Bool) → is_complete row us ≡ t
      → Says table (name ∷ words) (option_map (λ uses. (row, uses)) (only_complete row us))
  with_uses row us e u true t =
      let s = subst (Spells row words) u (spells row words None tt) in
      let n = (row_at is_clear table name row clear e).1 in
      rw t (record {
        command = ap (row_named table) n ∙ e;
        spelling = ap (λ (x : Text). x ∷ words) (sym n) ∙ ap (λ (ws : List Text). row.name ∷ ws) (sym s.0);
        allowed = both_true s.1 t;
      })
  with_uses row us e u false t = rw t (λ h.
      let r : Some row ≡ Some h.0 = sym e ∙ same_row h.0 h.1 h.2 in
      let is : row ≡ h.0 = cc r in
      let v : Some us ≡ Some h.1 = sym u ∙ (ap (λ (x : Row). uses_of x None words) is ∙ same_uses h.0 h.1 h.2) in
      let them : us ≡ h.1 = cc v in
      let k : is_complete row us ≡ true = ap₂ is_complete is them ∙ complete h.0 h.1 h.2 in
      cc (t, k))

  with_row : (row : Row) (o : Option (List Use)) → row_named table name ≡ Some row → uses_of row None words ≡ o
      → Says table (name ∷ words) (option_map (λ uses. (row, uses)) (option_and_then (only_complete row) o))
  with_row row None e u = λ h.
      let r : Some row ≡ Some h.0 = sym e ∙ same_row h.0 h.1 h.2 in
      let is : row ≡ h.0 = cc r in
      let v : None ≡ Some h.1 = sym u ∙ (ap (λ (x : Row). uses_of x None words) is ∙ same_uses h.0 h.1 h.2) in
      cc v
  with_row row (Some us) e u = with_uses row us e u (is_complete row us) refl

  with_name : (o : Option Row) → row_named table name ≡ o → Says table (name ∷ words) (option_and_then (λ row. call_by row words) o)
  with_name None e = λ h. let v : None ≡ Some h.0 = sym e ∙ same_row h.0 h.1 h.2 in cc v
  with_name (Some row) e = with_row row (uses_of row None words) e refl

-- what the steps read is what the words are
pub says : (table : List Row) → list_all is_clear table ≡ true → (words : List Text) → Says table words (call_of table words)
says table clear [] = λ h. let bad = h.2.spelling in cc bad
says table clear (name ∷ words) = with_name table clear name words (row_named table name) refl

-- the words are one call at most
pub one_call : (table : List Row) → list_all is_clear table ≡ true → (words : List Text) (row other : Row) (uses others : List Use)
    → IsCall table words row uses → IsCall table words other others
    → (other ≡ row) × (others ≡ uses)
one_call table clear [] row other uses others a b = let bad = a.spelling in cc bad
one_call table clear (name ∷ words) row other uses others a b =
    let r : Some row ≡ Some other = sym (same_row table clear name words row uses a) ∙ same_row table clear name words other others b in
    let is : other ≡ row = cc r in
    let u : Some uses ≡ Some others = sym (same_uses table clear name words row uses a)
    ∙ (ap (λ (x : Row). uses_of x None words) (sym is) ∙ same_uses table clear name words other others b) in
    let them : others ≡ uses = cc u in
    (is, them)

-- what the words' reading tells, as the clauses of the code say it
module _ (table : List Row) (clear : list_all is_clear table ≡ true) (words : List Text) where
  abbrev IsReadCall : Option Call → Type 0
  IsReadCall o = option_map (λ c. (row_of c.row.now, uses_in c.uses)) o ≡ call_of table words

  pub is_the_call : {E : Type 0} (r : Result (Option Call) E) → IfOk r IsReadCall
      → IfOk r (λ o. IfSome o (λ c. IsCall table words (row_of c.row.now) (uses_in c.uses)))
  is_the_call (Ok None) h = tt
  is_the_call (Ok (Some c)) h = subst (Says table words) (sym h) (says table clear words)
  is_the_call (Err x) h = tt

  pub is_only_call : {E : Type 0} (r : Result (Option Call) E) → IfOk r IsReadCall
      → IfOk r (λ o. IfSome o (λ c. IsOnlyCall table words (row_of c.row.now) (uses_in c.uses)))
  is_only_call (Ok None) h = tt
  is_only_call (Ok (Some c)) h = λ other others b.
      let a : IsCall table words (row_of c.row.now) (uses_in c.uses) = subst (Says table words) (sym h) (says table clear words) in
      one_call table clear words (row_of c.row.now) other (uses_in c.uses) others a b
  is_only_call (Err x) h = tt

  pub has_no_form : {E : Type 0} (r : Result (Option Call) E) → IfOk r IsReadCall → IfOk r (λ o. IfNone o (HasForm table words → ⊥))
  has_no_form (Ok None) h = subst (Says table words) (sym h) (says table clear words)
  has_no_form (Ok (Some c)) h = tt
  has_no_form (Err x) h = tt
