-- The steps of the loop over the bytes.
use Rattle.std.proofs.Common.{◌≡◌, ◌<◌, ◌≤◌, ◌+◌, ℕ, List, [], ◌∷◌, ◌++◌, length, Option, Some, None, option_map, map, refl, sym, ap, ◌∙◌, drop}
use Rattle.std.proofs.Common.{get_or, drop-cons, add-one, append_assoc}
use Rattle.std.proofs.lemmas.List.{drop_all}
use Rattle.std.specs.Prelude.{true, false}
use Rattle.std.specs.Global.{Vec}
use Rattle.command_words.specs.declared.lists.Position.{Position}
use Rattle.command_words.specs.declared.lists.Position.TheVariants.{Due, Plain, Inside, Closed}
use Rattle.command_words.specs.declared.lists.Next.{Next}
use Rattle.command_words.specs.declared.lists.Next.TheVariants.{Take, Pass, End, Bad}
use Rattle.command_words.specs.Walk.{Names, names_of, next_of, is_none, after_byte, with_name, at_end, can_end}

-- these names before the others
abbrev pub prepend : Names → Option Names → Option Names
prepend names = option_map (λ more. names ++ more)

pub byte_here : (bytes : List ℕ) (i b : ℕ) → i < length bytes → b ≡ get_or bytes i 0 → drop i bytes ≡ b ∷ drop (i + 1) bytes
byte_here bytes i b lt is = rw (add-one, drop-cons bytes i 0, is) refl

pub no_byte : (bytes : List ℕ) (i : ℕ) → length bytes ≤ i → drop i bytes ≡ []
no_byte bytes i le = drop_all i bytes le

reads : (place : Position) (name : List ℕ) (b : ℕ) (bs : List ℕ) → names_of place name (b ∷ bs)
    ≡ after_byte (next_of place (is_none name) b) name b (λ p n. names_of p n bs)
unfolding names_of
reads place name b bs = refl

finishes : (place : Position) (name : List ℕ) → names_of place name [] ≡ at_end place name
unfolding names_of
finishes place name = refl

push_name : (names : Names) (name : List ℕ) (o : Option Names) → prepend names (with_name name o) ≡ prepend (names ++ name ∷ []) o
push_name names name None = refl
push_name names name (Some more) = ap (λ (ws : Names). Some ws) (sym (append_assoc names (name ∷ []) more))

module _ (names : Names) (place : Position) (name : List ℕ) (b : ℕ) (bytes rest : List ℕ) (all : Option Names)
    (so_far : all ≡ prepend names (names_of place name bytes)) (here : bytes ≡ b ∷ rest) where
  step : (n : Next) → n ≡ next_of place (is_none name) b → all ≡ prepend names (after_byte n name b (λ p m. names_of p m rest))
  step n e = so_far ∙ ap (λ (o : Option Names). prepend names o) (ap (names_of place name) here
      ∙ (reads place name b rest ∙ ap (λ (t : Next). after_byte t name b (λ p m. names_of p m rest)) (sym e)))

  pub takes : (p : Position) → Take p ≡ next_of place (is_none name) b → all ≡ prepend names (names_of p (name ++ b ∷ []) rest)
  takes p e = step (Take p) e

  pub passes : (p : Position) → Pass p ≡ next_of place (is_none name) b → all ≡ prepend names (names_of p name rest)
  passes p e = step (Pass p) e

  pub ends_name : End ≡ next_of place (is_none name) b → all ≡ prepend (names ++ name ∷ []) (names_of Due [] rest)
  ends_name e = step End e ∙ push_name names name (names_of Due [] rest)

  pub stops : Bad ≡ next_of place (is_none name) b → all ≡ None
  stops e = step Bad e

pub at_last : (names : Names) (place : Position) (name bytes : List ℕ) (all : Option Names) → all ≡ prepend names (names_of place name bytes) → bytes ≡ []
    → all ≡ prepend names (at_end place name)
at_last names place name bytes all so_far none = so_far ∙ ap (λ (o : Option Names). prepend names o) (ap (names_of place name) none ∙ finishes place name)

pub no_end : (p : Position) (name : List ℕ) → can_end p ≡ false → at_end p name ≡ None
no_end Due name h = refl
no_end Plain name h = cc h
no_end Inside name h = refl
no_end Closed name h = cc h

pub an_end : (p : Position) (name : List ℕ) → can_end p ≡ true → at_end p name ≡ Some (name ∷ [])
an_end Due name h = cc h
an_end Plain name h = refl
an_end Inside name h = cc h
an_end Closed name h = refl

pub names_pushed : (items old : List (Vec ℕ)) (v : Vec ℕ) → items ≡ old ++ v ∷ [] → map (λ (n : Vec ℕ). n.items) items ≡ map (λ (n : Vec ℕ). n.items) old
    ++ v.items ∷ []
names_pushed items [] v e = ap (map (λ (n : Vec ℕ). n.items)) e
names_pushed items (x ∷ xs) v e = ap (map (λ (n : Vec ℕ). n.items)) e ∙ ap (λ (ns : Names). x.items ∷ ns) (names_pushed (xs ++ v ∷ []) xs v refl)
