-- The names of a set, as they are written one after the other.
use Rattle.std.proofs.Common.{append-nil, ◌≡◌, ◌==◌, ◌||◌, ℕ, Bool, true, List, [], ◌∷◌, ◌++◌, ◌⊎◌, inl, inr, map, refl, sym, ap, ◌∙◌, eqb-true}
use Rattle.std.proofs.lemmas.Bool.{or_cases}
use Rattle.std.proofs.lemmas.List.{append_assoc}
use Rattle.mixed_graph.specs.Vocabulary.{has, members_below, name_of}
use Rattle.answer_text.specs.declared.signs.Notation.TheVariants.{Plain}
use Rattle.answer_text.specs.Vocabulary.{is_plain, printed, comma_before, names_in, member_names}
use Rattle.adjust_command.specs.Bare.{AreBare}

names_first : (names : List (List ℕ)) (v : ℕ) (vs : List ℕ)
    → names_in Plain (map (name_of names) (v ∷ vs)) ≡ printed (name_of names v) ++ (comma_before vs ++ names_in Plain (map (name_of names) vs))
names_first names v [] = sym (append-nil (printed (name_of names v)))
names_first names v (u ∷ vs) = refl

-- what is written of a set, and what of its members is still to be written
pub record IsWriting (names : List (List ℕ)) (old out : List ℕ) (set : ℕ) (rest : List ℕ) : Type 0 where
  pub text : out ++ names_in Plain (map (name_of names) rest) ≡ old ++ names_in Plain (member_names names (has set))

pub writing_begun : (names : List (List ℕ)) (old : List ℕ) (set : ℕ) (left : List ℕ) → left ≡ members_below (has set) 64 → IsWriting names old old set left
writing_begun names old set left whole = record { text = ap (λ vs. old ++ names_in Plain (map (name_of names) vs)) whole }

pub writing_more : (names : List (List ℕ)) (old out : List ℕ) (set v : ℕ) (left rest : List ℕ) → left ≡ v ∷ rest → IsWriting names old out set left
    → IsWriting names old ((out ++ printed (name_of names v)) ++ comma_before rest) set rest
writing_more names old out set v left rest first is = record {
  text =
      append_assoc (out ++ printed (name_of names v)) (comma_before rest) (names_in Plain (map (name_of names) rest))
      ∙ append_assoc out (printed (name_of names v)) (comma_before rest ++ names_in Plain (map (name_of names) rest))
      ∙ ap (λ t. out ++ t) (sym (names_first names v rest) ∙ ap (λ vs. names_in Plain (map (name_of names) vs)) (sym first))
      ∙ is.text;
}

pub writing_done : (names : List (List ℕ)) (old out : List ℕ) (set : ℕ) (left : List ℕ) → left ≡ [] → IsWriting names old out set left
    → out ≡ old ++ names_in Plain (member_names names (has set))
writing_done names old out set left none is = sym (append-nil out) ∙ ap (λ vs. out ++ names_in Plain (map (name_of names) vs)) (sym none) ∙ is.text

-- a bare name is printed as it is
pub printed_bare : (name : List ℕ) → is_plain name ≡ true → printed name ≡ name
printed_bare name e = rw e refl

-- the name that is read of a vertex, if it is printed bare
pub known_name : (names : List (List ℕ)) (bare : ℕ → Bool) (v : ℕ) (name : List ℕ) → name ≡ name_of names v → AreBare names bare → bare v ≡ true
    → name ≡ printed (name_of names v)
known_name names bare v name got are i = got ∙ sym (are v i)

-- one more vertex whose name is printed bare
pub bare_more : (names : List (List ℕ)) (bare one after : ℕ → Bool) (v : ℕ) (name : List ℕ) → name ≡ name_of names v → is_plain name ≡ true
    → ((u : ℕ) → after u ≡ (bare u || one u)) → ((u : ℕ) → one u ≡ (u == v)) → AreBare names bare → AreBare names after
bare_more names bare one after v name got plain after_is one_is are u i = go (or_cases (bare u) (one u) (sym (after_is u) ∙ i))
  where
    go : (bare u ≡ true) ⊎ (one u ≡ true) → printed (name_of names u) ≡ name_of names u
    go (inl h) = are u h
    go (inr h) = printed_bare (name_of names u) (ap (λ k. is_plain (name_of names k)) (eqb-true u v (sym (one_is u) ∙ h)) ∙ ap is_plain (sym got) ∙ plain)
