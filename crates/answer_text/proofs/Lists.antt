-- Texts of lists of names.
use Rattle.std.proofs.Common.{Bool, codes, append-nil, ◌≡◌, ℕ, ◌+◌, List, [], ◌∷◌, ◌++◌, map, refl, sym, ap, ◌∙◌, arith}
use Rattle.std.specs.Prelude.{suc, slice_index, slice_index_or}
use Rattle.std.proofs.lemmas.List.{append_assoc}
use Rattle.mixed_graph.specs.Vocabulary.{has, members_below, name_of}
use Rattle.answer_text.specs.Printing.{printed}
use Rattle.m_separation.specs.declared.marks.Mark.{Mark}
use Rattle.m_separation.specs.declared.marks.Mark.TheVariants.{Out}
use Rattle.answer_text.specs.declared.signs.Notation.{Notation}
use Rattle.answer_text.specs.declared.signs.Sign.{Sign}
use Rattle.answer_text.specs.declared.signs.Sign.TheVariants.{Comma, Bar, Do}
use Rattle.answer_text.specs.Notations.{sign_text, name_in}
use Rattle.answer_text.specs.Texts.{comma_in, names_in, names_behind, mark_text, steps_text, path_text, member_names, conditions_in}

-- the first name, the comma behind it where more names follow, and these
pub names_in-first : (w : Notation) (names : List (List ℕ)) (v : ℕ) (vs : List ℕ) →
    names_in w (map (name_of names) (v ∷ vs)) ≡ name_in w (name_of names v) ++ (comma_in w vs ++ names_in w (map (name_of names) vs))
names_in-first w names v [] = sym (append-nil (name_in w (name_of names v)))
names_in-first w names v (u ∷ vs) = refl

-- what is written of a set, and what of its members is still to be written
pub record IsWriting (w : Notation) (names : List (List ℕ)) (old out : List ℕ) (set : ℕ) (rest : List ℕ) : Type 0 where
  pub text : out ++ names_in w (map (name_of names) rest) ≡ old ++ names_in w (member_names names (has set))

pub writing_begun : (w : Notation) (names : List (List ℕ)) (old : List ℕ) (set : ℕ) (left : List ℕ) → left ≡ members_below (has set) 64 →
    IsWriting w names old old set left
writing_begun w names old set left whole = record { text = ap (λ vs. old ++ names_in w (map (name_of names) vs)) whole }

pub writing_more : (w : Notation) (names : List (List ℕ)) (old out : List ℕ) (set v : ℕ) (left rest : List ℕ) → left ≡ v ∷ rest →
    IsWriting w names old out set left → IsWriting w names old (out ++ name_in w (name_of names v) ++ comma_in w rest) set rest
writing_more w names old out set v left rest first is = record {
  text =
      append_assoc (out ++ name_in w (name_of names v)) (comma_in w rest) (names_in w (map (name_of names) rest))
      ∙ append_assoc out (name_in w (name_of names v)) (comma_in w rest ++ names_in w (map (name_of names) rest))
      ∙ ap (λ t. out ++ t) (sym (names_in-first w names v rest) ∙ ap (λ vs. names_in w (map (name_of names) vs)) (sym first))
      ∙ is.text;
}

pub writing_done : (w : Notation) (names : List (List ℕ)) (old out : List ℕ) (set : ℕ) (left : List ℕ) → left ≡ [] → IsWriting w names old out set left →
    out ≡ old ++ names_in w (member_names names (has set))
writing_done w names old out set left none is = sym (append-nil out) ∙ ap (λ vs. out ++ names_in w (map (name_of names) vs)) (sym none) ∙ is.text

-- one more step of a path
pub steps_more : (names : List (List ℕ)) (vertices : List ℕ) (marks : List Mark) (old out : List ℕ) (i : ℕ) → out ≡ old ++ steps_text names vertices marks i →
    out ++ mark_text (slice_index_or marks i Out) ++ printed (name_of names (slice_index vertices (i + 1))) ≡ old ++ steps_text names vertices marks (i + 1)
steps_more names vertices marks old out i e =
    let m = mark_text (slice_index_or marks i Out) in
    let n = printed (name_of names (slice_index vertices (suc i))) in
    ap (λ k. out ++ m ++ printed (name_of names (slice_index vertices k))) {x = i + 1} {y = suc i} (omega arith)
    ∙ ap (λ t. t ++ m ++ n) e
    ∙ append_assoc (old ++ steps_text names vertices marks i) m n
    ∙ append_assoc old (steps_text names vertices marks i) (m ++ n)
    ∙ ap (λ k. old ++ steps_text names vertices marks k) {x = suc i} {y = i + 1} (omega arith)

-- names behind a sign, and what stands behind the bar, by whether a set has members
pub none_behind : (w : Notation) (sign : Sign) (names : List (List ℕ)) (set : ℕ → Bool) → members_below set 64 ≡ []
    → names_behind w sign (member_names names set) ≡ []
none_behind w sign names set e = rw e refl

pub some_behind : (w : Notation) (sign : Sign) (names : List (List ℕ)) (set : ℕ → Bool) (v : ℕ) (vs : List ℕ) → members_below set 64 ≡ v ∷ vs →
    names_behind w sign (member_names names set) ≡ sign_text w sign ++ names_in w (member_names names set)
some_behind w sign names set v vs e = rw e refl

pub given_alone : (w : Notation) (names : List (List ℕ)) (b c : ℕ → Bool) → members_below b 64 ≡ [] →
    conditions_in w (member_names names b) (member_names names c) ≡ names_behind w Bar (member_names names c)
given_alone w names b c e = rw e refl

pub done_first : (w : Notation) (names : List (List ℕ)) (b c : ℕ → Bool) (v : ℕ) (vs : List ℕ) → members_below b 64 ≡ v ∷ vs →
    conditions_in w (member_names names b) (member_names names c)
    ≡ sign_text w Bar ++ (sign_text w Do ++ (names_in w (member_names names b) ++ (codes ")" ++ names_behind w Comma (member_names names c))))
done_first w names b c v vs e = rw e refl

-- texts that are appended one after the other
pub appended_two : (old a b : List ℕ) {out one : List ℕ} → one ≡ old ++ a → out ≡ one ++ b → out ≡ old ++ (a ++ b)
appended_two old a b e f = f ∙ ap (λ t. t ++ b) e ∙ append_assoc old a b

pub appended_five : (old a b c d e : List ℕ) {out one two three four : List ℕ} → one ≡ old ++ a → two ≡ one ++ b → three ≡ two ++ c → four ≡ three ++ d → out
    ≡ four ++ e →
    out ≡ old ++ (a ++ (b ++ (c ++ (d ++ e))))
appended_five old a b c d e p q r s t =
    t ∙ ap (λ x. x ++ e) (s ∙ ap (λ x. x ++ d) (r ∙ ap (λ x. x ++ c) (q ∙ ap (λ x. x ++ b) p))) ∙ simp append_assoc

-- the first vertex, and the steps behind it, are a path
pub path_done : (names : List (List ℕ)) (vertices : List ℕ) (marks : List Mark) (old first out : List ℕ) (count steps i v : ℕ)
    → count ≡ suc steps → i ≡ steps → v ≡ slice_index vertices 0 → first ≡ old ++ printed (name_of names v)
    → out ≡ first ++ steps_text names vertices marks i → out ≡ old ++ path_text names vertices marks count
path_done names vertices marks old first out count steps i v c e w f o =
    o ∙ ap (λ t. t ++ steps_text names vertices marks i) (f ∙ ap (λ u. old ++ printed (name_of names u)) w)
    ∙ append_assoc old (printed (name_of names (slice_index vertices 0))) (steps_text names vertices marks i)
    ∙ ap (λ k. old ++ (printed (name_of names (slice_index vertices 0)) ++ steps_text names vertices marks k)) e
    ∙ ap (λ k. old ++ path_text names vertices marks k) (sym c)
