-- Texts with commas between them.
use Rattle.std.proofs.Common.{◌≡◌, ℕ, zero, suc, ◌<◌, Bool, true, false, cond, List, [], ◌∷◌, ◌++◌, map, refl, sym, ap, ◌∙◌, append_assoc, arith}
use Rattle.std.proofs.lemmas.List.{append-nil, map-append}
use Rattle.mixed_graph.specs.Vocabulary.{has, members_below}
use Rattle.answer_text.specs.Vocabulary.{comma_before}
use Rattle.count_answers.specs.Lines.{with_commas}

-- the first text, the comma behind it where more follow, and these
pub commas_first : (f : ℕ → List ℕ) (v : ℕ) (vs : List ℕ) → with_commas (map f (v ∷ vs)) ≡ f v ++ (comma_before vs ++ with_commas (map f vs))
commas_first f v [] = sym (append-nil (f v))
commas_first f v (u ∷ vs) = refl

-- what is written of a set, and what of its members is still to be written
pub record IsWriting (f : ℕ → List ℕ) (old out : List ℕ) (set : ℕ) (rest : List ℕ) : Type 0 where
  pub text : out ++ with_commas (map f rest) ≡ old ++ with_commas (map f (members_below (has set) 64))

pub writing_begun : (f : ℕ → List ℕ) (old : List ℕ) (set : ℕ) (left : List ℕ) → left ≡ members_below (has set) 64 → IsWriting f old old set left
writing_begun f old set left whole = record { text = ap (λ (vs : List ℕ). old ++ with_commas (map f vs)) whole }

pub writing_more : (f : ℕ → List ℕ) (old out : List ℕ) (set v : ℕ) (left rest : List ℕ) → left ≡ v ∷ rest → IsWriting f old out set left
    → IsWriting f old (out ++ f v ++ comma_before rest) set rest
writing_more f old out set v left rest first w = record {
  text =
      append_assoc (out ++ f v) (comma_before rest) (with_commas (map f rest))
      ∙ append_assoc out (f v) (comma_before rest ++ with_commas (map f rest))
      ∙ ap (λ t. out ++ t) (sym (commas_first f v rest) ∙ ap (λ (vs : List ℕ). with_commas (map f vs)) (sym first))
      ∙ w.text;
}

pub writing_done : (f : ℕ → List ℕ) (old out : List ℕ) (set : ℕ) (left : List ℕ) → left ≡ [] → IsWriting f old out set left →
    out ≡ old ++ with_commas (map f (members_below (has set) 64))
writing_done f old out set left none w = sym (append-nil out) ∙ ap (λ (vs : List ℕ). out ++ with_commas (map f vs)) (sym none) ∙ w.text

-- texts of members that are the same
pub same_texts : (f g : ℕ → List ℕ) (s : ℕ → Bool) (k : ℕ) → ((v : ℕ) → v < k → s v ≡ true → f v ≡ g v) → map f (members_below s k) ≡ map g (members_below s k)
unfolding members_below
same_texts f g s zero h = refl
same_texts f g s (suc k) h =
    map-append f (members_below s k) (cond (s k) (k ∷ []) [])
    ∙ ap (λ (x : List (List ℕ)). x ++ map f (cond (s k) (k ∷ []) [])) (same_texts f g s k (λ v lt e. h v (omega (arith, lt)) e))
    ∙ ap (λ (x : List (List ℕ)). map g (members_below s k) ++ x) (last (s k) refl)
    ∙ sym (map-append g (members_below s k) (cond (s k) (k ∷ []) []))
  where
    last : (b : Bool) → s k ≡ b → map f (cond b (k ∷ []) []) ≡ map g (cond b (k ∷ []) [])
    last true e = ap (λ x. x ∷ []) (h k (omega arith) e)
    last false e = refl
