-- Lists with an entry for each member of a set.
use Rattle.std.proofs.Common.{◌≡◌, ℕ, ◌+◌, Bool, true, false, List, [], ◌∷◌, ◌++◌, map, sym, ap, ◌∙◌, append-nil, append_assoc}
use Rattle.std.proofs.lemmas.List.{map-append}
use Rattle.mixed_graph.specs.Vocabulary.{members_below}
use Rattle.mixed_graph.proofs.MemberLists.{members-nil, members-in, members-out}

module _ {A : Type 0} (f : ℕ → A) (s : ℕ → Bool) where
  pub entries_begun : (old : List A) → old ≡ old ++ map f (members_below s 0)
  entries_begun old = sym (append-nil old) ∙ ap (λ (vs : List ℕ). old ++ map f vs) (members-nil s)

  pub entries_more : (v : ℕ) (old mid new : List A) → s v ≡ true → mid ≡ old ++ map f (members_below s v) → new ≡ mid ++ f v ∷ []
      → new ≡ old ++ map f (members_below s (v + 1))
  entries_more v old mid new e is made =
      made ∙ ap (λ (l : List A). l ++ f v ∷ []) is ∙ append_assoc old (map f (members_below s v)) (f v ∷ [])
      ∙ ap (λ (l : List A). old ++ l) (sym (map-append f (members_below s v) (v ∷ [])) ∙ ap (map f) (sym (members-in s v e)))

  pub entries_same : (v : ℕ) (old mid : List A) → s v ≡ false → mid ≡ old ++ map f (members_below s v) → mid ≡ old ++ map f (members_below s (v + 1))
  entries_same v old mid e is = is ∙ ap (λ (vs : List ℕ). old ++ map f vs) (sym (members-out s v e))
