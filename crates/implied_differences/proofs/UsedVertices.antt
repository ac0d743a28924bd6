-- Whether a table has levels of an implication's vertices, by sets.
use Rattle.std.proofs.Common.{ℕ, zero, suc, ◌≡◌, ◌<◌, ◌^◌, Bool, true, false, cond, [], ◌∷◌, All, sym, ap, ◌∙◌, refl}
use Rattle.std.proofs.lemmas.List.Elements.{All-nil, All-cons, All-append}
use Rattle.mixed_graph.specs.Vocabulary.{has, members_below, is_inside}
use Rattle.mixed_graph.proofs.MaskLaws.{inside_has, inside_from}
use Rattle.count_rows.specs.Vocabulary.{Table}
use Rattle.count_table.specs.Vocabulary.{AreCounts}
use Rattle.count_eval.specs.Vocabulary.{is_used}
use Rattle.count_eval.proofs.Uses.{Same, same_members}
use Rattle.implications.specs.declared.pairs.Implication.{Implication}
use Rattle.implied_differences.specs.Differences.{whole_of, IsReadable}

pub all_members : (P : ℕ → Type 0) (s : ℕ → Bool) (k : ℕ) → ((v : ℕ) → s v ≡ true → P v) → All P (members_below s k)
unfolding members_below
all_members P s zero h = All-nil P
all_members P s (suc k) h = All-append P (members_below s k) (cond (s k) (k ∷ []) []) (all_members P s k h) (last (s k) refl)
  where
    last : (b : Bool) → s k ≡ b → All P (cond b (k ∷ []) [])
    last true e = All-cons P k [] (h k e) (All-nil P)
    last false e = All-nil P

module _ (t : Table) (are : AreCounts t) (used : ℕ) (small : used < 2 ^ 64) (members : members_below (has used) 64 ≡ t.vertices) (i : Implication)
    (whole : ℕ) (is_whole : has whole ≡ whole_of i) where
  same : Same used (is_used t)
  same = same_members t used are members small

  pub all_used : is_inside whole used ≡ true → (v : ℕ) → whole_of i v ≡ true → is_used t v ≡ true
  all_used inside v h = sym (same v) ∙ inside_has whole used v inside (ap (λ f. f v) is_whole ∙ h)

  pub not_all_used : is_inside whole used ≡ false → IsReadable t i → ⊥
  not_all_used outside r = cc (sym outside ∙ inside_from whole used (λ v h. same v ∙ r.used v (sym (ap (λ f. f v) is_whole) ∙ h)))
