-- A word lists experiments in one way.
use Rattle.std.proofs.Common.{◌≡◌, ℕ, true, List, [], ◌∷◌, Option, Some, None, sym, ap, subst, ◌∙◌}
use Rattle.std.proofs.lemmas.Option.{none-some}
use Rattle.command_words.proofs.OneValue.{one_list}
use Rattle.experiment_lists.specs.Words.{Lists, IsExperiment, AreJoinedBySemicolons, AreNeededExperiments, AreOptionalExperiments}
use Rattle.experiment_lists.proofs.Joining.{is_list}
use Rattle.experiment_lists.proofs.Quotes.{closed, divided, same_part}

one_experiment : (text : List ℕ) (a b : List (List ℕ)) → IsExperiment text a → IsExperiment text b → b ≡ a
one_experiment text a b s t = one_list text a b (is_list text a s) (is_list text b t)

-- an experiment is no two of them
alone : (text : List ℕ) (a : List (List ℕ)) (b next : List (List ℕ)) (others : Lists) → IsExperiment text a → AreJoinedBySemicolons text (b ∷ next ∷ others) → ⊥
alone text a b next others s t = none-some true (sym (divided text t.0 t.1 t.2 (closed t.0 b t.3)) ∙ closed text a s)

one_joined : (text : List ℕ) (a b : Lists) → AreJoinedBySemicolons text a → AreJoinedBySemicolons text b → b ≡ a
one_joined text [] b s t = absurd s
one_joined text (n ∷ []) [] s t = absurd t
one_joined text (n ∷ next ∷ others) [] s t = absurd t
one_joined text (n ∷ []) (m ∷ []) s t = ap (λ (k : List (List ℕ)). let l : Lists = k ∷ [] in l) (one_experiment text n m s t)
one_joined text (n ∷ []) (m ∷ k ∷ ks) s t = absurd (alone text n m k ks s t)
one_joined text (n ∷ next ∷ others) (m ∷ []) s t = absurd (alone text m n next others t s)
one_joined text (n ∷ next ∷ others) (m ∷ k ∷ ks) s t =
    let same = same_part true t.0 s.0 t.1 s.1 (sym t.2 ∙ s.2) (closed t.0 m t.3) (closed s.0 n s.3) in
    ap (λ (x : List (List ℕ)). let l : Lists = x ∷ k ∷ ks in l) (one_experiment s.0 n m s.3 (subst (λ (p : List ℕ). IsExperiment p m) same.0 t.3))
    ∙ ap (λ (l : Lists). let whole : Lists = n ∷ l in whole) (one_joined s.1 (next ∷ others) (k ∷ ks) s.4
    (subst (λ (r : List ℕ). AreJoinedBySemicolons r (k ∷ ks)) same.1 t.4))

pub one_word : (text : Option (List ℕ)) (a b : Lists) → AreNeededExperiments text a → AreNeededExperiments text b → b ≡ a
one_word None a b s t = absurd s
one_word (Some text) a b s t = one_joined text a b s.joined t.joined

pub one_optional : (text : Option (List ℕ)) (a b : Lists) → AreOptionalExperiments text a → AreOptionalExperiments text b → b ≡ a
one_optional None a b s t = t ∙ sym s
one_optional (Some text) a b s t = one_joined text a b s.joined t.joined
