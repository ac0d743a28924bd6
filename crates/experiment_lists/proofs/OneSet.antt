-- Experiments name one set each.
use Rattle.std.proofs.Common.{◌≡◌, ℕ, List, [], ◌∷◌, refl, ap, ◌∙◌}
use Rattle.replies.proofs.OneTarget.{one_set}
use Rattle.experiment_lists.specs.Sets.{AreExperimentSets}
use Rattle.experiment_lists.specs.Words.{Lists}

pub one_by_one : (observed : List (List ℕ)) (lists : Lists) (zs ws : List ℕ) → AreExperimentSets observed lists zs → AreExperimentSets observed lists ws → ws
    ≡ zs
one_by_one observed [] [] [] s t = refl
one_by_one observed [] [] (w ∷ ws) s t = absurd t
one_by_one observed [] (z ∷ zs) ws s t = absurd s
one_by_one observed (e ∷ es) [] ws s t = absurd s
one_by_one observed (e ∷ es) (z ∷ zs) [] s t = absurd t
one_by_one observed (e ∷ es) (z ∷ zs) (w ∷ ws) s t = ap (λ (k : ℕ). k ∷ ws) (one_set observed e z w s.0 t.0)
    ∙ ap (λ (ks : List ℕ). z ∷ ks) (one_by_one observed es zs ws s.1 t.1)
