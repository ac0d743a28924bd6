-- What the floods of `closest` give.
use Rattle.std.proofs.Common.{◌≡◌, ℕ, Bool, true, false, not, ◌&&◌, refl, sym, ◌∙◌}
use Rattle.minimal_sets.specs.Separators.{Reached, IsPart, IsClosest, IsInseparable}
use Rattle.minimal_sets.proofs.SeparatorLaws.{reached_part, is_closest, inseparable}
use Rattle.minimal_sets.proofs.Tests.{and_first, and_second}
use Rattle.std.proofs.lemmas.Bool.{not-true}

module _ (near : ℕ → ℕ → Bool) (turn : (u v : ℕ) → near u v ≡ true → near v u ≡ true) (R X Y S free : ℕ → Bool) (y_fixed : (v : ℕ) → Y v ≡ true → R v ≡ false)
    (x_in : IsPart X S) (s_connected : (v : ℕ) → S v ≡ true → Reached near X (λ u. not (S u)) v)
    (free_is : (v : ℕ) → free v ≡ (R v && not (S v))) (S1 : ℕ → Bool)
    (s1_is : (v : ℕ) → S1 v ≡ true → Reached near S free v) (s1_all : (v : ℕ) → Reached near S free v → S1 v ≡ true) where
  to_free : (v : ℕ) → Reached near S (λ u. R u && not (S u)) v → Reached near S free v
  to_free v r = reached_part near S (λ u. R u && not (S u)) free (λ u e. sym (free_is u) ∙ e) v r

  from_free : (v : ℕ) → Reached near S free v → Reached near S (λ u. R u && not (S u)) v
  from_free v r = reached_part near S free (λ u. R u && not (S u)) (λ u e. free_is u ∙ e) v r

  pub none_near : (v : ℕ) → S1 v ≡ true → Y v ≡ true → IsInseparable near R X Y S
  none_near v e y = inseparable near turn R X Y y_fixed S S1 s_connected x_in (λ v e. from_free v (s1_is v e)) (λ v r. s1_all v (to_free v r)) v e y

  module _ (F : ℕ → Bool) (f_free : (v : ℕ) → F v ≡ true → free v ≡ true) (f_next : (v : ℕ) → F v ≡ true → (u : ℕ) × (S1 u ≡ true) × (near u v ≡ true))
      (f_all : (u v : ℕ) → free v ≡ true → S1 u ≡ true → near u v ≡ true → F v ≡ true) where
    f_is : (v : ℕ) → F v ≡ true → (R v ≡ true) × (S v ≡ false) × ((u : ℕ) × (S1 u ≡ true) × (near u v ≡ true))
    f_is v e = let q : (R v && not (S v)) ≡ true = sym (free_is v) ∙ f_free v e in
        (and_first (R v) (not (S v)) q, not-true (S v) (and_second (R v) (not (S v)) q), f_next v e)

    f_each : (u v : ℕ) → R v ≡ true → S v ≡ false → S1 u ≡ true → near u v ≡ true → F v ≡ true
    f_each u v r s i a = f_all u v (free_is v ∙ rw (r, s) refl) i a

    pub closest_is : (T C D : ℕ → Bool) → ((v : ℕ) → S1 v ≡ true → Y v ≡ false)
        → ((v : ℕ) → T v ≡ true → Reached near Y F v) → ((v : ℕ) → Reached near Y F v → T v ≡ true)
        → ((v : ℕ) → C v ≡ true → F v ≡ true) → ((v : ℕ) → C v ≡ true → (u : ℕ) × (T u ≡ true) × (near u v ≡ true))
        → ((u v : ℕ) → F v ≡ true → T u ≡ true → near u v ≡ true → C v ≡ true)
        → ((v : ℕ) → D v ≡ true → Reached near X C v) → ((v : ℕ) → Reached near X C v → D v ≡ true) → IsClosest near R X Y S C D
    closest_is T C D away t_is t_all c_in c_next c_all d_is d_all =
        is_closest near turn R X Y y_fixed S S1 s_connected x_in (λ v e. from_free v (s1_is v e)) (λ v r. s1_all v (to_free v r)) F T C D f_is f_each
        away t_is t_all (λ v e. (c_in v e, c_next v e)) c_all d_is d_all
