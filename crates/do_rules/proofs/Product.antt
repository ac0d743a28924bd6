-- Independence from a grouping of the vertices of a closed set.
use Rattle.std.proofs.Common.{ℕ, ◌*◌, ◌≡◌, Bool, true, false, not, refl, sym, ap, ◌∙◌, ◌||◌, ◌&&◌, arith}
use mathlib.Core.Path.{fun_ext}
use Rattle.std.proofs.lemmas.Bool.{false_from_ne_true, not-true, or_right}
use Rattle.mixed_graph.specs.Vocabulary.{MixedGraph}
use Rattle.finite_models.specs.Vocabulary.{FiniteModel, event_weight, sum_over}
use Rattle.finite_models.proofs.Bools.{and_first, and_second, either, not_both}
use Rattle.finite_models.proofs.Factors.{group, marginal}
use Rattle.finite_models.proofs.Following.{Follows}
use Rattle.finite_models.proofs.Solutions.{IsRanked, IsClosed}
use Rattle.finite_models.proofs.SumLaws.{over-congr, over-product}
use Rattle.do_rules.proofs.Split.{two_groups, first_ignores, second_ignores, first, second, not_K}

fill : (a s : Bool) → (a ≡ true → s ≡ true) → (a || (s && not a)) ≡ s
fill true s h = sym (h refl)
fill false true h = refl
fill false false h = refl

halves : (p k : Bool) → p ≡ ((p && not k) || (p && k))
halves true true = refl
halves true false = refl
halves false k = refl

and_false : (p : Bool) → (p && false) ≡ false
and_false true = refl
and_false false = refl

no_y : (s x y w k : Bool) → (y ≡ true → k ≡ true) → ((s && not (x || (y || w))) && not k) ≡ ((s && not (x || w)) && not k)
no_y s x true w true h = and_false (s && not (x || true)) ∙ sym (and_false (s && not (x || w)))
no_y s x true w false h = absurd (grind (arith, h refl))
no_y s x false w k h = refl

no_y' : (s y w k : Bool) → (y ≡ true → k ≡ true) → ((s && not (y || w)) && not k) ≡ ((s && not w) && not k)
no_y' s true w true h = and_false (s && false) ∙ sym (and_false (s && not w))
no_y' s true w false h = absurd (grind (arith, h refl))
no_y' s false w k h = refl

no_x : (s x w k : Bool) → (x ≡ true → k ≡ false) → ((s && not (x || w)) && k) ≡ ((s && not w) && k)
no_x s true w false h = and_false (s && false) ∙ sym (and_false (s && not w))
no_x s true w true h = absurd (grind (arith, h refl))
no_x s false w k h = refl

crossed : (a b c d : ℕ) → (a * b) * (c * d) ≡ (a * d) * (c * b)
crossed a b c d = omega arith

module _ (g : MixedGraph) (m : FiniteModel) (rank : ℕ → ℕ) (ranked : IsRanked g rank) (follows : Follows g m) (S K W : ℕ → Bool) (closed : IsClosed g S)
    (by_both : (u v : ℕ) → S u ≡ true → S v ≡ true → g.both u v ≡ true → K u ≡ K v)
    (by_arrow : (p v : ℕ) → S v ≡ true → g.arrow p v ≡ true → W p ≡ false → K p ≡ K v) where
  side_one : (ℕ → Bool) → (ℕ → ℕ) → ℕ
  side_one A s = sum_over (λ v. (S v && not (A v)) && not (K v)) m.size m.vertices
      (group m (first g m rank ranked follows S K W closed by_both by_arrow) S (not_K g m rank ranked follows S K W closed by_both by_arrow)) s

  side_two : (ℕ → Bool) → (ℕ → ℕ) → ℕ
  side_two A s = sum_over (λ v. (S v && not (A v)) && K v) m.size m.vertices (group m (second g m rank ranked follows S K W closed by_both by_arrow) S K) s

  outside : (A : ℕ → Bool) → ((v : ℕ) → W v ≡ true → A v ≡ true) → (i : ℕ) → (S i && not (A i)) ≡ true → W i ≡ false
  outside A wa i e = false_from_ne_true (W i) (λ w. not_both (A i) (wa i w) (not-true (A i) (and_second (S i) (not (A i)) e)))

  sides : (A : ℕ → Bool) (s : ℕ → ℕ) → ((v : ℕ) → W v ≡ true → A v ≡ true) → ((v : ℕ) → A v ≡ true → S v ≡ true) → event_weight m A s
      ≡ side_one A s * side_two A s
  unfolding side_one side_two
  sides A s wa ain =
      sym (marginal g m rank ranked follows A (λ v. S v && not (A v)) s (λ v a u. not_both (A v) a (not-true (A v) (and_second (S v) (not (A v)) u))))
      ∙ ap (λ T. sum_over (λ v. S v && not (A v)) m.size m.vertices (event_weight m T) s) (fun_ext (λ v. fill (A v) (S v) (ain v)))
      ∙ over-congr (λ v. S v && not (A v)) m.size m.vertices (event_weight m S) (λ c. one c * two c) s
      (two_groups g m rank ranked follows S K W closed by_both by_arrow)
      ∙ ap (λ U. sum_over U m.size m.vertices (λ c. one c * two c) s) (fun_ext (λ v. halves (S v && not (A v)) (K v)))
      ∙ over-product (λ v. (S v && not (A v)) && not (K v)) (λ v. (S v && not (A v)) && K v) m.size m.vertices one two s
      (λ i a b. not_both (K i) (and_second (S i && not (A i)) (K i) b) (not-true (K i) (and_second (S i && not (A i)) (not (K i)) a)))
      (first_ignores g m rank ranked follows S K W closed by_both by_arrow (λ v. (S v && not (A v)) && K v)
      (λ i d. (and_second (S i && not (A i)) (K i) d, outside A wa i (and_first (S i && not (A i)) (K i) d))))
      (second_ignores g m rank ranked follows S K W closed by_both by_arrow (λ v. (S v && not (A v)) && not (K v))
      (λ i d. (not-true (K i) (and_second (S i && not (A i)) (not (K i)) d), outside A wa i (and_first (S i && not (A i)) (not (K i)) d))))
    where
      one : (ℕ → ℕ) → ℕ
      one = group m (first g m rank ranked follows S K W closed by_both by_arrow) S (not_K g m rank ranked follows S K W closed by_both by_arrow)

      two : (ℕ → ℕ) → ℕ
      two = group m (second g m rank ranked follows S K W closed by_both by_arrow) S K

  module _ (X Y : ℕ → Bool) (x_in : (v : ℕ) → X v ≡ true → S v ≡ true) (y_in : (v : ℕ) → Y v ≡ true → S v ≡ true) (w_in : (v : ℕ) → W v ≡ true → S v ≡ true)
      (x_one : (v : ℕ) → X v ≡ true → K v ≡ false) (y_two : (v : ℕ) → Y v ≡ true → K v ≡ true) where
    pub independent : (s : ℕ → ℕ) → event_weight m (λ v. X v || (Y v || W v)) s * event_weight m W s
        ≡ event_weight m (λ v. X v || W v) s * event_weight m (λ v. Y v || W v) s
    unfolding side_one side_two
    independent s =
        ap (λ r. r * event_weight m W s) (sides (λ v. X v || (Y v || W v)) s (λ v w. or_right (X v) (Y v || W v) (or_right (Y v) (W v) w))
        (λ v e. either (X v) (Y v || W v) (S v ≡ true) e (x_in v) (λ e'. either (Y v) (W v) (S v ≡ true) e' (y_in v) (w_in v))))
        ∙ ap (λ r. (side_one (λ v. X v || (Y v || W v)) s * side_two (λ v. X v || (Y v || W v)) s) * r) (sides W s (λ v w. w) w_in)
        ∙ ap (λ r. (r * side_two (λ v. X v || (Y v || W v)) s) * (side_one W s * side_two W s)) one_xyw
        ∙ ap (λ r. (side_one (λ v. X v || W v) s * r) * (side_one W s * side_two W s)) two_xyw
        ∙ crossed (side_one (λ v. X v || W v) s) (side_two (λ v. Y v || W v) s) (side_one W s) (side_two W s)
        ∙ ap (λ r. (side_one (λ v. X v || W v) s * r) * (side_one W s * side_two (λ v. Y v || W v) s)) (sym two_xw)
        ∙ ap (λ r. (side_one (λ v. X v || W v) s * side_two (λ v. X v || W v) s) * (r * side_two (λ v. Y v || W v) s)) (sym one_yw)
        ∙ ap (λ r. r * (side_one (λ v. Y v || W v) s * side_two (λ v. Y v || W v) s))
        (sym (sides (λ v. X v || W v) s (λ v w. or_right (X v) (W v) w) (λ v e. either (X v) (W v) (S v ≡ true) e (x_in v) (w_in v))))
        ∙ ap (λ r. event_weight m (λ v. X v || W v) s * r) (sym (sides (λ v. Y v || W v) s (λ v w. or_right (Y v) (W v) w)
        (λ v e. either (Y v) (W v) (S v ≡ true) e (y_in v) (w_in v))))
      where
        one_xyw : side_one (λ v. X v || (Y v || W v)) s ≡ side_one (λ v. X v || W v) s
        one_xyw = ap (λ U. sum_over U m.size m.vertices (group m (first g m rank ranked follows S K W closed by_both by_arrow) S
            (not_K g m rank ranked follows S K W closed by_both by_arrow)) s)
            (fun_ext (λ v. no_y (S v) (X v) (Y v) (W v) (K v) (y_two v)))

        one_yw : side_one (λ v. Y v || W v) s ≡ side_one W s
        one_yw = ap (λ U. sum_over U m.size m.vertices (group m (first g m rank ranked follows S K W closed by_both by_arrow) S
            (not_K g m rank ranked follows S K W closed by_both by_arrow)) s)
            (fun_ext (λ v. no_y' (S v) (Y v) (W v) (K v) (y_two v)))

        two_xyw : side_two (λ v. X v || (Y v || W v)) s ≡ side_two (λ v. Y v || W v) s
        two_xyw = ap (λ U. sum_over U m.size m.vertices (group m (second g m rank ranked follows S K W closed by_both by_arrow) S K) s)
            (fun_ext (λ v. no_x (S v) (X v) (Y v || W v) (K v) (x_one v)))

        two_xw : side_two (λ v. X v || W v) s ≡ side_two W s
        two_xw = ap (λ U. sum_over U m.size m.vertices (group m (second g m rank ranked follows S K W closed by_both by_arrow) S K) s)
            (fun_ext (λ v. no_x (S v) (X v) (W v) (K v) (x_one v)))
