-- Hedges that are alike have one plain form, and so one certificate.
use Rattle.std.proofs.Common.{◌≡◌, ℕ, zero, suc, ◌<◌, List, length, take, inl, inr, sym, ◌∙◌, arith}
use Rattle.std.specs.Prelude.{slice_index}
use Rattle.std.specs.List.{zip}
use Rattle.std.proofs.lemmas.Bool.{cases_lt}
use Rattle.std.proofs.lemmas.Grind.{same_number_lists}
use Rattle.hedge.specs.declared.hedge.Hedge.{Hedge}
use Rattle.certificate.specs.Vocabulary.{links_view, hedge_view}
use Rattle.effect_answers.specs.Hedges.{HasArrays}
use Rattle.effect_answers.proofs.OneHedge.{AreAlike}

-- lists of 64 numbers that agree at each place are the same
same_array : (xs ys : List ℕ) → length xs ≡ 64 → length ys ≡ 64 → ((i : ℕ) → i < 64 → slice_index ys i ≡ slice_index xs i) → ys ≡ xs
same_array xs ys a b same = same_number_lists ys xs (b ∙ sym a) (λ i lt. same i (omega (arith, lt, b)))

module _ (h k : Hedge) (a : AreAlike h k) (x : HasArrays h) (y : HasArrays k) where
  -- behind the links both arrays hold 0
  found_at : (i : ℕ) → i < 64 → slice_index k.links.found i ≡ slice_index h.links.found i
  found_at i lt = elim (cases_lt i h.links.count) [
    | inl less ↦ a.entries i less
    | inr ge ↦ k.links.blank_found i (let e = a.count in omega (arith, e, ge)) ∙ sym (h.links.blank_found i ge)
  ]

  -- and the first has 0 in place of a partner
  partner_at : (i : ℕ) → i < 64 → slice_index k.links.partner i ≡ slice_index h.links.partner i
  partner_at zero lt = k.links.start ∙ sym h.links.start
  partner_at (suc i) lt = elim (cases_lt (suc i) h.links.count) [
    | inl less ↦ a.partners (suc i) (omega arith) less
    | inr ge ↦ k.links.blank_partner (suc i) (let e = a.count in omega (arith, e, ge)) ∙ sym (h.links.blank_partner (suc i) ge)
  ]

  links_alike : links_view k.links ≡ links_view h.links
  links_alike =
      let found = same_array h.links.found k.links.found x.links.found y.links.found found_at in
      let partner = same_array h.links.partner k.links.partner x.links.partner y.links.partner partner_at in
      λ i. zip (take (a.count i) (found i)) (take (a.count i) (partner i))

  pub views_alike : hedge_view k ≡ hedge_view h
  views_alike =
      let choice = same_array h.choice.next k.choice.next x.choice y.choice a.choices in
      λ i. record { big = a.big i; small = a.small i; roots = a.roots i; choice = choice i; links = links_alike i }
