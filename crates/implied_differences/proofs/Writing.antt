-- An assignment in which the levels of two further vertices are written.
use Rattle.std.proofs.Common.{ℕ, ◌≡◌, ◌≢◌, ◌<◌, List, length, get_or, set, map, All, ap, subst, sym, ◌∙◌, length-set}
use Rattle.std.proofs.lemmas.List.{get_or-set_same, get_or-set_other}
use Rattle.std.proofs.lemmas.List.Elements.{All-weaker}
use Rattle.count_table.specs.Vocabulary.{IsCell, place_of, HasCell, place_at}
use Rattle.count_table.specs.Axes.{Axes}
use Rattle.count_table.proofs.Lists.{map-same}

module _ (axes : Axes) (r : List ℕ) (a b x y : ℕ) (long : length r ≡ 64) (al : a < 64) (bl : b < 64) (differ : a ≢ b) (a_out : All (λ u. u ≢ a) axes.vertices)
    (b_out : All (λ u. u ≢ b) axes.vertices) where
  abbrev pub written : List ℕ
  written = set (set r a x) b y

  pub written_length : length written ≡ 64
  written_length = length-set (set r a x) b y ∙ length-set r a x ∙ long

  pub written_other : (v : ℕ) → v ≢ a → v ≢ b → get_or written v 0 ≡ get_or r v 0
  written_other v na nb = get_or-set_other (set r a x) b v y 0 nb ∙ get_or-set_other r a v x 0 na

  pub written_first : get_or written a 0 ≡ x
  written_first = get_or-set_other (set r a x) b a y 0 differ ∙ get_or-set_same r a x 0 (subst (λ n. a < n) (sym long) al)

  pub written_second : get_or written b 0 ≡ y
  written_second = get_or-set_same (set r a x) b y 0 (subst (λ n. b < n) (sym (length-set r a x ∙ long)) bl)

  same_levels : map (λ v. get_or written v 0) axes.vertices ≡ map (λ v. get_or r v 0) axes.vertices
  same_levels = map-same (λ v. get_or written v 0) (λ v. get_or r v 0) axes.vertices
      (λ k d lt. written_other (get_or axes.vertices k d) (a_out k d lt) (b_out k d lt))

  pub written_cell : HasCell axes r → HasCell axes written
  written_cell h = record {
    there = All-weaker (λ v. v < length r) (λ v. v < length written) (λ v lt. subst (λ n. v < n) (long ∙ sym written_length) lt) axes.vertices h.there;
    cell = subst (λ (l : List ℕ). IsCell axes.sizes l) (sym same_levels) h.cell;
  }

  pub written_place : place_at axes (λ v. get_or written v 0) ≡ place_at axes (λ v. get_or r v 0)
  written_place = ap (place_of axes.sizes) same_levels
