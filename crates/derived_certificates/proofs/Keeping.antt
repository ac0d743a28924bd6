-- A test of all parts, one after another.
use Rattle.std.proofs.Common.{◌≡◌, ◌<◌, ◌≤◌, ◌+◌, ℕ, Bool, true, ◌&&◌, List, length, get_or, drop, sym, ap, subst, ◌∙◌}
use Rattle.std.proofs.lemmas.List.{at_drop_more, at_drop_all}
use Rattle.derived_parts.specs.declared.part.DerivedPart.{DerivedPart}
use Rattle.derived_parts.specs.Vocabulary.{derived_view, derived_views}
use Rattle.certificate_json.specs.PartCertificates.{are_parts_short, is_part_short}

-- the types keep what they do of these
abbrev pub short : List DerivedPart → Bool
short ps = are_parts_short (derived_views ps)

-- one part more, of a list that is that one
pub next_short : (ps qs : List DerivedPart) (i : ℕ) (p : DerivedPart) → qs ≡ ps → i < length qs → p ≡ get_or qs i p → is_part_short (derived_view p) ≡ true
    → short (drop i ps) ≡ short ps → short (drop (i + 1) ps) ≡ short ps
next_short ps qs i p same lt at here so_far =
    let is : p ≡ get_or ps i p = at ∙ ap (λ (l : List DerivedPart). get_or l i p) same in
    sym (at_drop_more short ps i p (subst (λ (l : List DerivedPart). i < length l) same lt)
    ∙ ap (λ b. b && short (drop (i + 1) ps)) (subst (λ q. is_part_short (derived_view q) ≡ true) is here)) ∙ so_far

-- where no part is left
pub all_short : (ps : List DerivedPart) (i : ℕ) → length ps ≤ i → short (drop i ps) ≡ short ps → short ps ≡ true
all_short ps i le so_far = sym so_far ∙ at_drop_all short ps i le
