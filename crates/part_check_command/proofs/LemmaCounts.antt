-- Numbers of lemmas, one more each time.
use Rattle.std.proofs.Common.{◌≡◌, ℕ, ◌+◌, ◌<◌, List, ◌∷◌, [], ◌++◌, length, take, get_or, sym, ap, ◌∙◌}
use Rattle.std.proofs.lemmas.List.{take_more, map-append}
use Rattle.derived_parts.specs.declared.part.DerivedPart.{DerivedPart}
use Rattle.derived_parts.specs.Vocabulary.{derived_view, derived_views}
use Rattle.part_check_command.specs.Right.{lemma_counts}

-- those of the first k + 1 parts
pub counts_more : (ps : List DerivedPart) (k : ℕ) (p : DerivedPart) → k < length ps → p ≡ get_or ps k p
    → lemma_counts (derived_views (take (k + 1) ps)) ≡ lemma_counts (derived_views (take k ps)) ++ length (derived_view p).derivation.lemmas ∷ []
counts_more ps k p lt at =
    ap (λ l. lemma_counts (derived_views l)) (take_more ps k p lt ∙ ap (λ (d : DerivedPart). take k ps ++ d ∷ []) (sym at))
    ∙ ap lemma_counts (map-append derived_view (take k ps) (p ∷ []))
    ∙ map-append (λ d. length d.derivation.lemmas) (derived_views (take k ps)) (derived_view p ∷ [])
