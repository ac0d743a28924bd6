-- The counts are the sums over a set that has all used vertices.
use Rattle.std.proofs.Common.{ℕ, ◌≡◌, Bool, true, false, cond, not, ◌&&◌, List, [], ◌∷◌, get_or, map, All, refl, sym, ap, subst, ◌∙◌}
use Rattle.std.specs.List.{filter}
use Rattle.std.proofs.lemmas.Bool.{both_ways}
use Rattle.std.proofs.lemmas.List.Elements.{All-head, All-tail}
use Rattle.mixed_graph.specs.Vocabulary.{has, members_below}
use Rattle.mixed_graph.proofs.Masks.{has-zero}
use Rattle.count_rows.specs.Vocabulary.{Row, Table, product}
use Rattle.count_table.specs.Vocabulary.{IsCell, place_of, AreCounts, AreSums}
use Rattle.count_table.proofs.Choosing.{size_in}
use Rattle.count_table.proofs.Counting.{is_among, counted-alike}
use Rattle.count_table.proofs.VertexSums.{counts-are, among-self}
use Rattle.implications.specs.declared.pairs.Implication.{Implication}
use Rattle.implied_differences.specs.Differences.{whole_of}
use Rattle.implied_differences.proofs.UsedVertices.{all_members}

filter_all : (p : ℕ → Bool) (vs : List ℕ) → All (λ v. p v ≡ true) vs → filter p vs ≡ vs
filter_all p [] h = refl
filter_all p (v ∷ vs) h =
    ap (λ b. cond b (v ∷ filter p vs) (filter p vs)) (All-head (λ u. p u ≡ true) v vs h)
    ∙ ap (λ (l : List ℕ). v ∷ l) (filter_all p vs (All-tail (λ u. p u ≡ true) v vs h))

pub counts_are_sums : (t : Table) → AreCounts t → (i : Implication) (used whole unused : ℕ) → members_below (has used) 64 ≡ t.vertices → has whole ≡ whole_of i
    → ((v : ℕ) → has unused v ≡ (has used v && not (has whole v))) → unused ≡ 0 → (counts : List ℕ) → counts ≡ map (λ (r : Row). r.count) t.rows
    → AreSums t (whole_of i) counts
counts_are_sums t are i used whole unused members is_whole is_rest none counts e =
    let h = counts-are t counts are e in
    let P : List ℕ → (ℕ → ℕ) → Type 0 = λ vs at. IsCell (map (size_in t) vs) (map at vs) in
    record {
      long = h.long ∙ ap (λ (vs : List ℕ). product (map (size_in t) vs)) (sym same);
      each = λ at cell. ap (λ (vs : List ℕ). get_or counts (place_of (map (size_in t) vs) (map at vs)) 0) same
          ∙ h.each at (subst (λ (vs : List ℕ). P vs at) same cell)
          ∙ counted-alike t.vertices t.rows (is_among t.vertices) (whole_of i) at (λ j d lt. among-self t.vertices j d lt ∙ sym (all j d lt));
    }
  where
    go : (u w : Bool) → u ≡ true → (u && not w) ≡ false → w ≡ true
    go true true f g = refl
    go true false f g = absurd (both_ways true g refl)
    go false w f g = absurd (both_ways false refl f)

    all : All (λ v. whole_of i v ≡ true) t.vertices
    all = subst (λ (l : List ℕ). All (λ v. whole_of i v ≡ true) l) members (all_members (λ v. whole_of i v ≡ true) (has used) 64
        (λ v f. ap (λ s. s v) (sym is_whole) ∙ go (has used v) (has whole v) f (sym (is_rest v) ∙ ap (λ m. has m v) none ∙ has-zero v)))

    same : filter (whole_of i) t.vertices ≡ t.vertices
    same = filter_all (whole_of i) t.vertices all
