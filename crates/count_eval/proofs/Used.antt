-- The used vertices of a table are those that have levels.
use Rattle.std.proofs.Common.{ℕ, zero, suc, ◌≡◌, ◌<◌, ◌≤◌, Bool, true, false, cond, eqb, eqb-true, ne_eqb, ◌||◌, ◌++◌, List, [], ◌∷◌, length, refl}
use Rattle.std.proofs.Common.{sym, ap, ◌∙◌, subst, arith}
use Rattle.std.specs.Prelude.{All, nat_lt}
use Rattle.std.proofs.lemmas.Bool.{lt-ltb}
use Rattle.std.proofs.lemmas.List.Elements.{All-head, All-tail}
use Rattle.mixed_graph.specs.Vocabulary.{has, members_below}
use Rattle.count_rows.specs.Vocabulary.{Field, Table}
use Rattle.count_table.specs.Vocabulary.{AreCounts, levels_in}
use Rattle.count_eval.specs.Programs.{is_used}

-- the number is in the list
abbrev pub among : ℕ → List ℕ → Bool
among v [] = false
among v (u ∷ us) = eqb u v || among v us

among-append : (v : ℕ) (us vs : List ℕ) → among v (us ++ vs) ≡ (among v us || among v vs)
among-append v [] vs = refl
among-append v (u ∷ us) vs = go (eqb u v) (among-append v us vs)
  where
    go : (b : Bool) → among v (us ++ vs) ≡ (among v us || among v vs) → (b || among v (us ++ vs)) ≡ ((b || among v us) || among v vs)
    go true ih = refl
    go false ih = ih

or_false : (b : Bool) → (b || false) ≡ b
or_false true = refl
or_false false = refl

among-other : (v k : ℕ) (b : Bool) → eqb k v ≡ false → among v (cond b (k ∷ []) []) ≡ false
among-other v k true e = ap (λ x. x || false) e
among-other v k false e = refl

among-last : (v k : ℕ) (b : Bool) → eqb k v ≡ true → among v (cond b (k ∷ []) []) ≡ b
among-last v k true e = ap (λ x. x || false) e
among-last v k false e = refl

-- a number from k on isn't a member below k
above-members : (s : ℕ → Bool) (v k : ℕ) → k ≤ v → among v (members_below s k) ≡ false
unfolding members_below
above-members s v zero le = refl
above-members s v (suc k) le =
    among-append v (members_below s k) (cond (s k) (k ∷ []) []) ∙ ap (λ b. b || among v (cond (s k) (k ∷ []) [])) (above-members s v k (omega arith))
    ∙ among-other v k (s k) (ne_eqb k v (λ e. absurd (omega arith)))

among-members : (s : ℕ → Bool) (v k : ℕ) → v < k → among v (members_below s k) ≡ s v
unfolding members_below
among-members s v zero lt = absurd (omega arith)
among-members s v (suc k) lt = among-append v (members_below s k) (cond (s k) (k ∷ []) []) ∙ go (eqb k v) refl (λ h. among-members s v k h)
  where
    go : (b : Bool) → eqb k v ≡ b → (v < k → among v (members_below s k) ≡ s v) → (among v (members_below s k) || among v (cond (s k) (k ∷ []) [])) ≡ s v
    go true e ih =
        let at : k ≡ v = eqb-true k v e in
        ap (λ b. b || among v (cond (s k) (k ∷ []) [])) (above-members s v k (omega (arith, at))) ∙ among-last v k (s k) e ∙ ap s at
    go false e ih = ap (λ b. among v (members_below s k) || b) (among-other v k (s k) e) ∙ or_false (among v (members_below s k)) ∙ ih (grind (arith, e))

-- exactly the numbers in the list of vertices have levels
pub with_levels : (vs : List ℕ) (levels : List (List Field)) (v : ℕ) → length levels ≡ length vs → All (λ ys. 0 < length ys) levels
    → nat_lt 0 (length (levels_in vs levels v)) ≡ among v vs
with_levels [] levels v same some = refl
with_levels (u ∷ us) [] v same some = absurd (omega arith)
with_levels (u ∷ us) (ys ∷ levels) v same some = go (eqb u v) (with_levels us levels v (omega arith) (λ i d lt. some (suc i) d (omega arith)))
  where
    go : (b : Bool) → nat_lt 0 (length (levels_in us levels v)) ≡ among v us → nat_lt 0 (length (cond b ys (levels_in us levels v))) ≡ (b || among v us)
    go true ih = lt-ltb 0 (length ys) (some 0 ys (omega arith))
    go false ih = ih

-- the set of a table's vertices has those that are used
pub used_is : (t : Table) (u v : ℕ) → AreCounts t → members_below (has u) 64 ≡ t.vertices → v < 64 → has u v ≡ is_used t v
used_is t u v are e lt = sym (with_levels t.vertices t.levels v are.matched are.each ∙ ap (among v) (sym e) ∙ among-members (has u) v 64 lt)

among_below : (us : List ℕ) (v : ℕ) → All (λ u. u < 64) us → among v us ≡ true → v < 64
among_below [] v h m = cc m
among_below (u ∷ us) v h m = go (eqb u v) refl m (λ n. among_below us v (All-tail (λ w. w < 64) u us h) n)
  where
    go : (b : Bool) → eqb u v ≡ b → (b || among v us) ≡ true → (among v us ≡ true → v < 64) → v < 64
    go true e m rest = subst (λ w. w < 64) (eqb-true u v e) (All-head (λ w. w < 64) u us h)
    go false e m rest = rest m

-- each used vertex is below 64
pub used_in_range : (t : Table) (v : ℕ) → AreCounts t → is_used t v ≡ true → v < 64
used_in_range t v are h = among_below t.vertices v are.in_range (sym (with_levels t.vertices t.levels v are.matched are.each) ∙ h)
