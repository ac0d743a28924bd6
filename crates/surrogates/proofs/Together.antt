-- What stops a district under all experiments that leave it alone at once.
use Rattle.std.proofs.Common.{ℕ, suc, ◌+◌, ◌≡◌, ◌<◌, ◌≤◌, ◌||◌, Bool, true, false, cond, inl, inr, List, [], ◌∷◌, length, map, drop, get_or, refl}
use Rattle.std.proofs.Common.{sym, ap, subst, ◌∙◌, arith}
use Rattle.std.proofs.lemmas.List.{at_drop_more, at_drop_all}
use Rattle.std.specs.List.{All}
use Rattle.mixed_graph.specs.declared.sets.VSet.{VSet}
use Rattle.mixed_graph.specs.Vocabulary.{has, MixedGraph, is_apart, union, Within}
use Rattle.mixed_graph.proofs.Masks.{same_from_has}
use Rattle.mixed_graph.proofs.MaskLaws.{has_join, has_none, join_assoc, join-zero}
use Rattle.hedge.specs.Vocabulary.{IsMaximalJoined}
use Rattle.prob_expr.specs.Vocabulary.{masks_of}
use Rattle.prob_expr.specs.View.{view}
use Rattle.identify.specs.declared.factors.district_factor.Factor.{Factor}
use Rattle.surrogates.proofs.Blocked.{stop_at}
use Rattle.surrogates.proofs.Unique.{factor_or_stop}
use Rattle.surrogates.specs.Common.{around}
use Rattle.surrogates.specs.Surrogates.{IsAmong, IsStoppedUnder, StopsWith}
use Rattle.surrogates.specs.Tries.{IsDistrictFrom, IsTried}

-- nothing is taken at first
pub none_taken : (a : ℕ) → union 0 a ≡ a
none_taken a = same_from_has (union 0 a) a (λ v. has_join 0 a v ∙ ap (λ p. p || has a v) (has_none v))

-- what is taken of one more experiment isn't left any more
taken_more : (c taken z : ℕ) (rest : List ℕ) → union (cond (is_apart z c) (union taken z) taken) (around c rest) ≡ union taken (around c (z ∷ rest))
taken_more c taken z rest = go (is_apart z c)
  where
    go : (b : Bool) → union (cond b (union taken z) taken) (around c rest) ≡ union taken (cond b (union z (around c rest)) (around c rest))
    go true = join_assoc taken z (around c rest)
    go false = refl

-- ---- the experiments as the loop goes over them
pub next_taken : (c taken next : ℕ) (sets : List VSet) (i : ℕ) → i < length sets
    → next ≡ cond (is_apart (get_or sets i (record { bits = 0 })).bits c) (union taken (get_or sets i (record { bits = 0 })).bits) taken
    → union taken (around c (masks_of (drop i sets))) ≡ around c (masks_of sets) → union next (around c (masks_of (drop (i + 1) sets)))
    ≡ around c (masks_of sets)
next_taken c taken next sets i lt is before =
    ap (λ n. union n (around c (masks_of (drop (i + 1) sets)))) is
    ∙ taken_more c taken (get_or sets i (record { bits = 0 })).bits (masks_of (drop (i + 1) sets))
    ∙ ap (λ l. union taken (around c l)) (sym (at_drop_more (λ l. masks_of l) sets i (record { bits = 0 }) lt))
    ∙ before

pub all_taken : (c taken : ℕ) (sets : List VSet) (i : ℕ) → length sets ≤ i
    → union taken (around c (masks_of (drop i sets))) ≡ around c (masks_of sets) → taken ≡ around c (masks_of sets)
all_taken c taken sets i le before =
    sym (join-zero taken) ∙ ap (λ l. union taken (around c l)) (sym (at_drop_all (λ l. masks_of l) sets i le)) ∙ before

-- ---- what stops
-- where the district has a factor, it doesn't stop
pub freed : (g : MixedGraph) (z c k : ℕ) (f : Factor) → IsTried g z c k f → (big : ℕ) → IsStoppedUnder g z c big → ⊥
freed g z c k f is big stop = factor_or_stop g z c k (map view f.defs.items) (view f.value) big is.derived.made stop

-- what holds of each set of a list holds of one of them
of_among : (P : ℕ → Type 0) (c : ℕ) (ts : List ℕ) → All P ts → IsAmong c ts → P c
of_among P c [] each among = absurd among
of_among P c (t ∷ ts) each (inl e) = subst P (sym e) (each 0 0 (omega arith))
of_among P c (t ∷ ts) each (inr m) = of_among P c ts (λ k d lt. each (suc k) d (omega arith)) m

-- the set at which the procedure stops is a district
pub stops_at_district : (g : MixedGraph) (zs : List ℕ) (d : ℕ) (ts : List ℕ) (small big : ℕ) → Within g.vertices (has d) → All (IsMaximalJoined g d) ts
    → StopsWith g zs 0 ts small big → IsDistrictFrom g small 0
stops_at_district g zs d ts small big low each stops =
    let is = of_among (IsMaximalJoined g d) small ts each (stop_at g zs 0 ts small big stops).among in
    record { within = λ v i. low v (is.inside v i); some = is.some; joined = is.joined; room = omega arith }

pub stops_alone : (g : MixedGraph) (zs ts : List ℕ) (small big : ℕ) → StopsWith g zs 0 ts small big → IsStoppedUnder g 0 small big
stops_alone g zs ts small big stops = (stop_at g zs 0 ts small big stops).stop
