-- The mechanisms of the data read what they may.
use Rattle.std.proofs.Common.{ℕ, zero, suc, ◌+◌, ◌≡◌, ◌<◌, ◌≤◌, Bool, true, false, cond, ◌⊎◌, inl, inr, Option, Some, None, refl, ap, ◌∙◌, [], ◌∷◌}
use Rattle.std.proofs.Common.{◌++◌, length, get_or, arith}
use Rattle.std.proofs.lemmas.Bool.{cases_lt}
use Rattle.mixed_graph.specs.Vocabulary.{members_below, MixedGraph}
use Rattle.mixed_graph.proofs.Members.{one_if, length-members-suc, length-members-zero}
use Rattle.finite_models.specs.declared.model.Model.{Model}
use Rattle.finite_models.specs.declared.model.Part.{Part}
use Rattle.finite_models.specs.Vocabulary.{HedgeMayRead, MayRead}
use Rattle.counter_models.specs.Pairs.{IsPartWhere}
use Rattle.counter_models.proofs.Counted.{get-first, get-last}
use Rattle.counter_models.proofs.Lists.{members-suc}

-- each entry is a member
pub member_at : (p : ℕ → Bool) (k i : ℕ) → i < length (members_below p k) → (get_or (members_below p k) i 0 < k) × (p (get_or (members_below p k) i 0) ≡ true)
member_at p zero i lt = absurd (let z = length-members-zero p in omega arith)
member_at p (suc k) i lt = go (cases_lt i (length (members_below p k))) (p k) refl (member_at p k i)
  where
    go : (i < length (members_below p k)) ⊎ (length (members_below p k) ≤ i) → (b : Bool) → p k ≡ b
        → (i < length (members_below p k) → (get_or (members_below p k) i 0 < k) × (p (get_or (members_below p k) i 0) ≡ true))
        → (get_or (members_below p (suc k)) i 0 < suc k) × (p (get_or (members_below p (suc k)) i 0) ≡ true)
    go (inl l) b e ih = let m = ih l in
        let q : get_or (members_below p (suc k)) i 0 ≡ get_or (members_below p k) i 0 = ap (λ r. get_or r i 0) (members-suc p k)
        ∙ get-first (members_below p k) (cond (p k) (k ∷ []) []) i 0 l in
        rw q ((let t = m.0 in omega arith), m.1)
    go (inr ge) true e ih =
        let n : length (members_below p (suc k)) ≡ length (members_below p k) + 1 = length-members-suc p k
        ∙ ap (λ b. length (members_below p k) + one_if b) e in
        let q : get_or (members_below p (suc k)) i 0 ≡ k = ap (λ r. get_or r i 0) (members-suc p k)
        ∙ ap (λ b. get_or (members_below p k ++ cond b (k ∷ []) []) i 0) e ∙ get-last (members_below p k) k i 0 (omega arith) in
        rw q (omega arith, e)
    go (inr ge) false e ih = absurd (let n : length (members_below p (suc k)) ≡ length (members_below p k) + 0 = length-members-suc p k
        ∙ ap (λ b. length (members_below p k) + one_if b) e in omega arith)

-- a hedge part that is there reads what it may
pub hedge_reads : (g : MixedGraph) (m : Model) (v : ℕ) (b : Bool) (P : Part → Type 0) → ((p : Part) → P p → MayRead g m v p × (p.own_hedge ≡ false))
    → (o : Option Part) → IsPartWhere b P o → HedgeMayRead g m v o
hedge_reads g m v true P h (Some p) i = h p i
hedge_reads g m v true P h None i = absurd i
hedge_reads g m v false P h (Some p) i = absurd i
hedge_reads g m v false P h None i = tt
