-- Tallies grow by one answer, and by one row.
use Rattle.std.proofs.Common.{ℕ, zero, suc, ◌≡◌, ◌<◌, ◌≤◌, ◌+◌, ◌*◌, Bool, true, false, cond, not, ◌&&◌, ◌==◌, length, inl, inr, refl, sym, ap, ◌∙◌}
use Rattle.std.proofs.Common.{subst, arith}
use Rattle.std.proofs.Math.Nat.{mul-le-mul}
use Rattle.std.proofs.lemmas.Bool.{cases_eq, ne_eqb, eq-eqb}
use Rattle.mixed_graph.specs.Vocabulary.{members_below, MixedGraph}
use Rattle.mixed_graph.proofs.Members.{length-members-suc, length-members-zero, length-members-le, one_if}
use Rattle.survey_command.specs.Counts.{pairs_from}
use Rattle.survey_command.proofs.Counting.{pairs_from_le}
use Rattle.survey_command.specs.Tallies.{IsAnswerFor, IsRowTally, IsTally, count_of_others}
use Rattle.survey_command.specs.declared.tally.Tally.{Tally}

-- sets that are the same below k have as many members there
pub length-members-same : (s t : ℕ → Bool) (k : ℕ) → ((v : ℕ) → v < k → s v ≡ t v) → length (members_below s k) ≡ length (members_below t k)
length-members-same s t zero same = length-members-zero s ∙ sym (length-members-zero t)
length-members-same s t (suc k) same =
    let low = length-members-same s t k (λ v lt. same v (omega arith)) in
    let last : one_if (s k) ≡ one_if (t k) = ap (λ b. one_if b) (same k (omega arith)) in
    omega (arith, low, last, length-members-suc s k, length-members-suc t k)

-- rows that are the same below k have as many pairs there
pairs_from-same : (n : ℕ) (r q : ℕ → ℕ → Bool) (k : ℕ) → ((a b : ℕ) → a < k → r a b ≡ q a b) → pairs_from n r k ≡ pairs_from n q k
pairs_from-same n r q zero same = refl
pairs_from-same n r q (suc k) same =
    let low = pairs_from-same n r q k (λ a b lt. same a b (omega arith)) in
    let row = length-members-same (r k) (q k) n (λ b lt. same k b (omega arith)) in omega (arith, low, row)

-- what the test says once v is the answer at k
pub updated : (ℕ → Bool) → ℕ → Bool → ℕ → Bool
updated r k v b = cond (b == k) v (r b)

updated_at : (r : ℕ → Bool) (k : ℕ) (v : Bool) → updated r k v k ≡ v
unfolding updated
updated_at r k v = rw (eq-eqb k k refl) refl

updated_else : (r : ℕ → Bool) (k : ℕ) (v : Bool) (b : ℕ) → (b ≡ k → ⊥) → updated r k v b ≡ r b
unfolding updated
updated_else r k v b ne = rw (ne_eqb b k ne) refl

-- one more number, other than a, which passes the test or not
others_more : (a k : ℕ) (s t : ℕ → Bool) (v : Bool) → (a ≡ k → ⊥) → ((b : ℕ) → b < k → t b ≡ s b) → t k ≡ v → count_of_others (suc k) a t
    ≡ count_of_others k a s + one_if v
others_more a k s t v ne same at =
    let low = length-members-same (λ b. not (a == b) && t b) (λ b. not (a == b) && s b) k (λ b lt. ap (λ x. not (a == b) && x) (same b lt)) in
    let here : (not (a == k) && t k) ≡ v = rw (ne_eqb a k ne) at in
    let last : one_if (not (a == k) && t k) ≡ one_if v = ap (λ x. one_if x) here in
    omega (arith, low, last, length-members-suc (λ b. not (a == b) && t b) k)

-- the number a itself isn't counted
others_skip : (a k : ℕ) (s : ℕ → Bool) → a ≡ k → count_of_others (suc k) a s ≡ count_of_others k a s
others_skip a k s e =
    let here : (not (a == k) && s k) ≡ false = rw (eq-eqb a k e) refl in
    let last : one_if (not (a == k) && s k) ≡ one_if false = ap (λ x. one_if x) here in
    omega (arith, last, length-members-suc (λ b. not (a == b) && s b) k)

-- no effect yet
pub row_none : (g : MixedGraph) (a : ℕ) (t : Tally) → t.formulas ≡ 0 → t.hedges ≡ 0 → IsRowTally g a 0 t
row_none g a t f h = record {
  is_hedged = λ _. false;
  right = λ b lt. absurd (omega (arith, lt));
  formulas = f ∙ sym (length-members-zero (λ b. not (a == b) && not false));
  hedges = h ∙ sym (length-members-zero (λ b. not (a == b) && false));
}

-- the vertex itself is passed over
pub row_skip : (g : MixedGraph) (a k : ℕ) (t : Tally) → a ≡ k → IsRowTally g a k t → IsRowTally g a (suc k) t
row_skip g a k t e row = record {
  is_hedged = row.is_hedged;
  right = λ b lt ne. elim (cases_eq b k) [ inl q ↦ absurd (ne (e ∙ sym q)) | inr other ↦ row.right b (omega arith) ne ];
  formulas = row.formulas ∙ sym (others_skip a k (λ b. not (row.is_hedged b)) e);
  hedges = row.hedges ∙ sym (others_skip a k row.is_hedged e);
}

-- one answer more
pub row_more : (g : MixedGraph) (a k : ℕ) (t new : Tally) (v : Bool) → (a ≡ k → ⊥) → IsRowTally g a k t → IsAnswerFor g a k v
    → new.formulas ≡ cond v t.formulas (t.formulas + 1) → new.hedges ≡ cond v (t.hedges + 1) t.hedges → IsRowTally g a (suc k) new
row_more g a k t new v ne row answer f h =
    let r : ℕ → Bool = updated row.is_hedged k v in
    let else : (b : ℕ) → b < k → r b ≡ row.is_hedged b = λ b lt. updated_else row.is_hedged k v b (λ e. omega (arith, e, lt)) in
    record {
      is_hedged = r;
      right = λ b lt other. elim (cases_eq b k) [
        | inl e ↦ subst (λ x. IsAnswerFor g a x (r x)) (sym e) (subst (IsAnswerFor g a k) (sym (updated_at row.is_hedged k v)) answer)
        | inr low ↦ subst (IsAnswerFor g a b) (sym (updated_else row.is_hedged k v b low)) (row.right b (omega arith) other)
      ];
      formulas = f ∙ by_formula v ∙ sym (others_more a k (λ b. not (row.is_hedged b)) (λ b. not (r b)) (not v) ne (λ b lt. ap (λ x. not x) (else b lt))
          (ap (λ x. not x) (updated_at row.is_hedged k v)));
      hedges = h ∙ by_hedge v ∙ sym (others_more a k row.is_hedged r v ne else (updated_at row.is_hedged k v));
    }
  where
    by_formula : (x : Bool) → cond x t.formulas (t.formulas + 1) ≡ count_of_others k a (λ b. not (row.is_hedged b)) + one_if (not x)
    by_formula true = let e = row.formulas in omega (arith, e)
    by_formula false = let e = row.formulas in omega (arith, e)

    by_hedge : (x : Bool) → cond x (t.hedges + 1) t.hedges ≡ count_of_others k a row.is_hedged + one_if x
    by_hedge true = let e = row.hedges in omega (arith, e)
    by_hedge false = let e = row.hedges in omega (arith, e)

-- a row has at most as many effects of each kind as vertices below k
row_few : (g : MixedGraph) (a k : ℕ) (t : Tally) → IsRowTally g a k t → (t.formulas ≤ k) × (t.hedges ≤ k)
row_few g a k t row =
    let f = length-members-le (λ b. not (a == b) && not (row.is_hedged b)) k in
    let h = length-members-le (λ b. not (a == b) && row.is_hedged b) k in
    let ef = row.formulas in let eh = row.hedges in (omega (arith, f, ef), omega (arith, h, eh))

-- so one more fits
pub row_room : (g : MixedGraph) (a k : ℕ) (t : Tally) → g.vertices ≤ 64 → k < g.vertices → IsRowTally g a k t → (t.formulas < 64) × (t.hedges < 64)
row_room g a k t small lt row = let few = row_few g a k t row in let f = few.0 in let h = few.1 in (omega (arith, f, small, lt), omega (arith, h, small, lt))

-- no row yet
pub tally_none : (g : MixedGraph) (t : Tally) → t.formulas ≡ 0 → t.hedges ≡ 0 → IsTally g 0 t
tally_none g t f h = record {
  is_hedged = λ _ _. false;
  right = λ a b lt. absurd (omega (arith, lt));
  formulas = f;
  hedges = h;
}

-- what the test says once `row` is the row of k
pub with_row : (ℕ → ℕ → Bool) → ℕ → (ℕ → Bool) → ℕ → ℕ → Bool
with_row r k row a b = cond (a == k) (row b) (r a b)

with_row_at : (r : ℕ → ℕ → Bool) (k : ℕ) (row : ℕ → Bool) (b : ℕ) → with_row r k row k b ≡ row b
unfolding with_row
with_row_at r k row b = rw (eq-eqb k k refl) refl

with_row_else : (r : ℕ → ℕ → Bool) (k : ℕ) (row : ℕ → Bool) (a b : ℕ) → (a ≡ k → ⊥) → with_row r k row a b ≡ r a b
unfolding with_row
with_row_else r k row a b ne = rw (ne_eqb a k ne) refl

-- the pairs of one more row
pairs_more : (n k : ℕ) (r q : ℕ → ℕ → Bool) (row : ℕ → Bool) → ((a b : ℕ) → a < k → q a b ≡ r a b) → ((b : ℕ) → q k b ≡ row b)
    → pairs_from n (λ a b. not (a == b) && q a b) (suc k) ≡ pairs_from n (λ a b. not (a == b) && r a b) k + count_of_others n k row
pairs_more n k r q row same at =
    let low = pairs_from-same n (λ a b. not (a == b) && q a b) (λ a b. not (a == b) && r a b) k (λ a b lt. ap (λ x. not (a == b) && x) (same a b lt)) in
    let last = length-members-same (λ b. not (k == b) && q k b) (λ b. not (k == b) && row b) n (λ b lt. ap (λ x. not (k == b) && x) (at b)) in
    omega (arith, low, last)

-- one row more
pub tally_more : (g : MixedGraph) (k : ℕ) (t row new : Tally) → IsTally g k t → IsRowTally g k g.vertices row
    → new.formulas ≡ t.formulas + row.formulas → new.hedges ≡ t.hedges + row.hedges → IsTally g (suc k) new
tally_more g k t row new before now f h =
    let r : ℕ → ℕ → Bool = with_row before.is_hedged k now.is_hedged in
    let else : (a b : ℕ) → a < k → r a b ≡ before.is_hedged a b = λ a b lt. with_row_else before.is_hedged k now.is_hedged a b (λ e. omega (arith, e, lt)) in
    let at : (b : ℕ) → r k b ≡ now.is_hedged b = λ b. with_row_at before.is_hedged k now.is_hedged b in
    let mf = pairs_more g.vertices k (λ a b. not (before.is_hedged a b)) (λ a b. not (r a b)) (λ b. not (now.is_hedged b))
    (λ a b lt. ap (λ x. not x) (else a b lt)) (λ b. ap (λ x. not x) (at b)) in
    let mh = pairs_more g.vertices k before.is_hedged r now.is_hedged else at in
    let bf = before.formulas in let bh = before.hedges in let nf = now.formulas in let nh = now.hedges in
    record {
      is_hedged = r;
      right = λ a b lt below other. elim (cases_eq a k) [
        | inl e ↦ subst (λ x. IsAnswerFor g x b (r x b)) (sym e) (subst (IsAnswerFor g k b) (sym (at b)) (now.right b below (λ q. other (e ∙ q))))
        | inr low ↦ subst (IsAnswerFor g a b) (sym (with_row_else before.is_hedged k now.is_hedged a b low)) (before.right a b (omega arith) below other)
      ];
      formulas = f ∙ omega (arith, bf, nf) ∙ sym mf;
      hedges = h ∙ omega (arith, bh, nh) ∙ sym mh;
    }

-- k rows have at most n effects of each kind in each row
tally_few : (g : MixedGraph) (k : ℕ) (t : Tally) → IsTally g k t → (t.formulas ≤ g.vertices * k) × (t.hedges ≤ g.vertices * k)
tally_few g k t tally =
    let f = pairs_from_le g.vertices (λ a b. not (a == b) && not (tally.is_hedged a b)) k in
    let h = pairs_from_le g.vertices (λ a b. not (a == b) && tally.is_hedged a b) k in
    let ef = tally.formulas in let eh = tally.hedges in (omega (arith, f, ef), omega (arith, h, eh))

-- from the next number, as recursion has it, to that of a loop
pub at_next : (P : ℕ → Type 0) (k : ℕ) → P (suc k) → P (k + 1)
at_next P k p = let e : suc k ≡ k + 1 = omega arith in subst P e p

-- at most 64 rows of at most 64 make at most 4,096
few_more : (n k x y : ℕ) → n ≤ 64 → k < n → x ≤ n * k → y ≤ n → x + y ≤ 4096
few_more n k x y small lt low row =
    let all : n * (k + 1) ≤ 64 * 64 = let next : k + 1 ≤ 64 = omega (arith, small, lt) in mul-le-mul small next in omega (arith, all, low, row)

-- so a row more fits
pub tally_room : (g : MixedGraph) (k : ℕ) (t row : Tally) → g.vertices ≤ 64 → k < g.vertices → IsTally g k t → IsRowTally g k g.vertices row
    → (t.formulas + row.formulas ≤ 4096) × (t.hedges + row.hedges ≤ 4096)
tally_room g k t row small lt before now =
    let few = tally_few g k t before in let more = row_few g k g.vertices row now in
    (few_more g.vertices k t.formulas row.formulas small lt few.0 more.0, few_more g.vertices k t.hedges row.hedges small lt few.1 more.1)
