-- Rows of bits that are written one after the other.
use Rattle.std.proofs.Common.{◌≡◌, ◌≢◌, ℕ, ◌+◌, ◌<◌, ◌≤◌, Bool, false, List, get_or, set, replicate, length, length-set, ap, ◌∙◌, sym, arith, inl, inr}
use Rattle.std.proofs.lemmas.Bool.{cases_eq, cases_lt}
use Rattle.std.proofs.lemmas.List.{get_or-set_same, get_or-set_other, length-replicate}
use Rattle.mixed_graph.specs.Vocabulary.{has}
use Rattle.mixed_graph.proofs.Masks.{has-zero}
use Rattle.mixed_graph.proofs.PairMasks.{blank}

-- the first i of 64 rows hold what f says, and the others are empty
pub record AreRows (f : ℕ → ℕ → Bool) (i : ℕ) (m : List ℕ) : Type 0 where
  pub made : (a b : ℕ) → a < i → has (get_or m a 0) b ≡ f a b
  pub rest : (a : ℕ) → i ≤ a → get_or m a 0 ≡ 0
  pub size : length m ≡ 64

-- at the start all 64 rows are empty
pub no_row : (f : ℕ → ℕ → Bool) → AreRows f 0 (replicate 64 0)
no_row f = record {
  made = λ a b h. absurd (omega arith);
  rest = λ a h. blank 64 a;
  size = length-replicate {A = ℕ} 64 0;
}

-- where row i is set to what f says of i, one more row holds what f says
pub row_more : (f : ℕ → ℕ → Bool) (i x : ℕ) (m : List ℕ) → i < 64 → ((b : ℕ) → has x b ≡ f i b) → AreRows f i m → AreRows f (i + 1) (set m i x)
row_more f i x m below is r = record {
  made = λ a b h. elim (cases_eq a i) [
    | inl e ↦ rw e (ap (λ t. has t b) (get_or-set_same m i x 0 (let s = r.size in omega (arith, s))) ∙ is b)
    | inr d ↦ ap (λ t. has t b) (get_or-set_other m i a x 0 d) ∙ r.made a b (omega arith)
  ];
  rest = λ a h. (let d : a ≢ i = omega arith in get_or-set_other m i a x 0 d ∙ r.rest a (omega arith));
  size = simp length-set r.size;
}

-- all rows, where f says nothing of those from i on
pub rows_whole : (f : ℕ → ℕ → Bool) (i : ℕ) (m : List ℕ) → AreRows f i m → ((a b : ℕ) → i ≤ a → f a b ≡ false) → (a b : ℕ) → has (get_or m a 0) b ≡ f a b
rows_whole f i m r out a b = elim (cases_lt a i) [
  | inl lt ↦ r.made a b lt
  | inr ge ↦ ap (λ t. has t b) (r.rest a ge) ∙ has-zero b ∙ sym (out a b ge)
]
