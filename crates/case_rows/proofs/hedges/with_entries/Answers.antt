use Rattle.std.proofs.Common.{◌≡◌, ℕ, ◌<◌, ◌≤◌, List, length, replicate, set, get_or, length-set, inl, inr, ◌∙◌, arith}
use Rattle.std.proofs.lemmas.Bool.{cases_eq, cases_lt}
use Rattle.std.proofs.lemmas.List.{length-replicate, get_or-replicate, get_or_past, get_or-set_same, get_or-set_other}
use Rattle.mixed_graph.proofs.PairMasks.{blank}
use Rattle.case_rows.proofs.hedges.with_entries.Goals as goal

-- entries of at most 64 stay so where one of at most 64 is written
most_set : (xs : List ℕ) (i x : ℕ) → i < length xs → x ≤ 64 → ((v : ℕ) → get_or xs v 0 ≤ 64) → (v : ℕ) → get_or (set xs i x) v 0 ≤ 64
most_set xs i x room low before v = elim (cases_eq v i) [
  | inl e ↦ rw (e, get_or-set_same xs i x 0 room) low
  | inr d ↦ rw (get_or-set_other xs i v x 0 d) (before v)
]

most_none : (v : ℕ) → get_or (replicate 64 64) v 0 ≤ 64
most_none v = elim (cases_lt v 64) [
  | inl l ↦ let e : ◌≡◌ {A = ℕ} (get_or (replicate 64 64) v 0) 64 = get_or-replicate 64 v 64 0 l in omega arith
  | inr ge ↦ let e : ◌≡◌ {A = ℕ} (get_or (replicate 64 64) v 0) 0 = get_or_past (replicate 64 64) v 0 (simp length-replicate ge) in omega arith
]

pub invariant_of-result : goal.invariant_of-result
invariant_of-result c = record {
  in_range =
      most_set (set (set (replicate 64 64) 0 c.min.result) 1 c.min-2.result) 2 c.min-3.result (simp (length-set, length-replicate) (omega arith))
      (let e = c.min-3.ensures in omega arith)
      (most_set (set (replicate 64 64) 0 c.min.result) 1 c.min-2.result (simp (length-set, length-replicate) (omega arith))
      (let e = c.min-2.ensures in omega arith)
      (most_set (replicate 64 64) 0 c.min.result (simp length-replicate (omega arith)) (let e = c.min.ensures in omega arith) most_none));
}

two_set : (a b i : ℕ) → 2 ≤ i → get_or (set (set (replicate 64 0) 0 a) 1 b) i 0 ≡ 0
two_set a b i l = get_or-set_other (set (replicate 64 0) 0 a) 1 i b 0 (omega arith) ∙ (get_or-set_other (replicate 64 0) 0 i a 0 (omega arith) ∙ blank 64 i)

pub invariant_of-result-2 : goal.invariant_of-result-2
invariant_of-result-2 c = record {
  in_range = omega arith;
  blank_found = two_set _ _;
  blank_partner = λ i l. get_or-set_other (replicate 64 0) 1 i c.args.partner 0 (omega arith) ∙ blank 64 i;
  start = get_or-set_other (replicate 64 0) 1 0 c.args.partner 0 (omega arith) ∙ blank 64 0;
}
