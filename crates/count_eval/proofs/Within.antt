-- A cell copied as far as a vertex, with 0 outside a set.
use Rattle.std.proofs.Common.{ℕ, ◌+◌, ◌≡◌, ◌≢◌, ◌<◌, ◌≤◌, ◌∙◌, Bool, true, false, cond, List, length, get_or, set, get_or-set_other, get_or-set_same}
use Rattle.std.proofs.Common.{below_more, sym, ap, arith}
use Rattle.std.proofs.Math.ListN.{length-set}
use Rattle.mixed_graph.specs.Vocabulary.{has}

pub record IsWithin (mask : ℕ) (cell within : List ℕ) (v : ℕ) : Type 0 where
  pub long : length within ≡ 64
  pub kept : (u : ℕ) → u < v → get_or within u 0 ≡ cond (has mask u) (get_or cell u 0) 0
  pub rest : (u : ℕ) → v ≤ u → get_or within u 0 ≡ 0

pub within_more : (mask : ℕ) (cell within : List ℕ) (v : ℕ) → v < length within → IsWithin mask cell within v → has mask v ≡ true
    → IsWithin mask cell (set within v (get_or cell v 0)) (v + 1)
within_more mask cell within v lt h member = record {
  long = length-set within v (get_or cell v 0) ∙ h.long;
  kept = below_more _ _ (λ u le. let ne : u ≢ v = omega arith in rw get_or-set_other (h.kept u le))
      (rw get_or-set_same (sym (ap (λ (b : Bool). cond b (get_or cell v 0) 0) member)));
  rest = λ u le. let ne : u ≢ v = omega arith in rw get_or-set_other (h.rest u (omega arith));
}

pub within_skip : (mask : ℕ) (cell within : List ℕ) (v : ℕ) → IsWithin mask cell within v → has mask v ≡ false → IsWithin mask cell within (v + 1)
within_skip mask cell within v h outside = record {
  long = h.long;
  kept = below_more _ _ h.kept (h.rest v (omega arith) ∙ sym (ap (λ (b : Bool). cond b (get_or cell v 0) 0) outside));
  rest = λ u le. h.rest u (omega arith);
}
