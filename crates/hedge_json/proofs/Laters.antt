-- Values that are written one after another: those of the numbers from 1 on, and four lists of them.
use Rattle.std.proofs.Common.{◌≡◌, ℕ, zero, suc, ◌+◌, ◌<◌, ◌≤◌, nat_lt, cond, List, [], ◌∷◌, ◌++◌, map, refl, sym, ap, ◌∙◌, lt-ltb, arith}
use Rattle.mixed_graph.specs.Vocabulary.{members_below}
use Rattle.json.specs.Json.{Json}
use Rattle.answer_json.specs.Progress.{Progress}
use Rattle.answer_json.specs.Vocabulary.{with_value, with_values}
use Rattle.answer_json.proofs.Arrays.{both_written, member_written}

-- no number below 1 is later than 0
pub none_later : (k : ℕ) → k ≤ 1 → members_below (nat_lt 0) k ≡ []
unfolding members_below
none_later zero h = refl
none_later (suc zero) h = refl
none_later (suc (suc k)) h = absurd (omega arith)

pub one_later : (f : ℕ → Json) (k : ℕ) (p now new : Progress) → 0 < k → now ≡ with_values (map f (members_below (nat_lt 0) k)) p → new ≡ with_value (f k) now
    → new ≡ with_values (map f (members_below (nat_lt 0) (k + 1))) p
one_later f k p now new lt before e =
    e ∙ ap (with_value (f k)) before
    ∙ ap (λ b. with_values (cond b (f k ∷ []) []) (with_values (map f (members_below (nat_lt 0) k)) p)) (sym (lt-ltb 0 k lt))
    ∙ sym (member_written f (nat_lt 0) k p)

pub four_written : (a b d e : List Json) (p : Progress) → with_values (a ++ (b ++ (d ++ e))) p ≡ with_values e (with_values d (with_values b (with_values a p)))
four_written a b d e p = both_written a (b ++ (d ++ e)) p ∙ both_written b (d ++ e) (with_values a p) ∙ both_written d e (with_values b (with_values a p))
