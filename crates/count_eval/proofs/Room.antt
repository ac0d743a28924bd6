-- Tables of sums are added only where there is room.
use Rattle.std.proofs.Common.{ℕ, ◌+◌, ◌≡◌, ◌≤◌, Bool, true, false, ◌||◌, not, cond, nat_le, ◌==◌, [], ◌∷◌, ◌++◌, refl, sym, ap, subst, ◌∙◌, arith}
use Rattle.std.proofs.Common.{sum_by, Result, Ok, Err}
use Rattle.std.specs.Prelude.{MatchResult}
use Rattle.std.specs.List.{list_any}
use Rattle.std.proofs.lemmas.Bool.{leb-true}
use Rattle.std.proofs.lemmas.List.Sums.{sum_by-cons, sum_by-append}
use Rattle.count_table.specs.Vocabulary.{Margins, cells_under, cells_in, sets_with}

-- with sums over one more set there are still at most so many cells
room_with : (m : Margins) (n most : ℕ) → cells_in m ≤ most → sum_by (cells_under m.table) (sets_with m n most) ≤ most
room_with m n most h = go (list_any (λ s. s == n) m.sets) (nat_le (cells_in m + cells_under m.table n) most) refl
  where
    go : (there fits : Bool) → nat_le (cells_in m + cells_under m.table n) most ≡ fits
        → sum_by (cells_under m.table) (cond (there || not fits) m.sets (m.sets ++ n ∷ [])) ≤ most
    go true fits e = h
    go false false e = h
    go false true e =
        let within = leb-true (cells_in m + cells_under m.table n) most e in
        let all = sum_by-append (cells_under m.table) m.sets (n ∷ []) in
        let one = sum_by-cons (cells_under m.table) n [] in
        omega (arith, within, all, one)

-- what adding sums over one set leaves
pub room_kept : {A E : Type 0} (old new : Margins) (n most : ℕ) (r : Result A E) → new.table ≡ old.table
    → MatchResult r (λ _. new.sets ≡ sets_with old n most) (λ _. new.sets ≡ old.sets)
    → cells_in old ≤ most → cells_in new ≤ most
room_kept old new n most (Ok a) table sets h =
    subst (λ k. k ≤ most) (sym (ap (λ t. sum_by (cells_under t) new.sets) table ∙ ap (sum_by (cells_under old.table)) sets)) (room_with old n most h)
room_kept old new n most (Err e) table sets h =
    subst (λ k. k ≤ most) (sym (ap (λ t. sum_by (cells_under t) new.sets) table ∙ ap (sum_by (cells_under old.table)) sets)) h
