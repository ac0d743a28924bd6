-- One more table of sums among several.
use Rattle.std.proofs.Common.{ℕ, zero, suc, ◌+◌, ◌≡◌, ◌≢◌, ◌<◌, Bool, true, false, ◌||◌, not, cond, eqb, nat_le, List, [], ◌∷◌}
use Rattle.std.proofs.Common.{◌++◌, length, get_or, map, All, refl, sym, ap, subst, ◌∙◌, arith, sum_by, Option, Some, None, MatchOption, Bor, is_some}
use Rattle.std.specs.List.{Contains, list_any}
use Rattle.std.proofs.lemmas.Bool.{eq-eqb, ne_eqb}
use Rattle.std.proofs.lemmas.List.{map-append}
use Rattle.std.proofs.lemmas.List.Elements.{All-nil, All-cons, All-head, All-tail, All-append}
use Rattle.std.proofs.lemmas.List.Sums.{sum_by-cons, sum_by-append}
use Rattle.count_rows.specs.Vocabulary.{Table}
use Rattle.count_table.specs.Sums.{Margin, AreMargins, cells_under, cells_in, sets_with}

-- whether one of these is over the set n
abbrev pub any_over : List Margin → ℕ → Bool
any_over ms n = list_any (λ s. eqb s n) (map (λ (m : Margin). m.set) ms)

any-none : (ms : List Margin) (n : ℕ) → All (λ (m : Margin). m.set ≢ n) ms → any_over ms n ≡ false
any-none [] n h = refl
any-none (m ∷ ms) n h =
    ap (λ b. b || any_over ms n) (ne_eqb m.set n (All-head (λ (x : Margin). x.set ≢ n) m ms h)) ∙ any-none ms n (All-tail (λ (x : Margin). x.set ≢ n) m ms h)

any-some : (ms : List Margin) (m : Margin) (n k : ℕ) → k < length ms → get_or ms k m ≡ m → m.set ≡ n → any_over ms n ≡ true
any-some [] m n k lt e same = absurd (omega arith)
any-some (x ∷ ms) m n zero lt e same = ap (λ b. b || any_over ms n) (eq-eqb x.set n (ap (λ (y : Margin). y.set) e ∙ same))
any-some (x ∷ ms) m n (suc k) lt e same = ap (λ b. eqb x.set n || b) (any-some ms m n k (omega arith) e same) ∙ always (eqb x.set n)
  where
    always : (b : Bool) → (b || true) ≡ true
    always true = refl
    always false = refl

-- what a search for the table of a set found
pub any-found : (ms : List Margin) (n : ℕ) (r : Option (Bor Margin))
    → MatchOption r (All (λ (m : Margin). m.set ≢ n) ms) (λ found. (found.now.set ≡ n) × Contains ms found.now) → any_over ms n ≡ is_some r
any-found ms n None h = any-none ms n h
any-found ms n (Some found) (same, there) = let (k, lt, e) = there in any-some ms found.now n k lt e same

-- the sets, with one that is there already
pub sets_same : (t : Table) (ms : List Margin) (n most : ℕ) → any_over ms n ≡ true
    → sets_with (record { table = t; sets = map (λ (m : Margin). m.set) ms }) n most ≡ map (λ (m : Margin). m.set) ms
sets_same t ms n most e =
    let sets = map (λ (m : Margin). m.set) ms in
    ap (λ b. cond (b || not (nat_le (cells_in (record { table = t; sets = sets }) + cells_under t n) most)) sets (sets ++ n ∷ [])) e

-- and with one more
pub sets_more : (t : Table) (ms after : List Margin) (m : Margin) (n most cells more : ℕ) → AreMargins t ms cells → after ≡ ms ++ m ∷ [] → m.set ≡ n → more
    ≡ cells_under t n
    → any_over ms n ≡ false → nat_le (cells + more) most ≡ true → map (λ (x : Margin). x.set) after
    ≡ sets_with (record { table = t; sets = map (λ (x : Margin). x.set) ms }) n most
sets_more t ms after m n most cells more h e same many none room =
    let sets = map (λ (x : Margin). x.set) ms in
    let fits : nat_le (cells_in (record { table = t; sets = sets }) + cells_under t n) most ≡ true =
    ap (λ k. nat_le (k + cells_under t n) most) (sym h.together)
    ∙ ap (λ k. nat_le (cells + k) most) (sym many) ∙ room in
    ap (map (λ (x : Margin). x.set)) e ∙ map-append (λ (x : Margin). x.set) ms (m ∷ []) ∙ ap (λ k. sets ++ k ∷ []) same
    ∙ sym (ap (λ b. cond (b || not (nat_le (cells_in (record { table = t; sets = sets }) + cells_under t n) most)) sets (sets ++ n ∷ [])) none
    ∙ ap (λ b. cond (false || not b) sets (sets ++ n ∷ [])) fits)

pub margins_more : (t : Table) (ms after : List Margin) (m : Margin) (n cells more : ℕ) → AreMargins t ms cells → after ≡ ms ++ m ∷ [] → m.table ≡ t → m.set
    ≡ n → more ≡ cells_under t n
    → AreMargins t after (cells + more)
margins_more t ms after m n cells more h e table same many =
    let sets = map (λ (x : Margin). x.set) ms in
    let all : map (λ (x : Margin). x.set) after ≡ sets ++ n ∷ [] = ap (map (λ (x : Margin). x.set)) e ∙ map-append (λ (x : Margin). x.set) ms (m ∷ [])
    ∙ ap (λ k. sets ++ k ∷ []) same in
    let sum = ap (sum_by (cells_under t)) all ∙ sum_by-append (cells_under t) sets (n ∷ []) in
    let one = sum_by-cons (cells_under t) n [] in
    let before = h.together in
    record {
      tables = subst (λ (l : List Margin). All (λ (x : Margin). x.table ≡ t) l) (sym e) (All-append (λ (x : Margin). x.table ≡ t) ms (m ∷ []) h.tables (All-cons
          (λ (x : Margin). x.table ≡ t) m [] table (All-nil (λ (x : Margin). x.table ≡ t))));
      together = omega (arith, sum, one, before, many);
    }
