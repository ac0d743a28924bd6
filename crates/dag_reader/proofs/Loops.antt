-- The first edge of a vertex to itself, group by group.
use Rattle.std.proofs.Common.{◌≡◌, ℕ, Bool, true, false, List, [], ◌∷◌, ◌++◌, map, Option, Some, None, refl, sym, ap, ◌∙◌, append_assoc}
use Rattle.std.specs.Prelude.{cond, ◌==◌, ◌||◌, find, option_map}
use Rattle.std.specs.List.{list_any}
use Rattle.dag_reader.specs.declared.marks.Arrow.{Arrow}
use Rattle.std.proofs.Common.{◌≤◌, ◌-◌, length, drop, take, get_or, arith}
use Rattle.std.proofs.lemmas.List.{take_rest}
use Rattle.dag_reader.specs.declared.marks.Remark.{Remark}
use Rattle.dag_reader.specs.declared.marks.Remark.TheVariants.{Begins, Joined}
use Rattle.dag_reader.specs.Passes.{Edge, pairs, is_self_loop, edges_behind, members}

abbrev pub looped : List Edge → Option ℕ
looped es = option_map (λ (e : Edge). e.left) (find is_self_loop es)

abbrev pub or_else : Option ℕ → Option ℕ → Option ℕ
or_else (Some v) o = Some v
or_else None o = o

one_step : (b c : Bool) (l : ℕ) (e : Edge) (o : Option Edge) (q : Option ℕ) → e.left ≡ l → option_map (λ (x : Edge). x.left) o ≡ cond c (Some l) q
    → option_map (λ (x : Edge). x.left) (cond b (Some e) o) ≡ cond (b || c) (Some l) q
one_step true c l e o q is h = ap (λ (n : ℕ). Some n) is
one_step false c l e o q is h = h

one_left : (l : ℕ) (a : Arrow) (rs : List ℕ) (more : List Edge)
    → looped (map (λ r. record { left = l; arrow = a; right = r }) rs ++ more) ≡ cond (list_any (λ r. l == r) rs) (Some l) (looped more)
one_left l a [] more = refl
one_left l a (r ∷ rs) more = one_step (l == r) (list_any (λ r. l == r) rs) l _ _ (looped more) refl (one_left l a rs more)

joined_step : (b : Bool) (l : ℕ) (o : Option ℕ) (q : Option ℕ) → cond b (Some l) (or_else o q) ≡ or_else (cond b (Some l) o) q
joined_step true l o q = refl
joined_step false l o q = refl

pub pairs_loop : (ls : List ℕ) (a : Arrow) (rs : List ℕ) (more : List Edge)
    → looped (pairs ls a rs ++ more) ≡ or_else (find (λ l. list_any (λ r. l == r) rs) ls) (looped more)
pairs_loop [] a rs more = refl
pairs_loop (l ∷ ls) a rs more =
    ap looped (append_assoc (map (λ r. record { left = l; arrow = a; right = r }) rs) (pairs ls a rs) more)
    ∙ one_left l a rs (pairs ls a rs ++ more)
    ∙ ap (cond (list_any (λ r. l == r) rs) (Some l)) (pairs_loop ls a rs more)
    ∙ joined_step (list_any (λ r. l == r) rs) l (find (λ l. list_any (λ r. l == r) rs) ls) (looped more)

-- at an edge: a member of the group before that is in the group behind, or what comes then
pub at_joined : (left : List ℕ) (marks : List Remark) (a : Arrow) → 1 ≤ length marks → get_or marks 0 Begins ≡ Joined a
    → looped (edges_behind left marks) ≡ or_else (find (λ l. list_any (λ r. l == r) (members (drop 1 marks))) left) (looped (edges_behind [] (drop 1 marks)))
at_joined left [] a h is = absurd (omega arith)
at_joined left (m ∷ ms) a h is = ap (λ (k : Remark). looped (edges_behind left (k ∷ ms))) is ∙ pairs_loop left a (members ms) (edges_behind [] ms)

found_is : (o q : Option ℕ) (v : ℕ) → Some v ≡ o → or_else o q ≡ Some v
found_is None q v h = cc h
found_is (Some w) q v h = sym h

lost_is : (o q : Option ℕ) → ◌≡◌ {A = Option ℕ} None o → or_else o q ≡ q
lost_is None q h = refl
lost_is (Some w) q h = cc h

whole_rest : (marks : List Remark) → take (length marks - 1) (drop 1 marks) ≡ drop 1 marks
whole_rest marks = take_rest marks 1

find_same : (p q : ℕ → Bool) → ((v : ℕ) → p v ≡ q v) → (vs : List ℕ) → find p vs ≡ find q vs
find_same p q is [] = refl
find_same p q is (v ∷ vs) = rw (is v, find_same p q is vs) refl

-- the members of the group behind an edge, as a set
abbrev SetOf : (ℕ → Bool) → List Remark → Type 0
SetOf p marks = (v : ℕ) → p v ≡ list_any (λ r. v == r) (members (take (length marks - 1) (drop 1 marks)))

find_is : (p : ℕ → Bool) (marks : List Remark) (left : List ℕ) → SetOf p marks → find p left ≡ find (λ l. list_any (λ r. l == r) (members (drop 1 marks))) left
find_is p marks left is =
    find_same p (λ l. list_any (λ r. l == r) (members (drop 1 marks)))
    (λ v. is v ∙ ap (λ (ms : List Remark). list_any (λ r. v == r) (members ms)) (whole_rest marks)) left

pub at_found : (p : ℕ → Bool) (left : List ℕ) (marks : List Remark) (a : Arrow) (v : ℕ) → 1 ≤ length marks → get_or marks 0 Begins ≡ Joined a → SetOf p marks
    → Some v ≡ find p left → Some v ≡ looped (edges_behind left marks)
at_found p left marks a v h joined is found =
    sym (at_joined left marks a h joined ∙ found_is (find (λ l. list_any (λ r. l == r) (members (drop 1 marks))) left)
    (looped (edges_behind [] (drop 1 marks))) v
    (found ∙ find_is p marks left is))

pub at_lost : (p : ℕ → Bool) (left new : List ℕ) (marks : List Remark) (a : Arrow) → 1 ≤ length marks → get_or marks 0 Begins ≡ Joined a → SetOf p marks
    → ◌≡◌ {A = Option ℕ} None (find p left) → new ≡ []
    → looped (edges_behind new (take (length marks - 1) (drop 1 marks))) ≡ looped (edges_behind left marks)
at_lost p left new marks a h joined is lost empty =
    ap (λ (l : List ℕ). looped (edges_behind l (take (length marks - 1) (drop 1 marks)))) empty
    ∙ ap (λ (ms : List Remark). looped (edges_behind [] ms)) (whole_rest marks)
    ∙ sym (at_joined left marks a h joined ∙ lost_is (find (λ l. list_any (λ r. l == r) (members (drop 1 marks))) left)
    (looped (edges_behind [] (drop 1 marks)))
    (lost ∙ find_is p marks left is))
