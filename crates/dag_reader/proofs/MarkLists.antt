-- Marks whose members are among the names stay so when names come.
use Rattle.std.proofs.lemmas.List.{take_rest}
use Rattle.std.proofs.Common.{◌≡◌, ◌≤◌, ◌<◌, ◌-◌, take, drop, ℕ, zero, suc, Bool, true, false, List, [], ◌∷◌, ◌++◌, length, get_or, refl, arith}
use Rattle.std.proofs.Common.{length-append, sym, ap, ◌∙◌, subst}
use Rattle.std.specs.Prelude.{nat_lt, cond, Result, Ok, Err, OnOk, OnErr}
use Rattle.mixed_graph.specs.declared.names.AddFault.{AddFault}
use Rattle.mixed_graph.specs.Vocabulary.{with_name, is_named}
use Rattle.std.specs.List.{list_all}
use Rattle.std.proofs.lemmas.Bool.{ltb-true, lt-ltb, and_parts, and_from}
use Rattle.dag_reader.specs.declared.marks.Remark.{Remark}
use Rattle.dag_reader.specs.declared.marks.Remark.TheVariants.{Begins, Joined, Member, HasRole}
use Rattle.dag_reader.specs.MarkEnds.{is_inside}

inside_more : (n m : ℕ) (mark : Remark) → n ≤ m → is_inside n mark ≡ true → is_inside m mark ≡ true
inside_more n m Begins h k = refl
inside_more n m (Joined a) h k = refl
inside_more n m (Member v) h k = let below = ltb-true v n k in lt-ltb v m (omega arith)
inside_more n m (HasRole r) h k = refl

pub all_inside_more : (n m : ℕ) (marks : List Remark) → n ≤ m → list_all (is_inside n) marks ≡ true → list_all (is_inside m) marks ≡ true
all_inside_more n m [] h k = refl
all_inside_more n m (x ∷ xs) h k =
    let parts = and_parts (is_inside n x) (list_all (is_inside n) xs) k in
    and_from (is_inside m x) (list_all (is_inside m) xs) (inside_more n m x h parts.0) (all_inside_more n m xs h parts.1)

more_or_same : (b : Bool) (names : List (List ℕ)) (name : List ℕ) → length names ≤ length (cond b names (names ++ name ∷ []))
more_or_same true names name = omega arith
more_or_same false names name = omega (arith, length-append names (name ∷ []))

-- a list of names never gets shorter
pub with_name-longer : (names : List (List ℕ)) (name : List ℕ) → length names ≤ length (with_name names name)
with_name-longer names name = more_or_same (is_named names name) names name

-- the marks stay inside when a name is added, or isn't
pub inside-add : (r : Result ℕ AddFault) (old new : List (List ℕ)) (name : List ℕ) (marks : List Remark) → OnOk r (new ≡ with_name old name)
    → OnErr r (new ≡ old)
    → list_all (is_inside (length old)) marks ≡ true → list_all (is_inside (length new)) marks ≡ true
inside-add (Ok i) old new name marks ok err h =
    subst (λ (l : List (List ℕ)). list_all (is_inside (length l)) marks ≡ true) (sym ok)
    (all_inside_more (length old) (length (with_name old name)) marks (with_name-longer old name) h)
inside-add (Err e) old new name marks ok err h =
    subst (λ (l : List (List ℕ)). list_all (is_inside (length l)) marks ≡ true) (sym err) h

-- a member among the marks is inside
pub member_inside : (n : ℕ) (marks : List Remark) (i v : ℕ) → list_all (is_inside n) marks ≡ true → i < length marks → get_or marks i Begins ≡ Member v → v < n
member_inside n [] i v h below is = absurd (omega arith)
member_inside n (m ∷ ms) zero v h below is =
    ltb-true v n (sym (ap (is_inside n) is) ∙ (and_parts (is_inside n m) (list_all (is_inside n) ms) h).0)
member_inside n (m ∷ ms) (suc i) v h below is = member_inside n ms i v (and_parts (is_inside n m) (list_all (is_inside n) ms) h).1 (omega arith) is

-- each number of such a list is below 64
pub number_below : (xs : List ℕ) (i : ℕ) → list_all (λ v. nat_lt v 64) xs ≡ true → i < length xs → get_or xs i 0 < 64
number_below [] i h below = absurd (omega arith)
number_below (x ∷ xs) zero h below = ltb-true x 64 (and_parts (nat_lt x 64) (list_all (λ v. nat_lt v 64) xs) h).0
number_below (x ∷ xs) (suc i) h below = number_below xs i (and_parts (nat_lt x 64) (list_all (λ v. nat_lt v 64) xs) h).1 (omega arith)

-- the marks behind the first
pub inside_behind : (n : ℕ) (marks : List Remark) → list_all (is_inside n) marks ≡ true → 1 ≤ length marks
    → list_all (is_inside n) (take (length marks - 1) (drop 1 marks)) ≡ true
inside_behind n [] h some = absurd (omega arith)
inside_behind n (m ∷ ms) h some =
    subst (λ (l : List Remark). list_all (is_inside n) l ≡ true) (sym (take_rest (m ∷ ms) 1)) (and_parts (is_inside n m) (list_all (is_inside n) ms) h).1
