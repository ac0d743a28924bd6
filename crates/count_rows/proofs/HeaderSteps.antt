-- Names, sought in a header.
use Rattle.std.proofs.Common.{◌≡◌, ℕ, zero, suc, ◌+◌, ◌<◌, ◌≤◌, Bool, true, false, cond, not, ◌==◌, List, [], ◌∷◌, ◌++◌, length, take, drop, get_or}
use Rattle.std.proofs.Common.{drop-cons, inl, inr, refl, ap, sym, ◌∙◌, arith, Option, Some, None}
use Rattle.std.specs.Prelude.{map, count_by, slice_get}
use Rattle.std.specs.List.{position_or_len}
use Rattle.std.specs.Str.{bytes_eq}
use Rattle.std.proofs.lemmas.Bool.{cases_Bool, ne_eqb}
use Rattle.std.proofs.lemmas.List.{map-append, take_more, take-append-drop}
use Rattle.std.proofs.lemmas.Option.{get_or_from_slice_get}
use Rattle.mixed_graph.specs.Vocabulary.{name_of}
use Rattle.std.proofs.lemmas.List.Sums.{sum_by-cons}
use Rattle.csv.specs.Records.{field_at}
use Rattle.count_rows.specs.declared.fault.CountFault.{CountFault}
use Rattle.count_rows.specs.declared.fault.CountFault.TheVariants.{NoColumn, TwoColumns}
use Rattle.count_rows.specs.Faults.{name_fault, header_fault, or_else}

-- a field that isn't there reads as empty
pub no_field : (fields : List (List ℕ)) (i : ℕ) → field_at fields i ≡ None → ◌≡◌ {A = List ℕ} [] (get_or fields i [])
unfolding field_at
no_field [] i e = refl
no_field (f ∷ fs) zero e = absurd (cc e)
no_field (f ∷ fs) (suc i) e = no_field fs i e

step_over : (b : Bool) (n : ℕ) → b ≡ false → cond (not b) (1 + n) 0 ≡ suc n
step_over true n e = absurd (cc e)
step_over false n e = omega arith

stop_at : (b : Bool) (n : ℕ) → b ≡ true → cond (not b) (1 + n) 0 ≡ 0
stop_at true n e = refl
stop_at false n e = absurd (cc e)

split_at : (xs : List (List ℕ)) (at : ℕ) → at < length xs → drop at xs ≡ get_or xs at [] ∷ drop (at + 1) xs
split_at xs at h = drop-cons xs at [] h ∙ ap (λ j. get_or xs at [] ∷ drop j xs) (let k : suc at ≡ at + 1 = omega arith in k)

-- the place of what stands here
pub found_at : (p : List ℕ → Bool) (xs : List (List ℕ)) (at : ℕ) → at < length xs → p (get_or xs at []) ≡ true → position_or_len p (drop at xs) ≡ 0
found_at p xs at h e = rw (split_at xs at h) (stop_at (p (get_or xs at [])) (position_or_len p (drop (at + 1) xs)) e)

-- the place of what doesn't stand here
pub not_at : (p : List ℕ → Bool) (xs : List (List ℕ)) (at : ℕ) → at < length xs → p (get_or xs at []) ≡ false →
    at + position_or_len p (drop at xs) ≡ at + 1 + position_or_len p (drop (at + 1) xs)
not_at p xs at h e =
    let s : position_or_len p (drop at xs) ≡ suc (position_or_len p (drop (at + 1) xs)) =
    rw (split_at xs at h) (step_over (p (get_or xs at [])) (position_or_len p (drop (at + 1) xs)) e) in
    omega (arith, s)

-- what isn't there is there no time
count_none : (p : List ℕ → Bool) (xs : List (List ℕ)) → position_or_len p xs ≡ length xs → count_by p xs ≡ 0
count_none p [] e = refl
count_none p (x ∷ xs) e = elim (cases_Bool (p x)) [
  | inl hit ↦ absurd (let s = stop_at (p x) (position_or_len p xs) hit in omega (arith, s, e))
  | inr miss ↦
      let s = step_over (p x) (position_or_len p xs) miss in
      sum_by-cons (λ y. cond (p y) 1 0) x xs ∙ ap (λ b. cond b 1 0 + count_by p xs) miss ∙ ap (λ n. 0 + n) (count_none p xs (omega (arith, s, e))) ∙ omega arith
]

-- what is there is there once more than behind its first place
count_some : (p : List ℕ → Bool) (xs : List (List ℕ)) → position_or_len p xs < length xs → count_by p xs ≡ 1 + count_by p (drop (position_or_len p xs + 1) xs)
count_some p [] h = absurd (omega arith)
count_some p (x ∷ xs) h = elim (cases_Bool (p x)) [
  | inl hit ↦
      let s = stop_at (p x) (position_or_len p xs) hit in
      sum_by-cons (λ y. cond (p y) 1 0) x xs ∙ ap (λ b. cond b 1 0 + count_by p xs) hit
      ∙ ap (λ n. 1 + count_by p (drop (n + 1) (x ∷ xs))) {x = 0} (sym s)
  | inr miss ↦
      let s = step_over (p x) (position_or_len p xs) miss in
      let more = count_some p xs (omega (arith, s, h)) in
      let k : suc (position_or_len p xs + 1) ≡ position_or_len p (x ∷ xs) + 1 = omega (arith, s) in
      sum_by-cons (λ y. cond (p y) 1 0) x xs ∙ ap (λ b. cond b 1 0 + count_by p xs) miss ∙ (let z : 0 + count_by p xs ≡ count_by p xs = omega arith in z) ∙ more
      ∙ ap (λ n. 1 + count_by p (drop n (x ∷ xs))) k
]

pub absent : (header : List (List ℕ)) (name : List ℕ) → position_or_len (bytes_eq name) header ≡ length header → name_fault header name ≡ Some (NoColumn name)
absent header name e = rw (count_none (bytes_eq name) header e) refl

pub once : (header : List (List ℕ)) (name : List ℕ) (at : ℕ) → at ≡ position_or_len (bytes_eq name) header → at < length header →
    position_or_len (bytes_eq name) (drop (at + 1) header) ≡ length (drop (at + 1) header) → name_fault header name ≡ None
once header name at is h e =
    let one : count_by (bytes_eq name) header ≡ 1 =
    count_some (bytes_eq name) header (omega (arith, is, h)) ∙ ap (λ n. 1 + count_by (bytes_eq name) (drop (n + 1) header)) (sym is)
    ∙ ap (λ n. 1 + n) (count_none (bytes_eq name) (drop (at + 1) header) e) in
    rw (one) refl

pub twice : (header : List (List ℕ)) (name : List ℕ) (at : ℕ) → at ≡ position_or_len (bytes_eq name) header → at < length header →
    position_or_len (bytes_eq name) (drop (at + 1) header) < length (drop (at + 1) header) → name_fault header name ≡ Some (TwoColumns name)
twice header name at is h e =
    let more : count_by (bytes_eq name) header ≡ 1 + (1 + count_by (bytes_eq name)
    (drop (position_or_len (bytes_eq name) (drop (at + 1) header) + 1) (drop (at + 1) header))) =
    count_some (bytes_eq name) header (omega (arith, is, h)) ∙ ap (λ n. 1 + count_by (bytes_eq name) (drop (n + 1) header)) (sym is)
    ∙ ap (λ n. 1 + n) (count_some (bytes_eq name) (drop (at + 1) header) e) in
    let none : (count_by (bytes_eq name) header == 0) ≡ false = ne_eqb _ _ (omega (arith, more)) in
    let one : (count_by (bytes_eq name) header == 1) ≡ false = ne_eqb _ _ (omega (arith, more)) in
    judged (count_by (bytes_eq name) header == 0) (count_by (bytes_eq name) header == 1) none one
  where
    judged : (b c : Bool) → b ≡ false → c ≡ false → cond b (Some (NoColumn name)) (cond c None (Some (TwoColumns name))) ≡ Some (TwoColumns name)
    judged true c p q = absurd (cc p)
    judged false true p q = absurd (cc q)
    judged false false p q = refl

-- the faults of more names
pub header_fault-append : (header : List (List ℕ)) (xs ys : List (List ℕ)) → header_fault header (xs ++ ys)
    ≡ or_else (header_fault header xs) (header_fault header ys)
unfolding header_fault
header_fault-append header [] ys = refl
header_fault-append header (x ∷ xs) ys = ap (or_else (name_fault header x)) (header_fault-append header xs ys)
    ∙ assoc (name_fault header x) (header_fault header xs) (header_fault header ys)
  where
    assoc : (a b c : Option CountFault) → or_else a (or_else b c) ≡ or_else (or_else a b) c
    assoc None b c = refl
    assoc (Some f) b c = refl

-- nothing is found behind the last field
pub at_end : (p : List ℕ → Bool) (xs : List (List ℕ)) (at : ℕ) → length xs ≤ at → at + position_or_len p (drop at xs) ≡ at
at_end p xs at h = rw (drop_all xs at h) (omega arith)
  where
    drop_all : (ys : List (List ℕ)) (n : ℕ) → length ys ≤ n → drop n ys ≡ []
    drop_all [] zero l = refl
    drop_all [] (suc n) l = refl
    drop_all (y ∷ ys) zero l = absurd (omega arith)
    drop_all (y ∷ ys) (suc n) l = drop_all ys n (omega arith)

-- a name more
pub header_fault-last : (header : List (List ℕ)) (names : List (List ℕ)) (name : List ℕ) → header_fault header names ≡ None
    → header_fault header (names ++ name ∷ []) ≡ name_fault header name
unfolding header_fault
header_fault-last header names name e = header_fault-append header names (name ∷ [])
    ∙ ap (λ (o : Option CountFault). or_else o (or_else (name_fault header name) None)) e ∙ alone (name_fault header name)
  where
    alone : (o : Option CountFault) → or_else o None ≡ o
    alone None = refl
    alone (Some f) = refl

-- the first name at fault
pub header_fault-first : (header : List (List ℕ)) (names more : List (List ℕ)) (name : List ℕ) (fault : CountFault) → header_fault header names ≡ None
    → name_fault header name ≡ Some fault →
    header_fault header (names ++ name ∷ more) ≡ Some fault
unfolding header_fault
header_fault-first header names more name fault e f =
    header_fault-append header names (name ∷ more)
    ∙ ap (λ (o : Option CountFault). or_else o (or_else (name_fault header name) (header_fault header more))) e
    ∙ ap (λ (o : Option CountFault). or_else o (header_fault header more)) f

pub header_fault-nil : (header : List (List ℕ)) → header_fault header [] ≡ None
unfolding header_fault
header_fault-nil header = refl

-- one vertex more
pub names-more : (names : List (List ℕ)) (vertices : List ℕ) (i : ℕ) (name : List ℕ) → i < length vertices → slice_get names (get_or vertices i 0) ≡ Some name →
    map (name_of names) (take (i + 1) vertices) ≡ map (name_of names) (take i vertices) ++ name ∷ []
names-more names vertices i name h e =
    ap (map (name_of names)) (take_more vertices i 0 h) ∙ map-append (name_of names) (take i vertices) (get_or vertices i 0 ∷ [])
    ∙ ap (λ (x : List ℕ). map (name_of names) (take i vertices) ++ x ∷ []) (get_or_from_slice_get names (get_or vertices i 0) name [] e)

-- all names, from that of one vertex on
pub names-split : (names : List (List ℕ)) (vertices : List ℕ) (i : ℕ) (name : List ℕ) → i < length vertices → slice_get names (get_or vertices i 0)
    ≡ Some name →
    map (name_of names) vertices ≡ map (name_of names) (take i vertices) ++ name ∷ map (name_of names) (drop (i + 1) vertices)
names-split names vertices i name h e =
    let k : suc i ≡ i + 1 = omega arith in
    ap (map (name_of names)) (sym (take-append-drop i vertices) ∙ ap (λ (l : List ℕ). take i vertices ++ l)
    (drop-cons vertices i 0 h ∙ ap (λ n. get_or vertices i 0 ∷ drop n vertices) k))
    ∙ map-append (name_of names) (take i vertices) (get_or vertices i 0 ∷ drop (i + 1) vertices)
    ∙ ap (λ (x : List ℕ). map (name_of names) (take i vertices) ++ x ∷ map (name_of names) (drop (i + 1) vertices))
    (get_or_from_slice_get names (get_or vertices i 0) name [] e)
