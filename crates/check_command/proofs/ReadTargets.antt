-- Sets that were read lie below the number of names, and the sets of a target don't meet.
use Rattle.std.proofs.Common.{◌≡◌, ℕ, ◌+◌, ◌<◌, ◌⊎◌, Bool, true, false, not, ◌&&◌, ◌||◌, List, [], ◌∷◌, length, Result, Ok, Err, if◌then◌else◌, cond}
use Rattle.std.proofs.Common.{inl, inr, refl, sym, ap, subst, ◌∙◌, codes, arith}
use Rattle.std.specs.Prelude.{nat_lt, eqb, ◌==◌}
use Rattle.std.specs.List.{list_any, position_or_len}
use Rattle.std.specs.Str.{bytes_eq}
use Rattle.mixed_graph.specs.Vocabulary.{has, is_named, index_of, union, one, is_empty, is_below, is_apart}
use Rattle.prob_expr.specs.Vocabulary.{are_term_sets, is_term, PlainTarget}
use Rattle.mixed_graph.proofs.MaskLaws.{has_join, has_one, has_none, below_from, apart_from}
use Rattle.serde_json.specs.Data.{Data, Items, no_items, item}
use Rattle.serde_json.specs.Find.{get, as_str, as_array}
use Rattle.step_json.specs.Reading as value
use Rattle.step_json.specs.declared.fault.ValueFault.{ValueFault}
use Rattle.step_json.specs.declared.fault.ValueFault.TheVariants.{Form, Name}
use Rattle.step_json.specs.Vocabulary.{or_form, list_by, vertex_of, vertex_in, with_member, more_of_set, set_in, filled, filled_set_in}
use Rattle.certificate.specs.declared.fault.Key.{Key}
use Rattle.certificate.specs.declared.fault.CertFault.{CertFault}
use Rattle.certificate.specs.declared.fault.CertFault.TheVariants.{Member}
use Rattle.certificate.specs.Vocabulary.{◌>>=◌, at_key, or_fault, member_by, given_in, target_in}
use Rattle.certificate.specs.declared.fault.Key.TheVariants as keys
use Rattle.check_command.specs.Replies.{IsSoundTarget}

pub ok_is : {A E : Type 0} (x y : A) → ◌≡◌ {A = Result A E} (Ok x) (Ok y) → x ≡ y
ok_is {A} {E} x y e = ap (λ r. or_else r) e
  where
    or_else : Result A E → A
    or_else (Ok z) = z
    or_else (Err z) = x

pub then_ok : {A E : Type 0} (p : Bool) (e : E) (x : Result A E) (y : A) → (if p then x else Err e) ≡ Ok y → (p ≡ true) × (x ≡ Ok y)
then_ok true e x y h = (refl, h)
then_ok false e x y h = cc h

pub else_ok : {A E : Type 0} (p : Bool) (e : E) (x : Result A E) (y : A) → (if p then Err e else x) ≡ Ok y → (p ≡ false) × (x ≡ Ok y)
else_ok true e x y h = cc h
else_ok false e x y h = (refl, h)

pub value_ok : {A B : Type 0} (r : Result A ValueFault) (f : A → Result B ValueFault) (y : B) → value.◌>>=◌ r f ≡ Ok y → (x : A) × (r ≡ Ok x) × (f x ≡ Ok y)
value_ok (Ok x) f y h = (x, refl, h)
value_ok (Err e) f y h = cc h

pub bind_ok : {A B : Type 0} (r : Result A CertFault) (f : A → Result B CertFault) (y : B) → (r >>= f) ≡ Ok y → (x : A) × (r ≡ Ok x) × (f x ≡ Ok y)
bind_ok (Ok x) f y h = (x, refl, h)
bind_ok (Err e) f y h = cc h

pub list_ok : {A : Type 0} (f : Items → Result A ValueFault) (d : Data) (y : A) → list_by f d ≡ Ok y → (ds : Items) × (f ds ≡ Ok y)
list_ok f d y h = let b = value_ok (or_form (as_array d)) f y h in (b.0, b.2)

at_ok : {A : Type 0} (key : Key) (r : Result A ValueFault) (y : A) → at_key key r ≡ Ok y → r ≡ Ok y
at_ok key (Ok x) y h = ap Ok (ok_is x y h)
at_ok key (Err e) y h = cc h

-- what is read of the member of a key is read of some value
pub member_ok : {A : Type 0} (key : Key) (name : List ℕ) (f : Data → Result A ValueFault) (d : Data) (y : A) → member_by key name f d ≡ Ok y → (v : Data)
    × (f v ≡ Ok y)
member_ok key name f d y h =
    let b = bind_ok (or_fault (Member key) (get name d)) (λ v. at_key key (f v)) y h in
    (b.0, at_ok key (f b.0) y b.2)

-- ---- sets

place_low : (p : List ℕ → Bool) (names : List (List ℕ)) → list_any p names ≡ true → position_or_len p names < length names
place_low p [] h = cc h
place_low p (x ∷ xs) h = by (p x) h (place_low p xs)
  where
    by : (b : Bool) → (b || list_any p xs) ≡ true → (list_any p xs ≡ true → position_or_len p xs < length xs)
        → cond (not b) (1 + position_or_len p xs) 0 < length (x ∷ xs)
    by true k rest = omega arith
    by false k rest = let r = rest k in omega (arith, r)

vertex_low : (names : List (List ℕ)) (d : Data) (v : ℕ) → vertex_in names d ≡ Ok v → v < length names
vertex_low names d v h =
    let b = value_ok (or_form (as_str d)) (vertex_of names) v h in
    let t = then_ok (is_named names b.0) (Name b.0) (Ok (index_of names b.0)) v b.2 in
    subst (λ k. k < length names) (ok_is {E = ValueFault} (index_of names b.0) v t.1) (place_low (bytes_eq b.0) names t.0)

-- each member is below n and isn't barred
pub record AreNew (n barred set : ℕ) : Type 0 where
  pub low : (v : ℕ) → has set v ≡ true → v < n
  pub apart : (v : ℕ) → has set v ≡ true → has barred v ≡ false

in_either : (a b : Bool) → (a || b) ≡ true → (a ≡ true) ⊎ (b ≡ true)
in_either true b h = inl refl
in_either false b h = inr h

in_neither : (a b : Bool) → (a || b) ≡ false → a ≡ false
in_neither true b h = h
in_neither false b h = refl

second_out : (a b : Bool) → (a || b) ≡ false → b ≡ false
second_out true b h = absurd cc
second_out false b h = h

member_of : (set v u : ℕ) → has (union set (one v)) u ≡ true → (has set u ≡ true) ⊎ (u ≡ v)
member_of set v u h = elim (in_either (has set u) (has (one v) u) (sym (has_join set (one v) u) ∙ h)) [
  | inl e ↦ inl e
  | inr e ↦ inr (let k : eqb u v ≡ true = sym (has_one v u) ∙ e in grind (arith, k))
]

more_new : (n barred set v : ℕ) → AreNew n barred set → v < n → has (union barred set) v ≡ false → AreNew n barred (union set (one v))
more_new n barred set v h lt free = record {
  low = λ u e. elim (member_of set v u e) [ inl k ↦ h.low u k | inr k ↦ subst (λ i. i < n) (sym k) lt ];
  apart = λ u e. elim (member_of set v u e) [
    | inl k ↦ h.apart u k
    | inr k ↦ subst (λ i. has barred i ≡ false) (sym k) (in_neither (has barred v) (has set v) (sym (has_join barred set v) ∙ free))
  ];
}

members_new : (names : List (List ℕ)) (barred count set : ℕ) (ds : Items) (all : ℕ) → AreNew (length names) barred set → more_of_set names barred count set ds
    ≡ Ok all
    → AreNew (length names) barred all
members_new names barred count set no_items all h e = subst (AreNew (length names) barred) (ok_is {E = ValueFault} set all e) h
members_new names barred count set (item d ds) all h e =
    let next : ℕ → Result ℕ ValueFault = λ more. more_of_set names barred (count + 1) more ds in
    let room = then_ok (nat_lt count 64) Form (value.◌>>=◌ (vertex_in names d) (λ v. value.◌>>=◌ (with_member barred set v) next)) all e in
    let v = value_ok (vertex_in names d) (λ v. value.◌>>=◌ (with_member barred set v) next) all room.1 in
    let m = value_ok (with_member barred set v.0) next all v.2 in
    let free = else_ok (has (union barred set) v.0) Form (Ok (union set (one v.0))) m.0 m.1 in
    let more = more_new (length names) barred set v.0 h (vertex_low names d v.0 v.1) free.0 in
    members_new names barred (count + 1) m.0 ds all (subst (AreNew (length names) barred) (ok_is {E = ValueFault} (union set (one v.0)) m.0 free.1) more) m.2

none_new : (n barred : ℕ) → AreNew n barred 0
none_new n barred = record { low = λ v e. let no = has_none v in cc (sym no ∙ e); apart = λ v e. let no = has_none v in cc (sym no ∙ e) }

pub set_new : (names : List (List ℕ)) (barred : ℕ) (d : Data) (set : ℕ) → set_in names barred d ≡ Ok set → AreNew (length names) barred set
unfolding set_in
set_new names barred d set h =
    let b = list_ok (more_of_set names barred 0 0) d set h in
    members_new names barred 0 0 b.0 set (none_new (length names) barred) b.1

pub record IsFilled (n barred set : ℕ) : Type 0 where
  pub some : is_empty set ≡ false
  pub members : AreNew n barred set

pub filled_new : (names : List (List ℕ)) (barred : ℕ) (d : Data) (set : ℕ) → filled_set_in names barred d ≡ Ok set → IsFilled (length names) barred set
filled_new names barred d set h =
    let b = value_ok (set_in names barred d) filled set h in
    let some = else_ok (is_empty b.0) Form (Ok b.0) set b.2 in
    subst (IsFilled (length names) barred) (ok_is {E = ValueFault} b.0 set some.1) (record { some = some.0; members = set_new names barred d b.0 b.1 })

-- ---- targets

pub both : (p q : Bool) → p ≡ true → q ≡ true → (p && q) ≡ true
both p q h k = rw (h, k) refl

pub set_below : (n barred set : ℕ) → AreNew n barred set → is_below n set ≡ true
set_below n barred set h = below_from n set h.low

-- what is given is empty, or was read
given_new : (names : List (List ℕ)) (version barred : ℕ) (d : Data) (given : ℕ) → given_in names version barred d ≡ Ok given
    → AreNew (length names) barred given
unfolding given_in
given_new names version barred d given = go (version == 2)
  where
    go : (b : Bool) → (if b then member_by keys.Given (codes "given") (filled_set_in names barred) d else Ok 0) ≡ Ok given → AreNew (length names) barred given
    go true h = let m = member_ok keys.Given (codes "given") (filled_set_in names barred) d given h in (filled_new names barred m.0 given m.1).members
    go false h = subst (AreNew (length names) barred) (ok_is {E = CertFault} 0 given h) (none_new (length names) barred)

-- a set that the members of another are outside of doesn't meet it
outside : (set other : ℕ) → ((v : ℕ) → has other v ≡ true → has set v ≡ false) → is_apart set other ≡ true
outside set other h = apart_from set other (λ v e. go v e (has other v) refl)
  where
    go : (v : ℕ) → has set v ≡ true → (b : Bool) → has other v ≡ b → has other v ≡ false
    go v e true k = let no = h v k in cc (e, no)
    go v e false k = k

term_of_sets : (n x y given : ℕ) → is_below n x ≡ true → IsFilled n x y → AreNew n (union x y) given → is_term n y x given ≡ true
term_of_sets n x y given low h new =
    let ly = set_below n x y h.members in
    let lg = set_below n (union x y) given new in
    let yx = apart_from y x h.members.apart in
    let yg = outside y given (λ v e. second_out (has x v) (has y v) (sym (has_join x y v) ∙ new.apart v e)) in
    let xg = outside x given (λ v e. in_neither (has x v) (has y v) (sym (has_join x y v) ∙ new.apart v e)) in
    both (are_term_sets n y x given) (not (is_empty y))
    (both (is_below n y && (is_below n x && is_below n given)) (is_apart y x && (is_apart y given && is_apart x given))
    (both (is_below n y) (is_below n x && is_below n given) ly (both (is_below n x) (is_below n given) low lg))
    (both (is_apart y x) (is_apart y given && is_apart x given) yx (both (is_apart y given) (is_apart x given) yg xg)))
    (ap not h.some)

pub target_sound : (names : List (List ℕ)) (version : ℕ) (d : Data) (t : PlainTarget) → target_in names version d ≡ Ok t → IsSoundTarget (length names) t
unfolding target_in
target_sound names version d t h =
    let made : ℕ → ℕ → ℕ → PlainTarget = λ x y given. record { x = x; y = y; given = given } in
    let xs = bind_ok (member_by keys.X (codes "x") (set_in names 0) d)
    (λ x. member_by keys.Y (codes "y") (filled_set_in names x) d >>= λ y. given_in names version (union x y) d >>= λ given. Ok (made x y given)) t h in
    let x = member_ok keys.X (codes "x") (set_in names 0) d xs.0 xs.1 in
    let ys = bind_ok (member_by keys.Y (codes "y") (filled_set_in names xs.0) d)
    (λ y. given_in names version (union xs.0 y) d >>= λ given. Ok (made xs.0 y given)) t xs.2 in
    let y = member_ok keys.Y (codes "y") (filled_set_in names xs.0) d ys.0 ys.1 in
    let gs = bind_ok (given_in names version (union xs.0 ys.0) d) (λ given. Ok (made xs.0 ys.0 given)) t ys.2 in
    subst (IsSoundTarget (length names)) (ok_is {E = CertFault} (made xs.0 ys.0 gs.0) t gs.2)
    (term_of_sets (length names) xs.0 ys.0 gs.0 (set_below (length names) 0 xs.0 (set_new names 0 x.0 xs.0 x.1)) (filled_new names xs.0 y.0 ys.0 y.1)
    (given_new names version (union xs.0 ys.0) d gs.0 gs.1))
