-- Names and their indices, and a walk over listed names.
use Rattle.std.proofs.Common.{◌≡◌, ℕ, ◌+◌, ◌<◌, Bool, true, false, not, ◌&&◌, ◌||◌, ◌==◌, List, [], ◌∷◌, length, get_or, drop, drop-cons, ◌≤◌, Option}
use Rattle.std.proofs.Common.{Some, None, refl, sym, ap, subst, ◌∙◌, IsTrue, arith, inl, inr}
use Rattle.std.specs.Prelude.{suc, cond, nat_lt, slice_index_or}
use Rattle.std.specs.Str.{bytes_eq}
use Rattle.std.proofs.lemmas.Bool.{cases_Bool, cases_eq, cases_order, eq-eqb, ne_eqb, eqb-true, lt-ltb, ltb-true}
use Rattle.std.proofs.lemmas.Slice.Eq.{bytes_eq-Decides}
use Rattle.mixed_graph.specs.Vocabulary.{has, AreNames, is_named, index_of, name_of, texts}
use Rattle.std.proofs.Math.ListN.{drop_of_length-le}
use Rattle.std.proofs.lemmas.List.{length-map}
use Rattle.std.specs.Global.{Vec}
use Rattle.targets.specs.declared.fault.TargetFault.{TargetFault}
use Rattle.targets.specs.declared.fault.TargetFault.TheVariants.{Unknown, Latent, Twice, EmptyY, EmptyX, NotOneX, Bidirected, OtherNames, NoMemory}
use Rattle.targets.specs.Targets.{IsNameFault, NameFault, unknown, latent, twice, name_fault, or_fault, first_fault, walked_in, IsListedSet}

same_from : (m n : List ℕ) → bytes_eq m n ≡ true → m ≡ n
same_from m n = (bytes_eq-Decides m n).0

from_same : (m n : List ℕ) → m ≡ n → bytes_eq m n ≡ true
from_same m n = (bytes_eq-Decides m n).1

same_test : (b c : Bool) → (b ≡ true → c ≡ true) → (c ≡ true → b ≡ true) → b ≡ c
same_test true c f g = sym (f refl)
same_test false true f g = g refl
same_test false false f g = refl

-- the place at which a name is found holds it
pub named_here : (names : List (List ℕ)) (n : List ℕ) → is_named names n ≡ true → name_of names (index_of names n) ≡ n
named_here [] n h = absurd (cc)
named_here (x ∷ xs) n h = go (bytes_eq n x) refl (named_here xs n)
  where
    go : (b : Bool) → bytes_eq n x ≡ b → (is_named xs n ≡ true → name_of xs (index_of xs n) ≡ n) → name_of (x ∷ xs) (cond (not b) (1 + index_of xs n) 0) ≡ n
    go true e later = sym (same_from n x e)
    go false e later =
        let there : is_named xs n ≡ true = rw e at h in
        ap (λ i. slice_index_or (x ∷ xs) i []) {x = 1 + index_of xs n} {y = suc (index_of xs n)} (omega arith) ∙ later there

-- two names of the list have one index where they are one name
pub same_index : (names : List (List ℕ)) (m n : List ℕ) → is_named names m ≡ true → is_named names n ≡ true → (index_of names m == index_of names n)
    ≡ bytes_eq m n
same_index names m n hm hn = same_test _ _
    (λ e. from_same m n (sym (named_here names m hm) ∙ ap (name_of names) (eqb-true (index_of names m) (index_of names n) e) ∙ named_here names n hn))
    (λ e. eq-eqb _ _ (ap (index_of names) (same_from m n e)))

-- vertex v has the name n where v is its index
pub name_is : (names : List (List ℕ)) → AreNames names → (v : ℕ) (n : List ℕ) → v < length names → is_named names n ≡ true → index_of names n < length names →
    bytes_eq (name_of names v) n ≡ (v == index_of names n)
name_is names are v n below hn within = same_test _ _
    (λ e. elim (cases_order v (index_of names n)) [
      | inl same ↦ eq-eqb _ _ same
      | inr (inl lt) ↦ absurd (are.distinct v (index_of names n) [] lt within (same_from _ _ e ∙ sym (named_here names n hn)))
      | inr (inr gt) ↦ absurd (are.distinct (index_of names n) v [] gt below (named_here names n hn ∙ sym (same_from _ _ e)))
    ])
    (λ e. from_same _ _ (ap (name_of names) (eqb-true v (index_of names n) e) ∙ named_here names n hn))

-- only the names that are observed are asked whether they were walked
pub same_name_fault : (all observed : List (List ℕ)) (s t : List ℕ → Bool) → ((m : List ℕ) → is_named observed m ≡ true → s m ≡ t m) →
    (n : List ℕ) → name_fault all observed s n ≡ name_fault all observed t n
same_name_fault all observed s t same n = elim (cases_Bool (is_named all n)) [
  | inl a ↦ elim (cases_Bool (is_named observed n)) [
    | inl o ↦ rw (a, o, same n o) refl
    | inr o ↦ rw (a, o) refl
  ]
  | inr a ↦ rw a refl
]

-- tests that agree on the observed names lead to the same first fault
pub same_first_fault : (all observed : List (List ℕ)) (s t : List ℕ → Bool) → ((m : List ℕ) → is_named observed m ≡ true → s m ≡ t m) →
    (ns : List (List ℕ)) → first_fault all observed s ns ≡ first_fault all observed t ns
same_first_fault all observed s t same [] = refl
same_first_fault all observed s t same (n ∷ ns) =
    ap (λ f. or_fault f (first_fault all observed (λ m. s m || bytes_eq m n) ns)) (same_name_fault all observed s t same n)
    ∙ ap (λ f. or_fault (name_fault all observed t n) f)
    (same_first_fault all observed (λ m. s m || bytes_eq m n) (λ m. t m || bytes_eq m n) (λ m h. ap (λ b. b || bytes_eq m n) (same m h)) ns)

-- a name without fault is in the graph and observed
pub no_fault : (all observed : List (List ℕ)) (walked : List ℕ → Bool) (n : List ℕ) → name_fault all observed walked n ≡ None → (is_named observed n ≡ true)
    × (walked n ≡ false)
no_fault all observed walked n e = go (is_named all n) (is_named observed n) (walked n) e
  where
    go : (a o w : Bool) → cond (not a) (Some (unknown n)) (cond (not o) (Some (latent n)) (cond w (Some (twice n)) None)) ≡ None → (o ≡ true) × (w ≡ false)
    go true true true e = absurd (cc)
    go true true false e = (refl, refl)
    go true false w e = absurd (cc)
    go false o w e = absurd (cc)

-- a walk over a list: the set that it has made, and the names that are still to come
pub record IsWalking (all observed : List (List ℕ)) (walked set : ℕ) (list rest : List (List ℕ)) : Type 0 where
  pub faults : (now : ℕ) → ((u : ℕ) → has now u ≡ (has walked u || has set u)) →
      first_fault all observed (walked_in observed walked) list ≡ first_fault all observed (walked_in observed now) rest
  pub made : (v : ℕ) → v < length observed → (has set v || is_named rest (name_of observed v)) ≡ is_named list (name_of observed v)
  pub within : (v : ℕ) → IsTrue (has set v) → v < length observed

pub walking_none : (all observed : List (List ℕ)) (walked set : ℕ) (list : List (List ℕ)) → ((v : ℕ) → has set v ≡ false)
    → IsWalking all observed walked set list list
walking_none all observed walked set list none = record {
  faults = λ now e. same_first_fault all observed (walked_in observed walked) (walked_in observed now)
      (λ m h. sym (e (index_of observed m) ∙ ap (λ b. has walked (index_of observed m) || b) (none (index_of observed m))
      ∙ or_false (has walked (index_of observed m)))) list;
  made = λ v b. ap (λ s. s || is_named list (name_of observed v)) (none v);
  within = λ v h. absurd (let e = none v in cc);
}
  where
    or_false : (b : Bool) → (b || false) ≡ b
    or_false true = refl
    or_false false = refl

-- one more name without fault, whose vertex joins the set
pub walking_more : (all observed : List (List ℕ)) → AreNames observed → (walked set now set' : ℕ) (list rest : List (List ℕ)) (n : List ℕ) →
    ((u : ℕ) → has now u ≡ (has walked u || has set u)) → ((u : ℕ) → has set' u ≡ (has set u || (u == index_of observed n))) →
    name_fault all observed (walked_in observed now) n ≡ None → index_of observed n < length observed →
    IsWalking all observed walked set list (n ∷ rest) → IsWalking all observed walked set' list rest
walking_more all observed are walked set now set' list rest n now_is set_is none below w = record {
  faults = λ later e. w.faults now now_is
      ∙ ap (λ f. or_fault f (first_fault all observed (λ m. walked_in observed now m || bytes_eq m n) rest)) none
      ∙ same_first_fault all observed (λ m. walked_in observed now m || bytes_eq m n) (walked_in observed later)
      (λ m h. let i = index_of observed m in
      let a = now_is i in let b = e i in let c = set_is i in let d = same_index observed m n h here in grind arith) rest;
  made = λ v b. (let a = set_is v in let c = w.made v b in let d = name_is observed are v n b here below in
      joined (has set' v) (has set v) (v == index_of observed n) (bytes_eq (name_of observed v) n) (is_named rest (name_of observed v)) a d ∙ c);
  within = λ v h. elim (cases_eq v (index_of observed n)) [
    | inl e ↦ subst (λ u. u < length observed) (sym e) below
    | inr d ↦ w.within v (let a = set_is v in let f : (v == index_of observed n) ≡ false = ne_eqb v (index_of observed n) d in grind arith)
  ];
}
  where
    here : is_named observed n ≡ true
    here = (no_fault all observed (walked_in observed now) n none).0

    joined : (s' s e b r : Bool) → s' ≡ (s || e) → b ≡ e → (s' || r) ≡ (s || (b || r))
    joined s' true e b r p q = rw p refl
    joined s' false e b r p q = rw (p, q) refl

-- the walk at its end
pub walking_done : (all observed : List (List ℕ)) (walked set : ℕ) (list : List (List ℕ)) → IsWalking all observed walked set list []
    → IsListedSet observed list set
walking_done all observed walked set list w v = elim (cases_Bool (nat_lt v (length observed))) [
  | inl b ↦ let m = w.made v (lt_from b) in ends (has set v) (is_named list (name_of observed v)) (nat_lt v (length observed)) b m
  | inr b ↦ outside (has set v) (is_named list (name_of observed v)) (nat_lt v (length observed)) b (λ h. lt-ltb v (length observed) (w.within v h))
]
  where
    lt_from : nat_lt v (length observed) ≡ true → v < length observed
    lt_from e = ltb-true v (length observed) e

    ends : (s l b : Bool) → b ≡ true → (s || false) ≡ l → s ≡ (b && l)
    ends true l b e m = rw (e, sym m) refl
    ends false l b e m = rw (e, sym m) refl

    outside : (s l b : Bool) → b ≡ false → (s ≡ true → b ≡ true) → s ≡ (b && l)
    outside true l b e f = absurd (let t = f refl in cc)
    outside false l b e f = rw e refl

-- a fault of the first name is the first fault
pub fault_first : (o later : Option NameFault) (f : TargetFault) → IsNameFault o f → IsNameFault (or_fault o later) f
fault_first o later (Unknown t) h = ap (λ p. or_fault p later) h
fault_first o later (Latent t) h = ap (λ p. or_fault p later) h
fault_first o later (Twice t) h = ap (λ p. or_fault p later) h
fault_first o later EmptyY h = h
fault_first o later EmptyX h = h
fault_first o later NotOneX h = h
fault_first o later (Bidirected a b) h = h
fault_first o later (OtherNames t) h = h
fault_first o later NoMemory h = tt

-- the names that are still to come, by the next of them
pub texts-drop : (list : List (Vec ℕ)) (i : ℕ) (d : Vec ℕ) → i < length list → texts (drop i list) ≡ (get_or list i d).items ∷ texts (drop (i + 1) list)
texts-drop list i d below = ap texts (drop-cons list i d below ∙ ap (λ k. get_or list i d ∷ drop k list) {x = suc i} {y = i + 1} (omega arith))

-- nothing is still to come at the end
pub texts-drop_end : (list : List (Vec ℕ)) (i : ℕ) → length list ≤ i → texts (drop i list) ≡ []
texts-drop_end list i h = ap texts (drop_of_length-le list h)

-- vectors without texts are no vectors
pub texts-none : (list : List (Vec ℕ)) → texts list ≡ [] → length list ≡ 0
texts-none list e = let s : length (texts list) ≡ length list = simp length-map in sym s ∙ ap (λ (ns : List (List ℕ)). length ns) e
