-- The whole derivation of identification is accepted.
use Rattle.std.proofs.Common.{ℕ, zero, suc, ◌+◌, ◌≡◌, ◌<◌, Bool, true, false, cond, eqb, not, refl, sym, ap, subst, ◌∙◌, ◌||◌, ◌&&◌, ◌⊎◌, inl, inr}
use Rattle.std.proofs.Common.{List, [], ◌∷◌, ◌++◌, length, arith, eq-eqb, length-append}
use Rattle.std.specs.Prelude.{Option, Some, None}
use Rattle.do_derivation.specs.declared.faults.StepFault.TheVariants.{Shape}
use Rattle.do_derivation.specs.Vocabulary.{Define, sets_of, PlainLemma, as_one, chained, gathered, is_list_of, term_with, unchained, IsMade, Makes, MakesAll, if_made}
use Rattle.do_derivation.specs.Plans.{Move, Plan}
use Rattle.do_derivation.specs.declared.moves.BareMove.TheVariants as bare_move
use Rattle.identification_theory.proofs.Bodies.{IsCited, EachMade}
use Rattle.identification_theory.proofs.Body.{is_list, IsSite, HoldsParents, next_parents, order_in}
use Rattle.identification_theory.proofs.Bools.{and_l, and_r, both_true, clash, decide, not_e, or_e, or_l}
use Rattle.identification_theory.proofs.Chain.{home_made}
use Rattle.identification_theory.proofs.Factor.{AllCited}
use Rattle.identification_theory.proofs.Groups.{Among, count, IsPart, AreParts, part_among, home_among, homed, by_district, in_order-in, common-in, common-out}
use Rattle.identification_theory.proofs.Orders.{IsOrderFrom}
use Rattle.identification_theory.proofs.Separations.{IsPlace}
use Rattle.identification_theory.proofs.Sets.{alone, apart, empty-has, has-minus, one-is}
use Rattle.identification_theory.specs.Procedure.{Source}
use Rattle.mixed_graph.proofs.Masks.{has-and, has-or, has-zero, same_from_has}
use Rattle.mixed_graph.specs.Vocabulary.{has, IsMixedGraph, MixedGraph, all, is_apart, is_empty, union, minus, one, common}
use Rattle.prob_expr.specs.Tree.{Tree, prob, product, tree}
use Rattle.prob_expr.specs.Vocabulary.{Trees, no_trees}
use Rattle.identification_theory.specs.Derivations.{more, in_order, home, home_list, home_lists, unchain_steps, unchain_lists}

-- ---- the start of each factor
abbrev pub starts : ℕ → List ℕ → Trees
starts n [] = no_trees
starts n (t ∷ ts) = tree (prob t (minus (all n) t) 0) (starts n ts)

-- a set and a list of its further members
gathered_is : (b a t w : ℕ) (l : List ℕ) → w ≡ a → is_list_of l (minus t a) ≡ true → ((u : ℕ) → has a u ≡ true → has t u ≡ true)
    → gathered a b 0 (chained b w l) ≡ Some t
gathered_is b a t w [] same e within = ap Some (same_from_has a t (λ u. bools (has a u) (has t u) (within u)
    (sym (has-minus t a u) ∙ empty-has (minus t a) u e)))
  where
    bools : (x y : Bool) → (x ≡ true → y ≡ true) → (y && not x) ≡ false → x ≡ y
    bools x y h1 h2 = grind (arith, h1, h2)
gathered_is b a t w (v ∷ l) same e within = pass (is_apart (one v) a && (eqb b b && eqb w (union 0 a)))
    (gathered (union a (one v)) b 0 (chained b (union w (one v)) l)) test
    (gathered_is b (union a (one v)) t (union w (one v)) l (ap (λ z. union z (one v)) same)
    (subst (λ z. is_list_of l z ≡ true) left (and_r (has (minus t a) v) (is_list_of l (minus (minus t a) (one v))) e)) within2)
  where
    iv : (has t v && not (has a v)) ≡ true
    iv = rw (has-minus t a v) at (and_l (has (minus t a) v) (is_list_of l (minus (minus t a) (one v))) e)

    pass : (c : Bool) (o : Option ℕ) → c ≡ true → o ≡ Some t → cond c o None ≡ Some t
    pass c o q h = rw q h

    zero_join : w ≡ union 0 a
    zero_join = same ∙ same_from_has a (union 0 a) (λ u. sym (has-or 0 a u ∙ rw (has-zero u) refl))

    test : (is_apart (one v) a && (eqb b b && eqb w (union 0 a))) ≡ true
    test = both_true (is_apart (one v) a) (eqb b b && eqb w (union 0 a))
        (apart (one v) a (λ u i j. clash (has a v) (rw (one-is v u i) at j) (not_e (has a v) (and_r (has t v) (not (has a v)) iv))))
        (both_true (eqb b b) (eqb w (union 0 a)) (eq-eqb b b refl) (eq-eqb w (union 0 a) zero_join))

    left : minus (minus t a) (one v) ≡ minus t (union a (one v))
    left = same_from_has (minus (minus t a) (one v)) (minus t (union a (one v)))
        (λ u. (has-minus (minus t a) (one v) u ∙ ap (λ z. z && not (has (one v) u)) (has-minus t a u))
        ∙ (bools (has t u) (has a u) (has (one v) u) ∙ sym (has-minus t (union a (one v)) u ∙ ap (λ z. has t u && not z) (has-or a (one v) u))))
      where
        bools : (x y z : Bool) → ((x && not y) && not z) ≡ (x && not (y || z))
        bools x y z = grind arith

    within2 : (u : ℕ) → has (union a (one v)) u ≡ true → has t u ≡ true
    within2 u i = go (or_e (has a u) (has (one v) u) (rw (has-or a (one v) u) at i))
      where
        go : (has a u ≡ true) ⊎ (has (one v) u ≡ true) → has t u ≡ true
        go (inl j) = within u j
        go (inr j) = rw (one-is v u j) (and_l (has t v) (not (has a v)) iv)

module _ (g : MixedGraph) (ls : List ℕ) where
  unchain_made : (t b : ℕ) (l : List ℕ) → is_list_of l t ≡ true → (u : ℕ) → has t u ≡ true
      → MakesAll g ls (unchain_steps l) (as_one (chained b 0 l)) (prob t b 0)
  unchain_made t b [] e u i = absurd (clash (has t u) i (empty-has t u e))
  unchain_made t b (v ∷ []) e u i = ap (λ z. prob z b 0) (alone t v e)
  unchain_made t b (v ∷ w ∷ l) e u i = (
    prob t b 0,
    subst (λ z. Makes g ls (Plan.Make (Move.Bare bare_move.Unchain)) (product (chained b 0 (v ∷ w ∷ l))) z) refl
        (made_option (unchained (product (chained b 0 (v ∷ w ∷ l)))) (prob t b 0)
        (ap (term_with b 0) (gathered_is b (one v) t (union 0 (one v)) (w ∷ l) zero_join (and_r (has t v) (is_list_of (w ∷ l) (minus t (one v))) e)
        (λ x j. rw (one-is v x j) (and_l (has t v) (is_list_of (w ∷ l) (minus t (one v))) e))))),
    refl,
  )
    where
      zero_join : union 0 (one v) ≡ one v
      zero_join = same_from_has (union 0 (one v)) (one v) (λ x. has-or 0 (one v) x ∙ rw (has-zero x) refl)

      made_option : (o : Option Tree) (x : Tree) → o ≡ Some x → IsMade g (if_made o Shape) x
      made_option o x q = rw q refl

minus-zero : (t : ℕ) → minus t 0 ≡ t
minus-zero t = same_from_has (minus t 0) t (λ u. has-minus t 0 u ∙ rw (has-zero u) (bools (has t u)))
  where
    bools : (x : Bool) → (x && not false) ≡ x
    bools x = grind arith

module _ (g : MixedGraph) (is_graph : IsMixedGraph g) (o : List ℕ) (order : IsOrderFrom g 0 o) (d : ℕ) (low : (u : ℕ) → has d u ≡ true → u < g.vertices) where
  site : (t : ℕ) → IsPart g d t → IsSite g (Source.Defined 0) d t
  site t k = record { low = low; closed = λ p u b i e. i; t_in = k.t_in; t_closed = k.t_closed; some = k.some; some_in = k.some_in }

  pub listed : (t : ℕ) → IsPart g d t → is_list_of (in_order t o) t ≡ true
  listed t k = subst (λ z. is_list_of (in_order t o) z ≡ true) (minus-zero t)
      (is_list g is_graph d (Source.Defined 0) d t (record { low = tt; outside = tt; inside = λ u e. e }) (site t k) 0 o (order_in g d 0 o order))

  pub each_unchained : (ls ts : List ℕ) → AreParts g d ts → EachMade g ls (unchain_lists ts (in_order d o)) (by_district g.vertices ts (in_order d o))
      (starts g.vertices ts)
  each_unchained ls [] h = tt
  each_unchained ls (t ∷ ts) h = (
    unchain_made g ls t (minus (all g.vertices) t) (in_order t (in_order d o))
        (subst (λ z. is_list_of z t ≡ true) (sym (in_order-in d t o h.0.t_in)) (listed t h.0)) h.0.some h.0.some_in,
    each_unchained ls ts h.1,
  )

  homed_one : (ls ts : List ℕ) (p q v w : ℕ) → AreParts g d ts → count ts v ≡ 1 → w ≡ common d p → q ≡ common d p → HoldsParents g p → has p v ≡ false
      → ((u : ℕ) → g.arrow u v ≡ true → has p u ≡ true)
      → MakesAll g ls (home_list d (home ts v) p) (prob (one v) (minus (all g.vertices) d) w)
      (prob (one v) (minus (all g.vertices) (home ts v)) (common (home ts v) q))
  homed_one ls ts p q v w parts c ew eq hp nv pv = subst (λ z. MakesAll g ls (home_list d t p) (prob (one v) (minus (all g.vertices) d) z)
      (prob (one v) (minus (all g.vertices) t) (common t q))) (sym ew)
      (subst (λ z. MakesAll g ls (home_list d t p) (prob (one v) (minus (all g.vertices) d) (common d p)) (prob (one v) (minus (all g.vertices) t) z)) alike
      (home_made g is_graph d t p v low place ls))
    where
      t : ℕ
      t = home ts v

      k : IsPart g d (home ts v)
      k = part_among g d (home ts v) ts parts (home_among v ts c).0

      place : IsPlace g (has p) (has d) (has d) (has (home ts v)) v
      place = record {
        a_in = λ u e. e;
        a_closed = λ p u b i e. i;
        t_in = k.t_in;
        t_closed = k.t_closed;
        v_in = (home_among v ts c).1;
        prior_closed = λ p u b i j e. hp p u b e;
        prior_v = λ p b i. pv p b;
        not_self = λ e. clash (has p v) e nv;
      }

      alike : common (home ts v) p ≡ common (home ts v) q
      alike = same_from_has (common (home ts v) p) (common (home ts v) q)
          (λ u. has-and (home ts v) p u ∙ (bools (has (home ts v) u) (has d u) (has p u) (k.t_in u)
          ∙ sym (has-and (home ts v) q u ∙ ap (λ z. has (home ts v) u && z) (ap (λ z. has z u) eq ∙ has-and d p u))))
        where
          bools : (x y z : Bool) → (x ≡ true → y ≡ true) → (x && z) ≡ (x && (y && z))
          bools x y z h = grind (arith, h)

  pub each_homed : (ls ts : List ℕ) (p q w : ℕ) (o2 : List ℕ) → AreParts g d ts → ((u : ℕ) → has d u ≡ true → Among u o2 → count ts u ≡ 1) → w ≡ common d p
      → q ≡ common d p → HoldsParents g p → IsOrderFrom g p o2
      → EachMade g ls (home_lists d ts p o2) (chained (minus (all g.vertices) d) w (in_order d o2)) (homed g.vertices ts q (in_order d o2))
  each_homed ls ts p q w [] parts c ew eq hp ord = tt
  each_homed ls ts p q w (v ∷ o2) parts c ew eq hp ord = go (has d v) refl
      (λ w q ew eq. each_homed ls ts (union p (one v)) q w o2 parts (λ u i m. c u i (inr m)) ew eq (next_parents g p v hp ord.2) ord.3)
    where
      go : (b : Bool) → has d v ≡ b → ((w q : ℕ) → w ≡ common d (union p (one v)) → q ≡ common d (union p (one v))
          → EachMade g ls (home_lists d ts (union p (one v)) o2) (chained (minus (all g.vertices) d) w (in_order d o2)) (homed g.vertices ts q (in_order d o2)))
          → EachMade g ls (cond b (more (home_list d (home ts v) p) (home_lists d ts (union p (one v)) o2)) (home_lists d ts (union p (one v)) o2))
          (chained (minus (all g.vertices) d) w (cond b (v ∷ in_order d o2) (in_order d o2)))
          (homed g.vertices ts q (cond b (v ∷ in_order d o2) (in_order d o2)))
      go true e f = (
        homed_one ls ts p q v w parts (c v e (inl refl)) ew eq hp ord.1 ord.2,
        f (union w (one v)) (union q (one v)) (ap (λ z. union z (one v)) ew ∙ common-in d p v e) (ap (λ z. union z (one v)) eq ∙ common-in d p v e),
      )
      go false e f = f w q (ew ∙ sym (common-out d p v e)) (eq ∙ sym (common-out d p v e))

-- ---- the factors of all districts
pub cited_two : (ls : List ℕ) (k : ℕ) (a b : List PlainLemma) → AllCited ls k (a ++ b) → AllCited ls k a × AllCited ls (k + length a) b
cited_two ls k [] b h = (tt, subst (λ z. AllCited ls z b) (omega arith) h)
cited_two ls k (x ∷ a) b h = let r = cited_two ls (suc k) a b h.1 in ((h.0, r.0), subst (λ z. AllCited ls z b) (omega arith) r.1)

-- the sets of two joined lists of lemmas are those of the first and then those of the second
pub sets-append : (a b : List PlainLemma) → sets_of (a ++ b) ≡ sets_of a ++ sets_of b
sets-append [] b = refl
sets-append (x ∷ a) b = ap (λ z. x.set ∷ z) (sets-append a b)

-- there are as many sets as lemmas
pub length-sets : (a : List PlainLemma) → length (sets_of a) ≡ length a
length-sets [] = refl
length-sets (x ∷ a) = ap suc (length-sets a)

-- lemmas that make definitions, and more lemmas after those that make more, make all of them in one list
pub define-two : (g : MixedGraph) (before : List ℕ) (a b : List PlainLemma) (ds es : List Tree) → Define g before a ds → Define g (before ++ sets_of a) b es
    → Define g before (a ++ b) (ds ++ es)
define-two g before [] b [] es h k = subst (λ z. Define g z b es) (append-nil before) k
  where
    append-nil : (xs : List ℕ) → xs ++ [] ≡ xs
    append-nil [] = refl
    append-nil (x ∷ xs) = ap (λ z. x ∷ z) (append-nil xs)
define-two g before (x ∷ a) b (y ∷ ds) es h k = (h.0, define-two g (before ++ (x.set ∷ [])) a b ds es h.1 (subst (λ z. Define g z b es) (regroup before) k))
  where
    regroup : (xs : List ℕ) → xs ++ (x.set ∷ sets_of a) ≡ (xs ++ (x.set ∷ [])) ++ sets_of a
    regroup [] = refl
    regroup (z ∷ xs) = ap (λ w. z ∷ w) (regroup xs)
define-two g before [] b (y ∷ ds) es h k = absurd h
define-two g before (x ∷ a) b [] es h k = absurd h

nth_cited : (pre : List ℕ) (x : ℕ) (post : List ℕ) (k : ℕ) → length pre ≡ k → IsCited (pre ++ (x ∷ post)) (Source.Defined k) x
nth_cited [] x post k e = subst (λ k. IsCited (x ∷ post) (Source.Defined k) x) e (omega arith, refl)
nth_cited (y ∷ ys) x post zero e = absurd (omega (arith, e))
nth_cited (y ∷ ys) x post (suc k) e = let r : IsCited (ys ++ (x ∷ post)) (Source.Defined k) x = nth_cited ys x post k (omega (arith, e)) in
    let l : k < length (ys ++ (x ∷ post)) = r.0 in (omega (arith, l), r.1)

-- where k sets come first and then those of the lemmas, the lemmas may be cited from number k on
pub all_cited : (pre : List ℕ) (a : List PlainLemma) (k : ℕ) → length pre ≡ k → AllCited (pre ++ sets_of a) k a
all_cited pre [] k e = tt
all_cited pre (x ∷ a) k e = (
  nth_cited pre x.set (sets_of a) k e,
  subst (λ z. AllCited z (suc k) a) (regroup pre)
      (all_cited (pre ++ (x.set ∷ [])) a (suc k) (let l : length (pre ++ (x.set ∷ [])) ≡ length pre + 1 = length-append pre (x.set ∷ []) in
      omega (arith, l, e))),
)
  where
    regroup : (xs : List ℕ) → (xs ++ (x.set ∷ [])) ++ sets_of a ≡ xs ++ (x.set ∷ sets_of a)
    regroup [] = refl
    regroup (z ∷ xs) = ap (λ w. z ∷ w) (regroup xs)
