use Rattle.std.proofs.Common.{◌≡◌, ℕ, zero, suc, ◌+◌, ◌<◌, ◌≤◌, Bool, true, false, not, ◌&&◌, ◌||◌, ◌==◌, List, [], ◌∷◌, ◌++◌, length, length-set}
use Rattle.std.proofs.Common.{get_or, set, inl, inr, refl, sym, ap, ◌∙◌, IsTrue, subst, arith, nat_lt}
use Rattle.std.proofs.lemmas.Bool.{cases_Bool, cases_eq, eqb-true, or_cases, lt-ltb, ltb-true}
use Rattle.std.proofs.lemmas.List.{get_or-set_same, get_or-set_other}
use Rattle.mixed_graph.specs.Bits.{has, members_below}
use Rattle.mixed_graph.specs.Graphs.{MixedGraph, IsMixedGraph, IsDirectedPath, IsAcyclic}
use Rattle.mixed_graph.specs.Arrows.{IsPathBelow}
use Rattle.mixed_graph.specs.Orders.{taken_by, IsNext, IsOrder}
use Rattle.mixed_graph.proofs.Paths.{path_push}
use Rattle.mixed_graph.proofs.Members.{length-members-lt, length-members-more, length-members-none, length-members-below}

-- a set from each of whose members a path of two or more vertices leads to a
Behind : MixedGraph → (ℕ → Bool) → ℕ → Type 0
Behind g seen a = (u : ℕ) → IsTrue (seen u) → (c : ℕ) × (rest : List ℕ) × IsDirectedPath g u (c ∷ rest) a

behind_more : (g : MixedGraph) (seen : ℕ → Bool) (a c : ℕ) → IsTrue (g.arrow a c) → Behind g seen a → Behind g (λ u. seen u || (u == a)) c
unfolding Behind
behind_more g seen a c edge s = λ u i. elim (or_cases (seen u) (u == a) i) [
  | inl o ↦ let b = s u o in (b.0, b.1 ++ c ∷ [], path_push g u a c (b.0 ∷ b.1) b.2 edge)
  | inr e ↦ let same = eqb-true u a e in (c, [], subst (λ v. IsDirectedPath g v (c ∷ []) c) (sym same) (edge, refl))
]

behind_out : (g : MixedGraph) (seen : ℕ → Bool) (a : ℕ) → IsAcyclic g → Behind g seen a → seen a ≡ false
unfolding Behind
behind_out g seen a acyclic s = elim (cases_Bool (seen a)) [
  | inl i ↦ absurd (let b = s a i in acyclic a b.0 b.1 b.2)
  | inr o ↦ o
]

-- a directed path has fewer arrows than there are vertices
path_room : (g : MixedGraph) (acyclic : IsAcyclic g) (seen : ℕ → Bool) (a b : ℕ) (path : List ℕ) → Behind g seen a → IsPathBelow g a path b →
    length (members_below seen g.vertices) + length path < g.vertices
path_room g acyclic seen a b [] s p = omega (arith, length-members-lt seen g.vertices a p.0 (behind_out g seen a acyclic s))
path_room g acyclic seen a b (c ∷ rest) s p =
    let more = length-members-more seen (λ u. seen u || (u == a)) a g.vertices p.0 (behind_out g seen a acyclic s) (λ u. refl) in
    let r = path_room g acyclic (λ u. seen u || (u == a)) c b rest (behind_more g seen a c p.1 s) p.2 in
    omega (arith, more, r)

-- where each member of a set has a parent in it, paths of any length lead to each member
chain : (g : MixedGraph) (valid : IsMixedGraph g) (rest : ℕ → Bool) → ((v : ℕ) → IsTrue (rest v) → (p : ℕ) × IsTrue (rest p) × IsTrue (g.arrow p v)) →
    (v : ℕ) → v < g.vertices → IsTrue (rest v) → (k : ℕ) → (a : ℕ) × (path : List ℕ) × IsTrue (rest a) × (length path ≡ k) × IsPathBelow g a path v
chain g valid rest up v below i zero = (v, [], i, refl, (below, refl))
chain g valid rest up v below i (suc k) =
    let c = chain g valid rest up v below i k in
    let p = up c.0 c.2 in
    (p.0, c.0 ∷ c.1, p.1, ap suc c.3, (valid.tail_below p.0 c.0 p.2, p.2, c.4))

-- so such a set has no member
pub stuck_empty : (g : MixedGraph) (valid : IsMixedGraph g) (rest : ℕ → Bool) → ((v : ℕ) → IsTrue (rest v) → (p : ℕ) × IsTrue (rest p) × IsTrue (g.arrow p v)) →
    (v : ℕ) → v < g.vertices → rest v ≡ false
unfolding Behind
stuck_empty g valid rest up v below = elim (cases_Bool (rest v)) [
  | inl i ↦ absurd (
      let c = chain g valid rest up v below i g.vertices in
      let r = path_room g valid.acyclic (λ _. false) c.0 v c.1 (λ u f. absurd (cc)) c.4 in
      let e = c.3 in omega (arith, r, e))
  | inr o ↦ o
]

taken_by-set : (list : List ℕ) (j x i v : ℕ) → i ≤ j → taken_by (set list j x) i v ≡ taken_by list i v
taken_by-set list j x zero v h = refl
taken_by-set list j x (suc i) v h =
    let e = taken_by-set list j x i v (omega arith) in
    let a : get_or (set list j x) i 0 ≡ get_or list i 0 = get_or-set_other list j i x 0 (omega arith) in cc

-- so far the order is right, and the rest is what isn't taken
pub record Ordering (g : MixedGraph) (list : List ℕ) (count rest : ℕ) : Type 0 where
  pub sized : length list ≡ 64
  pub counted : count ≡ length (members_below (taken_by list count) 64)
  pub next : (i : ℕ) → i < count → IsNext g (taken_by list i) (get_or list i 0)
  pub left : (u : ℕ) → has rest u ≡ (nat_lt u g.vertices && not (taken_by list count u))
  pub blank : (i : ℕ) → count ≤ i → get_or list i 0 ≡ 0

pub ordering_none : (g : MixedGraph) (list : List ℕ) (rest : ℕ) → length list ≡ 64 → ((i : ℕ) → get_or list i 0 ≡ 0) →
    ((u : ℕ) → has rest u ≡ nat_lt u g.vertices) → Ordering g list 0 rest
ordering_none g list rest sized blank all = record {
  sized = sized;
  counted = sym (length-members-none (λ _. false) 64 (λ u. refl));
  next = λ i h. absurd (omega arith);
  left = λ u. all u ∙ and_true (nat_lt u g.vertices);
  blank = λ i h. blank i;
}
  where
    and_true : (x : Bool) → x ≡ (x && true)
    and_true true = refl
    and_true false = refl

pub ordering_room : (g : MixedGraph) (list : List ℕ) (count rest v : ℕ) → v < 64 → IsTrue (has rest v) → Ordering g list count rest → count < 64
ordering_room g list count rest v below i s =
    let e = s.left v in let free : taken_by list count v ≡ false = grind arith in
    omega (arith, s.counted, length-members-lt (taken_by list count) 64 v below free)

in_parts : (x a b : Bool) → x ≡ (a && not b) → x ≡ true → (a ≡ true) × (b ≡ false)
in_parts x a b e h = grind_parts a b (sym e ∙ h)
  where
    grind_parts : (a b : Bool) → (a && not b) ≡ true → (a ≡ true) × (b ≡ false)
    grind_parts true true h = absurd (cc)
    grind_parts true false h = (refl, refl)
    grind_parts false b h = absurd (cc)

in_from : (x a b : Bool) → x ≡ (a && not b) → a ≡ true → b ≡ false → x ≡ true
in_from x a b e p q = e ∙ rw (p, q) refl

out_from : (x a b : Bool) → x ≡ (a && not b) → a ≡ true → x ≡ false → b ≡ true
out_from x a true e p q = refl
out_from x a false e p q = absurd (let t = in_from x a false e p refl in cc)

-- the same for a test that agrees
IsNext-same : (g : MixedGraph) (s t : ℕ → Bool) (v : ℕ) → ((u : ℕ) → t u ≡ s u) → IsNext g s v → IsNext g t v
IsNext-same g s t v e k = record {
  below = k.below;
  free = e v ∙ k.free;
  parents = λ u a. e u ∙ k.parents u a;
  lowest = λ u lt f. let p = k.lowest u lt (sym (e u) ∙ f) in (p.0, p.1, e p.0 ∙ p.2);
}

pub ordering_more : (g : MixedGraph) (valid : IsMixedGraph g) (list : List ℕ) (count rest v rest' : ℕ) → v < 64 → IsTrue (has rest v) →
    ((u : ℕ) → IsTrue (g.arrow u v) → has rest u ≡ false) →
    ((u : ℕ) → u < v → IsTrue (has rest u) → (p : ℕ) × IsTrue (has rest p) × IsTrue (g.arrow p u)) →
    ((u : ℕ) → has rest' u ≡ (has rest u && not (u == v))) →
    Ordering g list count rest → Ordering g (set list count v) (count + 1) rest'
ordering_more g valid list count rest v rest' small i free low is s = record {
  sized = simp length-set s.sized;
  counted = omega (arith, s.counted, length-members-more (taken_by list count) (taken_by (set list count v) (count + 1)) v 64 small untaken (λ u. now u));
  next = λ j h. elim (cases_eq j count) [
    | inl e ↦ subst (λ x. IsNext g (taken_by (set list count v) x) (get_or (set list count v) x 0)) (sym e)
        (subst (λ x. IsNext g (taken_by (set list count v) count) x) (sym here)
        (IsNext-same g (taken_by list count) (taken_by (set list count v) count) v (λ u. taken_by-set list count v count u (omega arith)) next_here))
    | inr d ↦ subst (λ x. IsNext g (taken_by (set list count v) j) x) (sym (get_or-set_other list count j v 0 d))
        (IsNext-same g (taken_by list j) (taken_by (set list count v) j) (get_or list j 0) (λ u. taken_by-set list count v j u (omega arith))
        (s.next j (omega arith)))
  ];
  left = λ u. is u ∙ (let p = s.left u in let q = now u in grind arith);
  blank = λ j h. get_or-set_other list count j v 0 (omega arith) ∙ s.blank j (omega arith);
}
  where
    room : count < 64
    room = ordering_room g list count rest v small i s

    here : get_or (set list count v) count 0 ≡ v
    here = get_or-set_same list count v 0 (omega (arith, s.sized, room))

    untaken : taken_by list count v ≡ false
    untaken = (in_parts _ _ _ (s.left v) i).1

    at_suc : (u : ℕ) → taken_by (set list count v) (suc count) u ≡ (taken_by list count u || (u == v))
    at_suc u = let a = taken_by-set list count v count u (omega arith) in let b = here in cc

    now : (u : ℕ) → taken_by (set list count v) (count + 1) u ≡ (taken_by list count u || (u == v))
    now u = ap (λ k. taken_by (set list count v) k u) {x = count + 1} {y = suc count} (omega arith) ∙ at_suc u

    v_below : v < g.vertices
    v_below = ltb-true v g.vertices (in_parts _ _ _ (s.left v) i).0

    next_here : IsNext g (taken_by list count) v
    next_here = record {
      below = v_below;
      free = untaken;
      parents = λ u a. out_from _ _ _ (s.left u) (lt-ltb u g.vertices (valid.tail_below u v a)) (free u a);
      lowest = λ u lt t.
          let in' : has rest u ≡ true = in_from _ _ _ (s.left u) (lt-ltb u g.vertices (omega (arith, v_below))) t in
          let p = low u lt in' in
          (p.0, p.2, (in_parts _ _ _ (s.left p.0) p.1).1);
    }

pub order_from : (g : MixedGraph) (valid : IsMixedGraph g) (list : List ℕ) (count rest : ℕ) →
    ((v : ℕ) → IsTrue (has rest v) → (p : ℕ) × IsTrue (has rest p) × IsTrue (g.arrow p v)) → g.vertices ≤ 64 → Ordering g list count rest → IsOrder g list count
order_from g valid list count rest up small s = record {
  size = s.counted ∙ length-members-below g.vertices 64 (taken_by list count) small
      (λ v. (taken_below count v (λ i h. (s.next i h).below), all v));
  next = s.next;
  all = all;
}
  where
    taken_below : (i v : ℕ) → ((j : ℕ) → j < i → get_or list j 0 < g.vertices) → IsTrue (taken_by list i v) → v < g.vertices
    taken_below zero v low t = absurd (cc)
    taken_below (suc i) v low t = elim (or_cases (taken_by list i v) (v == get_or list i 0) t) [
      | inl o ↦ taken_below i v (λ j h. low j (omega arith)) o
      | inr e ↦ let same = eqb-true v (get_or list i 0) e in let k = low i (omega arith) in omega (arith, same, k)
    ]

    all : (v : ℕ) → v < g.vertices → IsTrue (taken_by list count v)
    all v below = let out = stuck_empty g valid (has rest) up v below in let e = s.left v in let b : nat_lt v g.vertices ≡ true = lt-ltb v g.vertices below in
        elim (cases_Bool (taken_by list count v)) [ inl t ↦ t | inr f ↦ absurd (grind arith) ]
