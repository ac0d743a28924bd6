-- Pairs and paths of bidirected edges, as the code finds them.
use Rattle.std.proofs.Common.{◌≡◌, ◌≢◌, ℕ, ◌^◌, ◌<◌, Bool, true, false, not, ◌&&◌, ◌||◌, ◌==◌, ◌⊎◌, inl, inr, List, [], ◌∷◌, ◌++◌, refl, sym, ap, ◌∙◌, subst}
use Rattle.std.proofs.Common.{arith}
use Rattle.std.proofs.Common.{append_assoc, append-nil}
use Rattle.std.proofs.lemmas.Bool.{eqb-true, eq-eqb}
use mathlib.Core.Path.{fun_ext}
use Rattle.mixed_graph.specs.Vocabulary.{has, members_below, MixedGraph, IsMixedGraph}
use Rattle.mixed_graph.proofs.Masks.{has-pow, positive_from_has, lt_from_subset}
use Rattle.mixed_graph.proofs.MemberLists.{AreMembers, is_in, members-are, is_in-members}
use Rattle.finite_models.proofs.Bools.{and_first, and_second, not_both}
use Rattle.hedge.specs.Vocabulary.{IsLinked, IsDistrict, at, by}
use Rattle.hedge.proofs.Parts.{link_in}
use Rattle.treated_id.specs.Answers.{HasNoPair, IsJoinedPath}

-- what is linked to a set is linked to a larger one
pub linked_to_more : (g : MixedGraph) (a t u : ℕ → Bool) (v : ℕ) → ((w : ℕ) → t w ≡ true → u w ≡ true) → IsLinked g a t v → IsLinked g a u v
linked_to_more g a t u v more (at i) = at (more v i)
linked_to_more g a t u v more (by {v = w} i edge r) = by i edge (linked_to_more g a t u w more r)

-- the district of p holds what is linked to p
pub in_district : (g : MixedGraph) (s p t v : ℕ) → IsDistrict g s (2 ^ p) t → IsLinked g (has s) (λ w. w == p) v → has t v ≡ true
in_district g s p t v d l = d.complete v (linked_to_more g (has s) (λ w. w == p) (has (2 ^ p)) v (λ w e. has-pow p w ∙ e) l)

pub of_district : (g : MixedGraph) (s p t v : ℕ) → IsDistrict g s (2 ^ p) t → has t v ≡ true → IsLinked g (has s) (λ w. w == p) v
of_district g s p t v d i = linked_to_more g (has s) (has (2 ^ p)) (λ w. w == p) v (λ w e. sym (has-pow p w) ∙ e) (d.sound v i)

-- ---- pairs
-- the members of x that aren't left are in no pair
pub record Searching (g : MixedGraph) (x s : ℕ) (left : List ℕ) : Type 0 where
  pub are : AreMembers (has x) 64 left
  pub clear : (p v : ℕ) → has x p ≡ true → is_in left p ≡ false → g.arrow p v ≡ true → IsLinked g (has s) (λ w. w == p) v → ⊥

pub searching_none : (g : MixedGraph) (x s : ℕ) (left : List ℕ) → x < 2 ^ 64 → left ≡ members_below (has x) 64 → Searching g x s left
searching_none g x s left fits whole = record {
  are = subst (AreMembers (has x) 64) (sym whole) (members-are (has x) 64);
  clear = λ p v i out arrow l. not_both (has x p) i (sym (is_in-members x fits p) ∙ ap (λ vs. is_in vs p) (sym whole) ∙ out);
}

pub searching_more : (g : MixedGraph) (x s p t : ℕ) (left rest : List ℕ) → left ≡ p ∷ rest → IsDistrict g s (2 ^ p) t
    → ((v : ℕ) → g.arrow p v ≡ true → has t v ≡ true → ⊥) → Searching g x s left → Searching g x s rest
searching_more g x s p t left rest first d none k = record {
  are = (subst (AreMembers (has x) 64) first k.are).3;
  clear = λ q v i out arrow l. clear q v i out arrow l (q == p) refl;
}
  where
    clear : (q v : ℕ) → has x q ≡ true → is_in rest q ≡ false → g.arrow q v ≡ true → IsLinked g (has s) (λ w. w == q) v → (b : Bool) → (q == p) ≡ b → ⊥
    clear q v i out arrow l true e =
        let same = eqb-true q p e in
        none v (ap (λ z. g.arrow z v) (sym same) ∙ arrow) (in_district g s p t v d (subst (λ z. IsLinked g (has s) (λ w. w == z) v) same l))
    clear q v i out arrow l false e = k.clear q v i (ap (λ vs. is_in vs q) first ∙ both (q == p) (is_in rest q) e out) arrow l
      where
        both : (a b : Bool) → a ≡ false → b ≡ false → (a || b) ≡ false
        both a b h j = grind (arith, h, j)

pub searched_all : (g : MixedGraph) (x s : ℕ) (left : List ℕ) → left ≡ [] → Searching g x s left → HasNoPair g x s
searched_all g x s left none k p v i arrow l = k.clear p v i (ap (λ vs. is_in vs p) none) arrow l

-- ---- paths
module _ (g : MixedGraph) (a : ℕ → Bool) (v t : ℕ) (other : v ≢ t) where
  abbrev pub less : ℕ → Bool
  less w = a w && not (w == v)

  leaves : (u : ℕ) → IsLinked g a (λ w. w == t) u
      → IsLinked g less (λ w. w == t) u ⊎ ((w : ℕ) × (g.both v w ≡ true) × IsLinked g less (λ w. w == t) w)
  leaves u (at e) = inl (at e)
  leaves u (by {v = w} i edge r) = go (leaves w r) (u == v) refl
    where
      go : IsLinked g less (λ z. z == t) w ⊎ ((z : ℕ) × (g.both v z ≡ true) × IsLinked g less (λ k. k == t) z) → (b : Bool) → (u == v) ≡ b
          → IsLinked g less (λ z. z == t) u ⊎ ((z : ℕ) × (g.both v z ≡ true) × IsLinked g less (λ k. k == t) z)
      go (inr k) b e = inr k
      go (inl k) true e = inr (w, ap (λ z. g.both z w) (sym (eqb-true u v e)) ∙ edge, k)
      go (inl k) false e = inl (by (pair (a u) (u == v) i e) edge k)
        where
          pair : (p q : Bool) → p ≡ true → q ≡ false → (p && not q) ≡ true
          pair p q h j = grind (arith, h, j)

  not_itself : (b : Bool) → IsLinked g less (λ w. w == t) v → ⊥
  not_itself b (at e) = other (eqb-true v t e)
  not_itself b (by i edge r) = no (a v) (v == v) (eq-eqb v v refl) i
    where
      no : (p q : Bool) → q ≡ true → (p && not q) ≡ true → ⊥
      no p q h j = absurd (grind (arith, h, j))

  -- the first edge of a path that doesn't come back
  pub first_edge : IsLinked g a (λ w. w == t) v → (w : ℕ) × (g.both v w ≡ true) × IsLinked g less (λ w. w == t) w
  first_edge l = go (leaves v l)
    where
      go : IsLinked g less (λ w. w == t) v ⊎ ((w : ℕ) × (g.both v w ≡ true) × IsLinked g less (λ k. k == t) w)
          → (w : ℕ) × (g.both v w ≡ true) × IsLinked g less (λ k. k == t) w
      go (inl k) = absurd (not_itself true k)
      go (inr k) = k

-- a path goes on from where it has come, inside what is left
pub record Walking (g : MixedGraph) (within origin target left place : ℕ) (path : List ℕ) : Type 0 where
  pub left_in : (v : ℕ) → has left v ≡ true → has within v ≡ true
  pub place_in : has left place ≡ true
  pub target_in : has left target ≡ true
  pub linked : IsLinked g (has left) (λ w. w == target) place
  pub made : (ws : List ℕ) → IsJoinedPath g (has within) place ws target → IsJoinedPath g (has within) origin (path ++ ws) target

pub walking_none : (g : MixedGraph) (within origin target : ℕ) (path : List ℕ) → path ≡ [] → has within origin ≡ true → has within target ≡ true
    → IsLinked g (has within) (λ w. w == target) origin → Walking g within origin target within origin path
walking_none g within origin target path none i j l = record {
  left_in = λ v e. e;
  place_in = i;
  target_in = j;
  linked = l;
  made = λ ws r. subst (λ p. IsJoinedPath g (has within) origin (p ++ ws) target) (sym none) r;
}

module _ (g : MixedGraph) (ok : IsMixedGraph g) (within origin target left place : ℕ) (path : List ℕ) (k : Walking g within origin target left place path)
    (other : place ≢ target) (left' : ℕ) (is : (v : ℕ) → has left' v ≡ (has left v && not (v == place))) where
  less_in : (v : ℕ) → has left' v ≡ true → has left v ≡ true
  less_in v e = and_first (has left v) (not (v == place)) (sym (is v) ∙ e)

  pub less_within : (v : ℕ) → has left' v ≡ true → has within v ≡ true
  less_within v e = k.left_in v (less_in v e)

  pub target_left : has left' target ≡ true
  target_left = is target ∙ pair (has left target) (target == place) k.target_in (ne (target == place) refl)
    where
      pair : (p q : Bool) → p ≡ true → q ≡ false → (p && not q) ≡ true
      pair p q h j = grind (arith, h, j)

      ne : (b : Bool) → (target == place) ≡ b → (target == place) ≡ false
      ne false e = e
      ne true e = absurd (other (sym (eqb-true target place e)))

  pub fewer : left' < left
  fewer = lt_from_subset left' left place less_in (is place ∙ off (has left place) (place == place) (eq-eqb place place refl)) k.place_in
    where
      off : (p q : Bool) → q ≡ true → (p && not q) ≡ false
      off p q h = grind (arith, h)

  module _ (t : ℕ) (d : IsDistrict g left' (2 ^ target) t) (next : ℕ) (choice : (v : ℕ) → has next v ≡ (g.both place v && has t v)) where
    pub some_next : 0 < next
    some_next =
        let e = first_edge g (has left) place target other k.linked in
        let l : IsLinked g (has left') (λ w. w == target) e.0 =
        subst (λ (a : ℕ → Bool). IsLinked g a (λ w. w == target) e.0) (sym (fun_ext is)) e.2 in
        positive_from_has next e.0 (choice e.0 ∙ pair (g.both place e.0) (has t e.0) e.1 (in_district g left' target t e.0 d l))
      where
        pair : (p q : Bool) → p ≡ true → q ≡ true → (p && q) ≡ true
        pair p q h j = grind (arith, h, j)

    pub walking_more : (v : ℕ) → has next v ≡ true → (path' : List ℕ) → path' ≡ path ++ v ∷ [] → Walking g within origin target left' v path'
    walking_more v i path' more =
        let edge = and_first (g.both place v) (has t v) (sym (choice v) ∙ i) in
        let l = of_district g left' target t v d (and_second (g.both place v) (has t v) (sym (choice v) ∙ i)) in
        let own = link_in g ok (has left') (λ w. w == target) v (λ w e. ap (has left') (eqb-true w target e) ∙ target_left) l in
        record {
          left_in = less_within;
          place_in = own;
          target_in = target_left;
          linked = l;
          made = λ ws r. subst (λ p. IsJoinedPath g (has within) origin p target) (sym (append_assoc path (v ∷ []) ws) ∙ ap (λ p. p ++ ws) (sym more))
              (k.made (v ∷ ws) (edge, less_within v own, r));
        }

pub walked_all : (g : MixedGraph) (within origin target left place : ℕ) (path : List ℕ) → place ≡ target → Walking g within origin target left place path
    → IsJoinedPath g (has within) origin path target
walked_all g within origin target left place path same k = subst (λ p. IsJoinedPath g (has within) origin p target) (append-nil path) (k.made [] same)
