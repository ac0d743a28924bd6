-- A graph has one list of implications, as far as the vertices go that it names.
use Rattle.std.proofs.Common.{◌≡◌, ◌+◌, ◌<◌, ◌≤◌, ℕ, zero, suc, Bool, true, false, ◌&&◌, ◌||◌, nat_lt, List, [], ◌∷◌, length, get_or, inl, inr, refl}
use Rattle.std.proofs.Common.{sym, ap, ◌∙◌, subst, IsTrue, arith}
use mathlib.Core.Path.{fun_ext}
use Rattle.std.specs.Prelude.{All}
use Rattle.std.proofs.lemmas.Bool.{ltb-true, false_from_ne_true, true_from_ne_false, or_cases, or_left, or_right, false≢true}
use Rattle.std.proofs.lemmas.List.Elements.{All-head, All-tail}
use Rattle.finite_models.proofs.Bools.{same_truth}
use Rattle.mixed_graph.specs.Vocabulary.{has, MixedGraph, union, one}
use Rattle.mixed_graph.proofs.Masks.{same_from_has}
use Rattle.m_separation.specs.Vocabulary.{IsSeparated}
use Rattle.mixed_graph.proofs.MaskLaws.{has_join, has_none}
use Rattle.implications.specs.declared.pairs.Implication.{Implication}
use Rattle.implications.specs.Vocabulary.{only, rest_at, IsThinned, IsGivenSet, IsImplication, AreImplications}
use Rattle.implications_command.specs.Used.{used_for, used_in}

-- ---- the set of a pair

same_and : (c x y d : Bool) → (c ≡ true → x ≡ y) → ((c && x) || d) ≡ ((c && y) || d)
same_and true x y d h = ap (λ (z : Bool). z || d) (h refl)
same_and false x y d h = refl

module _ (g : MixedGraph) (a b : ℕ) (all kept also : ℕ → Bool) where
  -- what is left at v is the same, where the sets agree above v
  same_rest : (v : ℕ) → ((w : ℕ) → v < w → kept w ≡ also w) → rest_at all kept v ≡ rest_at all also v
  same_rest v above = fun_ext (λ w. same_and (nat_lt v w) (kept w) (also w) (nat_lt w v && all w) (λ e. above w (ltb-true v w e)))

  kept_too : IsThinned g a b all kept → IsThinned g a b all also → (v : ℕ) → ((w : ℕ) → v < w → kept w ≡ also w) → kept v ≡ true → also v ≡ true
  kept_too t u v above e = true_from_ne_false (also v) (λ f.
      let walk = t.needed v e in
      let apart = subst (λ (rest : ℕ → Bool). IsSeparated g (only a) (only b) rest) (sym (same_rest v above)) (u.dropped v (t.inside v e) f) in
      apart walk.0 walk.1 walk.2)

module _ (g : MixedGraph) (a b : ℕ) (all kept also : ℕ → Bool) (n : ℕ) (within : (v : ℕ) → all v ≡ true → v < n) (t : IsThinned g a b all kept)
    (u : IsThinned g a b all also) where
  outside : (s : ℕ → Bool) → ((v : ℕ) → IsTrue (s v) → IsTrue (all v)) → (v : ℕ) → n ≤ v → s v ≡ false
  outside s inside v h = false_from_ne_true (s v) (λ e. let low = within v (inside v e) in absurd (omega (arith, low, h)))

  -- from the highest vertex down
  down : (k v : ℕ) → n ≤ v + k → kept v ≡ also v
  down zero v h = outside kept t.inside v (omega arith) ∙ sym (outside also u.inside v (omega arith))
  down (suc k) v h =
      let above : (w : ℕ) → v < w → kept w ≡ also w = λ w lt. down k w (omega arith) in
      same_truth (kept v) (also v) (kept_too g a b all kept also t u v above) (kept_too g a b all also kept u t v (λ w lt. sym (above w lt)))

-- a pair has one set
pub one_given : (g : MixedGraph) (a b : ℕ) (w z : ℕ → Bool) → IsGivenSet g a b w → IsGivenSet g a b z → (v : ℕ) → w v ≡ z v
one_given g a b w z s t v =
    let others : t.others ≡ s.others = fun_ext (λ k. same_truth (t.others k) (s.others k) (λ e. (s.ancestors k).1 ((t.ancestors k).0 e))
    (λ e. (t.ancestors k).1 ((s.ancestors k).0 e))) in
    down g a b s.others w z g.vertices (λ k e. ((s.ancestors k).0 e).above.vertex) s.thinned
    (subst (λ (all : ℕ → Bool). IsThinned g a b all z) others t.thinned) g.vertices v (omega arith)

-- ---- the vertices of a list

-- what each pair names is named by the list
of_member : (list : List Implication) (k : ℕ) (d : Implication) (v : ℕ) → k < length list → has (used_for (get_or list k d)) v ≡ true → has (used_in list) v
    ≡ true
of_member [] k d v h e = absurd (omega arith)
of_member (i ∷ is) zero d v h e = has_join (used_for i) (used_in is) v ∙ or_left (has (used_for i) v) (has (used_in is) v) e
of_member (i ∷ is) (suc k) d v h e = has_join (used_for i) (used_in is) v
    ∙ or_right (has (used_for i) v) (has (used_in is) v) (of_member is k d v (omega arith) e)

-- the list names no more than its pairs
of_all : (mask : ℕ) (list : List Implication) → All (λ i. (v : ℕ) → has (used_for i) v ≡ true → has mask v ≡ true) list → (v : ℕ) → has (used_in list) v
    ≡ true → has mask v ≡ true
of_all mask [] each v e = absurd (false≢true (sym (has_none v) ∙ e))
of_all mask (i ∷ is) each v e =
    let P : Implication → Type 0 = λ j. (u : ℕ) → has (used_for j) u ≡ true → has mask u ≡ true in
    elim (or_cases (has (used_for i) v) (has (used_in is) v) (sym (has_join (used_for i) (used_in is) v) ∙ e)) [
      | inl here ↦ All-head P i is each v here
      | inr later ↦ of_all mask is (All-tail P i is each) v later
    ]

-- pairs of the same vertices with the same set name the same
same_used : (i j : Implication) → j.a ≡ i.a → j.b ≡ i.b → j.given.bits ≡ i.given.bits → used_for j ≡ used_for i
same_used i j a b s =
    ap (λ (k : ℕ). union (one k) (union (one j.b) j.given.bits)) a ∙ ap (λ (k : ℕ). union (one i.a) (union (one k) j.given.bits)) b
    ∙ ap (λ (k : ℕ). union (one i.a) (union (one i.b) k)) s

module _ (g : MixedGraph) (list others : List Implication) (is : AreImplications g list) (are : AreImplications g others) where
  -- a pair of the one list is in the other
  among : (i : Implication) → IsImplication g i → (v : ℕ) → has (used_for i) v ≡ true → has (used_in others) v ≡ true
  among i imp v e =
      let there = are.all i.a i.b (record { order = imp.order; vertex = imp.vertex; set = has i.given.bits; separating = imp.given.separating }) in
      let j = there.1 in
      let other : IsImplication g j = subst (IsImplication g) there.3 (are.each there.0 j there.2) in
      let given : IsGivenSet g i.a i.b (has j.given.bits) =
      subst (λ (k : ℕ). IsGivenSet g i.a k (has j.given.bits)) there.4.1 (subst (λ (k : ℕ). IsGivenSet g k j.b (has j.given.bits)) there.4.0 other.given) in
      let bits : j.given.bits ≡ i.given.bits = same_from_has j.given.bits i.given.bits
      (one_given g i.a i.b (has j.given.bits) (has i.given.bits) given imp.given) in
      let used : used_for j ≡ used_for i = same_used i j there.4.0 there.4.1 bits in
      of_member others there.0 j v there.2 (subst (λ (k : Implication). has (used_for k) v ≡ true) (sym there.3) (ap (λ (m : ℕ). has m v) used ∙ e))

  pub names_too : (v : ℕ) → has (used_in list) v ≡ true → has (used_in others) v ≡ true
  names_too = of_all (used_in others) list (λ k d lt. among (get_or list k d) (is.each k d lt))

-- two lists of implications of a graph name the same vertices
pub one_used : (g : MixedGraph) (list others : List Implication) → AreImplications g list → AreImplications g others → used_in others ≡ used_in list
one_used g list others is are = same_from_has (used_in others) (used_in list)
    (λ v. same_truth (has (used_in others) v) (has (used_in list) v) (names_too g others list are is v) (names_too g list others is are v))
