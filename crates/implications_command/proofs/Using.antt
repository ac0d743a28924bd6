-- The vertices whose levels are read are those of the pairs and of their sets.
use Rattle.std.proofs.Common.{ℕ, suc, ◌+◌, ◌≡◌, ◌<◌, ◌≤◌, Bool, true, ◌||◌, List, [], ◌∷◌, All, length, drop, get_or, inl, inr, refl, sym, ap, ap₂}
use Rattle.std.proofs.Common.{◌∙◌, subst, arith}
use Rattle.std.proofs.lemmas.Bool.{or_cases, or_left, or_right, false≢true, cases_lt, eq-eqb, lt-ltb}
use Rattle.std.proofs.lemmas.List.{at_drop_more, at_drop_all}
use Rattle.std.proofs.lemmas.List.Elements.{All-nil, All-cons, All-weaker}
use Rattle.mixed_graph.specs.Vocabulary.{has, members_below, Within, union, one}
use Rattle.mixed_graph.proofs.MaskLaws.{has_join, has_one, has_none, join_assoc, join-zero, filled_has}
use Rattle.count_rows.specs.Vocabulary.{Table}
use Rattle.count_table.specs.Vocabulary.{AreCounts}
use Rattle.count_eval.specs.Vocabulary.{is_used}
use Rattle.count_table.proofs.Choosing.{size_in, sizes-pos, members_hold}
use Rattle.implications.specs.declared.pairs.Implication.{Implication}
use Rattle.implied_differences.specs.Vocabulary.{whole_of, IsReadable}
use Rattle.implications_command.specs.Pairs.{PlainPairs, ArePairs, IsNamed}
use Rattle.implications_command.specs.Used.{used_for, used_in}
use Rattle.implications_command.proofs.Naming.{all_named, all_low, whole_below}

-- ---- members

used_for_is : (i : Implication) (v : ℕ) → has (used_for i) v ≡ whole_of i v
used_for_is i v =
    has_join (one i.a) (union (one i.b) i.given.bits) v
    ∙ ap₂ (λ (x y : Bool). x || y) (has_one i.a v) (has_join (one i.b) i.given.bits v ∙ ap (λ x. x || has i.given.bits v) (has_one i.b v))

-- each vertex of each pair is used
pub all_used : (list : List Implication) → All (λ i. (v : ℕ) → whole_of i v ≡ true → has (used_in list) v ≡ true) list
all_used [] = All-nil (λ (i : Implication). (v : ℕ) → whole_of i v ≡ true → has (used_in []) v ≡ true)
all_used (i ∷ is) =
    All-cons (λ j. (v : ℕ) → whole_of j v ≡ true → has (used_in (i ∷ is)) v ≡ true) i is
    (λ v h. has_join (used_for i) (used_in is) v ∙ or_left (has (used_for i) v) (has (used_in is) v) (used_for_is i v ∙ h))
    (All-weaker (λ j. (v : ℕ) → whole_of j v ≡ true → has (used_in is) v ≡ true) (λ j. (v : ℕ) → whole_of j v ≡ true → has (used_in (i ∷ is)) v ≡ true)
    (λ j f v h. has_join (used_for i) (used_in is) v ∙ or_right (has (used_for i) v) (has (used_in is) v) (f v h)) is (all_used is))

-- each used vertex is one of n, where those of all pairs are
used_within : (n : ℕ) (list : List Implication) → All (IsNamed n) list → Within n (has (used_in list))
used_within n [] all v h = absurd (false≢true (sym (has_none v) ∙ h))
used_within n (i ∷ is) all v h = elim (or_cases (has (used_for i) v) (has (used_in is) v) (sym (has_join (used_for i) (used_in is) v) ∙ h)) [
  | inl e ↦ whole_below n i (all 0 i (omega arith)) v (sym (used_for_is i v) ∙ e)
  | inr e ↦ used_within n is (λ k d lt. all (suc k) d (omega (arith, lt))) v e
]

pub within : (p : PlainPairs) → ArePairs p → Within (length p.names) (has (used_in p.list))
within p are = used_within (length p.names) p.list (all_named p are)

-- where there is a pair, a vertex is used
some_used : (list : List Implication) → 0 < length list → used_in list ≡ 0 → ⊥
some_used [] some none = absurd (omega (arith, some))
some_used (i ∷ is) some none = filled_has (used_in (i ∷ is)) i.a
    (has_join (used_for i) (used_in is) i.a
    ∙ or_left (has (used_for i) i.a) (has (used_in is) i.a) (has_join (one i.a) (union (one i.b) i.given.bits) i.a
    ∙ or_left (has (one i.a) i.a) (has (union (one i.b) i.given.bits) i.a) (has_one i.a i.a ∙ eq-eqb i.a i.a refl)))
    none

pub some : (p : PlainPairs) → ArePairs p → 0 < used_in p.list
some p are = elim (cases_lt 0 (used_in p.list)) [
  | inl lt ↦ lt
  | inr le ↦ absurd (some_used p.list are.some (omega (arith, le)))
]

-- ---- the loop over pairs

pub used_step : (before after : ℕ) (list : List Implication) (k : ℕ) (d : Implication) → k < length list → after ≡ union before (used_for (get_or list k d))
    → union after (used_in (drop (k + 1) list)) ≡ union before (used_in (drop k list))
used_step before after list k d lt h =
    ap (λ x. union x (used_in (drop (k + 1) list))) h
    ∙ join_assoc before (used_for (get_or list k d)) (used_in (drop (k + 1) list))
    ∙ sym (ap (λ m. union before m) (at_drop_more (λ (l : List Implication). used_in l) list k d lt))

pub used_end : (all : ℕ) (list : List Implication) (k : ℕ) → length list ≤ k → all ≡ union all (used_in (drop k list))
used_end all list k le = sym (ap (λ m. union all m) (at_drop_all (λ (l : List Implication). used_in l) list k le) ∙ join-zero all)

-- ---- pairs over a table

module _ (p : PlainPairs) (are : ArePairs p) (t : Table) (counts : AreCounts t) (vertices : t.vertices ≡ members_below (has (used_in p.list)) 64) where
  in_table : (v : ℕ) → v < 64 → has (used_in p.list) v ≡ true → is_used t v ≡ true
  in_table v lt h =
      lt-ltb 0 (size_in t v)
      (members_hold (has (used_in p.list)) (λ u. 0 < size_in t u) 64 v (subst (λ (vs : List ℕ). All (λ u. 0 < size_in t u) vs) vertices (sizes-pos t counts))
      lt h)

  readable : (k : ℕ) (d : Implication) → k < length p.list → IsReadable t (get_or p.list k d)
  readable k d lt =
      let each = are.implications.each k d lt in
      record {
        order = each.order;
        used = λ v h. in_table v (whole_below 64 (get_or p.list k d) (all_low p are k d lt) v h) (all_used p.list k d lt v h);
        a_apart = each.given.separating.without_a;
        b_apart = each.given.separating.without_b;
      }

  pub readable_in : (list : List Implication) → list ≡ p.list → (k : ℕ) (d : Implication) → k < length list → IsReadable t (get_or list k d)
  readable_in list e k d lt = subst (λ (l : List Implication). IsReadable t (get_or l k d)) (sym e)
      (readable k d (subst (λ (l : List Implication). k < length l) e lt))
