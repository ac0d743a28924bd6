-- Each step keeps the value at each assignment in each positive model of the graph.
use Rattle.std.proofs.Common.{ℕ, ◌≡◌, ◌<◌, ◌≤◌, Bool, true, false, cond, eqb, ltb, leb, not, refl, sym, ap, ◌∙◌, ◌||◌, ◌&&◌, subst, List, length}
use Rattle.std.proofs.Common.{get_or, Some, None, Option, MatchOption, arith, eqb-true, ltb-true, eq-eqb}
use Rattle.std.proofs.Math.Bool.{or_comm}
use Rattle.std.proofs.lemmas.Option.{none-some}
use Rattle.mixed_graph.specs.Vocabulary.{has, MixedGraph, IsMixedGraph, union, minus, all, is_empty, is_apart, is_inside}
use Rattle.fractions.specs.Vocabulary.{Fraction, over, IsEqual, IsPositive, mul}
use Rattle.fractions.proofs.FractionLaws.{equal_refl, equal_sym, equal_trans, mul-one, mul_assoc, mul_equal}
use Rattle.finite_models.specs.Vocabulary.{FiniteModel, Fits, IsAssignment, IsPositiveModel}
use Rattle.finite_models.proofs.Bools.{and_first, and_second}
use Rattle.do_rules.specs.declared.rules.Rule.TheVariants.{One, Two, Three}
use Rattle.prob_expr.specs.Tree.{Tree, prob, sum, product, quotient, named, tree}
use Rattle.prob_expr.specs.Vocabulary.{Trees, no_trees, weights_of, term_value, value, product_value}
use Rattle.mixed_graph.proofs.MaskLaws as masks
use Rattle.mixed_graph.proofs.MaskLaws.{has_join, has_one, put_back}
use Rattle.do_derivation.specs.Plans.{Move, Plan, Plans, no_plans, plan}
use Rattle.do_derivation.specs.Shapes.{is_list_of, chained, gathered, term_with, unchained, grouped, is_grouping, groups_of, count_factors, narrowed}
use Rattle.do_derivation.specs.Shapes.{unwrapped, has_product, flat, child, with_child}
use Rattle.do_derivation.specs.Steps.{IsMade, Makes, MakesAll}
use Rattle.do_derivation.specs.Table.{Row, row, on_term, if_so, if_made, is_new, is_part}
use Rattle.do_derivation.specs.declared.faults.StepFault.{StepFault}
use Rattle.do_derivation.specs.declared.faults.StepFault.TheVariants.{Sets, BadOrder, Grouping, NoLemma, Shape}
use Rattle.do_derivation.specs.declared.moves.SetMove.TheVariants as set_move
use Rattle.do_derivation.specs.declared.moves.BareMove.TheVariants as bare_move
use Rattle.do_derivation.proofs.TreeTerms.{AreTerms, AreTermsEach, groups_terms, flat_terms, chained_terms, child_terms, with_child_terms}
use Rattle.do_derivation.proofs.TermSets
use Rattle.do_derivation.proofs.TermSets.{IsTerm, IsNew}
use Rattle.do_derivation.proofs.TermLaws
use Rattle.do_derivation.proofs.Products
use Rattle.prob_expr.proofs.ValueLaws
use Rattle.prob_expr.proofs.ValueLaws.{IsSame}
use Rattle.do_derivation.proofs.Children
use Rattle.do_derivation.proofs.Children.{some_is}

cond_some : {A : Type 0} (t : Bool) (o : Option A) (x : A) → cond t o None ≡ Some x → (t ≡ true) × (o ≡ Some x)
cond_some true o x e = (refl, e)
cond_some false o x e = absurd (none-some x e)

module _ (g : MixedGraph) (ok : IsMixedGraph g) (m : FiniteModel) (fit : Fits g m) (positive : IsPositiveModel m)
    (q : ℕ → (ℕ → ℕ) → Fraction) (defined : (k : ℕ) (s : ℕ → ℕ) → IsAssignment m.vertices m.size s → IsPositive (q k s))
    (lemmas : List ℕ) (cited : (k : ℕ) (s : ℕ → ℕ) → k < length lemmas → IsAssignment m.vertices m.size s
    → IsEqual (q k s) (term_value (weights_of m) (get_or lemmas k 0) (minus (all g.vertices) (get_or lemmas k 0)) 0 s)) where
  -- the new expression has terms and the value of the old
  pub Kept : Tree → Tree → Type 0
  Kept e e' = AreTerms g.vertices e' × IsSame m q e e'

  pub kept_same : (e e' : Tree) → Kept e e' → (s : ℕ → ℕ) → IsAssignment m.vertices m.size s
      → IsEqual (value (weights_of m) q e s) (value (weights_of m) q e' s)
  unfolding Kept
  kept_same e e' k s w = k.1 s w

  pub kept_terms : (e e' : Tree) → Kept e e' → AreTerms g.vertices e'
  unfolding Kept
  kept_terms e e' k = k.0

  kept_of : (e x e' : Tree) → e' ≡ x → AreTerms g.vertices x → IsSame m q e x → Kept e e'
  unfolding Kept
  kept_of e x e' p t h = subst (λ y. AreTerms g.vertices y × IsSame m q e y) (sym p) (t, h)

  -- ---- rows on terms
  on_term_kept : (f : ℕ → ℕ → ℕ → Row) → ((a b c : ℕ) (e' : Tree) → IsTerm g.vertices a b c → (a ≡ 0 → ⊥) → IsMade g (f a b c) e' → Kept (prob a b c) e')
      → (e e' : Tree) → AreTerms g.vertices e → IsMade g (on_term f e) e' → Kept e e'
  on_term_kept f h (prob a b c) e' t k = h a b c e' t.0 t.1 k
  on_term_kept f h (sum u e) e' t k = absurd k
  on_term_kept f h (product ts) e' t k = absurd k
  on_term_kept f h (quotient x y) e' t k = absurd k
  on_term_kept f h (named i) e' t k = absurd k

  if_so_made : (ok : Bool) (r : Row) (fault : StepFault) (e' : Tree) → IsMade g (if_so ok r fault) e' → (ok ≡ true) × IsMade g r e'
  if_so_made true r fault e' k = (refl, k)
  if_so_made false r fault e' k = absurd k

  if_made_made : (o : Option Tree) (fault : StepFault) (e' : Tree) → IsMade g (if_made o fault) e' → o ≡ Some e'
  if_made_made (Some x) fault e' k = ap (λ y. Some y) (sym k)
  if_made_made None fault e' k = absurd k

  inside_of : (z b : ℕ) → is_part z b ≡ true → is_inside z b ≡ true
  inside_of z b e = and_second (not (is_empty z)) (is_inside z b) e

  -- ---- rows on products
  gathered_kept : (ts : Trees) (a b c u : ℕ) → gathered a b c ts ≡ Some u → IsTerm g.vertices a b c → (a ≡ 0 → ⊥) → AreTermsEach g.vertices ts
      → (IsTerm g.vertices u b c × (u ≡ 0 → ⊥)) × ((s : ℕ → ℕ) → IsAssignment m.vertices m.size s
      → IsEqual (mul (term_value (weights_of m) a b c s) (product_value (weights_of m) q ts s)) (term_value (weights_of m) u b c s))
  gathered_kept no_trees a b c u e t full r =
      subst (λ x. (IsTerm g.vertices x b c × (x ≡ 0 → ⊥)) × ((s : ℕ → ℕ) → IsAssignment m.vertices m.size s
      → IsEqual (mul (term_value (weights_of m) a b c s) (over 1 1)) (term_value (weights_of m) x b c s))) (some_is a u e) (
        (t, full),
        λ s w. rw (mul-one (term_value (weights_of m) a b c s))
            (equal_refl (term_value (weights_of m) a b c s) (ValueLaws.term_positive g ok m fit positive a b c s w).bottom),
      )
  gathered_kept (tree (prob a' b' c') ts) a b c u e t full r =
      let h = cond_some (is_apart a' a && (eqb b' b && eqb c' (union c a))) (gathered (union a a') b c ts) u e in
      let both = and_second (is_apart a' a) (eqb b' b && eqb c' (union c a)) h.0 in
      let be = eqb-true b' b (and_first (eqb b' b) (eqb c' (union c a)) both) in
      let ce = eqb-true c' (union c a) (and_second (eqb b' b) (eqb c' (union c a)) both) in
      let t' : IsTerm g.vertices a' b (union c a) = subst (λ x. IsTerm g.vertices a' b x) ce (subst (λ x. IsTerm g.vertices a' x c') be r.0.0) in
      let ih = gathered_kept ts (union a a') b c u h.1 (TermSets.of_next g.vertices a b c a' t t') (masks.join_filled a a' full) r.1 in (
        ih.0,
        λ s w.
            subst (λ x. IsEqual (mul (term_value (weights_of m) a b c s) (mul (term_value (weights_of m) a' b' x s) (product_value (weights_of m) q ts s)))
            (term_value (weights_of m) u b c s)) (sym ce)
            (subst (λ x. IsEqual (mul (term_value (weights_of m) a b c s)
            (mul (term_value (weights_of m) a' x (union c a) s) (product_value (weights_of m) q ts s))) (term_value (weights_of m) u b c s)) (sym be)
            (equal_trans (mul (term_value (weights_of m) a b c s) (mul (term_value (weights_of m) a' b (union c a) s) (product_value (weights_of m) q ts s)))
            (mul (term_value (weights_of m) (union a a') b c s) (product_value (weights_of m) q ts s)) (term_value (weights_of m) u b c s)
            (regroup (term_value (weights_of m) a b c s) (term_value (weights_of m) a' b (union c a) s) (product_value (weights_of m) q ts s)
            (term_value (weights_of m) (union a a') b c s)
            (ValueLaws.product_positive g ok m fit positive q defined ts s w).bottom
            (TermLaws.product_rule g ok m fit positive s w (union a a') a a' b c (union c a)
            (λ v. ap (λ p. has a' v || p) (has_join c a v) ∙ shuffle (has a v) (has a' v) (has c v) ∙ ap (λ p. p || has c v) (sym (has_join a a' v)))
            (λ v. has_join c a v ∙ or_comm (has c v) (has a v))))
            (ih.1 s w))),
      )
    where
      shuffle : (p q r : Bool) → (q || (r || p)) ≡ ((p || q) || r)
      shuffle true true r = refl
      shuffle true false true = refl
      shuffle true false false = refl
      shuffle false true r = refl
      shuffle false false true = refl
      shuffle false false false = refl

      regroup : (f h k w : Fraction) → 1 ≤ k.bottom → IsEqual w (mul f h) → IsEqual (mul f (mul h k)) (mul w k)
      regroup f h k w le e = rw (mul_assoc f h k) (mul_equal (mul f h) w k k (equal_sym w (mul f h) e) (equal_refl k le))
  gathered_kept (tree (sum z x) ts) a b c u e t full r = absurd (none-some u e)
  gathered_kept (tree (product es) ts) a b c u e t full r = absurd (none-some u e)
  gathered_kept (tree (quotient x y) ts) a b c u e t full r = absurd (none-some u e)
  gathered_kept (tree (named k) ts) a b c u e t full r = absurd (none-some u e)

  term_with_some : (b c : ℕ) (o : Option ℕ) (e' : Tree) → term_with b c o ≡ Some e' → (u : ℕ) × (o ≡ Some u) × (e' ≡ prob u b c)
  term_with_some b c (Some u) e' h = (u, refl, sym (some_is (prob u b c) e' h))
  term_with_some b c None e' h = absurd (none-some e' h)

  unchain_kept : (e e' : Tree) → unchained e ≡ Some e' → AreTerms g.vertices e → Kept e e'
  unfolding Kept
  unchain_kept (product (tree (prob a b c) (tree f ts))) e' h t =
      let r = term_with_some b c (gathered a b c (tree f ts)) e' h in
      let k = gathered_kept (tree f ts) a b c r.0 r.1 t.0.0 t.0.1 t.1 in
      kept_of (product (tree (prob a b c) (tree f ts))) (prob r.0 b c) e' r.2 k.0 k.1
  unchain_kept (product (tree (prob a b c) no_trees)) e' h t = absurd (none-some e' h)
  unchain_kept (product (tree (sum z x) ts)) e' h t = absurd (none-some e' h)
  unchain_kept (product (tree (product es) ts)) e' h t = absurd (none-some e' h)
  unchain_kept (product (tree (quotient x y) ts)) e' h t = absurd (none-some e' h)
  unchain_kept (product (tree (named k) ts)) e' h t = absurd (none-some e' h)
  unchain_kept (product no_trees) e' h t = absurd (none-some e' h)
  unchain_kept (prob a b c) e' h t = absurd (none-some e' h)
  unchain_kept (sum z x) e' h t = absurd (none-some e' h)
  unchain_kept (quotient x y) e' h t = absurd (none-some e' h)
  unchain_kept (named k) e' h t = absurd (none-some e' h)

  group_kept : (l : List (List ℕ)) (e e' : Tree) → grouped l e ≡ Some e' → AreTerms g.vertices e → Kept e e'
  group_kept l (product ts) e' h t =
      let r = cond_some (is_grouping (count_factors ts) l) (Some (product (groups_of ts l))) e' h in
      kept_of (product ts) (product (groups_of ts l)) e' (sym (some_is (product (groups_of ts l)) e' r.1)) (groups_terms g.vertices ts l t)
      (λ s w. Products.group_law (weights_of m) q s ts l (ValueLaws.product_positive g ok m fit positive q defined ts s w).bottom r.0)
  group_kept l (prob a b c) e' h t = absurd (none-some e' h)
  group_kept l (sum z x) e' h t = absurd (none-some e' h)
  group_kept l (quotient x y) e' h t = absurd (none-some e' h)
  group_kept l (named k) e' h t = absurd (none-some e' h)

  unwrap_kept : (e e' : Tree) → unwrapped e ≡ Some e' → AreTerms g.vertices e → Kept e e'
  unwrap_kept (product ts) e' h t =
      let r = cond_some (has_product ts) (Some (product (flat ts))) e' h in
      kept_of (product ts) (product (flat ts)) e' (sym (some_is (product (flat ts)) e' r.1)) (flat_terms g.vertices ts t)
      (λ s w. Products.unwrap_law (weights_of m) q s ts (ValueLaws.product_positive g ok m fit positive q defined ts s w).bottom)
  unwrap_kept (prob a b c) e' h t = absurd (none-some e' h)
  unwrap_kept (sum z x) e' h t = absurd (none-some e' h)
  unwrap_kept (quotient x y) e' h t = absurd (none-some e' h)
  unwrap_kept (named k) e' h t = absurd (none-some e' h)

  narrow_kept : (e e' : Tree) → narrowed e ≡ Some e' → AreTerms g.vertices e → Kept e e'
  narrow_kept (sum u (prob a b c)) e' h t =
      let r = cond_some (is_inside u a && not (eqb u a)) (Some (prob (minus a u) b c)) e' h in
      let i = and_first (is_inside u a) (not (eqb u a)) r.0 in
      kept_of (sum u (prob a b c)) (prob (minus a u) b c) e' (sym (some_is (prob (minus a u) b c) e' r.1)) (
        TermSets.of_part g.vertices a b c (minus a u) t.1.0 (λ v. TermSets.minus_left a u v),
        λ z. absurd (grind (arith, and_second (is_inside u a) (not (eqb u a)) r.0, ap not (eq-eqb u a (ap (λ x. union x u) (sym z) ∙ put_back a u i)))),
      )
      (λ s w. subst (λ x. IsEqual (value (weights_of m) q (sum u (prob x b c)) s) (term_value (weights_of m) (minus a u) b c s)) (put_back a u i)
      (TermLaws.sum_law g ok m fit positive s w (minus a u) b u c (TermSets.taken_of g.vertices a b c u t.1.0 i) q))
  narrow_kept (sum u (sum z x)) e' h t = absurd (none-some e' h)
  narrow_kept (sum u (product ts)) e' h t = absurd (none-some e' h)
  narrow_kept (sum u (quotient x y)) e' h t = absurd (none-some e' h)
  narrow_kept (sum u (named k)) e' h t = absurd (none-some e' h)
  narrow_kept (product ts) e' h t = absurd (none-some e' h)
  narrow_kept (prob a b c) e' h t = absurd (none-some e' h)
  narrow_kept (quotient x y) e' h t = absurd (none-some e' h)
  narrow_kept (named k) e' h t = absurd (none-some e' h)

  -- ---- all rows
  row_kept : (move : Move) (e e' : Tree) → AreTerms g.vertices e → IsMade g (row g.vertices lemmas move e) e' → Kept e e'
  row_kept (Move.WithSet set_move.Rule1In z) e e' t h =
      on_term_kept (λ a b c. if_so (is_new g.vertices z a b c) (Row.Ask One b a z c (prob a b (union c z))) Sets)
      (λ a b c e' t full h.
      let r = if_so_made (is_new g.vertices z a b c) (Row.Ask One b a z c (prob a b (union c z))) Sets e' h in
      let k = TermSets.new_from g.vertices z a b c r.0 in
      kept_of (prob a b c) (prob a b (union c z)) e' r.1.1 (TermSets.given_more g.vertices a b c z t k, full)
      (λ s w. equal_sym (term_value (weights_of m) a b (union c z) s) (term_value (weights_of m) a b c s)
      (TermLaws.law_1 g ok m fit positive s w a b z c t k r.1.0)))
      e e' t h
  row_kept (Move.WithSet set_move.Rule1Out z) e e' t h =
      on_term_kept (λ a b c. if_so (is_part z c) (Row.Ask One b a z (minus c z) (prob a b (minus c z))) Sets)
      (λ a b c e' t full h.
      let r = if_so_made (is_part z c) (Row.Ask One b a z (minus c z) (prob a b (minus c z))) Sets e' h in
      let i = inside_of z c r.0 in
      kept_of (prob a b c) (prob a b (minus c z)) e' r.1.1 (TermSets.given_less g.vertices a b c z t, full)
      (λ s w. subst (λ x. IsEqual (term_value (weights_of m) a b x s) (term_value (weights_of m) a b (minus c z) s)) (put_back c z i)
      (TermLaws.law_1 g ok m fit positive s w a b z (minus c z) (TermSets.given_less g.vertices a b c z t) (TermSets.taken_given g.vertices a b c z t i)
      r.1.0)))
      e e' t h
  row_kept (Move.WithSet set_move.Rule2See z) e e' t h =
      on_term_kept (λ a b c. if_so (is_part z b) (Row.Ask Two (minus b z) a z c (prob a (minus b z) (union c z))) Sets)
      (λ a b c e' t full h.
      let r = if_so_made (is_part z b) (Row.Ask Two (minus b z) a z c (prob a (minus b z) (union c z))) Sets e' h in
      let i = inside_of z b r.0 in
      let t' = TermSets.doing_less g.vertices a b c z t in
      let k = TermSets.taken_doing g.vertices a b c z t i in
      kept_of (prob a b c) (prob a (minus b z) (union c z)) e' r.1.1 (TermSets.given_more g.vertices a (minus b z) c z t' k, full)
      (λ s w. subst (λ x. IsEqual (term_value (weights_of m) a x c s) (term_value (weights_of m) a (minus b z) (union c z) s)) (put_back b z i)
      (TermLaws.law_2 g ok m fit positive s w a (minus b z) z c t' k r.1.0)))
      e e' t h
  row_kept (Move.WithSet set_move.Rule2Do z) e e' t h =
      on_term_kept (λ a b c. if_so (is_part z c) (Row.Ask Two b a z (minus c z) (prob a (union b z) (minus c z))) Sets)
      (λ a b c e' t full h.
      let r = if_so_made (is_part z c) (Row.Ask Two b a z (minus c z) (prob a (union b z) (minus c z))) Sets e' h in
      let i = inside_of z c r.0 in
      let t' = TermSets.given_less g.vertices a b c z t in
      let k = TermSets.taken_given g.vertices a b c z t i in
      kept_of (prob a b c) (prob a (union b z) (minus c z)) e' r.1.1 (TermSets.doing_more g.vertices a b (minus c z) z t' k, full)
      (λ s w. subst (λ x. IsEqual (term_value (weights_of m) a b x s) (term_value (weights_of m) a (union b z) (minus c z) s)) (put_back c z i)
      (equal_sym (term_value (weights_of m) a (union b z) (minus c z) s) (term_value (weights_of m) a b (union (minus c z) z) s)
      (TermLaws.law_2 g ok m fit positive s w a b z (minus c z) t' k r.1.0))))
      e e' t h
  row_kept (Move.WithSet set_move.Rule3In z) e e' t h =
      on_term_kept (λ a b c. if_so (is_new g.vertices z a b c) (Row.Ask Three b a z c (prob a (union b z) c)) Sets)
      (λ a b c e' t full h.
      let r = if_so_made (is_new g.vertices z a b c) (Row.Ask Three b a z c (prob a (union b z) c)) Sets e' h in
      let k = TermSets.new_from g.vertices z a b c r.0 in
      kept_of (prob a b c) (prob a (union b z) c) e' r.1.1 (TermSets.doing_more g.vertices a b c z t k, full)
      (λ s w. equal_sym (term_value (weights_of m) a (union b z) c s) (term_value (weights_of m) a b c s)
      (TermLaws.law_3 g ok m fit positive s w a b z c t k r.1.0)))
      e e' t h
  row_kept (Move.WithSet set_move.Rule3Out z) e e' t h =
      on_term_kept (λ a b c. if_so (is_part z b) (Row.Ask Three (minus b z) a z c (prob a (minus b z) c)) Sets)
      (λ a b c e' t full h.
      let r = if_so_made (is_part z b) (Row.Ask Three (minus b z) a z c (prob a (minus b z) c)) Sets e' h in
      let i = inside_of z b r.0 in
      let t' = TermSets.doing_less g.vertices a b c z t in
      kept_of (prob a b c) (prob a (minus b z) c) e' r.1.1 (t', full)
      (λ s w. subst (λ x. IsEqual (term_value (weights_of m) a x c s) (term_value (weights_of m) a (minus b z) c s)) (put_back b z i)
      (TermLaws.law_3 g ok m fit positive s w a (minus b z) z c t' (TermSets.taken_doing g.vertices a b c z t i) r.1.0)))
      e e' t h
  row_kept (Move.Chain o) e e' t h =
      on_term_kept (λ a b c. if_so (leb 2 (length o) && is_list_of o a) (Row.Make (product (chained b c o))) BadOrder)
      (λ a b c e' t full h.
      let r = if_so_made (leb 2 (length o) && is_list_of o a) (Row.Make (product (chained b c o))) BadOrder e' h in
      let i = and_second (leb 2 (length o)) (is_list_of o a) r.0 in
      kept_of (prob a b c) (product (chained b c o)) e' r.1 (chained_terms g.vertices o a b c i t)
      (λ s w. TermLaws.chain_law g ok m fit positive s w q o a b c i))
      e e' t h
  row_kept (Move.Bare bare_move.Unchain) e e' t h = unchain_kept e e' (if_made_made (unchained e) Shape e' h) t
  row_kept (Move.Group l) e e' t h = group_kept l e e' (if_made_made (grouped l e) Grouping e' h) t
  row_kept (Move.WithSet set_move.Widen u) e e' t h =
      on_term_kept (λ a b c. if_so (is_new g.vertices u a b c) (Row.Make (sum u (prob (union a u) b c))) Sets)
      (λ a b c e' t full h.
      let r = if_so_made (is_new g.vertices u a b c) (Row.Make (sum u (prob (union a u) b c))) Sets e' h in
      let k = TermSets.new_from g.vertices u a b c r.0 in
      kept_of (prob a b c) (sum u (prob (union a u) b c)) e' r.1 (k.below, (TermSets.of_more g.vertices a b c u t k, masks.join_filled a u full))
      (λ s w. equal_sym (value (weights_of m) q (sum u (prob (union a u) b c)) s) (term_value (weights_of m) a b c s)
      (TermLaws.sum_law g ok m fit positive s w a b u c k q)))
      e e' t h
  row_kept (Move.Bare bare_move.Narrow) e e' t h = narrow_kept e e' (if_made_made (narrowed e) Shape e' h) t
  row_kept (Move.Bare bare_move.Split) e e' t h =
      on_term_kept (λ a b c. if_so (not (is_empty c)) (Row.Make (quotient (prob (union a c) b 0) (prob c b 0))) Sets)
      (λ a b c e' t full h.
      let r = if_so_made (not (is_empty c)) (Row.Make (quotient (prob (union a c) b 0) (prob c b 0))) Sets e' h in
      kept_of (prob a b c) (quotient (prob (union a c) b 0) (prob c b 0)) e' r.1
      ((TermSets.of_and_given g.vertices a b c t, masks.join_filled a c full), (TermSets.given_alone g.vertices a b c t, masks.filled_from c r.0))
      (λ s w. TermLaws.split_law g ok m fit positive s w a b c))
      e e' t h
  row_kept (Move.Cite k) e e' t h =
      let l = get_or lemmas k 0 in
      let h' = if_so_made (ltb k (length lemmas)) (on_term (λ a b c. if_so (eqb a l && (eqb b (minus (all g.vertices) l) && is_empty c)) (Row.Make (named k))
      Shape) e) (NoLemma k) e' h in
      on_term_kept (λ a b c. if_so (eqb a l && (eqb b (minus (all g.vertices) l) && is_empty c)) (Row.Make (named k)) Shape)
      (λ a b c e' t full h.
      let r = if_so_made (eqb a l && (eqb b (minus (all g.vertices) l) && is_empty c)) (Row.Make (named k)) Shape e' h in
      let bc = and_second (eqb a l) (eqb b (minus (all g.vertices) l) && is_empty c) r.0 in
      kept_of (prob a b c) (named k) e' r.1 tt
      (λ s w. equal_sym (q k s) (term_value (weights_of m) a b c s) (rw (
        eqb-true a l (and_first (eqb a l) (eqb b (minus (all g.vertices) l) && is_empty c) r.0),
        eqb-true b (minus (all g.vertices) l) (and_first (eqb b (minus (all g.vertices) l)) (is_empty c) bc),
        eqb-true c 0 (and_second (eqb b (minus (all g.vertices) l)) (is_empty c) bc),
      )
      (cited k s (ltb-true k (length lemmas) h'.0) w))))
      e e' t h'.1
  row_kept (Move.Bare bare_move.Unwrap) e e' t h = unwrap_kept e e' (if_made_made (unwrapped e) Shape e' h) t

  -- ---- steps inside steps
  kept_then : (e x e' : Tree) → Kept e x → (AreTerms g.vertices x → Kept x e') → Kept e e'
  unfolding Kept
  kept_then e x e' k f =
      let r = f k.0 in
      (r.0, λ s w. equal_trans (value (weights_of m) q e s) (value (weights_of m) q x s) (value (weights_of m) q e' s) (k.1 s w) (r.1 s w))

  at_kept : (e : Tree) (i : ℕ) (o : Option Tree) (e' : Tree) (R : Tree → Tree → Type 0) → child e i ≡ o → AreTerms g.vertices e
      → ((c c' : Tree) → AreTerms g.vertices c → R c c' → Kept c c')
      → MatchOption o ⊥ (λ c. (c' : Tree) × R c c' × (e' ≡ with_child e i c')) → Kept e e'
  unfolding Kept
  at_kept e i None e' R h t k made = absurd made
  at_kept e i (Some c) e' R h t k made =
      let r = k c made.0 (child_terms g.vertices e i c h t) made.1 in
      kept_of e (with_child e i made.0) e' made.2 (with_child_terms g.vertices e i made.0 t r.0)
      (Children.child_same g ok m fit positive q defined e i c made.0 h r.1)

  mutual
    pub step_kept : (p : Plan) (e e' : Tree) → AreTerms g.vertices e → Makes g lemmas p e e' → Kept e e'
    step_kept (Plan.Make move) e e' t h = row_kept move e e' t h
    step_kept (Plan.At i p) e e' t h = at_kept e i (child e i) e' (λ c c'. Makes g lemmas p c c') refl t (λ c c' tc k. step_kept p c c' tc k) h
    step_kept (Plan.Then ps) e e' t h = steps_kept ps e e' t h

    steps_kept : (ps : Plans) (e e' : Tree) → AreTerms g.vertices e → MakesAll g lemmas ps e e' → Kept e e'
    steps_kept no_plans e e' t h = kept_of e e e' h t (λ s w. equal_refl (value (weights_of m) q e s)
        (ValueLaws.value_positive g ok m fit positive q defined e s w).bottom)
    steps_kept (plan p ps) e e' t h = kept_then e h.0 e' (step_kept p e h.0 t h.1) (λ tx. steps_kept ps h.0 e' tx h.2)
