-- The data of a folded model means a table model of the model that the theory gives.
use Rattle.std.specs.Prelude.{◌↔◌}
use Rattle.std.proofs.Common.{ℕ, zero, suc, ◌^◌, ◌∷◌, ◌++◌, ◌+◌, ◌*◌, ◌≡◌, ◌<◌, Bool, true, false, not, cond, ◌&&◌, ◌==◌, nat_lt, List, [], length}
use Rattle.std.proofs.Common.{map, get_or, IsTrue, refl, sym, ap, ap₂, ◌∙◌, subst, arith}
use Rattle.std.proofs.lemmas.Bool.{false_from_ne_true, not_from_false, lt-ltb, eq-eqb, ne_eqb}
use Rattle.std.proofs.lemmas.List.{get_or-map}
use Rattle.std.proofs.lemmas.Nat.{div-mul-add, mod-mul-add}
use Rattle.mixed_graph.specs.declared.sets.VSet.{VSet}
use Rattle.mixed_graph.specs.Vocabulary.{has, members_below, MixedGraph, IsMixedGraph}
use Rattle.mixed_graph.proofs.Masks.{positive_from_has, some_member}
use Rattle.latent_projection.specs.Vocabulary.{IsProjection, observed_below, IsObserved}
use Rattle.latent_projection.proofs.Numbering.{IsMixedGraph-renumbered}
use Rattle.latent_projection.proofs.Projected.{IsMixedGraph-projection}
use Rattle.latent_projection.proofs.Treks.{clash}
use Rattle.finite_models.specs.declared.model.Model.{Model}
use Rattle.finite_models.specs.declared.model.Mechanism.{Mechanism}
use Rattle.finite_models.specs.declared.model.Mechanism.TheVariants.{Table, Parity}
use Rattle.finite_models.specs.Vocabulary.{weights_of, children_of, meaning, value_by, place_in_table, FiniteModel, Fits, IsAssignment, places_of, HasInputs, HasPartSize, radix, radix_range, table_value, values_of, IsAcceptedModel}
use Rattle.finite_models.proofs.Bools.{same_truth}
use Rattle.finite_models.proofs.DataFits.{value_at}
use Rattle.finite_models.proofs.Factors.{any_below_from, any_below_gives}
use Rattle.finite_models.proofs.Following.{follows_of}
use Rattle.finite_models.proofs.Places.{weights_of-at, children_of-at}
use Rattle.finite_models.proofs.TableLaws.{radix-lt, table_index-lt}
use Rattle.hidden_models.proofs.Fold.{fold_follows}
use Rattle.hidden_models.proofs.FoldingLaw.{filled, fold, folded_by, by_treks, position, member, values_in}
use Rattle.hidden_models.proofs.Positions.{position_lt, member_position, member_is}
use Rattle.hidden_models.proofs.ReachingLaw.{reached, reaches_some, tells_reached, reached_below, keeps_causes, observed_of}
use Rattle.hidden_models.specs.Folding.{Folds}
use Rattle.hidden_models.proofs.Folded.{by_fits, by_folds}
use Rattle.hidden_models.proofs.Tabled.{IsTabled, tabled_fits, tabled_folds}
use Rattle.hidden_models.specs.Folded.{TellsReach, AreFoldedCauses, table_size, IsFoldedData}
use Rattle.hidden_models.specs.Reaching.{IsReachedFrom, IsReachOf, AreReached, mask_at, has_some}
use Rattle.hidden_models.specs.Tables.{world_range, entries, parents_at, causes_at, AreEntries, IsTableFor}
use Rattle.hidden_models.specs.Digits.{digits}
use Rattle.hidden_models.proofs.Compress.{AreAt, radix_compress, range_compress}
use Rattle.hidden_models.proofs.DigitLaws.{digits_radix}
use Rattle.hidden_models.proofs.ListLaws.{listed_at}

-- ---- one projection
one_arrow : (g p p' : MixedGraph) (l : ℕ → Bool) → IsProjection g l p → IsProjection g l p' → (a b : ℕ) → p.arrow a b ≡ p'.arrow a b
one_arrow g p p' l is is' a b = go (l a) (l b) refl refl
  where
    go : (x y : Bool) → l a ≡ x → l b ≡ y → p.arrow a b ≡ p'.arrow a b
    go true y e f = (is.isolated a e).no_child b ∙ sym ((is'.isolated a e).no_child b)
    go false true e f = (is.isolated b f).no_parent a ∙ sym ((is'.isolated b f).no_parent a)
    go false false e f = same_truth (p.arrow a b) (p'.arrow a b) (λ h. (is'.arrow a b e f).1 ((is.arrow a b e f).0 h))
        (λ h. (is.arrow a b e f).1 ((is'.arrow a b e f).0 h))

-- ---- members of tests that are the same
members-congr : (s t : ℕ → Bool) (k : ℕ) → ((u : ℕ) → u < k → s u ≡ t u) → members_below s k ≡ members_below t k
unfolding members_below
members-congr s t zero h = refl
members-congr s t (suc k) h = ap₂ (λ xs b. xs ++ cond b (k ∷ []) []) (members-congr s t k (λ u l. h u (omega arith))) (h k (omega arith))

range-congr : (n : ℕ) (p p' : ℕ → Bool) (b : ℕ → ℕ) → ((k : ℕ) → k < n → p k ≡ p' k) → radix_range n p b ≡ radix_range n p' b
range-congr zero p p' b h = refl
range-congr (suc n) p p' b h = ap₂ (λ c r. cond c (r * b n) r) (h n (omega arith)) (range-congr n p p' b (λ k kl. h k (omega arith)))

-- flags and bases alone
zero_digits : {j : ℕ → Bool} {n : ℕ} {p' p : ℕ → Bool} {b' b s' s : ℕ → ℕ} → AreAt j n p' p b' b s' s → AreAt j n p' p b' b (λ i. 0) (λ i. 0)
zero_digits h = record { flag = h.flag; base = h.base; digit = λ i lt e. refl; outside = h.outside }

-- what a mechanism that is a table puts out
abbrev pub outputs_in : Mechanism → List ℕ
outputs_in (Table outputs) = outputs.items
outputs_in (Parity h c) = []

module _ (g : MixedGraph) (ok : IsMixedGraph g) (l : ℕ → Bool) (m : Model) (accepted : IsAcceptedModel g m) (sets : List VSet)
    (are : AreReached g l m.causes.items sets) where
  abbrev drawn : FiniteModel
  drawn = meaning g m

  set_at_is : (j : ℕ) → j < length m.causes.items → (s : VSet) × (mask_at sets j ≡ s.bits) × IsReachOf g l m.causes.items j s
  set_at_is j jl =
      let h = listed_at (IsReachOf g l m.causes.items) sets (length m.causes.items) j are jl in
      (h.element, get_or-map (λ (s : VSet). s.bits) sets j h.element 0 h.below ∙ ap (λ (s : VSet). s.bits) (h.is h.element), h.fact)

  -- the sets tell what the causes reach
  pub same_reach : (j v : ℕ) → j < length m.causes.items → has (mask_at sets j) v ≡ reached g l drawn j v
  same_reach j v jl =
      let s = set_at_is j jl in
      let tells = tells_reached g l ok drawn accepted.fits in
      ap (λ b. has b v) s.1 ∙ same_truth (has (s.0).bits v) (reached g l drawn j v)
      (λ h. let r = (s.2.tells v).0 h in tells.complete j v jl r.observed
      (record { child = r.start; served = r.inside; way = record { path = r.path; leads = r.leads; before = r.before } }))
      (λ h. let r = tells.sound j v h in (s.2.tells v).1 (record {
        start = r.child;
        path = r.way.path;
        inside = r.served;
        leads = r.way.leads;
        before = r.way.before;
        observed = tells.observed j v h;
      }))

  -- what each set tells
  pub sets_tell : TellsReach g l m.causes.items (λ j v. has (mask_at sets j) v)
  sets_tell j jl v = let s = set_at_is j jl in subst (λ b. IsTrue (has b v) ↔ IsReachedFrom g l (has (children_of m.causes.items j)) v) (sym s.1) (s.2.tells v)

  pub some_tells : (j : ℕ) → j < length m.causes.items → IsTrue (has_some sets j) ↔ ((v : ℕ) × IsTrue (has (mask_at sets j) v))
  some_tells j jl =
      let s = set_at_is j jl in (
        λ h. some_member (mask_at sets j) (λ z. clash (mask_at sets j == 0) (eq-eqb (mask_at sets j) 0 z) (observed_of (mask_at sets j == 0) h))
            (subst (λ b. b < 2 ^ 64) (sym s.1) s.2.fits),
        λ w. let p : 0 < mask_at sets j = positive_from_has (mask_at sets j) w.0 w.1 in
            not_from_false (mask_at sets j == 0) (ne_eqb (mask_at sets j) 0 (λ z. omega arith)),
      )

  pub same_some : (j : ℕ) → j < length m.causes.items → has_some sets j ≡ reaches_some g l drawn j
  same_some j jl = same_truth (has_some sets j) (reaches_some g l drawn j)
      (λ h. let w = (some_tells j jl).0 h in
      let r : reached g l drawn j w.0 ≡ true = sym (same_reach j w.0 jl) ∙ w.1 in
      any_below_from g.vertices (reached g l drawn j) w.0 (reached_below g l ok drawn accepted.fits j w.0 r) r)
      (λ h. let w = any_below_gives g.vertices (reached g l drawn j) h in (some_tells j jl).1 (w.0, same_reach j w.0 jl ∙ w.2))

  pub same_numbers : members_below (has_some sets) (length sets) ≡ members_below (reaches_some g l drawn) (length m.causes.items)
  same_numbers = ap (members_below (has_some sets)) are.long ∙ members-congr (has_some sets) (reaches_some g l drawn) (length m.causes.items) same_some

  abbrev old : ℕ → ℕ
  old k = member (λ v. not (l v)) g.vertices k

  abbrev cause : ℕ → ℕ
  cause i = member (reaches_some g l drawn) (length m.causes.items) i

  module _ (q : MixedGraph) (is : IsObserved g l q) (p : MixedGraph) (projects : IsProjection g l p) where
    abbrev observed : ℕ
    observed = position (λ v. not (l v)) g.vertices

    vertices_is : q.vertices ≡ observed
    vertices_is = ap (λ (h : MixedGraph). h.vertices) is.renumbers

    hidden_is : (k : ℕ) → k < observed → l (old k) ≡ false
    hidden_is k kl = observed_of (l (old k)) (member_is (λ v. not (l v)) g.vertices k kl).inside

    arrow_is : (a b : ℕ) → a < observed → b < observed → q.arrow a b ≡ p.arrow (old a) (old b)
    arrow_is a b al bl =
        let x : nat_lt a observed ≡ true = lt-ltb a observed al in
        let y : nat_lt b observed ≡ true = lt-ltb b observed bl in
        ap (λ (h : MixedGraph). h.arrow a b) is.renumbers ∙ rw (x, y) (one_arrow g is.projection p l is.projects projects (old a) (old b))

    hidden_of : (b : Bool) → not b ≡ false → b ≡ true
    hidden_of true e = refl
    hidden_of false e = absurd (cc)

    -- the size of a table, in old numbers
    sizes_are : (v : ℕ) → v < observed → AreAt (λ v. not (l v)) g.vertices (λ k. q.arrow k v) (λ x. p.arrow x (old v)) (λ k. get_or m.sizes.items (old k) 0)
        (λ x. get_or m.sizes.items x 0) (λ i. 0) (λ i. 0)
    sizes_are v vl = record {
      flag = λ i il e. arrow_is (position (λ v. not (l v)) i) v (position_lt (λ v. not (l v)) i g.vertices il e) vl
          ∙ ap (λ x. p.arrow x (old v)) (member_position (λ v. not (l v)) g.vertices i il e);
      base = λ i il e. ap (λ x. get_or m.sizes.items x 0) (member_position (λ v. not (l v)) g.vertices i il e);
      digit = λ i il e. refl;
      outside = λ i il e. (projects.isolated i (hidden_of (l i) e)).no_child (old v);
    }

    pub table_size_is : (r : ℕ → ℕ → Bool) → TellsReach g l m.causes.items r → (v : ℕ) → v < observed → table_size l g q m r v ≡ entries p m sets (old v)
    table_size_is r tells v vl =
        let a : radix_range q.vertices (λ k. q.arrow k v) (λ k. get_or m.sizes.items (old k) 0)
        ≡ radix_range p.vertices (λ x. p.arrow x (old v)) (λ x. get_or m.sizes.items x 0) =
        ap (λ n. radix_range n (λ k. q.arrow k v) (λ k. get_or m.sizes.items (old k) 0)) vertices_is
        ∙ range_compress (λ v. not (l v)) g.vertices (λ k. q.arrow k v) (λ x. p.arrow x (old v)) (λ k. get_or m.sizes.items (old k) 0)
        (λ x. get_or m.sizes.items x 0) (sizes_are v vl)
        ∙ ap (λ n. radix_range n (λ x. p.arrow x (old v)) (λ x. get_or m.sizes.items x 0)) (sym projects.vertices) in
        let b : radix_range (length m.causes.items) (λ j. r j (old v)) (values_of m.causes.items) ≡ world_range m sets (old v) =
        range-congr (length m.causes.items) (λ j. r j (old v)) (λ j. has (mask_at sets j) (old v)) (values_of m.causes.items)
        (λ j jl. same_truth (r j (old v)) (has (mask_at sets j) (old v)) (λ h. (sets_tell j jl (old v)).1 ((tells j jl (old v)).0 h))
        (λ h. (tells j jl (old v)).1 ((sets_tell j jl (old v)).0 h))) in
        ap₂ (λ x y. x * y) a b

    module _ (f : Model) (d : IsFoldedData g p l m sets (observed_below l g.vertices) (members_below (has_some sets) (length sets)) f) where
      abbrev kept_causes : ℕ
      kept_causes = position (reaches_some g l drawn) (length m.causes.items)

      long_causes : length f.causes.items ≡ kept_causes
      long_causes = d.causes.long ∙ ap (λ (xs : List ℕ). length xs) same_numbers

      number_is : (i : ℕ) → get_or (members_below (has_some sets) (length sets)) i 0 ≡ cause i
      number_is i = ap (λ (xs : List ℕ). get_or xs i 0) same_numbers

      weights_is : (i : ℕ) → i < kept_causes → weights_of f.causes.items i ≡ weights_of m.causes.items (cause i)
      weights_is i il =
          let h = listed_at _ f.causes.items _ i d.causes (let e = ap (λ (xs : List ℕ). length xs) same_numbers in omega arith) in
          weights_of-at f.causes.items i h.element h.below (sym (h.is h.element)) ∙ h.fact.weights ∙ ap (weights_of m.causes.items) (number_is i)

      serves_is : (i v : ℕ) → i < kept_causes → has (children_of f.causes.items i) v ≡ (nat_lt v observed && reached g l drawn (cause i) (old v))
      serves_is i v il =
          let h = listed_at _ f.causes.items _ i d.causes (let e = ap (λ (xs : List ℕ). length xs) same_numbers in omega arith) in
          ap (λ b. has b v) (children_of-at f.causes.items i h.element h.below (sym (h.is h.element))) ∙ h.fact.children v
          ∙ ap (λ b. nat_lt v observed && b) (ap (λ j. has (mask_at sets j) (old v)) (number_is i)
          ∙ same_reach (cause i) (old v) (member_is (reaches_some g l drawn) (length m.causes.items) i il).below)

      abbrev pub folded_model : FiniteModel
      folded_model = folded_by drawn l (reached g l drawn) (reaches_some g l drawn)

      size_is : (k : ℕ) → k < observed → get_or f.sizes.items k 0 ≡ get_or m.sizes.items (old k) 0
      size_is k kl = d.sizes.each k kl 0

      outputs : ℕ → List ℕ
      outputs v = get_or (map outputs_in f.mechanisms.items) v []

      by_table : (v : ℕ) (s u : ℕ → ℕ) (w : ℕ) (x : Mechanism) → IsTableFor g p l m sets w x → value_by q f v s u x
          ≡ table_value (outputs_in x) (place_in_table q f v s u)
      by_table v s u w (Table o) h = refl
      by_table v s u w (Parity a b) h = absurd h

      looked_up : (v : ℕ) → v < observed → (s u : ℕ → ℕ) → (meaning q f).mechanism v s u ≡ table_value (outputs v) (place_in_table q f v s u)
      unfolding outputs
      looked_up v vl s u =
          let h = listed_at _ f.mechanisms.items _ v d.mechanisms vl in
          value_at q f v h.element h.below s u ∙ ap (value_by q f v s u) (h.is h.element) ∙ by_table v s u (old v) h.element h.fact
          ∙ ap (λ (o : List ℕ). table_value o (place_in_table q f v s u))
          (sym (get_or-map outputs_in f.mechanisms.items v h.element [] h.below ∙ ap outputs_in (h.is h.element)))

      entries_of_table : (w : ℕ) (x : Mechanism) → IsTableFor g p l m sets w x → AreEntries g p l m sets w (outputs_in x)
      entries_of_table w (Table o) h = h
      entries_of_table w (Parity a b) h = absurd h

      entries_are : (v : ℕ) → v < observed → AreEntries g p l m sets (old v) (outputs v)
      unfolding outputs
      entries_are v vl =
          let h = listed_at _ f.mechanisms.items _ v d.mechanisms vl in
          subst (λ (o : List ℕ). AreEntries g p l m sets (old v) o) (sym
          (get_or-map outputs_in f.mechanisms.items v h.element [] h.below ∙ ap outputs_in (h.is h.element))) (entries_of_table (old v) h.element h.fact)

      -- ---- the place of a table's output, in old numbers
      module _ (v : ℕ) (vl : v < observed) where
        parent : ℕ → Bool
        parent x = p.arrow x (old v)

        serving : ℕ → Bool
        serving j = has (mask_at sets j) (old v)

        parents_are : (s : ℕ → ℕ) → AreAt (λ v. not (l v)) g.vertices (λ k. q.arrow k v) (λ x. p.arrow x (old v)) (λ k. get_or f.sizes.items k 0)
            (λ x. get_or m.sizes.items x 0) s (values_in (λ v. not (l v)) s)
        parents_are s = record {
          flag = λ i il e. arrow_is (position (λ v. not (l v)) i) v (position_lt (λ v. not (l v)) i g.vertices il e) vl
              ∙ ap (λ x. p.arrow x (old v)) (member_position (λ v. not (l v)) g.vertices i il e);
          base = λ i il e. size_is (position (λ v. not (l v)) i) (position_lt (λ v. not (l v)) i g.vertices il e)
              ∙ ap (λ x. get_or m.sizes.items x 0) (member_position (λ v. not (l v)) g.vertices i il e);
          digit = λ i il e. rw e refl;
          outside = λ i il e. (projects.isolated i (hidden_of (l i) e)).no_child (old v);
        }

        causes_are : (u : ℕ → ℕ) → AreAt (reaches_some g l drawn) (length m.causes.items) (λ i. has (children_of f.causes.items i) v)
            (λ j. has (mask_at sets j) (old v)) (values_of f.causes.items) (values_of m.causes.items) u (values_in (reaches_some g l drawn) u)
        causes_are u = record {
          flag = λ j jl e. let pl = position_lt (reaches_some g l drawn) j (length m.causes.items) jl e in
              serves_is (position (reaches_some g l drawn) j) v pl ∙ rw (lt-ltb v observed vl)
              (ap (λ k. reached g l drawn k (old v)) (member_position (reaches_some g l drawn) (length m.causes.items) j jl e)
              ∙ sym (same_reach j (old v) jl));
          base = λ j jl e. ap (λ (w : List ℕ). length w) (weights_is (position (reaches_some g l drawn) j)
              (position_lt (reaches_some g l drawn) j (length m.causes.items) jl e)
              ∙ ap (weights_of m.causes.items) (member_position (reaches_some g l drawn) (length m.causes.items) j jl e));
          digit = λ j jl e. rw e refl;
          outside = λ j jl e. same_reach j (old v) jl ∙ false_from_ne_true (reached g l drawn j (old v))
              (λ h. clash (reaches_some g l drawn j) (any_below_from g.vertices (reached g l drawn j) (old v)
              (reached_below g l ok drawn accepted.fits j (old v) h) h) e);
        }

        worlds_are : radix_range (length f.causes.items) (λ i. has (children_of f.causes.items i) v) (values_of f.causes.items) ≡ world_range m sets (old v)
        worlds_are = ap (λ n. radix_range n (λ i. has (children_of f.causes.items i) v) (values_of f.causes.items)) long_causes
            ∙ range_compress (reaches_some g l drawn) (length m.causes.items) (λ i. has (children_of f.causes.items i) v) (λ j. has (mask_at sets j) (old v))
            (values_of f.causes.items) (values_of m.causes.items) (zero_digits (causes_are (λ i. 0)))

        places_are : places_of q f v ≡ entries p m sets (old v)
        places_are =
            let a : radix_range q.vertices (λ k. q.arrow k v) (λ k. get_or f.sizes.items k 0)
            ≡ radix_range p.vertices (λ x. p.arrow x (old v)) (λ x. get_or m.sizes.items x 0) =
            ap (λ n. radix_range n (λ k. q.arrow k v) (λ k. get_or f.sizes.items k 0)) vertices_is
            ∙ range_compress (λ v. not (l v)) g.vertices (λ k. q.arrow k v) (λ x. p.arrow x (old v)) (λ k. get_or f.sizes.items k 0)
            (λ x. get_or m.sizes.items x 0) (zero_digits (parents_are (λ i. 0)))
            ∙ ap (λ n. radix_range n (λ x. p.arrow x (old v)) (λ x. get_or m.sizes.items x 0)) (sym projects.vertices) in
            ap₂ (λ x y. x * y) a worlds_are

        place_is : (s u : ℕ → ℕ) → place_in_table q f v s u
            ≡ radix g.vertices (λ x. p.arrow x (old v)) (λ x. get_or m.sizes.items x 0) (values_in (λ v. not (l v)) s) * world_range m sets (old v)
            + radix (length m.causes.items) (λ j. has (mask_at sets j) (old v)) (values_of m.causes.items) (values_in (reaches_some g l drawn) u)
        place_is s u =
            let a : radix q.vertices (λ k. q.arrow k v) (λ k. get_or f.sizes.items k 0) s
            ≡ radix g.vertices (λ x. p.arrow x (old v)) (λ x. get_or m.sizes.items x 0) (values_in (λ v. not (l v)) s) =
            ap (λ n. radix n (λ k. q.arrow k v) (λ k. get_or f.sizes.items k 0) s) vertices_is
            ∙ radix_compress (λ v. not (l v)) g.vertices (λ k. q.arrow k v) (λ x. p.arrow x (old v)) (λ k. get_or f.sizes.items k 0)
            (λ x. get_or m.sizes.items x 0) s (values_in (λ v. not (l v)) s) (parents_are s) in
            let b : radix (length f.causes.items) (λ i. has (children_of f.causes.items i) v) (values_of f.causes.items) u
            ≡ radix (length m.causes.items) (λ j. has (mask_at sets j) (old v)) (values_of m.causes.items) (values_in (reaches_some g l drawn) u) =
            ap (λ n. radix n (λ i. has (children_of f.causes.items i) v) (values_of f.causes.items) u) long_causes
            ∙ radix_compress (reaches_some g l drawn) (length m.causes.items) (λ i. has (children_of f.causes.items i) v) (λ j. has (mask_at sets j) (old v))
            (values_of f.causes.items) (values_of m.causes.items) u (values_in (reaches_some g l drawn) u) (causes_are u) in
            let c : radix_range (length f.causes.items) (λ i. has (children_of f.causes.items i) v) (values_of f.causes.items) ≡ world_range m sets (old v) =
            worlds_are in
            ap₂ (λ x y. x + y) (ap₂ (λ x y. x * y) a c) b

        -- in range the table has the folded mechanism's value
        module _ (s u : ℕ → ℕ) (hs : IsAssignment folded_model.vertices folded_model.size s) (hu : IsAssignment folded_model.causes folded_model.values u) where
          s_within : (x : ℕ) → x < g.vertices → values_in (λ v. not (l v)) s x < get_or m.sizes.items x 0
          s_within x xl = go (l x) refl
            where
              go : (b : Bool) → l x ≡ b → values_in (λ v. not (l v)) s x < get_or m.sizes.items x 0
              go true e = rw e (accepted.fits.positive_size x xl)
              go false e =
                  let o : not (l x) ≡ true = not_from_false (l x) e in
                  let k = position_lt (λ v. not (l v)) x g.vertices xl o in
                  let h : s (position (λ v. not (l v)) x) < cond (l (old (position (λ v. not (l v)) x))) 1
                  (get_or m.sizes.items (old (position (λ v. not (l v)) x)) 0) = hs (position (λ v. not (l v)) x) k in
                  rw o (rw (member_position (λ v. not (l v)) g.vertices x xl o, e) at h)

          u_within : (j : ℕ) → j < length m.causes.items → values_in (reaches_some g l drawn) u j < values_of m.causes.items j
          u_within j jl = go (reaches_some g l drawn j) refl
            where
              go : (b : Bool) → reaches_some g l drawn j ≡ b → values_in (reaches_some g l drawn) u j < values_of m.causes.items j
              go false e = rw e ((keeps_causes g l ok drawn accepted.fits).valued j jl)
              go true e =
                  let h : u (position (reaches_some g l drawn) j) < values_of m.causes.items (cause (position (reaches_some g l drawn) j)) =
                  hu (position (reaches_some g l drawn) j) (position_lt (reaches_some g l drawn) j (length m.causes.items) jl e) in
                  rw e (rw (member_position (reaches_some g l drawn) (length m.causes.items) j jl e) at h)

          high : ℕ
          high = radix g.vertices (λ x. p.arrow x (old v)) (λ x. get_or m.sizes.items x 0) (values_in (λ v. not (l v)) s)

          low : ℕ
          low = radix (length m.causes.items) (λ j. has (mask_at sets j) (old v)) (values_of m.causes.items) (values_in (reaches_some g l drawn) u)

          low_lt : low < world_range m sets (old v)
          unfolding low
          low_lt = radix-lt (length m.causes.items) (λ j. has (mask_at sets j) (old v)) (values_of m.causes.items) (values_in (reaches_some g l drawn) u)
              (λ j jl e. u_within j jl)

          place_lt : high * world_range m sets (old v) + low < entries p m sets (old v)
          unfolding high low
          place_lt = subst (λ n. high * world_range m sets (old v) + low < radix_range n (λ x. p.arrow x (old v)) (λ x. get_or m.sizes.items x 0)
              * world_range m sets (old v)) (sym projects.vertices)
              (table_index-lt g.vertices (length m.causes.items) (λ x. p.arrow x (old v)) (λ j. has (mask_at sets j) (old v)) (λ x. get_or m.sizes.items x 0)
              (values_of m.causes.items)
              (values_in (λ v. not (l v)) s) (values_in (reaches_some g l drawn) u) (λ x xl e. s_within x xl) (λ j jl e. u_within j jl))

          parents_read : (x : ℕ) → p.arrow x (old v) ≡ true → parents_at p m sets (old v) (high * world_range m sets (old v) + low) x
              ≡ values_in (λ v. not (l v)) s x
          unfolding high
          parents_read x e =
              ap (λ i. digits p.vertices (λ k. p.arrow k (old v)) (λ k. get_or m.sizes.items k 0) i x)
              (div-mul-add high (world_range m sets (old v)) low low_lt)
              ∙ ap (λ n. digits n (λ k. p.arrow k (old v)) (λ k. get_or m.sizes.items k 0) high x) projects.vertices
              ∙ digits_radix g.vertices (λ x. p.arrow x (old v)) (λ x. get_or m.sizes.items x 0) (values_in (λ v. not (l v)) s) (λ k kl f. s_within k kl) x
              (subst (λ n. x < n) projects.vertices (p_ok.tail_below x (old v) e)) e
            where
              p_ok : IsMixedGraph p
              p_ok = IsMixedGraph-projection g p l ok projects

          causes_read : (j : ℕ) → j < length m.causes.items → has (mask_at sets j) (old v) ≡ true
              → causes_at m sets (old v) (high * world_range m sets (old v) + low) j ≡ values_in (reaches_some g l drawn) u j
          unfolding low
          causes_read j jl e =
              ap (λ i. digits (length m.causes.items) (λ j. has (mask_at sets j) (old v)) (values_of m.causes.items) i j)
              (mod-mul-add high (world_range m sets (old v)) low low_lt)
              ∙ digits_radix (length m.causes.items) (λ j. has (mask_at sets j) (old v)) (values_of m.causes.items) (values_in (reaches_some g l drawn) u)
              (λ k kl f. u_within k kl) j jl e

          same_folded : (a b c e : ℕ → ℕ) → (fold drawn l (reached g l drawn)).mechanism (old v) a b
              ≡ (fold drawn l (reached g l drawn)).mechanism (old v) c e → drawn.mechanism (old v) (filled drawn l a b) b
              ≡ (fold drawn l (reached g l drawn)).mechanism (old v) c e
          same_folded a b c e h = sym (rw (hidden_is v vl) refl) ∙ h

          agrees_at : (meaning q f).mechanism v s u ≡ folded_model.mechanism v s u
          unfolding high low
          agrees_at =
              looked_up v vl s u ∙ ap (λ i. table_value (outputs v) i) (place_is s u)
              ∙ (entries_are v vl).each (high * world_range m sets (old v) + low) place_lt
              ∙ same_folded (parents_at p m sets (old v) (high * world_range m sets (old v) + low))
              (causes_at m sets (old v) (high * world_range m sets (old v) + low)) (values_in (λ v. not (l v)) s) (values_in (reaches_some g l drawn) u)
              ((fold_follows g p l drawn (reached g l drawn) ok (by_treks g p l projects) (follows_of g drawn accepted.fits)
              (tells_reached g l ok drawn accepted.fits)).reads (old v) (member_is (λ v. not (l v)) g.vertices v vl).below
              (parents_at p m sets (old v) (high * world_range m sets (old v) + low)) (values_in (λ v. not (l v)) s)
              (causes_at m sets (old v) (high * world_range m sets (old v) + low)) (values_in (reaches_some g l drawn) u)
              parents_read (λ j jl e. causes_read j jl (same_reach j (old v) jl ∙ e)))

      pub tabled : IsTabled q folded_model (meaning q f)
      unfolding outputs
      tabled = record {
        vertices = vertices_is;
        sizes = λ v vl. rw (hidden_is v vl) (size_is v vl);
        causes = long_causes;
        values = λ j jl. ap (λ (w : List ℕ). length w) (weights_is j jl);
        weights = λ j jl x xl. ap (λ (w : List ℕ). get_or w x 0) (weights_is j jl);
        serves = λ j v jl. serves_is j v jl;
        outputs = outputs;
        looked_up = λ v vl s u. looked_up v vl s u;
        agrees = λ v vl s u hs hu. agrees_at v vl s u hs hu;
      }

      -- ---- the whole
      graph_ok : IsMixedGraph q
      graph_ok = subst IsMixedGraph (sym is.renumbers) (IsMixedGraph-renumbered is.projection (observed_below l g.vertices)
          (IsMixedGraph-projection g is.projection l ok is.projects))

      model_fits : Fits q folded_model
      model_fits = subst (λ h. Fits h folded_model) (sym is.renumbers)
          (by_fits g is.projection l drawn (reached g l drawn) (reaches_some g l drawn) ok is.projects accepted.fits
          (tells_reached g l ok drawn accepted.fits) (keeps_causes g l ok drawn accepted.fits))

      pub folds : Folds l drawn (meaning q f)
      folds = tabled_folds q folded_model (meaning q f) graph_ok model_fits tabled l drawn
          (by_folds g is.projection l drawn (reached g l drawn) (reaches_some g l drawn) ok is.projects accepted.fits
          (tells_reached g l ok drawn accepted.fits) (keeps_causes g l ok drawn accepted.fits))

      has_inputs : (v : ℕ) → v < observed → (x : Mechanism) → IsTableFor g p l m sets (old v) x → HasInputs q f v x
      has_inputs v vl (Table o) h = h.long ∙ sym (places_are v vl)
      has_inputs v vl (Parity a b) h = absurd h

      has_size : (n w : ℕ) (x : Mechanism) → IsTableFor g p l m sets w x → HasPartSize n x
      has_size n w (Table o) h = tt
      has_size n w (Parity a b) h = absurd h

      pub is_accepted : IsAcceptedModel q f
      is_accepted = record {
        sizes = d.sizes.long ∙ sym vertices_is;
        mechanisms = d.mechanisms.long ∙ sym vertices_is;
        form = record {
          inputs = λ v vl past. has_inputs v (here v vl) (get_or f.mechanisms.items v past) (d.mechanisms.each v (here v vl) past);
          part_sizes = λ v vl past. has_size (get_or f.sizes.items v 0) (old v) (get_or f.mechanisms.items v past) (d.mechanisms.each v (here v vl) past);
        };
        fits = tabled_fits q folded_model (meaning q f) graph_ok model_fits tabled;
      }
        where
          here : (v : ℕ) → v < q.vertices → v < observed
          here v vl = subst (λ n. v < n) vertices_is vl

  -- the causes are those that reach some observed vertex
  pub causes_folded : (p : MixedGraph) (f : Model) → IsFoldedData g p l m sets (observed_below l g.vertices) (members_below (has_some sets) (length sets)) f
      → AreFoldedCauses g l m.causes.items f.causes.items
  causes_folded p f d = record {
    reaches = λ j v. has (mask_at sets j) v;
    tells = sets_tell;
    numbers = members_below (has_some sets) (length sets);
    reaching = record { some = has_some sets; tells = some_tells; members = ap (members_below (has_some sets)) are.long };
    each = d.causes;
  }
