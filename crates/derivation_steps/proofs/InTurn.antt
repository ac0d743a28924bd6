-- What a step makes, its moves make in turn.
use Rattle.std.proofs.Common.{ℕ, zero, suc, ◌≡◌, ◌∙◌, sym, ap, subst, refl, List, [], ◌∷◌, ◌++◌, map, Option, Some, None, MatchOption}
use Rattle.std.proofs.lemmas.Option.{none-some}
use Rattle.mixed_graph.specs.Vocabulary.{MixedGraph}
use Rattle.prob_expr.specs.Tree.{Tree, prob, sum, product, quotient, named, tree}
use Rattle.prob_expr.specs.Vocabulary.{Trees, no_trees}
use Rattle.do_derivation.specs.Plans.{Plan, Plans, plan}
use Rattle.do_derivation.specs.Vocabulary.{no_plans, child, with_child, factor_at, with_factor, Makes, MakesAll}
use Rattle.do_derivation.proofs.Children.{some_is}
use Rattle.derivation_steps.specs.Moves.{moves_of, moves_of_each}
use Rattle.derivation_steps.specs.Traces.{MadeInTurn}

-- ---- a child that is replaced

factor_same : (ts : Trees) (i : ℕ) (c : Tree) → factor_at ts i ≡ Some c → with_factor ts i c ≡ ts
factor_same no_trees i c h = refl
factor_same (tree t ts) zero c h = ap (λ x. tree x ts) (sym (some_is t c h))
factor_same (tree t ts) (suc i) c h = ap (tree t) (factor_same ts i c h)

factor_new : (ts : Trees) (i : ℕ) (c d : Tree) → factor_at ts i ≡ Some c → factor_at (with_factor ts i d) i ≡ Some d
factor_new no_trees i c d h = absurd (none-some c h)
factor_new (tree t ts) zero c d h = refl
factor_new (tree t ts) (suc i) c d h = factor_new ts i c d h

factor_twice : (ts : Trees) (i : ℕ) (c d : Tree) → with_factor (with_factor ts i c) i d ≡ with_factor ts i d
factor_twice no_trees i c d = refl
factor_twice (tree t ts) zero c d = refl
factor_twice (tree t ts) (suc i) c d = ap (tree t) (factor_twice ts i c d)

-- by itself it stays
child_kept : (e : Tree) (i : ℕ) (c : Tree) → child e i ≡ Some c → with_child e i c ≡ e
child_kept (prob x y z) i c h = refl
child_kept (sum u e) zero c h = ap (sum u) (sym (some_is e c h))
child_kept (sum u e) (suc i) c h = absurd (none-some c h)
child_kept (product ts) i c h = ap product (factor_same ts i c h)
child_kept (quotient p q) zero c h = ap (λ x. quotient x q) (sym (some_is p c h))
child_kept (quotient p q) (suc zero) c h = ap (quotient p) (sym (some_is q c h))
child_kept (quotient p q) (suc (suc i)) c h = absurd (none-some c h)
child_kept (named k) i c h = refl

-- by another that one is there
child_new : (e : Tree) (i : ℕ) (c d : Tree) → child e i ≡ Some c → child (with_child e i d) i ≡ Some d
child_new (prob x y z) i c d h = absurd (none-some c h)
child_new (sum u e) zero c d h = refl
child_new (sum u e) (suc i) c d h = absurd (none-some c h)
child_new (product ts) i c d h = factor_new ts i c d h
child_new (quotient p q) zero c d h = refl
child_new (quotient p q) (suc zero) c d h = refl
child_new (quotient p q) (suc (suc i)) c d h = absurd (none-some c h)
child_new (named k) i c d h = absurd (none-some c h)

-- twice, the later one counts
child_twice : (e : Tree) (i : ℕ) (c d : Tree) → with_child (with_child e i c) i d ≡ with_child e i d
child_twice (prob x y z) i c d = refl
child_twice (sum u e) i c d = refl
child_twice (product ts) i c d = ap product (factor_twice ts i c d)
child_twice (quotient p q) zero c d = refl
child_twice (quotient p q) (suc i) c d = refl
child_twice (named k) i c d = refl

module _ (g : MixedGraph) (lemmas : List ℕ) where
  -- ---- moves one behind the other

  both_in_turn : (ps qs : List Plan) (e m x : Tree) → MadeInTurn g lemmas ps e m → MadeInTurn g lemmas qs m x → MadeInTurn g lemmas (ps ++ qs) e x
  both_in_turn [] qs e m x a b = subst (λ z. MadeInTurn g lemmas qs z x) a b
  both_in_turn (p ∷ ps) qs e m x a b = (a.0, a.1, both_in_turn ps qs a.0 m x a.2 b)

  -- ---- moves on a child

  -- a step on a child that is there
  made_there : (p : Plan) (e : Tree) (i : ℕ) (c d : Tree) (o : Option Tree) → o ≡ Some c → Makes g lemmas p c d
      → MatchOption o ⊥ (λ b. (d' : Tree) × Makes g lemmas p b d' × (with_child e i d ≡ with_child e i d'))
  made_there p e i c d None is made = absurd (none-some c is)
  made_there p e i c d (Some b) is made = (d, subst (λ z. Makes g lemmas p z d) (sym (some_is b c is)) made, refl)

  children_in_turn : (ps : List Plan) (e : Tree) (i : ℕ) (c d : Tree) → child e i ≡ Some c → MadeInTurn g lemmas ps c d
      → MadeInTurn g lemmas (map (Plan.At i) ps) e (with_child e i d)
  children_in_turn [] e i c d is a = ap (with_child e i) a ∙ child_kept e i c is
  children_in_turn (p ∷ ps) e i c d is a =
      let m = a.0 in
      let whole = with_child e i m in (
        whole,
        made_there p e i c m (child e i) is a.1,
        subst (MadeInTurn g lemmas (map (Plan.At i) ps) whole) (child_twice e i m d) (children_in_turn ps whole i m d (child_new e i c m is) a.2),
      )

  -- a step on a child
  there : (p : Plan) (e : Tree) (i : ℕ) (x : Tree) (o : Option Tree) → child e i ≡ o
      → ((c d : Tree) → Makes g lemmas p c d → MadeInTurn g lemmas (moves_of p) c d)
      → MatchOption o ⊥ (λ c. (d : Tree) × Makes g lemmas p c d × (x ≡ with_child e i d)) → MadeInTurn g lemmas (map (Plan.At i) (moves_of p)) e x
  there p e i x None is inner made = absurd made
  there p e i x (Some c) is inner made = subst (MadeInTurn g lemmas (map (Plan.At i) (moves_of p)) e) (sym made.2)
      (children_in_turn (moves_of p) e i c made.0 is (inner c made.0 made.1))

  -- ---- a step
  mutual
    pub in_turn : (p : Plan) (e x : Tree) → Makes g lemmas p e x → MadeInTurn g lemmas (moves_of p) e x
    in_turn (Plan.Make move) e x made = (x, made, refl)
    in_turn (Plan.At i p) e x made = there p e i x (child e i) refl (λ c d m. in_turn p c d m) made
    in_turn (Plan.Then ps) e x made = all_in_turn ps e x made

    all_in_turn : (ps : Plans) (e x : Tree) → MakesAll g lemmas ps e x → MadeInTurn g lemmas (moves_of_each ps) e x
    all_in_turn no_plans e x made = made
    all_in_turn (plan p ps) e x made = both_in_turn (moves_of p) (moves_of_each ps) e made.0 x (in_turn p e made.0 made.1) (all_in_turn ps made.0 x made.2)
