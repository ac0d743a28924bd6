-- The value of an expression depends on its free vertices alone, as far as they are used.
use Rattle.std.proofs.Common.{ℕ, zero, suc, ◌+◌, ◌≡◌, ◌<◌, Bool, true, false, cond, eqb, eqb-true, not, ◌&&◌, ◌||◌, refl, sym, ap, ap₂, ◌∙◌, inl, inr}
use Rattle.std.proofs.Common.{arith, Option, Some, None, Result, Ok, Err, List, [], ◌∷◌, ◌++◌, length, take, get_or}
use Rattle.std.proofs.Math.Seq.{take-length}
use Rattle.std.proofs.lemmas.Bool.{and_parts, cases_lt, or_left, or_right}
use Rattle.std.proofs.lemmas.List.{get_or_append_left, get_or_past, get_or_push, length_push}
use Rattle.finite_models.specs.Vocabulary.{set_at}
use Rattle.finite_models.proofs.Bools.{either}
use Rattle.mixed_graph.specs.Vocabulary.{has, union}
use Rattle.prob_expr.specs.Tree.{Tree, prob, sum, product, quotient, named, tree}
use Rattle.prob_expr.specs.Vocabulary.{Trees, no_trees, free_in, free_in_any, free_in_defs, Weights, cap, next_node}
use Rattle.mixed_graph.proofs.MaskLaws.{has_join, has_minus}
use Rattle.quantity.specs.declared.fault.QuantityFault.{QuantityFault}
use Rattle.quantity.specs.declared.fault.QuantityFault.TheVariants.{ZeroBelow}
use Rattle.quantity.specs.Vocabulary.{Kind}
use Rattle.quantity.specs.Kinds.{Pair}
use Rattle.count_eval.specs.Stops.{Stop, stop, after, placed}
use Rattle.count_eval.specs.Steps.{joined, one_more, each_level, each_cell, whole}
use Rattle.count_eval.specs.Rules.{Rule, is_zero, or_zero}
use Rattle.count_eval.specs.Evaluated.{node_behind, evaluated, factors_evaluated, some_zero, evaluated_from}
use Rattle.count_eval.specs.Programs.{known}
use Rattle.count_eval.specs.Laws.{IsUsed, AreUsed, AllUsed}

-- the value, without the fault
abbrev pub found : {A : Type 0} → Result A Stop → Option A
found (Ok a) = Some a
found (Err e) = None

-- two assignments have the same levels of the vertices of a set
abbrev pub Agree : (ℕ → Bool) → (ℕ → ℕ) → (ℕ → ℕ) → Type 0
Agree a s t = (v : ℕ) → a v ≡ true → s v ≡ t v

-- and of the used members of a set
abbrev pub AgreeWithin : (ℕ → Bool) → ℕ → (ℕ → ℕ) → (ℕ → ℕ) → Type 0
AgreeWithin used mask s t = (v : ℕ) → has mask v ≡ true → used v ≡ true → s v ≡ t v

some_same : {A : Type 0} (a b : A) → Some a ≡ Some b → a ≡ b
some_same a b e = cc

found_after : {A B : Type 0} (r r' : Result A Stop) (f f' : A → Result B Stop) → found r ≡ found r' → ((a : A) → found (f a) ≡ found (f' a))
    → found (after r f) ≡ found (after r' f')
found_after (Ok a) (Ok b) f f' e h = h a ∙ ap (λ x. found (f' x)) (some_same a b e)
found_after (Ok a) (Err y) f f' e h = absurd (cc)
found_after (Err x) (Ok b) f f' e h = absurd (cc)
found_after (Err x) (Err y) f f' e h = refl

found_placed : (d : Option ℕ) (i : ℕ) (s t : ℕ → ℕ) (r : Result Pair QuantityFault) → found (placed d i s r) ≡ found (placed d i t r)
found_placed d i s t (Ok c) = refl
found_placed d i s t (Err e) = refl

found_joined : (op : Pair → Pair → Result Pair QuantityFault) (d : Option ℕ) (i : ℕ) (s t : ℕ → ℕ) (o : Option Pair) (c : Pair) → found (joined op d i s o c)
    ≡ found (joined op d i t o c)
found_joined op d i s t None c = refl
found_joined op d i s t (Some a) c = found_after (placed d i s (op a c)) (placed d i t (op a c)) (λ r. Ok (Some r)) (λ r. Ok (Some r))
    (found_placed d i s t (op a c)) (λ a'. refl)

module _ (U : ℕ → Bool) (size : ℕ → ℕ) (a : ℕ → Bool) (f f' : (ℕ → ℕ) → Option Pair → Result (Option Pair) Stop)
    (body : (s t : ℕ → ℕ) → Agree a s t → (o : Option Pair) → found (f s o) ≡ found (f' t o)) where
  -- s and t agree on the vertices of a that are not to be run through any more
  abbrev Ready : ℕ → (ℕ → ℕ) → (ℕ → ℕ) → Type 0
  Ready v s t = (x : ℕ) → a x ≡ true → (U x ≡ true → x < v) → s x ≡ t x

  levels_same : (n : ℕ) (g h : ℕ → Option Pair → Result (Option Pair) Stop) → ((x : ℕ) (o : Option Pair) → found (g x o) ≡ found (h x o)) → (o : Option Pair)
      → found (each_level n g o) ≡ found (each_level n h o)
  levels_same zero g h e o = refl
  levels_same (suc n) g h e o = found_after (each_level n g o) (each_level n h o) (g n) (h n) (levels_same n g h e o) (e n)

  ready_set : (v x : ℕ) (s t : ℕ → ℕ) → Ready v s t → Ready (suc v) (set_at s v x) (set_at t v x)
  ready_set v x s t r j aj uj = go (eqb j v) refl
    where
      go : (b : Bool) → eqb j v ≡ b → cond b x (s j) ≡ cond b x (t j)
      go true e = refl
      go false e = r j aj (λ u. let lt : j < suc v = uj u in grind (arith, lt, e))

  ready_skip : (v : ℕ) (s t : ℕ → ℕ) → U v ≡ false → Ready v s t → Ready (suc v) s t
  ready_skip v s t no_v r j aj uj = r j aj (λ u. go (eqb j v) refl u)
    where
      bad : false ≡ true → ⊥
      bad e = cc

      go : (b : Bool) → eqb j v ≡ b → U j ≡ true → j < v
      go true e u = absurd (bad (sym no_v ∙ ap U (sym (eqb-true j v e)) ∙ u))
      go false e u = let lt : j < suc v = uj u in grind (arith, lt, e)

  cells_same : (k v : ℕ) (s t : ℕ → ℕ) → Ready v s t → ((x : ℕ) → U x ≡ true → x < v + k) → (o : Option Pair) → found (each_cell U size k v f s o)
      ≡ found (each_cell U size k v f' t o)
  cells_same zero v s t r within o = body s t (λ x ax. r x ax (λ u. let lt = within x u in omega (arith, lt))) o
  cells_same (suc k) v s t r within o =
      go (U v) refl (λ s' t' r' o'. cells_same k (suc v) s' t' r' (λ x u. let lt = within x u in omega (arith, lt)) o')
    where
      go : (p : Bool) → U v ≡ p → ((s' t' : ℕ → ℕ) → Ready (suc v) s' t' → (o' : Option Pair) → found (each_cell U size k (suc v) f s' o')
          ≡ found (each_cell U size k (suc v) f' t' o'))
          → found (cond p (each_level (size v) (λ x. each_cell U size k (suc v) f (set_at s v x)) o) (each_cell U size k (suc v) f s o))
          ≡ found (cond p (each_level (size v) (λ x. each_cell U size k (suc v) f' (set_at t v x)) o) (each_cell U size k (suc v) f' t o))
      go true e ih = levels_same (size v) (λ x. each_cell U size k (suc v) f (set_at s v x)) (λ x. each_cell U size k (suc v) f' (set_at t v x))
          (λ x o'. ih (set_at s v x) (set_at t v x) (ready_set v x s t r) o') o
      go false e ih = ih s t (ready_skip v s t e r) o

-- the members of a set that are used
abbrev used_of : (ℕ → Bool) → ℕ → ℕ → Bool
used_of used mask v = has mask v && used v

first : (used : ℕ → Bool) (a b : ℕ) (s t : ℕ → ℕ) → AgreeWithin used (union a b) s t → AgreeWithin used a s t
first used a b s t h v e = h v (has_join a b v ∙ or_left (has a v) (has b v) e)

second : (used : ℕ → Bool) (a b : ℕ) (s t : ℕ → ℕ) → AgreeWithin used (union a b) s t → AgreeWithin used b s t
second used a b s t h v e = h v (has_join a b v ∙ or_right (has a v) (has b v) e)

kept_by : (p u : Bool) → p ≡ true → (u ≡ true → ⊥) → (p && not u) ≡ true
kept_by p true e no_u = absurd (no_u refl)
kept_by p false e no_u = ap (λ b. b && true) e

-- whether an outcome is 0 hangs on its value alone
same_zero : (kind : Kind) (r r' : Result Pair Stop) → found r ≡ found r' → is_zero kind r ≡ is_zero kind r'
same_zero kind (Ok c) (Ok c') e = ap (λ x. is_zero kind (Ok x)) (some_same c c' e)
same_zero kind (Ok c) (Err x) e = absurd (cc e)
same_zero kind (Err x) (Ok c) e = absurd (cc e)
same_zero kind (Err x) (Err y) e = refl

found_or_zero : (k : Rule) (z z' : Bool) (r r' : Result Pair Stop) → z ≡ z' → found r ≡ found r' → found (or_zero k z r) ≡ found (or_zero k z' r')
found_or_zero k z z' (Ok c) (Ok c') same e = e
found_or_zero k z z' (Ok c) (Err x) same e = absurd (cc e)
found_or_zero k z z' (Err x) (Ok c) same e = absurd (cc e)
found_or_zero k z z' (Err x) (Err y) same e = go (k.zero && z) ∙ ap (λ b. found (cond (k.zero && b) (Ok (k.kind.from_ratio 0 1)) (Err y))) same
  where
    go : (b : Bool) → found (cond b (Ok (k.kind.from_ratio 0 1)) (Err x)) ≡ found (cond b (Ok (k.kind.from_ratio 0 1)) (Err y))
    go true = refl
    go false = refl

module _ (k : Rule) (w : Weights) (used : ℕ → Bool) (low : (v : ℕ) → used v ≡ true → v < w.vertices)
    (local : (b a : ℕ → Bool) (s t : ℕ → ℕ) → Agree a s t → w.weight b a s ≡ w.weight b a t) where
  -- each definition's value reads the used members of its set alone
  abbrev AreRead : (ℕ → (ℕ → ℕ) → Result Pair Stop) → List ℕ → Type 0
  AreRead q sets = (j : ℕ) (s t : ℕ → ℕ) → AgreeWithin used (get_or sets j 0) s t → found (q j s) ≡ found (q j t)

  term_same : (d : Option ℕ) (i : ℕ) (s t : ℕ → ℕ) (n n' p p' : ℕ) → n ≡ n' → p ≡ p'
      → found (cond (eqb n 0) (Err (stop ZeroBelow d i s)) (Ok (k.kind.from_ratio p n)))
      ≡ found (cond (eqb n' 0) (Err (stop ZeroBelow d i t)) (Ok (k.kind.from_ratio p' n')))
  term_same d i s t n n' p p' en ep = go (eqb n 0) ∙ ap₂ (λ m r. found (cond (eqb m 0) (Err (stop ZeroBelow d i t)) (Ok (k.kind.from_ratio r m)))) en ep
    where
      go : (b : Bool) → found (cond b (Err (stop ZeroBelow d i s)) (Ok (k.kind.from_ratio p n)))
          ≡ found (cond b (Err (stop ZeroBelow d i t)) (Ok (k.kind.from_ratio p n)))
      go true = refl
      go false = refl

  module _ (q : ℕ → (ℕ → ℕ) → Result Pair Stop) (sets : List ℕ) (definitions : AreRead q sets) where
    abbrev body_of : Option ℕ → ℕ → Tree → (ℕ → ℕ) → (ℕ → ℕ) → Option Pair → Result (Option Pair) Stop
    body_of d i e s x = one_more k.kind.add d i s (evaluated k w q d (next_node i) e x)

    mutual
      -- where two cells agree on its used free vertices, an expression has one value, or none
      pub one_value : (e : Tree) → IsUsed used e → (d : Option ℕ) (i : ℕ) (s t : ℕ → ℕ) → AgreeWithin used (free_in sets e) s t
          → found (evaluated k w q d i e s) ≡ found (evaluated k w q d i e t)
      one_value (prob a b c) asked d i s t h =
          let on_c : Agree (has c) s t = λ v e. second used (union a b) c s t h v e (asked.1 v e) in
          let on_a : Agree (has a) s t = λ v e. first used a b s t (first used (union a b) c s t h) v e (asked.0 v e) in
          term_same d i s t (w.weight (has b) (has c) s) (w.weight (has b) (has c) t) (w.weight (has b) (λ v. has a v || has c v) s)
          (w.weight (has b) (λ v. has a v || has c v) t)
          (local (has b) (has c) s t on_c)
          (local (has b) (λ v. has a v || has c v) s t (λ v e. either (has a v) (has c v) (s v ≡ t v) e (on_a v) (on_c v)))
      one_value (sum u e) asked d i s t h =
          let at_first : (x : ℕ) → used_of used (free_in sets e) x ≡ true → (has u x ≡ true → x < 0) → s x ≡ t x = λ x ax ux.
          let parts = and_parts (has (free_in sets e) x) (used x) ax in
          h x (has_minus (free_in sets e) u x ∙ kept_by (has (free_in sets e) x) (has u x) parts.0 (λ m. let lt = ux m in absurd (omega (arith, lt)))) parts.1
          in
          found_after (each_cell (has u) w.size w.vertices 0 (body_of d i e s) s None) (each_cell (has u) w.size w.vertices 0 (body_of d i e t) t None)
          (whole (k.kind.from_ratio 0 1)) (whole (k.kind.from_ratio 0 1))
          (cells_same (has u) w.size (used_of used (free_in sets e)) (body_of d i e s) (body_of d i e t)
          (λ x y ag o. found_after (evaluated k w q d (next_node i) e x) (evaluated k w q d (next_node i) e y) (joined k.kind.add d i s o)
          (joined k.kind.add d i t o)
          (one_value e asked.1 d (next_node i) x y (λ v f g. ag v (ap (λ b. b && used v) f ∙ g))) (λ c. found_joined k.kind.add d i s t o c))
          w.vertices 0 s t at_first (λ x m. let lt = low x (asked.0 x m) in omega (arith, lt)) None)
          (λ o. refl)
      one_value (product ts) asked d i s t h = found_or_zero k (some_zero k w q d (next_node i) ts s) (some_zero k w q d (next_node i) ts t)
          (after (factors_evaluated k w q d i (next_node i) ts s None) (whole (k.kind.from_ratio 1 1)))
          (after (factors_evaluated k w q d i (next_node i) ts t None) (whole (k.kind.from_ratio 1 1)))
          (one_zero ts asked d (next_node i) s t h)
          (found_after (factors_evaluated k w q d i (next_node i) ts s None) (factors_evaluated k w q d i (next_node i) ts t None)
          (whole (k.kind.from_ratio 1 1)) (whole (k.kind.from_ratio 1 1)) (one_product ts asked d i (next_node i) s t h None) (λ o. refl))
      one_value (quotient x y) asked d i s t h =
          let n = next_node i in let m = node_behind x n in
          found_after (evaluated k w q d n x s) (evaluated k w q d n x t) (λ a. after (evaluated k w q d m y s) (λ b. placed d i s (k.kind.div a b)))
          (λ a. after (evaluated k w q d m y t) (λ b. placed d i t (k.kind.div a b)))
          (one_value x asked.0 d n s t (first used (free_in sets x) (free_in sets y) s t h))
          (λ a. found_after (evaluated k w q d m y s) (evaluated k w q d m y t) (λ b. placed d i s (k.kind.div a b)) (λ b. placed d i t (k.kind.div a b))
          (one_value y asked.1 d m s t (second used (free_in sets x) (free_in sets y) s t h)) (λ b. found_placed d i s t (k.kind.div a b)))
      one_value (named j) asked d i s t h = definitions j s t h

      one_product : (ts : Trees) → AreUsed used ts → (d : Option ℕ) (i j : ℕ) (s t : ℕ → ℕ) → AgreeWithin used (free_in_any sets ts) s t → (o : Option Pair)
          → found (factors_evaluated k w q d i j ts s o) ≡ found (factors_evaluated k w q d i j ts t o)
      one_product no_trees asked d i j s t h o = refl
      one_product (tree e ts) asked d i j s t h o =
          found_after (one_more k.kind.mul d i s (evaluated k w q d j e s) o) (one_more k.kind.mul d i t (evaluated k w q d j e t) o)
          (factors_evaluated k w q d i (node_behind e j) ts s) (factors_evaluated k w q d i (node_behind e j) ts t)
          (found_after (evaluated k w q d j e s) (evaluated k w q d j e t) (joined k.kind.mul d i s o) (joined k.kind.mul d i t o)
          (one_value e asked.0 d j s t (first used (free_in sets e) (free_in_any sets ts) s t h)) (λ c. found_joined k.kind.mul d i s t o c))
          (λ o'. one_product ts asked.1 d i (node_behind e j) s t (second used (free_in sets e) (free_in_any sets ts) s t h) o')

      one_zero : (ts : Trees) → AreUsed used ts → (d : Option ℕ) (j : ℕ) (s t : ℕ → ℕ) → AgreeWithin used (free_in_any sets ts) s t → some_zero k w q d j ts s
          ≡ some_zero k w q d j ts t
      one_zero no_trees asked d j s t h = refl
      one_zero (tree e ts) asked d j s t h =
          ap₂ (λ a b. a || b)
          (same_zero k.kind (evaluated k w q d j e s) (evaluated k w q d j e t)
          (one_value e asked.0 d j s t (first used (free_in sets e) (free_in_any sets ts) s t h)))
          (one_zero ts asked.1 d (node_behind e j) s t (second used (free_in sets e) (free_in_any sets ts) s t h))

  get_other : (sets : List ℕ) (x j : ℕ) → (j ≡ length sets → ⊥) → get_or (sets ++ x ∷ []) j 0 ≡ get_or sets j 0
  get_other sets x j ne = elim (cases_lt j (length sets)) [
    | inl lt ↦ get_or_append_left sets (x ∷ []) 0 j lt
    | inr le ↦ get_or_past (sets ++ x ∷ []) j 0 (let long = length_push sets x in omega (arith, long, le, ne)) ∙ sym (get_or_past sets j 0 le)
  ]

  next_read : (q : ℕ → (ℕ → ℕ) → Result Pair Stop) (sets : List ℕ) (n : ℕ) → n ≡ length sets → (d : Tree) → IsUsed used d → AreRead q sets
      → AreRead (λ j s. cond (eqb j n) (evaluated k w q (Some (cap n)) 0 d s) (q j s)) (sets ++ free_in sets d ∷ [])
  next_read q sets n long d asked h j s t ag = go (eqb j n) refl
    where
      go : (p : Bool) → eqb j n ≡ p → found (cond p (evaluated k w q (Some (cap n)) 0 d s) (q j s))
          ≡ found (cond p (evaluated k w q (Some (cap n)) 0 d t) (q j t))
      go true e = one_value q sets h d asked (Some (cap n)) 0 s t
          (λ v z. ag v (ap (λ x. has x v) (get_or_push sets (free_in sets d) 0 j (sym (eqb-true j n e ∙ long))) ∙ z))
      go false e = h j s t (λ v z. ag v (ap (λ x. has x v) (get_other sets (free_in sets d) j (λ same. absurd (grind (arith, same, e, long)))) ∙ z))

  definitions_read : (ds : List Tree) (n : ℕ) (q : ℕ → (ℕ → ℕ) → Result Pair Stop) (sets : List ℕ) → n ≡ length sets → AllUsed used ds → AreRead q sets
      → AreRead (evaluated_from k w q n ds) (free_in_defs sets ds)
  definitions_read [] n q sets e asked h = h
  definitions_read (d ∷ ds) n q sets e asked h =
      definitions_read ds (suc n) (λ j s. cond (eqb j n) (evaluated k w q (Some (cap n)) 0 d s) (q j s)) (sets ++ free_in sets d ∷ [])
      (let long = length_push sets (free_in sets d) in omega (arith, e, long)) asked.1
      (next_read q sets n e d asked.0 h)

  -- where two cells agree on a definition's used free vertices, it has one value, or none
  pub known_reads : (ds : List Tree) → AllUsed used ds → (j : ℕ) (s t : ℕ → ℕ) → AgreeWithin used (get_or (free_in_defs [] ds) j 0) s t
      → found (known k w ds (length ds) j s) ≡ found (known k w ds (length ds) j t)
  known_reads ds asked j s t h =
      let q : ℕ → (ℕ → ℕ) → Result Pair Stop = λ j t. Ok (k.kind.from_ratio 1 1) in
      let all : take (length ds) ds ≡ ds = take-length ds in
      ap (λ (l : List Tree). found (evaluated_from k w q 0 l j s)) all ∙ definitions_read ds 0 q [] refl asked (λ j s t h. refl) j s t h
      ∙ sym (ap (λ (l : List Tree). found (evaluated_from k w q 0 l j t)) all)
