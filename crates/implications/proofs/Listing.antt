-- The list of implications, pair after pair.
use Rattle.std.proofs.Common.{ℕ, ◌+◌, ◌≡◌, ◌<◌, Bool, false, List, [], ◌∷◌, ◌++◌, get_or, ◌⊎◌, inl, inr, sym, ◌∙◌, subst, arith, length-append}
use Rattle.std.specs.Prelude.{All}
use Rattle.std.specs.List.{Any}
use Rattle.std.proofs.lemmas.Bool.{cases_eq, false_from_ne_true, eqb-true}
use Rattle.std.proofs.lemmas.List.{get_or_append_left}
use Rattle.std.proofs.lemmas.List.Elements.{All-push, All-weaker}
use Rattle.std.proofs.lemmas.List.Quantifiers.{Any-push, all_pairs_push}
use Rattle.mixed_graph.specs.Vocabulary.{has, MixedGraph, IsMixedGraph, Within}
use Rattle.do_rules.specs.Vocabulary.{AreThreeSets, AreIndependent}
use Rattle.do_rules.proofs.Failing.{independence_is_separation}
use Rattle.do_rules.proofs.Holds.{independent_holds}
use Rattle.implications.specs.declared.pairs.Implication.{Implication}
use Rattle.implications.specs.Laws.{SeparableIsIndependent}
use Rattle.implications.specs.Separable.{only, IsSeparable}
use Rattle.implications.specs.Implications.{IsImplication, IsOf, IsBefore}
use Rattle.implications.specs.Steps.{IsEarlier, AreBefore}

any_kept : {X : Type 0} (P : X → Type 0) (xs : List X) (y : X) → Any P xs → Any P (xs ++ y ∷ [])
any_kept P xs y (k, x, lt, is, p) = (k, x, (let l = length-append xs (y ∷ []) in omega (arith, l, lt)), get_or_append_left xs (y ∷ []) x k lt ∙ is, p)

module _ (g : MixedGraph) where
  -- the same list, for later bounds between which no pair is separable
  moved : (a b a' b' : ℕ) (list : List Implication) → ((p q : ℕ) → IsEarlier a b p q → IsEarlier a' b' p q)
      → ((p q : ℕ) → IsSeparable g p q → IsEarlier a' b' p q → IsEarlier a b p q)
      → AreBefore g a b list → AreBefore g a' b' list
  moved a b a' b' list on back l = record {
    each = l.each;
    earlier = All-weaker (λ i. IsEarlier a b i.a i.b) (λ i. IsEarlier a' b' i.a i.b) (λ i. on i.a i.b) list l.earlier;
    all = λ p q e s. l.all p q (back p q s e) s;
    sorted = l.sorted;
  }

  module _ (a b : ℕ) (list : List Implication) where
    next_on : (p q : ℕ) → IsEarlier a b p q → IsEarlier a (b + 1) p q
    next_on p q (inl m) = inl m
    next_on p q (inr (e, m)) = inr (e, omega arith)

    -- a pair before the next one is before this one, or is this one
    next_back : (p q : ℕ) → IsEarlier a (b + 1) p q → IsEarlier a b p q ⊎ ((p ≡ a) × (q ≡ b))
    next_back p q (inl m) = inl (inl m)
    next_back p q (inr (e, m)) = go (cases_eq q b)
      where
        go : (q ≡ b) ⊎ (q ≡ b → ⊥) → IsEarlier a b p q ⊎ ((p ≡ a) × (q ≡ b))
        go (inl s) = inr (e, s)
        go (inr d) = inl (inr (e, omega (arith, d, m)))

    pub skipped : (IsSeparable g a b → ⊥) → AreBefore g a b list → AreBefore g a (b + 1) list
    skipped none l = moved a b a (b + 1) list next_on (λ p q s e. back p q s (next_back p q e)) l
      where
        back : (p q : ℕ) → IsSeparable g p q → IsEarlier a b p q ⊎ ((p ≡ a) × (q ≡ b)) → IsEarlier a b p q
        back p q s (inl e) = e
        back p q s (inr (e, f)) = absurd (none (subst (λ x. IsSeparable g a x) f (subst (λ x. IsSeparable g x q) e s)))

    pub pushed : (i : Implication) → i.a ≡ a → i.b ≡ b → IsImplication g i → AreBefore g a b list → AreBefore g a (b + 1) (list ++ i ∷ [])
    pushed i ea eb is l = record {
      each = All-push (IsImplication g) list i l.each is;
      earlier = All-push (λ j. IsEarlier a (b + 1) j.a j.b) list i (All-weaker (λ j. IsEarlier a b j.a j.b) (λ j. IsEarlier a (b + 1) j.a j.b)
          (λ j. next_on j.a j.b) list l.earlier) (inr (ea, omega (arith, eb)));
      all = λ p q e s. all p q s (next_back p q e);
      sorted = all_pairs_push IsBefore list i l.sorted (λ k d lt. before (get_or list k d) (l.earlier k d lt));
    }
      where
        all : (p q : ℕ) → IsSeparable g p q → IsEarlier a b p q ⊎ ((p ≡ a) × (q ≡ b)) → Any (IsOf p q) (list ++ i ∷ [])
        all p q s (inl e) = any_kept (IsOf p q) list i (l.all p q e s)
        all p q s (inr (e, f)) = Any-push (IsOf p q) list i (ea ∙ sym e, eb ∙ sym f)

        before : (j : Implication) → IsEarlier a b j.a j.b → IsBefore j i
        before j (inl m) = inl (omega (arith, m, ea))
        before j (inr (e, m)) = inr (e ∙ sym ea, omega (arith, m, eb))

  -- two vertices and a set without them
  three_sets : (a b : ℕ) (w : ℕ → Bool) → a < b → b < g.vertices → Within g.vertices w → w a ≡ false → w b ≡ false → AreThreeSets g.vertices (only a) (only b) w
  three_sets a b w order vertex within without_a without_b = record {
    x_within = λ v e. rw (eqb-true v a e) (let below : a < g.vertices = omega (arith, order, vertex) in below);
    y_within = λ v e. rw (eqb-true v b e) vertex;
    w_within = within;
    x_y = λ v e. false_from_ne_true (only b v) (λ f. let p = eqb-true v a e in let q = eqb-true v b f in omega (arith, p, q, order));
    x_w = λ v e. rw (eqb-true v a e) without_a;
    y_w = λ v e. rw (eqb-true v b e) without_b;
  }

  -- separated vertices are independent in each model
  pub independent : IsMixedGraph g → (i : Implication) → IsImplication g i → AreIndependent g (only i.a) (only i.b) (has i.given.bits)
  independent ok i is =
      let s = is.given.separating in
      independent_holds g ok (only i.a) (only i.b) (has i.given.bits) (three_sets i.a i.b (has i.given.bits)
      is.order is.vertex s.within s.without_a s.without_b) s.separates

  pub each_independent : IsMixedGraph g → (list : List Implication) → All (IsImplication g) list
      → All (λ i. AreIndependent g (only i.a) (only i.b) (has i.given.bits)) list
  each_independent ok list each = All-weaker (IsImplication g) (λ i. AreIndependent g (only i.a) (only i.b) (has i.given.bits)) (independent ok) list each

-- some set separates two vertices exactly where they are independent given some set
pub separable_is_independent : SeparableIsIndependent
separable_is_independent = λ g ok a b. (
  λ s. let is = s.separating in record {
    order = s.order;
    vertex = s.vertex;
    set = s.set;
    within = is.within;
    without_a = is.without_a;
    without_b = is.without_b;
    independent = independent_holds g ok (only a) (only b) s.set (three_sets g a b s.set s.order s.vertex is.within is.without_a is.without_b) is.separates;
  },
  λ s. record {
    order = s.order;
    vertex = s.vertex;
    set = s.set;
    separating = record {
      within = s.within;
      without_a = s.without_a;
      without_b = s.without_b;
      separates = (independence_is_separation g ok (only a) (only b) s.set (three_sets g a b s.set s.order s.vertex s.within s.without_a s.without_b)).1
          s.independent;
    };
  },
)
