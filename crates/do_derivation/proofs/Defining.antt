-- The lemmas of a derivation in turn, and what an accepted derivation means.
use Rattle.std.proofs.Common.{ℕ, zero, suc, ◌+◌, ◌≡◌, ◌<◌, ◌≤◌, true, not, refl, sym, ap, ◌∙◌, ◌&&◌, List, [], ◌∷◌, ◌++◌, length, get_or, drop, map}
use Rattle.std.proofs.Common.{Some, None, inl, inr, subst, arith, append_assoc}
use Rattle.std.proofs.lemmas.List.{at_drop_more, at_drop_all}
use Rattle.mixed_graph.specs.declared.sets.VSet.{VSet}
use Rattle.mixed_graph.specs.Vocabulary.{MixedGraph, minus, all, is_empty, is_below}
use Rattle.finite_models.proofs.Bools.{and_first, and_second}
use Rattle.prob_expr.specs.declared.expr.Expr.{Expr}
use Rattle.prob_expr.specs.Vocabulary.{cap, masks_of, are_terms, is_allowed, PlainFormula, PlainTarget, term_of}
use Rattle.prob_expr.specs.Tree.{Tree}
use Rattle.prob_expr.specs.View.{view}
use Rattle.mixed_graph.proofs.MaskLaws.{filled_from}
use Rattle.do_derivation.specs.Accepts.{Accepts, AcceptsNot, Define, DefinesNot, are_sets, sets_of, start_of}
use Rattle.do_derivation.specs.Answers.{UnlessNoMemory, StopsAtStep}
use Rattle.do_derivation.specs.Plans.{PlainDerivation}
use Rattle.do_derivation.specs.Steps.{Makes, Refuses}
use Rattle.do_derivation.specs.View.{step_view, lemma_view}
use Rattle.do_derivation.specs.declared.faults.CheckFault.{CheckFault}
use Rattle.do_derivation.specs.declared.faults.CheckFault.TheVariants.{Step, EndDiffers, DoLeft, NoMemory}
use Rattle.do_derivation.specs.declared.faults.StepFault.{StepFault}
use Rattle.do_derivation.specs.declared.steps.Lemma.{Lemma}
use Rattle.do_derivation.proofs.Accepted.{start_term}
use Rattle.do_derivation.proofs.TermSets.{term_test}

pub unless_weaker : (why : CheckFault) (P Q : Type 0) → (P → Q) → UnlessNoMemory why P → UnlessNoMemory why Q
unless_weaker (Step place fault) P Q f p = f p
unless_weaker (EndDiffers k) P Q f p = f p
unless_weaker DoLeft P Q f p = f p
unless_weaker NoMemory P Q f p = tt

-- where the lemmas' sets are below n and not empty, what a lemma starts from is a term
pub start_is_term : (n : ℕ) (ls : List Lemma) (k : ℕ) (l : Lemma) → are_sets n (sets_of (map lemma_view ls)) ≡ true → k < length ls → l ≡ get_or ls k l
    → are_terms n (start_of n l.set.bits) ≡ true
start_is_term n [] k l h lt is = absurd (omega arith)
start_is_term n (x ∷ ls) zero l h lt is =
    let own = and_first (is_below n x.set.bits && not (is_empty x.set.bits)) (are_sets n (sets_of (map lemma_view ls))) h in
    subst (λ y. are_terms n (start_of n y.set.bits) ≡ true) (sym is) (term_test n x.set.bits (minus (all n) x.set.bits) 0
    (start_term n x.set.bits (and_first (is_below n x.set.bits) (not (is_empty x.set.bits)) own))
    (filled_from x.set.bits (and_second (is_below n x.set.bits) (not (is_empty x.set.bits)) own)))
start_is_term n (x ∷ ls) (suc k) l h lt is = start_is_term n ls k l (and_second (is_below n x.set.bits && not (is_empty x.set.bits))
    (are_sets n (sets_of (map lemma_view ls))) h) (omega arith) is

pub length_lemmas : (ls : List Lemma) → length (map lemma_view ls) ≡ length ls
length_lemmas [] = refl
length_lemmas (l ∷ ls) = ap suc (length_lemmas ls)

-- what holds of the lemmas and definitions from number k on holds of all
pub record IsDefining (g : MixedGraph) (ls : List Lemma) (ds : List Expr) (sets : List VSet) (k : ℕ) : Type 0 where
  pub room : k ≤ length ds
  pub known : masks_of sets ++ sets_of (map lemma_view (drop k ls)) ≡ sets_of (map lemma_view ls)
  pub define : Define g (masks_of sets) (map lemma_view (drop k ls)) (map view (drop k ds)) → Define g [] (map lemma_view ls) (map view ds)
  pub fails : (why : CheckFault) → DefinesNot g (masks_of sets) k (map lemma_view (drop k ls)) (map view (drop k ds)) why
      → DefinesNot g [] 0 (map lemma_view ls) (map view ds) why

masks_more : (sets : List VSet) (s : VSet) → masks_of (sets ++ s ∷ []) ≡ masks_of sets ++ s.bits ∷ []
masks_more [] s = refl
masks_more (x ∷ sets) s = ap (λ l. x.bits ∷ l) (masks_more sets s)

module _ (g : MixedGraph) (ls : List Lemma) (ds : List Expr) (sets : List VSet) (k : ℕ) (l : Lemma) (lt : k < length ls) (is : l ≡ get_or ls k l)
    (left : IsDefining g ls ds sets k) where
  lemmas_here : map lemma_view (drop k ls) ≡ lemma_view l ∷ map lemma_view (drop (k + 1) ls)
  lemmas_here = at_drop_more (λ xs. map lemma_view xs) ls k l lt ∙ ap (λ x. lemma_view x ∷ map lemma_view (drop (k + 1) ls)) (sym is)

  pub lemma_extra : length ds ≤ k → DefinesNot g [] 0 (map lemma_view ls) (map view ds) (EndDiffers (cap k))
  lemma_extra le =
      left.fails (EndDiffers (cap k)) (subst (λ xs. DefinesNot g (masks_of sets) k xs (map view (drop k ds)) (EndDiffers (cap k))) (sym lemmas_here)
      (subst (λ ys. DefinesNot g (masks_of sets) k (lemma_view l ∷ map lemma_view (drop (k + 1) ls)) ys (EndDiffers (cap k)))
      (sym (at_drop_all (λ xs. map view xs) ds k le)) refl))

  module _ (d : Expr) (room : k < length ds) (at : d ≡ get_or ds k d) where
    defs_here : map view (drop k ds) ≡ view d ∷ map view (drop (k + 1) ds)
    defs_here = at_drop_more (λ xs. map view xs) ds k d room ∙ ap (λ x. view x ∷ map view (drop (k + 1) ds)) (sym at)

    pub lemma_fails : (why : CheckFault) → StopsAtStep g (masks_of sets) (step_view l.step) (start_of g.vertices l.set.bits) (view d) (Some (cap k)) (cap k)
        why → DefinesNot g [] 0 (map lemma_view ls) (map view ds) why
    lemma_fails why h =
        left.fails why (subst (λ xs. DefinesNot g (masks_of sets) k xs (map view (drop k ds)) why) (sym lemmas_here)
        (subst (λ ys. DefinesNot g (masks_of sets) k (lemma_view l ∷ map lemma_view (drop (k + 1) ls)) ys why) (sym defs_here) (stopped h)))
      where
        stopped : StopsAtStep g (masks_of sets) (step_view l.step) (start_of g.vertices l.set.bits) (view d) (Some (cap k)) (cap k) why
            → DefinesNot g (masks_of sets) k (lemma_view l ∷ map lemma_view (drop (k + 1) ls)) (view d ∷ map view (drop (k + 1) ds)) why
        stopped (inl r) = inl r
        stopped (inr r) = inr (inl r)

    pub defining_more : (sets' : List VSet) → sets' ≡ sets ++ l.set ∷ []
        → Makes g (masks_of sets) (step_view l.step) (start_of g.vertices l.set.bits) (view d) → IsDefining g ls ds sets' (k + 1)
    defining_more sets' pushed made =
        let more : masks_of sets' ≡ masks_of sets ++ l.set.bits ∷ [] = ap masks_of pushed ∙ masks_more sets l.set in
        record {
          room = omega arith;
          known = ap (λ m. m ++ sets_of (map lemma_view (drop (k + 1) ls))) more
              ∙ append_assoc (masks_of sets) (l.set.bits ∷ []) (sets_of (map lemma_view (drop (k + 1) ls)))
              ∙ ap (λ xs. masks_of sets ++ sets_of xs) (sym lemmas_here) ∙ left.known;
          define = λ h. left.define (subst (λ xs. Define g (masks_of sets) xs (map view (drop k ds))) (sym lemmas_here)
              (subst (λ ys. Define g (masks_of sets) (lemma_view l ∷ map lemma_view (drop (k + 1) ls)) ys) (sym defs_here)
              (made, subst (λ m. Define g m (map lemma_view (drop (k + 1) ls)) (map view (drop (k + 1) ds))) more h)));
          fails = λ why h. left.fails why (subst (λ xs. DefinesNot g (masks_of sets) k xs (map view (drop k ds)) why) (sym lemmas_here)
              (subst (λ ys. DefinesNot g (masks_of sets) k (lemma_view l ∷ map lemma_view (drop (k + 1) ls)) ys why) (sym defs_here)
              (inr (inr (made, subst (λ m. DefinesNot g m (k + 1) (map lemma_view (drop (k + 1) ls)) (map view (drop (k + 1) ds)) why) more h)))));
        }

-- at the end of the lemmas
module _ (g : MixedGraph) (ls : List Lemma) (ds : List Expr) (sets : List VSet) (k : ℕ) (done : length ls ≤ k) (left : IsDefining g ls ds sets k) where
  none_left : map lemma_view (drop k ls) ≡ []
  none_left = at_drop_all (λ xs. map lemma_view xs) ls k done

  pub all_sets : masks_of sets ≡ sets_of (map lemma_view ls)
  all_sets = sym (nothing (masks_of sets)) ∙ ap (λ xs. masks_of sets ++ sets_of xs) (sym none_left) ∙ left.known
    where
      nothing : (l : List ℕ) → l ++ [] ≡ l
      nothing [] = refl
      nothing (x ∷ l) = ap (λ m. x ∷ m) (nothing l)

  pub all_defined : length ds ≤ k → Define g [] (map lemma_view ls) (map view ds)
  all_defined le =
      left.define (subst (λ xs. Define g (masks_of sets) xs (map view (drop k ds))) (sym none_left)
      (subst (λ ys. Define g (masks_of sets) [] ys) (sym (at_drop_all (λ xs. map view xs) ds k le)) tt))

  pub definition_extra : (d : Expr) → k < length ds → DefinesNot g [] 0 (map lemma_view ls) (map view ds) (EndDiffers (cap k))
  definition_extra d lt =
      left.fails (EndDiffers (cap k)) (subst (λ xs. DefinesNot g (masks_of sets) k xs (map view (drop k ds)) (EndDiffers (cap k))) (sym none_left)
      (subst (λ ys. DefinesNot g (masks_of sets) k [] ys (EndDiffers (cap k))) (sym (at_drop_more (λ xs. map view xs) ds k d lt)) refl))

-- ---- the whole
module _ (g : MixedGraph) (allowed : List ℕ) (t : PlainTarget) (f : PlainFormula) (d : PlainDerivation) (sets : List VSet)
    (same : masks_of sets ≡ sets_of d.lemmas) (define : Define g [] d.lemmas f.defs) where
  pub main_fails : (why : CheckFault) → StopsAtStep g (masks_of sets) d.main (term_of t) f.main None (cap (length d.lemmas)) why
      → AcceptsNot g allowed t f d why
  main_fails why (inl r) = inr (
    define,
    inl (subst (λ m. (number : ℕ) × (fault : StepFault) × Refuses g m d.main (term_of t) 0 number fault
        × (why ≡ Step (record { lemma = None; number = number }) fault)) same r),
  )
  main_fails why (inr r) = inr (
    define,
    inr (inl (subst (λ m. (x : Tree) × Makes g m d.main (term_of t) x × (x ≡ f.main → ⊥)
        × (why ≡ EndDiffers (cap (length d.lemmas)))) same r)),
  )

  pub accepts : are_sets g.vertices (sets_of d.lemmas) ≡ true → Makes g (masks_of sets) d.main (term_of t) f.main → is_allowed allowed f ≡ true
      → Accepts g allowed t f d
  accepts whole made listed = record { sets = whole; define = define; main = subst (λ m. Makes g m d.main (term_of t) f.main) same made; listed = listed }
