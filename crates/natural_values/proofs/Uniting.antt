-- The union of sets, one factor after the other.
use Rattle.std.proofs.Common.{ℕ, ◌+◌, ◌≡◌, ◌<◌, ◌≤◌, Bool, true, false, ◌||◌, refl, sym, ap, ◌∙◌, subst, List, map, drop, length, get_or}
use Rattle.std.proofs.Math.ListN.{drop_of_length-le}
use Rattle.mixed_graph.specs.Vocabulary.{has}
use Rattle.mixed_graph.proofs.Masks.{same_from_has}
use Rattle.mixed_graph.proofs.MaskLaws.{has_join, has_none}
use Rattle.factor_values.specs.declared.factors.Factor.{Factor}
use Rattle.factor_values.specs.Vocabulary.{factor_view, PlainFactor}
use Rattle.factor_values.proofs.Walking.{factors_left}
use Rattle.natural_values.specs.Naming.{union_over}

module _ (set_of : PlainFactor → ℕ) where
  -- with what is still to come it is the whole
  abbrev pub IsUpTo : List Factor → (i all : ℕ) → Type 0
  IsUpTo fs i all = (v : ℕ) → has (union_over set_of (map factor_view fs)) v ≡ (has all v || has (union_over set_of (map factor_view (drop i fs))) v)

  pub upto_none : (fs : List Factor) → IsUpTo fs 0 0
  upto_none fs v = sym (ap (λ b. b || has (union_over set_of (map factor_view fs)) v) (has_none v))

  pub upto_more : (fs : List Factor) (i : ℕ) (f : Factor) (all all' : ℕ) → i < length fs → f ≡ get_or fs i f → IsUpTo fs i all
      → ((v : ℕ) → has all' v ≡ (has all v || has (set_of (factor_view f)) v)) → IsUpTo fs (i + 1) all'
  upto_more fs i f all all' lt is h more v =
      let rest = union_over set_of (map factor_view (drop (i + 1) fs)) in
      h v ∙ ap (λ (gs : List PlainFactor). has all v || has (union_over set_of gs) v) (factors_left fs i f lt is)
      ∙ ap (λ b. has all v || b) (has_join (set_of (factor_view f)) rest v)
      ∙ regroup (has all v) (has (set_of (factor_view f)) v) (has rest v)
      ∙ ap (λ b. b || has rest v) (sym (more v))
    where
      regroup : (a b c : Bool) → (a || (b || c)) ≡ ((a || b) || c)
      regroup true b c = refl
      regroup false b c = refl

  -- as a loop over the list behind a vector has it
  pub upto_turn : (fs fs' : List Factor) (i : ℕ) (f : Factor) (all all' : ℕ) → fs' ≡ fs → i < length fs' → f ≡ get_or fs' i f → IsUpTo fs i all
      → ((v : ℕ) → has all' v ≡ (has all v || has (set_of (factor_view f)) v)) → IsUpTo fs (i + 1) all'
  upto_turn fs fs' i f all all' e lt is = upto_more fs i f all all' (subst (λ (l : List Factor). i < length l) e lt) (subst (λ (l : List Factor). f ≡ get_or l i f) e is)

  pub upto_all : (fs : List Factor) (i all : ℕ) → length fs ≤ i → IsUpTo fs i all → all ≡ union_over set_of (map factor_view fs)
  upto_all fs i all le h = same_from_has all (union_over set_of (map factor_view fs)) (λ v. sym (h v
      ∙ ap (λ (gs : List Factor). has all v || has (union_over set_of (map factor_view gs)) v) (drop_of_length-le fs le)
      ∙ ap (λ b. has all v || b) (has_none v) ∙ nothing (has all v)))
    where
      nothing : (a : Bool) → (a || false) ≡ a
      nothing true = refl
      nothing false = refl
