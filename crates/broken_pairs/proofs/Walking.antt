-- Pairs that are looked at one after another.
use Rattle.std.proofs.Common.{ℕ, ◌+◌, ◌≡◌, ◌<◌, ◌≤◌, Bool, true, false, List, [], ◌∷◌, ◌++◌, Option, Some, None, Result, Ok, Err, IfOk, length, take, drop, get_or, sym, ap, ◌∙◌, subst}
use Rattle.std.specs.Prelude.{All, IfSome}
use Rattle.std.specs.Bool.{OnTrue, OnFalse}
use Rattle.std.proofs.lemmas.Bool.{false≢true}
use Rattle.std.proofs.lemmas.List.{take-append-drop, take_all, drop_more, take_more}
use Rattle.std.proofs.lemmas.List.Elements.{All-push, All-head, All-tail}
use Rattle.mixed_graph.specs.Vocabulary.{MixedGraph, IsMixedGraph}
use Rattle.count_rows.specs.Vocabulary.{Table}
use Rattle.count_table.specs.Vocabulary.{total}
use Rattle.count_eval.specs.Vocabulary.{weights_in, is_used}
use Rattle.natural_bounds.specs.Vocabulary.{HasNoModel}
use Rattle.implications.specs.declared.pairs.Implication.{Implication}
use Rattle.implications.specs.Vocabulary.{IsImplication}
use Rattle.broken_pairs.specs.Broken.{IsBroken, IsFirstOf, IsFirstBroken, Refutes}

-- what a test says
pub on_true : (P : Type 0) (b : Bool) → OnTrue b P → b ≡ true → P
on_true P true h e = h
on_true P false h e = absurd (false≢true e)

pub on_false : (P : Type 0) (b : Bool) → OnFalse b P → b ≡ false → P
on_false P false h e = h
on_false P true h e = absurd (false≢true (sym e))

module _ (t : Table) (list : List Implication) (k : ℕ) (d : Implication) (lt : k < length list)
    (before : All (λ (j : Implication). IsBroken t j → ⊥) (take k list)) where
  -- one more that the counts don't break
  pub one_more : (IsBroken t (get_or list k d) → ⊥) → All (λ (j : Implication). IsBroken t j → ⊥) (take (k + 1) list)
  one_more none = subst (All (λ (j : Implication). IsBroken t j → ⊥)) (sym (take_more list k d lt))
      (All-push (λ (j : Implication). IsBroken t j → ⊥) (take k list) (get_or list k d) before none)

  -- the first that they break
  pub first_here : IsBroken t (get_or list k d) → IsFirstOf t list (get_or list k d)
  first_here broken = record {
    before = take k list;
    after = drop (k + 1) list;
    stands = sym (take-append-drop k list) ∙ ap (λ (l : List Implication). take k list ++ l) (drop_more list k d lt);
    broken = broken;
    unbroken = before;
  }

-- all were looked at
pub none_at_all : (t : Table) (list : List Implication) (k : ℕ) → length list ≤ k → All (λ (j : Implication). IsBroken t j → ⊥) (take k list)
    → All (λ (j : Implication). IsBroken t j → ⊥) list
none_at_all t list k le all = subst (All (λ (j : Implication). IsBroken t j → ⊥)) (take_all k list le) all

-- what holds of each holds of the one between two parts
between : (P : Implication → Type 0) (xs ys : List Implication) (i : Implication) → All P (xs ++ i ∷ ys) → P i
between P [] ys i all = All-head P i ys all
between P (x ∷ xs) ys i all = between P xs ys i (All-tail P x (xs ++ i ∷ ys) all)

-- by the first implied pair that the counts break, no model of the graph has them
pub no_model : {E : Type 0} (g : MixedGraph) → IsMixedGraph g → (t : Table) (list : List Implication) → All (IsImplication g) list
    → (r : Result (Option Implication) E) → IfOk r (IsFirstBroken t list) → IfOk r (λ o. IfSome o (Refutes t))
    → IfOk r (λ o. IfSome o (λ i. HasNoModel g (is_used t) (weights_in g.vertices t) (total t.rows)))
no_model g ok t list each (Ok (Some i)) first refutes =
    refutes g ok (between (IsImplication g) first.before first.after i (subst (All (IsImplication g)) first.stands each))
no_model g ok t list each (Ok None) first refutes = tt
no_model g ok t list each (Err e) first refutes = tt
