-- The sets that the lists of a question name are sets of the graph, apart from each other.
use Rattle.std.proofs.Common.{◌≡◌, ◌<◌, ℕ, Bool, true, false, ◌||◌, List, ◌++◌, length, None, refl, ap₂, subst, inl, inr}
use Rattle.std.proofs.lemmas.Bool.{cases_Bool}
use Rattle.mixed_graph.specs.Vocabulary.{has, is_named, Within, Apart}
use Rattle.do_rules.specs.Vocabulary.{AreFourSets}
use Rattle.targets.specs.Vocabulary.{first_fault, IsListedSet}
use Rattle.targets.proofs.Disjoint.{disjoint_sets}
use Rattle.targets.proofs.Queries.{behind, set_within}
use Rattle.targets.proofs.RuleWalks.{not_walked, sets_apart}
use Rattle.further_lists.proofs.WalkedNames.{in_none, neither_of}
use Rattle.natural_bounds.specs.Vocabulary.{fixed}
use Rattle.bound_values.specs.declared.questions.Question.{Question}
use Rattle.bound_values.specs.Vocabulary.{asked_of}
use Rattle.bounds_command.specs.Asking.{BoundLists, AreNamed}

swap : (p q : ℕ → Bool) → Apart p q → Apart q p
swap p q a v h = elim (cases_Bool (p v)) [ inl t ↦ absurd (let f = a v t in cc) | inr f ↦ f ]

from_either : (p q r : ℕ → Bool) → Apart p q → Apart p r → Apart p (λ v. q v || r v)
from_either p q r a b v h = ap₂ (λ (c d : Bool). c || d) (a v h) (b v h)

-- ---- apart
module _ (l : BoundLists) (q : Question) (named : AreNamed l q) where
  parts : (first_fault l.query.all l.query.observed (is_named (l.query.x ++ (l.query.y ++ l.query.given))) l.instruments ≡ None)
      × (first_fault l.query.all l.query.observed (λ m. is_named (l.query.x ++ (l.query.y ++ l.query.given)) m || is_named l.instruments m) l.strata ≡ None)
  parts = behind l.query.all l.query.observed (is_named (l.query.x ++ (l.query.y ++ l.query.given))) l.instruments l.strata named.no_fault

  of_instruments : (m : List ℕ) → is_named l.instruments m ≡ true
      → (is_named l.query.x m ≡ false) × ((is_named l.query.y m ≡ false) × (is_named l.query.given m ≡ false))
  of_instruments m h = in_none l.query m (not_walked l.query.all l.query.observed (is_named (l.query.x ++ (l.query.y ++ l.query.given))) l.instruments parts.0 m h)

  of_strata : (m : List ℕ) → is_named l.strata m ≡ true → (is_named (l.query.x ++ (l.query.y ++ l.query.given)) m ≡ false)
      × (is_named l.instruments m ≡ false)
  of_strata m h = neither_of (is_named (l.query.x ++ (l.query.y ++ l.query.given)) m) (is_named l.instruments m)
      (not_walked l.query.all l.query.observed (λ k. is_named (l.query.x ++ (l.query.y ++ l.query.given)) k || is_named l.instruments k) l.strata parts.1 m h)

  pub given_strata : Apart (has q.given.bits) (has q.strata.bits)
  given_strata = sets_apart l.query.observed l.query.given l.strata q.given.bits q.strata.bits named.query.set_given named.strata
      (λ m h. (in_none l.query m (of_strata m h).0).1.1)

  x_instruments : Apart (has q.x.bits) (has q.instruments.bits)
  x_instruments = sets_apart l.query.observed l.query.x l.instruments q.x.bits q.instruments.bits named.query.set_x named.instruments
      (λ m h. (of_instruments m h).0)

  x_strata : Apart (has q.x.bits) (has q.strata.bits)
  x_strata = sets_apart l.query.observed l.query.x l.strata q.x.bits q.strata.bits named.query.set_x named.strata (λ m h. (in_none l.query m (of_strata m h).0).0)

  y_instruments : Apart (has q.y.bits) (has q.instruments.bits)
  y_instruments = sets_apart l.query.observed l.query.y l.instruments q.y.bits q.instruments.bits named.query.set_y named.instruments
      (λ m h. (of_instruments m h).1.0)

  y_strata : Apart (has q.y.bits) (has q.strata.bits)
  y_strata = sets_apart l.query.observed l.query.y l.strata q.y.bits q.strata.bits named.query.set_y named.strata (λ m h. (in_none l.query m (of_strata m h).0).1.0)

  given_instruments : Apart (has q.given.bits) (has q.instruments.bits)
  given_instruments = sets_apart l.query.observed l.query.given l.instruments q.given.bits q.instruments.bits named.query.set_given named.instruments
      (λ m h. (of_instruments m h).1.1)

  instruments_strata : Apart (has q.instruments.bits) (has q.strata.bits)
  instruments_strata = sets_apart l.query.observed l.instruments l.strata q.instruments.bits q.strata.bits named.instruments named.strata
      (λ m h. (of_strata m h).1)

  within_of : (n : ℕ) → length l.query.observed ≡ n → (list : List (List ℕ)) (mask : ℕ) → IsListedSet l.query.observed list mask → Within n (has mask)
  within_of n e list mask is = subst (λ k. Within k (has mask)) e (set_within l.query.observed list mask is)

  fixed_within : (n : ℕ) → length l.query.observed ≡ n → Within n (fixed (asked_of q))
  fixed_within n e v h = go (has q.given.bits v) refl h
    where
      go : (b : Bool) → has q.given.bits v ≡ b → (b || has q.strata.bits v) ≡ true → v < n
      go true g k = within_of n e l.query.given q.given.bits named.query.set_given v g
      go false g k = within_of n e l.strata q.strata.bits named.strata v k

  pub four_sets : (n : ℕ) → length l.query.observed ≡ n
      → AreFourSets n (asked_of q).x (asked_of q).y (asked_of q).z (fixed (asked_of q))
  four_sets n e =
      let d = disjoint_sets l.query n q.x.bits q.y.bits q.given.bits e named.query in
      record {
        x_within = d.x_within;
        y_within = d.y_within;
        z_within = within_of n e l.instruments q.instruments.bits named.instruments;
        w_within = fixed_within n e;
        x_y = d.x_y;
        x_z = x_instruments;
        x_w = from_either (has q.x.bits) (has q.given.bits) (has q.strata.bits) d.x_w x_strata;
        y_z = y_instruments;
        y_w = from_either (has q.y.bits) (has q.given.bits) (has q.strata.bits) d.y_w y_strata;
        z_w = from_either (has q.instruments.bits) (has q.given.bits) (has q.strata.bits)
            (swap (has q.given.bits) (has q.instruments.bits) given_instruments) instruments_strata;
      }
