-- The sets that the lists of a question name.
use Rattle.std.proofs.Common.{◌≡◌, ◌<◌, ℕ, Bool, true, false, List, ◌++◌, length, refl, subst}
use Rattle.mixed_graph.specs.Vocabulary.{has, is_named, Within, Apart}
use Rattle.do_rules.specs.Vocabulary.{AreFourSets}
use Rattle.finite_models.proofs.Bools.{not_both}
use Rattle.targets.proofs.Disjoint.{disjoint_sets}
use Rattle.targets.proofs.Queries.{set_within}
use Rattle.targets.proofs.RuleWalks.{not_walked, sets_apart, some_in}
use Rattle.further_lists.proofs.WalkedNames.{in_none}
use Rattle.natural_command.specs.declared.asking.Question.{Question}
use Rattle.natural_command.specs.Asking.{NaturalLists, AreNamed}

-- where the second isn't beside the first, the first isn't beside the second
pub turned : (p q : ℕ → Bool) → Apart p q → Apart q p
turned p q a v h = go (p v) refl
  where
    go : (b : Bool) → p v ≡ b → p v ≡ false
    go true e = absurd (not_both (q v) h (a v e))
    go false e = e

module _ (l : NaturalLists) (q : Question) (named : AreNamed l q) where
  -- a mediator is in none of the three lists
  apart : (m : List ℕ) → is_named l.through m ≡ true
      → (is_named l.query.x m ≡ false) × ((is_named l.query.y m ≡ false) × (is_named l.query.given m ≡ false))
  apart m h = in_none l.query m
      (not_walked l.query.all l.query.observed (is_named (l.query.x ++ (l.query.y ++ l.query.given))) l.through named.no_fault m h)

  -- the four sets are sets of the graph, apart from each other
  pub four_sets : (n : ℕ) → length l.query.observed ≡ n → AreFourSets n (has q.x.bits) (has q.y.bits) (has q.through.bits) (has q.given.bits)
  four_sets n e =
      let d = disjoint_sets l.query n q.x.bits q.y.bits q.given.bits e named.query in
      record {
        x_within = d.x_within;
        y_within = d.y_within;
        z_within = subst (λ k. Within k (has q.through.bits)) e (set_within l.query.observed l.through q.through.bits named.through);
        w_within = d.w_within;
        x_y = d.x_y;
        x_z = sets_apart l.query.observed l.query.x l.through q.x.bits q.through.bits named.query.set_x named.through (λ m h. (apart m h).0);
        x_w = d.x_w;
        y_z = sets_apart l.query.observed l.query.y l.through q.y.bits q.through.bits named.query.set_y named.through (λ m h. (apart m h).1.0);
        y_w = d.y_w;
        z_w = turned (has q.given.bits) (has q.through.bits)
            (sets_apart l.query.observed l.query.given l.through q.given.bits q.through.bits named.query.set_given named.through (λ m h. (apart m h).1.1));
      }

  -- there is a mediator
  pub some_mediator : 0 < q.through.bits
  some_mediator = some_in l.query.all l.query.observed (is_named (l.query.x ++ (l.query.y ++ l.query.given))) l.through q.through.bits named.no_fault named.some
      named.through
