-- The sets of a query, and those of a rule, are disjoint sets of vertices.
use Rattle.std.proofs.Common.{◌≡◌, ℕ, false, List, [], length, refl, sym, subst, ◌∙◌}
use Rattle.std.specs.Prelude.{nat_lt}
use Rattle.std.proofs.lemmas.Bool.{and_right}
use Rattle.mixed_graph.specs.Vocabulary.{has, Within, Apart}
use Rattle.mixed_graph.proofs.Masks.{has-zero}
use Rattle.targets.specs.Targets.{Lists, AreListedSets, AreSets, RuleLists, AreRuleSets, IsListedSet}
use Rattle.targets.proofs.Queries.{set_within}
use Rattle.targets.proofs.RuleWalks.{pairwise_apart}
use Rattle.targets.proofs.Effects.{are_listed}

-- three sets below n that are pairwise disjoint
pub record DisjointSets (n x y w : ℕ) : Type 0 where
  pub x_within : Within n (has x)
  pub y_within : Within n (has y)
  pub w_within : Within n (has w)
  pub x_y : Apart (has x) (has y)
  pub x_w : Apart (has x) (has w)
  pub y_w : Apart (has y) (has w)

-- a fourth one beside them
pub record DisjointRuleSets (n x y z w : ℕ) : Type 0 where
  pub three : DisjointSets n x y w
  pub z_within : Within n (has z)
  pub x_z : Apart (has x) (has z)
  pub y_z : Apart (has y) (has z)
  pub z_w : Apart (has z) (has w)

-- a set of a list, among n vertices
within : (observed list : List (List ℕ)) (n mask : ℕ) → length observed ≡ n → IsListedSet observed list mask → Within n (has mask)
within observed list n mask e h = subst (λ k. Within k (has mask)) e (set_within observed list mask h)

-- nothing is in the set of no name
set_of_none : (observed : List (List ℕ)) → IsListedSet observed [] 0
set_of_none observed v = has-zero v ∙ sym (and_right (nat_lt v (length observed)) false refl)

-- the sets of a rule are within n, and no two of them meet
pub disjoint_rule_sets : (l : RuleLists) (n y x z given : ℕ) → length l.observed ≡ n → AreRuleSets l y x z given → DisjointRuleSets n x y z given
disjoint_rule_sets l n y x z given e s =
    let a = pairwise_apart l y x z given s.no_fault s.set_y s.set_x s.set_z s.set_given in record {
      three = record {
        x_within = within l.observed l.x n x e s.set_x;
        y_within = within l.observed l.y n y e s.set_y;
        w_within = within l.observed l.given n given e s.set_given;
        x_y = a.x_y;
        x_w = a.x_given;
        y_w = a.y_given;
      };
      z_within = within l.observed l.z n z e s.set_z;
      x_z = a.x_z;
      y_z = a.y_z;
      z_w = a.z_given;
    }

-- the sets of a query in which x may be empty, by those of a rule that does nothing
pub disjoint_listed_sets : (l : Lists) (n x y given : ℕ) → length l.observed ≡ n → AreListedSets l x y given → DisjointSets n x y given
disjoint_listed_sets l n x y given e s =
    let rule : RuleLists = record { all = l.all; observed = l.observed; y = l.x; x = []; z = l.y; given = l.given } in
    let a = pairwise_apart rule x 0 y given s.no_fault s.set_x (set_of_none l.observed) s.set_y s.set_given in record {
      x_within = within l.observed l.x n x e s.set_x;
      y_within = within l.observed l.y n y e s.set_y;
      w_within = within l.observed l.given n given e s.set_given;
      x_y = a.y_z;
      x_w = a.y_given;
      y_w = a.z_given;
    }

-- and so those of a query
pub disjoint_sets : (l : Lists) (n x y given : ℕ) → length l.observed ≡ n → AreSets l x y given → DisjointSets n x y given
disjoint_sets l n x y given e s = disjoint_listed_sets l n x y given e (are_listed l x y given s)
