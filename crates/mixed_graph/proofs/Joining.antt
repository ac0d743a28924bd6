-- The rows of a set's members, joined one after the other.
use Rattle.std.proofs.Common.{◌≡◌, ℕ, Bool, true, false, ◌||◌, List, [], get_or, refl, ap, sym, subst, ◌∙◌}
use Rattle.std.specs.List.{list_any}
use Rattle.mixed_graph.specs.Bits.{has, members_below}
use Rattle.mixed_graph.proofs.MemberLists.{AreMembers, members-are}

-- whether one of these vertices has u in its row
abbrev pub in_rows : List ℕ → List ℕ → ℕ → Bool
in_rows rows vs u = list_any (λ v. has (get_or rows v 0) u) vs

-- the rows that are joined, with those of the members that are left, are the rows of all
pub record Joining (rows : List ℕ) (members : ℕ) (left : List ℕ) (all : ℕ) : Type 0 where
  pub are : AreMembers (has members) 64 left
  pub whole : (u : ℕ) → (has all u || in_rows rows left u) ≡ in_rows rows (members_below (has members) 64) u

pub joining_none : (rows : List ℕ) (members : ℕ) (left : List ℕ) (all : ℕ) → left ≡ members_below (has members) 64 → ((u : ℕ) → has all u ≡ false)
    → Joining rows members left all
joining_none rows members left all whole none = record {
  are = subst (AreMembers (has members) 64) (sym whole) (members-are (has members) 64);
  whole = λ u. ap (λ b. b || in_rows rows left u) (none u) ∙ ap (λ vs. in_rows rows vs u) whole;
}

pub joined_all : (rows : List ℕ) (members all : ℕ) (left : List ℕ) → left ≡ [] → Joining rows members left all → (u : ℕ)
    → has all u ≡ in_rows rows (members_below (has members) 64) u
joined_all rows members all left none s u = plain (has all u) ∙ sym (ap (λ vs. has all u || in_rows rows vs u) none) ∙ s.whole u
  where
    plain : (b : Bool) → b ≡ (b || false)
    plain true = refl
    plain false = refl
