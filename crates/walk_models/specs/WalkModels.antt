-- The model of a walk: each visit has a bit, and each vertex has as its value the bits of all its visits.
use Rattle.std.specs.Prelude.{ℕ, zero, suc, Bool, true, false, ◌&&◌, ◌||◌, not, ◌==◌, ltb, if◌then◌else◌}
use Rattle.mixed_graph.specs.Vocabulary.{has}
use Rattle.m_separation.specs.declared.marks.Mark.{Mark}
use Rattle.m_separation.specs.declared.marks.Mark.TheVariants.{Out, Into, Both}
use Rattle.finite_models.specs.Vocabulary.{FiniteModel, mask_of, differ}
use Rattle.walk_models.specs.Visits.{Walk, head_before, head_after}

-- value 1 is the bit true
abbrev pub coin : (ℕ → ℕ) → ℕ → Bool
coin u i = u i == 1

-- the mark is <->
abbrev pub is_both : Mark → Bool
is_both Out = false
is_both Into = false
is_both Both = true

-- the bit that comes to the second end of a mark from the first, which has the bit b, where c is the coin of the edge
abbrev pub sent_on : Mark → (b c : Bool) → Bool
sent_on Out b c = b
sent_on Into b c = false
sent_on Both b c = c

-- the bit that comes to its first end from the second
abbrev pub sent_back : Mark → (b c : Bool) → Bool
sent_back Out b c = false
sent_back Into b c = b
sent_back Both b c = c

-- visit i has a coin of its own
abbrev pub has_own : Walk → ℕ → Bool
has_own p i = not (head_after p i) && (not (head_before p i) || p.free i)

-- coin i is that of edge i where it is <->, and else that of visit i, if it has one
abbrev pub has_coin : Walk → ℕ → Bool
has_coin p i = (ltb i p.steps && is_both (p.mark i)) || has_own p i

-- the bit of visit i where the vertices have the values s
abbrev pub bit_of : Walk → (ℕ → ℕ) → ℕ → Bool
bit_of p s i = has (s (p.at i)) i

-- what comes to visit i from the one before
abbrev pub from_before : Walk → (ℕ → ℕ) → (ℕ → ℕ) → ℕ → Bool
from_before p s u zero = false
from_before p s u (suc i) = sent_on (p.mark i) (bit_of p s i) (coin u i)

-- what comes to it from the one after
abbrev pub from_after : Walk → (ℕ → ℕ) → (ℕ → ℕ) → ℕ → Bool
from_after p s u i = ltb i p.steps && sent_back (p.mark i) (bit_of p s (suc i)) (coin u i)

-- the bit that visit i gets
abbrev pub new_bit : Walk → (ℕ → ℕ) → (ℕ → ℕ) → ℕ → Bool
new_bit p s u i = differ (from_before p s u i) (differ (from_after p s u i) (has_own p i && coin u i))

-- a model of n vertices for a walk; the coin `last` has the weights many, 1, and the others 1, 1
abbrev pub walk_model : (n : ℕ) → Walk → (last many : ℕ) → FiniteModel
walk_model n p last many = record {
  vertices = n;
  size = λ v. suc (mask_of (λ i. true) (suc p.steps));
  causes = suc p.steps;
  values = λ j. if has_coin p j then 2 else 1;
  weight = λ j i. if (j == last) && (i == 0) then many else 1;
  serves = λ j v. (v == p.at j) || (ltb j p.steps && is_both (p.mark j) && (v == p.at (suc j)));
  mechanism = λ v s u. mask_of (λ i. (v == p.at i) && new_bit p s u i) (suc p.steps);
}
