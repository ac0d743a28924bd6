-- The two models that the data of a hedge gives, and the event that tells them apart.
use Rattle.std.specs.Prelude.{ℕ, ◌+◌, ◌*◌, ◌/◌, ◌%◌, Bool, true, false, if◌then◌else◌, ◌==◌, ltb, not, ◌&&◌, ◌||◌, length}
use Rattle.finite_models.specs.Vocabulary.{sum_over, FiniteModel, solution, intervene, world_weight, differ, odd_below}
use Rattle.counter_models.specs.Parities.{bit, chosen}
use Rattle.counter_models.specs.Links.{at_vertex, is_end}
use Rattle.counter_models.specs.Hedges.{ParityHedge, links_of}

-- the value of a vertex with a hedge bit, where a, and a carried bit, where b
abbrev pub value : (a b h k : Bool) → ℕ
value true true h k = (if h then 1 else 0) + 2 * (if k then 1 else 0)
value true false h k = if h then 1 else 0
value false true h k = if k then 1 else 0
value false false h k = 0

-- the hedge bit of v where the vertices have the values s: the first of two, or the only one
abbrev pub hedge_bit : ParityHedge → (ℕ → ℕ) → ℕ → Bool
hedge_bit d s v = bit (s v % 2)

-- the carried bit: the second where v has a hedge bit, or the only one
abbrev pub carried_bit : ParityHedge → (ℕ → ℕ) → ℕ → Bool
carried_bit d s v = if d.big v then (bit (s v / 2)) else bit (s v)

-- the bit of cause j in the world u
abbrev pub world_bit : (ℕ → ℕ) → ℕ → Bool
world_bit u j = bit (u j)

-- the causes at v in the first model: all links of v, and the cause of v in small
abbrev pub at_first : ParityHedge → (ℕ → Bool) → ℕ → Bool
at_first d w v = differ (differ (at_vertex 0 d.inner w v) (at_vertex (length d.inner) d.outer w v)) (d.small v && w (d.small_cause v))

-- the causes at v in small in the second model: the links inside small alone, and the cause of v
abbrev pub at_second : ParityHedge → (ℕ → Bool) → ℕ → Bool
at_second d w v = differ (at_vertex 0 d.inner w v) (w (d.small_cause v))

-- the members of A that choose
abbrev pub chooses : ParityHedge → (ℕ → Bool) → ℕ → Bool
chooses d A u = A u && not (d.roots u)

-- the hedge bit that v gets in the first model: the bits of the members of big that chose it, and its causes
abbrev pub first_bit : ℕ → ParityHedge → (ℕ → ℕ) → (ℕ → ℕ) → ℕ → Bool
first_bit n d s u v = differ (chosen n (chooses d d.big) d.choice (hedge_bit d s) v) (at_first d (world_bit u) v)

-- in the second: for v in small, the bits of the members of small that chose it, and its causes inside small
abbrev pub second_bit : ℕ → ParityHedge → (ℕ → ℕ) → (ℕ → ℕ) → ℕ → Bool
second_bit n d s u v = if d.small v then differ (chosen n (chooses d d.small) d.choice (hedge_bit d s) v) (at_second d (world_bit u) v) else first_bit n d s u v

-- the kept vertices that carry further
abbrev pub carries : ParityHedge → ℕ → Bool
carries d u = d.kept u && not (d.target u)

-- the carried bit that v gets in both: the carried bits of the vertices that carry to it, its own hedge bit h where it is a root, and its cause
abbrev pub top_bit : ℕ → ParityHedge → (ℕ → ℕ) → (ℕ → ℕ) → Bool → ℕ → Bool
top_bit n d s u h v = differ (chosen n (carries d) d.carry (carried_bit d s) v) (differ (d.roots v && h) (world_bit u (d.kept_cause v)))

-- how v gets its value in the first model
abbrev pub first_mechanism : ℕ → ParityHedge → ℕ → (ℕ → ℕ) → (ℕ → ℕ) → ℕ
first_mechanism n d v s u = value (d.big v) (d.kept v) (first_bit n d s u v) (top_bit n d s u (first_bit n d s u v) v)

-- and in the second
abbrev pub second_mechanism : ℕ → ParityHedge → ℕ → (ℕ → ℕ) → (ℕ → ℕ) → ℕ
second_mechanism n d v s u = value (d.big v) (d.kept v) (second_bit n d s u v) (top_bit n d s u (second_bit n d s u v) v)

-- links have the weights 1 1, the other causes 3 1
abbrev pub cause_weight : ParityHedge → ℕ → ℕ → ℕ
cause_weight d j i = if ltb j (links_of d) then 1 else (if i == 0 then 3 else 1)

-- a link serves its ends, the other causes their vertex
abbrev pub serves_of : ParityHedge → ℕ → ℕ → Bool
serves_of d j v = is_end 0 d.inner j v || (is_end (length d.inner) d.outer j v || ((d.small v && j == d.small_cause v) || (d.kept v && j == d.kept_cause v)))

-- 4 values with both bits, 2 with one, 1 with none
abbrev pub size_of : ParityHedge → ℕ → ℕ
size_of d v = if d.big v then (if d.kept v then 4 else 2) else (if d.kept v then 2 else 1)

-- a model with these mechanisms
abbrev pub counter_model : ℕ → ParityHedge → (ℕ → ℕ → Bool) → (ℕ → (ℕ → ℕ) → (ℕ → ℕ) → ℕ) → FiniteModel
counter_model n d serves mechanism = record {
  vertices = n;
  size = size_of d;
  causes = d.causes;
  values = λ j. 2;
  weight = cause_weight d;
  serves = serves;
  mechanism = mechanism;
}

-- the first model
abbrev pub first_model : ℕ → ParityHedge → FiniteModel
first_model n d = counter_model n d (serves_of d) (first_mechanism n d)

-- the second model
abbrev pub second_model : ℕ → ParityHedge → FiniteModel
second_model n d = counter_model n d (serves_of d) (second_mechanism n d)

-- whether the carried bits of the kept vertices in the target have an odd sum
abbrev pub event_odd : ℕ → ParityHedge → (ℕ → ℕ) → Bool
event_odd n d s = odd_below n (λ v. (d.kept v && d.target v) && carried_bit d s v)

-- the weight of the worlds whose solution under do(x) at a has an even sum of them
abbrev pub event_even : FiniteModel → ParityHedge → (ℕ → Bool) → (ℕ → ℕ) → ℕ
event_even m d x a = sum_over (λ j. true) m.values m.causes (λ u. world_weight m u *
    (if not (event_odd m.vertices d (solution (intervene m x a) u)) then 1 else 0)) (λ j. 0)
