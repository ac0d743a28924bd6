use Rattle.std.proofs.Common.{◌≡◌, ℕ, Bool, true, false, ◌&&◌, ◌||◌, ◌↔◌, inl, inr, refl, sym, ◌∙◌, IsTrue, subst}
use Rattle.std.proofs.lemmas.Bool.{or_cases, or_left, or_right, and_parts, and_from}
use Rattle.mixed_graph.specs.Vocabulary.{has, MixedGraph, IsMixedGraph}
use Rattle.m_separation.specs.declared.marks.Mark.{Mark}
use Rattle.m_separation.specs.declared.marks.Mark.TheVariants.{Out, Into, Both}
use Rattle.m_separation.specs.Walks.{IsJoined, IsPassed, heads_first, heads_second}
use Rattle.m_separation.specs.States.{AreAncestors, lets_pass, IsLed}
use Rattle.m_separation.proofs.Going.{passed_from_test, test_from_passed}

-- a state at v from which a walk may leave by an edge with an arrowhead there or not
record Left (g : MixedGraph) (w : ℕ → Bool) (from : Bool → ℕ) (v : ℕ) (leaving : Bool) : Type 0 where
  head : Bool
  member : IsTrue (has (from head) v)
  passed : IsPassed g w v head leaving

module _ (g : MixedGraph) (w above : ℕ → Bool) (are : AreAncestors g w above) (from parts : Bool → ℕ) (all : ℕ) (leaving : Bool)
    (parts_is : (h : Bool) (v : ℕ) → has (parts h) v ≡ (has (from h) v && lets_pass w above v h leaving))
    (all_is : (v : ℕ) → has all v ≡ (has (parts false) v || has (parts true) v)) where
  left_from : (h : Bool) (v : ℕ) → IsTrue (has (parts h) v) → Left g w from v leaving
  left_from h v i = let p = and_parts (has (from h) v) _ (sym (parts_is h v) ∙ i) in
      record { head = h; member = p.0; passed = passed_from_test g w above are v h leaving p.1 }

  some_left : (v : ℕ) → IsTrue (has all v) → Left g w from v leaving
  some_left v i = elim (or_cases (has (parts false) v) (has (parts true) v) (sym (all_is v) ∙ i)) [
    | inl t ↦ left_from false v t
    | inr t ↦ left_from true v t
  ]

  all_left : (h : Bool) (v : ℕ) → IsTrue (has (from h) v) → IsPassed g w v h leaving → IsTrue (has all v)
  all_left h v i p = all_is v ∙ either h (parts_is h v ∙ and_from _ _ i (test_from_passed g w above are v h leaving p))
    where
      either : (h : Bool) → IsTrue (has (parts h) v) → IsTrue (has (parts false) v || has (parts true) v)
      either true i = or_right _ _ i
      either false i = or_left _ _ i

-- one step of the search: `through` are the vertices that a walk may leave by an edge without an arrowhead there, `turning` those by one with
module _ (g : MixedGraph) (valid : IsMixedGraph g) (w above : ℕ → Bool) (are : AreAncestors g w above) (from through_parts turning_parts led : Bool → ℕ)
    (through turning children spouses : ℕ)
    (through_parts_are : (h : Bool) (v : ℕ) → has (through_parts h) v ≡ (has (from h) v && lets_pass w above v h false))
    (turning_parts_are : (h : Bool) (v : ℕ) → has (turning_parts h) v ≡ (has (from h) v && lets_pass w above v h true))
    (through_is : (v : ℕ) → has through v ≡ (has (through_parts false) v || has (through_parts true) v))
    (turning_is : (v : ℕ) → has turning v ≡ (has (turning_parts false) v || has (turning_parts true) v))
    (tails_are : (u : ℕ) → IsTrue (has (led false) u) ↔ ((v : ℕ) × IsTrue (has turning v) × IsTrue (g.arrow u v)))
    (children_are : (u : ℕ) → IsTrue (has children u) ↔ ((v : ℕ) × IsTrue (has through v) × IsTrue (g.arrow v u)))
    (spouses_are : (u : ℕ) → IsTrue (has spouses u) ↔ ((v : ℕ) × IsTrue (has turning v) × IsTrue (g.both v u)))
    (heads_are : (u : ℕ) → has (led true) u ≡ (has children u || has spouses u)) where
  led_by : (v u : ℕ) (m : Mark) → Left g w from v (heads_first m) → IsJoined g v m u → IsLed g w from u (heads_second m)
  led_by v u m l j = record { head = l.head; vertex = v; member = l.member; goes = record { mark = m; joined = j; passed = l.passed; arrives = refl } }

  sound : (k : Bool) (u : ℕ) → IsTrue (has (led k) u) → IsLed g w from u k
  sound true u i = elim (or_cases (has children u) (has spouses u) (sym (heads_are u) ∙ i)) [
    | inl c ↦ let s = (children_are u).0 c in led_by s.0 u Out (some_left g w above are from through_parts through false through_parts_are through_is s.0 s.1)
        s.2
    | inr c ↦ let s = (spouses_are u).0 c in led_by s.0 u Both (some_left g w above are from turning_parts turning true turning_parts_are turning_is s.0 s.1)
        s.2
  ]
  sound false u i = let s = (tails_are u).0 i in led_by s.0 u Into (some_left g w above are from turning_parts turning true turning_parts_are turning_is s.0
      s.1) s.2

  complete_at : (h : Bool) (v u : ℕ) (m : Mark) → IsTrue (has (from h) v) → IsJoined g v m u → IsPassed g w v h (heads_first m)
      → IsTrue (has (led (heads_second m)) u)
  complete_at h v u Out i j p = heads_are u ∙ or_left _ _ ((children_are u).1
      (v, all_left g w above are from through_parts through false through_parts_are through_is h v i p, j))
  complete_at h v u Into i j p = (tails_are u).1 (v, all_left g w above are from turning_parts turning true turning_parts_are turning_is h v i p, j)
  complete_at h v u Both i j p = heads_are u ∙ or_right _ _ ((spouses_are u).1
      (v, all_left g w above are from turning_parts turning true turning_parts_are turning_is h v i p, j))

  pub next_is : (k : Bool) (u : ℕ) → IsTrue (has (led k) u) ↔ IsLed g w from u k
  next_is k u = (
    sound k u,
    λ l. subst (λ b. IsTrue (has (led b) u)) l.goes.arrives (complete_at l.head l.vertex u l.goes.mark l.member l.goes.joined l.goes.passed),
  )
