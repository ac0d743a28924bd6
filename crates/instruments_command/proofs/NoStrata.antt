-- A listing without strata: no vertex is an instrument. And with: some vertex is one.
use Rattle.std.proofs.Common.{◌≡◌, ℕ, ◌<◌, ◌≤◌, ◌==◌, Bool, true, false, not, ◌&&◌, ◌||◌, nat_lt, inl, inr, List, [], ◌∷◌, map, arith, refl, sym, ap, ◌∙◌, subst}
use Rattle.std.specs.Prelude.{All}
use Rattle.std.specs.List.{list_any}
use Rattle.std.proofs.lemmas.Bool.{and_from, cases_Bool, cases_eq, eq-eqb, ne_eqb, lt-ltb, false≢true}
use Rattle.std.proofs.lemmas.List.Elements.{All-head, All-tail}
use Rattle.mixed_graph.specs.declared.sets.VSet.{VSet}
use Rattle.mixed_graph.specs.Vocabulary.{has, MixedGraph}
use Rattle.mixed_graph.proofs.MemberLists.{member-some}
use Rattle.minimal_sets.specs.Vocabulary.{IsListingOf}
use Rattle.minimal_sets.proofs.Smallest.{none_at_all}
use Rattle.natural_bounds.specs.Vocabulary.{IsInstrument}
use Rattle.instrument_sets.specs.declared.instruments.Candidate.{Candidate}
use Rattle.instrument_sets.specs.Vocabulary.{AreMinimalStrata, AreCandidates}
use Rattle.instruments_command.specs.Right.{is_some_set, have_strata, HasNoInstrument}

-- an empty listing of at least one set
none_listed : (P : (ℕ → Bool) → Type 0) (most : ℕ) (sets : List VSet) (more : Bool) → 1 ≤ most → IsListingOf P most sets more → is_some_set sets ≡ false
    → (z : ℕ → Bool) → P z → ⊥
none_listed P most [] true some l e z h = let full : 0 ≡ most = l.full refl in absurd (omega (arith, full, some))
none_listed P most [] false some l e z h = let found = l.all refl z h in absurd (omega (arith, found.2))
none_listed P most (s ∷ sets) more some l e z h = absurd (false≢true (sym e))

-- the first of a listing that isn't empty
first_listed : (P : (ℕ → Bool) → Type 0) (most : ℕ) (sets : List VSet) (more : Bool) → IsListingOf P most sets more → is_some_set sets ≡ true
    → (z : ℕ → Bool) × P z
first_listed P most [] more l e = absurd (false≢true e)
first_listed P most (s ∷ sets) more l e = (_, All-head (λ (t : VSet). P (has t.bits)) s sets l.each)

module _ (g : MixedGraph) (x y : ℕ → Bool) (most : ℕ) where
  -- a vertex, and the strata in which it is an instrument
  abbrev IsListed : Candidate → Type 0
  IsListed c = IsListingOf (AreMinimalStrata g x y (λ v. v == c.vertex)) most c.strata.sets.items c.strata.more

  both_false : (a b : Bool) → (a || b) ≡ false → (a ≡ false) × (b ≡ false)
  both_false true b e = absurd (false≢true (sym e))
  both_false false b e = (refl, e)

  -- the listing of a vertex that is listed
  listed_none : (z : ℕ) (list : List Candidate) → 1 ≤ most → All IsListed list → have_strata list ≡ false
      → list_any (λ u. u == z) (map (λ c. c.vertex) list) ≡ true → (w : ℕ → Bool) → AreMinimalStrata g x y (λ v. v == z) w → ⊥
  listed_none z [] some all e found w h = absurd (false≢true found)
  listed_none z (c ∷ list) some all e found w h = let parts = both_false (is_some_set c.strata.sets.items) (have_strata list) e in
      elim (cases_eq c.vertex z) [
        | inl here ↦ none_listed (AreMinimalStrata g x y (λ v. v == c.vertex)) most c.strata.sets.items c.strata.more some
            (All-head IsListed c list all) parts.0 w (subst (λ (u : ℕ). AreMinimalStrata g x y (λ v. v == u) w) (sym here) h)
        | inr other ↦ listed_none z list some (All-tail IsListed c list all) parts.1
            (sym (ap (λ (b : Bool). b || list_any (λ u. u == z) (map (λ c. c.vertex) list)) (ne_eqb c.vertex z other)) ∙ found) w h
      ]

  pub no_strata_no_instrument : g.vertices ≤ 64 → (list : List Candidate) → 1 ≤ most → AreCandidates g x y most list → have_strata list ≡ false
      → HasNoInstrument g x y
  no_strata_no_instrument few list some are none z = none_at_all (IsInstrument g x y (λ v. v == z)) g.vertices (λ w h. h.sets.w_within)
      (λ w h least. listed_none z list some are.strata none
      (subst (λ (vs : List ℕ). list_any (λ u. u == z) vs ≡ true) (sym are.vertices)
      (member-some (λ v. (nat_lt v g.vertices && not (x v)) && not (y v)) (λ u. u == z) 64 z
      (let in_g = within w h in omega (arith, in_g, few)) (outside w h) (eq-eqb z z refl))) w (record { instrument = h; minimal = least }))
    where
      within : (w : ℕ → Bool) → IsInstrument g x y (λ v. v == z) w → z < g.vertices
      within w h = h.sets.z_within z (eq-eqb z z refl)

      free : (s : ℕ → Bool) → ((v : ℕ) → s v ≡ true → (v == z) ≡ false) → not (s z) ≡ true
      free s apart = by_case (s z) refl
        where
          by_case : (b : Bool) → s z ≡ b → not b ≡ true
          by_case true e = absurd (false≢true (sym (apart z e) ∙ eq-eqb z z refl))
          by_case false e = refl

      outside : (w : ℕ → Bool) → IsInstrument g x y (λ v. v == z) w → ((nat_lt z g.vertices && not (x z)) && not (y z)) ≡ true
      outside w h = and_from (nat_lt z g.vertices && not (x z)) (not (y z))
          (and_from (nat_lt z g.vertices) (not (x z)) (lt-ltb z g.vertices (within w h)) (free x h.sets.x_z)) (free y h.sets.y_z)

  -- a set of strata shows an instrument
  pub strata_show : (list : List Candidate) → All IsListed list → have_strata list ≡ true → HasNoInstrument g x y → ⊥
  strata_show [] all e none = absurd (false≢true e)
  strata_show (c ∷ list) all e none = elim (cases_Bool (is_some_set c.strata.sets.items)) [
    | inl some ↦
        let found = first_listed (AreMinimalStrata g x y (λ v. v == c.vertex)) most c.strata.sets.items c.strata.more (All-head IsListed c list all) some in
        none c.vertex found.0 found.1.instrument
    | inr out ↦ strata_show list (All-tail IsListed c list all) (sym (ap (λ (b : Bool). b || have_strata list) out) ∙ e) none
  ]
