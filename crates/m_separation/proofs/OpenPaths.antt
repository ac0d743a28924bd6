use Rattle.std.proofs.Common.{◌≡◌, ℕ, zero, suc, ◌+◌, ◌<◌, ◌≤◌, Bool, false, ◌||◌, ◌==◌, List, [], ◌∷◌, ◌++◌, ◌⊎◌, inl, inr, length, length-append}
use Rattle.std.proofs.Common.{refl, sym, ap, subst, arith}
use Rattle.std.proofs.lemmas.Bool.{cases_eq, ne_eqb}
use Rattle.mixed_graph.specs.Vocabulary.{members_below, MixedGraph, IsMixedGraph}
use Rattle.mixed_graph.proofs.Members.{length-members-more, length-members-lt}
use Rattle.m_separation.specs.Walks.{Step, IsWalk, last, IsOpenWalk, Avoids, IsPath}
use Rattle.m_separation.proofs.Going.{joined_below}
use Rattle.m_separation.proofs.Splices.{IsOpenWalk-spliced}

-- where the walk comes to v
record Comes (v : ℕ) (steps : List Step) : Type 0 where
  first : Step
  way : List Step
  later : List Step
  splits : steps ≡ (first ∷ way) ++ later
  there : last first.to way ≡ v

comes_or_avoids : (v : ℕ) (steps : List Step) → Comes v steps ⊎ Avoids v steps
comes_or_avoids v [] = inr tt
comes_or_avoids v (s ∷ r) = elim (cases_eq s.to v) [
  | inl e ↦ inl (record { first = s; way = []; later = r; splits = refl; there = e })
  | inr d ↦ elim (comes_or_avoids v r) [
    | inl c ↦ inl (record { first = s; way = c.first ∷ c.way; later = c.later; splits = ap (λ l. s ∷ l) c.splits; there = c.there })
    | inr a ↦ inr (d, a)
  ]
]

-- a way from a vertex of the walk back to it
pub record Repeats (v : ℕ) (steps : List Step) : Type 0 where
  pub before : List Step
  pub first : Step
  pub way : List Step
  pub later : List Step
  pub splits : steps ≡ before ++ ((first ∷ way) ++ later)
  pub back : last v before ≡ last first.to way

pub repeats_or_path : (v : ℕ) (steps : List Step) → Repeats v steps ⊎ IsPath v steps
repeats_or_path v [] = inr tt
repeats_or_path v (s ∷ r) = elim (comes_or_avoids v (s ∷ r)) [
  | inl c ↦ inl (record { before = []; first = c.first; way = c.way; later = c.later; splits = c.splits; back = sym c.there })
  | inr avoids ↦ elim (repeats_or_path s.to r) [
    | inl p ↦ inl (record { before = s ∷ p.before; first = p.first; way = p.way; later = p.later; splits = ap (λ l. s ∷ l) p.splits; back = p.back })
    | inr path ↦ inr (avoids, path)
  ]
]

-- no vertex that the steps lead to is in the set
abbrev AllOutside : (ℕ → Bool) → List Step → Type 0
AllOutside seen [] = Unit {0}
AllOutside seen (s ∷ r) = (seen s.to ≡ false) × AllOutside seen r

outside_more : (seen : ℕ → Bool) (v : ℕ) (steps : List Step) → AllOutside seen steps → Avoids v steps → AllOutside (λ u. seen u || (u == v)) steps
outside_more seen v [] o a = tt
outside_more seen v (s ∷ r) o a = ((let p = o.0 in let q : (s.to == v) ≡ false = ne_eqb s.to v a.0 in grind arith), outside_more seen v r o.1 a.1)

none_outside : (steps : List Step) → AllOutside (λ _. false) steps
none_outside [] = tt
none_outside (s ∷ r) = (refl, none_outside r)

module _ (g : MixedGraph) (valid : IsMixedGraph g) where
  -- a path that keeps off a set has no more vertices than there are outside the set
  path_room : (seen : ℕ → Bool) (v : ℕ) (steps : List Step) → v < g.vertices → IsWalk g v steps → IsPath v steps →
      seen v ≡ false → AllOutside seen steps → length (members_below seen g.vertices) + length steps < g.vertices
  path_room seen v [] below walk path out all = omega (arith, length-members-lt seen g.vertices v below out)
  path_room seen v (s ∷ r) below walk path out all =
      let more = length-members-more seen (λ u. seen u || (u == v)) v g.vertices below out (λ u. refl) in
      let here : (seen s.to || (s.to == v)) ≡ false = (let p = all.0 in let q : (s.to == v) ≡ false = ne_eqb s.to v path.0.0 in grind arith) in
      let rest = path_room (λ u. seen u || (u == v)) s.to r (joined_below g valid v s.mark s.to walk.0) walk.1 path.1 here
      (outside_more seen v r all.1 path.0.1) in
      omega (arith, more, rest)

  -- a path has fewer steps than the graph has vertices
  pub path_short : (v : ℕ) (steps : List Step) → v < g.vertices → IsWalk g v steps → IsPath v steps → length steps < g.vertices
  path_short v steps below walk path = let r = path_room (λ _. false) v steps below walk path refl (none_outside steps) in omega (arith, r)

  -- an open walk without that way round
  abbrev Shorter : (x y w : ℕ → Bool) → ℕ → List Step → Type 0
  Shorter x y w v steps = (r : List Step) × (length r < length steps) × IsOpenWalk g x y w v r

  -- an open walk that repeats a vertex has a shorter one
  pub shorter : (x y w : ℕ → Bool) (v : ℕ) (steps : List Step) → IsOpenWalk g x y w v steps → Repeats v steps → Shorter x y w v steps
  shorter x y w v steps o p = (
    p.before ++ p.later,
    (let e = ap length p.splits in omega (
      arith,
      e,
      length-append p.before p.later,
      length-append p.before ((p.first ∷ p.way) ++ p.later),
      length-append (p.first ∷ p.way) p.later,
    )),
    IsOpenWalk-spliced g valid w x y v p.before p.first p.way p.later p.back (subst (λ l. IsOpenWalk g x y w v l) p.splits o),
  )

  open_path_within : (x y w : ℕ → Bool) (v : ℕ) (most : ℕ) (steps : List Step) → length steps ≤ most → IsOpenWalk g x y w v steps →
      (path : List Step) × IsOpenWalk g x y w v path × IsPath v path
  open_path_within x y w v zero [] h o = ([], o, tt)
  open_path_within x y w v zero (s ∷ r) h o = absurd (omega arith)
  open_path_within x y w v (suc most) steps h o = elim (repeats_or_path v steps) [
    | inl p ↦ let s = shorter x y w v steps o p in open_path_within x y w v most s.0 (let lt = s.1 in omega arith) s.2
    | inr path ↦ (steps, o, path)
  ]

  -- where there is an open walk, there is an open path from the same vertex
  pub open_path_from : (x y w : ℕ → Bool) (v : ℕ) (steps : List Step) → IsOpenWalk g x y w v steps →
      (path : List Step) × IsOpenWalk g x y w v path × IsPath v path
  open_path_from x y w v steps o = open_path_within x y w v (length steps) steps (omega arith) o
