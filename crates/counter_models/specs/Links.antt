-- Lists of links, each of which joins an entry to a partner.
use Rattle.std.specs.Prelude.{ℕ, suc, ◌≡◌, ◌≢◌, ◌<◌, Bool, true, false, if◌then◌else◌, ◌==◌, ◌&&◌, ◌||◌, List, [], ◌∷◌}
use Rattle.mixed_graph.specs.Vocabulary.{MixedGraph}
use Rattle.finite_models.specs.Vocabulary.{differ}

-- a link joins an entry to a partner that was found before it
pub record Link : Type 0 where
  pub entry : ℕ
  pub partner : ℕ

-- the parity of the bits x of the links with the end v; the first link has the number k
abbrev pub at_vertex : ℕ → List Link → (ℕ → Bool) → ℕ → Bool
at_vertex k [] x v = false
at_vertex k (p ∷ r) x v = differ (differ (v == p.entry) (v == p.partner) && x k) (at_vertex (suc k) r x v)

-- v is an end of the link with the number j
abbrev pub is_end : ℕ → List Link → ℕ → ℕ → Bool
is_end k [] j v = false
is_end k (p ∷ r) j v = if j == k then (v == p.entry || v == p.partner) else is_end (suc k) r j v

-- v is an entry
abbrev pub is_entry : List Link → ℕ → Bool
is_entry [] v = false
is_entry (p ∷ r) v = v == p.entry || is_entry r v

-- v is no entry
abbrev pub IsNoEntry : List Link → ℕ → Type 0
IsNoEntry [] v = Unit {0}
IsNoEntry (p ∷ r) v = (v ≢ p.entry) × IsNoEntry r v

-- the two ends of each link differ
abbrev pub EndsDiffer : List Link → Type 0
EndsDiffer [] = Unit {0}
EndsDiffer (p ∷ r) = (p.entry ≢ p.partner) × EndsDiffer r

-- no partner is a later entry
abbrev pub AreOrdered : List Link → Type 0
AreOrdered [] = Unit {0}
AreOrdered (p ∷ r) = IsNoEntry r p.partner × AreOrdered r

-- the ends of each link are below n
abbrev pub AreBelow : ℕ → List Link → Type 0
AreBelow n [] = Unit {0}
AreBelow n (p ∷ r) = (p.entry < n) × (p.partner < n) × AreBelow n r

-- both ends of each link are in G
abbrev pub AreInside : (ℕ → Bool) → List Link → Type 0
AreInside G [] = Unit {0}
AreInside G (p ∷ r) = (G p.entry ≡ true) × (G p.partner ≡ true) × AreInside G r

-- the partner of each link is in S or an earlier entry
abbrev pub AreRooted : (ℕ → Bool) → List Link → Type 0
AreRooted S [] = Unit {0}
AreRooted S (p ∷ r) = (S p.partner ≡ true) × AreRooted (λ v. S v || v == p.entry) r

-- each link joins two ends of a bidirected edge
abbrev pub LinksAreEdges : MixedGraph → List Link → Type 0
LinksAreEdges g [] = Unit {0}
LinksAreEdges g (p ∷ r) = (g.both p.entry p.partner ≡ true) × LinksAreEdges g r
