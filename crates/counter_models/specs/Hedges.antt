-- The data of a hedge from which two models are made, and what it keeps (Shpitser and Pearl; Tian and Pearl).
use Rattle.std.specs.Prelude.{ℕ, ◌+◌, ◌-◌, ◌≡◌, ◌≢◌, ◌<◌, ◌≤◌, Bool, true, false, ◌==◌, not, ◌&&◌, List, [], ◌∷◌, length}
use Rattle.mixed_graph.specs.Vocabulary.{MixedGraph}
use Rattle.finite_models.specs.Vocabulary.{differ, odd_below}
use Rattle.counter_models.specs.Links.{Link, is_entry, EndsDiffer, AreOrdered, AreBelow, AreInside, AreRooted, LinksAreEdges}

-- The sets big, small and roots of a hedge with the child that each member of big outside the roots chooses;
-- `kept` are the vertices that carry the roots' bits to the target, each outside the target to the kept child `carry`;
-- the links inside small, the links of the other members of big, and the number of causes: the links in these orders first, then a cause of each
-- member of small and of each kept vertex.
pub record ParityHedge : Type 0 where
  pub big : ℕ → Bool
  pub small : ℕ → Bool
  pub roots : ℕ → Bool
  pub kept : ℕ → Bool
  pub target : ℕ → Bool
  pub choice : ℕ → ℕ
  pub carry : ℕ → ℕ
  pub inner : List Link
  pub outer : List Link
  pub small_cause : ℕ → ℕ
  pub kept_cause : ℕ → ℕ
  pub causes : ℕ

-- how many causes are links
abbrev pub links_of : ParityHedge → ℕ
links_of d = length d.inner + length d.outer

-- how many are not
abbrev pub noise_of : ParityHedge → ℕ
noise_of d = d.causes - links_of d

-- u is in big outside small
abbrev pub outsider : ParityHedge → ℕ → Bool
outsider d u = d.big u && not (d.small u)

-- whether cause j is the cause of an odd number of members of small and kept vertices
abbrev pub privates : ℕ → ParityHedge → ℕ → Bool
privates n d j = differ (odd_below n (λ v. d.small v && j == d.small_cause v)) (odd_below n (λ v. d.kept v && j == d.kept_cause v))

-- each link: the entry is in big outside small, the partner in big
abbrev pub AreOuter : ParityHedge → List Link → Type 0
AreOuter d [] = Unit {0}
AreOuter d (p ∷ r) = (outsider d p.entry ≡ true) × (d.big p.partner ≡ true) × AreOuter d r

-- the sets, choices, links and causes are those of a hedge for an intervention on x
pub record IsParityHedge (g : MixedGraph) (x : ℕ → Bool) (d : ParityHedge) : Type 0 where
  pub big_low : (v : ℕ) → d.big v ≡ true → v < g.vertices
  pub small_big : (v : ℕ) → d.small v ≡ true → d.big v ≡ true
  pub roots_small : (v : ℕ) → d.roots v ≡ true → d.small v ≡ true
  pub small_outside : (v : ℕ) → d.small v ≡ true → x v ≡ false
  pub kept_low : (v : ℕ) → d.kept v ≡ true → v < g.vertices
  pub kept_outside : (v : ℕ) → d.kept v ≡ true → x v ≡ false
  pub roots_kept : (v : ℕ) → d.roots v ≡ true → d.kept v ≡ true
  -- choices lead to children in big, and in small from small
  pub choice_arrow : (v : ℕ) → d.big v ≡ true → d.roots v ≡ false → g.arrow v (d.choice v) ≡ true
  pub choice_big : (v : ℕ) → d.big v ≡ true → d.roots v ≡ false → d.big (d.choice v) ≡ true
  pub choice_small : (v : ℕ) → d.small v ≡ true → d.roots v ≡ false → d.small (d.choice v) ≡ true
  pub carry_arrow : (v : ℕ) → d.kept v ≡ true → d.target v ≡ false → g.arrow v (d.carry v) ≡ true
  pub carry_kept : (v : ℕ) → d.kept v ≡ true → d.target v ≡ false → d.kept (d.carry v) ≡ true
  pub inner_inside : AreInside d.small d.inner
  pub inner_low : AreBelow g.vertices d.inner
  pub outer_low : AreBelow g.vertices d.outer
  pub outer_rooted : AreRooted d.small d.outer
  -- the causes of vertices come after the links
  pub own_low : (v : ℕ) → d.small v ≡ true → d.small_cause v < d.causes
  pub top_low : (v : ℕ) → d.kept v ≡ true → d.kept_cause v < d.causes
  pub own_high : (v : ℕ) → d.small v ≡ true → length d.inner + length d.outer ≤ d.small_cause v
  pub top_high : (v : ℕ) → d.kept v ≡ true → length d.inner + length d.outer ≤ d.kept_cause v
  pub links_low : length d.inner + length d.outer ≤ d.causes
  -- a member of big is in x, an entry of an outer link
  pub cut : ℕ
  pub cut_x : x cut ≡ true
  pub cut_listed : is_entry d.outer cut ≡ true

-- the inner links with the first vertex are a tree on small
pub record IsTree (n : ℕ) (d : ParityHedge) : Type 0 where
  pub first : ℕ
  pub first_low : first < n
  pub apart : EndsDiffer d.inner
  pub ordered : AreOrdered d.inner
  pub all : (v : ℕ) → d.small v ≡ true → v ≢ first → is_entry d.inner v ≡ true
  pub outer : AreOuter d d.outer

-- each cause that is no link is the cause of one vertex, and the outer links list the rest of big
pub record IsNumbered (d : ParityHedge) : Type 0 where
  pub holder : ℕ → ℕ
  pub is_own : ℕ → Bool
  pub own_holder : (v : ℕ) → d.small v ≡ true → holder (d.small_cause v) ≡ v
  pub top_holder : (v : ℕ) → d.kept v ≡ true → holder (d.kept_cause v) ≡ v
  pub own_is : (v : ℕ) → d.small v ≡ true → is_own (d.small_cause v) ≡ true
  pub top_is : (v : ℕ) → d.kept v ≡ true → is_own (d.kept_cause v) ≡ false
  pub apart : EndsDiffer d.outer
  pub ordered : AreOrdered d.outer
  pub listed : (v : ℕ) → outsider d v ≡ true → is_entry d.outer v ≡ true

-- all that the two models need
pub record IsWholeHedge (g : MixedGraph) (x : ℕ → Bool) (d : ParityHedge) : Type 0 where
  pub hedge : IsParityHedge g x d
  pub tree : IsTree g.vertices d
  pub numbered : IsNumbered d
  -- no cause that is no link is without a vertex
  pub once : (j : ℕ) → links_of d ≤ j → j < d.causes → privates g.vertices d j ≡ true
  pub inner_joined : LinksAreEdges g d.inner
  pub outer_joined : LinksAreEdges g d.outer
  pub target_outside : (v : ℕ) → d.target v ≡ true → x v ≡ false
