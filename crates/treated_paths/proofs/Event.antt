-- In the second model no world without noise shows what a world without noise shows in the first.
use Rattle.std.proofs.Common.{ℕ, zero, suc, ◌+◌, ◌^◌, ◌≡◌, ◌<◌, ◌≤◌, ◌⊎◌, inl, inr, Bool, true, false, cond, eqb, ltb, ◌||◌, refl, sym}
use Rattle.std.proofs.Common.{ap, ◌∙◌, arith, le-ltb, eqb-true}
use Rattle.std.proofs.lemmas.Bool.{and_from, cond-false, cond-true, false_from_ne_true}
use Rattle.std.proofs.lemmas.Nat.{pow_pos, pow_below}
use Rattle.mixed_graph.specs.Vocabulary.{has, MixedGraph, IsMixedGraph}
use Rattle.mixed_graph.proofs.Masks.{has-pow}
use Rattle.finite_models.specs.Vocabulary.{FiniteModel, IsAssignment, solution, agree, intervene, mask_of, differ, all_below}
use Rattle.finite_models.proofs.Bools.{and_first, and_second, not_both}
use Rattle.finite_models.proofs.Following.{Follows, follows_of, follows_intervene, intervene_alike}
use Rattle.finite_models.proofs.Indicators.{all_below_each}
use Rattle.finite_models.proofs.Solutions.{IsRanked, solution_is, solution_within, agree_from, agree_gives}
use Rattle.finite_models.proofs.SumLaws.{eqb-refl}
use Rattle.treated_models.specs.Vocabulary.{is_both, joined}
use Rattle.treated_paths.proofs.Fits.{IsPath, path_fits}
use Rattle.treated_paths.proofs.Models.{coin_in, own, new_bit, path_model}
use Rattle.treated_paths.proofs.Reading.{Carries, shown}

-- the bit of a visit at a is read off a vertex of y under the intervention, or off one of o without it
pub record IsRead (g : MixedGraph) (x y o : ℕ → Bool) (a : ℕ) : Type 0 where
  pub at : ℕ
  pub low : at < g.vertices
  pub carries : Carries g x a at
  pub read : (y at ≡ true) ⊎ (o at ≡ true)

-- a path to a member of x, whose visits are read: the first of them under the intervention
pub record IsReadPath (g : MixedGraph) (x y z : ℕ → Bool) (k : ℕ) (w : ℕ → ℕ) : Type 0 where
  pub path : IsPath g k w
  pub treated : x (w (suc k)) ≡ true
  pub off_x : (v : ℕ) → y v ≡ true → x v ≡ false
  pub off_z : (v : ℕ) → y v ≡ true → z v ≡ false
  pub start : ℕ
  pub start_low : start < g.vertices
  pub start_carries : Carries g x (w 0) start
  pub start_read : y start ≡ true
  pub rest : (i : ℕ) → i < suc k → IsRead g x y (λ v. x v || z v) (w i)

module _ (g : MixedGraph) (ok : IsMixedGraph g) (x y z : ℕ → Bool) (k : ℕ) (w : ℕ → ℕ) (p : IsReadPath g x y z k w) (many : ℕ) (some : 1 ≤ many) where
  abbrev m : (first : Bool) → FiniteModel
  m first = path_model g x k w first many

  abbrev o : ℕ → Bool
  o v = x v || z v

  -- the world in which all causes are 0
  abbrev pub nothing : ℕ → ℕ
  nothing j = 0

  -- the treatment's own bit alone is set
  abbrev pub set : ℕ → ℕ
  set v = cond (eqb v (w (suc k))) (2 ^ suc k) 0

  -- what that world of the first model has without intervention
  abbrev pub seen : ℕ → ℕ
  seen = solution (m true) nothing

  -- the treatments as they are set, y as it is then, and z as observed
  abbrev pub at : ℕ → ℕ
  at v = cond (x v) (set v) (cond (z v) (seen v) (solution (intervene (m true) x set) nothing v))

  -- what is observed
  abbrev pub observed : ℕ → ℕ
  observed = joined x at seen

  abbrev plain : (first : Bool) (u : ℕ → ℕ) → ℕ → ℕ
  plain first u = solution (m first) u

  abbrev done : (first : Bool) (u : ℕ → ℕ) → ℕ → ℕ
  done first u = solution (intervene (m first) x at) u

  follows : (first : Bool) → Follows g (m first)
  follows first = follows_of g (m first) (path_fits g ok x k w p.path first many some)

  set_within : (v : ℕ) → set v < 2 ^ suc (suc k)
  set_within v = go (eqb v (w (suc k)))
    where
      go : (b : Bool) → cond b (2 ^ suc k) 0 < 2 ^ suc (suc k)
      go true = pow_below (suc k) (suc (suc k)) (omega arith)
      go false = pow_pos (suc (suc k))

  world : (first : Bool) (j : ℕ) → j < g.vertices + suc k → nothing j < (m first).values j
  world first j lt = go (ltb j g.vertices)
    where
      go : (b : Bool) → 0 < cond b (2 ^ suc (suc k) + 1) 2
      go true = omega arith
      go false = omega arith

  pub seen_within : IsAssignment g.vertices (λ v. 2 ^ suc (suc k)) seen
  seen_within = solution_within g (m true) (follows true) nothing (world true)

  pub at_within : IsAssignment g.vertices (λ v. 2 ^ suc (suc k)) at
  at_within v lt = go (x v) (z v)
    where
      go : (b c : Bool) → cond b (set v) (cond c (seen v) (solution (intervene (m true) x set) nothing v)) < 2 ^ suc (suc k)
      go true c = set_within v
      go false true = seen_within v lt
      go false false = solution_within g (intervene (m true) x set) (follows_intervene g (m true) x set (λ v lt. set_within v) (follows true)) nothing
          (world true) v lt

  -- ---- the first model shows the event in that world
  pub first_shows : is_both (m true) x y o at observed nothing ≡ true
  first_shows = and_from (agree g.vertices y (done true nothing) at) (agree g.vertices o seen observed)
      (agree_from g.vertices y (done true nothing) at
      (λ v lt i. ap (λ h. solution h nothing v) (intervene_alike (m true) x at set (λ q e. cond-true (x q) (set q)
      (cond (z q) (seen q) (solution (intervene (m true) x set) nothing q)) e))
      ∙ sym (rw (p.off_x v i, p.off_z v i) refl)))
      (agree_from g.vertices o seen observed (λ v lt i. go v (x v) (z v) i))
    where
      go : (v : ℕ) (b c : Bool) → (b || c) ≡ true
          → seen v ≡ cond b (seen v) (cond b (set v) (cond c (seen v) (solution (intervene (m true) x set) nothing v)))
      go v true c e = refl
      go v false true e = refl
      go v false false e = absurd (grind (arith, e))

  module _ (rank : ℕ → ℕ) (ranked : IsRanked g rank) where
    done_solves : (first : Bool) (u : ℕ → ℕ) (v : ℕ) → v < g.vertices → x v ≡ false
        → done first u v ≡ mask_of (new_bit g x k w first (done first u) u v) (suc (suc k))
    done_solves first u v lt e =
        solution_is g (intervene (m first) x at) rank ranked (follows_intervene g (m first) x at at_within (follows first)) u v lt
        ∙ cond-false (x v) (at v) (mask_of (new_bit g x k w first (done first u) u v) (suc (suc k))) e

    done_set : (first : Bool) (u : ℕ → ℕ) (v : ℕ) → v < g.vertices → x v ≡ true → done first u v ≡ set v
    done_set first u v lt e =
        solution_is g (intervene (m first) x at) rank ranked (follows_intervene g (m first) x at at_within (follows first)) u v lt
        ∙ cond-true (x v) (at v) (mask_of (new_bit g x k w first (done first u) u v) (suc (suc k))) e
        ∙ cond-true (x v) (set v) (cond (z v) (seen v) (solution (intervene (m true) x set) nothing v)) e

    read_done : (first : Bool) (u : ℕ → ℕ) → ((v : ℕ) → v < g.vertices → u v ≡ 0) → (i : ℕ) → i < suc k → (v : ℕ) → Carries g x (w i) v → v < g.vertices
        → x v ≡ false → has (done first u v) i ≡ own g x k w first (done first u) u i
    read_done first u calm i low v c lt e =
        shown g x k w first rank ranked x (λ q h. h) (done first u) u calm (done_solves first u) i low v c lt e

    read_plain : (first : Bool) (u : ℕ → ℕ) → ((v : ℕ) → v < g.vertices → u v ≡ 0) → (i : ℕ) → i < suc k → (v : ℕ) → Carries g x (w i) v → v < g.vertices
        → has (plain first u v) i ≡ own g x k w first (plain first u) u i
    read_plain first u calm i low v c lt =
        shown g x k w first rank ranked (λ q. false) (λ q h. absurd (grind (arith, h))) (plain first u) u calm
        (λ q ql h. solution_is g (m first) rank ranked (follows first) u q ql) i low v c lt refl

    -- ---- the second doesn't, without noise
    module _ (u : ℕ → ℕ) (calm : (v : ℕ) → v < g.vertices → u v ≡ 0) (both : is_both (m false) x y o at observed u ≡ true) where
      off : (v : ℕ) → y v ≡ true → x v ≡ false
      off = p.off_x

      done_same : (v : ℕ) → v < g.vertices → y v ≡ true → done false u v ≡ done true nothing v
      done_same v lt i =
          agree_gives g.vertices y (done false u) at (and_first (agree g.vertices y (done false u) at) (agree g.vertices o (plain false u) observed) both) v lt i
          ∙ sym (agree_gives g.vertices y (done true nothing) at
          (and_first (agree g.vertices y (done true nothing) at) (agree g.vertices o seen observed) first_shows) v lt i)

      plain_same : (v : ℕ) → v < g.vertices → o v ≡ true → plain false u v ≡ plain true nothing v
      plain_same v lt i =
          agree_gives g.vertices o (plain false u) observed
          (and_second (agree g.vertices y (done false u) at) (agree g.vertices o (plain false u) observed) both) v lt i
          ∙ sym (agree_gives g.vertices o seen observed
          (and_second (agree g.vertices y (done true nothing) at) (agree g.vertices o seen observed) first_shows) v lt i)

      no_noise : (v : ℕ) → v < g.vertices → nothing v ≡ 0
      no_noise v lt = refl

      end_low : w (suc k) < g.vertices
      end_low = ok.tail_below (w (suc k)) (w 0) p.path.child

      end_set : has (done true nothing (w (suc k))) (suc k) ≡ true
      end_set = ap (λ a. has a (suc k)) (done_set true nothing (w (suc k)) end_low p.treated
          ∙ cond-true (eqb (w (suc k)) (w (suc k))) (2 ^ suc k) 0 (eqb-refl (w (suc k))))
          ∙ has-pow (suc k) (suc k) ∙ eqb-refl (suc k)

      start_bit : coin_in g x k w false u 0 ≡ true
      start_bit =
          sym (read_done false u calm 0 (omega arith) p.start p.start_carries p.start_low (off p.start p.start_read))
          ∙ ap (λ a. has a 0) (done_same p.start p.start_low p.start_read)
          ∙ read_done true nothing no_noise 0 (omega arith) p.start p.start_carries p.start_low (off p.start p.start_read)
          ∙ ap (λ b. differ b false) end_set

      next_bit : (i : ℕ) → suc i < suc k → differ (coin_in g x k w false u i) (coin_in g x k w false u (suc i)) ≡ false
      next_bit i lt = let r = p.rest (suc i) lt in go r r.read
        where
          go : (r : IsRead g x y o (w (suc i))) → (y r.at ≡ true) ⊎ (o r.at ≡ true)
              → differ (coin_in g x k w false u i) (coin_in g x k w false u (suc i)) ≡ false
          go r (inl h) =
              sym (read_done false u calm (suc i) lt r.at r.carries r.low (off r.at h))
              ∙ ap (λ a. has a (suc i)) (done_same r.at r.low h)
              ∙ read_done true nothing no_noise (suc i) lt r.at r.carries r.low (off r.at h)
          go r (inr h) =
              sym (read_plain false u calm (suc i) lt r.at r.carries r.low)
              ∙ ap (λ a. has a (suc i)) (plain_same r.at r.low h)
              ∙ read_plain true nothing no_noise (suc i) lt r.at r.carries r.low

      all_bits : (i : ℕ) → i < suc k → coin_in g x k w false u i ≡ true
      all_bits zero lt = start_bit
      all_bits (suc i) lt = on (coin_in g x k w false u i) (coin_in g x k w false u (suc i)) (all_bits i (omega (arith, lt))) (next_bit i lt)
        where
          on : (a b : Bool) → a ≡ true → differ a b ≡ false → b ≡ true
          on true true e h = refl
          on true false e h = absurd (grind (arith, h))
          on false b e h = absurd (grind (arith, e))

      pub second_hides : ⊥
      second_hides = not_both (coin_in g x k w false u k) (all_bits k (omega arith)) (rw (le-ltb k k (omega arith)) refl)

    -- so it takes noise
    pub noise_needed : (u : ℕ → ℕ) → is_both (m false) x y o at observed u ≡ true → all_below g.vertices (λ v. eqb (u v) 0) ≡ false
    noise_needed u both = false_from_ne_true (all_below g.vertices (λ v. eqb (u v) 0))
        (λ e. second_hides u (λ v lt. eqb-true (u v) 0 (all_below_each g.vertices (λ v. eqb (u v) 0) e v lt)) both)
