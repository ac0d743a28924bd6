-- From a treatment that is confounded with a child of its own to a path whose visits are read.
use Rattle.std.proofs.Common.{ℕ, zero, suc, ◌≡◌, ◌<◌, ◌⊎◌, inl, inr, Bool, true, false, eqb, ◌||◌, ◌==◌, List, [], ◌∷◌, refl, sym, ap, ◌∙◌, subst, arith}
use Rattle.std.proofs.Common.{eqb-true}
use Rattle.std.proofs.lemmas.Bool.{or_cases, or_left}
use Rattle.mixed_graph.specs.Vocabulary.{has, MixedGraph, IsMixedGraph, IsDirectedPath, union}
use Rattle.mixed_graph.proofs.MaskLaws.{has_join}
use Rattle.finite_models.proofs.Bools.{not_both}
use Rattle.hedge.specs.Vocabulary.{IsLinked, at, by}
use Rattle.treated_id.specs.Vocabulary.{IsTreatedTarget, IsConfounded, IsAfter, AreBefore}
use Rattle.treated_paths.proofs.Event.{IsRead, IsReadPath}
use Rattle.treated_paths.proofs.Fits.{unequal}
use Rattle.treated_paths.proofs.Reading.{Carries}
use Rattle.treated_paths.proofs.Reading.Carries.{here, further}

-- bidirected edges lead inside s from v to p, and come to p at their end alone
pub record Way (g : MixedGraph) (s : ℕ → Bool) (p v : ℕ) : Type 0 where
  pub last : ℕ
  pub visit : ℕ → ℕ
  pub starts : visit 0 ≡ v
  pub ends : visit (suc last) ≡ p
  pub edge : (i : ℕ) → i < suc last → g.both (visit i) (visit (suc i)) ≡ true
  pub off : (i : ℕ) → i < suc last → visit i ≡ p → ⊥
  pub inside : (i : ℕ) → i < suc last → s (visit i) ≡ true

-- v, and then the visits of w
abbrev before_all : ℕ → (ℕ → ℕ) → ℕ → ℕ
before_all v w zero = v
before_all v w (suc i) = w i

module _ (g : MixedGraph) (s : ℕ → Bool) (p v : ℕ) (i : s v ≡ true) (ne : v ≡ p → ⊥) where
  one_edge : g.both v p ≡ true → Way g s p v
  one_edge joined = record {
    last = 0;
    visit = before_all v (λ j. p);
    starts = refl;
    ends = refl;
    edge = edge;
    off = off;
    inside = inside;
  }
    where
      edge : (j : ℕ) → j < 1 → g.both (before_all v (λ k. p) j) p ≡ true
      edge zero lt = joined
      edge (suc j) lt = absurd (omega (arith, lt))

      off : (j : ℕ) → j < 1 → before_all v (λ k. p) j ≡ p → ⊥
      off zero lt = ne
      off (suc j) lt = absurd (omega (arith, lt))

      inside : (j : ℕ) → j < 1 → s (before_all v (λ k. p) j) ≡ true
      inside zero lt = i
      inside (suc j) lt = absurd (omega (arith, lt))

  more_edges : (u : ℕ) → g.both v u ≡ true → Way g s p u → Way g s p v
  more_edges u joined r = record {
    last = suc r.last;
    visit = before_all v r.visit;
    starts = refl;
    ends = r.ends;
    edge = edge;
    off = off;
    inside = inside;
  }
    where
      edge : (j : ℕ) → j < suc (suc r.last) → g.both (before_all v r.visit j) (r.visit j) ≡ true
      edge zero lt = ap (g.both v) r.starts ∙ joined
      edge (suc j) lt = r.edge j (omega (arith, lt))

      off : (j : ℕ) → j < suc (suc r.last) → before_all v r.visit j ≡ p → ⊥
      off zero lt = ne
      off (suc j) lt = r.off j (omega (arith, lt))

      inside : (j : ℕ) → j < suc (suc r.last) → s (before_all v r.visit j) ≡ true
      inside zero lt = i
      inside (suc j) lt = r.inside j (omega (arith, lt))

pub way : (g : MixedGraph) (s : ℕ → Bool) (p v : ℕ) → IsLinked g s (λ u. u == p) v → (v ≡ p → ⊥) → Way g s p v
way g s p v (at e) ne = absurd (ne (eqb-true v p e))
way g s p v (by {v = u} i edge rest) ne = go (eqb u p) refl (way g s p u rest)
  where
    go : (b : Bool) → eqb u p ≡ b → ((u ≡ p → ⊥) → Way g s p u) → Way g s p v
    go true e h = one_edge g s p v i ne (ap (g.both v) (sym (eqb-true u p e)) ∙ edge)
    go false e h = more_edges g s p v i ne u edge (h (unequal u p e))

module _ (g : MixedGraph) (ok : IsMixedGraph g) (x z : ℕ) (y : ℕ → Bool) (a : ℕ) where
  abbrev o : ℕ → Bool
  o v = has x v || has z v

  -- a directed path to what is read, up to its first member of x
  read_on : (v : ℕ) → Carries g (has x) a v → v < g.vertices → (path : List ℕ) (end : ℕ) → IsDirectedPath g v path end → (y end ≡ true) ⊎ (o end ≡ true)
      → IsRead g (has x) y o a
  read_on v c lt [] end leads read = record {
    at = v;
    low = lt;
    carries = c;
    read = subst (λ u. (y u ≡ true) ⊎ (o u ≡ true)) (sym leads) read;
  }
  read_on v c lt (q ∷ path) end leads read = go (has x v) refl (λ off. read_on q (further c leads.0 off) (ok.head_below v q leads.0) path end leads.1 read)
    where
      go : (b : Bool) → has x v ≡ b → (has x v ≡ false → IsRead g (has x) y o a) → IsRead g (has x) y o a
      go true e h = record { at = v; low = lt; carries = c; read = inr (or_left (has x v) (has z v) e) }
      go false e h = h e

  -- read under the intervention, since what comes after x isn't in x or z
  pub record Start : Type 0 where
    pub at : ℕ
    pub low : at < g.vertices
    pub carries : Carries g (has x) a at
    pub read : y at ≡ true

  -- what v leads to comes after x
  abbrev After : ℕ → Type 0
  After v = (path : List ℕ) (end : ℕ) → IsDirectedPath g v path end → IsAfter g x end

  module _ (before : AreBefore g x z) where
    not_observed : (v : ℕ) → After v → o v ≡ true → ⊥
    not_observed v after e = before v (has_join x z v ∙ e) (after [] v refl)

    start_on : (v : ℕ) → After v → Carries g (has x) a v → v < g.vertices → (path : List ℕ) (end : ℕ) → IsDirectedPath g v path end
        → (y end ≡ true) ⊎ (o end ≡ true) → Start
    start_on v after c lt [] end leads (inl i) = record { at = v; low = lt; carries = c; read = ap y leads ∙ i }
    start_on v after c lt [] end leads (inr i) = absurd (not_observed v after (ap o leads ∙ i))
    start_on v after c lt (q ∷ path) end leads read =
        go (has x v) refl
        (λ off. start_on q (λ rest u d. after (q ∷ rest) u (leads.0, d)) (further c leads.0 off) (ok.head_below v q leads.0) path end leads.1 read)
      where
        go : (b : Bool) → has x v ≡ b → (has x v ≡ false → Start) → Start
        go true e h = absurd (not_observed v after (or_left (has x v) (has z v) e))
        go false e h = h e

module _ (g : MixedGraph) (ok : IsMixedGraph g) (x y z : ℕ) (target : IsTreatedTarget g x y z) (c : IsConfounded g x y z) where
  child_off : c.child ≡ c.treatment → ⊥
  child_off e = ok.acyclic c.treatment c.child [] (c.arrow, e)

  pub found : Way g (has c.ancestors) c.treatment c.child
  found = way g (has c.ancestors) c.treatment c.child c.linked child_off

  -- an ancestor of y, x and z leads to one of them
  ends : (u : ℕ) → has (union (union x z) y) u ≡ true → (has y u ≡ true) ⊎ ((has x u || has z u) ≡ true)
  ends u e = go (or_cases (has (union x z) u) (has y u) (sym (has_join (union x z) y u) ∙ e))
    where
      go : (has (union x z) u ≡ true) ⊎ (has y u ≡ true) → (has y u ≡ true) ⊎ ((has x u || has z u) ≡ true)
      go (inl i) = inr (sym (has_join x z u) ∙ i)
      go (inr i) = inl i

  module _ (w : Way g (has c.ancestors) c.treatment c.child) where
    arrow : g.arrow c.treatment (w.visit 0) ≡ true
    arrow = ap (g.arrow c.treatment) w.starts ∙ c.arrow

    rest : (i : ℕ) → i < suc w.last → IsRead g (has x) (has y) (λ v. has x v || has z v) (w.visit i)
    rest i lt =
        let k = c.are.sound (w.visit i) (w.inside i lt) in
        read_on g ok x z (has y) (w.visit i) (w.visit i) here k.vertex k.path k.end k.leads (ends k.end k.inside)

    start : Start g ok x z (has y) (w.visit 0)
    start =
        let k = c.are.sound (w.visit 0) (w.inside 0 (omega arith)) in
        start_on g ok x z (has y) (w.visit 0) target.before (w.visit 0)
        (λ path end leads. record { start = c.treatment; next = w.visit 0; path = path; inside = c.treated; leads = (arrow, leads) })
        here k.vertex k.path k.end k.leads (ends k.end k.inside)

    pub read_path : IsReadPath g (has x) (has y) (has z) w.last w.visit
    read_path = record {
      path = record {
        edge = w.edge;
        off = λ i lt e. w.off i lt (e ∙ w.ends);
        child = ap (λ v. g.arrow v (w.visit 0)) w.ends ∙ arrow;
      };
      treated = ap (has x) w.ends ∙ c.treated;
      off_x = λ v i. turned (has x v) (has y v) i (target.x_off_y v);
      off_z = λ v i. turned (has z v) (has y v) i (target.z_off_y v);
      start = start.at;
      start_low = start.low;
      start_carries = start.carries;
      start_read = start.read;
      rest = rest;
    }
      where
        turned : (p q : Bool) → q ≡ true → (p ≡ true → q ≡ false) → p ≡ false
        turned true q h k = absurd (not_both q h (k refl))
        turned false q h k = refl
