use Rattle.std.proofs.Common.{◌≡◌, ℕ, ◌+◌, ◌-◌, ◌<◌, ◌≤◌, Bool, true, false, not, ◌&&◌, ◌↔◌, List, length, length-set, get_or, set, replicate, inl}
use Rattle.std.proofs.Common.{inr, sym, ap, ◌∙◌, IsTrue, subst, arith}
use Rattle.std.proofs.lemmas.Bool.{cases_lt, and_parts, and_from, not_from_false, not-true}
use Rattle.std.proofs.lemmas.List.{get_or-replicate, length-replicate}
use Rattle.mixed_graph.specs.Vocabulary.{has, MixedGraph, IsMixedGraph}
use Rattle.m_separation.specs.declared.marks.Mark.{Mark}
use Rattle.m_separation.specs.declared.states.States.{States}
use Rattle.m_separation.specs.Walks.{Step, last, IsOpenWalk, HasOpenWalk, IsPath}
use Rattle.m_separation.specs.Paths.{IsOpenPath, steps_from}
use Rattle.m_separation.specs.States.{IsLed, mask_of, level, AreLevels}
use Rattle.m_separation.proofs.Levels.{walk_in_level, levels_more, level-set_other}
use Rattle.m_separation.proofs.OpenPaths.{repeats_or_path, shorter, open_path_from, path_short}
use Rattle.m_separation.proofs.Traces.{length-steps_from}

-- the levels up to `count` are there, and none before it has a vertex in `ends`
pub record Near (g : MixedGraph) (x w ends : ℕ → Bool) (levels : List States) (count : ℕ) : Type 0 where
  pub sized : length levels ≡ 64
  pub room : count < 64
  pub are : AreLevels g x w levels count
  pub none : (j : ℕ) → j < count → (h : Bool) (v : ℕ) → IsTrue (has (level levels j h) v) → ends v ≡ false

pub level-replicate : (s : States) → level (replicate 64 s) 0 ≡ mask_of s
level-replicate s = ap (λ t. mask_of t) (get_or-replicate 64 0 s (record { tails = record { bits = 0 }; heads = record { bits = 0 } }) (omega arith))

pub near_none : (g : MixedGraph) (x w ends : ℕ → Bool) (start : States) → ((v : ℕ) → has (mask_of start false) v ≡ (x v && not (w v))) →
    ((v : ℕ) → has (mask_of start true) v ≡ false) → Near g x w ends (replicate 64 start) 0
near_none g x w ends start tails heads = record {
  sized = length-replicate {A = States} 64 start;
  room = omega arith;
  are = record {
    none = λ v. subst (λ l. has (l true) v ≡ false) (sym (level-replicate start)) (heads v);
    begins = λ v. subst (λ l. IsTrue (has (l false) v) ↔ (IsTrue (x v) × (w v ≡ false))) (sym (level-replicate start)) (
      λ i. (let p = and_parts (x v) (not (w v)) (sym (tails v) ∙ i) in (p.0, not-true (w v) p.1)),
      λ p. tails v ∙ and_from _ _ p.0 (not_from_false (w v) p.1),
    );
    leads = λ i below. absurd (omega arith);
  };
  none = λ j below. absurd (omega arith);
}

module _ (g : MixedGraph) (valid : IsMixedGraph g) (x y w ends : ℕ → Bool) (ends_are : (v : ℕ) → ends v ≡ (y v && not (w v)))
    (levels : List States) (count : ℕ) (near : Near g x w ends levels count) where
  end_of_walk : (v : ℕ) (r : List Step) → IsOpenWalk g x y w v r → IsTrue (ends (last v r))
  end_of_walk v r o = ends_are (last v r) ∙ and_from _ _ o.ends (not_from_false _ o.last_outside)

  -- no open walk from x to y has fewer than `count` steps
  pub none_fewer : (v : ℕ) (r : List Step) → IsOpenWalk g x y w v r → length r < count → ⊥
  none_fewer v r o fewer =
      let there = walk_in_level g x w levels count near.are y v r o (omega arith) in
      let f = near.none (length r) fewer there.0 (last v r) there.1 in
      let t = end_of_walk v r o in cc

  -- since some open path has fewer than 64 steps, there is room for one more level
  pub room_more : (n : ℕ) → g.vertices ≡ n → n ≤ 64 → HasOpenWalk g x y w → ((h : Bool) (v : ℕ) → IsTrue (has (level levels count h) v) → ends v ≡ false)
      → count + 1 < 64
  room_more n size small o none =
      let p = open_path_from g valid x y w o.0 o.1 o.2 in
      let short = path_short g valid o.0 p.0 p.1.vertex p.1.walk p.2 in
      elim (cases_lt count (length p.0)) [
        | inl lt ↦ omega (arith, lt, short, size, small)
        | inr ge ↦ elim (cases_lt (length p.0) count) [
          | inl fewer ↦ absurd (none_fewer o.0 p.0 p.1 fewer)
          | inr as_many ↦ absurd (
              let there = walk_in_level g x w levels count near.are y o.0 p.0 p.1 ge in
              let e : length p.0 ≡ count = omega (arith, ge, as_many) in
              let f = none there.0 (last o.0 p.0) (subst (λ j. IsTrue (has (level levels j there.0) (last o.0 p.0))) e there.1) in
              let t = end_of_walk o.0 p.0 p.1 in cc)
        ]
      ]

  -- an open walk of `count` steps is a path
  pub path_from_walk : (v : ℕ) (r : List Step) → IsOpenWalk g x y w v r → length r ≡ count → IsPath v r
  path_from_walk v r o many = elim (repeats_or_path v r) [
    | inl p ↦ absurd (let s = shorter g valid x y w v r o p in none_fewer v s.0 s.2 (let lt = s.1 in omega (arith, lt, many)))
    | inr path ↦ path
  ]

  pub open_path_of : (vertices : List ℕ) (marks : List Mark) (shown : ℕ) → shown ≡ count + 1
      → IsOpenWalk g x y w (get_or vertices 0 0) (steps_from vertices marks 0 count) →
      IsOpenPath g x y w vertices marks shown
  open_path_of vertices marks shown many o =
      let e : count ≡ shown - 1 = omega (arith, many) in
      let path = path_from_walk (get_or vertices 0 0) (steps_from vertices marks 0 count) o (length-steps_from vertices marks 0 count) in record {
        some = omega (arith, many);
        few = (let r = near.room in omega (arith, many, r));
        walk = subst (λ k. IsOpenWalk g x y w (get_or vertices 0 0) (steps_from vertices marks 0 k)) e o;
        path = subst (λ k. IsPath (get_or vertices 0 0) (steps_from vertices marks 0 k)) e path;
      }

  -- one more level, where the last one has no vertex in `ends`
  pub near_more : (front : States) → count + 1 < 64 → ((k : Bool) (u : ℕ) → IsTrue (has (mask_of front k) u) ↔ IsLed g w (level levels count) u k) →
      ((h : Bool) (v : ℕ) → IsTrue (has (level levels count h) v) → ends v ≡ false) → Near g x w ends (set levels (count + 1) front) (count + 1)
  near_more front room front_is none = record {
    sized = simp length-set near.sized;
    room = room;
    are = levels_more g x w levels count near.are front (let s = near.sized in omega (arith, s, room)) front_is;
    none = λ j below h v i.
        let old : IsTrue (has (level levels j h) v) = subst (λ l. IsTrue (has (l h) v)) (level-set_other levels (count + 1) j front (omega arith)) i in
        elim (cases_lt j count) [
          | inl lt ↦ near.none j lt h v old
          | inr ge ↦ let e : j ≡ count = omega arith in none h v (subst (λ k. IsTrue (has (level levels k h) v)) e old)
        ];
  }
