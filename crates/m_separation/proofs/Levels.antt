use Rattle.std.proofs.Common.{◌≡◌, ◌≢◌, ℕ, suc, ◌+◌, ◌<◌, ◌≤◌, Bool, true, false, ◌↔◌, List, [], ◌∷◌, length, set, inl, inr, sym, ap, IsTrue, subst, arith}
use Rattle.std.proofs.lemmas.Bool.{cases_lt}
use Rattle.std.proofs.lemmas.List.{get_or-set_same, get_or-set_other}
use Rattle.mixed_graph.specs.Vocabulary.{has, MixedGraph}
use Rattle.m_separation.specs.declared.states.States.{States}
use Rattle.m_separation.specs.Walks.{Step, IsWalk, last, heads_second, ArePassedFrom, IsOpenWalk}
use Rattle.m_separation.specs.States.{IsLed, mask_of, level, AreLevels}
use Rattle.m_separation.proofs.Going.{passed_from_start, goes_first}

pub level-set_other : (levels : List States) (j i : ℕ) (s : States) → i ≢ j → level (set levels j s) i ≡ level levels i
level-set_other levels j i s d = ap (λ t. mask_of t) (get_or-set_other levels j i s _ d)

pub level-set_same : (levels : List States) (j : ℕ) (s : States) → j < length levels → level (set levels j s) j ≡ mask_of s
level-set_same levels j s below = ap (λ t. mask_of t) (get_or-set_same levels j s _ below)

module _ (g : MixedGraph) (x w : ℕ → Bool) (levels : List States) (count : ℕ) (are : AreLevels g x w levels count) where
  -- an open walk on from a state of a level ends in one of the level as many steps later
  held_in_level : (i : ℕ) (h : Bool) (v : ℕ) (r : List Step) → i + length r ≤ count → IsTrue (has (level levels i h) v) → IsWalk g v r
      → ArePassedFrom g w h v r →
      (k : Bool) × IsTrue (has (level levels (i + length r) k) (last v r))
  held_in_level i h v [] room in' walk passed = (h, subst (λ j. IsTrue (has (level levels j h) v)) (let e : i ≡ i + 0 = omega arith in e) in')
  held_in_level i h v (s ∷ r) room in' walk passed =
      let step = (are.leads i (omega arith) (heads_second s.mark) s.to).1
      (record { head = h; vertex = v; member = in'; goes = goes_first g w h v s r walk passed }) in
      let rest = held_in_level (i + 1) (heads_second s.mark) s.to r (omega arith) step walk.1 passed.1 in
      let e : i + 1 + length r ≡ i + suc (length r) = omega arith in
      (rest.0, subst (λ j. IsTrue (has (level levels j rest.0) (last s.to r))) e rest.1)

  -- where an open walk ends is in the level of its number of steps
  pub walk_in_level : (y : ℕ → Bool) (v : ℕ) (r : List Step) → IsOpenWalk g x y w v r → length r ≤ count → (k : Bool)
      × IsTrue (has (level levels (length r) k) (last v r))
  walk_in_level y v r o room =
      let p = held_in_level 0 false v r (omega arith) ((are.begins v).1 (o.begins, o.first_outside)) o.walk
      (passed_from_start g w v r o.first_outside o.passed) in
      let e : 0 + length r ≡ length r = omega arith in
      (p.0, subst (λ j. IsTrue (has (level levels j p.0) (last v r))) e p.1)

  -- one more level
  pub levels_more : (front : States) → count + 1 < length levels → ((k : Bool) (u : ℕ) → IsTrue (has (mask_of front k) u)
      ↔ IsLed g w (level levels count) u k) →
      AreLevels g x w (set levels (count + 1) front) (count + 1)
  levels_more front room front_is = record {
    none = λ v. subst (λ l. has (l true) v ≡ false) (sym zeroth) (are.none v);
    begins = λ v. subst (λ l. IsTrue (has (l false) v) ↔ (IsTrue (x v) × (w v ≡ false))) (sym zeroth) (are.begins v);
    leads = λ i below k u. elim (cases_lt i count) [
      | inl lt ↦ subst (λ l. IsTrue (has (l k) u) ↔ IsLed g w (level (set levels (count + 1) front) i) u k)
          (sym (level-set_other levels (count + 1) (i + 1) front (omega arith)))
          (subst (λ l. IsTrue (has (level levels (i + 1) k) u) ↔ IsLed g w l u k) (sym (level-set_other levels (count + 1) i front (omega arith)))
          (are.leads i lt k u))
      | inr ge ↦
          let e : count ≡ i = omega arith in
          subst (λ j. IsTrue (has (level (set levels (count + 1) front) (j + 1) k) u) ↔ IsLed g w (level (set levels (count + 1) front) j) u k) e
          (subst (λ l. IsTrue (has (l k) u) ↔ IsLed g w (level (set levels (count + 1) front) count) u k) (sym (level-set_same levels (count + 1) front room))
          (subst (λ l. IsTrue (has (mask_of front k) u) ↔ IsLed g w l u k) (sym (level-set_other levels (count + 1) count front (omega arith))) (front_is k u)))
    ];
  }
    where
      zeroth : level (set levels (count + 1) front) 0 ≡ level levels 0
      zeroth = level-set_other levels (count + 1) 0 front (omega arith)
