-- A treatment of one vertex with two levels.
use Rattle.std.proofs.Common.{set, ◌-◌, ◌++◌, ap₂, zero, ℕ, suc, ◌≡◌, ◌<◌, ◌≤◌, ◌^◌, Bool, true, false, cond, eqb, List, [], ◌∷◌, length, get_or, refl, sym, ap, subst, ◌∙◌, arith}
use mathlib.Core.Path.{fun_ext}
use Rattle.std.proofs.lemmas.Bool.{eqb-false, eqb-true, eq-eqb, ne_eqb, false≢true}
use Rattle.mixed_graph.specs.Vocabulary.{has, members_below}
use Rattle.mixed_graph.proofs.Masks.{below_64, has-zero}
use Rattle.count_rows.specs.Vocabulary.{Table}
use Rattle.count_table.specs.Vocabulary.{levels_in}
use Rattle.count_eval.specs.Vocabulary.{weights_in, cell_of}
use Rattle.count_eval.proofs.CellSteps.{cell_of-set}
use Rattle.crossed_bounds.specs.Vocabulary.{IsTwoValued, other}
use Rattle.bound_values.specs.Questions.{is_two_valued}
use Rattle.table_cells.proofs.Tables.{member_stands}

-- a list of one
one_item : (vs : List ℕ) → length vs ≡ 1 → vs ≡ get_or vs 0 0 ∷ []
one_item [] e = absurd (omega (arith, e))
one_item (v ∷ []) e = refl
one_item (u ∷ v ∷ vs) e = absurd (omega (arith, e))

-- the only member of a set
only : (s : ℕ → Bool) (v : ℕ) → length (members_below s 64) ≡ 1 → v < 64 → s v ≡ true → get_or (members_below s 64) 0 0 ≡ v
only s v one lt is =
    let m = member_stands s 64 v lt is in
    subst (λ k. get_or (members_below s 64) k 0 ≡ v) (let w = m.within in let z : m.place ≡ 0 = omega (arith, w, one) in z) m.there

pub two_valued_is : (t : Table) (s : ℕ → Bool) (v : ℕ) → length (members_below s 64) ≡ 1 → v < 64 → s v ≡ true
    → eqb (length (levels_in t.vertices t.levels v)) 2 ≡ is_two_valued t (members_below s 64)
two_valued_is t s v one lt is =
    sym (ap (is_two_valued t) (one_item (members_below s 64) one ∙ ap (λ k. k ∷ []) (only s v one lt is)))

pub has_two_values : (t : Table) (mask v : ℕ) → mask < 2 ^ 64 → length (members_below (has mask) 64) ≡ 1 → v < 64 → has mask v ≡ true
    → (n : ℕ) → eqb (length (levels_in t.vertices t.levels v)) 2 ≡ true → IsTwoValued (weights_in n t) (has mask)
has_two_values t mask v fits one lt is n two = record { vertex = v; one = λ u. at u (has mask u) refl; two = eqb-true _ 2 two }
  where
    at : (u : ℕ) (b : Bool) → has mask u ≡ b → b ≡ eqb u v
    at u true e = sym (eq-eqb u v (sym (only (has mask) u one (below_64 mask u fits e) e) ∙ only (has mask) v one lt is))
    at u false e = sym (ne_eqb u v (λ same. false≢true (sym e ∙ ap (has mask) same ∙ is)))

-- a mask with a member isn't 0
no_members : (s : ℕ → Bool) → ((v : ℕ) → s v ≡ false) → (k : ℕ) → members_below s k ≡ []
unfolding members_below
no_members s none zero = refl
no_members s none (suc k) = ap₂ (λ (us vs : List ℕ). us ++ vs) (no_members s none k) (ap (λ b. cond b (k ∷ []) []) (none k))

pub some_mask : (mask : ℕ) → length (members_below (has mask) 64) ≡ 1 → 0 < mask
some_mask mask one =
    let d : mask ≡ 0 → ⊥ = λ e. absurd (let z = ap (λ (vs : List ℕ). length vs) (no_members (has mask) (λ v. ap (λ m. has m v) e ∙ has-zero v) 64) in
    omega (arith, z, one)) in omega arith

pub member_mask : (mask v : ℕ) → has mask v ≡ true → 0 < mask
member_mask mask v is = let d : mask ≡ 0 → ⊥ = λ e. false≢true (sym (has-zero v) ∙ ap (λ m. has m v) (sym e) ∙ is) in omega arith

-- ---- the other value
module _ (n : ℕ) (t : Table) (x : ℕ → Bool) (b : IsTwoValued (weights_in n t) x) where
  pub some_vertex : (mask : ℕ) → ((v : ℕ) → has mask v ≡ x v) → 0 < mask
  some_vertex mask same = member_mask mask b.vertex (same b.vertex ∙ b.one b.vertex ∙ eq-eqb b.vertex b.vertex refl)

  pub is_vertex : (v : ℕ) → x v ≡ true → v ≡ b.vertex
  is_vertex v is = eqb-true v b.vertex (sym (b.one v) ∙ is)

  -- the vertex has two levels
  pub value_small : (cell : List ℕ) (v : ℕ) → x v ≡ true → get_or cell v 0 < length (levels_in t.vertices t.levels v) → get_or cell v 0 ≤ 1
  value_small cell v is lt =
      let two : length (levels_in t.vertices t.levels v) ≡ 2 = ap (λ k. length (levels_in t.vertices t.levels k)) (is_vertex v is) ∙ b.two in
      omega (arith, two, lt)

  pub turned_small : (k v : ℕ) → x v ≡ true → 1 - k < length (levels_in t.vertices t.levels v)
  turned_small k v is =
      let two : length (levels_in t.vertices t.levels v) ≡ 2 = ap (λ k. length (levels_in t.vertices t.levels k)) (is_vertex v is) ∙ b.two in
      omega (arith, two)

  pub turned_cell : (cell : List ℕ) (v : ℕ) → x v ≡ true → v < length cell → cell_of (set cell v (1 - get_or cell v 0)) ≡ other x (cell_of cell)
  turned_cell cell v is low = cell_of-set cell v (1 - get_or cell v 0) low ∙ fun_ext (λ u. go u (eqb u v) refl)
    where
      go : (u : ℕ) (c : Bool) → eqb u v ≡ c → cond c (1 - get_or cell v 0) (get_or cell u 0) ≡ cond (x u) (1 - get_or cell u 0) (get_or cell u 0)
      go u true e =
          let same : u ≡ v = eqb-true u v e in
          ap (λ k. 1 - get_or cell k 0) (sym same) ∙ sym (ap (λ k. cond k (1 - get_or cell u 0) (get_or cell u 0)) (ap x same ∙ is))
      go u false e = sym (ap (λ k. cond k (1 - get_or cell u 0) (get_or cell u 0))
          (b.one u ∙ ne_eqb u b.vertex (λ at. eqb-false u v e (at ∙ sym (is_vertex v is)))))
