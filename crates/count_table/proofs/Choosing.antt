-- The used vertices of a set, chosen one after the other.
use Rattle.std.proofs.Common.{ℕ, zero, suc, ◌+◌, ◌*◌, ◌^◌, ◌≡◌, ◌<◌, ◌≤◌, Bool, true, false, ◌&&◌, cond, List}
use Rattle.std.proofs.Common.{[], ◌∷◌, ◌++◌, length, length-append, get_or, map, All, refl, sym, ap, subst, ◌∙◌, inl, inr, arith}
use Rattle.std.specs.List.{filter}
use Rattle.std.proofs.lemmas.Bool.{cases_eq}
use Rattle.std.proofs.lemmas.List.{get_or-map, get_or_default, length-map, map-append, ext_get_or, get_or_append_left}
use Rattle.std.proofs.Math.Seq.{get_or-append_seam}
use Rattle.std.proofs.lemmas.List.Kept.{AllPairs-filter}
use Rattle.std.proofs.lemmas.List.Elements.{All-map, All-filter}
use Rattle.mixed_graph.specs.Vocabulary.{members_below}
use Rattle.count_rows.specs.Vocabulary.{Field, product, Table}
use Rattle.mixed_graph.proofs.MemberLists.{members-nil, members-in, members-out}
use Rattle.count_table.specs.Cells.{sizes_of}
use Rattle.count_table.specs.Tables.{levels_in, AreCounts}
use Rattle.count_table.proofs.CountsLaws.{levels_in-at}
use Rattle.count_table.specs.Axes.{axes_of, AreAxes}
use Rattle.count_table.proofs.Lists.{product-filter, members-both, product-members, members-grow}

-- ---- the numbers of levels in a table

-- how many levels a vertex has
abbrev pub size_in : Table → ℕ → ℕ
size_in t v = length (levels_in t.vertices t.levels v)

pub size-at : (t : Table) → AreCounts t → (i : ℕ) → i < length t.vertices → size_in t (get_or t.vertices i 0) ≡ length (get_or t.levels i [])
size-at t are i lt = ap (λ (ys : List Field). length ys) (levels_in-at t.vertices t.levels i are.ascending lt are.matched)

-- each vertex of a table has a level
pub sizes-pos : (t : Table) → AreCounts t → All (λ v. 0 < size_in t v) t.vertices
sizes-pos t are i d lt =
    let matched = are.matched in
    let some = are.each i [] (omega (arith, lt, matched)) in
    let e = size-at t are i lt in
    subst (λ v. 0 < size_in t v) (get_or_default t.vertices i 0 d lt) (omega (arith, some, e))

pub sizes-all : (t : Table) → AreCounts t → map (size_in t) t.vertices ≡ sizes_of t.levels
sizes-all t are =
    let matched = are.matched in
    let a = length-map t.vertices (size_in t) in
    let b = length-map t.levels (λ (ys : List Field). length ys) in
    ext_get_or 0 (map (size_in t) t.vertices) (sizes_of t.levels) (omega (arith, a, b, matched))
    (λ i lt. get_or-map (size_in t) t.vertices i 0 0 (omega (arith, a, lt)) ∙ size-at t are i (omega (arith, a, lt))
    ∙ sym (get_or-map (λ (ys : List Field). length ys) t.levels i [] 0 (omega (arith, a, lt, matched))))

-- ---- members of a set

-- what holds of all members holds of each
pub members_hold : (s : ℕ → Bool) (P : ℕ → Type 0) (k v : ℕ) → All P (members_below s k) → v < k → s v ≡ true → P v
unfolding members_below
members_hold s P zero v h lt e = absurd (omega arith)
members_hold s P (suc k) v h lt e = elim (cases_eq v k) [
  | inl same ↦
      let here : cond (s k) (k ∷ []) [] ≡ k ∷ [] = ap (λ b. cond b (k ∷ []) []) (ap s (sym same) ∙ e) in
      let all = subst (λ (l : List ℕ). All P (members_below s k ++ l)) here h in
      let n = length-append (members_below s k) (k ∷ []) in
      subst P (get_or-append_seam (members_below s k) k [] 0 ∙ sym same) (all (length (members_below s k)) 0 (omega (arith, n)))
  | inr other ↦
      members_hold s P k v (λ i d less. subst P (get_or_append_left (members_below s k) (cond (s k) (k ∷ []) []) d i less)
      (h i d (let n = length-append (members_below s k) (cond (s k) (k ∷ []) []) in omega (arith, n, less)))) (omega (arith, other)) e
]

-- ---- choosing

-- the members of q below k, the number of levels of each, and how many cells they have
pub record AreChosen (t : Table) (q : ℕ → Bool) (k : ℕ) (vs ns : List ℕ) (n : ℕ) : Type 0 where
  pub vertices : vs ≡ members_below q k
  pub sizes : ns ≡ map (size_in t) (members_below q k)
  pub count : n ≡ product (map (size_in t) (members_below q k))

pub chosen_none : (t : Table) (q : ℕ → Bool) (vs ns : List ℕ) → vs ≡ [] → ns ≡ [] → AreChosen t q 0 vs ns 1
chosen_none t q vs ns a b = record {
  vertices = a ∙ members-nil q;
  sizes = b ∙ ap (map (size_in t)) (members-nil q);
  count = ap (λ (l : List ℕ). product (map (size_in t) l)) (members-nil q);
}

product-in : (t : Table) (q : ℕ → Bool) (k : ℕ) → q k ≡ true → product (map (size_in t) (members_below q k)) * size_in t k
    ≡ product (map (size_in t) (members_below q (suc k)))
product-in t q k e = sym (product-members q (size_in t) k ∙ ap (λ b. product (map (size_in t) (members_below q k)) * cond b (size_in t k) 1) e)

pub chosen_in : (t : Table) (q : ℕ → Bool) (k : ℕ) (vs ns vs' ns' : List ℕ) (n n' size : ℕ) → q k ≡ true → size ≡ size_in t k → vs' ≡ vs ++ k ∷ [] → ns' ≡ ns
    ++ size ∷ [] → n' ≡ n * size
    → AreChosen t q k vs ns n → AreChosen t q (k + 1) vs' ns' n'
chosen_in t q k vs ns vs' ns' n n' size e is a b c h =
    let more = members-in q k e in
    record {
      vertices = a ∙ ap (λ (l : List ℕ). l ++ k ∷ []) h.vertices ∙ sym more;
      sizes = b ∙ ap (λ m. ns ++ m ∷ []) is ∙ ap (λ (l : List ℕ). l ++ size_in t k ∷ []) h.sizes ∙ sym (map-append (size_in t) (members_below q k) (k ∷ []))
          ∙ ap (map (size_in t)) (sym more);
      count = c ∙ ap (λ m. n * m) is ∙ ap (λ m. m * size_in t k) h.count ∙ product-in t q k e
          ∙ ap (λ m. product (map (size_in t) (members_below q m))) (let s : suc k ≡ k + 1 = omega arith in s);
    }

pub chosen_out : (t : Table) (q : ℕ → Bool) (k : ℕ) (vs ns vs' ns' : List ℕ) (n n' : ℕ) → q k ≡ false → vs' ≡ vs → ns' ≡ ns → n' ≡ n → AreChosen t q k vs ns n
    → AreChosen t q (k + 1) vs' ns' n'
chosen_out t q k vs ns vs' ns' n n' e a b c h =
    let more = members-out q k e in
    record {
      vertices = a ∙ h.vertices ∙ sym more;
      sizes = b ∙ h.sizes ∙ ap (map (size_in t)) (sym more);
      count = c ∙ h.count ∙ ap (λ (l : List ℕ). product (map (size_in t) l)) (sym more);
    }

-- a set of used vertices of a table
pub record IsPart (t : Table) (used of q : ℕ → Bool) : Type 0 where
  pub all : members_below used 64 ≡ t.vertices
  pub members : (v : ℕ) → q v ≡ (used v && of v)
  pub table : AreCounts t

chosen-vertices : (t : Table) (used of q : ℕ → Bool) → IsPart t used of q → members_below q 64 ≡ filter of t.vertices
chosen-vertices t used of q h = members-both used of q 64 h.members ∙ ap (filter of) h.all

part-few : (t : Table) (used of q : ℕ → Bool) → IsPart t used of q → product (map (size_in t) (members_below q 64)) ≤ 2 ^ 20
part-few t used of q h =
    let all = chosen-vertices t used of q h in
    let e = ap (λ (l : List ℕ). product (map (size_in t) l)) all in
    let f = ap product (sizes-all t h.table) in
    let le = product-filter of (size_in t) t.vertices (sizes-pos t h.table) in
    let few = h.table.few in
    omega (arith, e, f, le, few)

both-first : (a b : Bool) → (a && b) ≡ true → a ≡ true
both-first true b e = refl
both-first false b e = absurd (cc e)

pub chosen_fits : (t : Table) (used of q : ℕ → Bool) (k : ℕ) (vs ns : List ℕ) (n size : ℕ) → k < 64 → IsPart t used of q → q k ≡ true → size ≡ size_in t k
    → AreChosen t q k vs ns n → n * size ≤ 2 ^ 20
chosen_fits t used of q k vs ns n size lt h e is c =
    let pos = subst (λ (l : List ℕ). All (λ v. 0 < size_in t v) l) (sym h.all) (sizes-pos t h.table) in
    let grow = members-grow q (size_in t) (suc k) 64 (omega arith)
    (λ v i less. members_hold used (λ u. 0 < size_in t u) 64 v pos less (both-first (used v) (of v) (sym (h.members v) ∙ i))) in
    let here = ap (λ m. m * size_in t k) c.count ∙ product-in t q k e in
    let same = ap (λ m. n * m) is in
    let few = part-few t used of q h in
    omega (arith, grow, here, same, few)

-- what is chosen in the end
pub record AreTaken (t : Table) (of : ℕ → Bool) (vs ns : List ℕ) (n : ℕ) : Type 0 where
  pub vertices : vs ≡ filter of t.vertices
  pub sizes : ns ≡ map (size_in t) (filter of t.vertices)
  pub count : n ≡ product ns

pub chosen_end : (t : Table) (used of q : ℕ → Bool) (k : ℕ) (vs ns : List ℕ) (n : ℕ) → k ≡ 64 → IsPart t used of q → AreChosen t q k vs ns n
    → AreTaken t of vs ns n
chosen_end t used of q k vs ns n e h c =
    let all : members_below q k ≡ filter of t.vertices = ap (members_below q) e ∙ chosen-vertices t used of q h in
    record {
      vertices = c.vertices ∙ all;
      sizes = c.sizes ∙ ap (map (size_in t)) all;
      count = c.count ∙ ap product (sym c.sizes);
    }

-- the axes of a set
pub axes-are : (t : Table) (of : ℕ → Bool) → AreCounts t → AreAxes (axes_of t of)
axes-are t of are =
    let pos = sizes-pos t are in
    record {
      matched = length-map (filter of t.vertices) (size_in t);
      in_range = All-filter of (λ v. v < 64) t.vertices are.in_range;
      ascending = AllPairs-filter (λ u v. u < v) of t.vertices are.ascending;
      each = All-map (λ n. 0 < n) (size_in t) (filter of t.vertices) (All-filter of (λ v. 0 < size_in t v) t.vertices pos);
      few = (let le = product-filter of (size_in t) t.vertices pos in let f = ap product (sizes-all t are) in let few = are.few in omega (arith, le, f, few));
    }

pub taken-axes : (t : Table) (of : ℕ → Bool) (vs ns : List ℕ) (n : ℕ) → AreCounts t → AreTaken t of vs ns n → AreAxes (record { vertices = vs; sizes = ns })
taken-axes t of vs ns n are h =
    let P : List ℕ → List ℕ → Type 0 = λ a b. AreAxes (record { vertices = a; sizes = b }) in
    subst (λ (a : List ℕ). P a ns) (sym h.vertices) (subst (λ (b : List ℕ). P (filter of t.vertices) b) (sym h.sizes) (axes-are t of are))
