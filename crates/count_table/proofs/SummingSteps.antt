-- Steps of the loop that sums over one vertex after the other.
use Rattle.std.proofs.Common.{ℕ, ◌+◌, ◌*◌, ◌/◌, ◌^◌, ◌≡◌, ◌≢◌, ◌<◌, ◌≤◌, Bool, true, false, ◌&&◌, ◌||◌, cond, eqb, List, []}
use Rattle.std.proofs.Common.{◌∷◌, ◌++◌, length, get_or, map, take, drop, All, refl, sym, ap, subst, ◌∙◌, inl, inr, arith, sum, drop_of_length-le}
use Rattle.std.specs.List.{AllPairs, filter}
use Rattle.std.proofs.lemmas.Bool.{cases_lt}
use Rattle.std.proofs.lemmas.Bool.Decides.{eqb_tells}
use Rattle.std.proofs.lemmas.List.{append-nil, append_assoc, get_or-take, get_or_default, take_all, take_more, get_or-map, map-append, length-take-le}
use Rattle.std.proofs.lemmas.List.Elements.{All-filter, All-map, All-drop, filter-append}
use Rattle.std.proofs.lemmas.Nat.{mul-le}
use Rattle.std.proofs.Math.Nat.{mul-div_cancel_left}
use Rattle.count_table.specs.LaneSums.{axis_total}
use Rattle.mixed_graph.specs.Vocabulary.{members_below}
use Rattle.count_rows.specs.Vocabulary.{product, Row, Table}
use Rattle.count_table.specs.Tables.{AreCounts}
use Rattle.count_table.specs.Sums.{AreSums}
use Rattle.count_table.proofs.TableSteps.{suffix}
use Rattle.count_table.proofs.Lists.{later, product-pos, product-append, members-both}
use Rattle.count_table.proofs.Choosing.{size_in, sizes-pos, sizes-all}
use Rattle.count_table.proofs.Counting.{is_among, counted-alike}
use Rattle.count_table.proofs.VertexSums.{AreSumsOver, IsSplit, IsWithout, counts-are, split-long, summed_over, among-self}

-- ---- members of the set among the vertices of a table

among-filter : (p : ℕ → Bool) (vs : List ℕ) (u : ℕ) → is_among (filter p vs) u ≡ (p u && is_among vs u)
among-filter p [] u = none (p u)
  where
    none : (b : Bool) → false ≡ (b && false)
    none true = refl
    none false = refl
among-filter p (v ∷ vs) u = step (p v) refl (among-filter p vs u)
  where
    kept : (a b c : Bool) → (a ≡ true → b ≡ true) → (a || (b && c)) ≡ (b && (a || c))
    kept true b c h = sym (ap (λ x. x && true) (h refl))
    kept false b c h = refl

    dropped : (a b c : Bool) → (a ≡ true → b ≡ false) → (b && c) ≡ (b && (a || c))
    dropped true b c h = ap (λ x. x && c) (h refl) ∙ sym (ap (λ x. x && true) (h refl))
    dropped false b c h = refl

    same : (b : Bool) → p v ≡ b → eqb u v ≡ true → p u ≡ b
    same b e test = elim (eqb_tells u v) [ inl q ↦ ap p q.1 ∙ e | inr q ↦ absurd (cc (q.0, test)) ]

    step : (b : Bool) → p v ≡ b → is_among (filter p vs) u ≡ (p u && is_among vs u) → is_among (cond b (v ∷ filter p vs) (filter p vs)) u
        ≡ (p u && (eqb u v || is_among vs u))
    step true e ih = ap (λ x. eqb u v || x) ih ∙ kept (eqb u v) (p u) (is_among vs u) (same true e)
    step false e ih = ih ∙ dropped (eqb u v) (p u) (is_among vs u) (same false e)

among-set : (p : ℕ → Bool) (vs : List ℕ) → All (λ u. is_among (filter p vs) u ≡ p u) vs
among-set p vs i d lt = among-filter p vs (get_or vs i d) ∙ ap (λ b. p (get_or vs i d) && b) (among-self vs i d lt) ∙ all (p (get_or vs i d))
  where
    all : (b : Bool) → (b && true) ≡ b
    all true = refl
    all false = refl

-- ---- the loop

-- the vertices before i that are in the set
abbrev pub kept_before : Table → (ℕ → Bool) → ℕ → List ℕ
kept_before t of i = filter of (take i t.vertices)

-- the vertices before i are summed over but for those in the set; how many cells the kept ones have, and those from i on
pub record IsSumming (t : Table) (of : ℕ → Bool) (i : ℕ) (sums : List ℕ) (outer inner : ℕ) : Type 0 where
  pub sums_are : AreSumsOver t (kept_before t of i ++ drop i t.vertices) sums
  pub outer_is : outer ≡ product (map (size_in t) (kept_before t of i))
  pub inner_is : inner ≡ product (map (size_in t) (drop i t.vertices))
  pub few : length sums ≤ 2 ^ 20

pub summing_start : (t : Table) (of : ℕ → Bool) (sums counts : List ℕ) (inner : ℕ) → AreCounts t → counts ≡ map (λ (r : Row). r.count) t.rows → sums ≡ counts
    → inner ≡ length sums → IsSumming t of 0 sums 1 inner
summing_start t of sums counts inner are e same long =
    let h = counts-are t sums are (same ∙ e) in
    record {
      sums_are = h;
      outer_is = refl;
      inner_is = long ∙ h.long;
      few = (let a = h.long in let b = ap product (sizes-all t are) in let c = are.few in omega (arith, a, b, c));
    }

-- the vertex i
pub record IsNext (t : Table) (i n : ℕ) (v : ℕ) : Type 0 where
  pub table : AreCounts t
  pub within : i < length t.vertices
  pub here : v ≡ get_or t.vertices i 0
  pub size : n ≡ size_in t v

earlier : (xs : List ℕ) (i : ℕ) → i < length xs → AllPairs (λ a b. a < b) xs → All (λ u. u ≢ get_or xs i 0) (take i xs)
earlier xs i lt h j d less = elim (cases_lt j i) [
  | inl before ↦
      let e = get_or-take i xs j d before in
      let one : get_or xs j 0 < get_or xs i 0 = h j i 0 before lt in
      let same = get_or_default xs j d 0 (omega (arith, before, lt)) in
      λ bad. omega (arith, e, one, same, bad)
  | inr le ↦ absurd (let n = length-take-le i xs (omega (arith, lt)) in omega (arith, n, less, le))
]

pub next-split : (t : Table) (of : ℕ → Bool) (i n v : ℕ) → IsNext t i n v → IsSplit t (kept_before t of i) (drop (i + 1) t.vertices) v i
next-split t of i n v h = record {
  within = h.within;
  here = sym h.here;
  before = subst (λ w. All (λ u. u ≢ w) (kept_before t of i)) (sym h.here) (All-filter of (λ u. u ≢ get_or t.vertices i 0) (take i t.vertices)
      (earlier t.vertices i h.within h.table.ascending));
  behind = subst (λ w. All (λ u. u ≢ w) (drop (i + 1) t.vertices)) (sym h.here) (later t.vertices i h.within h.table.ascending);
}

rest_is : (t : Table) (i n v : ℕ) → IsNext t i n v → drop i t.vertices ≡ v ∷ drop (i + 1) t.vertices
rest_is t i n v h = suffix t.vertices i 0 h.within ∙ ap (λ w. w ∷ drop (i + 1) t.vertices) (sym h.here)

kept_is : (t : Table) (of : ℕ → Bool) (i n v : ℕ) (b : Bool) → IsNext t i n v → of v ≡ b → kept_before t of (i + 1) ≡ kept_before t of i ++ cond b (v ∷ []) []
kept_is t of i n v b h e =
    ap (filter of) (take_more t.vertices i 0 h.within) ∙ filter-append of (take i t.vertices) (get_or t.vertices i 0 ∷ [])
    ∙ ap (λ w. kept_before t of i ++ filter of (w ∷ [])) (sym h.here) ∙ ap (λ c. kept_before t of i ++ cond c (v ∷ []) []) e

-- what the sums, the numbers of cells and the division need
pub record IsNextStep (t : Table) (of : ℕ → Bool) (i n v : ℕ) (sums : List ℕ) (outer inner : ℕ) : Type 0 where
  pub some : 0 < n
  pub sums_are : AreSumsOver t (kept_before t of i ++ v ∷ drop (i + 1) t.vertices) sums
  pub inner_next : inner / n ≡ product (map (size_in t) (drop (i + 1) t.vertices))
  pub long : length sums ≡ outer * n * (inner / n)
  pub fits : outer * n ≤ 2 ^ 20
  pub kept_fits : outer * (inner / n) ≤ 2 ^ 20
  pub room : sum sums ≤ 10 ^ 15

pub next_step : (t : Table) (of : ℕ → Bool) (i n v : ℕ) (sums : List ℕ) (outer inner : ℕ) → IsNext t i n v → IsSumming t of i sums outer inner
    → IsNextStep t of i n v sums outer inner
next_step t of i n v sums outer inner next h =
    let f : ℕ → ℕ = size_in t in
    let p = product (map f (drop (i + 1) t.vertices)) in
    let rest = rest_is t i n v next in
    let size = next.size in
    let pos = sizes-pos t next.table in
    let some : 0 < n = (let a = pos i 0 next.within in let b = ap f next.here in omega (arith, a, b, size)) in
    let behind : 0 < p = product-pos (map f (drop (i + 1) t.vertices))
    (All-map (λ k. 0 < k) f (drop (i + 1) t.vertices) (All-drop (λ u. 0 < f u) (i + 1) t.vertices pos)) in
    let inner_is : inner ≡ n * p = h.inner_is ∙ ap (λ (l : List ℕ). product (map f l)) rest ∙ ap (λ k. k * p) (sym size) in
    let divided : inner / n ≡ p = ap (λ k. k / n) inner_is ∙ quotient n p some in
    let are = subst (λ (l : List ℕ). AreSumsOver t (kept_before t of i ++ l) sums) rest h.sums_are in
    let long : length sums ≡ outer * n * (inner / n) =
    (split-long t (kept_before t of i) (drop (i + 1) t.vertices) v sums are ∙ ap (λ k. k * f v * p) (sym h.outer_is) ∙ ap (λ k. outer * k * p) (sym size)
    ∙ ap (λ k. outer * n * k) (sym divided)) in
    let few = h.few in
    let all = are.total in
    let most = next.table.most in
    record {
      some = some;
      sums_are = are;
      inner_next = divided;
      long = long;
      fits = (let m : (outer * n) * 1 ≤ outer * n * (inner / n) = mul-le (outer * n) 1 (outer * n) (inner / n) (omega arith)
          (omega (arith, divided, behind)) in omega (arith, m, long, few));
      kept_fits = (let m : (outer * 1) * (inner / n) ≤ outer * n * (inner / n) = mul-le (outer * 1) (inner / n) (outer * n) (inner / n) (mul-le outer 1 outer n
          (omega arith) some) (omega arith) in
          let one : (outer * 1) * (inner / n) ≡ outer * (inner / n) = ap (λ k. k * (inner / n)) (let q : outer * 1 ≡ outer = omega arith in q) in
          omega (arith, m, one, long, few));
      room = omega (arith, all, most);
    }
  where
    quotient : (a b : ℕ) → 0 < a → (a * b) / a ≡ b
    quotient a b pos = mul-div_cancel_left b pos

-- a table summed over its middle axis
record IsAxisSum (outer n inner : ℕ) (sums into : List ℕ) : Type 0 where
  short : length into ≡ outer * inner
  each : (o k : ℕ) → o < outer → k < inner → get_or into (o * inner + k) 0 ≡ axis_total n inner o k sums

-- a vertex in the set is kept
pub summing_keep : (t : Table) (of : ℕ → Bool) (i n v : ℕ) (sums after : List ℕ) (outer inner more : ℕ) → IsNext t i n v → of v ≡ true → after ≡ sums → more
    ≡ outer * n
    → IsSumming t of i sums outer inner
    → IsSumming t of (i + 1) after more (inner / n)
summing_keep t of i n v sums after outer inner more next e same more_is h =
    let step = next_step t of i n v sums outer inner next h in
    let kept = kept_is t of i n v true next e in
    let whole : kept_before t of i ++ v ∷ drop (i + 1) t.vertices ≡ kept_before t of (i + 1) ++ drop (i + 1) t.vertices =
    sym (append_assoc (kept_before t of i) (v ∷ []) (drop (i + 1) t.vertices)) ∙ ap (λ (l : List ℕ). l ++ drop (i + 1) t.vertices) (sym kept) in
    record {
      sums_are = subst (λ (l : List ℕ). AreSumsOver t (kept_before t of (i + 1) ++ drop (i + 1) t.vertices) l) (sym same)
          (subst (λ (l : List ℕ). AreSumsOver t l sums) whole step.sums_are);
      outer_is = more_is ∙ ap (λ k. k * n) h.outer_is ∙ ap (λ k. product (map (size_in t) (kept_before t of i)) * k) next.size ∙ one_more (kept_before t of i) v
          ∙ ap (λ (l : List ℕ). product (map (size_in t) l)) (sym kept);
      inner_is = step.inner_next;
      few = subst (λ (l : List ℕ). length l ≤ 2 ^ 20) (sym same) h.few;
    }
  where
    one_more : (us : List ℕ) (w : ℕ) → product (map (size_in t) us) * size_in t w ≡ product (map (size_in t) (us ++ w ∷ []))
    one_more us w =
        ap (λ k. product (map (size_in t) us) * k) (let q : size_in t w ≡ size_in t w * 1 = omega arith in q)
        ∙ sym (ap product (map-append (size_in t) us (w ∷ [])) ∙ product-append (map (size_in t) us) (size_in t w ∷ []))

-- another one is summed over
pub summing_out : (t : Table) (of : ℕ → Bool) (i n v : ℕ) (sums into after : List ℕ) (outer inner more : ℕ) → IsNext t i n v → of v ≡ false → after ≡ into
    → more ≡ outer
    → IsSumming t of i sums outer inner
    → length into ≡ outer * (inner / n) → ((o k : ℕ) → o < outer → k < inner / n → get_or into (o * (inner / n) + k) 0 ≡ axis_total n (inner / n) o k sums)
    → IsSumming t of (i + 1) after more (inner / n)
summing_out t of i n v sums into after outer inner more next e same more_is h short each =
    let f : ℕ → ℕ = size_in t in
    let step = next_step t of i n v sums outer inner next h in
    let kept = kept_is t of i n v false next e ∙ append-nil (kept_before t of i) in
    let P : ℕ → ℕ → ℕ → Type 0 = λ o m k. IsAxisSum o k m sums into in
    let one : IsAxisSum outer n (inner / n) sums into = record { short = short; each = each } in
    let two = subst (λ o. P o (inner / n) n) h.outer_is one in
    let three = subst (λ m. P (product (map f (kept_before t of i))) m n) step.inner_next two in
    let four = subst (λ k. P (product (map f (kept_before t of i))) (product (map f (drop (i + 1) t.vertices))) k) next.size three in
    let without : IsWithout t (kept_before t of i) (drop (i + 1) t.vertices) v sums into = record { short = four.short; each = four.each } in
    let summed = summed_over t (kept_before t of i) (drop (i + 1) t.vertices) v i sums into next.table (next-split t of i n v next) step.sums_are without in
    record {
      sums_are = subst (λ (l : List ℕ). AreSumsOver t (kept_before t of (i + 1) ++ drop (i + 1) t.vertices) l) (sym same)
          (subst (λ (l : List ℕ). AreSumsOver t (l ++ drop (i + 1) t.vertices) into) (sym kept) summed);
      outer_is = more_is ∙ h.outer_is ∙ ap (λ (l : List ℕ). product (map f l)) (sym kept);
      inner_is = step.inner_next;
      few = (let k = step.kept_fits in let q = ap (λ (l : List ℕ). length l) same in omega (arith, k, q, short));
    }

pub summing_end : (t : Table) (of : ℕ → Bool) (i : ℕ) (sums : List ℕ) (outer inner : ℕ) → length t.vertices ≤ i → IsSumming t of i sums outer inner
    → AreSums t of sums
summing_end t of i sums outer inner le h =
    let all : kept_before t of i ++ drop i t.vertices ≡ filter of t.vertices =
    ap (λ (l : List ℕ). kept_before t of i ++ l) (drop_of_length-le t.vertices le) ∙ append-nil (kept_before t of i)
    ∙ ap (filter of) (take_all i t.vertices le) in
    let are = subst (λ (l : List ℕ). AreSumsOver t l sums) all h.sums_are in
    record {
      long = are.long;
      each = λ at cell. are.each at cell ∙ counted-alike t.vertices t.rows (is_among (filter of t.vertices)) of at (among-set of t.vertices);
    }

-- all used vertices are those of the table
pub used-axes : (t : Table) (used : ℕ → Bool) → members_below used 64 ≡ t.vertices → filter used t.vertices ≡ t.vertices
used-axes t used e = ap (filter used) (sym e) ∙ sym (members-both used used used 64 (λ v. twice (used v))) ∙ e
  where
    twice : (b : Bool) → b ≡ (b && b)
    twice true = refl
    twice false = refl

-- the vertex i of all used ones
pub next_is : (t : Table) (used : ℕ → Bool) (vs ns : List ℕ) (i : ℕ) → AreCounts t → members_below used 64 ≡ t.vertices → vs ≡ filter used t.vertices
    → ns ≡ map (size_in t) (filter used t.vertices) → i < length vs
    → IsNext t i (get_or ns i 0) (get_or vs i 0)
next_is t used vs ns i are members a b lt =
    let all = used-axes t used members in
    let same = a ∙ all in
    let within : i < length t.vertices = (let e = ap (λ (l : List ℕ). length l) same in omega (arith, e, lt)) in
    let here = ap (λ (l : List ℕ). get_or l i 0) same in
    record {
      table = are;
      within = within;
      here = here;
      size = ap (λ (l : List ℕ). get_or l i 0) (b ∙ ap (map (size_in t)) all) ∙ get_or-map (size_in t) t.vertices i 0 0 within ∙ ap (size_in t) (sym here);
    }
