-- What a written graph says gives that graph.
use Rattle.std.proofs.Common.{◌≡◌, ◌≢◌, ◌≤◌, ◌<◌, ◌+◌, ◌-◌, ℕ, zero, suc, Bool, true, false, List, [], ◌∷◌, ◌++◌, map, length, get_or, Option, Some}
use Rattle.std.proofs.Common.{None, inl, inr, refl, sym, ap, subst, ◌∙◌, arith, append-nil, IsTrue}
use Rattle.std.specs.Prelude.{cond, ◌==◌, ◌||◌, ◌&&◌, nat_lt, find, All}
use Rattle.std.proofs.lemmas.Bool.{and_parts, eq-eqb, ne_eqb, lt-ltb, cases_eq, cases_lt, cases_Bool, cases_order}
use Rattle.std.proofs.lemmas.List.{get_or_append_left, get_or_past, map-append}
use Rattle.mixed_graph.specs.Vocabulary.{has, MixedGraph, IsMixedGraph, IsDirectedPath, IsAcyclic, has_pair, IsCycle, graph_of, IsGraphOf}
use Rattle.dag_reader.specs.declared.marks.Arrow.{Arrow}
use Rattle.dag_reader.specs.declared.marks.Arrow.TheVariants.{Right, Both}
use Rattle.dag_reader.specs.declared.marks.Role.{Role}
use Rattle.dag_reader.specs.declared.marks.Role.TheVariants.{Exposure, Outcome, Adjusted, Latent}
use Rattle.dag_reader.specs.declared.graph.ReadGraph.{ReadGraph}
use Rattle.dag_reader.specs.Rows.{count_up, pairs_below}
use Rattle.dag_reader.specs.Passes.{Edge, is_self_loop, arrows_of, doubles_of, roles_of, has_role, same_role}
use Rattle.dag_reader.specs.Reads.{is_marked, Tells, HasNoLoop, HasNoClash}
use Rattle.dag_reader.specs.Written.{IsDrawn, role_at, drawn_of}
use Rattle.dag_reader.proofs.DrawnMarks.{drawn_says, given_roles}
use Rattle.dag_reader.proofs.DrawnPasses.{as_edges, drawn_edges, drawn_arrows, drawn_doubles, drawn_roles}
use Rattle.dag_reader.proofs.PairLists.{pairs_below-joins, pairs_below-ends}
use Rattle.dag_reader.proofs.WrittenLines.{length-listed}
use Rattle.dag_reader.proofs.RowPairs.{members-suc}

-- ---- the parts of a written graph

pub drawn_is : (g : ReadGraph) → IsDrawn (drawn_of g)
drawn_is g = record {
  names = g.named;
  roles = length-listed (role_at g) g.graph.n ∙ sym g.sized;
  arrows = subst (λ (n : ℕ). All (λ (p : ℕ × ℕ). (p.0 < n) × (p.1 < n)) (drawn_of g).arrows) (sym g.sized)
      (pairs_below-ends g.graph.n (graph_of g.graph).arrow);
  doubles = subst (λ (n : ℕ). All (λ (p : ℕ × ℕ). (p.0 < n) × (p.1 < n)) (drawn_of g).doubles) (sym g.sized)
      (pairs_below-ends g.graph.n (λ a b. (graph_of g.graph).both a b && nat_lt a b));
}

-- ---- edges

both_below : (x y : ℕ) (n : ℕ) (t : Bool) → (t ≡ true → x < n) → (t ≡ true → y < n) → (nat_lt x n && (nat_lt y n && t)) ≡ t
both_below x y n true h k = rw (lt-ltb x n (h refl), lt-ltb y n (k refl)) refl
both_below x y n false h k = none (nat_lt x n) (nat_lt y n)
  where
    none : (p q : Bool) → (p && (q && false)) ≡ false
    none true true = refl
    none true false = refl
    none false q = refl

arrow_drawn : (g : MixedGraph) → IsMixedGraph g → (a b : ℕ) → has_pair (pairs_below g.vertices g.arrow) a b ≡ g.arrow a b
arrow_drawn g is a b = pairs_below-joins g.vertices g.arrow a b ∙ both_below a b g.vertices (g.arrow a b) (λ t. is.tail_below a b t) (λ t. is.head_below a b t)

upper : MixedGraph → ℕ → ℕ → Bool
upper g a b = g.both a b && nat_lt a b

upper_drawn : (g : MixedGraph) → IsMixedGraph g → (a b : ℕ) → has_pair (pairs_below g.vertices (λ x y. g.both x y && nat_lt x y)) a b
    ≡ (g.both a b && nat_lt a b)
upper_drawn g is a b =
    pairs_below-joins g.vertices (λ x y. g.both x y && nat_lt x y) a b
    ∙ both_below a b g.vertices (g.both a b && nat_lt a b)
    (λ t. is.both_below a b (and_parts (g.both a b) (nat_lt a b) t).0)
    (λ t. is.both_below b a (is.symmetric a b (and_parts (g.both a b) (nat_lt a b) t).0))

one_way : (g : MixedGraph) → IsMixedGraph g → (a b : ℕ) → ((g.both a b && nat_lt a b) || (g.both b a && nat_lt b a)) ≡ g.both a b
one_way g is a b = elim (cases_Bool (g.both a b)) [
  | inl t ↦ (let back : g.both b a ≡ true = is.symmetric a b t in elim (cases_order a b) [
    | inl same ↦ absurd (let none = is.no_loop a in let here : g.both a a ≡ true = subst (λ (x : ℕ). g.both a x ≡ true) (sym same) t in cc)
    | inr (inl below) ↦ rw (t, lt-ltb a b below) refl
    | inr (inr above) ↦ rw (t, back, lt-ltb b a above) (or_true (nat_lt a b))
  ])
  | inr f ↦ (let back : g.both b a ≡ false = elim (cases_Bool (g.both b a)) [ inl t ↦ absurd (let h = is.symmetric b a t in cc) | inr e ↦ e ] in
      rw (f, back) refl)
]
  where
    or_true : (x : Bool) → (x || true) ≡ true
    or_true true = refl
    or_true false = refl

graph_drawn : (g : ReadGraph) → IsGraphOf (length g.names) (arrows_of (drawn_says (drawn_of g)).marks) (doubles_of (drawn_says (drawn_of g)).marks)
    (graph_of g.graph)
graph_drawn g = record {
  size = sym g.sized;
  arrows = λ a b. sym (ap (λ (l : List (ℕ × ℕ)). has_pair l a b) (drawn_arrows (drawn_of g)) ∙ arrow_drawn (graph_of g.graph) g.graph.valid a b);
  spouses = λ a b. sym (ap (λ (l : List (ℕ × ℕ)). has_pair l a b || has_pair l b a) (drawn_doubles (drawn_of g))
      ∙ rw (upper_drawn (graph_of g.graph) g.graph.valid a b, upper_drawn (graph_of g.graph) g.graph.valid b a) (one_way (graph_of g.graph) g.graph.valid a b));
}

-- ---- no self-loop

no_self_loop : (a : Arrow) (ps : List (ℕ × ℕ)) (more : List Edge) → ((v : ℕ) → has_pair ps v v ≡ false) → find is_self_loop (as_edges a ps ++ more)
    ≡ find is_self_loop more
no_self_loop a [] more h = refl
no_self_loop a (p ∷ ps) more h = elim (cases_Bool (p.0 == p.1)) [
  | inl t ↦ absurd (let there = h p.0 in let here : ((p.0 == p.0) && (p.0 == p.1)) ≡ true = rw (eq-eqb p.0 p.0 refl, t) refl in
      joined ((p.0 == p.0) && (p.0 == p.1)) (has_pair ps p.0 p.0) here there)
  | inr f ↦ rw f (no_self_loop a ps more (λ v. later ((v == p.0) && (v == p.1)) (has_pair ps v v) (h v)))
]
  where
    joined : (x y : Bool) → x ≡ true → (x || y) ≡ false → ⊥
    joined true y h k = cc k
    joined false y h k = cc h

    later : (x y : Bool) → (x || y) ≡ false → y ≡ false
    later true y h = cc h
    later false y h = h

no_arrow_loop : (g : MixedGraph) → IsMixedGraph g → (v : ℕ) → g.arrow v v ≡ false
no_arrow_loop g is v = elim (cases_Bool (g.arrow v v)) [ inl t ↦ absurd (is.acyclic v v [] (t, refl)) | inr f ↦ f ]

loop_free : (g : ReadGraph) → HasNoLoop (drawn_says (drawn_of g)).marks
loop_free g =
    let d = drawn_of g in
    ap (find is_self_loop) (drawn_edges d)
    ∙ no_self_loop Right d.arrows (as_edges Both d.doubles) (λ v. arrow_drawn (graph_of g.graph) g.graph.valid v v
    ∙ no_arrow_loop (graph_of g.graph) g.graph.valid v)
    ∙ ap (find is_self_loop) (sym (append-nil (as_edges Both d.doubles)))
    ∙ no_self_loop Both d.doubles [] (λ v. upper_drawn (graph_of g.graph) g.graph.valid v v
    ∙ none ((graph_of g.graph).both v v) (nat_lt v v) (g.graph.valid.no_loop v))
  where
    none : (x y : Bool) → x ≡ false → (x && y) ≡ false
    none true y h = cc h
    none false y h = refl

-- ---- roles

abbrev is_role : Role → Option Role → Bool
is_role r None = false
is_role r (Some q) = same_role r q

get_next : (x : Option Role) (rs : List (Option Role)) (v i : ℕ) → i < v → get_or (x ∷ rs) (v - i) None ≡ get_or rs (v - (i + 1)) None
get_next x rs v i h = let e : v - i ≡ suc (v - (i + 1)) = omega arith in ap (λ k. get_or (x ∷ rs) k None) e

get_here : (x : Option Role) (rs : List (Option Role)) (v i : ℕ) → v ≡ i → get_or (x ∷ rs) (v - i) None ≡ x
get_here x rs v i h = let e : v - i ≡ zero = omega arith in ap (λ k. get_or (x ∷ rs) k None) e

-- below the first index nothing is given
given_none : (rs : List (Option Role)) (i : ℕ) (r : Role) (v : ℕ) → v < i → has_role (given_roles i rs) r v ≡ false
given_none [] i r v h = refl
given_none (None ∷ rs) i r v h = given_none rs (i + 1) r v (omega arith)
given_none (Some q ∷ rs) i r v h = rw (ne_eqb v i (omega arith), given_none rs (i + 1) r v (omega arith)) refl

or_none : (b : Bool) → (b || false) ≡ b
or_none true = refl
or_none false = refl

given_has : (rs : List (Option Role)) (i : ℕ) (r : Role) (v : ℕ) → i ≤ v → has_role (given_roles i rs) r v ≡ is_role r (get_or rs (v - i) None)
given_has [] i r v h = refl
given_has (None ∷ rs) i r v h = elim (cases_eq v i) [
  | inl e ↦ given_none rs (i + 1) r v (omega arith) ∙ sym (ap (is_role r) (get_here None rs v i e))
  | inr d ↦ given_has rs (i + 1) r v (omega arith) ∙ sym (ap (is_role r) (get_next None rs v i (omega arith)))
]
given_has (Some q ∷ rs) i r v h = elim (cases_eq v i) [
  | inl e ↦ rw (eq-eqb v i e, given_none rs (i + 1) r v (omega arith)) (or_none (same_role r q)) ∙ sym (ap (is_role r) (get_here (Some q) rs v i e))
  | inr d ↦ rw (ne_eqb v i d) (given_has rs (i + 1) r v (omega arith)) ∙ sym (ap (is_role r) (get_next (Some q) rs v i (omega arith)))
]

get_end : (xs : List (Option Role)) (x : Option Role) → get_or (xs ++ x ∷ []) (length xs) None ≡ x
get_end [] x = refl
get_end (y ∷ xs) x = get_end xs x

get_listed : (f : ℕ → Option Role) (n v : ℕ) → v < n → get_or (map f (count_up n)) v None ≡ f v
get_listed f zero v h = absurd (omega arith)
get_listed f (suc n) v h =
    ap (λ l. get_or l v None) (ap (map f) (members-suc (λ _. true) n) ∙ map-append f (count_up n) (n ∷ []))
    ∙ elim (cases_eq v n) [
      | inl e ↦ (let size = length-listed f n in ap (λ k. get_or (map f (count_up n) ++ f n ∷ []) k None) (e ∙ sym size) ∙ get_end (map f (count_up n)) (f n)
          ∙ ap f (sym e))
      | inr d ↦ (let size = length-listed f n in get_or_append_left (map f (count_up n)) (f n ∷ []) None v (omega arith) ∙ get_listed f n v (omega arith))
    ]

none_marked : (e o a l : Bool) → e ≡ false → o ≡ false → a ≡ false → l ≡ false
    → ◌≡◌ {A = Option Role} (cond e (Some Exposure) (cond o (Some Outcome) (cond a (Some Adjusted) (cond l (Some Latent) None)))) None
none_marked e o a l h k m n = rw (h, k, m, n) refl

outside : (n : ℕ) (s : ℕ → Bool) (v : ℕ) → ((u : ℕ) → IsTrue (s u) → u < n) → n ≤ v → s v ≡ false
outside n s v within h = elim (cases_Bool (s v)) [ inl t ↦ absurd (let low = within v t in omega arith) | inr f ↦ f ]

role_listed : (g : ReadGraph) (v : ℕ) → get_or (map (role_at g) (count_up g.graph.n)) v None ≡ role_at g v
role_listed g v = elim (cases_lt v g.graph.n) [
  | inl h ↦ get_listed (role_at g) g.graph.n v h
  | inr h ↦ (let size = length-listed (role_at g) g.graph.n in get_or_past (map (role_at g) (count_up g.graph.n)) v None (omega arith)
      ∙ sym (none_marked (has g.exposures.bits v) (has g.outcomes.bits v) (has g.adjusted.bits v) (has g.latent.bits v)
      (outside g.graph.n (has g.exposures.bits) v g.marked.exposures_below h) (outside g.graph.n (has g.outcomes.bits) v g.marked.outcomes_below h)
      (outside g.graph.n (has g.adjusted.bits) v g.marked.adjusted_below h) (outside g.graph.n (has g.latent.bits) v g.marked.latent_below h)))
]

abbrev first_role : (e o a l : Bool) → Option Role
first_role e o a l = cond e (Some Exposure) (cond o (Some Outcome) (cond a (Some Adjusted) (cond l (Some Latent) None)))

an_exposure : (e o a l : Bool) → is_role Exposure (first_role e o a l) ≡ e
an_exposure true o a l = refl
an_exposure false true a l = refl
an_exposure false false true l = refl
an_exposure false false false true = refl
an_exposure false false false false = refl

an_outcome : (e o a l : Bool) → (e ≡ true → o ≡ false) → is_role Outcome (first_role e o a l) ≡ o
an_outcome true o a l h = sym (h refl)
an_outcome false true a l h = refl
an_outcome false false true l h = refl
an_outcome false false false true h = refl
an_outcome false false false false h = refl

an_adjusted : (e o a l : Bool) → (e ≡ true → a ≡ false) → (o ≡ true → a ≡ false) → is_role Adjusted (first_role e o a l) ≡ a
an_adjusted true o a l h k = sym (h refl)
an_adjusted false true a l h k = sym (k refl)
an_adjusted false false true l h k = refl
an_adjusted false false false true h k = refl
an_adjusted false false false false h k = refl

a_latent : (e o a l : Bool) → (e ≡ true → l ≡ false) → (o ≡ true → l ≡ false) → (a ≡ true → l ≡ false) → is_role Latent (first_role e o a l) ≡ l
a_latent true o a l h k m = sym (h refl)
a_latent false true a l h k m = sym (k refl)
a_latent false false true l h k m = sym (m refl)
a_latent false false false true h k m = refl
a_latent false false false false h k m = refl

role_marked : (g : ReadGraph) (r : Role) (v : ℕ) → is_role r (role_at g v) ≡ is_marked g r v
role_marked g Exposure v = an_exposure (has g.exposures.bits v) (has g.outcomes.bits v) (has g.adjusted.bits v) (has g.latent.bits v)
role_marked g Outcome v = an_outcome (has g.exposures.bits v) (has g.outcomes.bits v) (has g.adjusted.bits v) (has g.latent.bits v)
    (g.marked.exposures_outcomes v)
role_marked g Adjusted v = an_adjusted (has g.exposures.bits v) (has g.outcomes.bits v) (has g.adjusted.bits v) (has g.latent.bits v)
    (g.marked.exposures_adjusted v) (g.marked.outcomes_adjusted v)
role_marked g Latent v = a_latent (has g.exposures.bits v) (has g.outcomes.bits v) (has g.adjusted.bits v) (has g.latent.bits v) (g.marked.exposures_latent v)
    (g.marked.outcomes_latent v) (g.marked.adjusted_latent v)

roles_drawn : (g : ReadGraph) (r : Role) (v : ℕ) → is_marked g r v ≡ has_role (roles_of (drawn_says (drawn_of g)).marks) r v
roles_drawn g r v =
    sym (ap (λ (l : List (ℕ × Role)). has_role l r v) (drawn_roles (drawn_of g)) ∙ given_has (drawn_of g).roles 0 r v (omega arith)
    ∙ ap (λ (k : ℕ). is_role r (get_or (drawn_of g).roles k None)) (omega arith) ∙ ap (is_role r) (role_listed g v) ∙ role_marked g r v)

one_role : (g : ReadGraph) (first second : Role) (v : ℕ) → first ≢ second → is_marked g first v ≡ true → is_marked g second v ≡ true → ⊥
one_role g first second v d h k =
    let a = role_marked g first v ∙ h in let b = role_marked g second v ∙ k in d (same_as (role_at g v) first second a b)
  where
    equal : (r q : Role) → same_role r q ≡ true → r ≡ q
    equal Exposure Exposure h = refl
    equal Outcome Outcome h = refl
    equal Adjusted Adjusted h = refl
    equal Latent Latent h = refl
    equal r q h = cc h

    same_as : (o : Option Role) (r q : Role) → is_role r o ≡ true → is_role q o ≡ true → r ≡ q
    same_as None r q h k = cc h
    same_as (Some x) r q h k = equal r x h ∙ sym (equal q x k)

clash_free : (g : ReadGraph) → HasNoClash (drawn_says (drawn_of g)).marks
clash_free g = λ v two. one_role g two.first two.second v two.differ (roles_drawn g two.first v ∙ two.has_first) (roles_drawn g two.second v ∙ two.has_second)

-- What a written graph says gives that graph.
pub drawn_tells : (g : ReadGraph) → Tells (drawn_says (drawn_of g)) g
drawn_tells g = record { names = refl; edges = graph_drawn g; acyclic = g.graph.valid.acyclic; roles = roles_drawn g }

pub drawn_gives : (g : ReadGraph) → HasNoLoop (drawn_says (drawn_of g)).marks × HasNoClash (drawn_says (drawn_of g)).marks × Tells (drawn_says (drawn_of g)) g
drawn_gives g = (loop_free g, clash_free g, drawn_tells g)

-- ---- a cycle is no graph's

cycle_path : (g : MixedGraph) (list : List ℕ) (count : ℕ) → IsCycle g.arrow list count → (k i : ℕ) → i + (k + 1) ≡ count
    → (x : ℕ) × (xs : List ℕ) × IsDirectedPath g (get_or list i 0) (x ∷ xs) (get_or list 0 0)
cycle_path g list count c zero i h =
    let at : count - 1 ≡ i = omega arith in
    (get_or list 0 0, [], (subst (λ (j : ℕ). IsTrue (g.arrow (get_or list j 0) (get_or list 0 0))) at c.closes, refl))
cycle_path g list count c (suc k) i h =
    let p = cycle_path g list count c k (i + 1) (omega arith) in
    (get_or list (i + 1) 0, p.0 ∷ p.1, (c.next i (omega arith), p.2))

-- an acyclic graph has no cycle of arrows
pub no_cycle : (g : MixedGraph) (list : List ℕ) (count : ℕ) → IsAcyclic g → IsCycle g.arrow list count → ⊥
no_cycle g list count free c =
    let some = c.nonempty in
    let p = cycle_path g list count c (count - 1) 0 (omega arith) in
    free (get_or list 0 0) p.0 p.1 p.2
