-- The marked vertices of a diagram: their names, and the walk over these.
use Rattle.std.proofs.Common.{◌≡◌, ℕ, zero, suc, ◌+◌, ◌<◌, ◌≤◌, Bool, true, false, cond, not, ◌&&◌, ◌||◌, ◌==◌, List, [], ◌∷◌, ◌++◌, length, length-append}
use Rattle.std.proofs.Common.{get_or, Option, Some, None, IsTrue, inl, inr, refl, sym, ap, ap₂, subst, ◌∙◌, arith, nat_lt, add-one, map}
use Rattle.std.proofs.lemmas.Bool.{cases_Bool, cases_eq, cases_lt, lt-ltb, le-ltb, ltb-true, eq-eqb, eqb-true, ne_eqb, false_from_ne_true}
use Rattle.std.proofs.lemmas.List.{append-nil, map-append, length-map, get_or_append_left, get_or-map}
use Rattle.std.proofs.lemmas.Option.{slice_get-get_or}
use Rattle.std.proofs.lemmas.Slice.Eq.{bytes_eq-Decides}
use Rattle.std.proofs.Math.Seq.{get_or-append_seam}
use Rattle.std.specs.Str.{bytes_eq}
use Rattle.mixed_graph.specs.Vocabulary.{has, members_below, AreNames, is_named, index_of, name_of, Within, Apart}
use Rattle.mixed_graph.proofs.KnownNames.{name_at}
use Rattle.mixed_graph.proofs.MemberLists.{is_in, AreMembers, members-are}
use Rattle.dag_reader.proofs.Joined.{members-cut}
use Rattle.dag_reader.specs.declared.graph.ReadGraph.{ReadGraph}
use Rattle.diagram.specs.Observed.{observed_names, observed_set}
use Rattle.diagram.specs.Sets.{marked, names_or}
use Rattle.diagram.specs.declared.diagram.Diagram.{Diagram}
use Rattle.diagram.specs.declared.sets.Marked.{Marked}
use Rattle.diagram.specs.declared.sets.Marked.TheVariants.{Exposures, Outcomes, Adjusted}
use Rattle.diagram.proofs.ObservedParts.{is_in_within, part_of}
use Rattle.mixed_graph.proofs.Members.{length-members-le}
use Rattle.latent_projection.specs.Vocabulary.{observed_below, renumbered_set, names_at}
use Rattle.latent_projection.proofs.Numbering.{members-more, members-same, renumbered_set-more}
use Rattle.latent_projection.proofs.Treks.{left_true}
use Rattle.targets.specs.Targets.{twice}
use Rattle.targets.specs.Vocabulary.{NameFault, listed, name_fault, or_fault, first_fault, walked_in, IsListedSet}
use Rattle.targets.proofs.Walking.{name_is}

-- ---- members by their observed numbers

-- the same members, with the same images
same_images : {X : Type 0} (f g : ℕ → X) (s t : ℕ → Bool) (k : ℕ) → ((v : ℕ) → v < k → s v ≡ t v) → ((v : ℕ) → v < k → f v ≡ g v)
    → map f (members_below s k) ≡ map g (members_below t k)
unfolding members_below
same_images f g s t zero e h = refl
same_images {X} f g s t (suc k) e h =
    map-append f (members_below s k) (cond (s k) (k ∷ []) [])
    ∙ ap (λ (xs : List X). xs ++ map f (cond (s k) (k ∷ []) [])) (same_images f g s t k (λ v l. e v (omega arith)) (λ v l. h v (omega arith)))
    ∙ ap (λ (xs : List X). map g (members_below t k) ++ xs) (last (s k) (t k) (e k (omega arith)))
    ∙ sym (map-append g (members_below t k) (cond (t k) (k ∷ []) []))
  where
    last : (b c : Bool) → b ≡ c → map f (cond b (k ∷ []) []) ≡ map g (cond c (k ∷ []) [])
    last true true d = ap (λ (x : X). x ∷ []) (h k (omega arith))
    last false false d = refl
    last true false d = absurd (cc)
    last false true d = absurd (cc)

-- no member is above n
members_within : (s : ℕ → Bool) (n k : ℕ) → n ≤ k → Within n s → members_below s k ≡ members_below s n
members_within s n k le within = members-cut s s n k le (λ v. go (s v) v refl)
  where
    go : (b : Bool) → (v : ℕ) → s v ≡ b → s v ≡ (s v && nat_lt v n)
    go true v e = rw (e, lt-ltb v n (within v e)) refl
    go false v e = rw e refl

module _ {X : Type 0} (f : ℕ → X) (m : ℕ → Bool) where
  -- the images of the members below n are those by their places in the list
  abbrev AreImages : List ℕ → ℕ → Type 0
  AreImages vs n = map f (members_below m n) ≡ map (λ k. f (get_or vs k 0)) (members_below (renumbered_set vs m) (length vs))

  images_low : (vs : List ℕ) (n : ℕ) → map (λ k. f (get_or (vs ++ n ∷ []) k 0)) (members_below (renumbered_set (vs ++ n ∷ []) m) (length vs))
      ≡ map (λ k. f (get_or vs k 0)) (members_below (renumbered_set vs m) (length vs))
  images_low vs n = same_images (λ k. f (get_or (vs ++ n ∷ []) k 0)) (λ k. f (get_or vs k 0)) (renumbered_set (vs ++ n ∷ []) m)
      (renumbered_set vs m) (length vs)
      (λ k l. (let p = renumbered_set-more vs n m k in let q : (k == length vs) ≡ false = ne_eqb k (length vs) (omega (arith, l)) in grind arith))
      (λ k l. ap f (get_or_append_left vs (n ∷ []) 0 k l))

  size_more : (vs : List ℕ) (n : ℕ) → length (vs ++ n ∷ []) ≡ length vs + 1
  size_more vs n = (let e = length-append vs (n ∷ []) in omega (arith, e))

  images_in : (vs : List ℕ) (n : ℕ) → m n ≡ true → AreImages vs n → AreImages (vs ++ n ∷ []) (n + 1)
  images_in vs n i h =
      let g : ℕ → X = λ k. f (get_or (vs ++ n ∷ []) k 0) in
      let t : ℕ → Bool = renumbered_set (vs ++ n ∷ []) m in
      let last : t (length vs) ≡ true = (let p = renumbered_set-more vs n m (length vs) in let q : (length vs == length vs) ≡ true = eq-eqb
      (length vs) (length vs) refl in
      grind arith) in
      ap (map f) (members-more m n i)
      ∙ map-append f (members_below m n) (n ∷ [])
      ∙ ap (λ (xs : List X). xs ++ f n ∷ []) (h ∙ sym (images_low vs n))
      ∙ ap (λ (x : X). map g (members_below t (length vs)) ++ x ∷ []) (ap f (sym (get_or-append_seam vs n [] 0)))
      ∙ sym (map-append g (members_below t (length vs)) (length vs ∷ []))
      ∙ ap (map g) (sym (members-more t (length vs) last))
      ∙ ap (λ k. map g (members_below t k)) (sym (size_more vs n))

  images_out : (vs : List ℕ) (n : ℕ) → m n ≡ false → AreImages vs n → AreImages (vs ++ n ∷ []) (n + 1)
  images_out vs n o h =
      let g : ℕ → X = λ k. f (get_or (vs ++ n ∷ []) k 0) in
      let t : ℕ → Bool = renumbered_set (vs ++ n ∷ []) m in
      let last : t (length vs) ≡ false = (let p = renumbered_set-more vs n m (length vs) in let q : nat_lt (length vs) (length vs) ≡ false =
      le-ltb (length vs) (length vs) (omega arith) in grind arith) in
      ap (map f) (members-same m n o)
      ∙ h
      ∙ sym (images_low vs n)
      ∙ ap (map g) (sym (members-same t (length vs) last))
      ∙ ap (λ k. map g (members_below t k)) (sym (size_more vs n))

  -- the images of observed members by their observed numbers
  images_observed : (hidden : ℕ → Bool) (n : ℕ) → ((v : ℕ) → v < n → m v ≡ true → hidden v ≡ false) → AreImages (observed_below hidden n) n
  unfolding members_below
  images_observed hidden zero seen = refl
  images_observed hidden (suc n) seen =
      let before = images_observed hidden n (λ v l i. seen v (omega arith) i) in
      let shown : ℕ → Bool = λ v. not (hidden v) in
      subst (λ k. AreImages (observed_below hidden k) k) (add-one n) (elim (cases_Bool (hidden n)) [
        | inl h ↦
            let o : m n ≡ false = false_from_ne_true (m n) (λ i. let s = seen n (omega arith) i in cc) in
            let same : members_below shown (n + 1) ≡ members_below shown n = members-same shown n (ap not h) in
            subst (λ vs. AreImages vs (n + 1)) (sym same) (ap (map f) (members-same m n o) ∙ before)
        | inr s ↦
            let more : members_below shown (n + 1) ≡ members_below shown n ++ n ∷ [] = members-more shown n (ap not s) in
            subst (λ vs. AreImages vs (n + 1)) (sym more) (elim (cases_Bool (m n)) [
              | inl i ↦ images_in (members_below shown n) n i before
              | inr o ↦ images_out (members_below shown n) n o before
            ])
      ])

-- ---- the names of marked vertices

-- the names of marked vertices, none of them hidden, are those of the set in the numbers of the observed ones
pub listed_observed : (names : List (List ℕ)) (n hidden m s : ℕ) → n ≤ 64 → Within n (has m) → Apart (has m) (has hidden)
    → ((k : ℕ) → has s k ≡ renumbered_set (observed_below (has hidden) n) (has m) k)
    → listed names m None ≡ listed (names_at (observed_below (has hidden) n) names) s None
listed_observed names n hidden m s few within apart is =
    let vs : List ℕ = observed_below (has hidden) n in
    let size : length vs ≤ 64 = (let l = length-members-le (λ v. not (has hidden v)) n in omega (arith, l, few)) in
    let inside : Within (length vs) (has s) = λ k i. ltb-true k (length vs) (left_true (nat_lt k (length vs)) (has m (get_or vs k 0)) (sym (is k) ∙ i)) in
    ap (map (name_of names)) (members_within (has m) n 64 few within)
    ∙ images_observed (name_of names) (has m) (has hidden) n (λ v l i. apart v i)
    ∙ same_images (λ k. name_of names (get_or vs k 0)) (name_of (names_at vs names)) (renumbered_set vs (has m)) (has s) (length vs) (λ k l. sym (is k))
    (λ k l. sym (get_or-map (name_of names) vs k 0 [] l))
    ∙ ap (map (name_of (names_at vs names))) (sym (members_within (has s) (length vs) 64 size inside))

-- ---- a set by its own names

or_true : (b : Bool) → (b || true) ≡ true
or_true true = refl
or_true false = refl

-- what is in a list of vertices is one of them
in_below : (s : ℕ → Bool) (n : ℕ) (vs : List ℕ) (u : ℕ) → AreMembers s n vs → is_in vs u ≡ true → u < n
in_below s n [] u members i = absurd (cc)
in_below s n (v ∷ vs) u members i = elim (cases_Bool (u == v)) [
  | inl e ↦ subst (λ k. k < n) (sym (eqb-true u v e)) members.0
  | inr d ↦ in_below s n vs u members.3 (ap (λ b. b || is_in vs u) (sym d) ∙ i)
]

-- the name of a vertex is in the list, at its number
at_index : (names : List (List ℕ)) → AreNames names → (v : ℕ) → v < length names → (is_named names (name_of names v) ≡ true)
    × (v ≡ index_of names (name_of names v))
at_index names are v below = name_at names (name_of names v) (name_of names v) v are below (slice_get-get_or names v [] below)
    ((bytes_eq-Decides (name_of names v) (name_of names v)).1 refl)

-- different vertices have different names
differ : (names : List (List ℕ)) → AreNames names → (u v : ℕ) → u < length names → v < length names → bytes_eq (name_of names u) (name_of names v) ≡ (u == v)
differ names are u v lu lv =
    let there = at_index names are v lv in
    name_is names are u (name_of names v) lu there.0 (subst (λ k. k < length names) there.1 lv) ∙ ap (λ k. u == k) (sym there.1)

-- whether a name is one of those of some vertices
named_in : (names : List (List ℕ)) → AreNames names → (s : ℕ → Bool) (vs : List ℕ) → AreMembers s (length names) vs → (u : ℕ) → u < length names
    → is_named (map (name_of names) vs) (name_of names u) ≡ is_in vs u
named_in names are s [] members u l = refl
named_in names are s (v ∷ vs) members u l = ap₂ (λ b c. b || c) (differ names are u v l members.0) (named_in names are s vs members.3 u l)

-- a set of observed vertices is the one that its names list
pub listed_set : (names : List (List ℕ)) → AreNames names → (s : ℕ) → Within (length names) (has s) → IsListedSet names (listed names s None) s
listed_set names are s within v = elim (cases_lt v (length names)) [
  | inl below ↦ rw (lt-ltb v (length names) below) (sym (named v below))
  | inr above ↦ rw (le-ltb v (length names) above) (false_from_ne_true (has s v) (λ i. absurd (omega (arith, within v i, above))))
]
  where
    named : (v : ℕ) → v < length names → is_named (listed names s None) (name_of names v) ≡ has s v
    named v below =
        ap (λ vs. is_named (map (name_of names) vs) (name_of names v)) (members_within (has s) (length names) 64 are.few within)
        ∙ named_in names are (has s) (members_below (has s) (length names)) (members-are (has s) (length names)) v below
        ∙ is_in_within (has s) (length names) within v

-- ---- the walk over them

-- the first of some vertices that a test holds of stands twice
abbrev first_met : (ℕ → Bool) → (ℕ → List ℕ) → List ℕ → Option NameFault
first_met walked name [] = None
first_met walked name (v ∷ vs) = cond (walked v) (Some (twice (name v))) (first_met walked name vs)

met-append : (walked : ℕ → Bool) (name : ℕ → List ℕ) (xs ys : List ℕ) → first_met walked name (xs ++ ys)
    ≡ or_fault (first_met walked name xs) (first_met walked name ys)
met-append walked name [] ys = refl
met-append walked name (x ∷ xs) ys = go (walked x) (met-append walked name xs ys)
  where
    go : (b : Bool) → first_met walked name (xs ++ ys) ≡ or_fault (first_met walked name xs) (first_met walked name ys)
        → cond b (Some (twice (name x))) (first_met walked name (xs ++ ys)) ≡ or_fault (cond b (Some (twice (name x))) (first_met walked name xs))
        (first_met walked name ys)
    go true h = refl
    go false h = h

-- no member was walked
met_none : (walked : ℕ → Bool) (name : ℕ → List ℕ) (s : ℕ → Bool) (n : ℕ) → ((v : ℕ) → v < n → s v ≡ true → walked v ≡ false)
    → first_met walked name (members_below s n) ≡ None
unfolding members_below
met_none walked name s zero none = refl
met_none walked name s (suc n) none =
    met-append walked name (members_below s n) (cond (s n) (n ∷ []) [])
    ∙ ap (λ o. or_fault o (first_met walked name (cond (s n) (n ∷ []) []))) (met_none walked name s n (λ v l i. none v (omega arith) i))
    ∙ last (s n) refl
  where
    last : (b : Bool) → s n ≡ b → first_met walked name (cond b (n ∷ []) []) ≡ None
    last true e = ap (λ c. cond c (Some (twice (name n))) None) (none n (omega arith) e)
    last false e = refl

-- a member was walked, and no lower one
met_lowest : (walked : ℕ → Bool) (name : ℕ → List ℕ) (s : ℕ → Bool) (k n : ℕ) → k < n → s k ≡ true → walked k ≡ true
    → ((v : ℕ) → v < k → s v ≡ true → walked v ≡ false) → first_met walked name (members_below s n) ≡ Some (twice (name k))
unfolding members_below
met_lowest walked name s k zero below i met low = absurd (omega arith)
met_lowest walked name s k (suc n) below i met low = met-append walked name (members_below s n) (cond (s n) (n ∷ []) []) ∙ elim (cases_eq k n) [
  | inl e ↦
      ap (λ o. or_fault o (first_met walked name (cond (s n) (n ∷ []) []))) (met_none walked name s n (λ v l j. low v (omega (arith, e, l)) j))
      ∙ ap (λ b. first_met walked name (cond b (n ∷ []) [])) (ap s (sym e) ∙ i)
      ∙ ap (λ c. cond c (Some (twice (name n))) None) (ap walked (sym e) ∙ met)
      ∙ ap (λ (v : ℕ). Some (twice (name v))) (sym e)
  | inr d ↦ ap (λ o. or_fault o (first_met walked name (cond (s n) (n ∷ []) []))) (met_lowest walked name s k n (omega (arith, d)) i met low)
]

module _ (all names : List (List ℕ)) (are : AreNames names) (known : (v : ℕ) → v < length names → is_named all (name_of names v) ≡ true) where
  -- the fault of the name of a vertex is that it was walked
  vertex_fault : (test : List ℕ → Bool) (v : ℕ) → v < length names → name_fault all names test (name_of names v)
      ≡ cond (test (name_of names v)) (Some (twice (name_of names v))) None
  vertex_fault test v below = rw (known v below, (at_index names are v below).0) refl

  -- the first fault of the names of some vertices
  walk_met : (test : List ℕ → Bool) (walked s : ℕ → Bool) (vs : List ℕ) → AreMembers s (length names) vs
      → ((v : ℕ) → is_in vs v ≡ true → test (name_of names v) ≡ walked v) → first_fault all names test (map (name_of names) vs) ≡ first_met walked
      (name_of names) vs
  walk_met test walked s [] members same = refl
  walk_met test walked s (v ∷ vs) members same =
      ap (λ o. or_fault o (first_fault all names (λ m. test m || bytes_eq m (name_of names v)) (map (name_of names) vs)))
      (vertex_fault test v members.0 ∙ ap (λ b. cond b (Some (twice (name_of names v))) None) (same v (first v)))
      ∙ go (walked v) (walk_met (λ m. test m || bytes_eq m (name_of names v)) walked s vs members.3 later)
    where
      first : (u : ℕ) → ((u == u) || is_in vs u) ≡ true
      first u = rw (eq-eqb u u refl) refl

      later : (u : ℕ) → is_in vs u ≡ true → (test (name_of names u) || bytes_eq (name_of names u) (name_of names v)) ≡ walked u
      later u i =
          let e : (u == v) ≡ false = false_from_ne_true (u == v)
          (λ t. let o = members.2 in let h : is_in vs v ≡ true = subst (λ k. is_in vs k ≡ true) (eqb-true u v t) i in cc) in
          let d = differ names are u v (in_below s (length names) vs u members.3 i) members.0 in
          let p = same u (ap (λ b. (u == v) || b) i ∙ or_true (u == v)) in
          grind arith

      go : (b : Bool) → first_fault all names (λ m. test m || bytes_eq m (name_of names v)) (map (name_of names) vs) ≡ first_met walked (name_of names) vs
          → or_fault (cond b (Some (twice (name_of names v))) None)
          (first_fault all names (λ m. test m || bytes_eq m (name_of names v)) (map (name_of names) vs))
          ≡ cond b (Some (twice (name_of names v))) (first_met walked (name_of names) vs)
      go true h = refl
      go false h = h

  module _ (walked s : ℕ) (within : Within (length names) (has s)) where
    marked_fault : first_fault all names (walked_in names walked) (listed names s None) ≡ first_met (has walked) (name_of names)
        (members_below (has s) (length names))
    marked_fault =
        ap (λ vs. first_fault all names (walked_in names walked) (map (name_of names) vs)) (members_within (has s) (length names) 64 are.few within)
        ∙ walk_met (walked_in names walked) (has walked) (has s) (members_below (has s) (length names)) (members-are (has s) (length names))
        (λ v i. ap (has walked) (sym (at_index names are v (in_below (has s) (length names) (members_below (has s) (length names)) v
        (members-are (has s) (length names)) i)).1))

    -- a set of which no vertex was walked has no fault
    pub apart_clear : ((v : ℕ) → has s v ≡ true → has walked v ≡ false) → first_fault all names (walked_in names walked) (listed names s None) ≡ None
    apart_clear apart = marked_fault ∙ met_none (has walked) (name_of names) (has s) (length names) (λ v l i. apart v i)

    -- the lowest vertex that was walked is named twice
    pub lowest_twice : (k : ℕ) → has s k ≡ true → has walked k ≡ true → ((v : ℕ) → has s v ≡ true → has walked v ≡ true → k ≤ v)
        → first_fault all names (walked_in names walked) (listed names s None) ≡ Some (twice (name_of names k))
    lowest_twice k i met least = marked_fault ∙ met_lowest (has walked) (name_of names) (has s) k (length names) (within k i) i met
        (λ v l j. false_from_ne_true (has walked v) (λ t. absurd (omega (arith, l, least v j t))))

-- ---- the marked vertices of a diagram

-- each of some vertices is below n
entry_below : (s : ℕ → Bool) (n : ℕ) (vs : List ℕ) → AreMembers s n vs → (i : ℕ) → i < length vs → get_or vs i 0 < n
entry_below s n [] members i h = absurd (omega arith)
entry_below s n (v ∷ vs) members zero h = members.0
entry_below s n (v ∷ vs) members (suc i) h = entry_below s n vs members.3 i (omega arith)

-- an observed name is a name of the graph
pub known_names : (d : Diagram) (v : ℕ) → v < length d.observed.names → is_named d.read.names (name_of d.observed.names v) ≡ true
known_names d = subst (λ (ns : List (List ℕ)). (v : ℕ) → v < length ns → is_named d.read.names (name_of ns v) ≡ true) (sym (part_of d).names) known
  where
    known : (v : ℕ) → v < length (observed_names d.read) → is_named d.read.names (name_of (observed_names d.read) v) ≡ true
    known v below =
        let vs : List ℕ = observed_below (has d.read.latent.bits) d.read.graph.n in
        let at : v < length vs = subst (λ k. v < k) (length-map vs (name_of d.read.names)) below in
        let old : get_or vs v 0 < d.read.graph.n = entry_below (λ u. not (has d.read.latent.bits u)) d.read.graph.n vs
        (members-are (λ u. not (has d.read.latent.bits u)) d.read.graph.n) v at in
        ap (is_named d.read.names) (get_or-map (name_of d.read.names) vs v 0 [] at)
        ∙ (at_index d.read.names d.read.named (get_or vs v 0) (subst (λ k. get_or vs v 0 < k) (sym d.read.sized) old)).0

-- the marked vertices are vertices of the graph, and not hidden
marked_within : (g : ReadGraph) (mark : Marked) → Within g.graph.n (has (marked g mark))
marked_within g Exposures = g.marked.exposures_below
marked_within g Outcomes = g.marked.outcomes_below
marked_within g Adjusted = g.marked.adjusted_below

marked_shown : (g : ReadGraph) (mark : Marked) → Apart (has (marked g mark)) (has g.latent.bits)
marked_shown g Exposures = g.marked.exposures_latent
marked_shown g Outcomes = g.marked.outcomes_latent
marked_shown g Adjusted = g.marked.adjusted_latent

-- their names are those of their set in the numbers of the observed vertices
pub default_names : (d : Diagram) (mark : Marked) (s : ℕ) → ((v : ℕ) → has s v ≡ observed_set d.read (marked d.read mark) v)
    → names_or d.read mark None ≡ listed d.observed.names s None
default_names d mark s is =
    listed_observed d.read.names d.read.graph.n d.read.latent.bits (marked d.read mark) s d.read.graph.small (marked_within d.read mark)
    (marked_shown d.read mark) is
    ∙ ap (λ (ns : List (List ℕ)). listed ns s None) (sym (part_of d).names)

-- and that set is within them
pub marked_inside : (d : Diagram) (mark : Marked) (s : ℕ) → ((v : ℕ) → has s v ≡ observed_set d.read (marked d.read mark) v)
    → Within (length d.observed.names) (has s)
marked_inside d mark s is v i =
    let vs : List ℕ = observed_below (has d.read.latent.bits) d.read.graph.n in
    subst (λ (ns : List (List ℕ)). v < length ns) (sym (part_of d).names) (subst (λ k. v < k) (sym (length-map vs (name_of d.read.names)))
    (ltb-true v (length vs) (left_true (nat_lt v (length vs)) (has (marked d.read mark) (get_or vs v 0)) (sym (is v) ∙ i))))
