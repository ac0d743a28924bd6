-- Two sets have one hedge at which the procedure stops, as far as its roots, its choices and its links go.
use Rattle.std.proofs.Common.{◌≡◌, ℕ, zero, suc, ◌<◌, ◌≤◌, ◌⊎◌, ◌==◌, ◌||◌, Bool, true, false, List, inl, inr, refl, sym, ap, ap₂, ◌∙◌, subst, arith}
use Rattle.std.proofs.Common.{IsTrue}
use Rattle.std.specs.Prelude.{slice_index}
use mathlib.Core.Path.{fun_ext}
use Rattle.std.proofs.lemmas.Bool.{cases_Bool, cases_lt, false≢true}
use Rattle.mixed_graph.specs.Vocabulary.{has, MixedGraph, taken_by}
use Rattle.hedge.specs.declared.hedge.Hedge.{Hedge}
use Rattle.hedge.specs.Vocabulary.{IsInside, IsNearestChild, IsChoiceOf, IsLowest, IsNextOf, IsNextLink, IsEarliest, AreLinks}
use Rattle.identification_theory.specs.Vocabulary.{AreRoots}
use Rattle.identification_theory.proofs.Unique.{one_set}
use Rattle.identify.specs.Vocabulary.{IsHedgeOf}

-- ---- choices

-- a vertex has one nearest child
pub one_nearest : (g : MixedGraph) (s : ℕ → Bool) (v c d : ℕ) → IsNearestChild g s v c → IsNearestChild g s v d → d ≡ c
one_nearest g s v c d a b = go (a.nearest d b.arrows b.arrow b.distance) (b.nearest c a.arrows a.arrow a.distance)
  where
    go : (a.arrows < b.arrows) ⊎ ((a.arrows ≡ b.arrows) × (c ≤ d)) → (b.arrows < a.arrows) ⊎ ((b.arrows ≡ a.arrows) × (d ≤ c)) → d ≡ c
    go (inl p) (inl q) = omega (arith, p, q)
    go (inl p) (inr q) = omega (arith, p, q.0)
    go (inr p) (inl q) = omega (arith, p.0, q)
    go (inr p) (inr q) = omega (arith, p.1, q.1)

-- and one choice
one_choice : (g : MixedGraph) (within toward : ℕ → Bool) (v c d : ℕ) → IsChoiceOf g within toward v c → IsChoiceOf g within toward v d → d ≡ c
one_choice g within toward v c d (inl a) (inl b) = one_nearest _ toward v c d a.1 b.1
one_choice g within toward v c d (inl a) (inr b) = absurd (b.0 a.0)
one_choice g within toward v c d (inr a) (inl b) = absurd (a.0 b.0)
one_choice g within toward v c d (inr a) (inr b) = b.1 ∙ sym a.1

-- ---- links

one_lowest : (s : ℕ → Bool) (v w : ℕ) → IsLowest s v → IsLowest s w → w ≡ v
one_lowest s v w a b = let p = a.least w b.member in let q = b.least v a.member in omega (arith, p, q)

one_next_of : (g : MixedGraph) (s found : ℕ → Bool) (v w : ℕ) → IsNextOf g s found v → IsNextOf g s found w → w ≡ v
one_next_of g s found v w a b =
    let p = a.least w b.member b.new b.joined in let q = b.least v a.member a.new a.joined in omega (arith, p, q)

one_next : (g : MixedGraph) (small big found : ℕ → Bool) (v w : ℕ) → IsNextLink g small big found v → IsNextLink g small big found w → w ≡ v
one_next g small big found v w (inl a) (inl b) = one_next_of g small found v w a b
one_next g small big found v w (inl a) (inr b) = absurd (false≢true (sym a.new ∙ b.0 v a.member))
one_next g small big found v w (inr a) (inl b) = absurd (false≢true (sym b.new ∙ a.0 w b.member))
one_next g small big found v w (inr a) (inr b) = one_next_of g big found v w a.1 b.1

-- lists with the same first i entries have taken the same
same_taken : (found other : List ℕ) (i : ℕ) → ((j : ℕ) → j < i → slice_index other j ≡ slice_index found j) → (v : ℕ) → taken_by other i v ≡ taken_by found i v
same_taken found other zero same v = refl
same_taken found other (suc i) same v =
    ap₂ (λ a b. a || b) (same_taken found other i (λ j lt. same j (omega (arith, lt))) v) (ap (λ (w : ℕ). v == w) (same i (omega arith)))

-- the next link is a member of big, and is new
next_member : (g : MixedGraph) (small big found : ℕ → Bool) → ((v : ℕ) → IsTrue (small v) → IsTrue (big v)) → (v : ℕ) → IsNextLink g small big found v
    → IsTrue (big v)
next_member g small big found inside v (inl a) = inside v a.member
next_member g small big found inside v (inr a) = a.1.member

next_new : (g : MixedGraph) (small big found : ℕ → Bool) (v : ℕ) → IsNextLink g small big found v → found v ≡ false
next_new g small big found v (inl a) = a.new
next_new g small big found v (inr a) = a.1.new

module _ (g : MixedGraph) (small big : ℕ → Bool) (inside : (v : ℕ) → IsTrue (small v) → IsTrue (big v)) (found partner : List ℕ) (count : ℕ)
    (other other_partner : List ℕ) (other_count : ℕ) (a : AreLinks g small big found partner count)
    (b : AreLinks g small big other other_partner other_count) where
  -- the entry at i, where those before it are the same
  entry_next : (i : ℕ) → i < count → i < other_count → ((j : ℕ) → j < i → slice_index other j ≡ slice_index found j)
      → slice_index other i ≡ slice_index found i
  entry_next zero lt less same = one_lowest small (slice_index found 0) (slice_index other 0) a.first b.first
  entry_next (suc i) lt less same =
      let taken : taken_by other (suc i) ≡ taken_by found (suc i) = fun_ext (same_taken found other (suc i) same) in
      one_next g small big (taken_by found (suc i)) (slice_index found (suc i)) (slice_index other (suc i)) (a.next (suc i) (omega arith) lt)
      (subst (λ (f : ℕ → Bool). IsNextLink g small big f (slice_index other (suc i))) taken (b.next (suc i) (omega arith) less))

  pub entries_same : (n : ℕ) → n ≤ count → n ≤ other_count → (j : ℕ) → j < n → slice_index other j ≡ slice_index found j
  entries_same zero le few j lt = absurd (omega (arith, lt))
  entries_same (suc n) le few j lt =
      let before : (k : ℕ) → k < n → slice_index other k ≡ slice_index found k = entries_same n (omega (arith, le)) (omega (arith, few)) in
      elim (cases_lt j n) [
        | inl less ↦ before j less
        | inr ge ↦
            let e : n ≡ j = omega (arith, ge, lt) in
            subst (λ (k : ℕ). slice_index other k ≡ slice_index found k) e (entry_next n (omega (arith, le)) (omega (arith, few)) before)
      ]

  -- where all of big is found no further entry comes
  pub not_more : count < other_count → ⊥
  not_more lt =
      let some = a.some in
      let more = b.next count some lt in
      let w = slice_index other count in
      let there : taken_by other count w ≡ true =
      same_taken found other count (entries_same count (omega arith) (omega (arith, lt))) w
      ∙ a.all w (next_member g small big (taken_by other count) inside w more) in
      false≢true (sym (next_new g small big (taken_by other count) w more) ∙ there)

-- ---- hedges

-- two hedges have the same sets, choices and links
pub record AreAlike (h k : Hedge) : Type 0 where
  pub big : k.big.bits ≡ h.big.bits
  pub small : k.small.bits ≡ h.small.bits
  pub roots : k.roots.bits ≡ h.roots.bits
  pub choices : (v : ℕ) → v < 64 → slice_index k.choice.next v ≡ slice_index h.choice.next v
  pub count : k.links.count ≡ h.links.count
  pub entries : (i : ℕ) → i < h.links.count → slice_index k.links.found i ≡ slice_index h.links.found i
  pub partners : (i : ℕ) → 0 < i → i < h.links.count → slice_index k.links.partner i ≡ slice_index h.links.partner i

-- entries that are the same have one earliest partner
one_earliest : (g : MixedGraph) (found other : List ℕ) (i v p q : ℕ) → ((j : ℕ) → j < i → slice_index other j ≡ slice_index found j)
    → IsEarliest g found i v p → IsEarliest g other i v q → q ≡ p
one_earliest g found other i v p q same a b = elim (cases_lt a.place b.place) [
  | inl lt ↦ absurd (false≢true (sym (b.earliest a.place lt) ∙ ap (g.both v) (same a.place a.earlier ∙ a.is) ∙ a.joined))
  | inr ge ↦ elim (cases_lt b.place a.place) [
    | inl lt ↦ absurd (false≢true (sym (a.earliest b.place lt) ∙ ap (g.both v) (sym (same b.place b.earlier) ∙ b.is) ∙ b.joined))
    | inr le ↦
        let e : b.place ≡ a.place = omega (arith, ge, le) in
        sym b.is ∙ ap (λ (k : ℕ). slice_index other k) e ∙ same a.place a.earlier ∙ a.is
  ]
]

module _ (g : MixedGraph) (h k : Hedge) (bigs : k.big.bits ≡ h.big.bits) (smalls : k.small.bits ≡ h.small.bits) (inside : IsInside h.small.bits h.big.bits)
    (a : IsHedgeOf g h) (b : IsHedgeOf g k) where
  roots_same : k.roots.bits ≡ h.roots.bits
  roots_same = one_set k.roots.bits h.roots.bits _ (subst (λ (s : ℕ). AreRoots g s k.roots.bits) smalls b.roots) a.roots

  choices_same : (v : ℕ) → v < 64 → slice_index k.choice.next v ≡ slice_index h.choice.next v
  choices_same v lt = elim (cases_Bool (has h.small.bits v)) [
    | inl i ↦ one_choice g (has h.small.bits) (has h.roots.bits) v (slice_index h.choice.next v) (slice_index k.choice.next v) (a.inner v lt i)
        (subst (λ (s : ℕ). IsChoiceOf g (has h.small.bits) (has s) v (slice_index k.choice.next v)) roots_same
        (subst (λ (s : ℕ). IsChoiceOf g (has s) (has k.roots.bits) v (slice_index k.choice.next v)) smalls
        (b.inner v lt (ap (λ (s : ℕ). has s v) smalls ∙ i))))
    | inr o ↦ one_choice g (has h.big.bits) (has h.small.bits) v (slice_index h.choice.next v) (slice_index k.choice.next v) (a.outer v lt o)
        (subst (λ (s : ℕ). IsChoiceOf g (has h.big.bits) (has s) v (slice_index k.choice.next v)) smalls
        (subst (λ (s : ℕ). IsChoiceOf g (has s) (has k.small.bits) v (slice_index k.choice.next v)) bigs
        (b.outer v lt (ap (λ (s : ℕ). has s v) smalls ∙ o))))
  ]

  links_too : AreLinks g (has h.small.bits) (has h.big.bits) k.links.found k.links.partner k.links.count
  links_too = subst (λ (s : ℕ). AreLinks g (has s) (has h.big.bits) k.links.found k.links.partner k.links.count) smalls
      (subst (λ (s : ℕ). AreLinks g (has k.small.bits) (has s) k.links.found k.links.partner k.links.count) bigs b.links)

  count_same : k.links.count ≡ h.links.count
  count_same = elim (cases_lt h.links.count k.links.count) [
    | inl lt ↦ absurd (not_more g (has h.small.bits) (has h.big.bits) inside h.links.found h.links.partner h.links.count k.links.found k.links.partner
        k.links.count a.links links_too lt)
    | inr ge ↦ elim (cases_lt k.links.count h.links.count) [
      | inl lt ↦ absurd (not_more g (has h.small.bits) (has h.big.bits) inside k.links.found k.links.partner k.links.count h.links.found h.links.partner
          h.links.count links_too a.links lt)
      | inr le ↦ omega (arith, ge, le)
    ]
  ]

  found_same : (i : ℕ) → i < h.links.count → slice_index k.links.found i ≡ slice_index h.links.found i
  found_same i lt = entries_same g (has h.small.bits) (has h.big.bits) inside h.links.found h.links.partner h.links.count k.links.found k.links.partner
      k.links.count a.links links_too h.links.count (omega arith) (let e = count_same in omega (arith, e)) i lt

  partners_same : (i : ℕ) → 0 < i → i < h.links.count → slice_index k.links.partner i ≡ slice_index h.links.partner i
  partners_same i some lt = one_earliest g h.links.found k.links.found i (slice_index h.links.found i) (slice_index h.links.partner i)
      (slice_index k.links.partner i) (λ j less. found_same j (omega (arith, less, lt))) (a.links.partners i some lt)
      (subst (λ (v : ℕ). IsEarliest g k.links.found i v (slice_index k.links.partner i)) (found_same i lt)
      (b.links.partners i some (let e = count_same in omega (arith, lt, e))))

  -- two hedges of the procedure with the same sets are alike
  pub hedges_alike : AreAlike h k
  hedges_alike = record {
    big = bigs;
    small = smalls;
    roots = roots_same;
    choices = choices_same;
    count = count_same;
    entries = found_same;
    partners = partners_same;
  }
