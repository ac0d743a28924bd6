-- A graph on the numbers of another list of names.
use Rattle.std.proofs.Common.{◌≡◌, ℕ, ◌+◌, ◌<◌, Bool, true, false, ◌&&◌, ◌||◌, ◌==◌, List, [], get_or, set, replicate, length, length-set, nat_lt, ap}
use Rattle.std.proofs.Common.{◌∙◌, sym, refl, arith, inl, inr}
use Rattle.std.proofs.lemmas.Bool.{cases_eq, cases_lt, lt-ltb, le-ltb, eq-eqb, ne_eqb, and_left}
use Rattle.std.proofs.lemmas.List.{get_or-set_same, get_or-set_other, length-replicate, get_or-map, length-map}
use Rattle.mixed_graph.specs.Vocabulary.{has, MixedGraph, index_of, name_of}
use Rattle.mixed_graph.proofs.PairMasks.{blank}
use Rattle.latent_projection.specs.Vocabulary.{renumbered, renumbered_set}
use Rattle.markov_equivalence.specs.Vocabulary.{HasArrowsAlone}
use Rattle.equivalent_command.specs.Numbers.{places}

-- the first i names have their places among the others
pub record ArePlaces (names others : List (List ℕ)) (i : ℕ) (m : List ℕ) : Type 0 where
  pub made : (u : ℕ) → u < i → get_or m u 0 ≡ index_of others (name_of names u)
  pub few : (u : ℕ) → get_or m u 0 < 64
  pub size : length m ≡ 64

pub no_place : (names others : List (List ℕ)) → ArePlaces names others 0 (replicate 64 0)
no_place names others = record {
  made = λ u h. absurd (omega arith);
  few = λ u. (let e = blank 64 u in omega (arith, e));
  size = length-replicate {A = ℕ} 64 0;
}

pub place_more : (names others : List (List ℕ)) (i x : ℕ) (m : List ℕ) → i < 64 → x < 64 → x ≡ index_of others (name_of names i) → ArePlaces names others i m
    → ArePlaces names others (i + 1) (set m i x)
place_more names others i x m below small is r = record {
  made = λ u h. elim (cases_eq u i) [
    | inl e ↦ rw e (get_or-set_same m i x 0 (let s = r.size in omega (arith, s)) ∙ is)
    | inr d ↦ get_or-set_other m i u x 0 d ∙ r.made u (omega arith)
  ];
  few = λ u. elim (cases_eq u i) [
    | inl e ↦ (let g : get_or (set m i x) u 0 ≡ x = rw e (get_or-set_same m i x 0 (let s = r.size in omega (arith, s))) in omega (arith, g, small))
    | inr d ↦ (let g = get_or-set_other m i u x 0 d in let f = r.few u in omega (arith, g, f))
  ];
  size = simp length-set r.size;
}

-- no number is below 0
pub no_member : (s : ℕ → Bool) (j : ℕ) → false ≡ (nat_lt j 0 && s j)
no_member s j = sym (and_left (nat_lt j 0) (s j) (le-ltb j 0 (omega arith)))

-- one more number
pub member_more : (s : ℕ → Bool) (k j : ℕ) (b : Bool) → b ≡ s k → ((nat_lt j k && s j) || (b && (j == k))) ≡ (nat_lt j (k + 1) && s j)
member_more s k j b e = elim (cases_eq j k) [
  | inl q ↦
      let x : nat_lt j k ≡ false = le-ltb j k (omega arith) in
      let y : nat_lt j (k + 1) ≡ true = lt-ltb j (k + 1) (omega arith) in
      let z : (j == k) ≡ true = eq-eqb j k q in
      let w : b ≡ s j = e ∙ ap s (sym q) in
      rw (x, y, z, w) (here (s j))
  | inr d ↦
      let z : (j == k) ≡ false = ne_eqb j k d in
      elim (cases_lt j k) [
        | inl lt ↦
            let x : nat_lt j k ≡ true = lt-ltb j k lt in
            let y : nat_lt j (k + 1) ≡ true = lt-ltb j (k + 1) (omega arith) in
            rw (x, y, z) (before (s j) b)
        | inr ge ↦
            let x : nat_lt j k ≡ false = le-ltb j k ge in
            let y : nat_lt j (k + 1) ≡ false = le-ltb j (k + 1) (omega (arith, ge, d)) in
            rw (x, y, z) (after b)
      ]
]
  where
    here : (c : Bool) → (c && true) ≡ c
    here true = refl
    here false = refl

    before : (c b : Bool) → (c || (b && false)) ≡ c
    before true b = refl
    before false true = refl
    before false false = refl

    after : (b : Bool) → (b && false) ≡ false
    after true = refl
    after false = refl

-- row a of the new graph: that of the place of a
abbrev pub row_at : (at : List ℕ) (n : ℕ) (rows : List ℕ) → ℕ → ℕ → Bool
row_at at n rows a b = nat_lt a n && (nat_lt b n && has (get_or rows (get_or at a 0) 0) (get_or at b 0))

-- an edge of the new graph
pub edge_same : (names others : List (List ℕ)) (at : List ℕ) (n : ℕ) (e : ℕ → ℕ → Bool) → n ≡ length names
    → ((v : ℕ) → v < length names → get_or at v 0 ≡ index_of others (name_of names v)) → (a b : ℕ)
    → (nat_lt a n && (nat_lt b n && e (get_or at a 0) (get_or at b 0)))
    ≡ (nat_lt a (length (places names others)) && renumbered_set (places names others) (e (get_or (places names others) a 0)) b)
edge_same names others at n e size is a b =
    let len : length (places names others) ≡ n = (let e : length (places names others) ≡ length names = simp length-map refl in e ∙ sym size) in
    let same : (v : ℕ) → v < n → get_or at v 0 ≡ get_or (places names others) v 0 =
    (λ v h. is v (omega (arith, size)) ∙ sym (get_or-map (index_of others) names v [] 0 (omega (arith, size)))) in
    rw len (elim (cases_lt a n) [
      | inl x ↦ elim (cases_lt b n) [
        | inl y ↦ rw (same a x, same b y) refl
        | inr y ↦ (let f : nat_lt b n ≡ false = le-ltb b n y in rw f refl)
      ]
      | inr x ↦ (let f : nat_lt a n ≡ false = le-ltb a n x in rw f refl)
    ])

-- numbered anew, a graph without bidirected edges has none
pub renumbered_arrows : (p : MixedGraph) (vs : List ℕ) → HasArrowsAlone p → HasArrowsAlone (renumbered p vs)
renumbered_arrows p vs none u v = (let z = none (get_or vs u 0) (get_or vs v 0) in grind arith)
