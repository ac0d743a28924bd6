-- Names that are cut from one block of bytes.
use Rattle.std.proofs.Common.{◌≡◌, ℕ, zero, suc, ◌+◌, ◌-◌, ◌<◌, ◌≤◌, List, [], ◌∷◌, ◌++◌, length, length-append, take, drop, get_or, set, Some, inl, inr}
use Rattle.std.proofs.Common.{refl, ap, ◌∙◌, arith}
use Rattle.std.specs.Prelude.{slice_get, slice_index}
use Rattle.std.proofs.lemmas.Bool.{cases_lt}
use Rattle.std.proofs.lemmas.List.{get_or_append_left, get_or-set_same, get_or-set_other, take-append-le, drop-append-le, length-drop}
use Rattle.std.proofs.lemmas.Option.{slice_get-get_or}
use Rattle.std.proofs.Math.Seq.{get_or-append_seam, drop-append_seam, take-append_seam}
use Rattle.mixed_graph.specs.NameBlocks.{start_of, part, cut, IsBlock}

-- so many names are cut
pub length-cut : (bytes ends : List ℕ) (n : ℕ) → length (cut bytes ends n) ≡ n
length-cut bytes ends zero = refl
length-cut bytes ends (suc n) =
    let e = length-append (cut bytes ends n) (part bytes (start_of ends n) (slice_index ends n) ∷ []) in let r = length-cut bytes ends n in omega (arith, e, r)

-- each stands in its part
cut-at : (bytes ends : List ℕ) (n i : ℕ) (d : List ℕ) → i < n → get_or (cut bytes ends n) i d ≡ part bytes (start_of ends i) (slice_index ends i)
cut-at bytes ends zero i d below = absurd (omega arith)
cut-at bytes ends (suc n) i d below = elim (cases_lt i n) [
  | inl low ↦ get_or_append_left (cut bytes ends n) (part bytes (start_of ends n) (slice_index ends n) ∷ []) d i
      (let l = length-cut bytes ends n in omega (arith, l, low)) ∙ cut-at bytes ends n i d low
  | inr top ↦
      let here : i ≡ length (cut bytes ends n) = (let l = length-cut bytes ends n in omega (arith, l, top)) in
      let same : n ≡ i = omega (arith, top) in
      ap (λ k. get_or (cut bytes ends (suc n)) k d) here
      ∙ get_or-append_seam (cut bytes ends n) (part bytes (start_of ends n) (slice_index ends n)) [] d
      ∙ ap (λ k. part bytes (start_of ends k) (slice_index ends k)) same
]

pub cut-get : (bytes ends : List ℕ) (n i : ℕ) → i < n → slice_get (cut bytes ends n) i ≡ Some (part bytes (start_of ends i) (slice_index ends i))
cut-get bytes ends n i below =
    slice_get-get_or (cut bytes ends n) i [] (let l = length-cut bytes ends n in omega (arith, l, below)) ∙ ap Some (cut-at bytes ends n i [] below)

-- what is appended changes no part before it
part-append : (xs ys : List ℕ) (a b : ℕ) → a ≤ b → b ≤ length xs → part (xs ++ ys) a b ≡ part xs a b
part-append xs ys a b order fits =
    ap (take (b - a)) (drop-append-le a xs ys (omega (arith, order, fits)))
    ∙ take-append-le (b - a) (drop a xs) ys (let l = length-drop a xs in omega (arith, l, order, fits))

part-last : (xs name ys : List ℕ) → part (xs ++ (name ++ ys)) (length xs) (length xs + length name) ≡ name
part-last xs name ys =
    let long : (length xs + length name) - length xs ≡ length name = omega arith in
    ap (λ k. take k (drop (length xs) (xs ++ (name ++ ys)))) long ∙ ap (take (length name)) (drop-append_seam xs (name ++ ys)) ∙ take-append_seam name ys

module _ (bytes ends name : List ℕ) (count e : ℕ) (block : IsBlock bytes ends count) (room : count < length ends) (is : e ≡ length bytes + length name) where
  start_same : (i : ℕ) → i ≤ count → start_of (set ends count e) i ≡ start_of ends i
  start_same zero le = refl
  start_same (suc i) le = ap (λ k. k + 1) (get_or-set_other ends count i e 0 (omega (arith, le)))

  long : length (bytes ++ (name ++ 10 ∷ [])) ≡ length bytes + length name + 1
  long = let a = length-append bytes (name ++ 10 ∷ []) in let b = length-append name (10 ∷ []) in omega (arith, a, b)

  end_here : slice_index (set ends count e) count ≡ e
  end_here = get_or-set_same ends count e 0 room

  cut_same : (i : ℕ) → i ≤ count → cut (bytes ++ (name ++ 10 ∷ [])) (set ends count e) i ≡ cut bytes ends i
  cut_same zero le = refl
  cut_same (suc i) le =
      let at = block.inside i (omega (arith, le)) in
      ap (λ names. names ++ part (bytes ++ (name ++ 10 ∷ [])) (start_of (set ends count e) i) (slice_index (set ends count e) i) ∷ [])
      (cut_same i (omega (arith, le)))
      ∙ ap (λ a. cut bytes ends i ++ part (bytes ++ (name ++ 10 ∷ [])) a (slice_index (set ends count e) i) ∷ []) (start_same i (omega (arith, le)))
      ∙ ap (λ b. cut bytes ends i ++ part (bytes ++ (name ++ 10 ∷ [])) (start_of ends i) b ∷ []) (get_or-set_other ends count i e 0 (omega (arith, le)))
      ∙ ap (λ p. cut bytes ends i ++ p ∷ []) (part-append bytes (name ++ 10 ∷ []) (start_of ends i) (slice_index ends i) at.0 (omega (arith, at.1)))

  -- a name that is appended is the last
  pub cut_more : cut (bytes ++ (name ++ 10 ∷ [])) (set ends count e) (count + 1) ≡ cut bytes ends count ++ name ∷ []
  cut_more =
      ap (cut (bytes ++ (name ++ 10 ∷ [])) (set ends count e)) {x = count + 1} {y = suc count} (omega arith)
      ∙ ap (λ names. names ++ part (bytes ++ (name ++ 10 ∷ [])) (start_of (set ends count e) count) (slice_index (set ends count e) count) ∷ [])
      (cut_same count (omega arith))
      ∙ ap (λ a. cut bytes ends count ++ part (bytes ++ (name ++ 10 ∷ [])) a (slice_index (set ends count e) count) ∷ [])
      (start_same count (omega arith) ∙ block.whole)
      ∙ ap (λ b. cut bytes ends count ++ part (bytes ++ (name ++ 10 ∷ [])) (length bytes) b ∷ []) (end_here ∙ is)
      ∙ ap (λ p. cut bytes ends count ++ p ∷ []) (part-last bytes name (10 ∷ []))

  -- and they fill the block
  pub block_more : count < 64 → IsBlock (bytes ++ (name ++ 10 ∷ [])) (set ends count e) (count + 1)
  block_more few = record {
    few = omega (arith, few);
    whole = ap (start_of (set ends count e)) {x = count + 1} {y = suc count} (omega arith) ∙ omega (arith, end_here, is, long);
    inside = λ i below. elim (cases_lt i count) [
      | inl low ↦
          let at = block.inside i low in
          let s = start_same i (omega (arith, low)) in
          let o = get_or-set_other ends count i e 0 (omega (arith, low)) in
          (omega (arith, at.0, s, o), omega (arith, at.1, o, long))
      | inr top ↦
          let here : i ≡ count = omega (arith, below, top) in
          let s = start_same i (omega (arith, here)) in
          let w : start_of ends i ≡ length bytes = ap (start_of ends) here ∙ block.whole in
          let o : slice_index (set ends count e) i ≡ e = ap (slice_index (set ends count e)) here ∙ end_here in
          (omega (arith, s, w, o, is), omega (arith, o, is, long))
    ];
  }
