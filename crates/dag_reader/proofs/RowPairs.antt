-- Lists of pairs, row by row.
use Rattle.std.proofs.Common.{◌≡◌, ◌+◌, ℕ, suc, Bool, true, false, List, [], ◌∷◌, ◌++◌, map, refl, sym, ap, ◌∙◌, append_assoc, append-nil, arith}
use Rattle.std.specs.Prelude.{cond}
use Rattle.std.specs.List.{flat_map}
use Rattle.std.proofs.lemmas.List.{map-append}
use Rattle.std.proofs.lemmas.Grind.{flat_map-append}
use Rattle.mixed_graph.specs.Vocabulary.{members_below}
use Rattle.dag_reader.specs.Rows.{count_up}

pub members-zero : (s : ℕ → Bool) → members_below s 0 ≡ []
unfolding members_below
members-zero s = refl

pub members-suc : (s : ℕ → Bool) (k : ℕ) → members_below s (suc k) ≡ members_below s k ++ cond (s k) (k ∷ []) []
unfolding members_below
members-suc s k = refl

members-more : (s : ℕ → Bool) (k : ℕ) → members_below s (k + 1) ≡ members_below s k ++ cond (s k) (k ∷ []) []
members-more s k = (let e : k + 1 ≡ suc k = omega arith in ap (members_below s) e) ∙ members-suc s k

abbrev pub row_pairs : ℕ → List ℕ → List (ℕ × ℕ)
row_pairs a bs = map (λ b. (a, b)) bs

pub row_begin : (out : List (ℕ × ℕ)) (a : ℕ) (s : ℕ → Bool) → out ≡ out ++ row_pairs a (members_below s 0)
row_begin out a s = sym (ap (λ l. out ++ row_pairs a l) (members-zero s) ∙ append-nil out)

row_more : (out new init : List (ℕ × ℕ)) (a b : ℕ) (s : ℕ → Bool) (more : List ℕ) → cond (s b) (b ∷ []) [] ≡ more → out ≡ init
    ++ row_pairs a (members_below s b)
    → new ≡ out ++ row_pairs a more → new ≡ init ++ row_pairs a (members_below s (b + 1))
row_more out new init a b s more here so is =
    is ∙ ap (λ l. l ++ row_pairs a more) so ∙ append_assoc init (row_pairs a (members_below s b)) (row_pairs a more)
    ∙ ap (λ l. init ++ l) (sym (map-append (λ x. (a, x)) (members_below s b) more))
    ∙ ap (λ l. init ++ row_pairs a l) (ap (λ l. members_below s b ++ l) (sym here) ∙ sym (members-more s b))

pub row_yes : (out new init : List (ℕ × ℕ)) (a b : ℕ) (s : ℕ → Bool) → s b ≡ true → out ≡ init ++ row_pairs a (members_below s b)
    → new ≡ out ++ (a, b) ∷ [] → new ≡ init ++ row_pairs a (members_below s (b + 1))
row_yes out new init a b s here so is = row_more out new init a b s (b ∷ []) (rw here refl) so is

pub row_no : (out new init : List (ℕ × ℕ)) (a b : ℕ) (s : ℕ → Bool) → s b ≡ false → out ≡ init ++ row_pairs a (members_below s b)
    → new ≡ out → new ≡ init ++ row_pairs a (members_below s (b + 1))
row_no out new init a b s out_here so is = row_more out new init a b s [] (rw out_here refl) so (is ∙ sym (append-nil out))

pub rows_begin : {A : Type 0} (out : List A) (f : ℕ → List A) → out ≡ [] → out ≡ flat_map f (count_up 0)
rows_begin out f is = is ∙ sym (ap (flat_map f) (members-zero (λ _. true)))

pub rows_more : {A : Type 0} (out new : List A) (f : ℕ → List A) (a : ℕ) → out ≡ flat_map f (count_up a) → new ≡ out ++ f a → new
    ≡ flat_map f (count_up (a + 1))
rows_more out new f a so is =
    is ∙ ap (λ l. l ++ f a) so
    ∙ sym (ap (flat_map f) (members-more (λ _. true) a) ∙ flat_map-append f (count_up a) (a ∷ []) ∙ ap (λ l. flat_map f (count_up a) ++ l) (append-nil (f a)))
