-- A written graph, line by line.
use Rattle.std.proofs.Common.{◌≡◌, ◌<◌, ◌+◌, ℕ, zero, suc, Bool, true, List, [], ◌∷◌, ◌++◌, map, length, drop, get_or, Option, Some, refl, sym, ap}
use Rattle.std.proofs.Common.{◌∙◌, arith, append_assoc, drop-cons}
use Rattle.std.specs.Prelude.{slice_get}
use Rattle.std.specs.List.{flat_map}
use Rattle.std.proofs.lemmas.List.{length-map, map-append}
use Rattle.std.proofs.lemmas.Option.{get_or_from_slice_get}
use Rattle.mixed_graph.specs.Vocabulary.{members_below, name_of}
use Rattle.mixed_graph.proofs.Members.{length-members-suc, length-members-zero}
use Rattle.dag_reader.specs.declared.marks.Role.{Role}
use Rattle.answer_text.specs.Vocabulary.{printed}
use Rattle.dag_reader.specs.Rows.{count_up, pairs_below}
use Rattle.dag_reader.specs.Written.{role_text, vertex_lines, edge_lines}
use Rattle.dag_reader.proofs.RowPairs.{members-zero, members-suc}

ends_with : (out a b c more : List ℕ) → (out ++ (a ++ (b ++ (c ++ 10 ∷ [])))) ++ more ≡ out ++ (a ++ (b ++ (c ++ 10 ∷ more)))
ends_with out a b c more = simp append_assoc

line_ends : (out a b more : List ℕ) → (out ++ (a ++ (b ++ 10 ∷ []))) ++ more ≡ out ++ (a ++ (b ++ 10 ∷ more))
line_ends out a b more = simp append_assoc

drop_next : {A : Type 0} (xs : List A) (i : ℕ) (d : A) → i < length xs → drop i xs ≡ get_or xs i d ∷ drop (i + 1) xs
drop_next xs i d h = (let e : suc i ≡ i + 1 = omega arith in drop-cons xs i d h ∙ ap (λ k. get_or xs i d ∷ drop k xs) e)

-- one more line of an edge
pub edge_line : (out new whole sign : List ℕ) (names : List (List ℕ)) (edges : List (ℕ × ℕ)) (i : ℕ) (d : ℕ × ℕ) (from to : List ℕ) → i < length edges
    → slice_get names (get_or edges i d).0 ≡ Some from → slice_get names (get_or edges i d).1 ≡ Some to
    → new ≡ out ++ (printed from ++ (sign ++ (printed to ++ 10 ∷ []))) → out ++ edge_lines sign names (drop i edges) ≡ whole
    → new ++ edge_lines sign names (drop (i + 1) edges) ≡ whole
edge_line out new whole sign names edges i d from to below is_from is_to is so =
    let a : name_of names (get_or edges i d).0 ≡ from = get_or_from_slice_get names (get_or edges i d).0 from [] is_from in
    let b : name_of names (get_or edges i d).1 ≡ to = get_or_from_slice_get names (get_or edges i d).1 to [] is_to in
    let more = edge_lines sign names (drop (i + 1) edges) in
    ap (λ l. l ++ more) is ∙ ends_with out (printed from) sign (printed to) more
    ∙ ap (λ n. out ++ (printed n ++ (sign ++ (printed to ++ 10 ∷ more)))) (sym a)
    ∙ ap (λ n. out ++ (printed (name_of names (get_or edges i d).0) ++ (sign ++ (printed n ++ 10 ∷ more)))) (sym b)
    ∙ ap (λ l. out ++ edge_lines sign names l) (sym (drop_next edges i d below))
    ∙ so

-- one more line of a vertex
pub vertex_line : (out new whole : List ℕ) (names : List (List ℕ)) (roles : List (Option Role)) (i : ℕ) (d : Option Role) (name : List ℕ) → i < length roles
    → length roles ≡ length names
    → slice_get names i ≡ Some name → new ≡ out ++ (printed name ++ (role_text (get_or roles i d) ++ 10 ∷ [])) → out
    ++ vertex_lines (drop i names) (drop i roles) ≡ whole
    → new ++ vertex_lines (drop (i + 1) names) (drop (i + 1) roles) ≡ whole
vertex_line out new whole names roles i d name below same is_name is so =
    let a : get_or names i [] ≡ name = get_or_from_slice_get names i name [] is_name in
    let more = vertex_lines (drop (i + 1) names) (drop (i + 1) roles) in
    let role = role_text (get_or roles i d) in
    ap (λ l. l ++ more) is ∙ line_ends out (printed name) role more
    ∙ ap (λ n. out ++ (printed n ++ (role ++ 10 ∷ more))) (sym a)
    ∙ ap (λ l. out ++ vertex_lines l (get_or roles i d ∷ drop (i + 1) roles)) (sym (drop_next names i [] (omega arith)))
    ∙ ap (λ l. out ++ vertex_lines (drop i names) l) (sym (drop_next roles i d below))
    ∙ so

-- there are n numbers below n
pub length-count_up : (n : ℕ) → length (count_up n) ≡ n
length-count_up zero = length-members-zero (λ _. true)
length-count_up (suc n) = length-members-suc (λ _. true) n ∙ (let e = length-count_up n in omega arith)

pub length-listed : {A : Type 0} (f : ℕ → A) (n : ℕ) → length (map f (count_up n)) ≡ n
length-listed f n = (let e : length (map f (count_up n)) ≡ length (count_up n) = simp length-map in e ∙ length-count_up n)

pub listed_begin : {A : Type 0} (out : List A) (f : ℕ → A) → out ≡ [] → out ≡ map f (count_up 0)
listed_begin out f is = is ∙ sym (ap (map f) (members-zero (λ _. true)))

pub listed_more : {A : Type 0} (out new : List A) (f : ℕ → A) (k : ℕ) (x : A) → out ≡ map f (count_up k) → x ≡ f k → new ≡ out ++ x ∷ [] → new
    ≡ map f (count_up (k + 1))
listed_more out new f k x so here is =
    let e : k + 1 ≡ suc k = omega arith in
    is ∙ ap (λ l. l ++ x ∷ []) so ∙ ap (λ y. map f (count_up k) ++ y ∷ []) here
    ∙ sym (ap (λ j. map f (count_up j)) e ∙ ap (map f) (members-suc (λ _. true) k) ∙ map-append f (count_up k) (k ∷ []))

-- relations that agree have the same pairs
members-same : (s t : ℕ → Bool) → ((v : ℕ) → s v ≡ t v) → (k : ℕ) → members_below s k ≡ members_below t k
members-same s t is zero = members-zero s ∙ sym (members-zero t)
members-same s t is (suc k) = members-suc s k ∙ rw (members-same s t is k, is k) refl ∙ sym (members-suc t k)

rows_same : (f g : ℕ → List (ℕ × ℕ)) → ((a : ℕ) → f a ≡ g a) → (xs : List ℕ) → flat_map f xs ≡ flat_map g xs
rows_same f g is [] = refl
rows_same f g is (x ∷ xs) = rw (is x, rows_same f g is xs) refl

pub pairs_below-agree : (n : ℕ) (r q : ℕ → ℕ → Bool) → ((a b : ℕ) → r a b ≡ q a b) → pairs_below n r ≡ pairs_below n q
pairs_below-agree n r q is =
    rows_same (λ a. map (λ b. (a, b)) (members_below (r a) n)) (λ a. map (λ b. (a, b)) (members_below (q a) n))
    (λ a. ap (map (λ b. (a, b))) (members-same (r a) (q a) (is a) n)) (count_up n)

-- the whole text from its parts
pub text_whole : (a b c d e : List ℕ) (v x y : List ℕ) → b ≡ a ++ v → c ≡ b ++ x → d ≡ c ++ y → e ≡ d ++ 125 ∷ 10 ∷ [] → e ≡ a
    ++ (v ++ (x ++ (y ++ 125 ∷ 10 ∷ [])))
text_whole a b c d e v x y p q r s = s ∙ rw (r, q, p) (simp append_assoc)
