-- Each text has one answer.
use Rattle.std.proofs.Common.{◌≡◌, ◌<◌, ◌≤◌, ℕ, zero, suc, Bool, true, false, List, [], ◌∷◌, length, drop, take, Option, Some, None, Result, refl}
use Rattle.std.proofs.Common.{sym, ap, subst, ◌∙◌, arith, one-add, length-drop}
use Rattle.std.specs.Prelude.{cond, ◌==◌}
use Rattle.std.specs.List.{prefix_len}
use Rattle.answer_text.specs.Vocabulary.{is_white, is_edge_byte, is_name_byte}
use Rattle.dag_reader.specs.Bytes.{is_run_byte}
use Rattle.mixed_graph.specs.Vocabulary.{is_line_byte}
use Rattle.dag_reader.specs.declared.tokens.Due.{Due}
use Rattle.dag_reader.specs.declared.tokens.Due.TheVariants as dues
use Rattle.dag_reader.specs.Tokens.{Tok, end, value, first, place_of, due_behind, past_white, token_of, token_at, value_at, run_at, is_droppable, quoted_text}
use Rattle.dag_reader.specs.Tokens.{closed_by, quoted_name, quoted_value, edge_token, name_token}
use Rattle.dag_reader.specs.Grammar.{Fault, Said, nothing, Position, at_start, Turn, goes_on, ends, step}
use Rattle.dag_reader.specs.Reading.{AreFirst, rest_says, on_turn, RestSays, Says}
use Rattle.dag_reader.proofs.TokenSteps.{one_more, last_one, end_ends}

-- ---- at most one

same_turn : (turn : Turn) (f g : Position → Said → Option (Result Said Fault)) (r v : Result Said Fault) → on_turn turn f ≡ Some r → on_turn turn g ≡ Some v
    → ((q : Position) (u : Said) → f q u ≡ Some r → g q u ≡ Some v → r ≡ v) → r ≡ v
same_turn (goes_on q u) f g r v a b more = more q u a b
same_turn (ends w) f g r v a b more = cc (sym a ∙ b)

one_rest : (size : ℕ) (due : Due) (p : Position) (s : Said) (ts us : List (ℕ × Tok)) (bytes : List ℕ) (r v : Result Said Fault)
    → AreFirst size due ts bytes → AreFirst size due us bytes → rest_says p s ts ≡ Some r → rest_says p s us ≡ Some v → r ≡ v
unfolding AreFirst rest_says
one_rest size due p s [] us bytes r v a b h k = cc h
one_rest size due p s (t ∷ ts) [] bytes r v a b h k = cc k
one_rest size due p s (t ∷ ts) (u ∷ us) bytes r v a b h k =
    let pairs : ◌≡◌ {A = Tok × List ℕ} (u.1, b.0) (t.1, a.0) = sym b.2 ∙ a.2 in
    let kind : u.1 ≡ t.1 = ap (λ (x : Tok × List ℕ). x.0) pairs in
    let rest : b.0 ≡ a.0 = ap (λ (x : Tok × List ℕ). x.1) pairs in
    let place : u.0 ≡ t.0 = b.1 ∙ sym a.1 in
    let cut : AreFirst size (due_behind t.1) us a.0 = subst (λ (x : Tok × List ℕ). AreFirst size (due_behind x.0) us x.1) pairs b.3 in
    let same : on_turn (step p s t.0 t.1) (λ q w. rest_says q w us) ≡ Some v =
    subst (λ (n : ℕ). on_turn (step p s n t.1) (λ q w. rest_says q w us) ≡ Some v) place
    (subst (λ (x : Tok). on_turn (step p s u.0 x) (λ q w. rest_says q w us) ≡ Some v) kind k) in
    same_turn (step p s t.0 t.1) (λ q w. rest_says q w ts) (λ q w. rest_says q w us) r v h same
    (λ q w m n. one_rest size (due_behind t.1) q w ts us a.0 r v a.3 cut m n)

-- a text says one thing at most
pub one_answer : (text : List ℕ) (r v : Result Said Fault) → Says text r → Says text v → r ≡ v
one_answer text r v a b = one_rest (length text) dues.Token at_start nothing a.tokens b.tokens text r v a.cut b.cut a.says b.says

-- ---- at least one

chosen_len : (b : Bool) (x y : Tok × List ℕ) (n : ℕ) → (b ≡ true → length x.1 ≤ n) → (b ≡ false → length y.1 ≤ n) → length (cond b x y).1 ≤ n
chosen_len true x y n f g = f refl
chosen_len false x y n f g = g refl

run_len : (p : ℕ → Bool) (token : List ℕ → Tok) (b : ℕ) (bs : List ℕ) → p b ≡ true → length (run_at p token (b ∷ bs)).1 ≤ length bs
run_len p token b bs h = rw (h, one-add) (omega (arith, length-drop (prefix_len p bs) bs))

name_len : (bytes : List ℕ) (o : Option (List ℕ × List ℕ)) (after : List ℕ) (text : List ℕ) → o ≡ closed_by text after → length after ≤ length bytes
    → length (quoted_name bytes o).1 ≤ length bytes
name_len bytes None after text is h = omega arith
name_len bytes (Some p) [] text is h = cc is
name_len bytes (Some p) (b ∷ bs) text is h = go (b == 34) is
  where
    go : (c : Bool) → Some p ≡ cond c (Some (text, bs)) None → length p.1 ≤ length bytes
    go true is = let e : ◌≡◌ {A = List ℕ × List ℕ} p (text, bs) = cc is in let l : length p.1 ≡ length bs = ap (λ (x : List ℕ × List ℕ). length x.1) e in
        omega arith
    go false is = cc is

value_len : (bytes : List ℕ) (o : Option (List ℕ × List ℕ)) → length (quoted_value bytes o).1 ≡ length (quoted_name bytes o).1
value_len bytes None = refl
value_len bytes (Some p) = refl

quoted_len : (bs : List ℕ) → length (quoted_name bs (quoted_text bs)).1 ≤ length bs
quoted_len bs =
    let n = prefix_len is_line_byte bs in
    name_len bs (quoted_text bs) (drop n bs) (take n bs) refl (omega (arith, length-drop n bs))

token_len : (b : ℕ) (bs : List ℕ) → length (token_at b bs).1 ≤ length bs
token_len b bs =
    chosen_len (b == 34) _ _ (length bs) (λ _. quoted_len bs)
    (λ _. chosen_len (is_edge_byte b) _ _ (length bs) (run_len is_edge_byte edge_token b bs)
    (λ _. chosen_len (is_name_byte b) _ _ (length bs) (run_len is_name_byte name_token b bs) (λ _. omega arith)))

value_at_len : (b : ℕ) (bs : List ℕ) → length (value_at b bs).1 ≤ length bs
value_at_len b bs =
    chosen_len (b == 34) _ _ (length bs) (λ _. omega (arith, value_len bs (quoted_text bs), quoted_len bs))
    (λ _. chosen_len (is_run_byte b) _ _ (length bs) (run_len is_run_byte (λ run. value (is_droppable run)) b bs) (λ _. omega arith))

of_len : (due : Due) (bs : List ℕ) → ((token_of due bs).0 ≡ end → ⊥) → length (token_of due bs).1 < length bs
of_len due [] h = absurd (h refl)
of_len dues.Token (b ∷ bs) h = omega (arith, token_len b bs)
of_len dues.Value (b ∷ bs) h = omega (arith, value_at_len b bs)

shorter : (due : Due) (bytes : List ℕ) → ((first due bytes).0 ≡ end → ⊥) → length (first due bytes).1 < length bytes
unfolding first
shorter due bytes h = omega (arith, of_len due (past_white bytes) h, length-drop (prefix_len is_white bytes) bytes)

abbrev Some_answer : ℕ → Due → Position → Said → List ℕ → Type 0
Some_answer size due p s bytes = (r : Result Said Fault) × RestSays size due p s bytes r

by_turn : (size : ℕ) (due : Due) (p : Position) (s : Said) (bytes : List ℕ) (turn : Turn) → step p s (place_of size bytes) (first due bytes).0 ≡ turn
    → ((q : Position) (u : Said) → ((first due bytes).0 ≡ end → ⊥) → Some_answer size (due_behind (first due bytes).0) q u (first due bytes).1)
    → Some_answer size due p s bytes
by_turn size due p s bytes (ends r) is more =
    (r, last_one size due p s bytes (first due bytes).1 (place_of size bytes) (first due bytes).0 r refl refl is)
by_turn size due p s bytes (goes_on q u) is more =
    let m = more q u (end_ends p q s u (place_of size bytes) (first due bytes).0 is) in
    (m.0, one_more size due p q s u bytes (first due bytes).1 (place_of size bytes) (first due bytes).0 m.0 refl refl is m.1)

some_rest : (n : ℕ) (size : ℕ) (due : Due) (p : Position) (s : Said) (bytes : List ℕ) → length bytes < n → Some_answer size due p s bytes
some_rest zero size due p s bytes h = absurd (omega arith)
some_rest (suc n) size due p s bytes h =
    by_turn size due p s bytes (step p s (place_of size bytes) (first due bytes).0) refl
    (λ q u not_end. some_rest n size (due_behind (first due bytes).0) q u (first due bytes).1 (omega (arith, shorter due bytes not_end)))

pub some_answer : (text : List ℕ) → (r : Result Said Fault) × Says text r
some_answer text = some_rest (suc (length text)) (length text) dues.Token at_start nothing text (omega arith)
