-- A run of name bytes or an edge behind white space is the first token.
use Rattle.std.proofs.Common.{◌≡◌, ◌<◌, ℕ, Bool, true, false, List, [], ◌∷◌, ◌++◌, length, take, drop, get_or, refl, sym, ap, ap₂, ◌∙◌, arith, inl}
use Rattle.std.proofs.Common.{inr}
use Rattle.std.proofs.lemmas.Bool.{cases_Bool}
use Rattle.std.proofs.lemmas.Bool.Decides.{nat_tests}
use Rattle.std.specs.Prelude.{cond, ◌==◌, ◌&&◌, ◌||◌, not}
use Rattle.std.specs.List.{prefix_len, list_all}
use Rattle.std.specs.Str.{is_utf8}
use Rattle.mixed_graph.specs.Vocabulary.{IsName}
use Rattle.answer_text.specs.Vocabulary.{is_edge_byte, is_name_byte, begins_with_arrow}
use Rattle.dag_reader.specs.Bytes.{begins_name}
use Rattle.dag_reader.specs.declared.marks.Arrow.{Arrow}
use Rattle.dag_reader.specs.declared.marks.Arrow.TheVariants.{Right, Left, Both}
use Rattle.dag_reader.specs.declared.tokens.Due.TheVariants as dues
use Rattle.dag_reader.specs.Tokens.{edge, name, edge_token, name_token, sign_token, run_at, token_of, past_white, first}
use Rattle.dag_reader.specs.Links.{sign_of, ends_edge}
use Rattle.dag_reader.proofs.TextForm.{names_are_lines, behind_byte}
use Rattle.dag_reader.proofs.Printed.{Stops, run_is, no_comment, not_true}

-- a run that isn't empty begins with a byte of its class
begins : (p : ℕ → Bool) (b : ℕ) (bs run : List ℕ) → run ≡ take (prefix_len p (b ∷ bs)) (b ∷ bs) → 0 < length run → p b ≡ true
begins p b bs run is some = elim (cases_Bool (p b)) [
  | inl here ↦ here
  | inr out ↦ absurd (let e : run ≡ [] = is ∙ rw out refl in let n = ap (λ (l : List ℕ). length l) e in omega (arith, n))
]

third : {A : Type 0} (a b c : Bool) (v w x o : A) → a ≡ false → b ≡ false → c ≡ true → cond a v (cond b w (cond c x o)) ≡ x
third a b c v w x o ha hb hc = rw (ha, hb, hc) refl

no_quote_in_name : (b : ℕ) → is_name_byte b ≡ true → ((b == 34) ≡ false) × (is_edge_byte b ≡ false)
no_quote_in_name b h = (grind (arith, nat_tests), grind (arith, nat_tests))

name_is_first : (here run rest : List ℕ) → run ≡ take (prefix_len is_name_byte here) here → rest ≡ drop (prefix_len is_name_byte here) here → 0 < length run
    → token_of dues.Token here ≡ (name_token run, rest)
name_is_first [] run rest is after some = absurd (let n = ap (λ (l : List ℕ). length l) is in omega (arith, n))
name_is_first (b ∷ bs) run rest is after some =
    let here = begins is_name_byte b bs run is some in
    let other = no_quote_in_name b here in
    third (b == 34) (is_edge_byte b) (is_name_byte b) _ _ (run_at is_name_byte name_token (b ∷ bs)) (sign_token b, bs) other.0 other.1 here
    ∙ ap₂ (λ (l t : List ℕ). (name_token l, t)) (sym is) (sym after)

-- an arrow begins with the byte 226
no_arrow : (b : ℕ) (bs : List ℕ) → (b == 226) ≡ false → begins_with_arrow (b ∷ bs) ≡ false
no_arrow b [] h = refl
no_arrow b (c ∷ []) h = refl
no_arrow b (c ∷ d ∷ bs) h = rw h refl

-- what a byte is that surely begins a name
sure_front : (a b c d : Bool) → (a && not (b || c || d)) ≡ true → (b ≡ false) × (c ≡ false) × (d ≡ false)
sure_front true false false false h = (refl, refl, refl)
sure_front true true c d h = cc h
sure_front true false true d h = cc h
sure_front true false false true h = cc h
sure_front false b c d h = cc h

pub sure_name : (run : List ℕ) → 0 < length run → begins_name (get_or run 0 0) ≡ true → name_token run ≡ name false run
sure_name [] some front = absurd (omega arith)
sure_name (b ∷ bs) some front =
    let sure = sure_front (is_name_byte b) (b == 47) (b == 35) (b == 226) front in
    no_comment b bs sure.0 sure.1 (no_arrow b bs sure.2)

-- a bare name whose first byte surely begins one
pub bare_name_here : (bytes here run rest : List ℕ) → here ≡ past_white bytes → run ≡ take (prefix_len is_name_byte here) here
    → rest ≡ drop (prefix_len is_name_byte here) here → 0 < length run → begins_name (get_or run 0 0) ≡ true
    → first dues.Token bytes ≡ (name false run, rest)
unfolding first
bare_name_here bytes here run rest behind is after some front =
    ap (token_of dues.Token) (sym behind) ∙ name_is_first here run rest is after some ∙ ap (λ t. (t, rest)) (sure_name run some front)

-- a run of name bytes that isn't empty
pub name_of_run : (run : List ℕ) → 0 < length run → list_all is_name_byte run ≡ true → is_utf8 run ≡ true → IsName run
name_of_run run some passes utf8 = record { utf8 = utf8; some = some; line = names_are_lines run passes }

-- ---- edges

stops : (rest : List ℕ) → ends_edge rest ≡ true → Stops is_edge_byte rest
stops [] h = tt
stops (b ∷ bs) h = not_true (is_edge_byte b) h

sign_is_first : (a : Arrow) (rest : List ℕ) → ends_edge rest ≡ true → token_of dues.Token (sign_of a ++ rest) ≡ (edge a, rest)
sign_is_first Right rest h = run_is is_edge_byte edge_token (45 ∷ 62 ∷ []) rest refl (stops rest h)
sign_is_first Left rest h = run_is is_edge_byte edge_token (60 ∷ 45 ∷ []) rest refl (stops rest h)
sign_is_first Both rest h = run_is is_edge_byte edge_token (60 ∷ 45 ∷ 62 ∷ []) rest refl (stops rest h)

-- an edge
pub edge_here : (bytes here rest : List ℕ) (a : Arrow) → here ≡ past_white bytes → here ≡ sign_of a ++ rest → ends_edge rest ≡ true
    → first dues.Token bytes ≡ (edge a, rest)
unfolding first
edge_here bytes here rest a behind is h = ap (token_of dues.Token) (sym behind ∙ is) ∙ sign_is_first a rest h

-- what follows an edge is a text
pub behind_sign : (a : Arrow) (rest : List ℕ) → is_utf8 (sign_of a ++ rest) ≡ true → is_utf8 rest ≡ true
behind_sign Right rest h = behind_byte 62 rest (omega arith) (behind_byte 45 (62 ∷ rest) (omega arith) h)
behind_sign Left rest h = behind_byte 45 rest (omega arith) (behind_byte 60 (45 ∷ rest) (omega arith) h)
behind_sign Both rest h =
    behind_byte 62 rest (omega arith) (behind_byte 45 (62 ∷ rest) (omega arith) (behind_byte 60 (45 ∷ 62 ∷ rest) (omega arith) h))
