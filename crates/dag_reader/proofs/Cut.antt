-- The tokens of a written graph.
use Rattle.std.proofs.Common.{◌≡◌, ◌<◌, ◌+◌, ℕ, true, false, List, [], ◌∷◌, ◌++◌, length, drop, Option, Some, None, refl, sym, ap, subst, ◌∙◌}
use Rattle.std.proofs.Common.{append_assoc, one-add}
use Rattle.std.specs.Prelude.{cond, codes, not, All}
use Rattle.std.proofs.lemmas.List.Elements.{All-head, All-tail}
use Rattle.std.specs.List.{prefix_len}
use Rattle.dag_reader.specs.declared.marks.Arrow.{Arrow}
use Rattle.dag_reader.specs.declared.marks.Arrow.TheVariants.{Right, Both}
use Rattle.dag_reader.specs.declared.marks.Role.{Role}
use Rattle.dag_reader.specs.declared.marks.Role.TheVariants.{Exposure, Outcome, Adjusted, Latent}
use Rattle.answer_text.specs.Vocabulary.{is_white, is_name_byte, is_plain, printed}
use Rattle.dag_reader.specs.declared.tokens.Due.{Due}
use Rattle.dag_reader.specs.declared.tokens.Due.TheVariants as dues
use Rattle.dag_reader.specs.Tokens.{Tok, open_brace, close_brace, open_bracket, close_bracket, edge, name, end, first, token_of, due_behind, place_of}
use Rattle.mixed_graph.specs.Vocabulary.{IsName, name_of}
use Rattle.dag_reader.specs.Reading.{AreFirst}
use Rattle.dag_reader.specs.Spelled.{Spelled, kinds}
use Rattle.dag_reader.specs.Syntax.{Word, single, bare, Attrs, attr_list, Statement, vertex, chain, Text, body_tokens, attrs_tokens, text_tokens, word_token}
use Rattle.dag_reader.specs.Written.{Drawn, IsDrawn, role_text, vertex_lines, edge_lines, written}
use Rattle.dag_reader.proofs.Printed.{first_here, printed_first, Stops}

-- these are the first tokens, and none of them wants a value behind it
abbrev pub Cut : List Tok → List ℕ → Type 0
Cut [] bytes = Unit {0}
Cut (t ∷ ts) bytes = (rest : List ℕ) × (due_behind t ≡ dues.Token) × (first dues.Token bytes ≡ (t, rest)) × Cut ts rest

skip : (w k : ℕ) (bytes : List ℕ) → is_white w ≡ true → drop (cond (is_white w) (1 + k) 0) (w ∷ bytes) ≡ drop k bytes
skip w k bytes h = rw (h, one-add) refl

white_first : (w : ℕ) (bytes : List ℕ) → is_white w ≡ true → first dues.Token (w ∷ bytes) ≡ first dues.Token bytes
unfolding first
white_first w bytes h = ap (token_of dues.Token) (skip w (prefix_len is_white bytes) bytes h)

pub spaced : (w : ℕ) (ts : List Tok) (bytes : List ℕ) → is_white w ≡ true → Cut ts bytes → Cut ts (w ∷ bytes)
spaced w [] bytes h c = tt
spaced w (t ∷ ts) bytes h c = (c.0, c.1, white_first w bytes h ∙ c.2, c.3)

-- ---- the words of a written graph

abbrev pub word_of : List ℕ → Word
word_of n = record { quoted = not (is_plain n); text = n }

abbrev pub role_name : Role → List ℕ
role_name Exposure = codes "exposure"
role_name Outcome = codes "outcome"
role_name Adjusted = codes "adjusted"
role_name Latent = codes "latent"

abbrev pub role_attrs : Option Role → Option Attrs
role_attrs None = None
role_attrs (Some r) = Some (attr_list (bare (record { quoted = false; text = role_name r })) [])

abbrev pub vertices : List (List ℕ) → List (Option Role) → List Statement → List Statement
vertices (n ∷ ns) (r ∷ rs) xs = vertex (word_of n) (role_attrs r) ∷ vertices ns rs xs
vertices ns rs xs = xs

abbrev pub joined : Arrow → List (List ℕ) → List (ℕ × ℕ) → List Statement → List Statement
joined a names [] xs = xs
joined a names (e ∷ es) xs = chain (single (word_of (name_of names e.0))) (a, single (word_of (name_of names e.1))) [] None ∷ joined a names es xs

abbrev pub drawn_text : Drawn → Text
drawn_text d = record { title = None; statements = vertices d.names d.roles (joined Right d.names d.arrows (joined Both d.names d.doubles [])) }

-- ---- cut from the lines

name_cut : (n : List ℕ) (ts : List Tok) (rest : List ℕ) → IsName n → Stops is_name_byte rest → Cut ts rest
    → Cut (word_token (word_of n) ∷ ts) (printed n ++ rest)
name_cut n ts rest form stops c = (rest, refl, printed_first n rest form stops, c)

bracket_cut : (n : List ℕ) (ts : List Tok) (rest : List ℕ) → first dues.Token (n ++ 93 ∷ rest) ≡ (name false n, 93 ∷ rest) → Cut ts rest
    → Cut (open_bracket ∷ name false n ∷ close_bracket ∷ ts) (32 ∷ 91 ∷ (n ++ 93 ∷ rest))
bracket_cut n ts rest here c =
    spaced 32 (open_bracket ∷ name false n ∷ close_bracket ∷ ts) (91 ∷ (n ++ 93 ∷ rest)) refl
    (n ++ 93 ∷ rest, refl, first_here 91 (n ++ 93 ∷ rest) refl, (93 ∷ rest, refl, here, (rest, refl, first_here 93 rest refl, c)))

role_cut : (r : Role) (ts : List Tok) (rest : List ℕ) → Cut ts rest
    → Cut (open_bracket ∷ name false (role_name r) ∷ close_bracket ∷ ts) (role_text (Some r) ++ rest)
role_cut Exposure ts rest c = bracket_cut (codes "exposure") ts rest (first_here 101 (codes "xposure" ++ 93 ∷ rest) refl) c
role_cut Outcome ts rest c = bracket_cut (codes "outcome") ts rest (first_here 111 (codes "utcome" ++ 93 ∷ rest) refl) c
role_cut Adjusted ts rest c = bracket_cut (codes "adjusted") ts rest (first_here 97 (codes "djusted" ++ 93 ∷ rest) refl) c
role_cut Latent ts rest c = bracket_cut (codes "latent") ts rest (first_here 108 (codes "atent" ++ 93 ∷ rest) refl) c

-- a role or none, and the end of the line
attrs_cut : (r : Option Role) (ts : List Tok) (rest : List ℕ) → Cut ts rest → Cut (attrs_tokens (role_attrs r) ts) (role_text r ++ 10 ∷ rest)
attrs_cut None ts rest c = spaced 10 ts rest refl c
attrs_cut (Some r) ts rest c = role_cut r ts (10 ∷ rest) (spaced 10 ts rest refl c)

role_stops : (r : Option Role) (rest : List ℕ) → Stops is_name_byte (role_text r ++ 10 ∷ rest)
role_stops None rest = refl
role_stops (Some Exposure) rest = refl
role_stops (Some Outcome) rest = refl
role_stops (Some Adjusted) rest = refl
role_stops (Some Latent) rest = refl

vertices_cut : (ns : List (List ℕ)) (rs : List (Option Role)) (xs : List Statement) (rest : List ℕ) → All IsName ns
    → Cut (body_tokens xs []) rest → Cut (body_tokens (vertices ns rs xs) []) (vertex_lines ns rs ++ rest)
vertices_cut [] rs xs rest form c = c
vertices_cut (n ∷ ns) [] xs rest form c = c
vertices_cut (n ∷ ns) (r ∷ rs) xs rest form c =
    let more = body_tokens (vertices ns rs xs) [] in
    let lines = vertex_lines ns rs in
    subst (Cut (word_token (word_of n) ∷ attrs_tokens (role_attrs r) more))
    (ap (λ l. printed n ++ l) (sym (append_assoc (role_text r) (10 ∷ lines) rest)) ∙ sym (append_assoc (printed n) (role_text r ++ 10 ∷ lines) rest))
    (name_cut n (attrs_tokens (role_attrs r) more) (role_text r ++ 10 ∷ (lines ++ rest)) (All-head IsName n ns form) (role_stops r (lines ++ rest))
    (attrs_cut r more (lines ++ rest) (vertices_cut ns rs xs rest (All-tail IsName n ns form) c)))

name_form : (names : List (List ℕ)) (i : ℕ) → i < length names → All IsName names → IsName (name_of names i)
name_form names i h form = form i [] h

-- a sign that is an edge of this kind
pub record Sign (a : Arrow) (sign : List ℕ) : Type 0 where
  pub stops : (rest : List ℕ) → Stops is_name_byte (sign ++ rest)
  pub cuts : (n : List ℕ) (ts : List Tok) (rest : List ℕ) → IsName n → Cut ts (printed n ++ rest) → Cut (edge a ∷ ts) (sign ++ (printed n ++ rest))

edges_cut : (a : Arrow) (sign : List ℕ) → Sign a sign → (names : List (List ℕ)) (es : List (ℕ × ℕ)) (xs : List Statement) (rest : List ℕ)
    → All IsName names → All (λ p. (p.0 < length names) × (p.1 < length names)) es
    → Cut (body_tokens xs []) rest → Cut (body_tokens (joined a names es xs) []) (edge_lines sign names es ++ rest)
edges_cut a sign is names [] xs rest form within c = c
edges_cut a sign is names (e ∷ es) xs rest form within c =
    let m = name_of names e.0 in
    let n = name_of names e.1 in
    let more = body_tokens (joined a names es xs) [] in
    let lines = edge_lines sign names es in
    let here = All-head (λ (p : ℕ × ℕ). (p.0 < length names) × (p.1 < length names)) e es within in
    let m_form = name_form names e.0 here.0 form in
    let n_form = name_form names e.1 here.1 form in
    subst (Cut (word_token (word_of m) ∷ edge a ∷ word_token (word_of n) ∷ more))
    (ap (λ l. printed m ++ (sign ++ l)) (sym (append_assoc (printed n) (10 ∷ lines) rest))
    ∙ ap (λ l. printed m ++ l) (sym (append_assoc sign (printed n ++ 10 ∷ lines) rest))
    ∙ sym (append_assoc (printed m) (sign ++ (printed n ++ 10 ∷ lines)) rest))
    (name_cut m (edge a ∷ word_token (word_of n) ∷ more) (sign ++ (printed n ++ 10 ∷ (lines ++ rest))) m_form (is.stops (printed n ++ 10 ∷ (lines ++ rest)))
    (is.cuts n (word_token (word_of n) ∷ more) (10 ∷ (lines ++ rest)) n_form
    (name_cut n more (10 ∷ (lines ++ rest)) n_form refl (spaced 10 more (lines ++ rest) refl
    (edges_cut a sign is names es xs rest form (All-tail (λ (p : ℕ × ℕ). (p.0 < length names) × (p.1 < length names)) e es within) c)))))

right_sign : Sign Right (codes " -> ")
right_sign = record {
  stops = λ rest. refl;
  cuts = λ n ts rest form c. spaced 32 (edge Right ∷ ts) (45 ∷ 62 ∷ 32 ∷ (printed n ++ rest)) refl
      (32 ∷ (printed n ++ rest), refl, first_here 45 (62 ∷ 32 ∷ (printed n ++ rest)) refl, spaced 32 ts (printed n ++ rest) refl c);
}

both_sign : Sign Both (codes " <-> ")
both_sign = record {
  stops = λ rest. refl;
  cuts = λ n ts rest form c. spaced 32 (edge Both ∷ ts) (60 ∷ 45 ∷ 62 ∷ 32 ∷ (printed n ++ rest)) refl
      (32 ∷ (printed n ++ rest), refl, first_here 60 (45 ∷ 62 ∷ 32 ∷ (printed n ++ rest)) refl, spaced 32 ts (printed n ++ rest) refl c);
}

end_cut : Cut (close_brace ∷ end ∷ []) (125 ∷ 10 ∷ [])
unfolding first
end_cut = (10 ∷ [], refl, refl, ([], refl, refl, tt))

open_cut : (ts : List Tok) (rest : List ℕ) → Cut ts rest → Cut (name false (codes "dag") ∷ open_brace ∷ ts) (codes "dag {" ++ 10 ∷ rest)
open_cut ts rest c = (
  32 ∷ 123 ∷ 10 ∷ rest,
  refl,
  first_here 100 (97 ∷ 103 ∷ 32 ∷ 123 ∷ 10 ∷ rest) refl,
  spaced 32 (open_brace ∷ ts) (123 ∷ 10 ∷ rest) refl (10 ∷ rest, refl, first_here 123 (10 ∷ rest) refl, spaced 10 ts rest refl c),
)

pub written_cut : (d : Drawn) → IsDrawn d → Cut (text_tokens (drawn_text d) []) (written d)
written_cut d is =
    let doubles = joined Both d.names d.doubles [] in
    let arrows = joined Right d.names d.arrows doubles in
    let tail : List ℕ = 125 ∷ 10 ∷ [] in
    let double_lines = edge_lines (codes " <-> ") d.names d.doubles ++ tail in
    let arrow_lines = edge_lines (codes " -> ") d.names d.arrows ++ double_lines in
    open_cut (body_tokens (vertices d.names d.roles arrows) []) (vertex_lines d.names d.roles ++ arrow_lines)
    (vertices_cut d.names d.roles arrows arrow_lines is.names.formed
    (edges_cut Right (codes " -> ") right_sign d.names d.arrows doubles double_lines is.names.formed is.arrows
    (edges_cut Both (codes " <-> ") both_sign d.names d.doubles [] tail is.names.formed is.doubles end_cut)))

-- ---- with their places

placed : (size : ℕ) (ts : List Tok) (bytes : List ℕ) → Cut ts bytes → (tokens : List (ℕ × Tok)) × AreFirst size dues.Token tokens bytes × (kinds tokens ≡ ts)
unfolding AreFirst
placed size [] bytes c = ([], tt, refl)
placed size (t ∷ ts) bytes c =
    let p = placed size ts c.0 c.3 in
    ((place_of size bytes, t) ∷ p.0, (c.0, refl, c.2, subst (λ (due : Due). AreFirst size due p.0 c.0) (sym c.1) p.1), ap (λ l. t ∷ l) p.2)

-- The bytes of a written graph are a text of the grammar.
pub written_spelled : (d : Drawn) → IsDrawn d → Spelled (written d) (drawn_text d)
written_spelled d is =
    let p = placed (length (written d)) (text_tokens (drawn_text d) []) (written d) (written_cut d is) in
    record { tokens = p.0; more = []; cut = p.1; spelling = p.2 }
