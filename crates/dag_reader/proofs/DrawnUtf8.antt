-- A written graph is UTF-8.
use Rattle.std.specs.List.{list_all}
use Rattle.std.proofs.lemmas.Bool.{and_parts, ltb-true}
use Rattle.std.proofs.Common.{◌≡◌, ◌<◌, ℕ, zero, suc, get_or, arith, Bool, true, false, List, [], ◌∷◌, ◌++◌, length, Option, Some, None, refl}
use Rattle.std.specs.Prelude.{codes, nat_lt, All, if◌then◌else◌}
use Rattle.std.specs.Str.{IsUtf8}
use Rattle.std.proofs.lemmas.Str.{IsUtf8-append, IsUtf8-nil, IsUtf8-from_is_utf8, IsUtf8-from_ascii}
use Rattle.std.proofs.lemmas.List.Elements.{All-head, All-tail}
use Rattle.mixed_graph.specs.Vocabulary.{IsName, name_of}
use Rattle.dag_reader.specs.declared.marks.Role.{Role}
use Rattle.dag_reader.specs.declared.marks.Role.TheVariants.{Exposure, Outcome, Adjusted, Latent}
use Rattle.answer_text.specs.Vocabulary.{is_plain, printed}
use Rattle.dag_reader.specs.Written.{Drawn, IsDrawn, role_text, vertex_lines, edge_lines, written}

ascii_bytes : (bs : List ℕ) → list_all (λ b. nat_lt b 128) bs ≡ true → (i : ℕ) → get_or bs i 0 < 128
ascii_bytes [] h i = omega arith
ascii_bytes (b ∷ bs) h zero = ltb-true b 128 (and_parts (nat_lt b 128) (list_all (λ b. nat_lt b 128) bs) h).0
ascii_bytes (b ∷ bs) h (suc i) = ascii_bytes bs (and_parts (nat_lt b 128) (list_all (λ b. nat_lt b 128) bs) h).1 i

ascii : (bs : List ℕ) → list_all (λ b. nat_lt b 128) bs ≡ true → IsUtf8 bs
ascii bs h = IsUtf8-from_ascii bs (ascii_bytes bs h)

line_feed : IsUtf8 (10 ∷ [])
line_feed = ascii (10 ∷ []) refl

quote_mark : IsUtf8 (34 ∷ [])
quote_mark = ascii (34 ∷ []) refl

quoted_or_not : (plain : Bool) (n : List ℕ) → IsUtf8 n → IsUtf8 (if plain then n else 34 ∷ n ++ 34 ∷ [])
quoted_or_not true n h = h
quoted_or_not false n h = IsUtf8-append (34 ∷ []) (n ++ 34 ∷ []) quote_mark (IsUtf8-append n (34 ∷ []) h quote_mark)

printed_utf8 : (n : List ℕ) → IsName n → IsUtf8 (printed n)
printed_utf8 n form = quoted_or_not (is_plain n) n (IsUtf8-from_is_utf8 n form.utf8)

role_utf8 : (r : Option Role) → IsUtf8 (role_text r)
role_utf8 None = IsUtf8-nil
role_utf8 (Some Exposure) = (ascii (codes " [exposure]") refl)
role_utf8 (Some Outcome) = (ascii (codes " [outcome]") refl)
role_utf8 (Some Adjusted) = (ascii (codes " [adjusted]") refl)
role_utf8 (Some Latent) = (ascii (codes " [latent]") refl)

line_then : (more : List ℕ) → IsUtf8 more → IsUtf8 (10 ∷ more)
line_then more h = IsUtf8-append (10 ∷ []) more line_feed h

vertices_utf8 : (names : List (List ℕ)) (roles : List (Option Role)) → All IsName names → IsUtf8 (vertex_lines names roles)
vertices_utf8 [] roles form = IsUtf8-nil
vertices_utf8 (n ∷ ns) [] form = IsUtf8-nil
vertices_utf8 (n ∷ ns) (r ∷ rs) form =
    IsUtf8-append (printed n) (role_text r ++ 10 ∷ vertex_lines ns rs) (printed_utf8 n (All-head IsName n ns form))
    (IsUtf8-append (role_text r) (10 ∷ vertex_lines ns rs) (role_utf8 r) (line_then (vertex_lines ns rs) (vertices_utf8 ns rs (All-tail IsName n ns form))))

edges_utf8 : (sign : List ℕ) (names : List (List ℕ)) (es : List (ℕ × ℕ)) → IsUtf8 sign → All IsName names
    → All (λ p. (p.0 < length names) × (p.1 < length names)) es → IsUtf8 (edge_lines sign names es)
edges_utf8 sign names [] is form within = IsUtf8-nil
edges_utf8 sign names (e ∷ es) is form within =
    let here = All-head (λ (p : ℕ × ℕ). (p.0 < length names) × (p.1 < length names)) e es within in
    let later = All-tail (λ (p : ℕ × ℕ). (p.0 < length names) × (p.1 < length names)) e es within in
    let to = printed (name_of names e.1) in
    let more = edge_lines sign names es in
    IsUtf8-append (printed (name_of names e.0)) (sign ++ (to ++ 10 ∷ more)) (printed_utf8 (name_of names e.0) (form e.0 [] here.0))
    (IsUtf8-append sign (to ++ 10 ∷ more) is
    (IsUtf8-append to (10 ∷ more) (printed_utf8 (name_of names e.1) (form e.1 [] here.1)) (line_then more (edges_utf8 sign names es is form later))))

pub written_utf8 : (d : Drawn) → IsDrawn d → IsUtf8 (written d)
written_utf8 d is =
    let vertices = vertex_lines d.names d.roles in
    let arrows = edge_lines (codes " -> ") d.names d.arrows in
    let doubles = edge_lines (codes " <-> ") d.names d.doubles in
    IsUtf8-append (codes "dag {") (10 ∷ (vertices ++ (arrows ++ (doubles ++ 125 ∷ 10 ∷ [])))) (ascii (codes "dag {") refl)
    (line_then (vertices ++ (arrows ++ (doubles ++ 125 ∷ 10 ∷ [])))
    (IsUtf8-append vertices (arrows ++ (doubles ++ 125 ∷ 10 ∷ [])) (vertices_utf8 d.names d.roles is.names.formed)
    (IsUtf8-append arrows (doubles ++ 125 ∷ 10 ∷ []) (edges_utf8 (codes " -> ") d.names d.arrows (ascii (codes " -> ") refl) is.names.formed is.arrows)
    (IsUtf8-append doubles (125 ∷ 10 ∷ []) (edges_utf8 (codes " <-> ") d.names d.doubles (ascii (codes " <-> ") refl) is.names.formed is.doubles)
    (ascii (125 ∷ 10 ∷ []) refl)))))
