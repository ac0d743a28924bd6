-- What a written graph says.
use Rattle.std.proofs.Common.{◌≡◌, ◌<◌, ◌≤◌, ◌+◌, ℕ, zero, suc, Bool, true, false, List, [], ◌∷◌, ◌++◌, length, get_or, Option, Some, None, Result}
use Rattle.std.proofs.Common.{Ok, refl, sym, ap, subst, ◌∙◌, inl, inr, arith, append_assoc, append-nil, length-append}
use Rattle.std.specs.Prelude.{cond, not, ◌&&◌, ◌||◌, nat_le}
use Rattle.std.specs.List.{list_any, position_or_len}
use Rattle.std.specs.Str.{bytes_eq}
use Rattle.std.proofs.lemmas.Slice.Eq.{bytes_eq-Decides}
use Rattle.std.proofs.lemmas.Bool.Decides.{nat_tests}
use Rattle.std.specs.Prelude.{All, AllPairs, ◌≢◌}
use Rattle.std.proofs.lemmas.List.Elements.{All-head, All-tail}
use Rattle.std.proofs.lemmas.List.{get_or_append_left}
use Rattle.std.proofs.lemmas.Bool.{and_from, cases_Bool}
use Rattle.mixed_graph.specs.Vocabulary.{AreNames, index_of, name_of}
use Rattle.dag_reader.specs.declared.marks.Arrow.{Arrow}
use Rattle.dag_reader.specs.declared.marks.Arrow.TheVariants.{Right, Both}
use Rattle.dag_reader.specs.declared.marks.Role.{Role}
use Rattle.dag_reader.specs.declared.marks.Role.TheVariants.{Exposure, Outcome, Adjusted, Latent}
use Rattle.dag_reader.specs.declared.marks.Remark.{Remark}
use Rattle.dag_reader.specs.declared.marks.Remark.TheVariants.{Begins, Joined, Member}
use Rattle.dag_reader.specs.Grammar.{Fault, Said, with_marks, with_vertex}
use Rattle.dag_reader.specs.Syntax.{single, links_say, ◌>>=◌, allowed, vertex_says, attrs_say, statements_say, Statement, text_says}
use Rattle.dag_reader.specs.Written.{Drawn, IsDrawn}
use Rattle.dag_reader.proofs.DrawnMarks.{all_new, role_marks, vertex_marks, edge_marks, drawn_says}
use Rattle.mixed_graph.proofs.NameLists.{position_or_len-none}
use Rattle.dag_reader.proofs.Cut.{word_of, role_attrs, vertices, joined, drawn_text}

says : List (List ℕ) → List Remark → Said
says names marks = record { names = names; marks = marks }

not_true : (a : Bool) → not a ≡ true → a ≡ false
not_true true h = cc h
not_true false h = refl

both_true : (a b : Bool) → (a && b) ≡ true → (a ≡ true) × (b ≡ true)
both_true true b h = (refl, h)
both_true false b h = cc h

-- a name that is new, where there is room
new_vertex : (n : List ℕ) (names : List (List ℕ)) (marks : List Remark) → list_any (bytes_eq n) names ≡ false → length names < 64
    → with_vertex n (says names marks) ≡ Ok (says (names ++ n ∷ []) (marks ++ Member (length names) ∷ []))
unfolding says
new_vertex n names marks new room =
    let full : nat_le 64 (length names) ≡ false = grind (arith, nat_tests) in
    rw (new, full, position_or_len-none (bytes_eq n) names new) refl

-- a name that is there
old_vertex : (n : List ℕ) (names : List (List ℕ)) (marks : List Remark) → list_any (bytes_eq n) names ≡ true
    → with_vertex n (says names marks) ≡ Ok (says names (marks ++ Member (index_of names n) ∷ []))
unfolding says
old_vertex n names marks there = rw there refl

role_says : (r : Option Role) (n : List ℕ) (names : List (List ℕ)) (marks : List Remark)
    → attrs_say (Some n) (role_attrs r) (says names marks) ≡ Some (says names (marks ++ role_marks r))
unfolding says
role_says None n names marks = rw append-nil refl
role_says (Some Exposure) n names marks = refl
role_says (Some Outcome) n names marks = refl
role_says (Some Adjusted) n names marks = refl
role_says (Some Latent) n names marks = refl

marks_more : (marks : List Remark) (i : ℕ) (rs more : List Remark) → (((marks ++ Begins ∷ []) ++ Member i ∷ []) ++ rs) ++ more ≡ marks
    ++ (Begins ∷ Member i ∷ (rs ++ more))
marks_more marks i rs more = simp append_assoc

vertex_line_says : (n : List ℕ) (r : Option Role) (names : List (List ℕ)) (marks : List Remark) → list_any (bytes_eq n) names ≡ false → length names < 64
    → (vertex_says (word_of n) (with_marks (Begins ∷ []) (says names marks)) >>= attrs_say (Some n) (role_attrs r))
    ≡ Some (says (names ++ n ∷ []) (((marks ++ Begins ∷ []) ++ Member (length names) ∷ []) ++ role_marks r))
unfolding says
vertex_line_says n r names marks new room =
    ap (λ (v : Result Said _). allowed v >>= attrs_say (Some n) (role_attrs r)) (new_vertex n names (marks ++ Begins ∷ []) new room)
    ∙ role_says r n (names ++ n ∷ []) ((marks ++ Begins ∷ []) ++ Member (length names) ∷ [])

vertices_say : (ns : List (List ℕ)) (rs : List (Option Role)) (xs : List Statement) (front : List (List ℕ)) (marks : List Remark)
    → length rs ≡ length ns → all_new front ns ≡ true → length front + length ns ≤ 64
    → statements_say (vertices ns rs xs) (says front marks) ≡ statements_say xs (says (front ++ ns) (marks ++ vertex_marks (length front) rs))
vertices_say [] [] xs front marks same new room = rw (append-nil, append-nil) refl
vertices_say [] (r ∷ rs) xs front marks same new room = absurd (omega arith)
vertices_say (n ∷ ns) [] xs front marks same new room = absurd (omega arith)
vertices_say (n ∷ ns) (r ∷ rs) xs front marks same new room =
    let both = both_true (not (list_any (bytes_eq n) front)) (all_new (front ++ n ∷ []) ns) new in
    let longer : length (front ++ n ∷ []) ≡ length front + 1 = simp length-append in
    let said = ((marks ++ Begins ∷ []) ++ Member (length front) ∷ []) ++ role_marks r in
    ap (λ (o : Option Said). o >>= statements_say (vertices ns rs xs)) (vertex_line_says n r front marks (not_true _ both.0) (omega arith))
    ∙ vertices_say ns rs xs (front ++ n ∷ []) said (omega arith) both.1 (omega arith)
    ∙ ap (λ l. statements_say xs (says l (said ++ vertex_marks (length (front ++ n ∷ [])) rs))) (append_assoc front (n ∷ []) ns)
    ∙ ap (λ (k : ℕ). statements_say xs (says (front ++ n ∷ ns) (said ++ vertex_marks k rs))) longer
    ∙ ap (λ l. statements_say xs (says (front ++ n ∷ ns) l)) (marks_more marks (length front) (role_marks r) (vertex_marks (length front + 1) rs))

-- ---- names that are there

same_bytes : (n : List ℕ) → bytes_eq n n ≡ true
same_bytes n = (bytes_eq-Decides n n).1 refl

position-behind : (p : List ℕ → Bool) (front xs : List (List ℕ)) → list_any p front ≡ false → position_or_len p (front ++ xs) ≡ length front
    + position_or_len p xs
position-behind p [] xs h = omega arith
position-behind p (f ∷ fs) xs h = step (p f) (position-behind p fs xs) h
  where
    step : (b : Bool) → (list_any p fs ≡ false → position_or_len p (fs ++ xs) ≡ length fs + position_or_len p xs)
        → (b || list_any p fs) ≡ false → cond (not b) (1 + position_or_len p (fs ++ xs)) 0 ≡ suc (length fs) + position_or_len p xs
    step true ih h = cc h
    step false ih h = omega (arith, ih h)

zero_at : (b : Bool) (n k : ℕ) → b ≡ true → n + cond (not b) k 0 ≡ n + 0
zero_at b n k h = rw h refl

-- the index of the name at an index, where each name is new
index_at : (ns front : List (List ℕ)) (i : ℕ) → all_new front ns ≡ true → i < length ns → position_or_len (bytes_eq (name_of ns i)) (front ++ ns)
    ≡ length front + i
index_at [] front i new h = absurd (omega arith)
index_at (n ∷ ns) front zero new h =
    let both = both_true (not (list_any (bytes_eq n) front)) (all_new (front ++ n ∷ []) ns) new in
    position-behind (bytes_eq n) front (n ∷ ns) (not_true _ both.0) ∙ zero_at (bytes_eq n n) (length front) _ (same_bytes n)
index_at (n ∷ ns) front (suc i) new h =
    let both = both_true (not (list_any (bytes_eq n) front)) (all_new (front ++ n ∷ []) ns) new in
    let longer : length (front ++ n ∷ []) ≡ length front + 1 = simp length-append in
    let rest = index_at ns (front ++ n ∷ []) i both.1 (omega arith) in
    ap (position_or_len (bytes_eq (name_of ns i))) (sym (append_assoc front (n ∷ []) ns)) ∙ rest ∙ omega arith

there_by : (p : List ℕ → Bool) (xs : List (List ℕ)) (b : Bool) → list_any p xs ≡ b → position_or_len p xs < length xs → b ≡ true
there_by p xs true is h = refl
there_by p xs false is h = absurd (omega (arith, position_or_len-none p xs is))

pub there : (p : List ℕ → Bool) (xs : List (List ℕ)) → position_or_len p xs < length xs → list_any p xs ≡ true
there p xs h = there_by p xs (list_any p xs) refl h

name_index : (names : List (List ℕ)) (i : ℕ) → all_new [] names ≡ true → i < length names → index_of names (name_of names i) ≡ i
name_index names i new h = index_at names [] i new h ∙ omega arith

name_there : (names : List (List ℕ)) (i : ℕ) → all_new [] names ≡ true → i < length names → list_any (bytes_eq (name_of names i)) names ≡ true
name_there names i new h = there (bytes_eq (name_of names i)) names (omega (arith, name_index names i new h))

vertex_at : (names : List (List ℕ)) (i : ℕ) (marks : List Remark) → all_new [] names ≡ true → i < length names
    → with_vertex (name_of names i) (says names marks) ≡ Ok (says names (marks ++ Member i ∷ []))
vertex_at names i marks new h =
    old_vertex (name_of names i) names marks (name_there names i new h) ∙ ap (λ (k : ℕ). Ok (says names (marks ++ Member k ∷ []))) (name_index names i new h)

chain_more : (marks : List Remark) (i j : ℕ) (a : Arrow) (more : List Remark)
    → ((((marks ++ Begins ∷ []) ++ Member i ∷ []) ++ Joined a ∷ []) ++ Member j ∷ []) ++ more ≡ marks ++ (Begins ∷ Member i ∷ Joined a ∷ Member j ∷ more)
chain_more marks i j a more = simp append_assoc

edges_say : (a : Arrow) (names : List (List ℕ)) (es : List (ℕ × ℕ)) (xs : List Statement) (marks : List Remark) → all_new [] names ≡ true
    → All (λ p. (p.0 < length names) × (p.1 < length names)) es
    → statements_say (joined a names es xs) (says names marks) ≡ statements_say xs (says names (marks ++ edge_marks a es))
unfolding says
edges_say a names [] xs marks new within = rw append-nil refl
edges_say a names (e ∷ es) xs marks new within =
    let here = All-head (λ (p : ℕ × ℕ). (p.0 < length names) × (p.1 < length names)) e es within in
    let begun = marks ++ Begins ∷ [] in
    let met = (begun ++ Member e.0 ∷ []) ++ Joined a ∷ [] in
    ap (λ (v : Result Said Fault). (allowed v >>= (λ u. links_say ((a, single (word_of (name_of names e.1))) ∷ []) u >>= attrs_say None None))
    >>= statements_say (joined a names es xs))
    (vertex_at names e.0 begun new here.0)
    ∙ ap (λ (v : Result Said Fault). ((allowed v >>= links_say []) >>= attrs_say None None) >>= statements_say (joined a names es xs))
    (vertex_at names e.1 met new here.1)
    ∙ edges_say a names es xs (met ++ Member e.1 ∷ []) new (All-tail (λ (p : ℕ × ℕ). (p.0 < length names) × (p.1 < length names)) e es within)
    ∙ ap (λ l. statements_say xs (says names l)) (chain_more marks e.0 e.1 a (edge_marks a es))

none_equal : (n : List ℕ) (front : List (List ℕ)) → ((i : ℕ) → i < length front → get_or front i [] ≡ n → ⊥) → list_any (bytes_eq n) front ≡ false
none_equal n [] h = refl
none_equal n (x ∷ xs) h =
    let here : bytes_eq n x ≡ false = elim (cases_Bool (bytes_eq n x)) [ inl t ↦ absurd (h 0 (omega arith) (sym ((bytes_eq-Decides n x).0 t))) | inr f ↦ f ] in
    rw (here, none_equal n xs (λ i below same. h (suc i) (omega arith) same)) refl

get_or-append_at : (front : List (List ℕ)) (n : List ℕ) (ns : List (List ℕ)) (d : List ℕ) → get_or (front ++ n ∷ ns) (length front) d ≡ n
get_or-append_at [] n ns d = refl
get_or-append_at (x ∷ front) n ns d = get_or-append_at front n ns d

-- a name differs from each before it
not_there : (n : List ℕ) (front ns : List (List ℕ)) → AllPairs (λ a b. a ≢ b) (front ++ n ∷ ns) → list_any (bytes_eq n) front ≡ false
not_there n front ns h = none_equal n front (λ i below same.
    let e = length-append front (n ∷ ns) in
    h i (length front) [] below (omega (arith, e))
    (get_or_append_left front (n ∷ ns) [] i below ∙ same ∙ sym (get_or-append_at front n ns [])))

-- names of which no two are equal are each new behind the ones before
new_behind : (front ns : List (List ℕ)) → AllPairs (λ a b. a ≢ b) (front ++ ns) → all_new front ns ≡ true
new_behind front [] h = refl
new_behind front (n ∷ ns) h =
    and_from (not (list_any (bytes_eq n) front)) (all_new (front ++ n ∷ []) ns) (rw (not_there n front ns h) refl)
    (new_behind (front ++ n ∷ []) ns (subst (λ l. AllPairs (λ a b. a ≢ b) l) (sym (append_assoc front (n ∷ []) ns)) h))

pub names_new : (names : List (List ℕ)) → AreNames names → all_new [] names ≡ true
names_new names is = new_behind [] names is.distinct

-- What a written graph says.
pub drawn_text_says : (d : Drawn) → IsDrawn d → text_says (drawn_text d) ≡ Some (drawn_says d)
unfolding says
drawn_text_says d is =
    let doubles = joined Both d.names d.doubles [] in
    let arrows = joined Right d.names d.arrows doubles in
    vertices_say d.names d.roles arrows [] [] is.roles (names_new d.names is.names) (omega (arith, is.names.few))
    ∙ edges_say Right d.names d.arrows doubles (vertex_marks 0 d.roles) (names_new d.names is.names) is.arrows
    ∙ edges_say Both d.names d.doubles [] (vertex_marks 0 d.roles ++ edge_marks Right d.arrows) (names_new d.names is.names) is.doubles
    ∙ ap (λ l. Some (says d.names l)) (append_assoc (vertex_marks 0 d.roles) (edge_marks Right d.arrows) (edge_marks Both d.doubles))
