-- The edges and the roles that a written graph says are its own.
use Rattle.std.proofs.Common.{◌≡◌, ◌+◌, ℕ, List, [], ◌∷◌, ◌++◌, map, Option, Some, None, refl, sym, ap, ◌∙◌, append_assoc, append-nil}
use Rattle.std.specs.List.{filter_map}
use Rattle.dag_reader.specs.declared.marks.Arrow.{Arrow}
use Rattle.dag_reader.specs.declared.marks.Arrow.TheVariants.{Right, Both}
use Rattle.dag_reader.specs.declared.marks.Role.{Role}
use Rattle.dag_reader.specs.declared.marks.Remark.{Remark}
use Rattle.dag_reader.specs.Written.{Drawn}
use Rattle.dag_reader.proofs.DrawnMarks.{role_marks, vertex_marks, edge_marks, drawn_says, given_roles}
use Rattle.dag_reader.specs.Passes.{Edge, members, pairs, edges_behind, edges_of, arrow_of, both_of, arrows_of, doubles_of, roles_behind, roles_of}

abbrev pub as_edges : Arrow → List (ℕ × ℕ) → List Edge
as_edges a es = map (λ (e : ℕ × ℕ). record { left = e.0; arrow = a; right = e.1 }) es

-- what doesn't go on with the group before it
record Fresh (ms : List Remark) : Type 0 where
  none : members ms ≡ []
  same : (left : List ℕ) → edges_behind left ms ≡ edges_behind [] ms

fresh_end : Fresh []
fresh_end = record { none = refl; same = λ left. refl }

fresh_edges : (a : Arrow) (es : List (ℕ × ℕ)) (ms : List Remark) → Fresh ms → Fresh (edge_marks a es ++ ms)
fresh_edges a [] ms f = f
fresh_edges a (e ∷ es) ms f = record { none = refl; same = λ left. refl }

edges_read : (a : Arrow) (es : List (ℕ × ℕ)) (ms : List Remark) (left : List ℕ) → Fresh ms → edges_behind left (edge_marks a es ++ ms) ≡ as_edges a es
    ++ edges_behind [] ms
edges_read a [] ms left f = f.same left
edges_read a (e ∷ es) ms left f =
    let rest = fresh_edges a es ms f in
    ap (λ (vs : List ℕ). pairs (e.0 ∷ []) a (e.1 ∷ vs) ++ edges_behind (e.1 ∷ []) (edge_marks a es ++ ms)) rest.none
    ∙ ap (λ l. record { left = e.0; arrow = a; right = e.1 } ∷ l) (edges_read a es ms (e.1 ∷ []) f)

role_edges : (r : Option Role) (left : List ℕ) (ms : List Remark) → edges_behind left (role_marks r ++ ms) ≡ edges_behind left ms
role_edges None left ms = refl
role_edges (Some r) left ms = refl

vertices_read : (rs : List (Option Role)) (i : ℕ) (ms : List Remark) (left : List ℕ) → Fresh ms → edges_behind left (vertex_marks i rs ++ ms)
    ≡ edges_behind [] ms
vertices_read [] i ms left f = f.same left
vertices_read (r ∷ rs) i ms left f =
    ap (edges_behind (i ∷ [])) (append_assoc (role_marks r) (vertex_marks (i + 1) rs) ms)
    ∙ role_edges r (i ∷ []) (vertex_marks (i + 1) rs ++ ms)
    ∙ vertices_read rs (i + 1) ms (i ∷ []) f

pub drawn_edges : (d : Drawn) → edges_of (drawn_says d).marks ≡ as_edges Right d.arrows ++ as_edges Both d.doubles
drawn_edges d =
    let doubles = edge_marks Both d.doubles in
    let fresh : Fresh doubles = subst_fresh in
    vertices_read d.roles 0 (edge_marks Right d.arrows ++ doubles) [] (fresh_edges Right d.arrows doubles fresh)
    ∙ edges_read Right d.arrows doubles [] fresh
    ∙ ap (λ l. as_edges Right d.arrows ++ l)
    (ap (edges_behind []) (sym (append-nil doubles)) ∙ edges_read Both d.doubles [] [] fresh_end ∙ append-nil (as_edges Both d.doubles))
  where
    subst_fresh : Fresh (edge_marks Both d.doubles)
    subst_fresh = rw append-nil at (fresh_edges Both d.doubles [] fresh_end)

right_arrows : (es : List (ℕ × ℕ)) (more : List Edge) → filter_map arrow_of (as_edges Right es ++ more) ≡ es ++ filter_map arrow_of more
right_arrows [] more = refl
right_arrows (e ∷ es) more = ap (λ l. e ∷ l) (right_arrows es more)

both_arrows : (es : List (ℕ × ℕ)) → filter_map arrow_of (as_edges Both es) ≡ []
both_arrows [] = refl
both_arrows (e ∷ es) = both_arrows es

right_doubles : (es : List (ℕ × ℕ)) (more : List Edge) → filter_map both_of (as_edges Right es ++ more) ≡ filter_map both_of more
right_doubles [] more = refl
right_doubles (e ∷ es) more = right_doubles es more

both_doubles : (es : List (ℕ × ℕ)) → filter_map both_of (as_edges Both es) ≡ es
both_doubles [] = refl
both_doubles (e ∷ es) = ap (λ l. e ∷ l) (both_doubles es)

pub drawn_arrows : (d : Drawn) → arrows_of (drawn_says d).marks ≡ d.arrows
drawn_arrows d =
    ap (filter_map arrow_of) (drawn_edges d) ∙ right_arrows d.arrows (as_edges Both d.doubles)
    ∙ ap (λ l. d.arrows ++ l) (both_arrows d.doubles) ∙ append-nil d.arrows

pub drawn_doubles : (d : Drawn) → doubles_of (drawn_says d).marks ≡ d.doubles
drawn_doubles d = ap (filter_map both_of) (drawn_edges d) ∙ right_doubles d.arrows (as_edges Both d.doubles) ∙ both_doubles d.doubles

-- ---- roles

edges_roles : (a : Arrow) (es : List (ℕ × ℕ)) (ms : List Remark) (last : Option ℕ) → ((v : Option ℕ) → roles_behind v ms ≡ [])
    → roles_behind last (edge_marks a es ++ ms) ≡ []
edges_roles a [] ms last h = h last
edges_roles a (e ∷ es) ms last h = edges_roles a es ms (Some e.1) h

vertices_roles : (rs : List (Option Role)) (i : ℕ) (ms : List Remark) (last : Option ℕ) → ((v : Option ℕ) → roles_behind v ms ≡ [])
    → roles_behind last (vertex_marks i rs ++ ms) ≡ given_roles i rs
vertices_roles [] i ms last h = h last
vertices_roles (None ∷ rs) i ms last h = vertices_roles rs (i + 1) ms (Some i) h
vertices_roles (Some r ∷ rs) i ms last h = ap (λ l. (i, r) ∷ l) (vertices_roles rs (i + 1) ms (Some i) h)

pub drawn_roles : (d : Drawn) → roles_of (drawn_says d).marks ≡ given_roles 0 d.roles
drawn_roles d =
    vertices_roles d.roles 0 (edge_marks Right d.arrows ++ edge_marks Both d.doubles) None
    (λ v. edges_roles Right d.arrows (edge_marks Both d.doubles) v
    (λ u. ap (roles_behind u) (sym (append-nil (edge_marks Both d.doubles))) ∙ edges_roles Both d.doubles [] u (λ w. refl)))
