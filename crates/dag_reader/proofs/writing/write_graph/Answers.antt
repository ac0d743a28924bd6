use Rattle.std.proofs.Common.{◌≡◌, ◌<◌, ◌++◌, ◌∷◌, [], ℕ, List, Option, map, length, refl, sym, ap, ◌∙◌, subst}
use Rattle.std.specs.Prelude.{All, ◌&&◌, nat_lt, codes}
use Rattle.dag_reader.specs.declared.marks.Role.{Role}
use Rattle.mixed_graph.specs.Vocabulary.{graph_of}
use Rattle.dag_reader.specs.Rows.{row_has, count_up, pairs_below}
use Rattle.dag_reader.specs.Written.{role_at, vertex_lines, edge_lines}
use Rattle.dag_reader.proofs.PairLists.{pairs_below-ends}
use Rattle.dag_reader.proofs.WrittenLines.{length-listed, pairs_below-agree, text_whole}
use Rattle.dag_reader.proofs.writing.write_graph.Goals as goal

parts : (a a' : List ℕ) (names : List (List ℕ)) (r r' : List (Option Role)) (x x' y y' : List (ℕ × ℕ)) → a ≡ a' → r ≡ r' → x ≡ x' → y ≡ y'
    → a ++ (vertex_lines names r ++ (edge_lines (codes " -> ") names x ++ (edge_lines (codes " <-> ") names y ++ 125 ∷ 10 ∷ [])))
    ≡ a' ++ (vertex_lines names r' ++ (edge_lines (codes " -> ") names x' ++ (edge_lines (codes " <-> ") names y' ++ 125 ∷ 10 ∷ [])))
parts a a' names r r' x x' y y' p q s t = rw (p, q, s, t) refl

pub push_vertices-requires-clause-roles : goal.push_vertices-requires-clause-roles
push_vertices-requires-clause-roles c =
    ap length (c.as_slice.ensures.value ∙ c.in_ok-roles.ensures) ∙ length-listed (role_at c.args.g.now) c.args.g.now.graph.n ∙ sym c.args.g.now.sized

pub push_edges-requires : goal.push_edges-requires
push_edges-requires c =
    subst (λ (n : ℕ). All (λ (p : ℕ × ℕ). (p.0 < n) × (p.1 < n)) c.as_slice-2.result.now) (sym c.args.g.now.sized)
    (subst (λ (l : List (ℕ × ℕ)). All (λ p. (p.0 < c.args.g.now.graph.n) × (p.1 < c.args.g.now.graph.n)) l)
    (sym (c.as_slice-2.ensures.value ∙ c.in_ok-arrows.ensures))
    (pairs_below-ends c.args.g.now.graph.n (row_has c.args.g.now.graph.children)))

pub push_edges-requires-2 : goal.push_edges-requires-2
push_edges-requires-2 c =
    subst (λ (n : ℕ). All (λ (p : ℕ × ℕ). (p.0 < n) × (p.1 < n)) c.as_slice-3.result.now) (sym c.args.g.now.sized)
    (subst (λ (l : List (ℕ × ℕ)). All (λ p. (p.0 < c.args.g.now.graph.n) × (p.1 < c.args.g.now.graph.n)) l)
    (sym (c.as_slice-3.ensures.value ∙ c.in_ok-doubles.ensures))
    (pairs_below-ends c.args.g.now.graph.n (row_has c.above.result)))

pub returns : goal.returns
returns c =
    text_whole c.extend_from_slice.new.self.items c.push_vertices.new.out.items c.push_edges.new.out.items c.push_edges-2.new.out.items
    c.extend_from_slice-2.new.self.items
    (vertex_lines c.args.g.now.names c.as_slice.result.now) (edge_lines (codes " -> ") c.args.g.now.names c.as_slice-2.result.now)
    (edge_lines (codes " <-> ") c.args.g.now.names c.as_slice-3.result.now)
    c.in_ok-push_vertices.ensures c.in_ok-push_edges.ensures c.in_ok-push_edges-2.ensures c.in_ok-extend_from_slice-2.ensures.items
    ∙ parts c.extend_from_slice.new.self.items (codes "dag {" ++ 10 ∷ []) c.args.g.now.names c.as_slice.result.now
    (map (role_at c.args.g.now) (count_up c.args.g.now.graph.n))
    c.as_slice-2.result.now (pairs_below c.args.g.now.graph.n (graph_of c.args.g.now.graph).arrow)
    c.as_slice-3.result.now (pairs_below c.args.g.now.graph.n (λ a b. (graph_of c.args.g.now.graph).both a b && nat_lt a b))
    (c.in_ok-extend_from_slice.ensures.items ∙ ap (λ l. l ++ (codes "dag {" ++ 10 ∷ [])) c.new-out.ensures.items)
    (c.as_slice.ensures.value ∙ c.in_ok-roles.ensures) (c.as_slice-2.ensures.value ∙ c.in_ok-arrows.ensures)
    (c.as_slice-3.ensures.value ∙ c.in_ok-doubles.ensures ∙ pairs_below-agree c.args.g.now.graph.n (row_has c.above.result)
    (λ a b. (graph_of c.args.g.now.graph).both a b && nat_lt a b) c.above.ensures)
