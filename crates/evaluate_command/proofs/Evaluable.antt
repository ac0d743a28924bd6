-- An identified effect can be evaluated over a table of its vertices.
use Rattle.std.proofs.Common.{◌≡◌, ℕ, ◌<◌, true, ◌++◌, All, inl, inr, sym, ap, ◌∙◌, arith}
use Rattle.std.proofs.lemmas.Bool.{cases_lt, or_parts}
use Rattle.std.proofs.lemmas.List.Elements.{All-append}
use Rattle.mixed_graph.specs.Vocabulary.{has, members_below, union}
use Rattle.count_rows.specs.Vocabulary.{Table}
use Rattle.count_table.specs.Vocabulary.{AreCounts}
use Rattle.count_eval.specs.Vocabulary.{IsEvaluable, is_used}
use Rattle.mixed_graph.proofs.MaskLaws.{has_join, has_none, zero_from}
use Rattle.evaluate_command.specs.Cells.{varied}
use Rattle.evaluate_command.specs.Effects.{PlainEffect, IsIdentified, used_in}
use Rattle.prob_expr.specs.Mentioned.{mentioned}
use Rattle.prob_expr.specs.Vocabulary.{mentioned_in, mentioned_in_defs}
use Rattle.evaluate_command.proofs.Mentions.{in_left, in_right, used_tree, used_defs}
use Rattle.table_cells.proofs.Tables.{all_members, member_used, used_member}

none_left : (a b : ℕ) → union a b ≡ 0 → a ≡ 0
none_left a b e = zero_from a (λ v. (or_parts (has a v) (has b v) (sym (has_join a b v) ∙ ap (λ m. has m v) e ∙ has_none v)).0)

none_right : (a b : ℕ) → union a b ≡ 0 → b ≡ 0
none_right a b e = zero_from b (λ v. (or_parts (has a v) (has b v) (sym (has_join a b v) ∙ ap (λ m. has m v) e ∙ has_none v)).1)

-- there is one
pub used_some : (e : PlainEffect) → 0 < e.y → 0 < used_in e
used_some e some = elim (cases_lt 0 (used_in e)) [
  | inl lt ↦ lt
  | inr le ↦ absurd (let z = none_left e.y e.given (none_right e.x (union e.y e.given)
      (none_right (mentioned e.formula) (union e.x (union e.y e.given)) (omega (arith, le)))) in omega (arith, some, z))
]

module _ (e : PlainEffect) (id : IsIdentified e) (t : Table) (counts : AreCounts t) (vertices : t.vertices ≡ members_below (has (used_in e)) 64) where
  pub used : (v : ℕ) → has (used_in e) v ≡ true → is_used t v ≡ true
  used v h = (let low = id.used v h in let few = id.few in member_used t (has (used_in e)) vertices counts v (omega (arith, low, few)) h)

  pub table_below : (v : ℕ) → is_used t v ≡ true → v < e.graph.vertices
  table_below v h = id.used v (used_member t (has (used_in e)) vertices v h)

  pub evaluable : IsEvaluable e.graph.vertices t e.formula
  evaluable = record {
    few = id.few;
    below = table_below;
    accepted = id.formed;
    do_free = id.do_free;
    defs = used_defs (is_used t) e.formula.defs (λ v h. used v (in_left (mentioned e.formula) (union e.x (union e.y e.given)) v
        (in_left (mentioned_in_defs e.formula.defs) (mentioned_in e.formula.main) v h)));
    main = used_tree (is_used t) e.formula.main (λ v h. used v (in_left (mentioned e.formula) (union e.x (union e.y e.given)) v
        (in_right (mentioned_in_defs e.formula.defs) (mentioned_in e.formula.main) v h)));
  }

  -- x, y and what is given are used
  each_used : (set : ℕ) → ((v : ℕ) → has set v ≡ true → has (union e.x (union e.y e.given)) v ≡ true)
      → All (λ v. is_used t v ≡ true) (members_below (has set) 64)
  each_used set inside = all_members (λ v. is_used t v ≡ true) (has set) 64
      (λ v lt h. used v (in_right (mentioned e.formula) (union e.x (union e.y e.given)) v (inside v h)))

  pub varied_used : All (λ v. is_used t v ≡ true) (varied e.x e.given e.y)
  varied_used = All-append (λ v. is_used t v ≡ true) (members_below (has e.x) 64) (members_below (has e.given) 64 ++ members_below (has e.y) 64)
      (each_used e.x (λ v h. in_left e.x (union e.y e.given) v h))
      (All-append (λ v. is_used t v ≡ true) (members_below (has e.given) 64) (members_below (has e.y) 64)
      (each_used e.given (λ v h. in_right e.x (union e.y e.given) v (in_right e.y e.given v h)))
      (each_used e.y (λ v h. in_right e.x (union e.y e.given) v (in_left e.y e.given v h))))
