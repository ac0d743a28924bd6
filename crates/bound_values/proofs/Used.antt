-- Which vertices a table of the vertices that are asked of uses.
use Rattle.std.proofs.Common.{◌≡◌, ℕ, ◌<◌, true, ◌||◌, sym, ap, ◌∙◌}
use Rattle.mixed_graph.specs.Vocabulary.{has, members_below, union}
use Rattle.mixed_graph.proofs.MaskLaws.{has_join}
use Rattle.count_rows.specs.Vocabulary.{Table}
use Rattle.count_table.specs.Vocabulary.{AreCounts}
use Rattle.count_eval.specs.Vocabulary.{is_used}
use Rattle.table_cells.proofs.Tables.{member_used, used_member}
use Rattle.bound_values.specs.declared.questions.Question.{Question}
use Rattle.bound_values.specs.Questions.{asked_of, joint_set, IsCounted, fixed_mask, level_mask, joint_mask}

-- those of the mask
pub joint_has : (q : Question) (v : ℕ) → has (joint_mask q) v ≡ joint_set (asked_of q) v
joint_has q v =
    has_join q.x.bits (union q.y.bits (level_mask q)) v
    ∙ ap (λ b. has q.x.bits v || b) (has_join q.y.bits (level_mask q) v
    ∙ ap (λ b. has q.y.bits v || b) (has_join q.instruments.bits (fixed_mask q) v
    ∙ ap (λ b. has q.instruments.bits v || b) (has_join q.given.bits q.strata.bits v)))

-- a table of the vertices that are asked of uses them
pub counted_of : (q : Question) (t : Table) → AreCounts t → t.vertices ≡ members_below (has (joint_mask q)) 64
    → ((v : ℕ) → joint_set (asked_of q) v ≡ true → v < 64) → IsCounted t (asked_of q)
counted_of q t are e low v i = member_used t (has (joint_mask q)) e are v (low v i) (joint_has q v ∙ i)

-- and no others
pub asked_used : (q : Question) (t : Table) → t.vertices ≡ members_below (has (joint_mask q)) 64 → (v : ℕ) → is_used t v ≡ true
    → joint_set (asked_of q) v ≡ true
asked_used q t e v h = sym (joint_has q v) ∙ used_member t (has (joint_mask q)) e v h
