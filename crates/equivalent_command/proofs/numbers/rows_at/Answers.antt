use Rattle.std.proofs.Common.{◌≡◌, ◌∙◌, ap, ◌&&◌, true, nat_lt, get_or, arith}
use Rattle.std.proofs.lemmas.Bool.{lt-ltb, le-ltb, and_left}
use Rattle.mixed_graph.specs.Vocabulary.{has}
use Rattle.latent_projection.proofs.Rows.{no_row, row_more, rows_whole}
use Rattle.equivalent_command.proofs.Placing.{row_at}
use Rattle.equivalent_command.proofs.numbers.rows_at.Goals as goal

pub loop-a-init : goal.loop-a-init
loop-a-init c = no_row _

pub loop-a-preserved : goal.loop-a-preserved
loop-a-preserved c = let size = c.requires.size in
    row_more (row_at c.args.places.now c.args.n c.args.rows.now) c.loop-a.a c.members_at.result.bits c.loop-a.out (omega (arith, size))
    (λ b. let i : nat_lt c.loop-a.a c.args.n ≡ true = lt-ltb c.loop-a.a c.args.n (omega arith) in
    rw i (c.members_at.ensures b ∙ ap (λ m. nat_lt b c.args.n && has m (get_or c.args.places.now b 0)) c.row-row.ensures)) c.loop-a.invariant

pub returns : goal.returns
returns c = rows_whole (row_at c.args.places.now c.args.n c.args.rows.now) c.loop-a.a c.loop-a.out c.loop-a.invariant (λ a b h.
    and_left (nat_lt a c.args.n) (nat_lt b c.args.n && has (get_or c.args.rows.now (get_or c.args.places.now a 0) 0) (get_or c.args.places.now b 0))
    (le-ltb a c.args.n (omega (arith, h))))
