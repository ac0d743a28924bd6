use Rattle.std.proofs.Common.{◌≡◌, ◌≢◌, ◌∙◌, ◌+◌, sym, ap, refl, arith, List, ℕ, [], ◌∷◌, ◌++◌, Some, replicate, length, length-append}
use Rattle.count_rows.specs.declared.fault.CountFault.TheVariants.{NotCsv}
use Rattle.count_rows.specs.Faults.{row_fault}
use Rattle.count_rows.specs.Reader.{GivesNext}
use Rattle.count_rows.specs.Tally.{layout_from}
use Rattle.count_rows.proofs.RowFaults.{ended, row_refused, row_too_long, rows_fault-nil, rows_fault-last}
use Rattle.count_rows.proofs.TallySteps.{holds-nil, length-replicate}
use Rattle.count_rows.proofs.rows.read_rows_under.Goals as goal

pub loop-number-init : goal.loop-number-init
loop-number-init c =
    let n : c.len.result ≡ length c.args.columns.now.places.items = omega (arith, c.len.ensures, c.args.columns.now.places.ok.0) in
    let levels : c.in-Ok.tally.levels.items ≡ replicate (length c.args.columns.now.places.items) [] = c.in-Ok.ensures.levels ∙ ap (λ k. replicate k []) n in
    record {
      width = ap (λ (l : List (List (List ℕ))). length l) levels ∙ length-replicate (length c.args.columns.now.places.items) [];
      so_far = λ header h w. (
        [],
        h,
        holds-nil (layout_from c.args.columns.now)
            c.in-Ok.tally levels c.in-Ok.ensures.cells c.in-Ok.ensures.counts c.in-Ok.ensures.sum,
        rows_fault-nil (length header) (layout_from c.args.columns.now),
        refl,
      );
    }

pub returns-in-End : goal.returns-in-End
unfolding GivesNext
returns-in-End c header h w =
    let (rows, at, held, fine, number) = c.loop-number.invariant.so_far header h w in
    ended c.args.text.now header rows (layout_from c.args.columns.now) c.loop-number.tally c.finished.result (c.in-End.ensures (header ∷ rows) at)
    fine held c.finished.ensures.ok c.finished.ensures.empty

pub returns-then-count-width : goal.returns-then-count-width
unfolding GivesNext
returns-then-count-width c header h w n =
    let (rows, at, held, fine, number) = c.loop-number.invariant.so_far header h w in
    let read = c.in-Record.ensures (header ∷ rows) at in
    let long : length c.read.new.into ≢ length header = λ e. c.if-count-width.true (c.count.ensures ∙ e ∙ sym w) in
    row_too_long c.args.text.now header rows c.read.new.into c.in-Record.next (layout_from c.args.columns.now) read long fine
    ∙ ap (λ k. Some (NotCsv k)) (sym number)

pub returns-in-Err : goal.returns-in-Err
unfolding GivesNext
returns-in-Err c header h w n =
    let (rows, at, held, fine, number) = c.loop-number.invariant.so_far header h w in
    let read = c.in-Record.ensures (header ∷ rows) at in
    let long : length c.read.new.into ≡ length header = sym c.count.ensures ∙ c.if-count-width.false ∙ w in
    row_refused c.args.text.now header rows c.read.new.into c.in-Record.next (layout_from c.args.columns.now) c.in-Err.fault read long fine
    (c.in-Err.ensures.row rows held number n)

pub loop-number-preserved : goal.loop-number-preserved
unfolding GivesNext
loop-number-preserved c = record {
  width = c.add.ensures.width ∙ c.loop-number.invariant.width;
  so_far = λ header h w.
      let (rows, at, held, fine, number) = c.loop-number.invariant.so_far header h w in
      let read = c.in-Record.ensures (header ∷ rows) at in
      let long : length c.read.new.into ≡ length header = sym c.count.ensures ∙ c.if-count-width.false ∙ w in
      let (more, fit) = c.in-Ok-add.ensures.row rows held number in
      let r = c.read.new.into in
      let n : c.loop-number.number + 1 ≡ length (rows ++ r ∷ []) + 1 = omega (arith, number, length-append rows (r ∷ [])) in (
        rows ++ r ∷ [],
        read,
        more,
        rows_fault-last (length header) (layout_from c.args.columns.now) rows r fine
            ∙ ap (λ w. row_fault w (layout_from c.args.columns.now) rows r) (sym long) ∙ fit,
        n,
      );
}
