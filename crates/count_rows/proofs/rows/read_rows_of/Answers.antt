use Rattle.std.proofs.Common.{◌≡◌, ◌∙◌, sym, ap, subst, List, ℕ, [], map, Bor}
use Rattle.std.specs.Prelude.{option_map}
use Rattle.mixed_graph.specs.Vocabulary.{name_of}
use Rattle.count_rows.specs.declared.fault.CountFault.{CountFault}
use Rattle.count_rows.specs.declared.tally.Tally.{Tally}
use Rattle.count_rows.specs.Records.{Record, Layout, records_of, rows_of, header_of, layout_of}
use Rattle.count_rows.specs.Reader.{GivesNext}
use Rattle.count_rows.specs.Tally.{layout_from, HoldsRecords}
use Rattle.count_rows.proofs.RowFaults.{no_header, bad_header, good_header, header_first, when_ok, when_err, ok_both, err_both}
use Rattle.count_rows.proofs.rows.read_rows_of.Goals as goal

pub returns-in-End-clause-fault : goal.returns-in-End-clause-fault
unfolding GivesNext
returns-in-End-clause-fault c n =
    no_header (records_of c.args.text.now) c.args.names.now c.args.vertices.now c.get.result.now
    (option_map {T = Bor (List ℕ)} {U = List ℕ} (λ s. s.now) c.args.count_column)
    (c.in-End.ensures [] c.open.ensures) c.requires.some c.get.ensures.name ∙ c.no_column.ensures n

pub returns-in-Err-clause-fault : goal.returns-in-Err-clause-fault
unfolding GivesNext
returns-in-Err-clause-fault c n =
    let read = c.in-Record.ensures [] c.open.ensures in
    bad_header (records_of c.args.text.now) c.read.new.into (map (name_of c.args.names.now) c.args.vertices.now)
    (option_map {T = Bor (List ℕ)} {U = List ℕ} (λ s. s.now) c.args.count_column) c.in-Err.fault
    (header_first c.args.text.now c.read.new.into c.in-Record.next read) (c.in-Err.ensures.fault n)

pub returns : goal.returns
unfolding GivesNext
returns c =
    let read = c.in-Record.ensures [] c.open.ensures in
    let at = header_first c.args.text.now c.read.new.into c.in-Record.next read in
    let used = map (name_of c.args.names.now) c.args.vertices.now in
    let count = option_map {T = Bor (List ℕ)} {U = List ℕ} (λ s. s.now) c.args.count_column in
    let layout : layout_from c.in-Ok.columns ≡ layout_of (header_of (records_of c.args.text.now)) used count = c.in-Ok.ensures.layout
    ∙ ap (λ (h : Record). layout_of h used count) (sym at) in
    let good = good_header (records_of c.args.text.now) c.read.new.into used count
    (layout_from c.in-Ok.columns) at c.in-Ok.ensures.fit c.in-Ok.ensures.layout in
    let rows = c.read_rows_under.ensures c.read.new.into read c.count.ensures in
    record {
      rows = ok_both c.read_rows_under.result _ _ (λ (t : Tally) h. subst (λ (l : Layout). HoldsRecords l (rows_of (records_of c.args.text.now)) t)
          layout h.0) (when_ok c.read_rows_under.result _ _ rows);
      fit = ok_both c.read_rows_under.result _ _ (λ (t : Tally) h. good ∙ h.1) (when_ok c.read_rows_under.result _ _ rows);
      fault = err_both c.read_rows_under.result _ _ (λ (f : CountFault) h. λ n. good ∙ h n) (when_err c.read_rows_under.result _ _ rows);
    }
