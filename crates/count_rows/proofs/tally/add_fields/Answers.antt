use Rattle.std.proofs.Common.{◌≡◌, ◌∙◌, arith, ap, List, ℕ, [], get_or}
use Rattle.mixed_graph.specs.Vocabulary.{with_name, index_of}
use Rattle.count_rows.specs.Records.{field_in}
use Rattle.count_rows.proofs.TallySteps.{written_here, cells_more}
use Rattle.std.proofs.lemmas.List.{get_or-set_other, get_or_default}
use Rattle.count_rows.proofs.tally.add_fields.Goals as goal

pub loop-i-preserved : goal.loop-i-preserved
loop-i-preserved c =
    let level : get_or c.loop-i.levels c.loop-i.i c.index-levels-i.result ≡ get_or c.args.levels.now c.loop-i.i [] =
    get_or_default c.loop-i.levels c.loop-i.i c.index-levels-i.result [] (omega arith) ∙ c.loop-i.invariant.behind c.loop-i.i (omega arith) in
    let f = λ (k : ℕ). field_in (get_or c.args.places.now k 0) c.args.row.now in
    record {
      before = λ k h. written_here c.loop-i.levels c.args.levels.now c.loop-i.i k c.add.new.self (λ j. with_name (get_or c.args.levels.now j []) (f j))
          (omega arith)
          (c.in_ok-number.ensures.added ∙ ap (λ (l : List (List ℕ)). with_name l c.get.result.now) level
          ∙ ap (λ (x : List ℕ). with_name (get_or c.args.levels.now c.loop-i.i []) x) c.get.ensures)
          c.loop-i.invariant.before h;
      behind = λ k h. get_or-set_other c.loop-i.levels c.loop-i.i k c.add.new.self [] (omega (arith, h)) ∙ c.loop-i.invariant.behind k (omega (arith, h));
      cells = cells_more c.push.new.self.items c.args.cells.now.items c.loop-i.cells.items c.loop-i.i c.in_ok-number.number
          (λ j. index_of (get_or c.args.levels.now j []) (f j))
          c.in_ok-push.ensures.items c.loop-i.invariant.cells
          (c.in_ok-number.ensures.number ∙ ap (λ (l : List (List ℕ)). index_of l c.get.result.now) level
          ∙ ap (λ (x : List ℕ). index_of (get_or c.args.levels.now c.loop-i.i []) x) c.get.ensures);
    }
