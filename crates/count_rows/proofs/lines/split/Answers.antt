use Rattle.std.proofs.Common.{◌≡◌, ◌∙◌, sym, rules, true, arith, get_or}
use Rattle.std.specs.Prelude.{is_ok}
use Rattle.count_rows.specs.Reader.{is_line_end}
use Rattle.count_rows.proofs.Splitting.{none_read, field_read, record_read, text_read}
use Rattle.count_rows.proofs.lines.split.Goals as goal

pub loop-at-init : goal.loop-at-init
loop-at-init c = none_read c.args.text.now c.clear.new.self.items c.clear.ensures.items

pub loop-at-preserved : goal.loop-at-preserved
loop-at-preserved c =
    let good : is_ok c.push.result ≡ true = search rules in
    let comma : get_or c.args.text.now c.plain_end-end.result 0 ≡ 44 = c.if-text-end-ne44.false in
    field_read c.args.text.now c.loop-at.ends.items c.push.new.self.items c.loop-at.at c.plain_end-end.result c.loop-at.invariant c.plain_end-end.ensures.from
    c.plain_end-end.ensures.plain (omega (arith, c.plain_end-end.ensures.within, c.if-end-text.false)) comma (rw good at c.push.ensures.items)

pub returns-then-is_line_end : goal.returns-then-is_line_end
returns-then-is_line_end c =
    let good : is_ok c.push.result ≡ true = search rules in
    let stops : is_line_end (get_or c.args.text.now c.plain_end-end.result 0) ≡ true = sym c.is_line_end.ensures ∙ c.if-is_line_end.true in
    record_read c.args.text.now c.loop-at.ends.items c.push.new.self.items c.loop-at.at c.plain_end-end.result c.loop-at.invariant c.plain_end-end.ensures.from
    c.plain_end-end.ensures.plain (omega (arith, c.plain_end-end.ensures.within, c.if-end-text.false)) stops (rw good at c.push.ensures.items)

pub returns-then-end-text : goal.returns-then-end-text
returns-then-end-text c =
    let good : is_ok c.push.result ≡ true = search rules in
    text_read c.args.text.now c.loop-at.ends.items c.push.new.self.items c.loop-at.at c.plain_end-end.result c.loop-at.invariant c.plain_end-end.ensures.from
    c.plain_end-end.ensures.plain (omega (arith, c.if-end-text.true)) (rw good at c.push.ensures.items)
