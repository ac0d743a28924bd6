use Rattle.std.proofs.Common.{◌+◌, suc, sym, subst, ◌∙◌, arith}
use Rattle.answer_text.specs.Vocabulary.{is_name_byte}
use Rattle.dag_reader.proofs.NameRuns.{IsRun, run_begins, run_more, run_ends, run_bytes, whole_run, whole_same, whole_bytes}
use Rattle.dag_reader.proofs.tokens.name_len.Goals as goal

pub loop-i-init : goal.loop-i-init
loop-i-init c = run_begins is_name_byte c.args.bytes.now

pub loop-i-preserved : goal.loop-i-preserved
loop-i-preserved c =
    subst (IsRun is_name_byte c.args.bytes.now c.with_digit-digits.result) {x = suc c.loop-i.i} {y = c.loop-i.i + 1} (omega arith)
    (run_more is_name_byte c.args.bytes.now c.loop-i.digits c.with_digit-digits.result c.loop-i.i c.loop-i.invariant (omega (arith, c.loop-i-test.true))
    (sym c.is_name_byte.ensures ∙ c.if-not-is_name_byte.false) c.with_digit-digits.ensures.byte c.with_digit-digits.ensures.digits)

pub returns-then-not-is_name_byte-clause-run : goal.returns-then-not-is_name_byte-clause-run
returns-then-not-is_name_byte-clause-run c =
    run_ends is_name_byte c.args.bytes.now c.loop-i.digits c.loop-i.i c.loop-i.invariant (omega (arith, c.loop-i-test.true))
    (sym c.is_name_byte.ensures ∙ c.if-not-is_name_byte.true)

pub returns-then-not-is_name_byte-clause-bytes : goal.returns-then-not-is_name_byte-clause-bytes
returns-then-not-is_name_byte-clause-bytes c =
    run_bytes is_name_byte c.args.bytes.now c.loop-i.digits c.loop-i.i c.loop-i.invariant (omega (arith, c.loop-i-test.true))

pub returns-clause-run : goal.returns-clause-run
returns-clause-run c = whole_run is_name_byte c.args.bytes.now c.loop-i.digits c.loop-i.i c.loop-i.invariant (omega (arith, c.loop-i-test.false))

pub returns-clause-digits : goal.returns-clause-digits
returns-clause-digits c = whole_same is_name_byte c.args.bytes.now c.loop-i.digits c.loop-i.i c.loop-i.invariant (omega (arith, c.loop-i-test.false))

pub returns-clause-bytes : goal.returns-clause-bytes
returns-clause-bytes c = whole_bytes is_name_byte c.args.bytes.now c.loop-i.digits c.loop-i.i c.loop-i.invariant (omega (arith, c.loop-i-test.false))
