use Rattle.std.proofs.Common.{◌∙◌, sym, ap, map, arith, rules}
use Rattle.command_words.specs.Views.{row_of, use_of, waiting_of}
use Rattle.command_words.proofs.Loop.{prepend, word_here, no_text, done, waits_for, stops, at_last, no_wait, some_wait, all_read, pushed}
use Rattle.command_words.proofs.forms.read_uses.Goals as goal
use Rattle.command_words.proofs.forms.read_uses.Goals.{in-Done+in_ok-push-in-Done, in-Waits}

pub returns-in-Bad : goal.returns-in-Bad
returns-in-Bad c =
    let here = word_here c.args.words.now c.loop-word.word-index c.word-item.result c.as_str.result.now (omega arith) c.word-item.is c.as_str.ensures.value in
    sym (stops (row_of c.args.row.now) (map use_of c.loop-word.uses.items) (waiting_of c.loop-word.waiting) _ _ _ _ c.loop-word.invariant here c.in-Bad.ensures)

pub loop-word-preserved : goal.loop-word-preserved
loop-word-preserved c =
    let here = word_here c.args.words.now c.loop-word.word-index c.word-item.result c.as_str.result.now (omega arith) c.word-item.is c.as_str.ensures.value in
    elim c.match-read_word.branch [
      | in-Done+in_ok-push-in-Done w ↦
          let e = done (row_of c.args.row.now) (map use_of c.loop-word.uses.items) (waiting_of c.loop-word.waiting) _ _ _ _ c.loop-word.invariant here
          (use_of w.in-Done.used) w.in-Done.ensures in
          let p = pushed w.push.new.self.items c.loop-word.uses.items w.in-Done.used w.in_ok-push-in-Done.ensures.items in
          rw (w.waiting-is, w.uses-is, p) e
      | in-Waits w ↦
          let e = waits_for (row_of c.args.row.now) (map use_of c.loop-word.uses.items) (waiting_of c.loop-word.waiting)
          _ _ _ _ c.loop-word.invariant here w.in-Waits.name.now w.in-Waits.ensures in
          rw (w.waiting-is, w.uses-is) e
    ]

pub returns-then-is_some : goal.returns-then-is_some
returns-then-is_some c =
    let none = no_text c.args.words.now c.loop-word.word-index (omega arith) in
    let e = at_last (row_of c.args.row.now) (map use_of c.loop-word.uses.items) (waiting_of c.loop-word.waiting) _ _ c.loop-word.invariant none in
    let s = some_wait c.loop-word.waiting (search rules) in
    sym (e ∙ ap (prepend (map use_of c.loop-word.uses.items)) s)

pub returns : goal.returns
returns c =
    let none = no_text c.args.words.now c.loop-word.word-index (omega arith) in
    let e = at_last (row_of c.args.row.now) (map use_of c.loop-word.uses.items) (waiting_of c.loop-word.waiting) _ _ c.loop-word.invariant none in
    let s = no_wait c.loop-word.waiting (search rules) in
    sym (e ∙ all_read (map use_of c.loop-word.uses.items) _ s)
