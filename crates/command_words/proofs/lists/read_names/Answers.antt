use Rattle.std.proofs.Common.{◌∙◌, sym, ap, arith, rules, refl, get_or}
use Rattle.command_words.specs.ListViews.{names_in}
use Rattle.command_words.specs.Walk.{next_of, is_none}
use Rattle.command_words.proofs.ListLoop.{prepend, byte_here, no_byte, takes, passes, ends_name, stops, at_last, no_end, an_end, names_pushed}
use Rattle.command_words.proofs.lists.read_names.Goals as goal
use Rattle.command_words.proofs.lists.read_names.Goals.{in-Take+in_ok-push-in-Take, in-Pass, in-End+in_ok-push-in-End}

pub returns-in-Bad : goal.returns-in-Bad
returns-in-Bad c =
    let b = get_or c.args.text.now c.loop-byte.byte-index 0 in
    let here = byte_here c.args.text.now c.loop-byte.byte-index b (omega arith) refl in
    let e = c.in-Bad.ensures ∙ ap (λ t. next_of c.loop-byte.place t b) (c.lacks.ensures ∙ ap is_none c.deref.ensures.value) in
    sym (stops (names_in c.loop-byte.names) c.loop-byte.place c.loop-byte.name.items b _ _ _ c.loop-byte.invariant here e)

pub loop-byte-preserved : goal.loop-byte-preserved
loop-byte-preserved c =
    let b = get_or c.args.text.now c.loop-byte.byte-index 0 in
    let here = byte_here c.args.text.now c.loop-byte.byte-index b (omega arith) refl in
    elim c.match-step.branch [
      | in-Take+in_ok-push-in-Take w ↦
          let e = w.in-Take.ensures ∙ ap (λ t. next_of c.loop-byte.place t b) (c.lacks.ensures ∙ ap is_none c.deref.ensures.value) in
          let k = takes (names_in c.loop-byte.names) c.loop-byte.place c.loop-byte.name.items b _ _ _ c.loop-byte.invariant here w.in-Take.after e in
          rw (w.names-is, w.name-is, w.place-is, w.in_ok-push-in-Take.ensures.items) k
      | in-Pass w ↦
          let e = w.in-Pass.ensures ∙ ap (λ t. next_of c.loop-byte.place t b) (c.lacks.ensures ∙ ap is_none c.deref.ensures.value) in
          let k = passes (names_in c.loop-byte.names) c.loop-byte.place c.loop-byte.name.items b _ _ _ c.loop-byte.invariant here w.in-Pass.after e in
          rw (w.names-is, w.name-is, w.place-is) k
      | in-End+in_ok-push-in-End w ↦
          let e = w.in-End.ensures ∙ ap (λ t. next_of c.loop-byte.place t b) (c.lacks.ensures ∙ ap is_none c.deref.ensures.value) in
          let k = ends_name (names_in c.loop-byte.names) c.loop-byte.place c.loop-byte.name.items b _ _ _ c.loop-byte.invariant here e in
          let p = names_pushed w.push-in-End.new.self.items c.loop-byte.names.items c.loop-byte.name w.in_ok-push-in-End.ensures.items in
          rw (w.names-is, w.name-is, w.place-is, w.new-name-in-End.ensures.items, p) k
    ]

pub returns-then-not-ends : goal.returns-then-not-ends
returns-then-not-ends c =
    let none = no_byte c.args.text.now c.loop-byte.byte-index (omega arith) in
    let e = at_last (names_in c.loop-byte.names) c.loop-byte.place c.loop-byte.name.items _ _ c.loop-byte.invariant none in
    let s = no_end c.loop-byte.place c.loop-byte.name.items (search rules) in
    sym (e ∙ ap (prepend (names_in c.loop-byte.names)) s)

pub returns : goal.returns
returns c =
    let none = no_byte c.args.text.now c.loop-byte.byte-index (omega arith) in
    let e = at_last (names_in c.loop-byte.names) c.loop-byte.place c.loop-byte.name.items _ _ c.loop-byte.invariant none in
    let s = an_end c.loop-byte.place c.loop-byte.name.items (search rules) in
    let p = names_pushed c.push-2.new.self.items c.loop-byte.names.items c.loop-byte.name c.in_ok-push.ensures.items in
    rw p (sym (e ∙ ap (prepend (names_in c.loop-byte.names)) s))
