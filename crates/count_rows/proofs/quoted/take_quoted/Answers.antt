use Rattle.std.proofs.Common.{◌+◌, ◌∙◌, ◌++◌, ◌∷◌, [], List, ℕ, ap, refl, arith}
use Rattle.count_rows.specs.Quoted.{state_at}
use Rattle.count_rows.proofs.QuotedSteps.{AreRead, joined, skipped, copied, field_ended, record_ended, text_ended}
use Rattle.count_rows.proofs.quoted.take_quoted.Goals as goal
use Rattle.count_rows.proofs.quoted.take_quoted.Goals.{in-Skip, in-Copy+in_ok-push-in-Copy, in-EndField+in_ok-push-in-EndField}

pub loop-at-init : goal.loop-at-init
loop-at-init c = record { within = omega arith; read = rw (c.clear.ensures, c.in_ok-field.ensures.items) refl }

pub loop-at-preserved : goal.loop-at-preserved
loop-at-preserved c =
    let s = state_at c.loop-at.place in
    let read : AreRead c.args.text.now (state_at c.match-turn_at.place) c.match-turn_at.fields c.match-turn_at.field.items (c.loop-at.at + 1) =
    elim c.match-turn_at.branch [
      | in-Skip w ↦
          rw (w.fields-is, w.field-is, w.place-is) (skipped c.args.text.now s (state_at w.in-Skip.next) c.loop-at.fields c.loop-at.field.items c.loop-at.at
          c.loop-at.invariant.read c.loop-at-test.true w.in-Skip.ensures)
      | in-Copy+in_ok-push-in-Copy w ↦
          rw (w.fields-is, w.field-is, w.place-is) (copied c.args.text.now s (state_at w.in-Copy.next) c.loop-at.fields c.loop-at.field.items
          w.push.new.self.items c.loop-at.at c.loop-at.invariant.read c.loop-at-test.true w.in-Copy.ensures w.in_ok-push-in-Copy.ensures.items)
      | in-EndField+in_ok-push-in-EndField w ↦
          rw (w.fields-is, w.field-is, w.place-is) (field_ended c.args.text.now s c.loop-at.fields w.push-in-EndField.new.self c.loop-at.field.items
          w.clear-in-EndField.new.self.items c.loop-at.at c.loop-at.invariant.read c.loop-at-test.true w.in-EndField.ensures
          (w.in_ok-push-in-EndField.ensures ∙ ap (λ (f : List ℕ). c.loop-at.fields ++ f ∷ []) w.as_slice.ensures.value) w.clear-in-EndField.ensures.items)
    ] in
    record {
      within = c.joined_end-end.ensures.within;
      read = joined c.args.text.now c.match-turn_at.place c.match-turn_at.fields c.match-turn_at.field.items c.extend_from_slice.new.self.items
          (c.loop-at.at + 1) c.joined_end-end.result read c.joined_end-end.ensures.from c.joined_end-end.ensures.joined c.in_ok-extend_from_slice.ensures.items;
    }

pub returns-in-EndRecord-clause-fields : goal.returns-in-EndRecord-clause-fields
returns-in-EndRecord-clause-fields c =
    record_ended c.args.text.now (state_at c.loop-at.place) c.loop-at.fields c.push-in-EndRecord.new.self c.loop-at.field.items c.loop-at.at
    c.loop-at.invariant.read c.loop-at-test.true c.in-EndRecord.ensures.0 c.in-EndRecord.ensures.1
    (c.in_ok-push-in-EndRecord.ensures ∙ ap (λ (f : List ℕ). c.loop-at.fields ++ f ∷ []) c.as_slice-in-EndRecord.ensures.value)

pub returns-clause-fields : goal.returns-clause-fields
returns-clause-fields c =
    text_ended c.args.text.now c.loop-at.place c.loop-at.fields c.push-2.new.self c.loop-at.field.items c.loop-at.at _ c.loop-at.invariant.read
    (omega arith) refl
    (c.in_ok-push.ensures ∙ ap (λ (f : List ℕ). c.loop-at.fields ++ f ∷ []) c.as_slice-2.ensures.value)
