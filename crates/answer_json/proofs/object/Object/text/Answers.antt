use Rattle.std.proofs.Common.{◌≡◌, OnOk, subst}
use Rattle.answer_json.specs.Progress.{with_value}
use Rattle.answer_json.proofs.Texts.{of_text, of_bytes}
use Rattle.answer_json.proofs.object.Object.text.Goals as goal

pub returns-in-Ok : goal.returns-in-Ok
returns-in-Ok c = subst (λ j. OnOk c.string.result (c.string.new.self ≡ with_value j c.args.self.now))
    (of_text c.args.bytes.now c.in-Ok.text.now c.in-Ok.ensures.cases.0 c.in-Ok.ensures.cases.1) c.string.ensures

pub returns-in-Err : goal.returns-in-Err
returns-in-Err c = subst (λ j. OnOk c.numbers.result (c.numbers.new.self ≡ with_value j c.args.self.now))
    (of_bytes c.args.bytes.now c.in-Err.ensures.cases.0) c.numbers.ensures
