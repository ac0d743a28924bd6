use Rattle.std.proofs.Common.{◌<◌, ◌≢◌, ℕ, get_or, ◌++◌, ◌∷◌, [], length, length-set, refl, sym, ap, ◌∙◌, arith, get_or-set_other}
use Rattle.std.proofs.lemmas.List.{take_more, take_more_set, length-replicate}
use Rattle.step_json.proofs.Copying.{blank_everywhere}
use Rattle.step_json.proofs.lists.order_of.Goals as goal

pub loop-i-init : goal.loop-i-init
loop-i-init c = record { size = length-replicate {A = ℕ} 64 0; done = refl; blank = λ k h. blank_everywhere 64 k }

pub loop-i-preserved : goal.loop-i-preserved
loop-i-preserved c =
    let so_far = c.loop-i.invariant in
    let i = c.loop-i.i in
    let v = get_or c.args.vertices.now i 0 in
    let inside : i < length c.args.vertices.now = omega arith in
    let room : i < length c.loop-i.list = omega (arith, so_far.size, c.requires) in
    record {
      size = length-set c.loop-i.list i v ∙ so_far.size;
      done = take_more_set c.loop-i.list i v room ∙ ap (λ l. l ++ v ∷ []) so_far.done ∙ sym (take_more c.args.vertices.now i 0 inside);
      blank = λ k h. let other : k ≢ i = (λ e. omega arith) in rw get_or-set_other (so_far.blank k (omega arith));
    }
