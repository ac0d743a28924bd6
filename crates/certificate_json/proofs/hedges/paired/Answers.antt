use Rattle.std.proofs.Common.{◌++◌, ◌∷◌, [], get_or, sym, ap, ◌∙◌, arith}
use Rattle.certificate_json.proofs.Pairs.{zip_more}
use Rattle.certificate_json.proofs.hedges.paired.Goals as goal

pub loop-i-preserved : goal.loop-i-preserved
loop-i-preserved c =
    let xs = c.args.found.now in
    let ys = c.args.partner.now in
    let i = c.loop-i.i in
    c.in_ok-push.ensures.items ∙ ap (λ l. l ++ (get_or xs i 0, get_or ys i 0) ∷ []) c.loop-i.invariant ∙ sym (zip_more xs ys i (omega arith) c.requires)
