use Rattle.std.proofs.Common.{◌+◌, ◌*◌, ◌-◌, refl, arith}
use Rattle.implied_differences.specs.declared.layout.Block.{Block}
use Rattle.implied_differences.proofs.Bases.{base_outer}
use Rattle.implied_differences.proofs.layout.Block.next.Goals as goal

pub returns-clause-base : goal.returns-clause-base
returns-clause-base c =
    let l = c.args.l.now in
    let b = c.args.self in
    let d : Block = record {
      number = b.number + 1;
      begin = b.begin + 1 + (l.seconds - 1) * l.second_step + (l.firsts - 1) * l.first_step;
      between = 0;
      behind = 0;
    } in
    base_outer l b d c.requires.stepped c.requires.base (λ lt. omega arith) (λ lt. omega arith) refl refl refl refl
