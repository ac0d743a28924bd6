use Rattle.std.proofs.Common.{ℕ, ◌≡◌, ◌+◌, ap, ◌∙◌, arith, get_or}
use Rattle.count_table.specs.LaneSums.{if_matched}
use Rattle.count_table.proofs.LaneLaws.{step_fits}
use Rattle.count_table.proofs.lane_sums.masked_sum.Goals as goal

pub overflow_add-total : goal.overflow_add-total
overflow_add-total c =
    record {
      fits = step_fits c.args.mask c.args.want c.eights.at 8 c.eights.total c.block_sum-total.result c.args.counts.now c.args.codes.now c.eights.invariant.total
          c.block_sum-total.ensures (omega arith) c.requires.room;
    }

pub overflow_add-total-in-rest : goal.overflow_add-total-in-rest
overflow_add-total-in-rest c =
    let at = c.rest.at in let counts = c.args.counts.now in let codes = c.args.codes.now in
    record {
      fits = step_fits c.args.mask c.args.want at 1 c.rest.total c.count_if_matched-total.result counts codes c.rest.invariant.total
          (c.count_if_matched-total.ensures ∙ ap (λ i. if_matched c.args.mask c.args.want (get_or counts i 0) (get_or codes i 0))
          (let r : at ≡ at + 0 = omega arith in r)
          ∙ (let r : (x : ℕ) → x ≡ 0 + x = λ x. omega arith in r (if_matched c.args.mask c.args.want (get_or counts (at + 0) 0) (get_or codes (at + 0) 0))))
          (omega arith) c.requires.room;
    }
