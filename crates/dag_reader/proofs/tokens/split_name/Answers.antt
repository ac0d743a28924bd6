use Rattle.std.proofs.Common.{◌≤◌, length, sym, ap, subst, ◌∙◌, arith}
use Rattle.std.proofs.lemmas.List.{length-take-le}
use Rattle.answer_text.specs.Vocabulary.{is_name_byte}
use Rattle.mixed_graph.specs.Vocabulary.{AreBytes, digits_on}
use Rattle.dag_reader.specs.declared.tokens.Class.TheVariants as classes
use Rattle.dag_reader.proofs.TextForm.{taken_pass, run_cut}
use Rattle.dag_reader.proofs.tokens.split_name.Goals as goal

pub returns-clause-passes : goal.returns-clause-passes
returns-clause-passes c = rw (c.split_at.ensures.front, c.name_len-count.ensures.run) (taken_pass is_name_byte c.args.bytes.now)

pub returns-clause-text : goal.returns-clause-text
returns-clause-text c = rw (c.split_at.ensures.front, c.name_len-count.ensures.run) (run_cut classes.Name c.args.bytes.now c.requires).0

pub returns-clause-after : goal.returns-clause-after
returns-clause-after c = rw (c.split_at.ensures.back, c.name_len-count.ensures.run) (run_cut classes.Name c.args.bytes.now c.requires).1

pub key_of_digits-requires : goal.key_of_digits-requires
key_of_digits-requires c = λ few.
    let front = c.split_at.ensures.front in
    let long : c.name_len-count.result.0 ≤ 7 = (let n = ap length front in let l = length-take-le c.name_len-count.result.0 c.args.bytes.now c.name_len-count.ensures.within in
    omega (arith, n, l, few)) in (
      c.name_len-count.ensures.digits long ∙ ap (digits_on 0) (sym front),
      subst AreBytes (sym front) c.name_len-count.ensures.bytes,
    )
