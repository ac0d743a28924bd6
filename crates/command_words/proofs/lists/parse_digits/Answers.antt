use Rattle.command_words.proofs.Parsed.{too_wide}
use Rattle.command_words.proofs.lists.parse_digits.Goals as goal

pub returns-in-Err : goal.returns-in-Err
returns-in-Err c = λ some. too_wide c.args.text.now c.parse.result c.in-Err.field-0 c.in-Err.is c.parse.ensures.value.0 c.requires some
