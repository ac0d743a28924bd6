use Rattle.std.proofs.Common.{rules}
use Rattle.command_words.proofs.typed.Subject.read.Goals as goal

pub returns-in_err-file-clause-none : goal.returns-in_err-file-clause-none
returns-in_err-file-clause-none c = λ row uses g has e file x y is. c.in_err-file.ensures.none row uses g has.0 (search rules) file is.is_file

pub returns-in_err-x-clause-none : goal.returns-in_err-x-clause-none
returns-in_err-x-clause-none c = λ row uses g has e file x y is. c.in_err-x.ensures.none row uses g has.1 (search rules) x is.is_x

pub returns-in_err-y-clause-none : goal.returns-in_err-y-clause-none
returns-in_err-y-clause-none c = λ row uses g has e file x y is. c.in_err-y.ensures.none row uses g has.2 (search rules) y is.is_y

pub returns-clause-ok : goal.returns-clause-ok
returns-clause-ok c = λ row uses g has. record {
  is_file = c.in_ok-file.ensures.ok row uses g has.0;
  is_x = c.in_ok-x.ensures.ok row uses g has.1;
  is_y = c.in_ok-y.ensures.ok row uses g has.2;
}
