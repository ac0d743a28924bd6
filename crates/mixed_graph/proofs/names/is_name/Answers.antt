use Rattle.std.proofs.Common.{◌<◌, length, sym, ◌∙◌, rules}
use Rattle.std.proofs.lemmas.Str.{IsUtf8-from_is_utf8, is_utf8-from_IsUtf8}
use Rattle.mixed_graph.proofs.names.is_name.Goals as goal

pub returns : goal.returns
returns c = (
  λ t. (let some : 0 < length c.args.bytes.now = search (rules) in
      let line = sym c.is_line.ensures ∙ c.if-not-is_line.false in
      record { utf8 = is_utf8-from_IsUtf8 c.args.bytes.now (c.is_text.ensures.0 t); some = some; line = line }),
  λ n. c.is_text.ensures.1 (IsUtf8-from_is_utf8 c.args.bytes.now n.utf8),
)
