-- What other crates cite of this one, from one place.
pub use Rattle.expr_text.specs.Sound.{are_sound, is_sound}
pub use Rattle.expr_text.specs.Text.{IsAt}
pub use Rattle.expr_text.specs.Write.{expr_in, factors_in, formula_in, formula_latex, latex_of, nesting, nesting_all, parenthesized, text_of, wrapped}
-- These may be unfolded there.
unfoldable pub use Rattle.expr_text.specs.Read.{expr_of}
