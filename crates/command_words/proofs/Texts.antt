-- Words and names.
use Rattle.std.proofs.Common.{◌≡◌, ◌==◌, ◌||◌, Bool, true, false, not, [], ◌∷◌, ◌++◌, zero, suc, Some, None, refl, ap, arith}
use Rattle.std.specs.Str.{bytes_eq}
use Rattle.std.proofs.lemmas.Bool.Decides.{nat_tests}
use Rattle.std.proofs.lemmas.Slice.Eq.{bytes_eq-Decides}
use Rattle.clap.specs.Lexer.{long_of, short_of, has_byte}
use Rattle.clap.proofs.CutLemmas.{Lacks}
use Rattle.clap.proofs.LexerLemmas.{name_and_value-at, name_and_value-without}
use Rattle.command_words.specs.Form.{Text, long, is_name, is_value, is_positional}
use Rattle.std.proofs.lemmas.Bool.{not-true}

-- a text has the same bytes as itself
pub same_bytes : (x : Text) → bytes_eq x x ≡ true
same_bytes x = (bytes_eq-Decides x x).1 refl

either_false : (a b : Bool) → not (a || b) ≡ true → (a ≡ false) × (not b ≡ true)
either_false true b h = cc h
either_false false b h = (refl, h)

pub lacks : (x : Text) → not (has_byte 61 x) ≡ true → Lacks 61 x
lacks [] h i lt = absurd (omega arith)
lacks (b ∷ bs) h zero lt = let e = (either_false (b == 61) _ h).0 in grind (arith, nat_tests)
lacks (b ∷ bs) h (suc i) lt = lacks bs (either_false (b == 61) _ h).1 i (omega arith)

-- `--x` is read as the name x without a value
pub long_alone : (x : Text) → is_name x ≡ true → long_of (long x) ≡ Some (x, None)
long_alone [] h = cc h
long_alone (b ∷ bs) h = ap (λ p. Some p) (name_and_value-without (b ∷ bs) (lacks (b ∷ bs) h))

-- `--x=v` is read as the name x with the value v
pub long_joined : (x v : Text) → is_name x ≡ true → long_of (long x ++ 61 ∷ v) ≡ Some (x, Some v)
long_joined [] v h = cc h
long_joined (b ∷ bs) v h = ap (λ p. Some p) (name_and_value-at (b ∷ bs) v (lacks (b ∷ bs) h))

-- `--x` isn't `--` alone
pub long_no_dashes : (x : Text) → is_name x ≡ true → bytes_eq (long x) (45 ∷ 45 ∷ []) ≡ false
long_no_dashes [] h = cc h
long_no_dashes (b ∷ bs) h = refl

-- nor is `--x=v`
pub joined_no_dashes : (x v : Text) → is_name x ≡ true → bytes_eq (long x ++ 61 ∷ v) (45 ∷ 45 ∷ []) ≡ false
joined_no_dashes [] v h = cc h
joined_no_dashes (b ∷ bs) v h = refl

-- what a value or a positional is to the lexer
pub record IsPlainWord (word : Text) : Type 0 where
  pub no_dashes : bytes_eq word (45 ∷ 45 ∷ []) ≡ false
  pub no_long : long_of word ≡ None
  pub no_short : short_of word ≡ None

-- a value is no `--` and no option, long or short
pub value_word : (v : Text) → is_value v ≡ true → IsPlainWord v
value_word [] h = cc h
value_word (b ∷ bs) h = let e = not-true (b == 45) h in record { no_dashes = rw e; no_long = rw e; no_short = rw e }

-- nor is a positional, which may be `-`
pub positional_word : (v : Text) → is_positional v ≡ true → IsPlainWord v
positional_word v h = go (is_value v) refl
  where
    go : (t : Bool) → is_value v ≡ t → IsPlainWord v
    go true e = value_word v e
    go false e =
        let s : v ≡ 45 ∷ [] = (bytes_eq-Decides v (45 ∷ [])).0 (rw e at h) in
        record { no_dashes = rw s; no_long = rw s; no_short = rw s }
