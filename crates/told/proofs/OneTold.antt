-- Where right answers that end alike are told in one way, one thing is told.
use Rattle.std.proofs.Common.{◌≡◌, ◌≤◌, ◌<◌, ℕ, List, Result, Ok, Err, sym, ap, ◌∙◌, arith}
use Rattle.replies.specs.declared.outcome.Outcome.{Outcome}
use Rattle.replies.specs.Vocabulary.{code_of}
use Rattle.replies.specs.Told.{Told}
use Rattle.told.specs.declared.form.Form.{Form}
use Rattle.told.specs.Telling.{Telling, Refusal, Tells, outcome_in, told_in}

-- an answer is a yes or a no, and a refusal is neither
pub record AreApart {A F : Type 0} (t : Telling A) (f : Refusal F) : Type 0 where
  pub answered : (a : A) → code_of (t.outcome a) ≤ 1
  pub refused : (e : F) → 1 < code_of (f.outcome e)

module _ {A F : Type 0} (t : Telling A) (f : Refusal F) (apart : AreApart t f) (form : Form) (names others : List (List ℕ)) (here there : Result A F → Type 0)
    (answers : (a b : A) → here (Ok a) → there (Ok b) → t.outcome b ≡ t.outcome a → told_in t f form others (Ok b) ≡ told_in t f form names (Ok a))
    (faults : (e k : F) → here (Err e) → there (Err k) → f.told k ≡ f.told e) where
  unlike : (a : A) (e : F) → t.outcome a ≡ f.outcome e → ⊥
  unlike a e same =
      let c : code_of (t.outcome a) ≡ code_of (f.outcome e) = ap code_of same in
      let s = apart.answered a in
      let l = apart.refused e in
      omega (arith, c, s, l)

  results : (a b : Result A F) → here a → there b → outcome_in t f b ≡ outcome_in t f a → told_in t f form others b ≡ told_in t f form names a
  results (Ok a) (Ok b) g h same = answers a b g h same
  results (Err e) (Err k) g h same = faults e k g h
  results (Ok a) (Err e) g h same = absurd (unlike a e (sym same))
  results (Err e) (Ok a) g h same = absurd (unlike a e same)

  -- of two requests that are alike one thing is told
  pub one_told : (o : Outcome) (told other : Told) → Tells t f here form names o told → Tells t f there form others o other → other ≡ told
  one_told o told other x y = y.prints ∙ results x.answer y.answer x.right y.right (sym y.ends ∙ x.ends) ∙ sym x.prints
