-- The steps of the loop over the words.
use Rattle.std.proofs.Common.{◌≡◌, ◌<◌, ◌≤◌, ◌+◌, ℕ, List, [], ◌∷◌, ◌++◌, length, Option, Some, None, option_map, map, refl, sym, ap, ◌∙◌, drop}
use Rattle.std.proofs.Common.{get_or, drop-cons, add-one, append_assoc}
use Rattle.std.proofs.lemmas.List.{drop_all}
use Rattle.std.specs.Prelude.{string_bytes, String}
use Rattle.std.specs.declared.alloc.Global.{Global}
use Rattle.command_words.specs.Form.{Text, Row, Use}
use Rattle.command_words.specs.Step.{Step, used, waits, bad, step_word, uses_of, with_use, after_step, at_end}
use Rattle.std.specs.Prelude.{is_some, true, false}
use Rattle.std.specs.Borrow.{Bor}
use Rattle.command_words.specs.declared.forms.Used.{Used}
use Rattle.command_words.specs.Views.{texts_of, waiting_of, use_of}
use Rattle.std.proofs.lemmas.List.{append-nil}

-- these uses before the others
abbrev pub prepend : List Use → Option (List Use) → Option (List Use)
prepend us = option_map (λ vs. us ++ vs)

pub text_next : (words : List (String Global)) (i : ℕ) (d : String Global) → i < length words → texts_of (drop i words) ≡ string_bytes (get_or words i d)
    ∷ texts_of (drop (i + 1) words)
text_next words i d lt = rw (add-one, drop-cons words i d) refl

pub no_text : (words : List (String Global)) (i : ℕ) → length words ≤ i → texts_of (drop i words) ≡ []
no_text words i le = rw (drop_all i words le) refl

reads : (row : Row) (waiting : Option Text) (word : Text) (rest : List Text) → uses_of row waiting (word ∷ rest)
    ≡ after_step (step_word row waiting word) (λ next. uses_of row next rest)
unfolding uses_of
reads row waiting word rest = refl

ends : (row : Row) (waiting : Option Text) → uses_of row waiting [] ≡ at_end waiting
unfolding uses_of
ends row waiting = refl

push_use : (us : List Use) (u : Use) (o : Option (List Use)) → prepend us (with_use u o) ≡ prepend (us ++ u ∷ []) o
push_use us u None = refl
push_use us u (Some vs) = ap (λ (ws : List Use). Some ws) (sym (append_assoc us (u ∷ []) vs))

module _ (row : Row) (us : List Use) (waiting : Option Text) (word : Text) (texts rest : List Text) (all : Option (List Use))
    (so_far : all ≡ prepend us (uses_of row waiting texts)) (here : texts ≡ word ∷ rest) where
  step : (s : Step) → s ≡ step_word row waiting word → all ≡ prepend us (after_step s (λ next. uses_of row next rest))
  step s e = so_far ∙ ap (λ (o : Option (List Use)). prepend us o) (ap (uses_of row waiting) here
      ∙ (reads row waiting word rest ∙ ap (λ (t : Step). after_step t (λ next. uses_of row next rest)) (sym e)))

  pub done : (u : Use) → used u ≡ step_word row waiting word → all ≡ prepend (us ++ u ∷ []) (uses_of row None rest)
  done u e = step (used u) e ∙ push_use us u (uses_of row None rest)

  pub waits_for : (x : Text) → waits x ≡ step_word row waiting word → all ≡ prepend us (uses_of row (Some x) rest)
  waits_for x e = step (waits x) e

  pub stops : bad ≡ step_word row waiting word → all ≡ None
  stops e = step bad e

pub at_last : (row : Row) (us : List Use) (waiting : Option Text) (texts : List Text) (all : Option (List Use)) → all ≡ prepend us (uses_of row waiting texts)
    → texts ≡ [] → all ≡ prepend us (at_end waiting)
at_last row us waiting texts all so_far none = so_far ∙ ap (λ (o : Option (List Use)). prepend us o) (ap (uses_of row waiting) none ∙ ends row waiting)

pub word_here : (words : List (String Global)) (i : ℕ) (item : String Global) (word : Text) → i < length words → item ≡ get_or words i item → word
    ≡ string_bytes item
    → texts_of (drop i words) ≡ word ∷ texts_of (drop (i + 1) words)
word_here words i item word lt is reads_as =
    text_next words i item lt ∙ ap (λ (w : Text). w ∷ texts_of (drop (i + 1) words)) (ap (λ (s : String Global). string_bytes s) (sym is) ∙ sym reads_as)

pub no_wait : (o : Option (Bor Text)) → is_some o ≡ false → at_end (waiting_of o) ≡ Some []
no_wait None h = refl
no_wait (Some x) h = cc h

pub some_wait : (o : Option (Bor Text)) → is_some o ≡ true → at_end (waiting_of o) ≡ None
some_wait None h = cc h
some_wait (Some x) h = refl

pub all_read : (us : List Use) (o : Option (List Use)) → o ≡ Some [] → prepend us o ≡ Some us
all_read us o e = rw e (ap (λ (vs : List Use). Some vs) (append-nil us))

pub pushed : (items old : List Used) (u : Used) → items ≡ old ++ u ∷ [] → map use_of items ≡ map use_of old ++ use_of u ∷ []
pushed items [] u e = ap (map use_of) e
pushed items (x ∷ xs) u e = ap (map use_of) e ∙ ap (λ (vs : List Use). use_of x ∷ vs) (pushed (xs ++ u ∷ []) xs u refl)
