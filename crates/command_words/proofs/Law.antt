-- The uses that are read are those that spell the words.
use Rattle.std.proofs.Common.{◌≡◌, ◌+◌, ◌==◌, ◌&&◌, ℕ, Bool, true, false, List, [], ◌∷◌, ◌++◌, suc, Option, Some, None, refl, sym, ap, ◌∙◌, subst, arith}
use Rattle.std.specs.List.{list_any, list_all, flat_map, before_first, after_first, position_or_len}
use Rattle.std.proofs.lemmas.Bool.Decides.{nat_tests}
use Rattle.clap.specs.Lexer.{long_of, name_and_value}
use Rattle.clap.proofs.WalkLemmas.{both}
use Rattle.command_words.specs.Form.{Text, Row, Use, positional, apart, in_one, flag, long, spelled, is_value, is_positional, is_among, value_names, fits}
use Rattle.command_words.specs.Form.{is_name, is_clear}
use Rattle.command_words.specs.Step.{Step, used, waits, bad, step_long, step_dashed, step_word, uses_of, with_use, after_step}
use Rattle.command_words.proofs.Texts.{long_alone, long_joined}
use Rattle.command_words.proofs.Names.{all_at, among_left, among_right, other_side}
use Rattle.std.specs.Cmp.Derive.{both_true}

-- ---- words that the uses spell are read as those uses

reads_on : (row : Row) (waiting : Option Text) (word : Text) (u : Use) (words : List Text) (us : List Use) → step_word row waiting word ≡ used u
    → uses_of row None words ≡ Some us
    → uses_of row waiting (word ∷ words) ≡ Some (u ∷ us)
unfolding uses_of
reads_on row waiting word u words us e h = rw (e, h) refl

waits_on : (row : Row) (word x : Text) (words : List Text) (o : Option (List Use)) → step_word row None word ≡ waits x → uses_of row (Some x) words ≡ o
    → uses_of row None (word ∷ words) ≡ o
unfolding uses_of
waits_on row word x words o e h = rw (e) h

module _ (row : Row) (clear : is_clear row ≡ true) where
  name_of_value : (x : Text) → is_among (value_names row) x ≡ true → is_name x ≡ true
  name_of_value x h = all_at is_name (value_names row ++ row.flags) x (both (list_all is_name (value_names row ++ row.flags)) _ clear).0
      (among_left (value_names row) row.flags x h)

  name_of_flag : (x : Text) → is_among row.flags x ≡ true → is_name x ≡ true
  name_of_flag x h = all_at is_name (value_names row ++ row.flags) x (both (list_all is_name (value_names row ++ row.flags)) _ clear).0
      (among_right (value_names row) row.flags x h)

  no_value : (x : Text) → is_among row.flags x ≡ true → is_among (value_names row) x ≡ false
  no_value x h = other_side (value_names row) row.flags x (both (list_all is_name (value_names row ++ row.flags)) _ clear).1 h

  pub read_back : (us : List Use) → list_all (fits row) us ≡ true → uses_of row None (flat_map spelled us) ≡ Some us
  unfolding uses_of
  read_back [] fit = refl
  read_back (positional w ∷ us) fit =
      let f = both (is_positional w) _ fit in reads_on row None w (positional w) (flat_map spelled us) us (rw (f.0) refl) (read_back us f.1)
  read_back (apart x v ∷ us) fit =
      let f = both (is_among (value_names row) x && is_value v) _ fit in
      let g = both (is_among (value_names row) x) _ f.0 in
      waits_on row (long x) x (v ∷ flat_map spelled us) (Some (apart x v ∷ us)) (rw (long_alone x (name_of_value x g.0), g.0) refl)
      (reads_on row (Some x) v (apart x v) (flat_map spelled us) us (rw (g.1) refl) (read_back us f.1))
  read_back (in_one x v ∷ us) fit =
      let f = both (is_among (value_names row) x && is_value v) _ fit in
      let g = both (is_among (value_names row) x) _ f.0 in
      reads_on row None (long x ++ 61 ∷ v) (in_one x v) (flat_map spelled us) us (rw (long_joined x v (name_of_value x g.0), f.0) refl) (read_back us f.1)
  read_back (flag x ∷ us) fit =
      let f = both (is_among row.flags x) _ fit in
      reads_on row None (long x) (flag x) (flat_map spelled us) us (rw (long_alone x (name_of_flag x f.0), no_value x f.0, f.0) refl) (read_back us f.1)

-- ---- and the uses that are read spell the words

-- `--name` and `--name=value`, put together again
abbrev pub long_text : Text × Option Text → Text
long_text (x, None) = long x
long_text (x, Some v) = long x ++ 61 ∷ v

joined_again : (text : Text) → list_any (λ x. x == 61) text ≡ true → before_first (λ x. x == 61) text ++ 61 ∷ after_first (λ x. x == 61) text ≡ text
joined_again [] h = cc h
joined_again (b ∷ bs) h = go (b == 61) refl (joined_again bs)
  where
    go : (t : Bool) → (b == 61) ≡ t → (list_any (λ x. x == 61) bs ≡ true → before_first (λ x. x == 61) bs ++ 61 ∷ after_first (λ x. x == 61) bs ≡ bs)
        → before_first (λ x. x == 61) (b ∷ bs) ++ 61 ∷ after_first (λ x. x == 61) (b ∷ bs) ≡ b ∷ bs
    go true e next = let is : b ≡ 61 = grind (arith, nat_tests) in rw e (ap (λ (n : ℕ). n ∷ bs) (sym is))
    go false e next =
        let n : ℕ = position_or_len (λ x. x == 61) bs in
        let one : 1 + n ≡ suc n = omega arith in
        let two : 1 + n + 1 ≡ suc (n + 1) = omega arith in
        rw (e, two, one) (ap (λ (t : Text). b ∷ t) (next (rw e at h)))

whole_again : (text : Text) → list_any (λ x. x == 61) text ≡ false → before_first (λ x. x == 61) text ≡ text
whole_again [] h = refl
whole_again (b ∷ bs) h = go (b == 61) refl (whole_again bs)
  where
    go : (t : Bool) → (b == 61) ≡ t → (list_any (λ x. x == 61) bs ≡ false → before_first (λ x. x == 61) bs ≡ bs) → before_first (λ x. x == 61) (b ∷ bs) ≡ b ∷ bs
    go true e next = let bad : true ≡ false = rw e at h in cc bad
    go false e next =
        let n : ℕ = position_or_len (λ x. x == 61) bs in
        let one : 1 + n ≡ suc n = omega arith in
        rw (e, one) (ap (λ (t : Text). b ∷ t) (next (rw e at h)))

cut_again : (text : Text) → long_text (name_and_value text) ≡ long text
cut_again text = go (list_any (λ x. x == 61) text) refl
  where
    go : (t : Bool) → list_any (λ x. x == 61) text ≡ t → long_text (name_and_value text) ≡ long text
    go true e = rw e (ap long (joined_again text e))
    go false e = rw e (ap long (whole_again text e))

-- a word that begins with two hyphens
long_again : (word : Text) (p : Text × Option Text) → long_of word ≡ Some p → long_text p ≡ word
long_again [] p h = cc h
long_again (a ∷ word) p h = first (a == 45) refl
  where
    third : (rest : Text) → long_of (45 ∷ 45 ∷ rest) ≡ Some p → long_text p ≡ 45 ∷ 45 ∷ rest
    third [] k = cc k
    third (b ∷ bs) k = let is : name_and_value (b ∷ bs) ≡ p = cc k in ap long_text (sym is) ∙ cut_again (b ∷ bs)

    second : (rest : Text) → long_of (45 ∷ rest) ≡ Some p → long_text p ≡ 45 ∷ rest
    second [] k = cc k
    second (b ∷ bs) k = inner b bs k (b == 45) refl
      where
        inner : (b : ℕ) (bs : List ℕ) → long_of (45 ∷ b ∷ bs) ≡ Some p → (t : Bool) → (b == 45) ≡ t → long_text p ≡ 45 ∷ b ∷ bs
        inner b bs k true e = let is : b ≡ 45 = grind (arith, nat_tests) in third bs (ap (λ (n : ℕ). long_of (45 ∷ n ∷ bs)) (sym is) ∙ k)
            ∙ ap (λ (n : ℕ). 45 ∷ n ∷ bs) (sym is)
        inner b bs k false e = let bad : None ≡ Some p = rw e at k in cc bad

    first : (t : Bool) → (a == 45) ≡ t → long_text p ≡ a ∷ word
    first true e = let is : a ≡ 45 = grind (arith, nat_tests) in second word (ap (λ (n : ℕ). long_of (n ∷ word)) (sym is) ∙ h)
        ∙ ap (λ (n : ℕ). n ∷ word) (sym is)
    first false e = let bad : None ≡ Some p = rw e at h in cc bad

-- ---- what a step says

-- an option that waits is one of the row
abbrev pub Waits : Row → Option Text → Type 0
Waits row None = Unit {0}
Waits row (Some x) = is_among (value_names row) x ≡ true

-- the words with that of the option that waits
abbrev pub started : Option Text → List Text → List Text
started None words = words
started (Some x) words = long x ∷ words

-- what a step says: the use that the words spell, which the row allows, or the option that now waits
abbrev pub Steps : Row → Option Text → Text → Step → Type 0
Steps row waiting word (used u) = (spelled u ≡ started waiting (word ∷ [])) × (fits row u ≡ true)
Steps row waiting word (waits x) = (waiting ≡ None) × (long x ≡ word) × (is_among (value_names row) x ≡ true)
Steps row waiting word bad = Unit {0}

long_steps : (row : Row) (word x : Text) (v : Option Text) → long_text (x, v) ≡ word → Steps row None word (step_long row x v)
long_steps row word x None h = go (is_among (value_names row) x) (is_among row.flags x) refl refl
  where
    go : (p q : Bool) → is_among (value_names row) x ≡ p → is_among row.flags x ≡ q → Steps row None word (step_long row x None)
    go true q e f = rw e (refl, h, e)
    go false true e f = rw (e, f) (ap (λ (w : Text). w ∷ []) h, f)
    go false false e f = rw (e, f) tt
long_steps row word x (Some v) h = go (is_among (value_names row) x && is_value v) refl
  where
    go : (p : Bool) → (is_among (value_names row) x && is_value v) ≡ p → Steps row None word (step_long row x (Some v))
    go true e = rw e (ap (λ (w : Text). w ∷ []) h, e)
    go false e = rw e tt

dashed_steps : (row : Row) (word : Text) (o : Option (Text × Option Text)) → long_of word ≡ o → Steps row None word (step_dashed row o)
dashed_steps row word None h = tt
dashed_steps row word (Some p) h = long_steps row word p.0 p.1 (long_again word p h)

word_steps : (row : Row) (waiting : Option Text) (word : Text) → Waits row waiting → Steps row waiting word (step_word row waiting word)
word_steps row (Some x) word h = go (is_value word) refl
  where
    go : (p : Bool) → is_value word ≡ p → Steps row (Some x) word (step_word row (Some x) word)
    go true e = rw e (refl, both_true h e)
    go false e = rw e tt
word_steps row None word h = go (is_positional word) refl
  where
    go : (p : Bool) → is_positional word ≡ p → Steps row None word (step_word row None word)
    go true e = rw e (refl, e)
    go false e = rw e (dashed_steps row word (long_of word) refl)

-- ---- all the words

-- the uses, where there are any, spell the words, and the row allows them
abbrev pub Spells : Row → List Text → Option (List Use) → Type 0
Spells row words None = Unit {0}
Spells row words (Some us) = (flat_map spelled us ≡ words) × (list_all (fits row) us ≡ true)

one_more : (row : Row) (waiting : Option Text) (word : Text) (words : List Text) (u : Use) (o : Option (List Use)) → spelled u ≡ started waiting (word ∷ [])
    → fits row u ≡ true → Spells row words o
    → Spells row (started waiting (word ∷ words)) (with_use u o)
one_more row waiting word words u None e f h = tt
one_more row None word words u (Some us) e f h = (rw (e) (ap (λ (ws : List Text). word ∷ ws) h.0), both_true f h.1)
one_more row (Some x) word words u (Some us) e f h = (rw (e) (ap (λ (ws : List Text). long x ∷ word ∷ ws) h.0), both_true f h.1)

-- what is read of words spells them
pub spells : (row : Row) (words : List Text) (waiting : Option Text) → Waits row waiting → Spells row (started waiting words) (uses_of row waiting words)
unfolding uses_of
spells row [] None h = (refl, refl)
spells row [] (Some x) h = tt
spells row (word ∷ words) waiting h = go (step_word row waiting word) (word_steps row waiting word h) (spells row words)
  where
    go : (s : Step) → Steps row waiting word s → ((w : Option Text) → Waits row w → Spells row (started w words) (uses_of row w words))
        → Spells row (started waiting (word ∷ words)) (after_step s (λ next. uses_of row next words))
    go (used u) k next = one_more row waiting word words u (uses_of row None words) k.0 k.1 (next None tt)
    go (waits x) k next = subst (λ (w : Option Text). Spells row (started w (word ∷ words)) (uses_of row (Some x) words)) (sym k.0)
        (subst (λ (w : Text). Spells row (w ∷ words) (uses_of row (Some x) words)) k.1 (next (Some x) k.2))
    go bad k next = tt
