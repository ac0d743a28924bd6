-- One byte more of a record, in a text.
use Rattle.std.proofs.Common.{ℕ, ◌≡◌, ◌+◌, ◌-◌, ◌<◌, ◌≤◌, ◌==◌, not, Bool, true, false, List, [], ◌∷◌, ◌++◌, length, take, drop, get_or, Some, refl}
use Rattle.std.proofs.Common.{sym, ap, ◌∙◌, arith, inl}
use Rattle.std.specs.List.{list_all}
use Rattle.std.proofs.lemmas.Bool.{and_parts}
use Rattle.std.proofs.lemmas.List.{drop_more, drop_all}
use Rattle.csv.specs.Machine.{next_record, step, Runs}
use Rattle.csv.proofs.ReadFacts.{part-rest, run-copies}
use Rattle.csv.specs.Reading.{default_config}
use Rattle.csv.specs.declared.parser.State.{State}
use Rattle.csv.specs.declared.parser.State.TheVariants as st
use Rattle.csv.specs.declared.parser.Action.TheVariants as act
use Rattle.count_rows.specs.Records.{Record}
use Rattle.count_rows.specs.Reader.{IsBetween, GoesOn}
use Rattle.count_rows.specs.Quoted.{state_at, joins}
use Rattle.count_rows.specs.declared.quoted.Place.{Place}
use Rattle.count_rows.specs.declared.quoted.Place.TheVariants as place
use Rattle.count_rows.proofs.RecordSteps.{read_as, plain_step, skip, copy, end_field, end_record}

no_quote : (b : Bool) → not b ≡ true → b ≡ false
no_quote true n = absurd (cc n)
no_quote false n = refl

joins_step : (p : Place) (c : ℕ) → joins p c ≡ true → step default_config (state_at p) c ≡ (state_at p, act.Copy)
joins_step place.StartField c e = absurd (cc e)
joins_step place.InField c e = (plain_step c e)
joins_step place.InQuoted c e = rw (no_quote (c == 34) e) refl
joins_step place.AfterQuote c e = absurd (cc e)

-- what is read of a text so far
abbrev pub AreRead : List ℕ → State → Record → List ℕ → ℕ → Type 0
AreRead text s rs f at = next_record default_config st.StartField [] [] text ≡ next_record default_config s rs f (drop at text)

here : (text : List ℕ) (s : State) (rs : Record) (f : List ℕ) (at : ℕ) → AreRead text s rs f at → at < length text
    → next_record default_config st.StartField [] [] text ≡ next_record default_config s rs f (get_or text at 0 ∷ drop (at + 1) text)
here text s rs f at h below = h ∙ ap (λ (l : List ℕ). next_record default_config s rs f l) (drop_more text at 0 below)

pub skipped : (text : List ℕ) (s t : State) (rs : Record) (f : List ℕ) (at : ℕ) → AreRead text s rs f at → at < length text
    → step default_config s (get_or text at 0) ≡ (t, act.Skip) → AreRead text t rs f (at + 1)
skipped text s t rs f at h below e = here text s rs f at h below ∙ skip s t (get_or text at 0) rs f (drop (at + 1) text) e

pub copied : (text : List ℕ) (s t : State) (rs : Record) (f g : List ℕ) (at : ℕ) → AreRead text s rs f at → at < length text
    → step default_config s (get_or text at 0) ≡ (t, act.Copy) → g ≡ f ++ get_or text at 0 ∷ [] → AreRead text t rs g (at + 1)
copied text s t rs f g at h below e more =
    here text s rs f at h below ∙ copy s t (get_or text at 0) rs f (drop (at + 1) text) e
    ∙ ap (λ (l : List ℕ). next_record default_config t rs l (drop (at + 1) text)) (sym more)

pub field_ended : (text : List ℕ) (s : State) (rs qs : Record) (f g : List ℕ) (at : ℕ) → AreRead text s rs f at → at < length text
    → step default_config s (get_or text at 0) ≡ (st.StartField, act.EndField) → qs ≡ rs ++ f ∷ [] → g ≡ [] → AreRead text st.StartField qs g (at + 1)
field_ended text s rs qs f g at h below e more none =
    rw (more, none) (here text s rs f at h below ∙ end_field s (get_or text at 0) rs f (drop (at + 1) text) e)

pub record_ended : (text : List ℕ) (s : State) (rs qs : Record) (f : List ℕ) (at : ℕ) → AreRead text s rs f at → at < length text
    → (step default_config s (get_or text at 0)).1 ≡ act.EndRecord → IsBetween (step default_config s (get_or text at 0)).0 → qs ≡ rs ++ f ∷ []
    → GoesOn text qs (at + 1)
record_ended text s rs qs f at h below e between more = rw more (record {
  state = (step default_config s (get_or text at 0)).0;
  between = between;
  is = here text s rs f at h below ∙ end_record s (get_or text at 0) rs f (drop (at + 1) text) e;
})

joins_runs : (p : Place) (f : List ℕ) → list_all (joins p) f ≡ true → Runs default_config (state_at p) f
unfolding Runs
joins_runs p [] e = tt
joins_runs p (c ∷ f) e = let both = and_parts (joins p c) (list_all (joins p) f) e in (joins_step p c both.0, joins_runs p f both.1)

-- bytes that only join the field
pub joined : (text : List ℕ) (p : Place) (rs : Record) (f g : List ℕ) (at end : ℕ) → AreRead text (state_at p) rs f at → at ≤ end
    → list_all (joins p) (take (end - at) (drop at text)) ≡ true → g ≡ f ++ take (end - at) (drop at text) → AreRead text (state_at p) rs g end
joined text p rs f g at end h le all more =
    let x = take (end - at) (drop at text) in
    let there : at + (end - at) ≡ end = omega (arith, le) in
    h ∙ ap (λ (l : List ℕ). next_record default_config (state_at p) rs f l) (part-rest at (end - at) text ∙ ap (λ n. x ++ drop n text) there)
    ∙ run-copies default_config (state_at p) rs f x (drop end text) (joins_runs p x all)
    ∙ ap (λ (l : List ℕ). next_record default_config (state_at p) rs l (drop end text)) (sym more)

at_end : (p : Place) (rs : Record) (f : List ℕ) → next_record default_config (state_at p) rs f [] ≡ Some (rs ++ f ∷ [], st.StartRecord, [])
unfolding next_record
at_end place.StartField rs f = refl
at_end place.InField rs f = refl
at_end place.InQuoted rs f = refl
at_end place.AfterQuote rs f = refl

-- the end of the text ends the record
pub text_ended : (text : List ℕ) (p : Place) (rs qs : Record) (f : List ℕ) (at far : ℕ) → AreRead text (state_at p) rs f at → length text ≤ at
    → far ≡ length text → qs ≡ rs ++ f ∷ [] → GoesOn text qs far
text_ended text p rs qs f at far h past is more = rw more (record {
  state = st.StartRecord;
  between = inl refl;
  is = h ∙ ap (λ (l : List ℕ). next_record default_config (state_at p) rs f l) (drop_all at text past) ∙ at_end p rs f
      ∙ ap (λ (l : List ℕ). read_as (rs ++ f ∷ []) st.StartRecord l) (sym (drop_all far text (omega (arith, is))));
})
