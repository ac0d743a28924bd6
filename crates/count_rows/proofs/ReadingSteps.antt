-- What a read says of the records of a text.
use Rattle.std.proofs.Common.{ℕ, ◌≡◌, ◌+◌, ◌<◌, ◌≤◌, true, false, List, [], ◌∷◌, ◌++◌, length, drop, get_or, Some, refl, ap, ◌∙◌, inl, arith}
use Rattle.std.proofs.lemmas.List.{append-nil, drop-drop}
use Rattle.csv.specs.Machine.{next_record}
use Rattle.csv.specs.Reading.{Reached, default_config, records_from, strip_bom, is_bom}
use Rattle.csv.specs.declared.parser.State.TheVariants as st
use Rattle.csv.proofs.ReadFacts.{reached-more}
use Rattle.count_rows.specs.Records.{Record, records_of}
use Rattle.count_rows.specs.Reader.{HasRead, GoesOn, is_line_end}
use Rattle.count_rows.proofs.Cutting.{read_first, none_left}
use Rattle.count_rows.proofs.RecordSteps.{read_as, as_at_start, begun, none_behind}

pub split : (text : List ℕ) (before : List Record) (at : ℕ) → (h : HasRead text before at) → records_of text ≡ before
    ++ records_from default_config (length (drop at text) + 1) h.state (drop at text)
unfolding records_of
split text before at h = read_first default_config st.StartRecord h.state (strip_bom text) (drop at text) before h.reached

-- the text behind the line ends, read from where they begin
skipped : (text : List ℕ) (before : List Record) (at from : ℕ) → (h : HasRead text before at)
    → next_record default_config st.StartRecord [] [] (drop at text) ≡ next_record default_config st.StartRecord [] [] (drop from text)
    → next_record default_config h.state [] [] (drop at text) ≡ next_record default_config st.StartRecord [] [] (drop from text)
skipped text before at from h same = as_at_start h.state (drop at text) h.between ∙ same

-- another record
pub another : (text : List ℕ) (before : List Record) (at from far : ℕ) (r : Record) → HasRead text before at
    → next_record default_config st.StartRecord [] [] (drop at text) ≡ next_record default_config st.StartRecord [] [] (drop from text)
    → from < length text → is_line_end (get_or text from 0) ≡ false
    → GoesOn (drop from text) r far
    → HasRead text (before ++ r ∷ []) (from + far)
another text before at from far r h same below starts goes =
    let is : next_record default_config h.state [] [] (drop at text) ≡ Some (r, goes.state, drop (from + far) text) =
    skipped text before at from h same ∙ begun text from below starts ∙ goes.is
    ∙ ap (λ (l : List ℕ). read_as r goes.state l) (drop-drop far from text) in
    record {
      state = goes.state;
      between = goes.between;
      reached = reached-more default_config st.StartRecord h.state (strip_bom text) (drop at text) before (r, goes.state, drop (from + far) text) h.reached is;
    }

-- no other record
pub all_read : (text : List ℕ) (before : List Record) (at from : ℕ) → HasRead text before at
    → next_record default_config st.StartRecord [] [] (drop at text) ≡ next_record default_config st.StartRecord [] [] (drop from text)
    → length text ≤ from → records_of text ≡ before
all_read text before at from h same past =
    split text before at h
    ∙ ap (λ (l : List Record). before ++ l) (none_left default_config h.state (drop at text)
    (skipped text before at from h same ∙ none_behind text from past))
    ∙ append-nil before

-- a text without the mark, or behind it
pub opened : (text : List ℕ) (at : ℕ) → strip_bom text ≡ drop at text → HasRead text [] at
unfolding Reached
opened text at e = record { state = st.StartRecord; between = inl refl; reached = (refl, e) }

pub unmarked : (text : List ℕ) → 3 ≤ length text → is_bom (get_or text 0 0) (get_or text 1 0) (get_or text 2 0) ≡ false → strip_bom text ≡ text
unfolding strip_bom
unmarked [] h e = absurd (omega (arith, h))
unmarked (a ∷ []) h e = absurd (omega (arith, h))
unmarked (a ∷ b ∷ []) h e = absurd (omega (arith, h))
unmarked (a ∷ b ∷ c ∷ rest) h e = rw e refl

pub marked : (text : List ℕ) → 3 ≤ length text → is_bom (get_or text 0 0) (get_or text 1 0) (get_or text 2 0) ≡ true → strip_bom text ≡ drop 3 text
unfolding strip_bom
marked [] h e = absurd (omega (arith, h))
marked (a ∷ []) h e = absurd (omega (arith, h))
marked (a ∷ b ∷ []) h e = absurd (omega (arith, h))
marked (a ∷ b ∷ c ∷ rest) h e = rw e refl
