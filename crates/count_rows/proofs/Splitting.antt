-- A record is split into its fields one after the other.
use Rattle.std.proofs.Common.{ℕ, ◌≡◌, ◌+◌, ◌-◌, ◌<◌, ◌≤◌, true, List, [], ◌∷◌, ◌++◌, length, take, drop, get_or}
use Rattle.std.proofs.Common.{refl, sym, ap, ◌∙◌, arith, inl}
use Rattle.std.specs.List.{list_all}
use Rattle.std.proofs.lemmas.List.{drop_more, drop_all}
use Rattle.csv.specs.Machine.{next_record, step}
use Rattle.csv.specs.Reading.{default_config}
use Rattle.csv.specs.declared.parser.State.TheVariants as st
use Rattle.csv.proofs.ReadFacts.{part-rest}
use Rattle.count_rows.specs.Fields.{cut_from, AreEnds}
use Rattle.count_rows.specs.Reader.{is_plain, is_line_end, EndsAt, GoesOn}
use Rattle.count_rows.proofs.FieldLists.{ends-nil, cut-nil, ends-push, cut-push}
use Rattle.count_rows.proofs.RecordSteps.{read_as, state_in, plain_field, comma_step, line_end_step, text_end, end_field, end_record}

-- the fields up to this place are read, and the next begins
pub record AreRead (text ends : List ℕ) (at : ℕ) : Type 0 where
  pub within : at ≤ length text
  pub ordered : AreEnds 0 ends at
  pub so_far : next_record default_config st.StartField [] [] text ≡ next_record default_config st.StartField (cut_from 0 ends text) [] (drop at text)

-- nothing is read
pub none_read : (text ends : List ℕ) → ends ≡ [] → AreRead text ends 0
none_read text ends e = rw e (record {
  within = omega arith;
  ordered = ends-nil [] [] refl refl;
  so_far = ap (λ (rs : List (List ℕ)). next_record default_config st.StartField rs [] text) (sym (cut-nil [] text refl));
})

plain_read : (text ends : List ℕ) (at end : ℕ) → AreRead text ends at → at ≤ end → list_all is_plain (take (end - at) (drop at text)) ≡ true
    → next_record default_config st.StartField [] [] text
    ≡ next_record default_config (state_in (take (end - at) (drop at text))) (cut_from 0 ends text) (take (end - at) (drop at text)) (drop end text)
plain_read text ends at end h le plain =
    let there : at + (end - at) ≡ end = omega (arith, le) in
    h.so_far
    ∙ ap (λ (l : List ℕ). next_record default_config st.StartField (cut_from 0 ends text) [] l)
    (part-rest at (end - at) text ∙ ap (λ n. take (end - at) (drop at text) ++ drop n text) there)
    ∙ plain_field (take (end - at) (drop at text)) (drop end text) (cut_from 0 ends text) plain

-- a comma behind plain bytes
pub field_read : (text ends more : List ℕ) (at end : ℕ) → AreRead text ends at → at ≤ end → list_all is_plain (take (end - at) (drop at text)) ≡ true
    → end < length text → get_or text end 0 ≡ 44 → more ≡ ends ++ end ∷ [] → AreRead text more (end + 1)
field_read text ends more at end h le plain below comma is =
    let f = take (end - at) (drop at text) in
    rw is (record {
      within = omega (arith, below);
      ordered = ends-push 0 ends at end h.ordered le;
      so_far = plain_read text ends at end h le plain
          ∙ ap (λ (l : List ℕ). next_record default_config (state_in f) (cut_from 0 ends text) f l)
          (drop_more text end 0 below ∙ ap (λ c. c ∷ drop (end + 1) text) comma)
          ∙ end_field (state_in f) 44 (cut_from 0 ends text) f (drop (end + 1) text) (comma_step f)
          ∙ ap (λ (rs : List (List ℕ)). next_record default_config st.StartField rs [] (drop (end + 1) text)) (sym (cut-push 0 ends text at end h.ordered));
    })

-- a line end behind them
pub record_read : (text ends more : List ℕ) (at end : ℕ) → AreRead text ends at → at ≤ end → list_all is_plain (take (end - at) (drop at text)) ≡ true
    → end < length text → is_line_end (get_or text end 0) ≡ true → more ≡ ends ++ end ∷ [] → EndsAt text more end
record_read text ends more at end h le plain below stops is =
    let f = take (end - at) (drop at text) in
    let c = get_or text end 0 in
    let last = line_end_step f c stops in
    rw is (record {
      ordered = ends-push 0 ends at end h.ordered le;
      within = omega (arith, below);
      goes = record {
        state = (step default_config (state_in f) c).0;
        between = last.1;
        is = plain_read text ends at end h le plain
            ∙ ap (λ (l : List ℕ). next_record default_config (state_in f) (cut_from 0 ends text) f l) (drop_more text end 0 below)
            ∙ end_record (state_in f) c (cut_from 0 ends text) f (drop (end + 1) text) last.0
            ∙ ap (λ (rs : List (List ℕ)). read_as rs (step default_config (state_in f) c).0 (drop (end + 1) text))
            (sym (cut-push 0 ends text at end h.ordered));
      };
    })

-- the end of the text behind them
pub text_read : (text ends more : List ℕ) (at end : ℕ) → AreRead text ends at → at ≤ end → list_all is_plain (take (end - at) (drop at text)) ≡ true
    → end ≡ length text → more ≡ ends ++ end ∷ [] → EndsAt text more end
text_read text ends more at end h le plain past is =
    let f = take (end - at) (drop at text) in
    rw is (record {
      ordered = ends-push 0 ends at end h.ordered le;
      within = omega (arith, past);
      goes = record {
        state = st.StartRecord;
        between = inl refl;
        is = plain_read text ends at end h le plain
            ∙ ap (λ (l : List ℕ). next_record default_config (state_in f) (cut_from 0 ends text) f l) (drop_all end text (omega (arith, past)))
            ∙ text_end f (cut_from 0 ends text)
            ∙ ap (λ (rs : List (List ℕ)). read_as rs st.StartRecord []) (sym (cut-push 0 ends text at end h.ordered))
            ∙ ap (λ (l : List ℕ). read_as (cut_from 0 (ends ++ end ∷ []) text) st.StartRecord l) (sym (drop_all (end + 1) text (omega (arith, past))));
      };
    })

-- the same record of equal fields, and the same text behind it
pub moved : (text : List ℕ) (rs qs : List (List ℕ)) (a b : ℕ) → GoesOn text rs a → rs ≡ qs → drop b text ≡ drop a text → GoesOn text qs b
moved text rs qs a b h same left = record {
  state = h.state;
  between = h.between;
  is = h.is ∙ ap (λ (ps : List (List ℕ)). read_as ps h.state (drop a text)) same ∙ ap (λ (l : List ℕ). read_as qs h.state l) (sym left);
}
