use Rattle.std.proofs.Common.{◌≡◌, ◌∙◌, ◌<◌, arith, sym, List, ℕ, length}
use Rattle.std.specs.Prelude.{Option, Some, None, IfSome, position}
use Rattle.std.specs.Global.{Vec}
use Rattle.std.specs.Str.{bytes_eq}
use Rattle.std.proofs.lemmas.List.{length-map}
use Rattle.mixed_graph.specs.Vocabulary.{texts, index_of}
use Rattle.mixed_graph.proofs.NameLists.{list_any-texts, position_or_len-texts, position-index}
use Rattle.count_rows.proofs.levels.number_in.Goals as goal

number_from : (ks : List (Vec ℕ)) (n : List ℕ) (r : Option ℕ) → r ≡ position (λ (k : Vec ℕ). bytes_eq n k.items) ks → IfSome r (λ k. k ≡ index_of (texts ks) n)
number_from ks n None e = tt
number_from ks n (Some i) e =
    (position-index {X = Vec ℕ} (λ (k : Vec ℕ). bytes_eq n k.items) ks (Some i) e).0 ∙ sym (position_or_len-texts (bytes_eq n) ks)

within_from : (ks : List (Vec ℕ)) (n : List ℕ) (r : Option ℕ) → r ≡ position (λ (k : Vec ℕ). bytes_eq n k.items) ks → IfSome r (λ k. k < length (texts ks))
within_from ks n None e = tt
within_from ks n (Some i) e =
    let few : length (texts ks) ≡ length ks = simp length-map in
    let below = (position-index {X = Vec ℕ} (λ (k : Vec ℕ). bytes_eq n k.items) ks (Some i) e).1 in
    omega (arith, few, below)

pub returns-in-Some : goal.returns-in-Some
returns-in-Some c = record {
  number = rw c.as_slice.ensures.keys at c.in-Some.ensures.number;
  within = rw c.as_slice.ensures.keys at c.in-Some.ensures.within;
  there = sym (rw c.as_slice.ensures.keys at c.in-Some.ensures.there);
}

pub returns-in-None : goal.returns-in-None
returns-in-None c =
    let ks = c.args.set.now.keys in
    record {
      number = number_from ks c.args.level.now c.get_index_of.result c.get_index_of.ensures.index;
      within = within_from ks c.args.level.now c.get_index_of.result c.get_index_of.ensures.index;
      there = c.get_index_of.ensures.found ∙ sym (list_any-texts (bytes_eq c.args.level.now) ks);
    }
