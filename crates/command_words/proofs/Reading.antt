-- What a parse gives on words of the form, from what `clap` says.
use Rattle.std.proofs.Common.{◌≡◌, ◌∙◌, ap, sym, refl, Bool, true, false, List, Option, Some, None, Result, Ok, Err, IfOk, IfErr}
use Rattle.clap.specs.Simple.{App, HasMatchesOf, is_simple, subcommand_of, subcommand_rows_of}
use Rattle.std.proofs.Common.{option_map, codes}
use Rattle.std.specs.Prelude.{if◌then◌else◌}
use Rattle.std.specs.Option.{option_and_then}
use Rattle.clap.specs.Walk.{Row as Entry, first_of, one_of}
use Rattle.command_words.specs.Form.{is_among, value_names, positional_names, value_of, has_flag, word_of}
use Rattle.clap.specs.Takes.{takes}
use Rattle.clap.specs.Values.{kind_of}
use Rattle.clap.specs.declared.error.Error.{Error}
use Rattle.clap.specs.declared.error.kind.ErrorKind.TheVariants.{OutOfMemory}
use Rattle.clap.specs.declared.parser.matches.ArgMatches.{ArgMatches}
use Rattle.command_words.specs.Form.{Text, Row, Use, IsCall}
use Rattle.command_words.specs.App.{app_of_table}
use Rattle.command_words.specs.Gives.{GivesCall}
use Rattle.command_words.specs.Readable.{IsReadable}

module _ (table : List Row) (readable : IsReadable table) (ws : List Text) (row : Row) (uses : List Use) (call : IsCall table ws row uses) (a : App)
    (e : a ≡ app_of_table table) where
  pub ok_gives : {F : Type 0} (r : Result ArgMatches F) → IfOk r (HasMatchesOf a ws) → IfOk r (λ m. GivesCall row uses m)
  ok_gives (Ok m) h =
      let finds = readable.finds ws row uses call in record {
        rows = finds.rows;
        found = (h (ap is_simple e ∙ readable.simple)).1 ∙ (ap (λ (b : App). subcommand_of b ws) e ∙ finds.found);
        gives = finds.gives;
        allowed = call.allowed;
      }
  ok_gives (Err x) h = tt

  pub err_memory : {M : Type 0} (r : Result M Error) → IfErr r (λ x. takes a ws ≡ true → kind_of x ≡ OutOfMemory) → IfErr r (λ x. kind_of x ≡ OutOfMemory)
  err_memory (Ok m) h = tt
  err_memory (Err x) h = h (ap (λ (b : App). takes b ws) e ∙ readable.taken ws row uses call)

-- what is read of the rows below
pub inner_text : (f : List Entry → Option Text) (o : Option (Text × List Entry)) (rows : List Entry) → Some rows
    ≡ option_map (λ (p : Text × List Entry). p.1) o → f rows ≡ option_and_then (λ (p : Text × List Entry). f p.1) o
inner_text f None rows e = cc e
inner_text f (Some p) rows e = let is : rows ≡ p.1 = cc e in ap f is

module _ (row : Row) (uses : List Use) (m : ArgMatches) (g : GivesCall row uses m) where
  abbrev below : (List Entry → Option Text) → Option Text
  below f = option_and_then (λ (p : Text × List Entry). f p.1) (subcommand_rows_of m)

  found_in : (f : List Entry → Option Text) → below f ≡ f g.rows
  found_in f = ap (λ (o : Option (Text × List Entry)). option_and_then (λ (p : Text × List Entry). f p.1) o) g.found

  pub option_text : (x : Text) → is_among (value_names row) x ≡ true → below (first_of x) ≡ value_of uses x
  option_text x has = found_in (first_of x) ∙ g.gives.options x has

  pub word_text : (n : Text) → is_among (positional_names row) n ≡ true → below (first_of n) ≡ word_of row uses n
  word_text n has = found_in (first_of n) ∙ g.gives.positionals n has

  pub flag_text : (x : Text) → is_among row.flags x ≡ true → below (one_of x) ≡ Some (if has_flag uses x then codes "true" else codes "false")
  flag_text x has = found_in (one_of x) ∙ g.gives.flags x has

  -- a test that is true at `true` and false at `false` tells whether the flag is there
  pub flag_is : (result : Bool) (x : Text) → is_among row.flags x ≡ true → (below (one_of x) ≡ Some (codes "true") → result ≡ true)
      → (below (one_of x) ≡ Some (codes "false") → result ≡ false)
      → result ≡ has_flag uses x
  flag_is result x has there gone = go (has_flag uses x) refl
    where
      go : (t : Bool) → has_flag uses x ≡ t → result ≡ has_flag uses x
      go true e = let k : below (one_of x) ≡ Some (codes "true") = rw e at (flag_text x has) in there k ∙ sym e
      go false e = let k : below (one_of x) ≡ Some (codes "false") = rw e at (flag_text x has) in gone k ∙ sym e
