-- Reading a certificate: the keys in their order, each with what it has to be, and the first fault.
use Rattle.std.specs.Prelude.{ℕ, ◌^◌, ◌==◌, Bool, false, ◌&&◌, ◌||◌, List, [], ◌∷◌, ◌++◌, length, Option, Some, None, is_ok, option_and_then, Result}
use Rattle.std.specs.Prelude.{Ok, Err, if◌then◌else◌, codes}
use Rattle.std.specs.Result.{result_ok}
use Rattle.std.specs.Str.{bytes_eq, is_utf8}
use Rattle.prob_expr.specs.Tree.{Tree}
use Rattle.prob_expr.specs.Vocabulary.{PlainTarget, PlainFormula, check_tree, cap}
use Rattle.mixed_graph.specs.Vocabulary.{union}
use Rattle.do_derivation.specs.Vocabulary.{PlainLemma, PlainDerivation}
use Rattle.expr_text.specs.Vocabulary.{expr_of}
use Rattle.serde_json.specs.Data.{Data, Items, no_items, item, Members}
use Rattle.serde_json.specs.Events.{members_len}
use Rattle.serde_json.specs.Find.{get, as_str, as_number, as_u64, as_object}
use Rattle.serde_json.specs.Read.{read}
use Rattle.step_json.specs.Reading as value
use Rattle.step_json.specs.declared.fault.ValueFault.{ValueFault}
use Rattle.step_json.specs.declared.fault.ValueFault.TheVariants.{Form}
use Rattle.step_json.specs.Vocabulary.{or_form, list_by, each, set_in, filled_set_in, step_in, is_end}
use Rattle.certificate.specs.declared.fault.Key.{Key}
use Rattle.certificate.specs.declared.fault.Key.TheVariants as keys
use Rattle.certificate.specs.declared.fault.CertFault.{CertFault}
use Rattle.certificate.specs.declared.fault.CertFault.TheVariants.{NotJson, Member, Version}
use Rattle.certificate.specs.Faults.{◌>>=◌, at_key, or_fault}
use Rattle.certificate.specs.Plain.{PlainHedge, PlainCertificate, formula, hedge}
use Rattle.certificate.specs.HedgeReading.{choice_in, links_in}

-- the member of a key: that it is there, and what f reads from it
abbrev pub member_by : {A : Type 0} → Key → List ℕ → (Data → Result A ValueFault) → Data → Result A CertFault
member_by key name f d = or_fault (Member key) (get name d) >>= λ v. at_key key (f v)

-- ---- expressions

-- an expression: a text that is one
unfoldable pub expr_in : List (List ℕ) → Data → Result Tree ValueFault
expr_in names d = value.◌>>=◌ (or_form (as_str d)) (λ text. or_form (result_ok (expr_of names text)))

-- An expression whose sets are as they have to be, and which names definitions below the limit. `def` is its own number, if it is one.
abbrev pub sound : List (List ℕ) → (def : Option ℕ) (limit : ℕ) → Tree → Result Tree ValueFault
sound names def limit t = if is_ok (check_tree (length names) def limit t 0) then Ok t else Err Form

-- the main expression, whatever it names
abbrev pub main_in : List (List ℕ) → Data → Result Tree ValueFault
main_in names d = value.◌>>=◌ (expr_in names d) (sound names None (2 ^ 32))

-- definition k, which names those before it alone
abbrev pub def_in : List (List ℕ) → ℕ → Data → Result Tree ValueFault
def_in names k d = value.◌>>=◌ (expr_in names d) (sound names (Some (cap k)) k)

-- definitions behind those before
abbrev pub more_defs : List (List ℕ) → List Tree → Items → Result (List Tree) ValueFault
more_defs names before no_items = Ok before
more_defs names before (item d ds) = value.◌>>=◌ (def_in names (length before) d) (λ t. more_defs names (before ++ t ∷ []) ds)

-- a list of definitions
unfoldable pub defs_in : List (List ℕ) → Data → Result (List Tree) ValueFault
defs_in names d = list_by (more_defs names []) d

-- ---- lemmas

-- the step of a lemma, and nothing else
abbrev pub lemma_of : List (List ℕ) → ℕ → Items → Result PlainLemma ValueFault
lemma_of names set no_items = Err Form
lemma_of names set (item d ds) = value.◌>>=◌ (step_in names d) (λ p. if is_end ds then Ok (record { set = set; plan = p }) else Err Form)

-- the items of a lemma: its set before its step
abbrev pub lemma_items : List (List ℕ) → Items → Result PlainLemma ValueFault
lemma_items names no_items = Err Form
lemma_items names (item d ds) = value.◌>>=◌ (filled_set_in names 0 d) (λ set. lemma_of names set ds)

-- a lemma: its set, which isn't empty, and its step
unfoldable pub lemma_in : List (List ℕ) → Data → Result PlainLemma ValueFault
lemma_in names d = list_by (lemma_items names) d

-- a list of lemmas
unfoldable pub lemmas_in : List (List ℕ) → Data → Result (List PlainLemma) ValueFault
lemmas_in names d = list_by (each (lemma_in names) []) d

-- ---- the object

-- the version: a whole number below 2^64
unfoldable pub version_in : Data → Result ℕ CertFault
version_in d = or_fault (Member keys.Version) (option_and_then as_u64 (option_and_then as_number (get (codes "version") d)))

-- what is given: in version 2 alone, a set that isn't empty and that doesn't meet the barred one
unfoldable pub given_in : List (List ℕ) → (version barred : ℕ) → Data → Result ℕ CertFault
given_in names version barred d = if version == 2 then member_by keys.Given (codes "given") (filled_set_in names barred) d else Ok 0

-- the sets of a target, no two of which meet; y isn't empty
unfoldable pub target_in : List (List ℕ) → (version : ℕ) → Data → Result PlainTarget CertFault
target_in names version d = do
  x ← member_by keys.X (codes "x") (set_in names 0) d
  y ← member_by keys.Y (codes "y") (filled_set_in names x) d
  given ← given_in names version (union x y) d
  Ok (record { x = x; y = y; given = given })

-- main names no definition that isn't there
abbrev pub whole : List (List ℕ) → PlainFormula → Result PlainFormula CertFault
whole names f = if is_ok (check_tree (length names) None (length f.defs) f.main 0) then Ok f else Err (Member keys.Formula)

-- a formula: main by itself, then the definitions, and then what main names
unfoldable pub formula_in : List (List ℕ) → Data → Result PlainFormula CertFault
formula_in names d = do
  main ← member_by keys.Formula (codes "formula") (main_in names) d
  defs ← member_by keys.Defs (codes "defs") (defs_in names) d
  whole names (record { defs = defs; main = main })

-- a derivation: its lemmas, and then its main step
unfoldable pub derivation_in : List (List ℕ) → Data → Result PlainDerivation CertFault
derivation_in names d = do
  lemmas ← member_by keys.Lemmas (codes "lemmas") (lemmas_in names) d
  main ← member_by keys.Main (codes "main") (step_in names) d
  Ok (record { lemmas = lemmas; main = main })

-- the number of members; each key of an object stands once
abbrev pub member_count : Option Members → ℕ
member_count (Some ms) = members_len ms
member_count None = 0

-- how many keys the certificate of a formula has: `given` stands in version 2 alone
abbrev pub key_count : (version : ℕ) → ℕ
key_count version = if version == 2 then 9 else 8

-- the certificate of a formula: its keys, and no further one
unfoldable pub formula_certificate_in : List (List ℕ) → (version : ℕ) → Data → Result PlainCertificate CertFault
formula_certificate_in names version d = do
  t ← target_in names version d
  f ← formula_in names d
  p ← derivation_in names d
  if member_count (as_object d) == key_count version then Ok (formula t f p) else Err (Member keys.Extra)

-- a hedge: its sets, then its choice and its links
unfoldable pub hedge_in : List (List ℕ) → Data → Result PlainHedge CertFault
hedge_in names d = do
  big ← member_by keys.Big (codes "big") (set_in names 0) d
  small ← member_by keys.Small (codes "small") (set_in names 0) d
  roots ← member_by keys.Roots (codes "roots") (set_in names 0) d
  choice ← member_by keys.Choice (codes "choice") (choice_in names) d
  links ← member_by keys.Links (codes "links") (links_in names) d
  Ok (record { big = big; small = small; roots = roots; choice = choice; links = links })

-- the certificate of a hedge, which is of version 1: its nine keys, and no further one
unfoldable pub hedge_certificate_in : List (List ℕ) → Data → Result PlainCertificate CertFault
hedge_certificate_in names d = do
  t ← target_in names 1 d
  h ← hedge_in names d
  if member_count (as_object d) == 9 then Ok (hedge t h) else Err (Member keys.Extra)

-- the text is the word
abbrev pub is_word : List ℕ → Option (List ℕ) → Bool
is_word word (Some text) = bytes_eq text word
is_word word None = false

-- whether the answer is the word
abbrev pub is_answer : List ℕ → Data → Bool
is_answer word d = is_word word (option_and_then as_str (get (codes "answer") d))

-- version 1 or 2: the answer says which certificate it is; that of a hedge is of version 1
abbrev pub answer_in : List (List ℕ) → (version : ℕ) → Data → Result PlainCertificate CertFault
answer_in names version d =
    if is_answer (codes "formula") d then formula_certificate_in names version d
    else (if version == 1 && is_answer (codes "hedge") d then hedge_certificate_in names d
    else Err (Member keys.Answer))

-- there are versions 1 and 2
abbrev pub is_version : ℕ → Bool
is_version version = version == 1 || version == 2

-- a value: its version is asked first
unfoldable pub value_certificate : List (List ℕ) → Data → Result PlainCertificate CertFault
value_certificate names d = do
  version ← version_in d
  if is_version version then answer_in names version d else Err (Version version)

-- the value of a text: UTF-8, and JSON
abbrev pub json_of : List ℕ → Option Data
json_of text = if is_utf8 text then read text else None

-- the certificate that a text is, or its first fault
unfoldable pub certificate_in : List (List ℕ) → List ℕ → Result PlainCertificate CertFault
certificate_in names text = or_fault NotJson (json_of text) >>= value_certificate names
