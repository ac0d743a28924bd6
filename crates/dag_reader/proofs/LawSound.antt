-- What the automaton accepts is a text of the grammar.
use Rattle.std.proofs.Common.{◌≡◌, ℕ, Bool, true, false, List, [], ◌∷◌, length, Option, Some, None, Result, Ok, Err, refl, sym, ap, subst, ◌∙◌}
use Rattle.std.specs.Prelude.{if◌then◌else◌, codes}
use Rattle.std.specs.Str.{bytes_eq}
use Rattle.std.proofs.lemmas.Option.{cond_some}
use Rattle.std.proofs.lemmas.Slice.Eq.{bytes_eq-Decides}
use Rattle.dag_reader.specs.declared.grammar.Braces.{Braces}
use Rattle.dag_reader.specs.declared.grammar.Braces.TheVariants as which
use Rattle.dag_reader.specs.declared.marks.Arrow.{Arrow}
use Rattle.dag_reader.specs.Tokens.{Tok, open_brace, close_brace, open_bracket, close_bracket, semicolon, equals, comma, edge, name, value, end, bad, bad_edge}
use Rattle.dag_reader.specs.Grammar.{Fault, Said, Position, step, settled, taken, ended, fitted, behind_braces, next, next_statement, noted, is_end}
use Rattle.dag_reader.specs.Grammar.{at_start, at_dag, at_title, at_statement, after_name, at_key_value, in_group, group_name, after_first}
use Rattle.dag_reader.specs.Grammar.{after_edge, chain_name, after_group, at_attrs, attr_name, at_attr_value, after_attr, after_comma, at_end}
use Rattle.dag_reader.specs.Syntax.{Word, Inner, inner_semicolon, inner_name, Group, single, braces, Attr, bare, valued, Later, next_attr, comma_attr}
use Rattle.dag_reader.specs.Syntax.{Attrs, no_attr, attr_list, Statement, lone_semicolon, dropped, vertex, chain, Text}
use Rattle.dag_reader.specs.Syntax.{inner_tokens, group_tokens, attr_tokens, later_tokens, inside_tokens, attrs_tokens, links_tokens, body_tokens}
use Rattle.dag_reader.specs.Syntax.{title_tokens, text_tokens}
use Rattle.dag_reader.proofs.LawRun.{ok, then_ok, one_ok, none_ok}

-- ---- what is accepted, as a path through the places

abbrev Path : Position → List Tok → Type 0
Path p [] = ⊥
Path p (end ∷ ts) = p ≡ at_end
Path p (t ∷ ts) = (at : ℕ) × (q : Position) × (next p at t ≡ Some q) × Path q ts

over : (f : ℕ → ℕ) (ts : List Tok) (p : Position) (at : ℕ) (u v : Said) → then_ok f ts (ended p at u) ≡ Some v → p ≡ at_end
over f ts at_end at u v h = refl
over f ts p at u v h = cc h

over_taken : (f : ℕ → ℕ) (ts : List Tok) (p : Position) (at : ℕ) (r : Result Said Fault) (v : Said) → then_ok f ts (taken p at end r) ≡ Some v → p ≡ at_end
over_taken f ts p at (Err e) v h = cc h
over_taken f ts p at (Ok u) v h = over f ts p at u v h

abbrev Goes : (ℕ → ℕ) → List Tok → Option Position → Said → Type 0
Goes f ts o v = (q : Position) × (u : Said) × (o ≡ Some q) × (ok f q u ts ≡ Some v)

on_fitted : (f : ℕ → ℕ) (ts : List Tok) (p : Position) (at : ℕ) (t : Tok) (o : Option Position) (u v : Said) → then_ok f ts (fitted p at t o u) ≡ Some v
    → Goes f ts o v
on_fitted f ts p at t None u v h = cc h
on_fitted f ts p at t (Some q) u v h = (q, noted p t u, refl, h)

on_taken : (f : ℕ → ℕ) (ts : List Tok) (p : Position) (at : ℕ) (t : Tok) (r : Result Said Fault) (v : Said) → is_end t ≡ false
    → then_ok f ts (taken p at t r) ≡ Some v → Goes f ts (next p at t) v
on_taken f ts p at t (Err e) v goes h = cc h
on_taken f ts p at t (Ok u) v goes h = on_fitted f ts p at t (next p at t) u v (rw goes at h)

on_step : (f : ℕ → ℕ) (ts : List Tok) (p : Position) (s : Said) (at : ℕ) (t : Tok) (v : Said) → is_end t ≡ false
    → then_ok f ts (step p s at t) ≡ Some v → Goes f ts (next p at t) v
unfolding step
on_step f ts p s at bad v goes h = cc h
on_step f ts p s at bad_edge v goes h = cc h
on_step f ts p s at end v goes h = cc goes
on_step f ts p s at t v goes h = on_taken f ts p at t (settled p t s) v goes h

path_of : (f : ℕ → ℕ) (ts : List Tok) (p : Position) (s v : Said) → ok f p s ts ≡ Some v → Path p ts
unfolding step
path_of f [] p s v h = cc (sym (none_ok f p s) ∙ h)
path_of f (end ∷ ts) p s v h = over_taken f ts p (f (length ts)) (settled p end s) v (sym (one_ok f p s end ts) ∙ h)
path_of f (t ∷ ts) p s v h =
    let g = on_step f ts p s (f (length ts)) t v refl (sym (one_ok f p s t ts) ∙ h) in
    (f (length ts), g.0, g.2, path_of f ts g.0 g.1 v g.3)

-- ---- what stands behind a place

abbrev pub Body : List Tok → Type 0
Body ts = (xs : List Statement) × (more : List Tok) × (ts ≡ body_tokens xs more)

abbrev pub ChainTail : List Tok → Type 0
ChainTail ts = (ls : List (Arrow × Group)) × (attrs : Option Attrs) × (rest : List Tok) × (ts ≡ links_tokens ls (attrs_tokens attrs rest)) × Body rest

abbrev pub FirstTail : List Tok → Type 0
FirstTail ts = (l : Arrow × Group) × (ls : List (Arrow × Group)) × (attrs : Option Attrs) × (rest : List Tok)
    × (ts ≡ links_tokens (l ∷ ls) (attrs_tokens attrs rest)) × Body rest

abbrev pub GroupTail : Braces → List Tok → Type 0
GroupTail which.First ts = FirstTail ts
GroupTail which.Later ts = ChainTail ts

abbrev pub Inside : Braces → List Tok → Type 0
Inside b ts = (is : List Inner) × (rest : List Tok) × (ts ≡ inner_tokens is rest) × GroupTail b rest

abbrev pub LaterTail : List Tok → Type 0
LaterTail ts = (ls : List Later) × (rest : List Tok) × (ts ≡ later_tokens ls rest) × Body rest

-- a value or none, and then more
abbrev pub with_value : Option Bool → List Tok → List Tok
with_value None more = more
with_value (Some d) more = equals ∷ value d ∷ more

abbrev pub AttrTail : List Tok → Type 0
AttrTail ts = (v : Option Bool) × (rest : List Tok) × (ts ≡ with_value v rest) × LaterTail rest

abbrev pub OneAttr : List Tok → Type 0
OneAttr ts = (a : Attr) × (rest : List Tok) × (ts ≡ attr_tokens a rest) × LaterTail rest

abbrev pub InAttrs : List Tok → Type 0
InAttrs ts = (attrs : Attrs) × (rest : List Tok) × (ts ≡ inside_tokens attrs rest) × Body rest

pub data NameTail : List Tok → Type 0 where
  is_dropped : {ts : List Tok} (rest : List Tok) → ts ≡ equals ∷ value true ∷ rest → Body rest → NameTail ts
  is_vertex : {ts : List Tok} (attrs : Option Attrs) (rest : List Tok) → ts ≡ attrs_tokens attrs rest → Body rest → NameTail ts
  is_chain : {ts : List Tok} → FirstTail ts → NameTail ts

abbrev pub Behind : Position → List Tok → Type 0
Behind at_start ts = (t : Text) × (more : List Tok) × (ts ≡ text_tokens t more)
Behind at_dag ts = (title : Option Word) × (xs : List Statement) × (more : List Tok) × (ts ≡ title_tokens title (body_tokens xs more))
Behind at_title ts = (xs : List Statement) × (more : List Tok) × (ts ≡ open_brace ∷ body_tokens xs more)
Behind at_statement ts = Body ts
Behind (after_name n) ts = NameTail ts
Behind at_key_value ts = (rest : List Tok) × (ts ≡ value true ∷ rest) × Body rest
Behind (in_group b) ts = Inside b ts
Behind (group_name b n) ts = Inside b ts
Behind after_first ts = FirstTail ts
Behind after_edge ts = (g : Group) × (rest : List Tok) × (ts ≡ group_tokens g rest) × ChainTail rest
Behind (chain_name n) ts = ChainTail ts
Behind after_group ts = ChainTail ts
Behind (at_attrs of) ts = InAttrs ts
Behind (attr_name of k n) ts = AttrTail ts
Behind (at_attr_value of) ts = (d : Bool) × (rest : List Tok) × (ts ≡ value d ∷ rest) × LaterTail rest
Behind (after_attr of) ts = LaterTail ts
Behind (after_comma of) ts = OneAttr ts
Behind at_end ts = (more : List Tok) × (ts ≡ end ∷ more)

-- ---- one token before what stands behind the next place

got : (q r : Position) (ts : List Tok) → ◌≡◌ {A = Option Position} (Some q) (Some r) → Behind r ts → Behind q ts
got q r ts is b = let e : q ≡ r = cc is in subst (λ (p : Position). Behind p ts) (sym e) b

word : Bool → List ℕ → Word
word q n = record { quoted = q; text = n }

named : (q : Bool) (n : List ℕ) (ts : List Tok) → NameTail ts → Body (name q n ∷ ts)
unfolding word
named q n ts (is_dropped rest is b) = (dropped (word q n) ∷ b.0, b.1, ap (λ l. name q n ∷ l) (is ∙ ap (λ l. equals ∷ value true ∷ l) b.2))
named q n ts (is_vertex attrs rest is b) = (vertex (word q n) attrs ∷ b.0, b.1, ap (λ l. name q n ∷ l) (is ∙ ap (attrs_tokens attrs) b.2))
named q n ts (is_chain c) =
    let b = c.5 in
    (chain (single (word q n)) c.0 c.1 c.2 ∷ b.0, b.1, ap (λ l. name q n ∷ l) (c.4 ∙ ap (λ l. links_tokens (c.0 ∷ c.1) (attrs_tokens c.2 l)) b.2))

braced : (ts : List Tok) → Inside which.First ts → Body (open_brace ∷ ts)
braced ts i =
    let c = i.3 in
    let b = c.5 in (
      chain (braces i.0) c.0 c.1 c.2 ∷ b.0,
      b.1,
      ap (λ l. open_brace ∷ l) (i.2 ∙ ap (inner_tokens i.0) (c.4 ∙ ap (λ l. links_tokens (c.0 ∷ c.1) (attrs_tokens c.2 l)) b.2)),
    )

-- a token that begins a statement or ends the text
started : (t : Tok) (ts : List Tok) (q : Position) → next_statement t ≡ Some q → Behind q ts → Body (t ∷ ts)
started semicolon ts q is h = let b = got at_statement q ts is h in (lone_semicolon ∷ b.0, b.1, ap (λ l. semicolon ∷ l) b.2)
started (name k n) ts q is h = named k n ts (got (after_name n) q ts is h)
started open_brace ts q is h = braced ts (got (in_group which.First) q ts is h)
started close_brace ts q is h = let b = got at_end q ts is h in ([], b.0, ap (λ l. close_brace ∷ l) b.1)
started t ts q is h = cc is

linked : (a : Arrow) (ts : List Tok) → Behind after_edge ts → FirstTail (edge a ∷ ts)
linked a ts b =
    let c = b.3 in
    ((a, b.0), c.0, c.1, c.2, ap (λ l. edge a ∷ l) (b.2 ∙ ap (group_tokens b.0) c.3), c.4)

chained : (ts : List Tok) → FirstTail ts → ChainTail ts
chained ts c = (c.0 ∷ c.1, c.2, c.3, c.4, c.5)

unchained : (ts : List Tok) → Body ts → ChainTail ts
unchained ts b = ([], None, ts, refl, b)

attributed : (ts : List Tok) → InAttrs ts → ChainTail (open_bracket ∷ ts)
attributed ts a = ([], Some a.0, a.1, ap (λ l. open_bracket ∷ l) a.2, a.3)

pick : (q : Bool) (n : List ℕ) (ts : List Tok) (v : Option Bool) (rest : List Tok) → ts ≡ with_value v rest → LaterTail rest → OneAttr (name q n ∷ ts)
unfolding word
pick q n ts None rest is l = (bare (word q n), rest, ap (λ l. name q n ∷ l) is, l)
pick q n ts (Some d) rest is l = (valued (word q n) d, rest, ap (λ l. name q n ∷ l) is, l)

one_attr : (q : Bool) (n : List ℕ) (ts : List Tok) → AttrTail ts → OneAttr (name q n ∷ ts)
one_attr q n ts t = pick q n ts t.0 t.1 t.2 t.3

later_attr : (ts : List Tok) → OneAttr ts → LaterTail ts
later_attr ts o = (next_attr o.0 ∷ o.3.0, o.3.1, o.2 ∙ ap (attr_tokens o.0) o.3.2, o.3.3)

after_comma_attr : (ts : List Tok) → OneAttr ts → LaterTail (comma ∷ ts)
after_comma_attr ts o = (comma_attr o.0 ∷ o.3.0, o.3.1, ap (λ l. comma ∷ l) (o.2 ∙ ap (attr_tokens o.0) o.3.2), o.3.3)

first_attr : (ts : List Tok) → OneAttr ts → InAttrs ts
first_attr ts o = (attr_list o.0 o.3.0, o.3.1, o.2 ∙ ap (attr_tokens o.0) o.3.2, o.3.3)

-- ---- each place and each token

in_chain : (p : Position) (t : Tok) (ts : List Tok) (q : Position) → next after_group 0 t ≡ Some q → Behind q ts → ChainTail (t ∷ ts)
in_chain p (edge a) ts q is h = chained (edge a ∷ ts) (linked a ts (got after_edge q ts is h))
in_chain p open_bracket ts q is h = attributed ts (got (at_attrs None) q ts is h)
in_chain p semicolon ts q is h = unchained (semicolon ∷ ts) (started semicolon ts q is h)
in_chain p (name k n) ts q is h = unchained (name k n ∷ ts) (started (name k n) ts q is h)
in_chain p open_brace ts q is h = unchained (open_brace ∷ ts) (started open_brace ts q is h)
in_chain p close_brace ts q is h = unchained (close_brace ∷ ts) (started close_brace ts q is h)
in_chain p t ts q is h = cc is

after_a_name : (n : List ℕ) (t : Tok) (ts : List Tok) (q : Position) → next (after_name n) 0 t ≡ Some q → Behind q ts → NameTail (t ∷ ts)
after_a_name n equals ts q is h = let b = got at_key_value q ts is h in is_dropped b.0 (ap (λ l. equals ∷ l) b.1) b.2
after_a_name n (edge a) ts q is h = is_chain (linked a ts (got after_edge q ts is h))
after_a_name n open_bracket ts q is h = let a = got (at_attrs (Some n)) q ts is h in is_vertex (Some a.0) a.1 (ap (λ l. open_bracket ∷ l) a.2) a.3
after_a_name n semicolon ts q is h = is_vertex None (semicolon ∷ ts) refl (started semicolon ts q is h)
after_a_name n (name k m) ts q is h = is_vertex None (name k m ∷ ts) refl (started (name k m) ts q is h)
after_a_name n open_brace ts q is h = is_vertex None (open_brace ∷ ts) refl (started open_brace ts q is h)
after_a_name n close_brace ts q is h = is_vertex None (close_brace ∷ ts) refl (started close_brace ts q is h)
after_a_name n t ts q is h = cc is

closing_tail : (b : Braces) (ts : List Tok) (q : Position) → ◌≡◌ {A = Option Position} (Some (behind_braces b)) (Some q) → Behind q ts → GroupTail b ts
closing_tail which.First ts q is h = got after_first q ts is h
closing_tail which.Later ts q is h = got after_group q ts is h

in_a_group : (b : Braces) (t : Tok) (ts : List Tok) (q : Position) → next (in_group b) 0 t ≡ Some q → Behind q ts → Inside b (t ∷ ts)
unfolding word
in_a_group b semicolon ts q is h = let i = got (in_group b) q ts is h in (inner_semicolon ∷ i.0, i.1, ap (λ l. semicolon ∷ l) i.2, i.3)
in_a_group b (name k n) ts q is h = let i = got (group_name b n) q ts is h in (inner_name (word k n) ∷ i.0, i.1, ap (λ l. name k n ∷ l) i.2, i.3)
in_a_group b close_brace ts q is h = ([], ts, refl, closing_tail b ts q is h)
in_a_group b t ts q is h = cc is

in_attrs : (of : Option (List ℕ)) (at : ℕ) (t : Tok) (ts : List Tok) (q : Position) → next (at_attrs of) at t ≡ Some q → Behind q ts → InAttrs (t ∷ ts)
in_attrs of at (name k n) ts q is h = first_attr (name k n ∷ ts) (one_attr k n ts (got (attr_name of at n) q ts is h))
in_attrs of at close_bracket ts q is h = (no_attr, ts, refl, got at_statement q ts is h)
in_attrs of at t ts q is h = cc is

after_an_attr : (of : Option (List ℕ)) (at : ℕ) (t : Tok) (ts : List Tok) (q : Position) → next (after_attr of) at t ≡ Some q → Behind q ts → LaterTail (t ∷ ts)
after_an_attr of at comma ts q is h = after_comma_attr ts (got (after_comma of) q ts is h)
after_an_attr of at (name k n) ts q is h = later_attr (name k n ∷ ts) (one_attr k n ts (got (attr_name of at n) q ts is h))
after_an_attr of at close_bracket ts q is h = ([], ts, refl, got at_statement q ts is h)
after_an_attr of at t ts q is h = cc is

after_attr_name : (of : Option (List ℕ)) (k : ℕ) (n : List ℕ) (at : ℕ) (t : Tok) (ts : List Tok) (q : Position) → next (attr_name of k n) at t ≡ Some q
    → Behind q ts → AttrTail (t ∷ ts)
after_attr_name of k n at equals ts q is h = let b = got (at_attr_value of) q ts is h in (Some b.0, b.1, ap (λ l. equals ∷ l) b.2, b.3)
after_attr_name of k n at t ts q is h = (None, t ∷ ts, refl, after_an_attr of at t ts q is h)

dag_first : (n : List ℕ) (ts : List Tok) (q : Position) → (if bytes_eq n (codes "dag") then Some at_dag else None) ≡ Some q → Behind q ts
    → Behind at_start (name false n ∷ ts)
dag_first n ts q is h =
    let dag = cond_some _ _ _ is in
    let same : n ≡ codes "dag" = (bytes_eq-Decides n (codes "dag")).0 dag.0 in
    let b : Behind at_dag ts = subst (λ (p : Position). Behind p ts) (sym dag.1) h in
    (record { title = b.0; statements = b.1 }, b.2, λ i. name false (same i) ∷ b.3 i)

behind_next : (p : Position) (at : ℕ) (t : Tok) (ts : List Tok) (q : Position) → next p at t ≡ Some q → Behind q ts → Behind p (t ∷ ts)
unfolding word
behind_next at_start at (name false n) ts q is h = dag_first n ts q is h
behind_next at_dag at (name k n) ts q is h =
    let b = got at_title q ts is h in (Some (word k n), b.0, b.1, ap (λ l. name k n ∷ l) b.2)
behind_next at_dag at open_brace ts q is h = let b = got at_statement q ts is h in (None, b.0, b.1, ap (λ l. open_brace ∷ l) b.2)
behind_next at_title at open_brace ts q is h = let b = got at_statement q ts is h in (b.0, b.1, ap (λ l. open_brace ∷ l) b.2)
behind_next at_statement at t ts q is h = started t ts q is h
behind_next (after_name n) at t ts q is h = after_a_name n t ts q is h
behind_next at_key_value at (value true) ts q is h = (ts, refl, got at_statement q ts is h)
behind_next (in_group b) at t ts q is h = in_a_group b t ts q is h
behind_next (group_name b n) at t ts q is h = in_a_group b t ts q is h
behind_next after_first at (edge a) ts q is h = linked a ts (got after_edge q ts is h)
behind_next after_edge at (name k n) ts q is h = (single (word k n), ts, refl, got (chain_name n) q ts is h)
behind_next after_edge at open_brace ts q is h = let i = got (in_group which.Later) q ts is h in (braces i.0, i.1, ap (λ l. open_brace ∷ l) i.2, i.3)
behind_next (chain_name n) at t ts q is h = in_chain after_group t ts q is h
behind_next after_group at t ts q is h = in_chain after_group t ts q is h
behind_next (at_attrs of) at t ts q is h = in_attrs of at t ts q is h
behind_next (attr_name of k n) at t ts q is h = after_attr_name of k n at t ts q is h
behind_next (at_attr_value of) at (value d) ts q is h = (d, ts, refl, got (after_attr of) q ts is h)
behind_next (after_attr of) at t ts q is h = after_an_attr of at t ts q is h
behind_next (after_comma of) at (name k n) ts q is h = one_attr k n ts (got (attr_name of at n) q ts is h)
behind_next p at t ts q is h = cc is

at_the_end : (p : Position) (ts : List Tok) → p ≡ at_end → Behind p (end ∷ ts)
at_the_end p ts is = subst (λ (q : Position). Behind q (end ∷ ts)) (sym is) (ts, refl)

sound : (ts : List Tok) (p : Position) → Path p ts → Behind p ts
sound [] p k = absurd k
sound (end ∷ ts) p k = at_the_end p ts k
sound (t ∷ ts) p k = behind_next p k.0 t ts k.1 k.2 (sound ts k.1 k.3)

-- What is accepted is a text of the grammar.
pub text_sound : (f : ℕ → ℕ) (ts : List Tok) (s v : Said) → ok f at_start s ts ≡ Some v → Behind at_start ts
text_sound f ts s v h = sound ts at_start (path_of f ts at_start s v h)
