-- The arguments of a row, added kind by kind.
use Rattle.std.proofs.Common.{◌≡◌, List, [], ◌∷◌, ◌++◌, map, sym, ap, ◌∙◌, append_assoc}
use Rattle.std.specs.Prelude.{fold}
use Rattle.clap.specs.Walk.{Rule}
use Rattle.clap.specs.Simple.{App, with_rule, on_top, new_app}
use Rattle.command_words.specs.Form.{Row}
use Rattle.command_words.specs.App.{app_of_row, rules_of_row, positional_rule, optional_rule, required_rule, option_rule, flag_rule}
use Rattle.std.proofs.lemmas.List.{append-nil}

-- the command with these arguments behind its own
abbrev pub with_rules : App → List Rule → App
with_rules a rules = on_top (λ s. record s { rules = s.rules ++ rules }) a

pub grows : (a : App) (rules : List Rule) → fold with_rule a rules ≡ with_rules a rules
grows a [] = ap (λ (r : List Rule). on_top (λ s. record s { rules = r }) a) (sym (append-nil a.top.rules))
grows a (r ∷ rules) = grows (with_rule a r) rules ∙ ap (λ (q : List Rule). on_top (λ s. record s { rules = q }) a) (append_assoc a.top.rules (r ∷ []) rules)

pub row_built : (row : Row) (a b c d e f : App) → a ≡ new_app row.name → b ≡ fold with_rule a (map positional_rule row.positionals) → c
    ≡ fold with_rule b (map optional_rule row.optional)
    → d ≡ fold with_rule c (map required_rule row.required) → e ≡ fold with_rule d (map option_rule row.options) → f
    ≡ fold with_rule e (map flag_rule row.flags)
    → f ≡ app_of_row row
row_built row a b c d e f pa pb pc pd pe pf =
    let ps = map positional_rule row.positionals in
    let es = map optional_rule row.optional in
    let ns = map required_rule row.required in
    let os = map option_rule row.options in
    let fs = map flag_rule row.flags in
    let qb : b ≡ with_rules (new_app row.name) ps = pb ∙ (ap (λ (x : App). fold with_rule x ps) pa ∙ grows (new_app row.name) ps) in
    let qc : c ≡ with_rules (new_app row.name) (ps ++ es) = pc ∙ (ap (λ (x : App). fold with_rule x es) qb ∙ grows (with_rules (new_app row.name) ps) es) in
    let qd : d ≡ with_rules (new_app row.name) ((ps ++ es) ++ ns) = pd
    ∙ (ap (λ (x : App). fold with_rule x ns) qc ∙ grows (with_rules (new_app row.name) (ps ++ es)) ns) in
    let qe : e ≡ with_rules (new_app row.name) (((ps ++ es) ++ ns) ++ os) = pe
    ∙ (ap (λ (x : App). fold with_rule x os) qd ∙ grows (with_rules (new_app row.name) ((ps ++ es) ++ ns)) os) in
    let qf : f ≡ with_rules (new_app row.name) ((((ps ++ es) ++ ns) ++ os) ++ fs) = pf
    ∙ (ap (λ (x : App). fold with_rule x fs) qe ∙ grows (with_rules (new_app row.name) (((ps ++ es) ++ ns) ++ os)) fs) in
    let all : (((ps ++ es) ++ ns) ++ os) ++ fs ≡ rules_of_row row = simp append_assoc in
    qf ∙ ap (λ (q : List Rule). with_rules (new_app row.name) q) all
