-- Recanting witnesses, and sets that tell the ways apart.
use Rattle.std.proofs.lemmas.Bool.{false_from_ne_true}
use Rattle.finite_models.proofs.Bools.{not_both}
use Rattle.nested_models.specs.Nested.{NoWitnessTellsApart, WitnessLeavesNone}

pub no_witness_tells_apart : NoWitnessTellsApart
no_witness_tells_apart g x m y k none sound complete = record {
  through = λ p c a e l. complete c l;
  past = λ p c a e l. false_from_ne_true (k c) (λ h. none c (record { parent = p; from_x = e; arrow = a; through = sound c h; past = l }));
}

pub witness_leaves_none : WitnessLeavesNone
witness_leaves_none g x m y k c h tells =
    not_both (k c) (tells.through h.parent c h.arrow h.from_x h.through) (tells.past h.parent c h.arrow h.from_x h.past)
