use Rattle.fractions.proofs.FractionLaws
use Rattle.fractions.proofs.laws.Goals as goal

pub returns : goal.returns
returns c = record {
  reflexive = FractionLaws.equal_refl;
  symmetric = FractionLaws.equal_sym;
  transitive = FractionLaws.equal_trans;
  over_zero = FractionLaws.nothing_equals_over_zero;
  wholes = FractionLaws.equal_wholes;
  scaled = FractionLaws.equal_scaled;
  sums = FractionLaws.add_equal;
  long_sums = FractionLaws.add_below_equal;
  products = FractionLaws.mul_equal;
  quotients = FractionLaws.div_equal;
  add_commutes = FractionLaws.add_comm;
  add_associates = FractionLaws.add_assoc;
  add_zero = FractionLaws.add-zero;
  mul_commutes = FractionLaws.mul_comm;
  mul_associates = FractionLaws.mul_assoc;
  mul_one = FractionLaws.mul-one;
  distributes = FractionLaws.mul_add;
  undone = FractionLaws.mul_div;
}
