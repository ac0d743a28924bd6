-- A treatment that is joined to a child of its own by bidirected edges has two models that differ.
use Rattle.std.proofs.Common.{ℕ, suc, ◌-◌, ◌≡◌, Bool, true, false, cond, eqb, ltb, ◌||◌, refl}
use Rattle.mixed_graph.specs.Vocabulary.{has, MixedGraph, IsMixedGraph}
use Rattle.finite_models.specs.Vocabulary.{ServesTwo}
use Rattle.treated_models.specs.Vocabulary.{DifferAmong}
use Rattle.treated_models.proofs.NoFormula.{differing_excludes_among}
use Rattle.treated_paths.specs.Paths.{PathsDifferAmong, PathsExcludeAmong}
use Rattle.treated_paths.proofs.Agreeing.{paths_agree}
use Rattle.treated_paths.proofs.Difference.{many, some, at_point, effects_differ}
use Rattle.treated_paths.proofs.Event.{IsReadPath, at_within, seen, seen_within}
use Rattle.treated_paths.proofs.Fits.{path_fits}
use Rattle.treated_paths.proofs.Models.{path_model}
use Rattle.treated_paths.proofs.Positive.{path_positive}
use Rattle.treated_paths.proofs.Ways.{found, read_path}

-- a noise serves its vertex, and a coin the ends of its edge
path_two : (g : MixedGraph) (x : ℕ → Bool) (k : ℕ) (w : ℕ → ℕ) (first : Bool) (often : ℕ) → ServesTwo (path_model g x k w first often)
path_two g x k w first often = record {
  one = λ j. cond (ltb j g.vertices) j (w (j - g.vertices));
  other = λ j. cond (ltb j g.vertices) j (w (suc (j - g.vertices)));
  serves = λ j v lt. go j v (ltb j g.vertices);
}
  where
    twice : (b : Bool) → b ≡ (b || b)
    twice true = refl
    twice false = refl

    go : (j v : ℕ) (b : Bool) → cond b (eqb v j) (eqb v (w (j - g.vertices)) || eqb v (w (suc (j - g.vertices))))
        ≡ (eqb v (cond b j (w (j - g.vertices))) || eqb v (cond b j (w (suc (j - g.vertices)))))
    go j v true = twice (eqb v j)
    go j v false = refl

differ_along : (g : MixedGraph) → IsMixedGraph g → (x y z k : ℕ) (w : ℕ → ℕ) → IsReadPath g (has x) (has y) (has z) k w → DifferAmong g x y z
differ_along g ok x y z k w p =
    let often = many g ok (has x) (has y) (has z) k w p in let rare = some g ok (has x) (has y) (has z) k w p in record {
      first = path_model g (has x) k w true often;
      second = path_model g (has x) k w false often;
      first_fits = path_fits g ok (has x) k w p.path true often rare;
      second_fits = path_fits g ok (has x) k w p.path false often rare;
      first_positive = path_positive g (has x) k w true often rare;
      second_positive = path_positive g (has x) k w false often rare;
      first_two = path_two g (has x) k w true often;
      second_two = path_two g (has x) k w false often;
      observed = paths_agree g ok (has x) k w p.path often rare;
      at = at_point g ok (has x) (has y) (has z) k w p;
      at_within = at_within g ok (has x) (has y) (has z) k w p often rare;
      seen = seen g ok (has x) (has y) (has z) k w p often rare;
      seen_within = seen_within g ok (has x) (has y) (has z) k w p often rare;
      unequal = effects_differ g ok (has x) (has y) (has z) k w p;
    }

pub paths_differ_among : PathsDifferAmong
paths_differ_among g ok x y z target confounded =
    let w = found g ok x y z target confounded in
    differ_along g ok x y z w.last w.visit (read_path g ok x y z target confounded w)

pub paths_exclude_among : PathsExcludeAmong
paths_exclude_among g ok x y z target confounded =
    differing_excludes_among g ok x y z target.x_low (paths_differ_among g ok x y z target confounded)
