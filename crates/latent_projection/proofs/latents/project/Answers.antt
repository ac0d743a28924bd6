use Rattle.std.proofs.Common.{ℕ, Bool, ◌≡◌, ◌||◌, ◌==◌, true, false, arith, ap, sym, ◌∙◌, subst, refl}
use Rattle.std.proofs.lemmas.Bool.{eq-eqb, ne_eqb, or_left, or_right}
use Rattle.mixed_graph.specs.Vocabulary.{has, members_below, MixedGraph, graph_of}
use Rattle.mixed_graph.proofs.MemberLists.{AreMembers, is_in, members-are, is_in-members}
use Rattle.latent_projection.proofs.Treks.{ProjectsByTreks}
use Rattle.latent_projection.proofs.Removing.{projects_up}
use Rattle.latent_projection.proofs.Removals.{projects_itself}
use Rattle.latent_projection.proofs.Projecting.{projection_by_treks}
use Rattle.latent_projection.proofs.latents.project.Goals as goal

pub vertices-init : goal.vertices-init
vertices-init c =
    let whole = c.into_iter-k-iterator.ensures.into_iter_gives ∙ c.iter-k-items.ensures in
    record {
      small = c.args.g.now.small;
      agree = c.args.g.now.agree;
      valid = c.args.g.now.valid;
      are = subst (AreMembers (has c.args.latent.bits) 64) (sym whole) (members-are (has c.args.latent.bits) 64);
      projects = λ p is. subst (λ (l : ℕ → Bool). ProjectsByTreks (graph_of c.args.g.now) l p)
          (λ i u. (ap (λ vs. is_in vs u) whole ∙ is_in-members c.args.latent.bits (omega arith) u) i) is;
    }

pub vertices-preserved : goal.vertices-preserved
vertices-preserved c =
    let first = c.in-Some.ensures.steps in
    let are = subst (AreMembers (has c.args.latent.bits) 64) first c.vertices.invariant.are in
    let left_is : (u : ℕ) → is_in c.vertices.k-iterator u ≡ ((u == c.in-Some.k) || is_in c.next.new.self u) = λ u. ap (λ vs. is_in vs u) first in
    record {
      small = c.remove-graph.result.small;
      agree = c.remove-graph.result.agree;
      valid = c.remove-graph.result.valid;
      are = are.3;
      projects = λ p is. c.vertices.invariant.projects p
          (projects_up _ c.in-Some.k (is_in c.vertices.k-iterator) (is_in c.next.new.self) c.vertices.invariant.valid
          (left_is c.in-Some.k ∙ or_left _ _ (eq-eqb c.in-Some.k c.in-Some.k refl))
          are.2
          (λ v h. left_is v ∙ or_right _ _ h)
          (λ v d h. (let e = left_is v in let s : (v == c.in-Some.k) ≡ false = ne_eqb v c.in-Some.k d in grind arith))
          p (subst (λ (h : MixedGraph). ProjectsByTreks h (is_in c.next.new.self) p) c.remove-graph.ensures is));
    }

pub returns : goal.returns
returns c = projection_by_treks _ _ _ (c.vertices.invariant.projects _
    (projects_itself _ _ (λ v. ap (λ vs. is_in vs v) c.in-None.ensures.steps.0) c.vertices.invariant.valid))
