-- The hidden mechanisms put into the observed ones, and the model on some vertices and causes.
use Rattle.std.proofs.Common.{ℕ, ◌≡◌, ◌<◌, Bool, true, false, cond, not, ◌&&◌, length, get_or, nat_lt, refl}
use Rattle.std.proofs.lemmas.Bool.{false_from_ne_true}
use Rattle.mixed_graph.specs.Vocabulary.{members_below, MixedGraph}
use Rattle.finite_models.specs.Vocabulary.{FiniteModel, solution, intervene}
use Rattle.latent_projection.specs.Vocabulary.{LeadsThrough, IsProjection}
use Rattle.latent_projection.proofs.Treks.{Reaches, LeadsOn, ProjectsByTreks, clash}
use Rattle.latent_projection.proofs.LatentPaths.{trek_of, path_of}

-- the values of all vertices where the observed ones have the values of s: the hidden mechanisms are evaluated
abbrev pub filled : FiniteModel → (ℕ → Bool) → (ℕ → ℕ) → (ℕ → ℕ) → ℕ → ℕ
filled m l s u = solution (intervene m (λ v. not (l v)) s) u

-- The hidden mechanisms are put into the observed ones; cause j serves v where r j v. A hidden vertex has the one value 0.
abbrev pub fold : FiniteModel → (ℕ → Bool) → (ℕ → ℕ → Bool) → FiniteModel
fold m l r = record m { size = λ v. cond (l v) 1 (m.size v); serves = r; mechanism = λ v s u. cond (l v) 0 (m.mechanism v (filled m l s u) u) }

-- a child of cause j reaches v
pub record IsReached (g : MixedGraph) (l : ℕ → Bool) (m : FiniteModel) (j v : ℕ) : Type 0 where
  pub child : ℕ
  pub served : m.serves j child ≡ true
  pub way : Reaches g l child v

-- r tells which observed vertices a cause reaches
pub record TellsReached (g : MixedGraph) (l : ℕ → Bool) (m : FiniteModel) (r : ℕ → ℕ → Bool) : Type 0 where
  pub observed : (j v : ℕ) → r j v ≡ true → l v ≡ false
  pub sound : (j v : ℕ) → r j v ≡ true → IsReached g l m j v
  pub complete : (j v : ℕ) → j < m.causes → l v ≡ false → IsReached g l m j v → r j v ≡ true

-- the number of members of j below k: the new number of the member k
abbrev pub position : (ℕ → Bool) → ℕ → ℕ
position j k = length (members_below j k)

-- the member of j below n with that new number
abbrev pub member : (ℕ → Bool) → ℕ → ℕ → ℕ
member j n i = get_or (members_below j n) i 0

-- values of the members of o in their old numbers, the others having their first value
abbrev pub values_in : (ℕ → Bool) → (ℕ → ℕ) → ℕ → ℕ
values_in o s x = cond (o x) (s (position o x)) 0

-- the members of o whose new numbers are in the set
abbrev pub set_in : (ℕ → Bool) → (ℕ → Bool) → ℕ → Bool
set_in o a x = o x && a (position o x)

-- the model on the vertices in o with the causes in j
abbrev pub kept : FiniteModel → (ℕ → Bool) → (ℕ → Bool) → FiniteModel
kept m o j = record {
  vertices = position o m.vertices;
  size = λ v. m.size (member o m.vertices v);
  causes = position j m.causes;
  values = λ i. m.values (member j m.causes i);
  weight = λ i. m.weight (member j m.causes i);
  serves = λ i v. nat_lt v (position o m.vertices) && m.serves (member j m.causes i) (member o m.vertices v);
  mechanism = λ v s u. m.mechanism (member o m.vertices v) (values_in o s) (values_in j u);
}

-- j holds the causes that serve some vertex in o
pub record KeepsCauses (m : FiniteModel) (o j : ℕ → Bool) : Type 0 where
  pub idle : (i v : ℕ) → i < m.causes → j i ≡ false → m.serves i v ≡ false
  pub busy : (i : ℕ) → i < m.causes → j i ≡ true → (v : ℕ) × (v < m.vertices) × (o v ≡ true) × (m.serves i v ≡ true)
  pub valued : (i : ℕ) → i < m.causes → 0 < m.values i

-- the hidden mechanisms put into the observed ones, without the hidden vertices and the causes that reach no observed vertex
abbrev pub folded_by : FiniteModel → (ℕ → Bool) → (ℕ → ℕ → Bool) → (ℕ → Bool) → FiniteModel
folded_by m l r j = kept (fold m l r) (λ v. not (l v)) j

-- ---- a latent projection by treks
module _ (g p : MixedGraph) (l : ℕ → Bool) (is : IsProjection g l p) where
  tail : (a b : ℕ) → p.arrow a b ≡ true → l a ≡ false
  tail a b e = false_from_ne_true (l a) (λ h. clash (p.arrow a b) e ((is.isolated a h).no_child b))

  head : (a b : ℕ) → p.arrow a b ≡ true → l b ≡ false
  head a b e = false_from_ne_true (l b) (λ h. clash (p.arrow a b) e ((is.isolated b h).no_parent a))

  ends : (a b : ℕ) → p.both a b ≡ true → (l a ≡ false) × (l b ≡ false)
  ends a b e = (
    false_from_ne_true (l a) (λ h. clash (p.both a b) e ((is.isolated a h).no_spouse b).0),
    false_from_ne_true (l b) (λ h. clash (p.both a b) e ((is.isolated b h).no_spouse a).1),
  )

  leads : (a b : ℕ) → LeadsThrough g l a b → LeadsOn g l a b
  leads a b r = record { next = r.next; first = r.path.0; rest = record { path = r.rest; leads = r.path.1; before = r.latent } }

  -- the edges of a latent projection are the latent directed paths and the treks of the graph
  pub by_treks : ProjectsByTreks g l p
  by_treks = record {
    vertices = is.vertices;
    led = λ a b e. leads a b ((is.arrow a b (tail a b e) (head a b e)).0 e);
    led_back = λ a b x y r. (is.arrow a b x y).1 (record { next = r.next; rest = r.rest.path; path = (r.first, r.rest.leads); latent = r.rest.before });
    trek = λ a b e. trek_of g l a b ((is.both a b (ends a b e).0 (ends a b e).1).0 e).1;
    trek_back = λ a b x y d t. (is.both a b x y).1 (d, path_of g l a b x y d t);
    apart = λ a. false_from_ne_true (p.both a a) (λ e. ((is.both a a (ends a a e).0 (ends a a e).1).0 e).0 refl);
    tail_observed = tail;
    head_observed = head;
    both_observed = ends;
  }
