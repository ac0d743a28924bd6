-- What a list that is lent names.
use Rattle.std.proofs.Common.{◌≡◌, ℕ, List, Option, Some, None, option_map, refl, sym, ap, ◌∙◌}
use Rattle.std.specs.Borrow.{Bor}
use Rattle.std.specs.Global.{Vec}
use Rattle.mixed_graph.specs.Vocabulary.{texts}
use Rattle.diagram.specs.Sets.{lent}

by_contents : (list : Option (Bor (List (Vec ℕ)))) → lent list ≡ option_map texts (option_map (λ s. s.now) list)
by_contents None = refl
by_contents (Some s) = refl

by_items : (owned : Option (Vec (Vec ℕ))) → option_map texts (option_map (λ (v : Vec (Vec ℕ)). v.items) owned)
    ≡ option_map (λ (v : Vec (Vec ℕ)). texts v.items) owned
by_items None = refl
by_items (Some v) = refl

-- an owned list that is lent names what it holds
pub lent_owned : (list : Option (Bor (List (Vec ℕ)))) (owned : Option (Vec (Vec ℕ))) → option_map (λ s. s.now) list
    ≡ option_map (λ (v : Vec (Vec ℕ)). v.items) owned → lent list ≡ option_map (λ (v : Vec (Vec ℕ)). texts v.items) owned
lent_owned list owned same = by_contents list ∙ ap (λ (o : Option (List (Vec ℕ))). option_map texts o) same ∙ by_items owned
