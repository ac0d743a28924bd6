use Rattle.std.proofs.Common.{◌≡◌, ℕ, refl, sym, ◌∙◌, true, ap, ◌&&◌, ◌||◌, ◌==◌}
use Rattle.minimal_sets.specs.Moral.{Heads}
use Rattle.mixed_graph.specs.Vocabulary.{has, graph_of}
use Rattle.minimal_sets.specs.Rows.{is_near}
use Rattle.minimal_sets.proofs.Meetings.{heads_from, heads_to, meets_from, meets_to}
use Rattle.minimal_sets.proofs.moral.meeting.Goals as goal
use Rattle.minimal_sets.proofs.moral.meeting.Goals.{After-reached-heads}

first_is : (c : After-reached-heads) → (v : ℕ) → has c.union-first.result.bits v
    ≡ ((graph_of c.args.g.now).arrow c.args.u v || (graph_of c.args.g.now).both c.args.u v)
first_is c v = c.union-first.ensures.members v ∙ (let a = c.children.ensures.members v in let b = c.spouses.ensures.members v in cc)

pub returns : goal.returns
returns c =
    let f = (goal.at.returns c).After-reached-heads in
    let h_is : (v : ℕ) → has c.reached-heads.result.bits v ≡ true → Heads (graph_of c.args.g.now) (has c.args.within.bits) c.args.u v =
    λ v e. heads_from (graph_of c.args.g.now) (has c.args.within.bits) c.args.u (has c.union-first.result.bits) (first_is f) v
    ((c.reached-heads.ensures v).0 e) in
    let h_all : (v : ℕ) → Heads (graph_of c.args.g.now) (has c.args.within.bits) c.args.u v → has c.reached-heads.result.bits v ≡ true =
    λ v h. (c.reached-heads.ensures v).1 (heads_to (graph_of c.args.g.now) (has c.args.within.bits) c.args.u (has c.union-first.result.bits) (first_is f)
    v h) in
    let p_is : (w : ℕ) → has c.union.result.bits w ≡ (has c.reached-heads.result.bits w || (w == c.args.u)) = λ w. c.union.ensures.members w
    ∙ ap (λ t. has c.reached-heads.result.bits w || t) (c.one.ensures.members w) in
    let m_next : (v : ℕ) → has c.beside-beyond.result.bits v ≡ true → (w : ℕ) × (has c.union.result.bits w ≡ true)
    × (is_near c.args.g.now.children v w ≡ true) =
    λ v e. let n = c.beside-beyond.ensures.next v e in (n.0, n.1, sym (c.args.g.now.agree v n.0) ∙ n.2) in
    let m_all : (w v : ℕ) → has c.args.within.bits v ≡ true → has c.union.result.bits w ≡ true → is_near c.args.g.now.children v w ≡ true
    → has c.beside-beyond.result.bits v ≡ true =
    λ w v e p a. c.beside-beyond.ensures.all w v e p (c.args.g.now.agree v w ∙ a) in
    let r_is : (v : ℕ) → has c.only_if.result.bits v ≡ (has c.args.within.bits c.args.u
    && (has c.reached-heads.result.bits v || has c.beside-beyond.result.bits v)) =
    λ v. let p = c.only_if.ensures v in let q = c.has.ensures in let r = c.union-2.ensures.members v in p ∙ rw (q, r) refl in
    λ v. (
      meets_from (graph_of c.args.g.now) (has c.args.within.bits) c.args.u (has c.reached-heads.result.bits) (has c.union.result.bits)
          (has c.beside-beyond.result.bits) (has c.only_if.result.bits)
          h_is h_all p_is c.beside-beyond.ensures.member m_next m_all r_is v,
      meets_to (graph_of c.args.g.now) (has c.args.within.bits) c.args.u (has c.reached-heads.result.bits) (has c.union.result.bits)
          (has c.beside-beyond.result.bits) (has c.only_if.result.bits)
          h_is h_all p_is c.beside-beyond.ensures.member m_next m_all r_is v,
    )
