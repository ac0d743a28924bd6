use Rattle.std.proofs.Common.{◌≡◌, ◌≢◌, ◌-◌, ◌+◌, ◌≤◌, List, ℕ, true, false, length, take, IfSome}
use Rattle.causal_io.proofs.read_all.Given as goal

abbrev pub invariant-loop-buffer : goal.invariant-loop-buffer
invariant-loop-buffer g l = record {
  front : IfSome (g.S.Shelf.held l.fn.shelf l.name) (λ all. l.bytes.items ≡ take (length l.bytes.items) all);
  within : IfSome (g.S.Shelf.held l.fn.shelf l.name) (λ all. length l.bytes.items ≤ length all);
  lacked : g.S.Shelf.lacks l.fn.shelf l.name ≡ true → length l.bytes.items ≡ 0;
  never_falls : (other : List ℕ) → g.S.Shelf.faults l.fn.shelf other ≤ g.S.Shelf.faults l.shelf other;
  others : (other : List ℕ) → other ≢ l.name → (g.S.Shelf.lacks l.fn.shelf l.name ≡ true → g.S.Shelf.lacks l.fn.shelf other ≡ false)
      → g.S.Shelf.faults l.shelf other ≡ g.S.Shelf.faults l.fn.shelf other;
  few_reads : g.S.Shelf.reads l.shelf l.name ≤ g.S.Shelf.reads l.fn.shelf l.name + length l.bytes.items;
  few_given : g.S.Shelf.given l.shelf l.name ≤ g.S.Shelf.given l.fn.shelf l.name + length l.bytes.items;
  other_reads : (other : List ℕ) → other ≢ l.name → g.S.Shelf.reads l.shelf other ≡ g.S.Shelf.reads l.fn.shelf other;
  other_given : (other : List ℕ) → other ≢ l.name → g.S.Shelf.given l.shelf other ≡ g.S.Shelf.given l.fn.shelf other;
  holds : g.S.Shelf.held l.shelf ≡ g.S.Shelf.held l.fn.shelf;
  lack : g.S.Shelf.lacks l.shelf ≡ g.S.Shelf.lacks l.fn.shelf;
}

abbrev pub decreases-loop-buffer : goal.decreases-loop-buffer
decreases-loop-buffer g l = l.limit + 1 - length l.bytes.items
