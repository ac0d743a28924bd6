-- What a sink in memory has taken, and what it takes.
use Rattle.std.specs.Prelude.{ℕ, ◌-◌, ◌==◌, Bool, List, length}
use Rattle.std.specs.List.{list_any}
use Rattle.causal_io.specs.declared.memory.MemorySink.{MemorySink}

-- The bytes written, the most that one write takes, the room for bytes in all,
-- how many writes there were, which of them are to fail, and how many have failed.
pub record SinkState : Type 0 where
  pub bytes : List ℕ
  pub most : ℕ
  pub room : ℕ
  pub writes : ℕ
  pub failing : List ℕ
  pub faults : ℕ

-- The state of a sink.
abbrev pub state_of : MemorySink → SinkState
state_of sink = record {
  bytes = sink.bytes.items;
  most = sink.most;
  room = sink.room;
  writes = sink.writes;
  failing = sink.failing.items;
  faults = sink.faults.times;
}

-- The room that is left.
abbrev pub room_left : SinkState → ℕ
room_left s = s.room - length s.bytes

-- Whether the next write is to fail.
abbrev pub is_failing : SinkState → Bool
is_failing s = list_any (λ n. n == s.writes) s.failing
