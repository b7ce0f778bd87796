-- What a detector holds: the computation that is reported to it, and what it makes of it.
-- A computation is quiet when all its nodes are passive and none of its messages is in transit.
use Rattle.std.specs.Prelude.{◌≡◌, ℕ, ◌+◌, ◌-◌, ◌<◌, ◌≤◌, Bool, true, false, ◌==◌}
use Rattle.model.specs.Tables.{put, put₂}

-- the number of nodes; which are active; how many messages are in transit from one to another; how many were sent in all
pub record Computation : Type 0 where
  pub size : ℕ
  pub active : ℕ → Bool
  pub transit : ℕ → ℕ → ℕ
  pub sent : ℕ

pub record Quiet (c : Computation) : Type 0 where
  pub passive : (i : ℕ) → i < c.size → c.active i ≡ false
  pub arrived : (i j : ℕ) → i < c.size → j < c.size → c.transit i j ≡ 0

-- before it has begun
abbrev pub idle_computation : Computation
idle_computation = record { size = 0; active = λ i. false; transit = λ i j. 0; sent = 0 }

-- node 0 is active, the others are passive, and nothing was sent
abbrev pub begun : ℕ → Computation
begun n = record { size = n; active = λ i. (i == 0); transit = λ i j. 0; sent = 0 }

-- one more is in transit
abbrev pub sending : Computation → ℕ → ℕ → Computation
sending c from to = record {
  size = c.size;
  active = c.active;
  transit = put₂ c.transit from to (c.transit from to + 1);
  sent = c.sent + 1;
}

-- one fewer is in transit, and its receiver is active
abbrev pub receiving : Computation → ℕ → ℕ → Computation
receiving c to from = record {
  size = c.size;
  active = put c.active to true;
  transit = put₂ c.transit from to (c.transit from to - 1);
  sent = c.sent;
}

-- node i is passive
abbrev pub idling : Computation → ℕ → Computation
idling c i = record { size = c.size; active = put c.active i false; transit = c.transit; sent = c.sent }

-- whether it has announced; at which nodes a turn would be done; the most turns that are done while all is quiet, and how many of them are left
pub record Detection : Type 0 where
  pub computation : Computation
  pub announced : Bool
  pub ready : ℕ → Bool
  pub patience : ℕ
  pub left : ℕ

-- some turn would be done
pub record SomeReady (d : Detection) : Type 0 where
  pub node : ℕ
  pub near : node < d.computation.size
  pub ready : d.ready node ≡ true

pub record Lawful (d : Detection) : Type 0 where
  -- it announces nothing but the end, and rests then
  pub truthful : d.announced ≡ true → Quiet d.computation
  pub rests : d.announced ≡ true → (i : ℕ) → d.ready i ≡ false
  -- at the end it goes on until it announces, and no longer than its patience
  pub wakes : 0 < d.computation.size → Quiet d.computation → d.announced ≡ false → SomeReady d
  pub patient : 0 < d.computation.size → Quiet d.computation → d.left ≤ d.patience
