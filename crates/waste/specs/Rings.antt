-- The working array of the test for waste: each agent's distance from the burdened ones.
use Rattle.std.specs.Prelude.{ℕ, ◌≤◌, ◌<◌, Bool, cond, ◌&&◌, List, ◌≡◌, eqb, leb, length, get_or}
use Rattle.model.specs.Limits.{max_agents}
use Rattle.model.specs.Instance.{Instance}
use Rattle.welfare.specs.Waste.{connected}

-- the entry of an agent that no ring holds
abbrev pub no_distance : ℕ
no_distance = 255

-- the distance of an agent that had d: `next`, where it had none and is linked to the ring before
unfoldable pub nearer : ℕ → Bool → ℕ → ℕ
nearer next linked d = cond (eqb d no_distance && linked) next d

-- every linked agent that had no distance has `next`, and the others are as they were
pub record Spread (n next : ℕ) (linked : ℕ → Bool) (old new : List ℕ) : Type 0 where
  pub size : length new ≡ max_agents
  pub each : (i : ℕ) → i < n → get_or new i 0 ≡ nearer next (linked i) (get_or old i 0)

-- the rings up to t: the agents at distance r or less are those that r steps connect to a burdened one, and the rest have no distance
pub record Rings (I : Instance) (x : ℕ → ℕ) (t : ℕ) (distances : List ℕ) : Type 0 where
  pub size : length distances ≡ max_agents
  pub within : (r i : ℕ) → r ≤ t → i < I.n → leb (get_or distances i 0) r ≡ connected I x r i
  pub beyond : (i : ℕ) → i < I.n → t < get_or distances i 0 → get_or distances i 0 ≡ no_distance
