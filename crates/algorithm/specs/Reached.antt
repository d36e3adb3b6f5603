-- What holds of every state that a run of Algorithm 1 reaches, and the number that falls with each of its steps.
use Rattle.std.specs.Prelude.{ℕ, ◌+◌, ◌*◌, ◌-◌, ◌≤◌, ◌<◌, ◌≡◌, leb, ltb, length, get_or}
use Rattle.finite.specs.Sums.{count_to}
use Rattle.model.specs.Instance.{Instance}
use Rattle.model.specs.Algorithm.{State, owner, price, group, is_entitled}
use Rattle.model.specs.MostMoves.{round_moves, most_moves}
use Rattle.algorithm.specs.Core.{Core}
use Rattle.algorithm.specs.Phases.{Entitled, Stage, Began}
use Rattle.algorithm.specs.Chain.{chain_top, held, Chain}

module _ (I : Instance) (s : State) where
  -- the number that falls with each step: a move leaves fewer moves, a cut fewer rounds, and a pass of 2a fewer groups
  unfoldable pub step_number : ℕ
  step_number = (most_moves I.n I.m - s.moves) + ((I.n - s.cuts) * (I.n + 1) + s.stage)

  -- the lists have their lengths, and owners are numbers from 1 on
  pub record Shaped : Type 0 where
    pub owners : length s.owners ≡ I.m
    pub prices : length s.prices ≡ I.m
    pub groups : length s.groups ≡ I.n
    pub entitled : length s.entitled ≡ I.m
    pub numbered : (c : ℕ) → c < I.m → 0 < get_or s.owners c 0

  -- Where 2b began in this round, asked for where `top` is above 0.
  pub record Since (top : ℕ) : Type 0 where
    pub began : ℕ → ℕ
    pub facts : Began I (price I s) (group I s) (is_entitled I s) began top

  -- The invariant of the place. `room` is enough for the moves left in this round; in 2a a chore moves to a group that is done, so at most once.
  pub data Place (top room : ℕ) : Type 0 where
    in2a :
        0 < s.stage → s.stage ≤ I.n
        → Stage I (price I s) (group I s) (is_entitled I s) (owner I s) top s.stage
        → chain_top I * held I (owner I s) (λ i. leb (group I s i) s.stage) ≤ room
        → Place top room
    in2b : s.stage ≡ 0 → (0 < top → Since top) → Chain I (price I s) (group I s) (is_entitled I s) (owner I s) room → Place top room

  pub record Reached : Type 0 where
    pub shaped : Shaped
    pub core : Core I (owner I s) (price I s) (group I s) (is_entitled I s)
    -- each cut brought somebody into a group, and somebody is in none: so there are fewer cuts than agents
    pub few : s.cuts ≤ count_to I.n (λ i. ltb 0 (group I s i))
    pub left : count_to I.n (λ i. ltb 0 (group I s i)) < I.n
    pub bounded : (i : ℕ) → i < I.n → group I s i ≤ s.cuts
    pub top : ℕ
    pub entitled : Entitled I (price I s) (group I s) (is_entitled I s) (owner I s) top
    pub room : ℕ
    pub place : Place top room
    pub budget : s.moves + room ≤ (s.cuts + 1) * round_moves I.n I.m
