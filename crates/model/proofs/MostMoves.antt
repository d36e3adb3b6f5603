-- The bound for the moves of a share-out, in numbers.
-- Assumes nothing.
use Prim.Native.Nat.{ℕ, ◌-◌, ◌≤◌}
use mathlib.Core.Path.{◌≡◌, refl}
use native.Mathlib.Nat.{mul-le-mul}
use native.Mathlib.Omega.{arith}
use Rattle.model.specs.Limits.{max_agents, max_chores}
use Rattle.model.specs.MostMoves.{round_moves, most_moves, most_ever}

-- at 6 x 60, and at 32 agents with 200 and with 4,000 chores
pub most_in_numbers : (most_moves 6 60 ≡ 1800) × (most_moves 32 200 ≡ 198400) × (most_moves 32 4000 ≡ most_ever)
unfolding most_moves round_moves
most_in_numbers = (refl, refl, refl)

-- no more agents and no more chores: no more moves
pub most_grows : (n m agents chores : ℕ) → n ≤ agents → m ≤ chores → most_moves n m ≤ most_moves agents chores
unfolding most_moves round_moves
most_grows n m agents chores hn hm =
    let fewer : n - 1 ≤ agents - 1 = omega arith in
    mul-le-mul hn (mul-le-mul fewer hm)

pub most_at_limits : (n m : ℕ) → n ≤ max_agents → m ≤ max_chores → most_moves n m ≤ most_ever
most_at_limits n m hn hm = omega (arith, most_grows n m max_agents max_chores hn hm, most_in_numbers)
