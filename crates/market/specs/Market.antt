-- What the functions of a step are given: the lists of a state, agents by their groups, and for each chore the agents for whom it is ok.
use Rattle.std.specs.Prelude.{ℕ, ◌<◌, Bool, List, ◌≡◌, eqb, ltb, length, get_or}
use Rattle.finite.specs.Bits.{SetOf}
use Rattle.model.specs.Instance.{Instance}
use Rattle.algorithm.specs.Kinds.{ok}

-- the group of agent i, and whether chore c is entitled, in the lists of a state
unfoldable pub group_of : List ℕ → ℕ → ℕ
group_of groups i = get_or groups i 0

unfoldable pub entitled_of : List ℕ → ℕ → Bool
entitled_of entitled c = eqb (get_or entitled c 0) 1

-- of the first k agents those in no group (free), and those in some group (grouped)
pub record ByGroup (k : ℕ) (groups : List ℕ) (free grouped : ℕ) : Type 0 where
  pub free_are : SetOf k free (λ i. eqb (group_of groups i) 0)
  pub grouped_are : SetOf k grouped (λ i. ltb 0 (group_of groups i))

-- for each chore the set of agents who find it easy, or of all where nobody does
pub record Liked (I : Instance) (likes : List ℕ) : Type 0 where
  pub likes_sized : length likes ≡ I.m
  pub liked : (c : ℕ) → c < I.m → SetOf I.n (get_or likes c 0) (λ i. ok I i c)
