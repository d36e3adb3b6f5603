-- The choices of 2a in code are those of the definition.
-- Assumes nothing.
use Prim.Native.Nat.{ℕ, ◌≤◌, ◌<◌}
use mathlib.Core.Bool.{Bool, false}
use mathlib.Core.List.{List}
use mathlib.Core.Path.{◌≡◌, refl, ap₂, ◌∙◌}
use native.Mathlib.Nat.{le_refl}
use native.Mathlib.Omega.{arith}
use lib.Dec.{eqb, ltb}
use lib.ListN.{length, get_or}
use borrow.Author.Tests.{lt-ltb, le-ltb}
use Rattle.std.specs.Prelude.{Some}
use Rattle.finite.specs.Search.{if_below, chosen}
use Rattle.finite.proofs.Found.{found_is}
use Rattle.finite.proofs.Tests.{and_no_left, and_no_right}
use Rattle.finite.proofs.Chosen.{chosen_cong}
use Rattle.model.specs.Limits.{max_agents}
use Rattle.model.specs.Instance.{owner_of, price_of}
use Rattle.model.specs.Sheet.{agents_of, chores_of, as_read}
use Rattle.model.specs.Prices.{price_sum, price_up_to_one}
use Rattle.model.specs.Step2a.{giver2a, receiver2a, due2a}
use Rattle.totals.specs.Totals.{Summed}
use Rattle.market.specs.Market.{group_of}
use Rattle.firsts.specs.Traits.{free_trait}
use Rattle.seeking.specs.Looks.{Ready, Choice}
use Rattle.seeking.proofs.Ready.{sum_is, up_is}

-- who was chosen is an agent, one of at most 32
module _ {s owners prices groups entitled likes : List ℕ} (R : Ready s owners prices groups entitled likes) {i : ℕ} (r : ℕ) (e : Some i ≡ if_below (length groups) r) where
  pub chosen_agent : i < agents_of s
  chosen_agent = let at = found_is e in omega (arith, at.0, at.1, R.groups_sized)

  pub chosen_few : i < max_agents
  chosen_few = omega (arith, chosen_agent, R.valid.agents_fit)

-- What 2a goes by: the sums of the agents and their prices up to one, and the giver and the receiver chosen from them.
pub record Chose (s owners prices groups entitled likes : List ℕ) (stage : ℕ) (sums ups : List ℕ) (i j : ℕ) : Type 0 where
  pub ready : Ready s owners prices groups entitled likes
  pub summed : Summed (agents_of s) owners prices sums ups
  pub giver : i ≡ chosen (length groups) (λ k. eqb (group_of groups k) stage) (λ k l. ltb (get_or ups l 0) (get_or ups k 0))
  pub receiver : j ≡ chosen (length groups) (λ k. ltb stage (group_of groups k)) (λ k l. ltb (get_or sums k 0) (get_or sums l 0))

module _ {s owners prices groups entitled likes : List ℕ} {stage : ℕ} {sums ups : List ℕ} {i j : ℕ} (C : Chose s owners prices groups entitled likes stage sums ups i j) where
  sum_at : (k : ℕ) → k < agents_of s → get_or sums k 0 ≡ price_sum (chores_of s) (owner_of owners) (price_of prices) k
  sum_at = sum_is C.ready C.summed

  up_at : (k : ℕ) → k < agents_of s → get_or ups k 0 ≡ price_up_to_one (chores_of s) (owner_of owners) (price_of prices) k
  up_at = up_is C.ready C.summed

  module _ (cut : ℕ → Bool) where
    giver_is : i ≡ giver2a (as_read s) (owner_of owners) (price_of prices) (group_of groups) cut stage
    unfolding as_read giver2a
    giver_is =
        (rw C.ready.groups_sized at C.giver)
        ∙ chosen_cong (agents_of s) (λ k h. refl) (λ k l hk hl. ap₂ ltb (up_at l hl) (up_at k hk))

    receiver_is : j ≡ receiver2a (as_read s) (owner_of owners) (price_of prices) (group_of groups) cut stage
    unfolding as_read receiver2a
    receiver_is =
        (rw C.ready.groups_sized at C.receiver)
        ∙ chosen_cong (agents_of s) (λ k h. refl) (λ k l hk hl. ap₂ ltb (sum_at k hk) (sum_at l hl))

    -- what the code tests is what the definition tests
    due_told : i < agents_of s → j < agents_of s → due2a (as_read s) (owner_of owners) (price_of prices) (group_of groups) cut stage ≡ ltb (get_or sums j 0) (get_or ups i 0)
    unfolding as_read due2a
    due_told li lj =
        rw (← giver_is, ← receiver_is, lt-ltb i (agents_of s) li, lt-ltb j (agents_of s) lj, sum_at j lj, up_at i li)

    no_giver : agents_of s ≤ i → due2a (as_read s) (owner_of owners) (price_of prices) (group_of groups) cut stage ≡ false
    unfolding as_read due2a
    no_giver l = rw (← giver_is) (and_no_left _ (le-ltb i (agents_of s) l))

    no_receiver : agents_of s ≤ j → due2a (as_read s) (owner_of owners) (price_of prices) (group_of groups) cut stage ≡ false
    unfolding as_read due2a
    no_receiver l = rw (← giver_is, ← receiver_is, le-ltb j (agents_of s) l) (and_no_right (ltb i (agents_of s)) refl)

  -- a move is due
  pub chosen_due : i < agents_of s → j < agents_of s → get_or sums j 0 < get_or ups i 0 → Choice s owners prices groups stage i j free_trait
  chosen_due li lj l =
      record {
        limit = omega arith;
        due = λ _ cut. due_told cut li lj ∙ lt-ltb (get_or sums j 0) (get_or ups i 0) l;
        gives = λ _ cut. giver_is cut;
        takes = λ _ cut. receiver_is cut;
        known = λ _. lj;
        none = λ end. absurd (omega arith);
        sought_is = refl;
      }

  -- none is
  chosen_none : ((cut : ℕ → Bool) → due2a (as_read s) (owner_of owners) (price_of prices) (group_of groups) cut stage ≡ false) → Choice s owners prices groups stage (agents_of s) (agents_of s) free_trait
  chosen_none never =
      record {
        limit = le_refl (agents_of s);
        due = λ l. absurd (omega arith);
        gives = λ l. absurd (omega arith);
        takes = λ l. absurd (omega arith);
        known = λ l. absurd (omega arith);
        none = λ _. never;
        sought_is = refl;
      }

  pub none_gives : agents_of s ≤ i → Choice s owners prices groups stage (agents_of s) (agents_of s) free_trait
  none_gives l = chosen_none (λ cut. no_giver cut l)

  pub none_takes : agents_of s ≤ j → Choice s owners prices groups stage (agents_of s) (agents_of s) free_trait
  none_takes l = chosen_none (λ cut. no_receiver cut l)

  pub none_above : i < agents_of s → j < agents_of s → get_or ups i 0 ≤ get_or sums j 0 → Choice s owners prices groups stage (agents_of s) (agents_of s) free_trait
  none_above li lj l = chosen_none (λ cut. due_told cut li lj ∙ le-ltb (get_or sums j 0) (get_or ups i 0) l)
