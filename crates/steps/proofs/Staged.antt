-- Step 2a in code: each way out of it is one step of Algorithm 1.
-- Assumes nothing.
use Prim.Native.Nat.{ℕ, ◌+◌, ◌*◌, ◌<◌}
use mathlib.Core.Bool.{true, ◌&&◌}
use mathlib.Core.List.{List}
use mathlib.Core.Path.{◌≡◌, ap, ◌∙◌}
use native.Mathlib.Omega.{arith}
use lib.ListN.{get_or}
use Rattle.finite.proofs.Search.{first_cong}
use Rattle.model.specs.Instance.{owner_of, price_of}
use Rattle.model.specs.Sheet.{agents_of, chores_of, as_read}
use Rattle.model.specs.Fairness.{owns}
use Rattle.model.specs.Step2a.{due2a, chore2a}
use Rattle.model.specs.Algorithm.{group, is_entitled}
use Rattle.algorithm.proofs.Actions.{hands2a, passes2a}
use Rattle.algorithm.proofs.Stage.{stage_due}
use Rattle.market.specs.Market.{group_of, entitled_of}
use Rattle.firsts.specs.Traits.{trait_count, has_trait}
use Rattle.steps.specs.declared.Turn.{Turn}
use Rattle.steps.specs.declared.Turn.TheVariants.{Passed}
use Rattle.steps.specs.Turns.{state_of, Turning, Turned}
use Rattle.seeking.specs.Looks.{Views, Choice}
use Rattle.steps.specs.Parts.{Handing, HandedOver}
use Rattle.seeking.proofs.Wanting.{free_trait_lem}
use Rattle.seeking.proofs.Ready.{listed_most}
use Rattle.steps.proofs.Tables.{rows_of}
use Rattle.steps.proofs.Turned.{moved, passed_on}

module _ {s owners prices groups entitled likes first sets : List ℕ} {cuts stage : ℕ} (T : Turning s owners prices groups entitled likes first sets cuts stage) (some : 0 < stage) {i j t : ℕ} (C : Choice s owners prices groups stage i j t) where
  -- no move is due
  pub passes : i ≡ agents_of s → Turned s owners prices groups entitled likes cuts stage Passed owners prices groups entitled first sets
  unfolding group_of entitled_of group is_entitled
  passes e =
      passed_on T (λ moves. passes2a (as_read s) (state_of owners prices groups entitled moves cuts stage) some (C.none e (entitled_of entitled)))

  module _ (l : i < agents_of s) {free grouped low mid top : ℕ} (seen : Views s groups free grouped low mid top) where
    is_due : due2a (as_read s) (owner_of owners) (price_of prices) (group_of groups) (entitled_of entitled) stage ≡ true
    is_due = C.due l (entitled_of entitled)

    -- the giver's first chore that is not entitled
    chore_is : get_or first (i * trait_count + t) 0 ≡ chore2a (as_read s) (owner_of owners) (price_of prices) (group_of groups) (entitled_of entitled) stage
    unfolding as_read chore2a
    chore_is =
        ap (λ k. get_or first (i * trait_count + k) 0) C.sought_is
        ∙ ((rows_of seen T.tabled).row i l).entry _ (omega arith)
        ∙ rw (← C.gives l (entitled_of entitled))
        (first_cong (chores_of s) (λ c h. ap (λ b. owns (owner_of owners) i c && b) (free_trait_lem prices entitled likes free grouped mid top c)))

    chore_known : chore2a (as_read s) (owner_of owners) (price_of prices) (group_of groups) (entitled_of entitled) stage < chores_of s
    unfolding as_read group_of entitled_of group is_entitled
    chore_known =
        (stage_due (as_read s) (owner_of owners) (price_of prices) (group_of groups) (entitled_of entitled) stage some T.reached.entitled is_due).chore

    pub handing : Handing owners prices entitled likes first sets i j t
    handing =
        let few = T.ready.valid.agents_fit in
        record {
          listed = listed_most T.ready;
          sized = T.tabled.sized;
          giver = omega (arith, few);
          receiver = omega (arith, C.known l, few);
          trait = omega (arith, C.sought_is);
          chore = rw (chore_is, T.ready.owners_sized) chore_known;
        }

    pub hands_on : {answer : Turn} {owners' first' sets' : List ℕ} → HandedOver (has_trait prices entitled likes free grouped mid top) i j t owners first sets answer owners' first' sets' → Turned s owners prices groups entitled likes cuts stage answer owners' prices groups entitled first' sets'
    unfolding as_read group_of entitled_of group is_entitled
    hands_on H =
        moved T seen (C.known l) H
        (λ moves. rw (chore_is, C.gives l (entitled_of entitled), C.takes l (entitled_of entitled)) (hands2a (as_read s) (state_of owners prices groups entitled moves cuts stage) some is_due chore_known))
