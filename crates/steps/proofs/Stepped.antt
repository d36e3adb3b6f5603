-- Step 2b in code: what each way out of it asks, and that it is one step of Algorithm 1.
-- Assumes nothing.
use Prim.Native.Nat.{ℕ, ◌+◌, ◌*◌, ◌≤◌, ◌<◌}
use mathlib.Core.Bool.{Bool, true, false, ◌&&◌}
use mathlib.Core.List.{List}
use mathlib.Core.Path.{◌≡◌, refl, sym, ap, ◌∙◌}
use native.Mathlib.Omega.{arith}
use lib.ListN.{length, get_or}
use Rattle.finite.proofs.Search.{first_cong}
use Rattle.model.specs.Limits.{max_agents, scratch_size}
use Rattle.model.specs.Instance.{owner_of, price_of}
use Rattle.model.specs.Fairness.{owns}
use Rattle.model.specs.Step2b.{due2b, receiver2b, chore2b}
use Rattle.model.specs.Sheet.{agents_of, chores_of, as_read}
use Rattle.algorithm.proofs.Actions.{hands2b, cuts2b, stops2b}
use Rattle.algorithm.proofs.Machine.{fewer_cuts}
use Rattle.algorithm.proofs.Rings.{due_found}
use Rattle.firsts.specs.Traits.{trait_count, has_trait}
use Rattle.rings.proofs.Found.{receiver_is, reached_is}
use Rattle.steps.specs.declared.Turn.{Turn}
use Rattle.steps.specs.declared.Turn.TheVariants.{Cut, Ended}
use Rattle.steps.specs.Turns.{state_of, Tabled, Turning, Turned}
use Rattle.seeking.specs.Looks.{Views, Look}
use Rattle.steps.specs.Parts.{Handing, HandedOver, Cutting, CutOff}
use Rattle.seeking.proofs.Wanting.{wanted_trait}
use Rattle.seeking.proofs.Ready.{held, listed, listed_most}
use Rattle.steps.proofs.Tables.{rows_of}
use Rattle.steps.proofs.Turned.{moved, ended, cut_off}

module _ {s owners prices groups entitled likes first sets : List ℕ} {cuts stage : ℕ} (T : Turning s owners prices groups entitled likes first sets cuts stage) where
  cuts_fit : cuts < max_agents
  unfolding as_read
  cuts_fit = omega (arith, fewer_cuts T.reached, T.ready.valid.agents_fit)

  -- what the cut is given
  pub cutting : {scratch : List ℕ} → length scratch ≡ scratch_size → Cutting s owners prices groups entitled scratch cuts
  cutting size =
      let R = T.ready in
      record {
        valid = R.valid;
        held = held R;
        entitled_sized = (listed R).entitled_sized;
        groups_sized = R.groups_sized;
        scratch_sized = size;
        few = cuts_fit;
      }

module _ {s owners prices groups entitled likes first sets : List ℕ} {cuts : ℕ} (T : Turning s owners prices groups entitled likes first sets cuts 0) where
  module _ {giver u t : ℕ} {any : Bool} {lent scratch : List ℕ} (L : Look s owners prices giver u t any lent scratch) where
    module _ (some : giver < agents_of s) where
      due : due2b (as_read s) (owner_of owners) (price_of prices) ≡ true
      unfolding as_read
      due = L.searched.due some

      receiver_known : receiver2b (as_read s) (owner_of owners) (price_of prices) < agents_of s
      unfolding as_read
      receiver_known = (due_found (as_read s) (owner_of owners) (price_of prices) T.ready.valid.some_agent due).receiver

      chore_known : chore2b (as_read s) (owner_of owners) (price_of prices) < chores_of s
      unfolding as_read
      chore_known = (due_found (as_read s) (owner_of owners) (price_of prices) T.ready.valid.some_agent due).chore

      module _ {free grouped low mid top : ℕ} (seen : Views s groups free grouped low mid top) where
        receiver_at : u ≡ receiver2b (as_read s) (owner_of owners) (price_of prices)
        unfolding as_read
        receiver_at = L.receives ∙ receiver_is L.searched some

        receiver_below : u < agents_of s
        receiver_below = rw receiver_at receiver_known

        few : agents_of s ≤ max_agents
        few = T.ready.valid.agents_fit

        -- the giver's first chore that the receiver wants
        chore_at : get_or first (giver * trait_count + t) 0 ≡ chore2b (as_read s) (owner_of owners) (price_of prices)
        unfolding as_read chore2b
        chore_at =
            ap (λ k. get_or first (giver * trait_count + k) 0) L.sought_is
            ∙ ((rows_of seen T.tabled).row giver some).entry u (omega (arith, receiver_below, few))
            ∙ rw (← L.searched.gives some, ← receiver_at)
            (first_cong (chores_of s) (λ c h. ap (λ b. owns (owner_of owners) giver c && b) (wanted_trait T.ready seen.sides mid top u c receiver_below h)))

        pub handing : Handing owners prices entitled likes first sets giver u t
        handing =
            record {
              listed = listed_most T.ready;
              sized = T.tabled.sized;
              giver = omega (arith, few);
              receiver = omega (arith, receiver_below, few);
              trait = omega (arith, L.sought_is, receiver_below, few);
              chore = rw (chore_at, T.ready.owners_sized) chore_known;
            }

        pub moves_on : {answer : Turn} {owners' first' sets' : List ℕ} → HandedOver (has_trait prices entitled likes free grouped mid top) giver u t owners first sets answer owners' first' sets' → Turned s owners prices groups entitled likes cuts 0 answer owners' prices groups entitled first' sets'
        unfolding as_read
        moves_on H =
            moved T seen receiver_below H
            (λ moves. rw (chore_at, receiver_at, L.searched.gives some) (hands2b (as_read s) (state_of owners prices groups entitled moves cuts 0) refl due receiver_known chore_known))

  -- nobody is to give
  module _ {u t : ℕ} {any : Bool} {lent scratch : List ℕ} (L : Look s owners prices (agents_of s) u t any lent scratch) where
    none : due2b (as_read s) (owner_of owners) (price_of prices) ≡ false
    unfolding as_read
    none = L.searched.none refl

    pub cuts_on : any ≡ true → {prices' groups' entitled' first' sets' : List ℕ} → CutOff s owners prices groups entitled scratch cuts prices' groups' entitled' → Tabled s owners prices' groups' entitled' likes first' sets' → Turned s owners prices groups entitled likes cuts 0 Cut owners prices' groups' entitled' first' sets'
    unfolding as_read
    cuts_on some C =
        cut_off T (reached_is L.searched T.ready.valid.some_agent refl C.in_line)
        (λ moves. cuts2b (as_read s) (state_of owners prices groups entitled moves cuts 0) refl none (sym L.any_is ∙ some))
        C.cut C.grouped

    pub stops_here : any ≡ false → Turned s owners prices groups entitled likes cuts 0 Ended owners prices groups entitled first sets
    unfolding as_read
    stops_here calm = ended T (λ moves. stops2b (as_read s) (state_of owners prices groups entitled moves cuts 0) refl none (sym L.any_is ∙ calm))
