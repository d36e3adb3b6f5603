-- What each kind of turn comes to: the action that was due, and one step of Algorithm 1 on the lists.
-- Assumes nothing.
use Prim.Native.Nat.{ℕ, ◌+◌, ◌*◌, ◌/◌, ◌<◌}
use mathlib.Core.Bool.{cond, true≢false}
use mathlib.Core.List.{List}
use mathlib.Core.Path.{◌≡◌, refl, sym, ap, ◌∙◌}
use lib.ListN.{length, get_or}
use Rattle.finite.specs.Bits.{bit, SetOf}
use Rattle.finite.specs.Lists.{tabulate}
use Rattle.finite.proofs.Lists.{tab_cong}
use Rattle.model.specs.Instance.{owner_of, price_of}
use Rattle.model.specs.Sheet.{agents_of, chores_of, easy_weight, difficult_weight, as_read}
use Rattle.model.specs.Step2b.{reachable}
use Rattle.model.specs.Algorithm.{State, hand, pass, cut, stop, action, group, handed, passed, in_new_group, after_cut, result}
use Rattle.algorithm.proofs.Actions.{stepped}
use Rattle.market.specs.Cutting.{CutPrices}
use Rattle.firsts.specs.Traits.{trait_count, has_trait}
use Rattle.steps.specs.declared.Turn.TheVariants.{Passed, Cut, Ended}
use Rattle.steps.specs.declared.Turn.{Turn}
use Rattle.steps.specs.Turns.{state_of, action_of, is_cut, Tabled, Turning, Turned}
use Rattle.seeking.specs.Looks.{Views}
use Rattle.steps.specs.Parts.{HandedOver}
use Rattle.steps.proofs.Tables.{tabled_by, rows_of}

module _ {s owners prices groups entitled likes first sets : List ℕ} {cuts stage : ℕ} (T : Turning s owners prices groups entitled likes first sets cuts stage) where
  -- agent w's first chore with trait t has gone to agent u
  pub moved : {free grouped low mid top w u t : ℕ} {owners' first' sets' : List ℕ} {answer : Turn} → Views s groups free grouped low mid top → u < agents_of s → HandedOver (has_trait prices entitled likes free grouped mid top) w u t owners first sets answer owners' first' sets' → ((moves : ℕ) → action (as_read s) (state_of owners prices groups entitled moves cuts stage) ≡ hand (get_or first (w * trait_count + t) 0) w u) → Turned s owners prices groups entitled likes cuts stage answer owners' prices groups entitled first' sets'
  unfolding result handed
  moved seen l H a =
      record {
        acts = λ moves. a moves ∙ ap action_of (sym H.told);
        steps = λ moves. rw H.told (stepped (as_read s) (state_of owners prices groups entitled moves cuts stage) (a moves) ∙ rw H.handed.made);
        kept = λ e. refl;
        tabled = tabled_by seen (rw T.ready.owners_sized at (H.handed.kept (agents_of s) l (rw T.ready.owners_sized (rows_of seen T.tabled))));
      }

  pub passed_on : ((moves : ℕ) → action (as_read s) (state_of owners prices groups entitled moves cuts stage) ≡ pass) → Turned s owners prices groups entitled likes cuts stage Passed owners prices groups entitled first sets
  unfolding result passed
  passed_on a =
      record { acts = a; steps = λ moves. stepped (as_read s) (state_of owners prices groups entitled moves cuts stage) (a moves); kept = λ e. refl; tabled = T.tabled }

  pub ended : ((moves : ℕ) → action (as_read s) (state_of owners prices groups entitled moves cuts stage) ≡ stop) → Turned s owners prices groups entitled likes cuts stage Ended owners prices groups entitled first sets
  unfolding result
  ended a =
      record { acts = a; steps = λ moves. stepped (as_read s) (state_of owners prices groups entitled moves cuts stage) (a moves); kept = λ e. refl; tabled = T.tabled }

-- the new group as a word
module _ {s owners prices groups entitled likes first sets : List ℕ} {cuts : ℕ} (T : Turning s owners prices groups entitled likes first sets cuts 0) {reached : ℕ} (R : SetOf (agents_of s) reached (reachable (as_read s) (owner_of owners) (price_of prices))) where
  module _ (moves : ℕ) where
    st : State
    st = state_of owners prices groups entitled moves cuts 0

    owner_in : (c : ℕ) → c < chores_of s → bit reached (owner_of owners c) ≡ in_new_group (as_read s) st (owner_of owners c)
    unfolding as_read in_new_group st
    owner_in c h = R.member (owner_of owners c) (T.reached.core.owner c h)

    -- a list over the chores, with one value for the chores of the new group and another for the rest
    by_owner : (f g : ℕ → ℕ) → tabulate (length owners) (λ c. cond (bit reached (owner_of owners c)) (f c) (g c)) ≡ tabulate (chores_of s) (λ c. cond (in_new_group (as_read s) st (owner_of owners c)) (f c) (g c))
    by_owner f g =
        ap (λ k. tabulate k (λ c. cond (bit reached (owner_of owners c)) (f c) (g c))) T.ready.owners_sized
        ∙ tab_cong (chores_of s) (λ c h. ap (λ t. cond t (f c) (g c)) (owner_in c h))

    by_agent : (f g : ℕ → ℕ) → tabulate (length groups) (λ i. cond (bit reached i) (f i) (g i)) ≡ tabulate (agents_of s) (λ i. cond (in_new_group (as_read s) st i) (f i) (g i))
    unfolding as_read in_new_group st
    by_agent f g =
        ap (λ k. tabulate k (λ i. cond (bit reached i) (f i) (g i))) T.reached.shaped.groups
        ∙ tab_cong (agents_of s) (λ i h. ap (λ t. cond t (f i) (g i)) (R.member i h))

  pub cut_off : {prices' groups' entitled' first' sets' : List ℕ} → ((moves : ℕ) → action (as_read s) (state_of owners prices groups entitled moves cuts 0) ≡ cut) → CutPrices owners prices entitled prices' entitled' reached (easy_weight s) (difficult_weight s) → groups' ≡ tabulate (length groups) (λ i. cond (bit reached i) (cuts + 1) (get_or groups i 0)) → Tabled s owners prices' groups' entitled' likes first' sets' → Turned s owners prices groups entitled likes cuts 0 Cut owners prices' groups' entitled' first' sets'
  unfolding as_read result after_cut st price_of group is_cut
  cut_off a C e t =
      record {
        acts = a;
        steps = λ moves.
            rw (e, C.new_prices, C.new_entitled, by_owner moves (λ c. get_or prices c 0 * easy_weight s / difficult_weight s) (λ c. get_or prices c 0), by_owner moves (λ c. 1) (λ c. get_or entitled c 0), by_agent moves (λ i. cuts + 1) (λ i. get_or groups i 0))
            (stepped (as_read s) (st moves) (a moves));
        kept = λ h. absurd (true≢false h);
        tabled = t;
      }
