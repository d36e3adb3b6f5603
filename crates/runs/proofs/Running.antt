-- The loop's invariant: where the run is, that it goes on from there, and that its counters fit.
-- Assumes nothing.
use Prim.Native.Nat.{ℕ, suc, ◌≤◌, ◌<◌}
use mathlib.Core.List.{List, [], ◌++◌, append-nil}
use mathlib.Core.Path.{◌≡◌, refl, ap, subst, ◌∙◌}
use native.Mathlib.Omega.{arith}
use lib.ListN.{length}
use Rattle.finite.proofs.Tests.{by_test}
use Rattle.model.specs.Limits.{max_agents}
use Rattle.model.specs.Sheet.{agents_of, chores_of, as_read}
use Rattle.model.specs.MostMoves.{most_moves, most_ever}
use Rattle.model.specs.Algorithm.{State, busy, next, after, Ends}
use Rattle.model.specs.Record.{hands_over, next_moves, moves_in}
use Rattle.model.proofs.MostMoves.{most_at_limits}
use Rattle.records.specs.Noted.{Numbers, Holding}
use Rattle.records.proofs.Holding.{noted_on}
use Rattle.sheet.specs.Valid.{Valid}
use Rattle.algorithm.specs.Reached.{step_number, Shaped, Reached}
use Rattle.algorithm.specs.RunMoves.{state_in}
use Rattle.algorithm.proofs.Reading.{read_sound}
use Rattle.algorithm.proofs.Actions.{passing}
use Rattle.algorithm.proofs.Machine.{fewer_cuts, moves_bound, hand_known}
use Rattle.algorithm.proofs.Begin.{opening_reached}
use Rattle.algorithm.proofs.Ending.{reached, step_falls, done_reached}
use Rattle.algorithm.proofs.RunMoves.{leads}
use Rattle.steps.specs.declared.Stand.{Stand}
use Rattle.steps.specs.declared.Turn.{Turn}
use Rattle.steps.specs.declared.Turn.TheVariants.{Moved, Passed, Cut, Ended}
use Rattle.seeking.specs.Looks.{Ready}
use Rattle.steps.specs.Turns.{state_of, named, action_of, is_cut, Tabled, Turning, Turned}
use Rattle.runs.specs.Runs.{Running, Kit, RunEnds, Sees, Begun}
use Rattle.runs.proofs.Counting.{moves_after, cuts_after, stage_after, Told, Counting, Counted}
use Rattle.steps.proofs.Ready.{reached_ready}

-- the most moves of a share-out, in numbers
pub most_moves_lem : {s : List ℕ} → Valid s → most_moves (agents_of s) (chores_of s) ≤ most_ever
most_moves_lem {s} v = most_at_limits (agents_of s) (chores_of s) v.agents_fit (omega (arith, v.chores_fit))

module _ {s : List ℕ} (v : Valid s) {owners prices groups entitled lent bytes : List ℕ} {moves cuts stage : ℕ} (R : Running s owners prices groups entitled lent bytes moves cuts stage) where
  abbrev st : State
  st = state_of owners prices groups entitled moves cuts stage

  pub state_reached : Reached (as_read s) st
  state_reached = reached (read_sound v) (opening_reached (read_sound v)) R.count _ R.comes

  pub ready : {likes : List ℕ} → Kit s likes → Ready s owners prices groups entitled likes
  ready k = reached_ready v state_reached k.liking

  pub turning : {likes first sets : List ℕ} → Kit s likes → Tabled s owners prices groups entitled likes first sets → Turning s owners prices groups entitled likes first sets cuts stage
  turning k t = record { ready = ready k; moves = moves; reached = state_reached; tabled = t }

  pub groups_sized_lem : length groups ≡ agents_of s
  unfolding as_read
  groups_sized_lem = state_reached.shaped.groups

  moves_fit_lem : moves ≤ most_ever
  unfolding as_read
  moves_fit_lem = omega (arith, moves_bound state_reached, most_moves_lem v)

  cuts_fit : cuts < max_agents
  unfolding as_read
  cuts_fit = omega (arith, fewer_cuts state_reached, v.agents_fit)

  -- the moves so far are as many as the counter says
  made : length (moves_in (as_read s) R.count) ≡ moves
  unfolding state_in
  made =
      subst (λ o. length (moves_in (as_read s) R.count) ≡ (state_in o).moves) R.comes (leads (read_sound v) R.count).count

-- where it starts
pub starts : {s owners prices groups entitled lent bytes : List ℕ} {at : Stand} → Begun s groups at → Running s owners prices groups entitled lent bytes 0 0 0 → Running s owners prices groups entitled lent bytes at.moves at.cuts at.stage
starts B R = rw (B.moves, B.cuts, B.stage) R

-- a turn that does not stop the run is counted as the step says
counts-on :
    {s groups bytes bytes' : List ℕ} {at at' : Stand} (answer : Turn) → (answer ≡ Ended → ⊥) → Counted s groups answer at at' bytes bytes'
    → (owners prices entitled : List ℕ)
    → named answer owners prices groups entitled at.moves at.cuts at.stage ≡ busy (state_of owners prices groups entitled at'.moves at'.cuts at'.stage)
unfolding moves_after cuts_after stage_after
counts-on (Moved c w u) h C owners prices entitled = rw (C.moves, C.cuts, C.stage)
counts-on Passed h C owners prices entitled = rw (C.moves, C.cuts, C.stage)
counts-on Cut h C owners prices entitled = rw (C.moves, C.cuts, C.stage)
counts-on Ended h C owners prices entitled = absurd (h refl)

-- where the run stands
module _ {s : List ℕ} (v : Valid s) {owners prices groups entitled lent bytes : List ℕ} (at : Stand) (R : Running s owners prices groups entitled lent bytes at.moves at.cuts at.stage) where
  abbrev here : State
  here = state_of owners prices groups entitled at.moves at.cuts at.stage

  abbrev Next : Turn → Type 0
  Next answer = moves_in (as_read s) (suc R.count) ≡ moves_in (as_read s) R.count ++ hands_over here (action_of answer)

  -- what hands nothing over leaves the record alone
  notes_none : {bytes' : List ℕ} (answer : Turn) → Next answer → hands_over here (action_of answer) ≡ [] → bytes' ≡ bytes → Holding (moves_in (as_read s) (suc R.count)) lent bytes'
  notes_none answer next q e = rw (e, next, q, append-nil (moves_in (as_read s) R.count)) R.noted

  tells_on : {bytes' : List ℕ} (answer : Turn) → Next answer → Told answer at bytes bytes' → Holding (moves_in (as_read s) (suc R.count)) lent bytes'
  unfolding hands_over Told
  tells_on (Moved c w u) next N = rw next (noted_on R.noted (made v R) N)
  tells_on Passed next e = notes_none Passed next refl e
  tells_on Cut next e = notes_none Cut next refl e
  tells_on Ended next e = notes_none Ended next refl e

  -- a turn
  module _ {likes owners' prices' groups' entitled' first' sets' : List ℕ} {answer : Turn} (T : Turned s owners prices groups entitled likes at.cuts at.stage answer owners' prices' groups' entitled' first' sets') where
    comes_next : {r : Turn} → answer ≡ r → after (as_read s) (suc R.count) ≡ named r owners' prices' groups' entitled' at.moves at.cuts at.stage
    unfolding after next
    comes_next e =
        ap (next (as_read s)) R.comes ∙ (T.steps at.moves ∙ ap (λ r. named r owners' prices' groups' entitled' at.moves at.cuts at.stage) e)

    -- what it handed over comes after the moves so far
    moves_next : Next answer
    unfolding moves_in next_moves
    moves_next =
        ap (λ o. moves_in (as_read s) R.count ++ next_moves (as_read s) o) R.comes
        ∙ ap (λ a. moves_in (as_read s) R.count ++ hands_over here a) (T.acts at.moves)

    -- a move's numbers fit the record
    numbers : (c w u : ℕ) → answer ≡ Moved c w u → Numbers c w u at.cuts
    unfolding as_read
    numbers c w u e =
        let h = hand_known (state_reached v R) (read_sound v) (T.acts at.moves ∙ ap action_of e) in
        record {
          of_chore = omega (arith, h.chore, v.chores_fit);
          of_giver = omega (arith, h.giver, v.agents_fit);
          of_receiver = omega (arith, h.receiver, v.agents_fit);
          of_round = cuts_fit v R;
        }

    -- 2b passes nothing on
    stage_left_lem : answer ≡ Passed → 0 < at.stage
    stage_left_lem e =
        passing (as_read s) here (T.steps at.moves ∙ ap (λ r. named r owners' prices' groups' entitled' at.moves at.cuts at.stage) e) refl refl

    pub counting : length groups' ≡ length groups → Counting s groups' answer at
    counting e =
        record {
          valid = v;
          groups_sized = e ∙ groups_sized_lem v R;
          moves_fit = moves_fit_lem v R;
          cuts_fit = cuts_fit v R;
          numbers = numbers;
          stage_left = stage_left_lem;
        }

    pub ends_here : answer ≡ Ended → RunEnds s owners' prices' groups' entitled' lent bytes at.moves at.cuts
    unfolding Told
    ends_here e =
        record {
          stage = at.stage;
          ends = record { steps = suc R.count; ends = comes_next e };
          noted = tells_on Ended (rw e at moves_next) refl;
        }

    -- and counted
    module _ {at' : Stand} {bytes' : List ℕ} (C : Counted s groups' answer at at' bytes bytes') where
      pub sees_on : Sees s groups at.view → Sees s groups' at'.view
      sees_on seen = by_test (is_cut answer) C.looked (λ e. rw (T.kept e, C.kept e) seen)

      module _ (h : answer ≡ Ended → ⊥) where
        pub runs_on : Running s owners' prices' groups' entitled' lent bytes' at'.moves at'.cuts at'.stage
        runs_on =
            record {
              count = suc R.count;
              comes = comes_next refl ∙ counts-on answer h C owners' prices' entitled';
              noted = tells_on answer moves_next C.told;
            }

        pub falls : step_number (as_read s) (state_of owners' prices' groups' entitled' at'.moves at'.cuts at'.stage) < step_number (as_read s) here
        falls = step_falls (read_sound v) (state_reached v R) (T.steps at.moves ∙ counts-on answer h C owners' prices' entitled')

-- the lists in which a run ends have their lengths
pub ended_shaped : {s : List ℕ} {x : State} → Valid s → Ends (as_read s) x → Shaped (as_read s) x
ended_shaped v E =
    (done_reached (read_sound v) (opening_reached (read_sound v)) E.steps _ E.ends).shaped
