-- One step of Algorithm 1 from a reached state: it ends, or it comes to a reached state with a smaller number. It never lacks a chore.
-- Assumes nothing.
use Prim.Native.Nat.{ℕ, ◌+◌, ◌-◌, ◌*◌, ◌≤◌, ◌<◌}
use mathlib.Core.Bool.{true, false}
use mathlib.Core.Path.{◌≡◌, sym, ap, subst}
use native.Mathlib.Nat.{mul-le-mul_left, mul-le-mul_right}
use native.Mathlib.Omega.{arith}
use lib.Dec.{leb}
use borrow.Author.Tests.{leb-true, le-leb}
use Rattle.finite.specs.Search.{any_below, Hit}
use Rattle.finite.proofs.Tests.{by_test}
use Rattle.finite.proofs.Below.{by_less}
use Rattle.finite.proofs.Search.{any_elim, any_intro, any_none}
use Rattle.finite.proofs.Counts.{count_mono}
use Rattle.model.specs.Instance.{Instance}
use Rattle.model.specs.Prices.{price_sum, price_up_to_one}
use Rattle.model.specs.Step2a.{receiver2a, due2a, chore2a}
use Rattle.model.specs.Step2b.{least_sum, above, reachable, due2b, receiver2b, chore2b}
use Rattle.model.specs.Algorithm.{State, Action, hand, pass, cut, stop, lack, busy, done, owner, price, group, is_entitled, action, handed, passed, in_new_group, after_cut, result, step}
use Rattle.model.specs.MostMoves.{round_moves, most_moves}
use Rattle.model.specs.Record.{Hands}
use Rattle.algorithm.specs.Kinds.{Sound}
use Rattle.algorithm.specs.Core.{Core}
use Rattle.algorithm.specs.Phases.{Entitled, Stage}
use Rattle.algorithm.specs.Chain.{chain_top, held, Chain}
use Rattle.algorithm.specs.Cuts.{NextRound}
use Rattle.algorithm.specs.Theorem.{CleanCut}
use Rattle.algorithm.specs.Reached.{step_number, Shaped, Since, Place, in2a, in2b, Reached}
use Rattle.algorithm.proofs.Best.{core_moved}
use Rattle.algorithm.proofs.Rings.{is_above, not-above, least_low, due_found, due_hands}
use Rattle.algorithm.proofs.Entitled.{entitled_moved}
use Rattle.algorithm.proofs.Chain.{round_room, chain_uncut, chain_moved, chain_begins, chain_ends}
use Rattle.algorithm.proofs.Stage.{stage_due, stage_hands, stage_moved, stage_core, stage_falls, stage_passed, stage_quiet, stage_began}
use Rattle.algorithm.proofs.Rising.{cuts_rise}
use Rattle.algorithm.proofs.Cut.{apart}
use Rattle.algorithm.proofs.NextRound.{next_round}
use Rattle.algorithm.proofs.Actions.{stepped, hands2b, cuts2b, stops2b, hands2a, passes2a}
use Rattle.algorithm.proofs.States.{handed_moves, handed_shaped, cut_shaped, cut_cuts}

-- What a step from the state s does.
pub data Steps (I : Instance) (s : State) : Type 0 where
  ended : step I s ≡ done s → ((i j : ℕ) → i < I.n → j < I.n → price_up_to_one I.m (owner I s) (price I s) i ≤ price_sum I.m (owner I s) (price I s) j) → Steps I s
  went : (t : State) → step I s ≡ busy t → Reached I t → step_number I t < step_number I s → Steps I s

-- What holds of the action that a state calls for.
Known : Instance → State → Action → Type 0
Known I s (hand c w u) = Hands I (owner I s) c w u
Known I s pass = Unit {0}
Known I s cut = CleanCut I s
Known I s stop = Unit {0}
Known I s lack = ⊥

leb_more : (i : ℕ) {k l : ℕ} → k ≤ l → leb i k ≡ true → leb i l ≡ true
leb_more i {k} {l} h e = le-leb i l (omega (arith, leb-true i k e))

-- The invariant of a stage is that of its place, with room for the chores of the groups that are not done.
place_of : {I : Instance} → Sound I → (t : State) {top room : ℕ} → t.stage ≤ I.n → Core I (owner I t) (price I t) (group I t) (is_entitled I t) → Stage I (price I t) (group I t) (is_entitled I t) (owner I t) top t.stage → chain_top I * held I (owner I t) (λ i. leb (group I t i) t.stage) ≤ room → Place I t top room
place_of {I} S t {top} {room} low K T fits =
    by_less 0 t.stage (λ h. in2a h low T fits) λ h.
    let e : t.stage ≡ 0 = omega arith in
    let U : Stage I (price I t) (group I t) (is_entitled I t) (owner I t) top 0 =
    subst (λ g. Stage I (price I t) (group I t) (is_entitled I t) (owner I t) top g) e T in
    in2b e (λ z. record { began = owner I t; facts = stage_began K U })
    (chain_begins S K (stage_quiet S U) (subst (λ g. chain_top I * held I (owner I t) (λ i. leb (group I t i) g) ≤ room) e fits))

module _ {I : Instance} {s : State} (R : Reached I s) where
  -- fewer cuts than agents
  pub fewer_cuts : s.cuts < I.n
  fewer_cuts = omega (arith, R.few, R.left)

  -- the rounds so far bound the moves so far, and those left in this round
  pub moves_bound : s.moves + R.room ≤ most_moves I.n I.m
  unfolding most_moves
  moves_bound = omega (arith, R.budget, mul-le-mul_right (round_moves I.n I.m) fewer_cuts)

  -- a move keeps whatever speaks of prices, groups and cuts
  handed_reached : (k u : ℕ) → Shaped I (handed I s k u) → Core I (owner I (handed I s k u)) (price I s) (group I s) (is_entitled I s) → Entitled I (price I s) (group I s) (is_entitled I s) (owner I (handed I s k u)) R.top → 0 < R.room → Place I (handed I s k u) R.top (R.room - 1) → Reached I (handed I s k u)
  unfolding handed group is_entitled
  handed_reached k u shaped core entitled some place =
      record {
        shaped = shaped;
        core = core;
        few = R.few;
        left = R.left;
        bounded = R.bounded;
        top = R.top;
        entitled = entitled;
        room = R.room - 1;
        place = place;
        budget = omega (arith, R.budget);
      }

  handed_falls : (k u : ℕ) → 0 < R.room → step_number I (handed I s k u) < step_number I s
  unfolding step_number handed
  handed_falls k u some = omega (arith, moves_bound)

  passed_reached : Place I (passed I s) R.top R.room → Reached I (passed I s)
  unfolding passed group is_entitled
  passed_reached place =
      record {
        shaped = record { owners = R.shaped.owners; prices = R.shaped.prices; groups = R.shaped.groups; entitled = R.shaped.entitled; numbered = R.shaped.numbered };
        core = R.core;
        few = R.few;
        left = R.left;
        bounded = R.bounded;
        top = R.top;
        entitled = R.entitled;
        room = R.room;
        place = place;
        budget = R.budget;
      }

  cut_falls : step_number I (after_cut I s) < step_number I s
  unfolding after_cut step_number
  cut_falls =
      let one : (I.n - s.cuts) * (I.n + 1) ≡ (I.n - (s.cuts + 1) + 1) * (I.n + 1) = ap (λ r. r * (I.n + 1)) (omega (arith, fewer_cuts)) in
      omega (arith, one, fewer_cuts)

  cut_reached : Sound I → NextRound I (owner I s) (price I s) (group I s) (is_entitled I s) s.cuts (price I (after_cut I s)) (group I (after_cut I s)) (is_entitled I (after_cut I s)) → Reached I (after_cut I s)
  unfolding after_cut
  cut_reached S N =
      let t = after_cut I s in
      record {
        shaped = cut_shaped R.shaped;
        core = N.core;
        few = omega (arith, N.grows, R.few);
        left = N.left;
        bounded = N.bounded;
        top = least_sum I (owner I s) (price I s);
        entitled = N.entitled;
        room = round_moves I.n I.m;
        place = place_of S t (omega (arith, fewer_cuts)) N.core N.stage (round_room I (owner I t) (λ i. leb (group I t i) t.stage));
        budget = omega (arith, R.budget);
      }

  module _ (S : Sound I) where
    -- 2b with a move due
    move2b : s.stage ≡ 0 → (0 < R.top → Since I s R.top) → Chain I (price I s) (group I s) (is_entitled I s) (owner I s) R.room → due2b I (owner I s) (price I s) ≡ true → Steps I s
    unfolding result handed group is_entitled
    move2b e since C h =
        let x = owner I s in
        let p = price I s in
        let d = due_found I x p S.some h in
        let k = chore2b I x p in
        let u = receiver2b I x p in
        let v = handed_moves R.shaped (due_hands d) in
        let less = chain_moved S R.core d v C in
        went (handed I s k u) (stepped I s (hands2b I s e h d.receiver d.chore))
        (handed_reached k u (handed_shaped R.shaped k u d.chore) (core_moved S R.core v d.receiver d.wants) (entitled_moved R.entitled v (chain_uncut S R.core d C)) less.0
        (in2b e (λ z. record { began = (since z).began; facts = (since z).facts }) less.1))
        (handed_falls k u less.0)

    -- 2b with nobody above the least sum
    stop2b : s.stage ≡ 0 → due2b I (owner I s) (price I s) ≡ false → any_below I.n (above I (owner I s) (price I s)) ≡ false → Steps I s
    unfolding result
    stop2b e h none =
        let x = owner I s in
        let p = price I s in
        ended (stepped I s (stops2b I s e h none))
        (λ i j hi hj. omega (arith, not-above I x p i (any_none I.n (above I x p) none i hi), (least_low I x p S.some).under j hj))

    -- 2a with a move due
    move2a : 0 < s.stage → s.stage ≤ I.n → Stage I (price I s) (group I s) (is_entitled I s) (owner I s) R.top s.stage → chain_top I * held I (owner I s) (λ i. leb (group I s i) s.stage) ≤ R.room → due2a I (owner I s) (price I s) (group I s) (is_entitled I s) s.stage ≡ true → Steps I s
    unfolding result handed group is_entitled chain_top
    move2a some low T fits h =
        let x = owner I s in
        let p = price I s in
        let g = s.stage in
        let d = stage_due I x p (group I s) (is_entitled I s) g some R.entitled h in
        let j = receiver2a I x p (group I s) (is_entitled I s) g in
        let c = chore2a I x p (group I s) (is_entitled I s) g in
        let v = handed_moves R.shaped (stage_hands d) in
        let less : chain_top I * held I (owner I (handed I s c j)) (λ a. leb (group I s a) g) + 1 ≤ R.room =
        omega (arith, fits, mul-le-mul_left (chain_top I) (stage_falls d v), (stage_hands d).apart, d.giver, d.receiver) in
        let left : 0 < R.room = omega arith in
        went (handed I s c j) (stepped I s (hands2a I s some h d.chore))
        (handed_reached c j (handed_shaped R.shaped c j d.chore) (stage_core S R.core T d v) (entitled_moved R.entitled v d.uncut) left
        (in2a some low (stage_moved S R.core T d v) (omega arith)))
        (handed_falls c j left)

    -- 2a with no move due: the group before, or 2b
    pass2a : 0 < s.stage → s.stage ≤ I.n → Stage I (price I s) (group I s) (is_entitled I s) (owner I s) R.top s.stage → chain_top I * held I (owner I s) (λ i. leb (group I s i) s.stage) ≤ R.room → due2a I (owner I s) (price I s) (group I s) (is_entitled I s) s.stage ≡ false → Steps I s
    unfolding result passed group is_entitled step_number held
    pass2a some low T fits h =
        let fewer = count_mono I.m (λ c. leb (group I s (owner I s c)) (s.stage - 1)) (λ c. leb (group I s (owner I s c)) s.stage) (λ c l e. leb_more (group I s (owner I s c)) (omega arith) e) in
        went (passed I s) (stepped I s (passes2a I s some h))
        (passed_reached (place_of S (passed I s) (omega arith) R.core (stage_passed some h T) (omega (arith, fits, mul-le-mul_left (chain_top I) fewer))))
        (omega arith)

    -- 3: somebody is above the least sum and out of reach
    module _ (C : Chain I (price I s) (group I s) (is_entitled I s) (owner I s) R.room) (h : due2b I (owner I s) (price I s) ≡ false) (a : Hit I.n (above I (owner I s) (price I s))) where
      high : least_sum I (owner I s) (price I s) < price_up_to_one I.m (owner I s) (price I s) a.index
      high = is_above I (owner I s) (price I s) a.index a.passes

      free : (i : ℕ) → i < I.n → reachable I (owner I s) (price I s) i ≡ true → group I s i ≡ 0
      free = apart S R.core (chain_ends S R.core C h) h a.below high

      next : (0 < R.top → Since I s R.top) → NextRound I (owner I s) (price I s) (group I s) (is_entitled I s) s.cuts (price I (after_cut I s)) (group I (after_cut I s)) (is_entitled I (after_cut I s))
      next since =
          let rises : R.top ≤ least_sum I (owner I s) (price I s) =
          by_less 0 R.top (λ z. cuts_rise S R.core (since z).facts free h) (λ z. omega arith) in
          next_round S R.core R.entitled (chain_ends S R.core C h) h a.below high R.bounded rises (cut_cuts I s)

      cut2b : s.stage ≡ 0 → (0 < R.top → Since I s R.top) → Steps I s
      unfolding result
      cut2b e since =
          went (after_cut I s) (stepped I s (cuts2b I s e h (any_intro (above I (owner I s) (price I s)) a.index a.below a.passes))) (cut_reached S (next since)) cut_falls

      clean2b : (0 < R.top → Since I s R.top) → CleanCut I s
      unfolding in_new_group
      clean2b since = record { once = free; exact = (next since).exact }

  pub steps : Sound I → Steps I s
  steps S = go R.place
    where
      go : Place I s R.top R.room → Steps I s
      go (in2a some low T fits) =
          by_test (due2a I (owner I s) (price I s) (group I s) (is_entitled I s) s.stage) (move2a S some low T fits) (pass2a S some low T fits)
      go (in2b e since C) =
          by_test (due2b I (owner I s) (price I s)) (move2b S e since C) λ h.
          by_test (any_below I.n (above I (owner I s) (price I s)))
          (λ a. cut2b S C h (any_elim I.n (above I (owner I s) (price I s)) a) e since)
          (stop2b S e h)

  known : Sound I → Known I s (action I s)
  unfolding Known
  known S = go R.place
    where
      via : {a : Action} → action I s ≡ a → Known I s a → Known I s (action I s)
      via e = subst (Known I s) (sym e)

      go : Place I s R.top R.room → Known I s (action I s)
      go (in2a some low T fits) =
          by_test (due2a I (owner I s) (price I s) (group I s) (is_entitled I s) s.stage)
          (λ h. let d = stage_due I (owner I s) (price I s) (group I s) (is_entitled I s) s.stage some R.entitled h in via (hands2a I s some h d.chore) (stage_hands d))
          (λ h. via (passes2a I s some h) tt)
      go (in2b e since C) =
          by_test (due2b I (owner I s) (price I s))
          (λ h. let d = due_found I (owner I s) (price I s) S.some h in via (hands2b I s e h d.receiver d.chore) (due_hands d)) λ h.
          by_test (any_below I.n (above I (owner I s) (price I s)))
          (λ a. via (cuts2b I s e h a) (clean2b S C h (any_elim I.n (above I (owner I s) (price I s)) a) since))
          (λ a. via (stops2b I s e h a) tt)

  -- what is handed over has its owner and goes to another agent
  pub hand_known : Sound I → {c w u : ℕ} → action I s ≡ hand c w u → Hands I (owner I s) c w u
  unfolding Known
  hand_known S q = subst (Known I s) q (known S)

  -- each cut is a clean one
  pub clean_cut : Sound I → action I s ≡ cut → CleanCut I s
  unfolding Known
  clean_cut S q = subst (Known I s) q (known S)
