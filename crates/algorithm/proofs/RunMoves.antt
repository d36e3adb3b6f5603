-- The moves of a run lead from the opening to the state that it comes to, each as it must be.
-- Assumes nothing.
use Prim.Native.Nat.{ℕ, zero, suc, ◌+◌, ◌≤◌, ◌<◌}
use mathlib.Core.List.{List, [], ◌∷◌, ◌++◌, append-nil}
use mathlib.Core.Path.{◌≡◌, refl, sym, ap, subst, ◌∙◌}
use native.Mathlib.Nat.{le_refl, le_of_eq}
use native.Mathlib.Omega.{arith}
use lib.ListN.{length, set, take, length-append}
use lib.Seq.{take-append-le, take_at}
use Rattle.finite.proofs.Below.{none_below, by_less}
use Rattle.model.specs.Instance.{Instance, owner_of}
use Rattle.model.specs.Sheet.{as_read}
use Rattle.model.specs.Algorithm.{State, Action, hand, pass, cut, stop, lack, Outcome, busy, done, lacking, owner, opening, action, handed, passed, after_cut, result, step, next, after, Ends}
use Rattle.model.specs.Record.{Move, round_of, hands_over, next_moves, moves_in, played, Hands, move_at}
use Rattle.model.specs.Refusals.{sheet_refusal}
use Rattle.model.specs.Promises.{Leads, RunMoves}
use Rattle.model.proofs.Unique.{same_moves}
use Rattle.model.proofs.Record.{played-append, move_before, move_next}
use Rattle.algorithm.specs.Kinds.{Sound}
use Rattle.algorithm.specs.Reached.{Reached}
use Rattle.algorithm.specs.RunMoves.{state_in, enough_steps}
use Rattle.algorithm.proofs.Reading.{sheet_sound}
use Rattle.algorithm.proofs.Machine.{hand_known}
use Rattle.algorithm.proofs.Begin.{opening_reached}
use Rattle.algorithm.proofs.Ending.{reached}
use Rattle.algorithm.proofs.Theorem.{theorem, ends_then}

leads_none : (I : Instance) → Leads I [] (opening I)
unfolding opening played
leads_none I =
    record {
      gives = refl;
      count = refl;
      handed = λ k l. none_below l;
      in_rounds = λ j k le l. none_below l;
      last_round = λ k l. none_below l;
    }

-- a step that hands nothing over keeps the owners and begins no earlier round
leads_kept : {I : Instance} {moves : List Move} {s t : State} → Leads I moves s → t.owners ≡ s.owners → t.moves ≡ s.moves → s.cuts ≤ t.cuts → Leads I (moves ++ []) t
leads_kept {I} {moves} {s} {t} L owners count cuts =
    subst (λ ts. Leads I ts t) (sym (append-nil moves))
    (record {
      gives = L.gives ∙ sym owners;
      count = L.count ∙ sym count;
      handed = L.handed;
      in_rounds = L.in_rounds;
      last_round = λ k l. omega (arith, L.last_round k l);
    })

-- one move more, in the round of the state
module _ {I : Instance} {moves : List Move} {s : State} (L : Leads I moves s) (t : Move) (h : Hands I (owner I s) t.chore t.giver t.receiver) (now : t.round ≡ s.cuts + 1) where
  abbrev more : List Move
  more = moves ++ (t ∷ [])

  more_length : length more ≡ length moves + 1
  more_length = length-append moves (t ∷ [])

  -- move k is one of those before, or the new one
  by_move {ℓ} : {A : Type ℓ} (k : ℕ) → k < length more → (k < length moves → move_at more k ≡ move_at moves k → A) → (length moves ≡ k → move_at more k ≡ t → A) → A
  by_move k l old new =
      by_less k (length moves) (λ b. old b (move_before moves (t ∷ []) k b)) λ b.
      let e : length moves ≡ k = omega (arith, more_length) in
      new e (move_next moves [] t k e)

  more_handed : (k : ℕ) → k < length more → Hands I (owner_of (played (take k more) (opening I).owners)) (move_at more k).chore (move_at more k).giver (move_at more k).receiver
  more_handed k l =
      by_move k l
      (λ b e. rw (e, take-append-le k moves (t ∷ []) (omega arith)) (L.handed k b))
      (λ b e. rw (e, take_at moves (t ∷ []) k b, L.gives) h)

  more_last : (k : ℕ) → k < length more → (move_at more k).round ≤ s.cuts + 1
  more_last k l = by_move k l (λ b e. rw e (L.last_round k b)) (λ b e. rw e (le_of_eq now))

  more_ordered : (j k : ℕ) → j ≤ k → k < length more → (move_at more j).round ≤ (move_at more k).round
  more_ordered j k le l =
      let first : j < length more = omega arith in
      by_move k l
      (λ b e. by_move j first (λ c f. rw (e, f) (L.in_rounds j k le b)) (λ c f. absurd (omega arith)))
      (λ b e. omega (arith, more_last j first, ap (λ v. v.round) e))

  leads_more : Leads I more (handed I s t.chore t.receiver)
  unfolding handed played
  leads_more =
      record {
        gives = played-append moves (t ∷ []) (opening I).owners ∙ ap (λ owners. set owners t.chore (t.receiver + 1)) L.gives;
        count = more_length ∙ ap (λ k. k + 1) L.count;
        handed = more_handed;
        in_rounds = more_ordered;
        last_round = more_last;
      }

module _ {I : Instance} (S : Sound I) where
  leads_acted : {moves : List Move} {s : State} → Reached I s → Leads I moves s → (a : Action) → action I s ≡ a → Leads I (moves ++ hands_over s a) (state_in (result I s a))
  unfolding state_in hands_over round_of result passed after_cut
  leads_acted R L (hand c w u) e = leads_more L _ (hand_known R S e) refl
  leads_acted R L pass e = leads_kept L refl refl (le_refl _)
  leads_acted R L cut e = leads_kept L refl refl (omega arith)
  leads_acted R L stop e = leads_kept L refl refl (le_refl _)
  leads_acted R L lack e = leads_kept L refl refl (le_refl _)

  leads_next : {moves : List Move} (o : Outcome) → ((s : State) → o ≡ busy s → Reached I s) → Leads I moves (state_in o) → Leads I (moves ++ next_moves I o) (state_in (next I o))
  unfolding state_in next_moves next step
  leads_next (busy s) R L = leads_acted (R s refl) L (action I s) refl
  leads_next (done s) R L = leads_kept L refl refl (le_refl _)
  leads_next (lacking s) R L = leads_kept L refl refl (le_refl _)

  pub leads : (k : ℕ) → Leads I (moves_in I k) (state_in (after I k))
  unfolding state_in moves_in after
  leads zero = leads_none I
  leads (suc k) = leads_next (after I k) (reached S (opening_reached S) k) (leads k)

pub run_moves : (s : List ℕ) → sheet_refusal s ≡ 0 → (x : State) (E : Ends (as_read s) x) → RunMoves s (moves_in (as_read s) E.steps)
unfolding state_in
run_moves s valid x E =
    record {
      final = x;
      ends = E;
      in_order = refl;
      leads = subst (λ o. Leads (as_read s) (moves_in (as_read s) E.steps) (state_in o)) E.ends (leads (sheet_sound s valid) E.steps);
    }

-- the moves of as many steps as are enough are those of the run
pub run_of : (s : List ℕ) → sheet_refusal s ≡ 0 → RunMoves s (moves_in (as_read s) (enough_steps (as_read s)))
run_of s valid =
    let T = theorem s valid in
    run_moves s valid T.final (record { steps = enough_steps (as_read s); ends = ends_then s valid T.final T.demand3.ends })

-- and of any run that ends
pub moves_are_lem : (s : List ℕ) → sheet_refusal s ≡ 0 → {x : State} (E : Ends (as_read s) x) → moves_in (as_read s) (enough_steps (as_read s)) ≡ moves_in (as_read s) E.steps
moves_are_lem s valid {x} E = same_moves (as_read s) (enough_steps (as_read s)) E.steps x x (ends_then s valid x E) E.ends
