-- The share-out on bytes, told from the share-out on numbers: how many numbers are lent, and what comes back.
-- Assumes nothing.
use Prim.Native.Nat.{ℕ, ◌*◌, ◌/◌, ◌^◌, ◌≤◌, ◌<◌, min}
use mathlib.Core.List.{List, ◌++◌}
use mathlib.Core.Path.{◌≡◌, refl, sym, ap, ◌∙◌}
use native.Mathlib.Omega.{arith}
use lib.ListN.{length, get_or, take, drop, length-append, length-take}
use lib.Seq.{get_or-take, length-take-le, take-append-le, take_at, drop_at}
use borrow.Author.Tests.{eq-eqb, ne_eqb}
use Rattle.finite.proofs.Tests.{cond_true, cond_false}
use Rattle.finite.proofs.Below.{by_same}
use Rattle.std.specs.Prelude.{Result}
use Rattle.model.specs.declared.Refusal.{Refusal}
use Rattle.model.specs.declared.ShareOut.{ShareOut}
use Rattle.model.specs.Limits.{max_chores}
use Rattle.model.specs.Sheet.{chores_of}
use Rattle.model.specs.Refusals.{sheet_refusal, allocate_refusal}
use Rattle.model.specs.Replies.{refused, accepted, share_out_reply}
use Rattle.model.specs.Promises.{SharedOut, Allocated}
use Rattle.sheet.proofs.OrElse.{or_else_first}
use Rattle.sheet.proofs.Refusal.{valid}
use Rattle.allocation.proofs.Accepting.{is_fine}
use Rattle.pricebytes.specs.PriceBytes.{prices_in, bytes_of, with_prices}
use Rattle.pricebytes.proofs.Reading.{prices_count}
use Rattle.pricebytes.proofs.Writing.{bytes-length, with_first}
use Rattle.pricebytes.proofs.Again.{read_back}
use Rattle.cmodel.specs.Numbers.{refusal_in}
use Rattle.cmodel.specs.Promises.{price_check_in_c, AllocatedInC}
use Rattle.cmodel.proofs.PriceChecks.{whole}
use Rattle.cmodel.proofs.Lent.{lent_same}
use Rattle.callocation.specs.Telling.{Tellable, ToldOut}

module _ (s : List ℕ) (owners scratch : ℕ) where
  pub same_refusal : {k : ℕ} (n : ℕ) → k ≡ min n max_chores → allocate_refusal s owners k scratch ≡ allocate_refusal s owners n scratch
  unfolding allocate_refusal
  same_refusal {k} n e =
      by_same (sheet_refusal s) 0
      (λ z. rw (lent_same (chores_of s) n (valid s z).chores_fit e))
      (λ h. or_else_first _ h ∙ sym (or_else_first _ h))

-- the number that is returned is the refusal
pub answered : {s owners prices scratch owners' prices' scratch' : List ℕ} {r : Result ShareOut Refusal} → Allocated s owners prices scratch owners' prices' scratch' r → refusal_in (share_out_reply r) ≡ allocate_refusal s (length owners) (length prices) (length scratch)
answered {s} {owners} {prices} {scratch} a =
    by_same (allocate_refusal s (length owners) (length prices) (length scratch)) 0
    (λ e. ap refusal_in (a.not_refused e).answer ∙ sym e)
    (λ h. ap refusal_in (a.turned_down h).answer)

-- the numbers lent, as many as the bytes hold prices, MAX_CHORES at most; and the whole list after the call: what came back, and the rest
pub record Lent (bytes xs xs' rest : List ℕ) : Type 0 where
  pub short : length xs ≡ min (length bytes / 4) max_chores
  pub back : length xs' ≡ length xs
  pub fits : (i : ℕ) → get_or (xs' ++ rest) i 0 < 2 ^ 32

-- the first k of a longer list are lent, and come back
pub first_lent : {bytes back : List ℕ} (all : List ℕ) {k : ℕ} → k ≡ min (length bytes / 4) max_chores → min (length bytes / 4) max_chores ≤ length all → length back ≡ length (take k all) → ((i : ℕ) → get_or (back ++ drop k all) i 0 < 2 ^ 32) → Lent bytes (take k all) back (drop k all)
first_lent all e many same fits = record { short = simp length-take (omega arith); back = same; fits = fits }

module _ {s owners scratch owners' scratch' bytes xs xs' rest : List ℕ} {answer : Result ShareOut Refusal} (L : Lent bytes xs xs' rest) (a : Allocated s owners xs scratch owners' xs' scratch' answer) where
  -- all prices would have been turned down alike
  whole_list : allocate_refusal s (length owners) (length xs) (length scratch) ≡ allocate_refusal s (length owners) (length (prices_in bytes)) (length scratch)
  whole_list = same_refusal s (length owners) (length scratch) (length (prices_in bytes)) (rw (prices_count bytes) L.short)

  not_shared : (refusal_in (share_out_reply answer) ≡ 0 → ⊥) → Allocated s owners (prices_in bytes) scratch owners' (prices_in bytes) scratch' answer
  not_shared h =
      let kept = a.turned_down (λ e. h (answered a ∙ e)) in
      record {
        not_refused = λ e. absurd (h (answered a ∙ whole_list ∙ e));
        turned_down =
            λ _. record {
              answer = kept.answer ∙ ap refused whole_list;
              owners_kept = kept.owners_kept;
              prices_kept = refl;
              scratch_kept = kept.scratch_kept;
            };
      }

  module _ (z : refusal_in (share_out_reply answer) ≡ 0) where
    fine : allocate_refusal s (length owners) (length xs) (length scratch) ≡ 0
    fine = sym (answered a) ∙ z

    room : chores_of s ≤ length xs
    room = (is_fine s (length owners) (length xs) (length scratch) fine).prices_room

    long : chores_of s ≤ length (xs' ++ rest)
    long = simp length-append (omega (arith, room, L.back))

    abbrev shared : SharedOut s owners xs scratch owners' xs' scratch' answer
    shared = a.not_refused fine

    abbrev prices : List ℕ
    prices = shared.final.prices

    prices_are_lem : take (chores_of s) (xs' ++ rest) ≡ prices
    prices_are_lem = take-append-le (chores_of s) xs' rest (omega (arith, room, L.back)) ∙ shared.prices_written

    prices_long : length prices ≡ chores_of s
    prices_long = rw (← prices_are_lem) (length-take-le (chores_of s) (xs' ++ rest) long)

    -- the prices as numbers, those kept among them
    abbrev numbers : List ℕ
    numbers = prices ++ drop (chores_of s) (prices_in bytes)

    numbers_first : take (chores_of s) numbers ≡ prices
    numbers_first = take_at prices _ (chores_of s) prices_long

    written : with_prices (chores_of s) (xs' ++ rest) bytes ≡ with_prices (chores_of s) numbers bytes
    unfolding with_prices
    written = rw (prices_are_lem, numbers_first)

    small : (c : ℕ) → c < length prices → get_or prices c 0 < 2 ^ 32
    small c l = rw (← prices_are_lem, get_or-take (chores_of s) (xs' ++ rest) c 0 (rw prices_long at l)) (L.fits c)

    -- the price check reads the prices that were written
    passes : price_check_in_c s (take (chores_of s) owners') (take (4 * chores_of s) (with_prices (chores_of s) (xs' ++ rest) bytes)) ≡ accepted
    passes =
        let bytes_are_lem = with_first (xs' ++ rest) bytes (chores_of s) long ∙ ap bytes_of prices_are_lem in
        let size = bytes-length prices ∙ ap (λ k. 4 * k) prices_long in
        let again = read_back prices small in
        rw (bytes_are_lem, shared.owners_written, ← whole s shared.final.owners (bytes_of prices) size, again) shared.demand3.passes

    shared_numbers : Allocated s owners (prices_in bytes) scratch owners' numbers scratch' answer
    shared_numbers =
        record {
          not_refused =
              λ _. record {
                final = shared.final;
                demand3 = shared.demand3;
                few = shared.few;
                answer = shared.answer;
                owners_written = shared.owners_written;
                owners_kept = shared.owners_kept;
                prices_written = numbers_first;
                prices_kept = drop_at prices _ (chores_of s) prices_long;
                zeros = shared.zeros;
              };
          turned_down = λ h. absurd (h (sym whole_list ∙ fine));
        }

  -- the answer can be told
  pub tellable : Tellable s answer (xs' ++ rest) bytes
  tellable =
      record {
        header = λ z. (is_fine s (length owners) (length xs) (length scratch) (fine z)).valid.header;
        room = λ z. record { in_bytes = omega (arith, room z, L.short); in_prices = long z };
      }

  -- and once it is told, what C gets is as promised
  pub told_in_c : {bytes' : List ℕ} {moves cuts moves' cuts' r : ℕ} → ToldOut s answer (xs' ++ rest) bytes bytes' moves cuts moves' cuts' r → AllocatedInC s owners bytes scratch owners' bytes' scratch' moves cuts moves' cuts' r
  told_in_c {bytes'} {r = r} T =
      by_same r 0
      (λ e.
      let z : refusal_in (share_out_reply answer) ≡ 0 = sym T.told.returned ∙ e in
      let wrote : bytes' ≡ with_prices (chores_of s) (xs' ++ rest) bytes = T.bytes ∙ cond_true _ _ (eq-eqb r 0 e) in
      record {
        answer = answer;
        numbers = numbers z;
        allocated = shared_numbers z;
        told = T.told;
        bytes = wrote ∙ written z ∙ sym (cond_true _ _ (eq-eqb r 0 e));
        passes = λ _. rw wrote (passes z);
      })
      (λ h. record {
        answer = answer;
        numbers = prices_in bytes;
        allocated = not_shared (λ z. h (T.told.returned ∙ z));
        told = T.told;
        bytes = T.bytes ∙ cond_false _ _ (ne_eqb r 0 h) ∙ sym (cond_false _ _ (ne_eqb r 0 h));
        passes = λ e. absurd (h e);
      })
