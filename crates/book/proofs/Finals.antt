-- Laws of what the share-out of a sheet answers and writes.
-- Assumes nothing.
use Prim.Native.Nat.{ℕ, ◌*◌, ◌≤◌, zero-le}
use mathlib.Core.List.{List, []}
use mathlib.Core.Path.{◌≡◌, sym, ap, ◌∙◌}
use native.Mathlib.Nat.{mul-zero}
use native.Mathlib.Omega.{arith}
use lib.ListN.{length}
use Rattle.finite.proofs.Tests.{by_test, cond-le}
use Rattle.std.specs.Prelude.{Result}
use Rattle.model.specs.declared.Refusal.{Refusal}
use Rattle.model.specs.declared.ShareOut.{ShareOut}
use Rattle.model.specs.Limits.{max_chores}
use Rattle.model.specs.Sheet.{chores_of}
use Rattle.model.specs.Algorithm.{State}
use Rattle.model.specs.Refusals.{sheet_refusal}
use Rattle.model.specs.Replies.{refused, shared, share_out_reply}
use Rattle.sheet.proofs.Refusal.{valid}
use Rattle.allocation.specs.Final.{accepts, final_of}
use Rattle.allocation.proofs.Final.{accept, turn_down, accepted, owners_long, prices_long}
use Rattle.pricebytes.specs.PriceBytes.{bytes_of}
use Rattle.pricebytes.proofs.Writing.{bytes-length}
use Rattle.book.specs.Finals.{owner_bytes, price_bytes, entries_in, answer_of, written_of}
use Rattle.book.specs.Steps.{Answered, Taken}
use Rattle.book.proofs.Results.{Parts, parts}

module _ (s : List ℕ) where
  module _ (z : sheet_refusal s ≡ 0) where
    pub answer_shared : answer_of s ≡ shared (final_of s).moves (final_of s).cuts
    unfolding answer_of
    answer_shared = rw (accept s z)

    pub entries_shared : entries_in s ≡ chores_of s
    unfolding entries_in
    entries_shared = rw (accept s z)

    pub written_shared : (written : State → List ℕ) → written_of written s ≡ written (final_of s)
    unfolding written_of
    written_shared written = rw (accept s z)

    pub owners_sized_lem : length (owner_bytes (final_of s)) ≡ 1 * chores_of s
    owners_sized_lem = omega (arith, owners_long s z)

    pub prices_sized_lem : length (price_bytes (final_of s)) ≡ 4 * chores_of s
    prices_sized_lem = bytes-length (final_of s).prices ∙ ap (λ k. 4 * k) (prices_long s z)

  module _ (h : sheet_refusal s ≡ 0 → ⊥) where
    pub answer_refused : answer_of s ≡ refused (sheet_refusal s)
    unfolding answer_of
    answer_refused = rw (turn_down s h)

    pub entries_refused : entries_in s ≡ 0
    unfolding entries_in
    entries_refused = rw (turn_down s h)

    pub written_refused : (written : State → List ℕ) → written_of written s ≡ []
    unfolding written_of
    written_refused written = rw (turn_down s h)

  pub entries-few : entries_in s ≤ max_chores
  unfolding entries_in
  entries-few = cond-le (accepts s) (λ e. (valid s (accepted s e)).chores_fit) (λ e. zero-le)

  -- the bytes of the prices that it writes
  pub bytes_written : bytes_of (written_of (λ x. x.prices) s) ≡ written_of price_bytes s
  unfolding written_of bytes_of
  bytes_written = by_test (accepts s) (λ e. rw e) (λ e. rw e)

  -- what an answer says
  module _ {out : Result ShareOut Refusal} (told : share_out_reply out ≡ answer_of s) where
    pub answer_parts : Parts out (accepts s) (final_of s).moves (final_of s).cuts (sheet_refusal s)
    unfolding answer_of
    answer_parts = parts out (accepts s) told

    pub answered : Answered s out
    answered = record { header = λ e. (valid s (accepted s (sym answer_parts.whether ∙ e))).header }

    pub taken : {n : ℕ} → Taken s out n → n ≡ entries_in s
    unfolding entries_in
    taken T = T.is ∙ rw answer_parts.whether

    pub taken_few : {n : ℕ} → Taken s out n → n ≤ max_chores
    taken_few T = rw (taken T) entries-few

-- where a final state has so many bytes to an entry, so many are written
pub written_long : (width : ℕ) (written : State → List ℕ) → ((s : List ℕ) → sheet_refusal s ≡ 0 → length (written (final_of s)) ≡ width * chores_of s) → (s : List ℕ) → length (written_of written s) ≡ width * entries_in s
unfolding written_of entries_in
written_long width written sized s = by_test (accepts s) (λ e. rw e (sized s (accepted s e))) (λ e. rw (e, mul-zero))
