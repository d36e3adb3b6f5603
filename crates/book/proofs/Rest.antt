-- The rest of a list, lent from its middle: what the share-out of a sheet leaves in the whole of it.
-- Assumes nothing.
use Prim.Native.Nat.{ℕ, ◌-◌, ◌*◌, ◌≤◌}
use mathlib.Core.List.{List, ◌++◌}
use mathlib.Core.Path.{◌≡◌, sym, ap, ◌∙◌}
use native.Mathlib.Omega.{arith}
use lib.ListN.{length, take, drop, replicate, length-drop}
use Rattle.finite.proofs.Below.{by_same}
use Rattle.finite.proofs.Lists.{rest_whole, rest_back}
use Rattle.std.specs.Prelude.{Result}
use Rattle.model.specs.declared.Refusal.{Refusal}
use Rattle.model.specs.declared.ShareOut.{ShareOut}
use Rattle.model.specs.Limits.{max_chores, scratch_size}
use Rattle.model.specs.Algorithm.{State}
use Rattle.model.specs.Refusals.{sheet_refusal, allocate_refusal}
use Rattle.model.specs.Replies.{refused, shared, share_out_reply}
use Rattle.model.specs.Promises.{Allocated}
use Rattle.allocation.proofs.Final.{final_demand3}
use Rattle.allocation.proofs.Accepting.{sheet_decides}
use Rattle.pricebytes.specs.PriceBytes.{bytes_of, with_prices}
use Rattle.pricebytes.proofs.Writing.{with_first, with_rest}
use Rattle.book.specs.Finals.{owner_bytes, price_bytes, entries_in, answer_of, written_of}
use Rattle.book.specs.Steps.{Taken, Room, RestShared}
use Rattle.book.proofs.Finals.{answer_shared, entries_shared, written_shared, owners_sized_lem, prices_sized_lem, answer_refused, entries_refused, written_refused, entries-few, bytes_written, taken, written_long}

-- a list whose rest from a on was lent, and is back as ys
abbrev pub handed_back : List ℕ → ℕ → List ℕ → List ℕ
handed_back xs a ys = take a xs ++ (ys ++ drop (length xs - a) (drop a xs))

-- what the share-out leaves of the lists lent to it, whether it takes the sheet or not
record Left (s owners scratch owners' numbers' scratch' : List ℕ) (out : Result ShareOut Refusal) : Type 0 where
  answer : share_out_reply out ≡ answer_of s
  owners_written : take (entries_in s) owners' ≡ written_of owner_bytes s
  owners_kept : drop (entries_in s) owners' ≡ drop (entries_in s) owners
  prices_written : take (entries_in s) numbers' ≡ written_of (λ x. x.prices) s
  zeros : scratch ≡ replicate (length scratch) 0 → scratch' ≡ scratch

module _ {s lent numbers scratch o p c : List ℕ} {out : Result ShareOut Refusal} (A : Allocated s lent numbers scratch o p c out) (many : max_chores ≤ length lent) (enough : max_chores ≤ length numbers) (fits : scratch_size ≤ length scratch) where
  left : Left s lent scratch o p c out
  left = by_same (sheet_refusal s) 0 shared_out turned_down
    where
      decides : allocate_refusal s (length lent) (length numbers) (length scratch) ≡ sheet_refusal s
      decides = sheet_decides s (length lent) (length numbers) (length scratch) many enough fits

      shared_out : sheet_refusal s ≡ 0 → Left s lent scratch o p c out
      shared_out z =
          let S = A.not_refused (decides ∙ z) in
          let same = (final_demand3 s z).only S.final S.demand3.ends in
          record {
            answer = S.answer ∙ ap (λ (x : State). shared x.moves x.cuts) same ∙ sym (answer_shared s z);
            owners_written = rw (entries_shared s z, written_shared s z owner_bytes, ← same) S.owners_written;
            owners_kept = rw (entries_shared s z) S.owners_kept;
            prices_written = rw (entries_shared s z, written_shared s z (λ x. x.prices), ← same) S.prices_written;
            zeros = λ e. S.zeros ∙ sym e;
          }

      turned_down : (sheet_refusal s ≡ 0 → ⊥) → Left s lent scratch o p c out
      turned_down h =
          let N = A.turned_down (λ e. h (sym decides ∙ e)) in
          record {
            answer = N.answer ∙ ap refused decides ∙ sym (answer_refused s h);
            owners_written = rw (entries_refused s h, written_refused s h owner_bytes);
            owners_kept = rw (entries_refused s h) N.owners_kept;
            prices_written = rw (entries_refused s h, written_refused s h (λ x. x.prices));
            zeros = λ e. N.scratch_kept;
          }

-- the share-out over the rest of the owners
module _ {s owners prices scratch numbers o p c : List ℕ} {first : ℕ} {out : Result ShareOut Refusal}
    (R : Room first owners prices scratch numbers)
    (A : Allocated s (take (length owners - first) (drop first owners)) numbers scratch o p c out)
  where
    here : Left s (drop first owners) scratch o p c out
    here =
        left (rw (rest_whole {a = first} owners (omega (arith, R.owners_fit))) at A)
        (simp length-drop (omega (arith, R.owners_fit))) (omega (arith, R.numbers_fit)) R.scratch_fits

    pub answer_is : share_out_reply out ≡ answer_of s
    answer_is = here.answer

    -- and then its prices written over the rest of their bytes
    module _ {bytes : List ℕ} {m : ℕ}
        (T : Taken s out m)
        (kept : length p ≡ length numbers)
        (wrote : bytes ≡ with_prices m p (take (length prices - 4 * first) (drop (4 * first) prices)))
      where
        abbrev n : ℕ
        n = entries_in s

        room : n ≤ length p
        room = omega (arith, entries-few s, R.numbers_fit)

        written : bytes ≡ with_prices n p (drop (4 * first) prices)
        written = rw (rest_whole {a = 4 * first} prices (omega (arith, R.prices_fit)), taken s answer_is T) at wrote

        pub rest_shared : RestShared s first owners prices scratch (handed_back owners first o) (handed_back prices (4 * first) bytes) c out
        rest_shared =
            record {
              answer = answer_is;
              owners_after =
                  rest_back owners o (written_of owner_bytes s) first n (omega (arith, written_long 1 owner_bytes owners_sized_lem s)) (omega (arith, entries-few s, R.owners_fit)) here.owners_written here.owners_kept;
              prices_after =
                  rest_back prices bytes (written_of price_bytes s) (4 * first) (4 * n) (written_long 4 price_bytes prices_sized_lem s) (omega (arith, entries-few s, R.prices_fit))
                  (rw written (with_first p (drop (4 * first) prices) n room ∙ ap bytes_of here.prices_written ∙ bytes_written s))
                  (rw written (with_rest p (drop (4 * first) prices) n room));
              zeros = here.zeros;
            }
