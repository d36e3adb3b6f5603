-- Answers as numbers for C: a verdict is one number, the numbers of a share-out go into lent memory.
use Rattle.std.specs.Prelude.{ℕ, ◌+◌, ◌*◌, Result, ◌≡◌}
use Rattle.model.specs.declared.Refusal.{Refusal}
use Rattle.model.specs.declared.ShareOut.{ShareOut}
use Rattle.model.specs.Replies.{Reply, refused, shared, shared_at, joined, absent, holds, unfair, wasteful, off_price, price_envy, accepted, share_out_reply}

-- What memory that held `before` holds when the answer for a sheet is told: what `number` makes of a refusal number, what `pick` takes of the
-- moves, cuts and first entry. Where nothing is told it keeps what it held.
abbrev pub told_over : (ℕ → ℕ → ℕ) → (ℕ → ℕ → ℕ → ℕ) → Reply → ℕ → ℕ
told_over number pick (refused k) before = number before k
told_over number pick (shared moves cuts) before = pick moves cuts 0
told_over number pick (shared_at moves cuts first) before = pick moves cuts first
told_over number pick (joined size) before = before
told_over number pick absent before = before
told_over number pick holds before = before
told_over number pick (unfair i j) before = before
told_over number pick wasteful before = before
told_over number pick (off_price r) before = before
told_over number pick (price_envy i j) before = before
told_over number pick accepted before = before

-- the refusal number, 0 for a sheet that is shared out
abbrev pub refusal_after : Reply → ℕ → ℕ
refusal_after = told_over (λ before k. k) (λ moves cuts first. 0)

-- "The number is all that is returned, and lent memory keeps its content.": a refused sheet leaves these alone
abbrev pub moves_after : Reply → ℕ → ℕ
moves_after = told_over (λ before k. before) (λ moves cuts first. moves)

abbrev pub cuts_after : Reply → ℕ → ℕ
cuts_after = told_over (λ before k. before) (λ moves cuts first. cuts)

abbrev pub first_after : Reply → ℕ → ℕ
first_after = told_over (λ before k. before) (λ moves cuts first. first)

-- the refusal number or 0
abbrev pub refusal_in : Reply → ℕ
refusal_in reply = refusal_after reply 0

-- A verdict: its refusal number, its kind, its values.
pub record Verdict : Type 0 where
  pub refusal : ℕ
  pub kind : ℕ
  pub values : ℕ

abbrev pub verdict : ℕ → ℕ → ℕ → Verdict
verdict refusal kind values = record { refusal = refusal; kind = kind; values = values }

-- The values are the agents of a pair, a byte each, or one chore. The answer of a share-out, or of joining, is no verdict.
abbrev pub verdict_of : Reply → Verdict
verdict_of (refused k) = verdict k 0 0
verdict_of holds = verdict 0 1 0
verdict_of (unfair i j) = verdict 0 2 (i + 256 * j)
verdict_of wasteful = verdict 0 3 0
verdict_of accepted = verdict 0 4 0
verdict_of (off_price r) = verdict 0 5 r
verdict_of (price_envy i j) = verdict 0 6 (i + 256 * j)
verdict_of (shared moves cuts) = verdict 0 0 0
verdict_of (shared_at moves cuts first) = verdict 0 0 0
verdict_of (joined size) = verdict 0 0 0
verdict_of absent = verdict 0 0 0

-- The two high bytes are the values, the next byte is the kind, the low byte the refusal number.
abbrev pub verdict_number : Reply → ℕ
verdict_number reply = 65536 * (verdict_of reply).values + 256 * (verdict_of reply).kind + (verdict_of reply).refusal

-- the answer for one sheet as C gets it
pub record Told (answer : Result ShareOut Refusal) (moves cuts moves' cuts' r : ℕ) : Type 0 where
  pub returned : r ≡ refusal_in (share_out_reply answer)
  pub moves_at_exit : moves' ≡ moves_after (share_out_reply answer) moves
  pub cuts_at_exit : cuts' ≡ cuts_after (share_out_reply answer) cuts
