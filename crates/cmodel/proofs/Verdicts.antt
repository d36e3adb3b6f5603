-- A verdict's number tells the verdict: what C takes out of it is the reply, of either check.
-- Assumes nothing.
use Prim.Native.Nat.{ℕ, ◌+◌, ◌*◌, ◌/◌, ◌%◌, ◌<◌}
use mathlib.Core.Path.{◌≡◌, refl, ap, ◌∙◌}
use native.Mathlib.Omega.{arith}
use Rattle.model.specs.Replies.{Reply, refused, shared, shared_at, joined, absent, holds, unfair, wasteful, off_price, price_envy, accepted}
use Rattle.cmodel.specs.Numbers.{verdict, verdict_number}
use Rattle.cmodel.specs.TakenApart.{taken_apart, reply_of, Fits}

pub told_as : {x y : Reply} {r : ℕ} → x ≡ y → r ≡ verdict_number x → r ≡ verdict_number y
told_as e is = is ∙ ap verdict_number e

-- refusal number, kind and values lie side by side
module _ (r k v : ℕ) (low : r < 256) (mid : k < 256) where
  refusal_byte : (65536 * v + 256 * k + r) % 256 ≡ r
  refusal_byte = omega arith

  kind_byte : (65536 * v + 256 * k + r) / 256 % 256 ≡ k
  kind_byte = omega arith

  value_bytes : (65536 * v + 256 * k + r) / 65536 ≡ v
  value_bytes = omega arith

  apart : taken_apart (65536 * v + 256 * k + r) ≡ verdict r k v
  apart = rw (refusal_byte, kind_byte, value_bytes)

-- the two bytes of a pair
pair_low : (i j : ℕ) → i < 256 → (i + 256 * j) % 256 ≡ i
pair_low i j fits = omega arith

pair_high : (i j : ℕ) → i < 256 → (i + 256 * j) / 256 ≡ j
pair_high i j fits = omega arith

pub verdict_told : (reply : Reply) → Fits reply → reply_of (taken_apart (verdict_number reply)) ≡ reply
verdict_told (refused k) fits = ap reply_of (apart k 0 0 fits (omega arith))
verdict_told holds fits = refl
verdict_told (unfair i j) fits = ap reply_of (apart 0 2 (i + 256 * j) (omega arith) (omega arith)) ∙ rw (pair_low i j fits, pair_high i j fits)
verdict_told wasteful fits = refl
verdict_told accepted fits = refl
verdict_told (off_price r) fits = ap reply_of (apart 0 5 _ (omega arith) (omega arith))
verdict_told (price_envy i j) fits = ap reply_of (apart 0 6 (i + 256 * j) (omega arith) (omega arith)) ∙ rw (pair_low i j fits, pair_high i j fits)
verdict_told (shared moves cuts) fits = absurd fits
verdict_told (shared_at moves cuts first) fits = absurd fits
verdict_told (joined size) fits = absurd fits
verdict_told absent fits = absurd fits
