-- How C takes a verdict's number apart again.
use Rattle.std.specs.Prelude.{ℕ, ◌/◌, ◌%◌, ◌<◌, cond, eqb}
use Rattle.model.specs.Replies.{Reply, refused, shared, shared_at, joined, absent, holds, unfair, wasteful, off_price, price_envy, accepted}
use Rattle.cmodel.specs.Numbers.{Verdict, verdict}

-- `verdict & 0xff`, `verdict >> 8 & 0xff` and `verdict >> 16`
abbrev pub taken_apart : ℕ → Verdict
taken_apart n = verdict (n % 256) (n / 256 % 256) (n / 65536)

-- the reply by its kind; the agents of a pair are the low and the high byte of the values
abbrev pub reply_of : Verdict → Reply
reply_of v =
    cond (eqb v.kind 0) (refused v.refusal)
    (cond (eqb v.kind 1) holds
    (cond (eqb v.kind 2) (unfair (v.values % 256) (v.values / 256))
    (cond (eqb v.kind 3) wasteful
    (cond (eqb v.kind 4) accepted
    (cond (eqb v.kind 5) (off_price v.values)
    (price_envy (v.values % 256) (v.values / 256)))))))

-- A reply that is a verdict, and its refusal number or first agent fits in a byte.
abbrev pub Fits : Reply → Type 0
Fits (refused k) = k < 256
Fits holds = Unit
Fits (unfair i j) = i < 256
Fits wasteful = Unit
Fits accepted = Unit
Fits (off_price r) = Unit
Fits (price_envy i j) = i < 256
Fits (shared moves cuts) = ⊥
Fits (shared_at moves cuts first) = ⊥
Fits (joined size) = ⊥
Fits absent = ⊥
