-- What was sought and what is done about it, in 2a or in 2b: one step of Algorithm 1.
-- Assumes nothing.
use Prim.Native.Nat.{ℕ, ◌<◌}
use mathlib.Core.Bool.{Bool, true, false}
use mathlib.Core.List.{List}
use mathlib.Core.Path.{◌≡◌, refl}
use native.Mathlib.Omega.{arith}
use Rattle.finite.proofs.Below.{by_same}
use Rattle.model.specs.Sheet.{agents_of}
use Rattle.firsts.specs.Traits.{has_trait}
use Rattle.steps.specs.declared.Turn.{Turn}
use Rattle.steps.specs.declared.Turn.TheVariants.{Passed, Cut, Ended}
use Rattle.steps.specs.Turns.{Tabled, Turning, Turned}
use Rattle.seeking.specs.Looks.{Views, Sought}
use Rattle.steps.specs.Parts.{Handing, HandedOver, CutOff}
use Rattle.steps.proofs.Stepped as in2b
use Rattle.steps.proofs.Staged as in2a

module _ {s owners prices groups entitled likes first sets : List ℕ} {cuts stage : ℕ} (T : Turning s owners prices groups entitled likes first sets cuts stage) where
  at2b : stage ≡ 0 → Turning s owners prices groups entitled likes first sets cuts 0
  at2b z = rw z at T

  -- a move is due
  module _ {giver u t : ℕ} {any : Bool} {lent scratch : List ℕ} (S : Sought s owners prices groups stage giver u t any lent scratch) (some : giver < agents_of s) {free grouped low mid top : ℕ} (seen : Views s groups free grouped low mid top) where
    pub handing : Handing owners prices entitled likes first sets giver u t
    handing =
        by_same stage 0
        (λ z. in2b.handing (at2b z) (S.in2b z) some seen)
        (λ h. let late : 0 < stage = omega arith in in2a.handing T late (S.in2a late) some seen)

    pub moves_on : {answer : Turn} {owners' first' sets' : List ℕ} → HandedOver (has_trait prices entitled likes free grouped mid top) giver u t owners first sets answer owners' first' sets' → Turned s owners prices groups entitled likes cuts stage answer owners' prices groups entitled first' sets'
    moves_on H =
        by_same stage 0
        (λ z. rw z (in2b.moves_on (at2b z) (S.in2b z) some seen H))
        (λ h. let late : 0 < stage = omega arith in in2a.hands_on T late (S.in2a late) some seen H)

  -- none is
  module _ {u t : ℕ} {any : Bool} {lent scratch : List ℕ} (S : Sought s owners prices groups stage (agents_of s) u t any lent scratch) where
    pub passes : 0 < stage → Turned s owners prices groups entitled likes cuts stage Passed owners prices groups entitled first sets
    passes late = in2a.passes T late (S.in2a late) refl

    module _ (z : stage ≡ 0) where
      pub cuts_on : any ≡ true → {prices' groups' entitled' first' sets' : List ℕ} → CutOff s owners prices groups entitled scratch cuts prices' groups' entitled' → Tabled s owners prices' groups' entitled' likes first' sets' → Turned s owners prices groups entitled likes cuts stage Cut owners prices' groups' entitled' first' sets'
      cuts_on some C t = rw z (in2b.cuts_on (at2b z) (S.in2b z) some C t)

      pub stops_here : any ≡ false → Turned s owners prices groups entitled likes cuts stage Ended owners prices groups entitled first sets
      stops_here calm = rw z (in2b.stops_here (at2b z) (S.in2b z) calm)
