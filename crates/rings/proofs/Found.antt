-- What a caller of the search learns: the receiver of step 2b, or everyone reachable.
-- Assumes nothing.
use Prim.Native.Nat.{ℕ, ◌<◌}
use mathlib.Core.List.{List}
use mathlib.Core.Path.{◌≡◌, ◌∙◌}
use Rattle.finite.specs.Bits.{bit, SetOf}
use Rattle.finite.specs.Search.{first_below}
use Rattle.finite.proofs.Search.{first_cong}
use Rattle.finite.proofs.Bits.{set_cong}
use Rattle.model.specs.Instance.{Instance}
use Rattle.model.specs.Step2b.{reachable, receiver2b}
use Rattle.rings.specs.Line.{is_reached}
use Rattle.rings.specs.Search.{Searched}
use Rattle.rings.proofs.Ringed.{reached_line, line_reachable}

module _ {I : Instance} {x p : ℕ → ℕ} {giver takers : ℕ} {lent scratch : List ℕ} (s : Searched I x p giver takers lent scratch) where
  module _ (somebody : giver < I.n) where
    -- the lowest of the takers is the receiver
    pub receiver_is : first_below I.n (bit takers) ≡ receiver2b I x p
    unfolding receiver2b
    receiver_is = first_cong I.n (s.takes somebody).member

  -- those whose byte is not 0 are the reachable ones
  pub reached_is : 0 < I.n → giver ≡ I.n → {w : ℕ} → SetOf I.n w (is_reached scratch) → SetOf I.n w (reachable I x p)
  reached_is some nobody =
      set_cong (λ i l. reached_line I x p some I.n 0 (s.all nobody) i l ∙ line_reachable I x p some i l)
