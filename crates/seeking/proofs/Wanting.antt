-- What the traits of a chore say of a state: who wants it, and whether it is entitled.
-- Assumes nothing.
use Prim.Native.Nat.{ℕ, ◌<◌}
use mathlib.Core.Bool.{Bool, true, false, cond, not, ◌&&◌, ◌||◌}
use mathlib.Core.List.{List}
use mathlib.Core.Path.{◌≡◌, refl, sym, ap, ◌∙◌}
use native.Mathlib.Omega.{arith}
use lib.Dec.{eqb, ltb}
use lib.ListN.{get_or}
use borrow.Author.Tests.{lt-ltb, ne_eqb}
use Rattle.finite.specs.Bits.{SetOf}
use Rattle.finite.proofs.Below.{by_same}
use Rattle.finite.proofs.Bits.{set_and, set_or, set_cong}
use Rattle.model.specs.Limits.{max_agents}
use Rattle.model.specs.Instance.{price_of}
use Rattle.model.specs.Sheet.{agents_of, chores_of, as_read}
use Rattle.model.specs.Prices.{best}
use Rattle.algorithm.specs.Kinds.{ok, wanted}
use Rattle.algorithm.proofs.Best.{best-wanted}
use Rattle.algorithm.proofs.Reading.{read_sound}
use Rattle.market.specs.Market.{group_of, entitled_of, ByGroup}
use Rattle.firsts.specs.Traits.{free_trait, wanting_word, trait_in, has_trait}
use Rattle.seeking.specs.Looks.{Ready}

-- the members of a wanting word
set-wanting :
    {n l f g : ℕ} {k t u : ℕ → Bool} (e : Bool)
    → SetOf n l k → SetOf n f t → SetOf n g u → SetOf n (wanting_word l e f g) (λ j. cond e (k j && u j) ((k j && t j) || u j))
unfolding wanting_word
set-wanting true l f g = set_and l g
set-wanting false l f g = set_or (set_and l f) g

-- an agent is in no group, where z, or in some group
parted : (z e k : Bool) → cond e (k && not z) ((k && z) || not z) ≡ cond z (not e && k) (not e || k)
parted true true true = refl
parted true true false = refl
parted true false true = refl
parted true false false = refl
parted false true true = refl
parted false true false = refl
parted false false true = refl
parted false false false = refl

positive : (g : ℕ) → ltb 0 g ≡ not (eqb g 0)
positive g =
    by_same g 0 (λ e. rw e) (λ h. lt-ltb 0 g (omega arith) ∙ sym (ap not (ne_eqb g 0 h)))

module _ {s owners prices groups entitled likes : List ℕ} {free grouped : ℕ} (R : Ready s owners prices groups entitled likes) (sides : ByGroup (agents_of s) groups free grouped) where
  -- those who want chore c
  wanting_set : (c : ℕ) → c < chores_of s → SetOf (agents_of s) (wanting_word (get_or likes c 0) (entitled_of entitled c) free grouped) (λ j. best (as_read s) (price_of prices) j c)
  unfolding wanted as_read
  wanting_set c h =
      let okay : ℕ → Bool = λ j. ok (as_read s) j c in
      set_cong
      (λ j l. ap (λ b. cond (entitled_of entitled c) (okay j && b) ((okay j && eqb (group_of groups j) 0) || b)) (positive (group_of groups j))
      ∙ parted (eqb (group_of groups j) 0) (entitled_of entitled c) (okay j)
      ∙ sym (best-wanted (read_sound R.valid) R.core j c l h))
      (set-wanting (entitled_of entitled c) (R.liking.liked c h) sides.free_are sides.grouped_are)

  pub wanted_trait : (mid top j c : ℕ) → j < agents_of s → c < chores_of s → has_trait prices entitled likes free grouped mid top j c ≡ best (as_read s) (price_of prices) j c
  unfolding has_trait trait_in
  wanted_trait mid top j c l h =
      let low : j < max_agents = omega (arith, R.valid.agents_fit) in
      rw (lt-ltb j max_agents low) ((wanting_set c h).member j l)

module _ (prices entitled likes : List ℕ) (free grouped mid top c : ℕ) where
  pub free_trait_lem : has_trait prices entitled likes free grouped mid top free_trait c ≡ not (entitled_of entitled c)
  unfolding has_trait trait_in
  free_trait_lem = refl
