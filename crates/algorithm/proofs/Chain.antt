-- Step 2b from any round's start to its end. Its moves come in chains, and each leaves room for one move less; cut chores stay where they are;
-- and when 2b ends, no member of a group is above the least sum.
-- Assumes nothing.
use Prim.Native.Nat.{ℕ, suc, ◌+◌, ◌-◌, ◌*◌, ◌≤◌, ◌<◌}
use mathlib.Core.Bool.{Bool, true, false, not}
use mathlib.Core.Path.{◌≡◌, sym, ap, ◌∙◌}
use native.Mathlib.Nat.{le_refl, le_of_eq, mul-le-mul, mul-le-mul_left}
use native.Mathlib.Omega.{arith}
use lib.Dec.{eqb, leb}
use borrow.Author.Tests.{le-leb, ne_eqb, eqb-false, not-true}
use Rattle.finite.specs.Moves.{Moves}
use Rattle.finite.proofs.Tests.{clash, not_yes, and_elim, and_intro, not_on}
use Rattle.finite.proofs.Below.{by_less, by_same}
use Rattle.finite.proofs.Counts.{count_le, count_mono, count_strict}
use Rattle.model.specs.Instance.{Instance}
use Rattle.model.specs.Prices.{price_sum, price_up_to_one}
use Rattle.model.specs.Step2b.{least_sum, above, within, due2b}
use Rattle.model.specs.MostMoves.{round_moves}
use Rattle.algorithm.specs.Kinds.{Sound, dear}
use Rattle.algorithm.specs.Core.{Core}
use Rattle.algorithm.specs.Due.{Due}
use Rattle.algorithm.specs.Phases.{Quiet}
use Rattle.algorithm.specs.Chain.{chain_top, held, above_but, Carrying, Chain, settled, carrying}
use Rattle.algorithm.proofs.UpToOne.{take_up, up_others, relief}
use Rattle.algorithm.proofs.Best.{free_uncut, uncut_best, best_uncut, dear-best, uncut_price, uncut_least}
use Rattle.algorithm.proofs.Rings.{of_least, least_of_lem, is_above, above_is, within_zero, least_low, is_due, within_more, ring_below, least_rises, wanted_far, rings_back, rings_forth}

-- a chain for each chore is within the moves of a round
pub round_room : (I : Instance) (x : ℕ → ℕ) (who : ℕ → Bool) → chain_top I * held I x who ≤ round_moves I.n I.m
unfolding chain_top held round_moves
round_room I x who = let long : chain_top I ≤ I.n - 1 = omega arith in mul-le-mul long (count_le I.m (λ c. who (x c)))

-- whoever is above the least sum, where u is not, is not u
above_but_lem : (I : Instance) (x p : ℕ → ℕ) (u i : ℕ) → price_up_to_one I.m x p u ≤ least_sum I x p → above I x p i ≡ true → above_but I x p u i ≡ true
unfolding above_but
above_but_lem I x p u i low e = and_intro e (not_on (ne_eqb i u (λ q. omega (arith, is_above I x p i e, ap (price_up_to_one I.m x p) q))))

but_elim : (I : Instance) (x p : ℕ → ℕ) (u i : ℕ) → above_but I x p u i ≡ true → (above I x p i ≡ true) × (i ≡ u → ⊥)
unfolding above_but
but_elim I x p u i e =
    let both = and_elim (above I x p i) (not (eqb i u)) e in
    (both.0, eqb-false i u (not-true (eqb i u) both.1))

-- between chains whoever is above the least sum is in no group
pub quiet_outside : {I : Instance} {x p group : ℕ → ℕ} {cut : ℕ → Bool} → Quiet I p group cut x → (i : ℕ) → i < I.n → least_sum I x p < price_up_to_one I.m x p i → group i ≡ 0
quiet_outside {group} q i hi a = by_less 0 (group i) (λ g. absurd (omega (arith, q.quiet i hi g))) (λ g. omega arith)

module _ {I : Instance} {x p group : ℕ → ℕ} {cut : ℕ → Bool} (S : Sound I) (K : Core I x p group cut) where
  module _ {t w u k : ℕ} (d : Due I x p t w u k) where
    -- the carrier is just the giver
    module _ {v s : ℕ} (l : Carrying I p group cut x v s) where
      carrier_further : t < s
      carrier_further =
          by_less t s (λ h. h) λ h.
          absurd (omega (arith, l.carries, d.nobody_nearer v l.carrier (within_more I x p S.some h v l.near)))

      carrier_gives : w ≡ v
      carrier_gives = l.alone w d.giver (within_more I x p S.some carrier_further w d.in_ring) d.giver_above

      receiver_free : group u ≡ 0
      receiver_free = l.free_nearer t u carrier_further d.receiver d.near

    -- a cut chore never moves in 2b
    pub chain_uncut : {room : ℕ} → Chain I p group cut x room → cut k ≡ false
    chain_uncut (settled q r) = free_uncut K k d.chore (rw d.owned (quiet_outside q w d.giver d.giver_above))
    chain_uncut (carrying v s l r) = best_uncut S K u k d.receiver (receiver_free l) d.chore d.wants

    module _ {y : ℕ → ℕ} (v : Moves I.m x y k w u) where
      -- whoever does not receive, and was not above the least sum, is not now
      still_low : (i : ℕ) → (i ≡ u → ⊥) → price_up_to_one I.m x p i ≤ least_sum I x p → price_up_to_one I.m y p i ≤ least_sum I y p
      still_low i ne h = omega (arith, up_others v p i ne, least_rises d v)

      -- whoever is above it now, the receiver apart, was
      was_above : (i : ℕ) → (i ≡ u → ⊥) → above I y p i ≡ true → above I x p i ≡ true
      was_above i ne e = above_is I x p i (omega (arith, is_above I y p i e, up_others v p i ne, least_rises d v))

      not_moved : (c : ℕ) → c < I.m → (y c ≡ u → ⊥) → x c ≡ y c
      not_moved c l ne = v.rest c l (λ e. ne (ap y e ∙ v.target))

      module _ (uncut : cut k ≡ false) (far : price_sum I.m x p u ≡ least_sum I x p → ⊥) where
        -- the receiver is not of least sum, so it is not in ring 0
        further : 0 < t
        further =
            by_less 0 t (λ l. l)
            (λ l. let z : t ≡ 0 = omega arith in absurd (far (of_least I x p u (rw (within_zero I x p u) at (rw z at d.near)))))

        -- a dear chore is best for those of least sum, so its owner is in ring 0 or 1: the chore that moves is not dear, and so none is cheaper
        cheapest : (e : ℕ) → e < I.m → cut e ≡ false → p k ≤ p e
        cheapest e l f = omega (arith, uncut_price S K k d.chore uncut plain, uncut_least S K e l f)
          where
            plain : dear I k ≡ false
            plain =
                let low = least_low I x p S.some in
                not_yes (dear I k) λ q.
                omega (arith, further, wanted_far d v 0 low.index low.below (within_zero I x p low.index ∙ least_of_lem I x p low.index low.value) (dear-best S K low.index k low.below d.chore uncut q))

        -- for a member of a group the chore that moved was best, so the giver would have been nearer
        nearer-free : (s i : ℕ) → s < t → i < I.n → within I y p s i ≡ true → group i ≡ 0
        nearer-free s i h hi r =
            by_less 0 (group i)
            (λ g. absurd (omega (arith, wanted_far d v s i hi (rings_back d v far s i hi r) (uncut_best S K i k hi g d.chore uncut))))
            (λ g. omega arith)

        alone_within : (i : ℕ) → i < I.n → within I y p t i ≡ true → least_sum I y p < price_up_to_one I.m y p i → i ≡ u
        alone_within i hi r a =
            by_same i u (λ e. e) (λ ne. absurd (omega (arith, still_low i ne (d.nobody_nearer i hi (rings_back d v far t i hi r)))))

        becomes_carrying : ((i : ℕ) → i < I.n → 0 < group i → (i ≡ u → ⊥) → price_up_to_one I.m y p i ≤ least_sum I y p) → least_sum I y p < price_up_to_one I.m y p u → Carrying I p group cut y u t
        becomes_carrying low a = record {
          distance = d.distance;
          carrier = d.receiver;
          near = rings_forth d v far t u (le_refl t) d.receiver d.near;
          carries = a;
          others = low;
          free_nearer = nearer-free;
          alone = alone_within;
          relieved = λ z e r v' f. omega (arith, relief {p = p} (record { gets = v; gives = v'; no_cheaper = cheapest e v'.below f }), d.nobody_nearer u d.receiver d.near, least_rises d v);
        }

      -- after the move the receiver is above the least sum, and carries, or it is not, and all is settled
      moved : {room : ℕ} → cut k ≡ false → ((i : ℕ) → i < I.n → 0 < group i → (i ≡ u → ⊥) → price_up_to_one I.m y p i ≤ least_sum I y p) → chain_top I * held I y (above_but I y p u) + suc t ≤ room → Chain I p group cut y (room - 1)
      unfolding held
      moved uncut low fewer =
          by_less (least_sum I y p) (price_up_to_one I.m y p u)
          (λ a. carrying u t (becomes_carrying uncut (λ e. omega (arith, take_up v p, least_rises d v)) low a) (omega arith))
          (λ l.
          let none = count_mono I.m (λ c. above I y p (y c)) (λ c. above_but I y p u (y c)) (λ c h. above_but_lem I y p u (y c) l) in
          settled (record { quiet = λ i hi g. by_same i u (λ e. rw e l) (low i hi g) }) (omega (arith, mul-le-mul_left (chain_top I) none)))

      -- a chain begins: the giver has lost a chore for good
      begins : chain_top I * held I y (above_but I y p u) + suc t ≤ chain_top I * held I x (above I x p)
      unfolding chain_top held
      begins =
          let one = count_strict (λ c. above_but I y p u (y c)) (λ c. above I x p (x c)) fewer k d.chore gone (rw d.owned (above_is I x p w d.giver_above)) in
          let long : suc t ≤ chain_top I = omega (arith, ring_below d) in
          omega (arith, long, mul-le-mul_left (chain_top I) one)
        where
          fewer : (c : ℕ) → c < I.m → above_but I y p u (y c) ≡ true → above I x p (x c) ≡ true
          fewer c l e = let b = but_elim I y p u (y c) e in rw (not_moved c l b.1) (was_above (y c) b.1 b.0)

          gone : above_but I y p u (y k) ≡ false
          gone = not_yes _ (λ e. (but_elim I y p u (y k) e).1 v.target)

      -- a chain goes on: the carrier is relieved
      module _ {v' s : ℕ} (l : Carrying I p group cut x v' s) (uncut : cut k ≡ false) where
        relieved : price_up_to_one I.m y p w ≤ least_sum I y p
        relieved =
            let e = carrier_gives l in
            let z = l.relieved y k u (rw e at v) uncut in
            rw e (omega (arith, least_rises d v))

        others_low : (i : ℕ) → i < I.n → 0 < group i → (i ≡ u → ⊥) → price_up_to_one I.m y p i ≤ least_sum I y p
        others_low i hi g ne =
            by_same i w (λ e. rw e relieved) (λ a. still_low i ne (l.others i hi g (λ e. a (e ∙ sym (carrier_gives l)))))

        no_more : held I y (above_but I y p u) ≤ held I x (above_but I x p v')
        unfolding held above_but
        no_more = count_mono I.m (λ c. above_but I y p u (y c)) (λ c. above_but I x p v' (x c)) each
          where
            each : (c : ℕ) → c < I.m → above_but I y p u (y c) ≡ true → above_but I x p v' (x c) ≡ true
            each c h e =
                let b = but_elim I y p u (y c) e in
                let other : y c ≡ v' → ⊥ = λ q. omega (arith, is_above I y p (y c) b.0, ap (price_up_to_one I.m y p) (q ∙ sym (carrier_gives l)), relieved) in
                rw (not_moved c h b.1) (and_intro (was_above (y c) b.1 b.0) (not_on (ne_eqb (y c) v' other)))

      -- each move leaves room for one move less
      pub chain_moved : {room : ℕ} → Chain I p group cut x room → (0 < room) × Chain I p group cut y (room - 1)
      chain_moved (settled q r) =
          let f = begins in
          (omega arith, moved (chain_uncut (settled q r)) (λ i hi g ne. still_low i ne (q.quiet i hi g)) (omega arith))
      chain_moved (carrying v' s l r) =
          let f = carrier_further l in
          let c = chain_uncut (carrying v' s l r) in
          let h = mul-le-mul_left (chain_top I) (no_more l c) in
          (omega arith, moved c (others_low l c) (omega arith))

  -- where nobody in a group is above the least sum, those outside own all that may move
  pub chain_begins : {room : ℕ} → Quiet I p group cut x → chain_top I * held I x (λ i. leb (group i) 0) ≤ room → Chain I p group cut x room
  unfolding held
  chain_begins q h = settled q (omega (arith, mul-le-mul_left (chain_top I) (count_mono I.m (λ c. above I x p (x c)) (λ c. leb (group (x c)) 0) outside)))
    where
      outside : (c : ℕ) → c < I.m → above I x p (x c) ≡ true → leb (group (x c)) 0 ≡ true
      outside c l e =
          le-leb (group (x c)) 0 (le_of_eq (quiet_outside q (x c) (K.owner c l) (is_above I x p (x c) e)))

  -- when 2b ends, all is settled
  pub chain_ends : {room : ℕ} → Chain I p group cut x room → due2b I x p ≡ false → Quiet I p group cut x
  chain_ends (settled q r) idle = q
  chain_ends (carrying u t l r) idle =
      absurd (clash (is_due I x p S.some t u (omega (arith, l.distance)) l.carrier l.near l.carries) idle)
