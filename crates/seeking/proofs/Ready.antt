-- What a turn of the loop has at hand, in the terms of the lists.
-- Assumes nothing.
use Prim.Native.Nat.{ℕ, ◌*◌, ◌≤◌, ◌<◌}
use mathlib.Core.Bool.{Bool, true}
use mathlib.Core.List.{List}
use mathlib.Core.Path.{◌≡◌, refl, sym, ap, ap₂, ◌∙◌}
use native.Mathlib.Nat.{le_refl, le_trans, mul-le-mul}
use native.Mathlib.Omega.{arith}
use lib.Dec.{ltb}
use lib.ListN.{length, get_or}
use Rattle.finite.specs.Bits.{bit}
use Rattle.finite.specs.Sums.{min_to}
use Rattle.finite.specs.Search.{any_below, first_below}
use Rattle.finite.proofs.Bits.{bit_zero}
use Rattle.finite.proofs.Search.{any_intro, any_cong, first_none_intro}
use Rattle.finite.proofs.Extremes.{low_cong}
use Rattle.model.specs.Limits.{max_agents, max_price, max_weight}
use Rattle.model.specs.Instance.{owner_of, price_of}
use Rattle.model.specs.Sheet.{agents_of, chores_of, difficult_weight, as_read}
use Rattle.model.specs.Prices.{price_sum, price_up_to_one}
use Rattle.model.specs.Step2b.{least_sum, above}
use Rattle.sheet.specs.Valid.{Valid}
use Rattle.algorithm.specs.Core.{Core}
use Rattle.algorithm.proofs.Best.{price_bound}
use Rattle.algorithm.proofs.Reading.{read_sound}
use Rattle.algorithm.proofs.Rings.{above_is, due_found}
use Rattle.totals.specs.Totals.{Held, Summed}
use Rattle.firsts.specs.Table.{Listed}
use Rattle.rings.specs.Search.{Searched}
use Rattle.rings.proofs.Found.{receiver_is}
use Rattle.seeking.specs.Looks.{Ready, Look}

-- prices are at most 1,000,000
price_fits : {s : List ℕ} {x p group : ℕ → ℕ} {cut : ℕ → Bool} → Valid s → Core (as_read s) x p group cut → (c : ℕ) → c < chores_of s → p c ≤ max_price
unfolding as_read
price_fits {s} v K c h =
    let square : difficult_weight s * difficult_weight s ≤ max_weight * max_weight = mul-le-mul v.weight_fits v.weight_fits in
    le_trans (price_bound (read_sound v) K c h) square

module _ {s owners prices groups entitled likes : List ℕ} (R : Ready s owners prices groups entitled likes) where
  owner_below : (c : ℕ) → c < chores_of s → owner_of owners c < agents_of s
  unfolding as_read
  owner_below c h = R.core.owner c h

  known : (c : ℕ) → c < chores_of s → get_or owners c 0 ≤ agents_of s
  unfolding owner_of
  known c h = omega (arith, owner_below c h, R.numbered c h)

  pub held : Held owners prices
  unfolding price_of
  held =
      record {
        chores = omega (arith, R.owners_sized, R.valid.chores_fit);
        prices_sized = R.prices_sized ∙ sym R.owners_sized;
        numbered = λ c h. R.numbered c (rw R.owners_sized at h);
        known = λ c h. le_trans (known c (rw R.owners_sized at h)) R.valid.agents_fit;
        bounded = λ c h. price_fits R.valid R.core c (rw R.owners_sized at h);
      }

  -- the lists of the chores, with owners up to n, and so up to 32
  pub listed : Listed (agents_of s) owners prices entitled likes
  unfolding as_read
  listed =
      record {
        agents = R.valid.agents_fit;
        chores = held.chores;
        prices_sized = held.prices_sized;
        entitled_sized = R.entitled_sized ∙ sym R.owners_sized;
        likes_sized = R.liking.likes_sized ∙ sym R.owners_sized;
        numbered = held.numbered;
        known = λ c h. known c (rw R.owners_sized at h);
      }

  pub listed_most : Listed max_agents owners prices entitled likes
  listed_most =
      let L = listed in
      record {
        agents = le_refl max_agents;
        chores = L.chores;
        prices_sized = L.prices_sized;
        entitled_sized = L.entitled_sized;
        likes_sized = L.likes_sized;
        numbered = L.numbered;
        known = held.known;
      }

  module _ {sums ups : List ℕ} (T : Summed (agents_of s) owners prices sums ups) where
    pub sum_is : (i : ℕ) → i < agents_of s → get_or sums i 0 ≡ price_sum (chores_of s) (owner_of owners) (price_of prices) i
    sum_is i h = T.sum.entry i (omega (arith, R.valid.agents_fit)) ∙ ap (λ m. price_sum m (owner_of owners) (price_of prices) i) R.owners_sized

    pub up_is : (i : ℕ) → i < agents_of s → get_or ups i 0 ≡ price_up_to_one (chores_of s) (owner_of owners) (price_of prices) i
    up_is i h = T.up i h ∙ ap (λ m. price_up_to_one m (owner_of owners) (price_of prices) i) R.owners_sized

    pub least_is_lem : {n least : ℕ} → n ≡ agents_of s → least ≡ min_to n (λ i. get_or sums i 0) → least ≡ least_sum (as_read s) (owner_of owners) (price_of prices)
    unfolding as_read least_sum
    least_is_lem agents e = e ∙ rw agents (low_cong (agents_of s) sum_is)

    pub any_is_lem : {n least : ℕ} {any : Bool} → n ≡ agents_of s → least ≡ min_to n (λ i. get_or sums i 0) → any ≡ any_below n (λ i. ltb least (get_or ups i 0)) → any ≡ any_below (agents_of s) (above (as_read s) (owner_of owners) (price_of prices))
    unfolding as_read above
    any_is_lem agents e q = q ∙ rw agents (any_cong (agents_of s) (λ i h. ap₂ ltb (least_is_lem agents e) (up_is i h)))

  -- what the search of 2b found: the giver is above the least sum, and the lowest of the takers is an agent
  module _ {giver takers : ℕ} {lent scratch : List ℕ} (F : Searched (as_read s) (owner_of owners) (price_of prices) giver takers lent scratch) where
    module _ (some : giver < agents_of s) where
      giver_above : any_below (agents_of s) (above (as_read s) (owner_of owners) (price_of prices)) ≡ true
      unfolding as_read
      giver_above =
          let due = due_found (as_read s) (owner_of owners) (price_of prices) R.valid.some_agent (F.due some) in
          any_intro (above (as_read s) (owner_of owners) (price_of prices)) _ due.giver (above_is (as_read s) (owner_of owners) (price_of prices) _ due.giver_above)

      pub taker_some : first_below (agents_of s) (bit takers) < agents_of s
      unfolding as_read
      taker_some =
          let due = due_found (as_read s) (owner_of owners) (price_of prices) R.valid.some_agent (F.due some) in
          rw (receiver_is F some) due.receiver

      -- so a move is due
      pub looked : {u : ℕ} → length scratch ≡ length lent → u ≡ first_below (agents_of s) (bit takers) → Look s owners prices giver u u true lent scratch
      looked size e = record { size = size; takers = takers; searched = F; receives = e; sought_is = refl; any_is = sym giver_above }

  -- or nobody
  pub looked_none : {any : Bool} {lent scratch : List ℕ} → length scratch ≡ length lent → Searched (as_read s) (owner_of owners) (price_of prices) (agents_of s) 0 lent scratch → any ≡ any_below (agents_of s) (above (as_read s) (owner_of owners) (price_of prices)) → Look s owners prices (agents_of s) (agents_of s) (agents_of s) any lent scratch
  looked_none size F e =
      record { size = size; takers = 0; searched = F; receives = sym (first_none_intro (agents_of s) (bit 0) (λ i l. bit_zero i)); sought_is = refl; any_is = e }
