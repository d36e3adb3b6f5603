-- Laws for the loop that opens the chores one by one.
use Prim.Native.Nat.{ℕ, ◌+◌, ◌*◌, ◌≤◌, ◌<◌}
use mathlib.Core.Bool.{true, false, not, or-false}
use mathlib.Core.List.{List}
use mathlib.Core.Path.{◌≡◌, refl, sym, ap, ap₂, ◌∙◌}
use native.Mathlib.Numerals.{add-one}
use native.Mathlib.Omega.{arith}
use lib.Bits.{bit_or}
use lib.Dec.{eqb, ltb}
use lib.ListN.{length, get_or, set, take, replicate, length-set}
use lib.Seq.{get_or-set_same, get_or-set_other}
use borrow.Author.Tests.{eq-eqb, ne_eqb}
use Rattle.finite.specs.Bits.{SetOf}
use Rattle.finite.specs.Lists.{tabulate, Table}
use Rattle.finite.specs.Search.{any_below}
use Rattle.finite.specs.Sums.{sum_where, count_to}
use Rattle.finite.proofs.Tests.{or_right, cond_true, cond_false}
use Rattle.finite.proofs.Below.{none_below, by_top, by_same}
use Rattle.finite.proofs.Bits.{set_cong, set_some, set_or}
use Rattle.finite.proofs.Lists.{fill_zero, fill_next, fill_done}
use Rattle.finite.proofs.Search.{first_cong}
use Rattle.finite.proofs.Chosen.{chosen_cong}
use Rattle.finite.proofs.Counts.{count_le}
use Rattle.finite.proofs.Sweeps.{sums_none, sums_next}
use Rattle.model.specs.Limits.{max_agents}
use Rattle.model.specs.Sheet.{agents_of, chores_of, easy_weight, difficult_weight, marks_easy, all_difficult, as_read}
use Rattle.model.specs.Fairness.{owns, bundle_size}
use Rattle.model.specs.Algorithm.{fewest, opens_with, opening_owner, opening_price}
use Rattle.algorithm.specs.Kinds.{dear, ok}
use Rattle.algorithm.proofs.Opening.{opens_after}
use Rattle.opening.specs.Opened.{Marked, OpensWith, Opened}

-- The price with which chore c opens, and the agents for whom it is ok.
pub record OpensAt (s : List ℕ) (c price likes : ℕ) : Type 0 where
  pub priced : price ≡ opening_price (as_read s) c
  pub liked : SetOf (agents_of s) likes (λ i. ok (as_read s) i c)

module _ (s : List ℕ) (c : ℕ) {easy : ℕ} (found : SetOf (agents_of s) easy (λ i. (as_read s).easy i c)) where
  some_easy : any_below (agents_of s) (λ i. (as_read s).easy i c) ≡ not (eqb easy 0)
  some_easy = set_some found

  none : easy ≡ 0 → any_below (agents_of s) (λ i. (as_read s).easy i c) ≡ false
  none z = some_easy ∙ ap not (eq-eqb easy 0 z)

  some : (easy ≡ 0 → ⊥) → any_below (agents_of s) (λ i. (as_read s).easy i c) ≡ true
  some z = some_easy ∙ ap not (ne_eqb easy 0 z)

  pub owner_opens : {counts : List ℕ} {owner : ℕ} → agents_of s ≤ max_agents → Table max_agents (bundle_size c (opening_owner (as_read s))) counts → OpensWith (agents_of s) easy counts owner → owner ≡ opening_owner (as_read s) c
  unfolding opens_with fewest as_read
  owner_opens {counts} few t is =
      let count : (i : ℕ) → i < agents_of s → get_or counts i 0 ≡ bundle_size c (opening_owner (as_read s)) i = λ i l. t.entry i (omega arith) in
      by_same easy 0
      (λ z. is.dear z ∙ chosen_cong (agents_of s) (λ i l. refl) (λ j i k l. ap₂ ltb (count j k) (count i l)) ∙ sym (cond_false _ _ (none z)))
      (λ z. is.easy_for z ∙ first_cong (agents_of s) found.member ∙ sym (cond_true _ _ (some z)))
      ∙ sym (opens_after (as_read s) c)

  -- nobody finds the chore easy
  pub opens_dear : {b all : ℕ} → easy ≡ 0 → b ≡ difficult_weight s → SetOf (agents_of s) all (λ i. true) → OpensAt s c (b * b) all
  unfolding opening_price ok dear as_read
  opens_dear {b} {all} z w everyone =
      record {
        priced = rw (none z, w);
        liked = set_cong (λ i l. sym (rw (none z) (or_right ((as_read s).easy i c) refl))) everyone;
      }

  -- somebody does
  pub opens_easy : {a b : ℕ} → (easy ≡ 0 → ⊥) → a ≡ easy_weight s → b ≡ difficult_weight s → OpensAt s c (a * b) easy
  unfolding opening_price ok dear as_read
  opens_easy {a} {b} z v w =
      record {
        priced = rw (some z, v, w);
        liked = set_cong (λ i l. sym (rw (some z) (or-false ((as_read s).easy i c)))) found;
      }

-- the first k chores are opened
pub record Opens (s : List ℕ) (k : ℕ) (counts owners prices likes : List ℕ) : Type 0 where
  -- how many of them each agent holds
  pub counted : Table max_agents (bundle_size k (opening_owner (as_read s))) counts
  pub owners_sized : length owners ≡ chores_of s
  pub prices_sized : length prices ≡ chores_of s
  pub likes_sized : length likes ≡ chores_of s
  pub opens_owners : take k owners ≡ tabulate k (λ c. opening_owner (as_read s) c + 1)
  pub opens_prices : take k prices ≡ tabulate k (opening_price (as_read s))
  pub liked : (c : ℕ) → c < k → SetOf (agents_of s) (get_or likes c 0) (λ i. ok (as_read s) i c)
  -- and for each of the others the agents who mark it easy
  pub marked : (c : ℕ) → k ≤ c → c < chores_of s → SetOf (agents_of s) (get_or likes c 0) (λ i. marks_easy s i c)

module _ {s counts owners prices likes : List ℕ} where
  pub opens_none : counts ≡ replicate max_agents 0 → length owners ≡ chores_of s → length prices ≡ chores_of s → Marked s (agents_of s) 0 likes → Opens s 0 counts owners prices likes
  unfolding bundle_size owns count_to sum_where
  opens_none z o p l =
      record {
        counted = sums_none (opening_owner (as_read s)) (λ d. 1) z;
        owners_sized = o;
        prices_sized = p;
        likes_sized = l.likes_sized;
        opens_owners = fill_zero _ owners;
        opens_prices = fill_zero _ prices;
        liked = λ c h. none_below h;
        marked = l.ahead;
      }

  -- the agents who find the next chore easy: those who mark it so, and those whose row is all difficult
  pub easy_next : {k all : ℕ} → Opens s k counts owners prices likes → k < chores_of s → SetOf (agents_of s) all (all_difficult s) → SetOf (agents_of s) (bit_or (get_or likes k 0) all) (λ i. (as_read s).easy i k)
  unfolding as_read
  easy_next {k} d l rows = set_or (d.marked k (omega arith) l) rows

  -- nobody holds more than the chores opened
  pub count_room : {k i : ℕ} → Opens s k counts owners prices likes → i < max_agents → get_or counts i 0 ≤ k
  unfolding bundle_size
  count_room {k} {i} d l = rw (d.counted.entry i l) (count_le k (owns (opening_owner (as_read s)) i))

  pub opens_next : {k owner price word : ℕ} → Opens s k counts owners prices likes → k < chores_of s → owner ≡ opening_owner (as_read s) k → owner < max_agents → OpensAt s k price word → Opens s (k + 1) (set counts owner (get_or counts owner 0 + 1)) (set owners k (owner + 1)) (set prices k price) (set likes k word)
  unfolding bundle_size owns count_to sum_where
  opens_next {k} {owner} {price} {word} d h is few w =
      record {
        counted = sums_next (opening_owner (as_read s)) (λ d. 1) (sym is) d.counted few refl;
        owners_sized = length-set owners k (owner + 1) ∙ d.owners_sized;
        prices_sized = length-set prices k price ∙ d.prices_sized;
        likes_sized = length-set likes k word ∙ d.likes_sized;
        opens_owners = fill_next _ owners (rw d.owners_sized h) (ap (λ i. i + 1) is) d.opens_owners;
        opens_prices = fill_next _ prices (rw d.prices_sized h) w.priced d.opens_prices;
        liked =
            λ c l. by_top (rw add-one at l)
            (λ q. rw (q, get_or-set_same likes k word 0 (rw d.likes_sized h)) w.liked)
            (λ m. rw (get_or-set_other likes k c word 0 (λ q. omega arith)) (d.liked c m));
        marked = λ c l m. rw (get_or-set_other likes k c word 0 (λ q. omega arith)) (d.marked c (omega arith) m);
      }

  pub opens_all : Opens s (chores_of s) counts owners prices likes → Opened s owners prices likes
  unfolding as_read
  opens_all d =
      record {
        opens_owners = fill_done _ owners d.owners_sized d.opens_owners;
        opens_prices = fill_done _ prices d.prices_sized d.opens_prices;
        liking = record { likes_sized = d.likes_sized; liked = d.liked };
      }
