-- The opening: that what the argument needs of one brings the core invariant, and that Algorithm 1's opening has it.
-- Assumes nothing.
use Prim.Native.Nat.{ℕ, zero, suc, ◌+◌, ◌*◌, ◌<◌}
use mathlib.Core.Bool.{Bool, true, false, cond, not, ◌&&◌}
use mathlib.Core.List.{[], ◌∷◌, ◌++◌}
use mathlib.Core.Path.{◌≡◌, refl, sym, ap, ap₂, ◌∙◌}
use native.Mathlib.Omega.{arith}
use lib.Dec.{ltb}
use lib.ListN.{length, get_or, length-replicate, get_or-replicate}
use Rattle.finite.specs.Sums.{sum_where, count_to}
use Rattle.finite.specs.Search.{any_below, first_below, Hit}
use Rattle.finite.specs.Lists.{tabulate, Picks}
use Rattle.finite.proofs.Tests.{by_test, clash, and_intro, or_left, or_right, not_on, cond-not}
use Rattle.finite.proofs.Search.{any_elim, first_some, first_passes}
use Rattle.finite.proofs.Lists.{tab_length, tab_at}
use Rattle.finite.proofs.Chosen.{chosen_cong}
use Rattle.finite.proofs.Running.{smallest_some}
use Rattle.model.specs.Instance.{Instance, owner_of, price_of}
use Rattle.model.specs.Fairness.{bundle_size, total}
use Rattle.model.specs.Algorithm.{fewest, opens_with, opened_before, opening_owner, opening_price, opening, owner, price, group, is_entitled}
use Rattle.welfare.proofs.Domination.{total_cong}
use Rattle.algorithm.specs.Kinds.{Sound, dear, ok, level, kind_price}
use Rattle.algorithm.specs.Core.{Core}
use Rattle.algorithm.specs.Opened.{Opened}

easy_ok : (I : Instance) (i c : ℕ) → I.easy i c ≡ true → ok I i c ≡ true
unfolding ok
easy_ok I i c e = or_left (dear I c) e

module _ {I : Instance} {x p : ℕ → ℕ} (o : Opened I x p) where
  opened_ok : (c : ℕ) → c < I.m → ok I (x c) c ≡ true
  unfolding ok dear
  opened_ok c h =
      by_test (any_below I.n (λ i. I.easy i c))
      (λ e. or_left (dear I c) (o.easy_where_can c h e))
      (λ e. or_right (I.easy (x c) c) (not_on e))

  opened_price : (c : ℕ) → c < I.m → p c ≡ kind_price I false c
  unfolding opening_price kind_price level dear
  opened_price c h = o.priced c h ∙ sym (cond-not (any_below I.n (λ i. I.easy i c)) (I.b * I.b) (I.a * I.b))

  -- with no groups and no entitled chores, an opening has the core invariant
  pub core_opened : {group : ℕ → ℕ} {cut : ℕ → Bool} → Sound I → ((i : ℕ) → i < I.n → group i ≡ 0) → ((c : ℕ) → c < I.m → cut c ≡ false) → Core I x p group cut
  core_opened {group} {cut} S free uncut =
      record {
        owner = o.owned;
        priced = λ c h. rw (uncut c h) (opened_price c h);
        cut_in_group = λ c h e. absurd (clash e (uncut c h));
        cut_ok = λ c h e. opened_ok c h;
        free_ok = λ c h e g. opened_ok c h;
        group_takes_all = λ i h g. absurd (omega (arith, free i h));
        has_free = λ i h g some. found i (S.likes i h some);
        has_cut = λ i h g. absurd (omega (arith, free i h));
      }
    where
      found : (i : ℕ) → Hit I.m (λ c. I.easy i c) → Hit I.m (λ c. not (cut c) && ok I i c)
      found i e =
          record {
            index = e.index;
            below = e.below;
            passes = and_intro (not_on (uncut e.index e.below)) (easy_ok I i e.index e.passes);
          }

-- a chore's opening goes by the owners of the chores before it alone
module _ {x y : ℕ → ℕ} (c : ℕ) (same : (d : ℕ) → d < c → x d ≡ y d) where
  size_cong : (i : ℕ) → bundle_size c x i ≡ bundle_size c y i
  unfolding bundle_size count_to total sum_where
  size_cong i = total_cong c x y (λ d. 1) i same

  opens_cong : (I : Instance) → opens_with I x c ≡ opens_with I y c
  unfolding opens_with fewest
  opens_cong I =
      ap (cond (any_below I.n (λ i. I.easy i c)) (first_below I.n (λ i. I.easy i c)))
      (chosen_cong I.n (λ i l. refl) (λ j i k l. ap₂ ltb (size_cong j) (size_cong i)))

-- Algorithm 1's opening
module _ (I : Instance) where
  opened_before_lem : (c : ℕ) → opened_before I c ≡ tabulate c (opening_owner I)
  unfolding opened_before opening_owner tabulate
  opened_before_lem zero = refl
  opened_before_lem (suc c) = ap (λ xs. xs ++ (opening_owner I c ∷ [])) (opened_before_lem c)

  -- its recursion: each chore goes by the owners that the opening gives those before it
  pub opens_after : (c : ℕ) → opening_owner I c ≡ opens_with I (opening_owner I) c
  unfolding opening_owner
  opens_after c = opens_cong c (λ d l. ap (λ xs. get_or xs d 0) (opened_before_lem c) ∙ tab_at (opening_owner I) d 0 l) I

  pub opening_owner_lem : (c : ℕ) → c < I.m → owner I (opening I) c ≡ opening_owner I c
  unfolding opening owner_of
  opening_owner_lem c h = omega (arith, tab_at (λ c. opening_owner I c + 1) c 0 h)

  pub opening_price_lem : (c : ℕ) → c < I.m → price I (opening I) c ≡ opening_price I c
  unfolding opening price_of
  opening_price_lem c h = tab_at (opening_price I) c 0 h

  pub opening_group : (i : ℕ) → i < I.n → group I (opening I) i ≡ 0
  unfolding opening group
  opening_group i h = get_or-replicate I.n i 0 0 h

  pub opening_entitled : (c : ℕ) → c < I.m → is_entitled I (opening I) c ≡ false
  unfolding opening is_entitled
  opening_entitled c h = rw (get_or-replicate {A = ℕ} I.m c 0 0 h)

  pub opening_owners_length : length (opening I).owners ≡ I.m
  unfolding opening
  opening_owners_length = tab_length I.m (λ c. opening_owner I c + 1)

  pub opening_prices_length : length (opening I).prices ≡ I.m
  unfolding opening
  opening_prices_length = tab_length I.m (opening_price I)

  pub opening_groups_length : length (opening I).groups ≡ I.n
  unfolding opening
  opening_groups_length = length-replicate I.n 0

  pub opening_entitled_length : length (opening I).entitled ≡ I.m
  unfolding opening
  opening_entitled_length = length-replicate I.m 0

  owner_easy : (c : ℕ) → any_below I.n (λ i. I.easy i c) ≡ true → (opening_owner I c < I.n) × (I.easy (opening_owner I c) c ≡ true)
  unfolding opening_owner opens_with
  owner_easy c e =
      let t : ℕ → Bool = λ i. I.easy i c in
      let r = any_elim I.n t e in
      let l = first_some t r.index r.below r.passes in
      rw e (l, first_passes I.n t l)

  pub opening_below : (c : ℕ) → 0 < I.n → opening_owner I c < I.n
  unfolding opening_owner opens_with fewest
  opening_below c some =
      by_test (any_below I.n (λ i. I.easy i c)) (λ e. (owner_easy c e).0)
      (λ e. rw e (smallest_some (bundle_size c (λ d. get_or (opened_before I c) d 0)) some))

  pub opening_picks : 0 < I.n → Picks I.n I.m (opening I).owners
  unfolding opening
  opening_picks some =
      record {
        size = opening_owners_length;
        positive = λ c h. omega (arith, tab_at (λ c. opening_owner I c + 1) c 0 h);
        bounded = λ c h. omega (arith, tab_at (λ c. opening_owner I c + 1) c 0 h, opening_below c some);
      }

  pub opening_opened : 0 < I.n → Opened I (owner I (opening I)) (price I (opening I))
  opening_opened some =
      record {
        owned = λ c h. rw (opening_owner_lem c h) (opening_below c some);
        priced = opening_price_lem;
        easy_where_can = λ c h e. rw (opening_owner_lem c h) (owner_easy c e).1;
      }
