-- The first pair, by i and then by j, that passes a test.
-- Assumes nothing.
use Prim.Native.Nat.{ℕ, ◌≤◌, ◌<◌}
use mathlib.Core.Bool.{Bool, true, false}
use mathlib.Core.Path.{◌≡◌, ap, ◌∙◌}
use native.Mathlib.Nat.{lt_of_lt_of_le}
use Rattle.finite.specs.Search.{any_below, first_below}
use Rattle.finite.proofs.Search.{any_elim, any_intro, any_none, any_none_intro, any_cong, first_some, first_unique, first_passes, first_before, first_none_intro, first_cong}
use Rattle.model.specs.Verdicts.{first_of_pair, second_of_pair}

-- (i, j) passes, and no pair before it does
pub record FirstPair (n : ℕ) (t : ℕ → ℕ → Bool) (i j : ℕ) : Type 0 where
  pub left : i < n
  pub right : j < n
  pub passes : t i j ≡ true
  pub earlier : (k l : ℕ) → k < i → l < n → t k l ≡ false
  pub before : (l : ℕ) → l < j → t i l ≡ false

module _ (n : ℕ) (t : ℕ → ℕ → Bool) where
  pub pair_found : first_of_pair n t < n → FirstPair n t (first_of_pair n t) (second_of_pair n t)
  unfolding first_of_pair second_of_pair
  pair_found l =
      let row : ℕ → Bool = λ i. any_below n (λ j. t i j) in
      let r = any_elim n (λ j. t (first_of_pair n t) j) (first_passes n row l) in
      let k = first_some (λ j. t (first_of_pair n t) j) r.index r.below r.passes in
      record {
        left = l;
        right = k;
        passes = first_passes n (λ j. t (first_of_pair n t) j) k;
        earlier = λ i j g. any_none n (λ j. t i j) (first_before n row i g) j;
        before = first_before n (λ j. t (first_of_pair n t) j);
      }

  pub pair_none : ((i j : ℕ) → i < n → j < n → t i j ≡ false) → first_of_pair n t ≡ n
  unfolding first_of_pair
  pair_none all = first_none_intro n (λ i. any_below n (λ j. t i j)) (λ i l. any_none_intro n (λ j. t i j) (λ j. all i j l))

  pub pair_none_elim : n ≤ first_of_pair n t → (i j : ℕ) → i < n → j < n → t i j ≡ false
  unfolding first_of_pair
  pair_none_elim all i j l k =
      any_none n (λ j. t i j) (first_before n (λ i. any_below n (λ j. t i j)) i (lt_of_lt_of_le l all)) j k

-- tests that say the same of numbers below n have the same first pair
module _ (n : ℕ) {t u : ℕ → ℕ → Bool} (same : (i j : ℕ) → i < n → j < n → t i j ≡ u i j) where
  pub pair_cong : first_of_pair n t ≡ first_of_pair n u
  unfolding first_of_pair
  pair_cong = first_cong n (λ i l. any_cong n (λ j k. same i j l k))

  pub second_cong : first_of_pair n t < n → second_of_pair n t ≡ second_of_pair n u
  unfolding second_of_pair
  second_cong l =
      first_cong n (λ j k. same (first_of_pair n t) j l k)
      ∙ ap (λ i. first_below n (λ j. u i j)) pair_cong

-- what a search through the pairs establishes is the first pair
pub pair_first : {n : ℕ} {t : ℕ → ℕ → Bool} {i j : ℕ} → FirstPair n t i j → first_of_pair n t ≡ i
unfolding first_of_pair
pair_first {n} {t} {i} {j} f =
    first_unique (record {
      below = f.left;
      passes = any_intro (λ j. t i j) j f.right f.passes;
      before = λ k l. any_none_intro n (λ j. t k j) (λ j. f.earlier k j l);
    })

pub pair_second : {n : ℕ} {t : ℕ → ℕ → Bool} {i j : ℕ} → FirstPair n t i j → second_of_pair n t ≡ j
unfolding second_of_pair
pair_second {n} {t} {i} {j} f =
    ap (λ i. first_below n (λ j. t i j)) (pair_first f)
    ∙ first_unique (record { below = f.right; passes = f.passes; before = f.before })
