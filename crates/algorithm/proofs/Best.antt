-- What `best` means under the core invariant, and what the prices are.
-- Assumes nothing.
use Prim.Native.Nat.{ℕ, ◌+◌, ◌*◌, ◌≤◌, ◌<◌}
use mathlib.Core.Bool.{Bool, true, false, cond, not, ◌&&◌, ◌||◌}
use mathlib.Core.Logic.{◌⊎◌, inl, inr}
use mathlib.Core.Path.{◌≡◌, refl, sym, ap, ◌∙◌}
use native.Mathlib.Nat.{mul-le-mul, mul-le-mul_left, le_refl, le_of_eq}
use native.Mathlib.Omega.{arith}
use lib.Dec.{leb, ltb}
use borrow.Author.Tests.{leb-true, le-leb, lt-leb, eq-eqb, ne_eqb, ltb-true, not-true}
use Rattle.finite.specs.Search.{all_below, Hit}
use Rattle.finite.specs.Moves.{Moves}
use Rattle.finite.proofs.Tests.{by_test, clash, bool_eq, not_yes, and_elim, and_intro, or_rest, or_left, or_right, or_none, not_on, not_off, leb_scaled}
use Rattle.finite.proofs.Below.{by_less}
use Rattle.finite.proofs.Search.{any_intro, all_elim, all_intro, all_cong}
use Rattle.finite.proofs.Extremes.{Top}
use Rattle.finite.proofs.Moves.{moves_each}
use Rattle.model.specs.Instance.{Instance, cost}
use Rattle.model.specs.Prices.{best, ratio_at_most}
use Rattle.algorithm.specs.Kinds.{Sound, dear, ok, level, kind_price, wanted}
use Rattle.algorithm.specs.Core.{Core}

-- somebody outside the groups owns uncut chores only
pub free_uncut : {I : Instance} {x p group : ℕ → ℕ} {cut : ℕ → Bool} → Core I x p group cut → (c : ℕ) → c < I.m → group (x c) ≡ 0 → cut c ≡ false
free_uncut {cut} K c h g = not_yes (cut c) (λ t. omega (arith, K.cut_in_group c h t))

-- prices are of three kinds
pub three_prices : {I : Instance} {x p group : ℕ → ℕ} {cut : ℕ → Bool} → Core I x p group cut → (c : ℕ) → c < I.m → (p c ≡ I.a * I.a) ⊎ ((p c ≡ I.a * I.b) ⊎ (p c ≡ I.b * I.b))
unfolding kind_price level
three_prices {I} {cut} K c h =
    let e = K.priced c h in
    by_test (cut c)
    (λ q. by_test (dear I c) (λ d. inr (inl (rw (q, d) at e))) (λ d. inl (rw (q, d) at e)))
    (λ q. by_test (dear I c) (λ d. inr (inr (rw (q, d) at e))) (λ d. inr (inl (rw (q, d) at e))))

by_zero {ℓ} : {A : Type ℓ} (g : ℕ) → (g ≡ 0 → A) → (0 < g → A) → A
by_zero g none some = by_less 0 g some (λ h. none (omega arith))

-- cross products of costs and prices compare as the prices per unit of cost
cross : (b k l p q u v : ℕ) → 0 < b → 0 < k * l → b * p ≡ k * u → b * q ≡ l * v → leb (k * q) (l * p) ≡ leb v u
cross b k l p q u v hb hkl e f =
    let left : b * (k * q) ≡ k * l * v = omega (arith, ap (λ s. k * s) f) in
    let right : b * (l * p) ≡ k * l * u = omega (arith, ap (λ s. l * s) e) in
    leb_scaled (k * q) (l * p) v u left right hb hkl

-- whether r is above all of f is whether it is above the greatest
all_top : {n : ℕ} {f : ℕ → ℕ} {l : ℕ} → Top n f l → (r : ℕ) → all_below n (λ i. leb (f i) r) ≡ leb l r
all_top {n} {f} {l} t r =
    bool_eq
    (λ e. let h = all_elim n (λ i. leb (f i) r) e t.index t.below in rw t.value at h)
    (λ e. all_intro n (λ i. leb (f i) r) (λ i h. le-leb (f i) r (omega (arith, t.above i h, leb-true l r e))))

module _ {I : Instance} (S : Sound I) where
  pub squares : (0 < I.a * I.a) × (I.a * I.a < I.a * I.b) × (I.a * I.b < I.b * I.b)
  squares =
      let h : I.a * 1 ≤ I.a * I.a = mul-le-mul_left I.a S.positive in
      let k : I.a * (I.a + 1) ≤ I.a * I.b = mul-le-mul_left I.a (omega (arith, S.easier)) in
      let l : (I.a + 1) * I.b ≤ I.b * I.b = mul-le-mul (omega (arith, S.easier)) (le_refl I.b) in
      (omega arith, omega arith, omega arith)

  level_positive : (k g : Bool) → 0 < level I k g
  unfolding level
  level_positive true true = omega (arith, squares)
  level_positive true false = omega (arith, squares)
  level_positive false true = omega (arith, squares)
  level_positive false false = omega (arith, squares)

  level_bound : (k g : Bool) → level I k g ≤ I.b * I.b
  unfolding level
  level_bound true true = omega (arith, squares)
  level_bound true false = omega (arith, squares)
  level_bound false true = omega (arith, squares)
  level_bound false false = omega (arith, squares)

  -- cut, or not ok
  level_lower : (k g : Bool) → (k ≡ false → g ≡ false) → level I k g ≤ I.a * I.b
  unfolding level
  level_lower true true h = omega (arith, squares)
  level_lower true false h = omega (arith, squares)
  level_lower false true h = absurd (clash refl (h refl))
  level_lower false false h = omega (arith, squares)

  level_high : (k g : Bool) → leb (I.b * I.b) (level I k g) ≡ (not k && g)
  unfolding level
  level_high true true = lt-leb (I.b * I.b) (I.a * I.b) squares.2
  level_high true false = lt-leb (I.b * I.b) (I.a * I.a) (omega (arith, squares))
  level_high false true = le-leb (I.b * I.b) (I.b * I.b) (omega arith)
  level_high false false = lt-leb (I.b * I.b) (I.a * I.b) squares.2

  level_middle : (k g : Bool) → leb (I.a * I.b) (level I k g) ≡ (not k || g)
  unfolding level
  level_middle true true = le-leb (I.a * I.b) (I.a * I.b) (omega arith)
  level_middle true false = lt-leb (I.a * I.b) (I.a * I.a) squares.1
  level_middle false true = le-leb (I.a * I.b) (I.b * I.b) (omega (arith, squares))
  level_middle false false = le-leb (I.a * I.b) (I.a * I.b) (omega arith)

  level-cost : (e d k : Bool) → (e ≡ true → d ≡ false) → I.b * level I k d ≡ cond e I.a I.b * level I k (e || d)
  unfolding level
  level-cost true true k h = absurd (clash refl (h refl))
  level-cost true false true h = omega arith
  level-cost true false false h = omega arith
  level-cost false d k h = refl

module _ {I : Instance} {x p group : ℕ → ℕ} {cut : ℕ → Bool} (S : Sound I) (K : Core I x p group cut) where
  -- the level of chore c for agent i
  abbrev lev : ℕ → ℕ → ℕ
  lev i c = level I (cut c) (ok I i c)

  price_level : (c : ℕ) → c < I.m → p c ≡ level I (cut c) (dear I c)
  unfolding kind_price
  price_level c h = K.priced c h

  easy_not_dear : (i c : ℕ) → i < I.n → I.easy i c ≡ true → dear I c ≡ false
  unfolding dear
  easy_not_dear i c h e = not_off (any_intro (λ j. I.easy j c) i h e)

  -- Lemma best: the price per unit of cost goes by the level alone
  price_cost : (i c : ℕ) → i < I.n → c < I.m → I.b * p c ≡ cost I i c * lev i c
  unfolding cost ok
  price_cost i c hi hc =
      rw (price_level c hc) (level-cost S (I.easy i c) (dear I c) (cut c) (easy_not_dear i c hi))

  cost_positive : (i c : ℕ) → 0 < cost I i c
  unfolding cost
  cost_positive i c = by_test (I.easy i c) (λ e. rw e S.positive) (λ e. rw e (omega (arith, S.easier)))

  ratio_level : (i c d : ℕ) → i < I.n → c < I.m → d < I.m → ratio_at_most I p i c d ≡ leb (lev i d) (lev i c)
  unfolding ratio_at_most
  ratio_level i c d hi hc hd =
      cross I.b (cost I i c) (cost I i d) (p c) (p d) (lev i c) (lev i d)
      (omega (arith, S.easier))
      (mul-le-mul (cost_positive i c) (cost_positive i d))
      (price_cost i c hi hc) (price_cost i d hi hd)

  best_top : (i c l : ℕ) → i < I.n → c < I.m → Top I.m (lev i) l → best I p i c ≡ leb l (lev i c)
  unfolding best
  best_top i c l hi hc t = all_cong I.m (λ d hd. ratio_level i c d hi hc hd) ∙ all_top t (lev i c)

  top_outside : (i : ℕ) → i < I.n → group i ≡ 0 → 0 < I.m → Top I.m (lev i) (I.b * I.b)
  unfolding level
  top_outside i hi g some =
      let h = K.has_free i hi g some in
      let both = and_elim (not (cut h.index)) (ok I i h.index) h.passes in
      record {
        index = h.index;
        below = h.below;
        value = rw (not-true (cut h.index) both.0, both.1);
        above = λ c l. level_bound S (cut c) (ok I i c);
      }

  top_inside : (i : ℕ) → i < I.n → 0 < group i → 0 < I.m → Top I.m (lev i) (I.a * I.b)
  unfolding level
  top_inside i hi g some =
      let h = K.has_cut i hi g some in
      let both = and_elim (cut h.index) (ok I i h.index) h.passes in
      record {
        index = h.index;
        below = h.below;
        value = rw (both.0, both.1);
        above = λ c l. level_lower S (cut c) (ok I i c) (K.group_takes_all i hi g c l);
      }

  pub best_outside : (i c : ℕ) → i < I.n → group i ≡ 0 → c < I.m → best I p i c ≡ (not (cut c) && ok I i c)
  best_outside i c hi g hc =
      best_top i c (I.b * I.b) hi hc (top_outside i hi g (omega arith))
      ∙ level_high S (cut c) (ok I i c)

  pub best_inside : (i c : ℕ) → i < I.n → 0 < group i → c < I.m → best I p i c ≡ (not (cut c) || ok I i c)
  best_inside i c hi g hc =
      best_top i c (I.a * I.b) hi hc (top_inside i hi g (omega arith))
      ∙ level_middle S (cut c) (ok I i c)

  pub best-wanted : (i c : ℕ) → i < I.n → c < I.m → best I p i c ≡ wanted I group cut i c
  unfolding wanted
  best-wanted i c hi hc =
      by_zero (group i)
      (λ g. rw (eq-eqb (group i) 0 g) (best_outside i c hi g hc))
      (λ g. rw (ne_eqb (group i) 0 (omega arith)) (best_inside i c hi g hc))

  pub owner_best : (c : ℕ) → c < I.m → best I p (x c) c ≡ true
  owner_best c h =
      by_test (cut c)
      (λ e. best_inside (x c) c (K.owner c h) (K.cut_in_group c h e) h ∙ or_right (not (cut c)) (K.cut_ok c h e))
      (λ e. by_zero (group (x c))
      (λ g. best_outside (x c) c (K.owner c h) g h ∙ and_intro (not_on e) (K.free_ok c h e g))
      (λ g. best_inside (x c) c (K.owner c h) g h ∙ or_left (ok I (x c) c) (not_on e)))

  -- a member of a group finds each uncut chore best
  pub uncut_best : (i c : ℕ) → i < I.n → 0 < group i → c < I.m → cut c ≡ false → best I p i c ≡ true
  uncut_best i c hi g hc f = best_inside i c hi g hc ∙ or_left (ok I i c) (not_on f)

  -- outside the groups a best chore is uncut
  pub best_uncut : (i c : ℕ) → i < I.n → group i ≡ 0 → c < I.m → best I p i c ≡ true → cut c ≡ false
  best_uncut i c hi g hc b =
      not-true (cut c) (and_elim (not (cut c)) (ok I i c) (sym (best_outside i c hi g hc) ∙ b)).0

  -- a chore that nobody finds easy, uncut, is best for everybody
  pub dear-best : (i c : ℕ) → i < I.n → c < I.m → cut c ≡ false → dear I c ≡ true → best I p i c ≡ true
  unfolding ok
  dear-best i c hi hc f d =
      by_zero (group i)
      (λ g. best_outside i c hi g hc ∙ and_intro (not_on f) (or_right (I.easy i c) d))
      (λ g. uncut_best i c hi g hc f)

  pub price_positive : (c : ℕ) → c < I.m → 0 < p c
  price_positive c h = rw (price_level c h) (level_positive S (cut c) (dear I c))

  pub price_bound : (c : ℕ) → c < I.m → p c ≤ I.b * I.b
  price_bound c h = rw (price_level c h) (level_bound S (cut c) (dear I c))

  none_dear : Hit I.n (λ i. ltb 0 (group i)) → (c : ℕ) → c < I.m → cut c ≡ false → dear I c ≡ false
  unfolding ok
  none_dear h c hc f =
      (or_none (I.easy h.index c) (dear I c)
      (K.group_takes_all h.index h.below (ltb-true 0 (group h.index) h.passes) c hc f)).1

  -- the least price of an uncut chore
  pub uncut_price : (c : ℕ) → c < I.m → cut c ≡ false → dear I c ≡ false → p c ≡ I.a * I.b
  unfolding level
  uncut_price c hc f d = rw (price_level c hc, f, d)

  pub uncut_least : (c : ℕ) → c < I.m → cut c ≡ false → I.a * I.b ≤ p c
  unfolding level
  uncut_least c hc f =
      by_test (dear I c) (λ d. rw (price_level c hc, f, d) (omega (arith, squares S))) (λ d. le_of_eq (sym (uncut_price c hc f d)))

  -- once there is a group, uncut chores have one price, and none is dearer
  pub one_price : Hit I.n (λ i. ltb 0 (group i)) → (c : ℕ) → c < I.m → cut c ≡ false → p c ≡ I.a * I.b
  one_price h c hc f = uncut_price c hc f (none_dear h c hc f)

  pub none_dearer : Hit I.n (λ i. ltb 0 (group i)) → (c : ℕ) → c < I.m → p c ≤ I.a * I.b
  none_dearer h c hc =
      rw (price_level c hc) (level_lower S (cut c) (dear I c) (none_dear h c hc))

  -- a chore that goes to somebody who finds it best leaves the core invariant as it is
  pub core_moved : {y : ℕ → ℕ} {k w u : ℕ} → Moves I.m x y k w u → u < I.n → best I p u k ≡ true → Core I y p group cut
  core_moved {y} {k} {u} v hu b =
      record {
        owner = moves_each v (λ c o. o < I.n) hu K.owner;
        priced = K.priced;
        cut_in_group = moves_each v (λ c o. cut c ≡ true → 0 < group o) grouped K.cut_in_group;
        cut_ok = moves_each v (λ c o. cut c ≡ true → ok I o c ≡ true) cut_ok K.cut_ok;
        free_ok = moves_each v (λ c o. cut c ≡ false → group o ≡ 0 → ok I o c ≡ true) free-ok K.free_ok;
        group_takes_all = K.group_takes_all;
        has_free = K.has_free;
        has_cut = K.has_cut;
      }
    where
      grouped : cut k ≡ true → 0 < group u
      grouped e =
          by_zero (group u) (λ g. absurd (clash e (best_uncut u k hu g v.below b))) (λ g. g)

      cut_ok : cut k ≡ true → ok I u k ≡ true
      cut_ok e = or_rest (ok I u k) (sym (best_inside u k hu (grouped e) v.below) ∙ b) (not_off e)

      free-ok : cut k ≡ false → group u ≡ 0 → ok I u k ≡ true
      free-ok e g = (and_elim (not (cut k)) (ok I u k) (sym (best_outside u k hu g v.below) ∙ b)).1
