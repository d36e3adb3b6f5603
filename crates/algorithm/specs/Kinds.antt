-- The kinds of chores, and the price that each kind has before and after its cut.
use Rattle.std.specs.Prelude.{ℕ, ◌*◌, ◌<◌, Bool, cond, not, ◌&&◌, ◌||◌, eqb}
use Rattle.finite.specs.Search.{any_below, Hit}
use Rattle.model.specs.Instance.{Instance}

-- What the argument needs of an instance. `likes` is what the row reading is for.
pub record Sound (I : Instance) : Type 0 where
  pub some : 0 < I.n
  pub positive : 0 < I.a
  pub easier : I.a < I.b
  pub likes : (i : ℕ) → i < I.n → 0 < I.m → Hit I.m (λ c. I.easy i c)

-- nobody finds chore c easy
unfoldable pub dear : Instance → ℕ → Bool
dear I c = not (any_below I.n (λ i. I.easy i c))

-- agent i finds chore c easy, or nobody does
unfoldable pub ok : Instance → ℕ → ℕ → Bool
ok I i c = I.easy i c || dear I c

-- What a chore is priced by, cut or not: its price, with `dear` for `good`; b times its price per unit of cost for an agent, with `ok`.
unfoldable pub level : Instance → Bool → Bool → ℕ
level I is_cut good =
    cond is_cut (cond good (I.a * I.b) (I.a * I.a)) (cond good (I.b * I.b) (I.a * I.b))

-- the price of chore c, cut or not
unfoldable pub kind_price : Instance → Bool → ℕ → ℕ
kind_price I is_cut c = level I is_cut (dear I c)

-- what `best` comes to while the core invariant holds: from group, cut and kind alone
unfoldable pub wanted : Instance → (ℕ → ℕ) → (ℕ → Bool) → ℕ → ℕ → Bool
wanted I group cut i c = cond (eqb (group i) 0) (not (cut c) && ok I i c) (not (cut c) || ok I i c)
