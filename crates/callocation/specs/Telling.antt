-- An answer of the share-out on numbers, told in bytes.
use Rattle.std.specs.Prelude.{ℕ, ◌≤◌, cond, List, Result, ◌≡◌, eqb, length}
use Rattle.model.specs.declared.Refusal.{Refusal}
use Rattle.model.specs.declared.ShareOut.{ShareOut}
use Rattle.model.specs.Sheet.{header_size, chores_of}
use Rattle.model.specs.Replies.{share_out_reply}
use Rattle.pricebytes.specs.PriceBytes.{with_prices, Room}
use Rattle.cmodel.specs.Numbers.{refusal_in, Told}

-- where nothing was refused, the sheet has its chores, and their prices have their place in both lists
pub record Tellable (s : List ℕ) (answer : Result ShareOut Refusal) (numbers prices : List ℕ) : Type 0 where
  pub header : refusal_in (share_out_reply answer) ≡ 0 → header_size ≤ length s
  pub room : refusal_in (share_out_reply answer) ≡ 0 → Room prices (chores_of s) numbers

-- then the prices are written
pub record ToldOut (s : List ℕ) (answer : Result ShareOut Refusal) (numbers prices prices' : List ℕ) (moves cuts moves' cuts' r : ℕ) : Type 0 where
  pub told : Told answer moves cuts moves' cuts' r
  pub bytes : prices' ≡ cond (eqb r 0) (with_prices (chores_of s) numbers prices) prices
