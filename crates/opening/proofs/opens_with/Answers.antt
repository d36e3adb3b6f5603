use Rattle.std.proofs.Common.{◌≡◌, sym, ◌∙◌, arith}
use native.Mathlib.Nat.{le_antisymm}
use Rattle.finite.specs.Bits.{bit}
use Rattle.finite.specs.Search.{first_below}
use Rattle.finite.proofs.Bits.{bit_zero, same_bits}
use Rattle.finite.proofs.Search.{first_none, first_none_intro, first_le}
use Rattle.finite.proofs.Found.{found_is, found_none}
use Rattle.opening.proofs.opens_with.Goals as goal

pub returns-in-Some : goal.returns-in-Some
returns-in-Some c few =
    let a = c.args in
    let found = found_is c.in-Some.ensures in
    record {
      easy_for = λ _. found.0;
      dear = λ z. absurd (let none : first_below a.n (λ i. bit a.easy i) ≡ a.n = first_none_intro a.n (λ i. bit a.easy i) (λ i l. rw z (bit_zero i)) in omega (arith, none, found.1));
    }

pub returns-in-None : goal.returns-in-None
returns-in-None c few =
    let a = c.args in
    let none = first_none a.n (λ i. bit a.easy i) (le_antisymm (first_le a.n (λ i. bit a.easy i)) (found_none c.in-None.ensures)) in
    let zero : a.easy ≡ 0 = same_bits a.n a.easy 0 few (omega arith) (λ i l. none i l ∙ sym (bit_zero i)) in
    record { easy_for = λ some. absurd (some zero); dear = λ _. c.first_least.ensures }
