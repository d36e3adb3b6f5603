use Rattle.std.proofs.Common.{ℕ, ◌≡◌, ◌<◌, get_or, refl, arith}
use borrow.Author.Tests.{lt-ltb, le-ltb}
use Rattle.finite.proofs.Chosen.{smaller_order}
use Rattle.finite.proofs.Running.{run_zero, run_done, run_take, run_keep, run_first}
use Rattle.totals.proofs.first_least.Goals as goal
use Rattle.totals.proofs.first_least.Goals.{then-sums-i, else-sums-i}

pub loop-i-init : goal.loop-i-init
loop-i-init c =
    let some = c.requires.0 in
    (some, run_first (smaller_order (λ k. get_or c.args.sums.now k 0)) (run_zero _ _ _) some refl refl)

pub loop-i-preserved : goal.loop-i-preserved
loop-i-preserved c =
    let f : ℕ → ℕ = λ k. get_or c.args.sums.now k 0 in
    let l : c.loop-i.i < c.args.n = omega arith in
    elim c.if-sums-i.branch [
      | then-sums-i w ↦ (rw w.best-is l, rw w.best-is (run_take (smaller_order f) c.loop-i.invariant.1 l refl (λ _. lt-ltb _ _ w.if-sums-i.true)))
      | else-sums-i w ↦ (rw w.best-is c.loop-i.invariant.0, rw w.best-is (run_keep c.loop-i.invariant.1 c.loop-i.invariant.0 (le-ltb _ _ w.if-sums-i.false)))
    ]

pub returns : goal.returns
returns c =
    let all : c.loop-i.i ≡ c.args.n = omega arith in
    run_done (rw all at c.loop-i.invariant.1)
