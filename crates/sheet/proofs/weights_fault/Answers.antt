-- `sheet::weights_fault` meets its contract, by cases on the first two tests.
use Prim.Native.Nat.{◌≤◌, ◌<◌}
use mathlib.Core.Path.{sym, ◌∙◌}
use native.Mathlib.Omega.{arith}
use borrow.Author.Tests.{eq-eqb, ne_eqb, le-leb, lt-leb}
use Rattle.sheet.proofs.weights_fault.Goals as goal

pub returns-then-a-eq0 : goal.returns-then-a-eq0
returns-then-a-eq0 c = rw (eq-eqb _ _ c.if-a-eq0.true)

pub returns-then-b-a : goal.returns-then-b-a
returns-then-b-a c =
    let h : c.args.b ≤ c.args.a = omega arith in
    le-leb _ _ c.if-b-a.true ∙ sym (rw (ne_eqb _ _ c.if-a-eq0.false, le-leb _ _ h))

pub returns-else-b-a : goal.returns-else-b-a
returns-else-b-a c =
    let h : c.args.a < c.args.b = omega arith in
    rw (ne_eqb _ _ c.if-a-eq0.false, lt-leb _ _ h)
