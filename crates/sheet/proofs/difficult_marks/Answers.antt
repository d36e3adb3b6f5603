use Prim.Native.Nat.{◌*◌, ◌≤◌}
use mathlib.Core.Path.{◌≡◌, sym}
use native.Mathlib.Omega.{arith}
use lib.Count.{ones, ones-le}
use Rattle.finite.specs.Sums.{count_to}
use Rattle.finite.specs.Packed.{bit_at, bytes_for}
use Rattle.finite.proofs.Sums.{sum_zero}
use Rattle.finite.proofs.Counts.{count_le}
use Rattle.finite.proofs.Packed.{count_byte}
use Rattle.model.specs.Sheet.{row_of}
use Rattle.sheet.proofs.Marks.{count_all}
use Rattle.sheet.proofs.difficult_marks.Goals as goal

pub loop-k-init : goal.loop-k-init
unfolding count_to
loop-k-init c = sym (sum_zero _)

pub overflow_cast-count : goal.overflow_cast-count
overflow_cast-count c =
    let few_ones : ones c.row_byte.result ≤ 8 = ones-le 8 _ c.row_byte.ensures.below in
    omega (arith, few_ones)

pub overflow_add-count : goal.overflow_add-count
overflow_add-count c =
    let few_ones : ones c.row_byte.result ≤ 8 = ones-le 8 _ c.row_byte.ensures.below in
    let loop = c.loop-k in
    let args = c.args in
    omega (arith, few_ones, loop.invariant, count_le (8 * loop.k) (bit_at (row_of args.sheet.now args.i)), c.row_size-k-end.ensures)

pub loop-k-preserved : goal.loop-k-preserved
loop-k-preserved c =
    let loop = c.loop-k in
    let args = c.args in
    let row = row_of args.sheet.now args.i in
    let byte = c.row_byte.ensures in
    rw (loop.invariant, byte.is) (sym (count_byte row loop.k (rw byte.is at byte.below)))

pub returns : goal.returns
returns c =
    let loop = c.loop-k in
    let all : loop.k ≡ bytes_for c.args.m = omega (arith, c.row_size-k-end.ensures) in
    count_all c.requires loop.count loop.k all loop.invariant
