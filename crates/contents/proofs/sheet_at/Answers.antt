-- `contents::sheet_at` meets its contract: from the start of the sheet, as many bytes as its entry says.
use Prim.Native.Nat.{◌+◌, ◌-◌, ◌≤◌}
use mathlib.Core.Path.{◌≡◌}
use native.Mathlib.Omega.{arith}
use lib.ListN.{length}
use Rattle.model.specs.Contents.{sheet_of}
use Rattle.contents.proofs.Bodies.{entry_inside, sheet_inside}
use Rattle.contents.proofs.sheet_at.Goals as goal
use Rattle.contents.proofs.sheet_at.Goals.{After-size_of-size}

inside : (c : After-size_of-size) → c.start_of-start.result + c.size_of-size.result ≤ length c.args.book.now
inside c =
    let within = sheet_inside c.requires.fits c.args.j c.requires.below in
    omega (arith, within, c.start_of-start.ensures.is, c.size_of-size.ensures.is)

pub start_of-start-requires : goal.start_of-start-requires
start_of-start-requires c = entry_inside c.requires.fits _ c.requires.below

pub size_of-size-requires : goal.size_of-size-requires
size_of-size-requires c = entry_inside c.requires.fits _ c.requires.below

pub slice_bounds-result-end : goal.slice_bounds-result-end
slice_bounds-result-end c = inside (goal.at.slice_bounds-result-end c).After-size_of-size

pub returns : goal.returns
unfolding sheet_of
returns c =
    let start = c.start_of-start.result in
    let size = c.size_of-size.result in
    let long : start + size - start ≡ size = omega arith in
    rw (long, c.start_of-start.ensures.is, c.size_of-size.ensures.is)
