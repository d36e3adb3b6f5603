-- `strands::write_header` meets its contract: a byte, the two of the count, and the bytes of both weights.
use Prim.Native.Nat.{◌/◌, ◌%◌}
use mathlib.Core.Path.{◌≡◌}
use native.Mathlib.Omega.{arith}
use lib.ListN.{length, get_or, take, drop, length-drop}
use lib.Seq.{length-take-le}
use Rattle.model.specs.Sheet.{agents_of}
use Rattle.strands.proofs.Filling.{header_stores}
use Rattle.strands.proofs.write_header.Goals as goal

pub returns : goal.returns
unfolding agents_of
returns c =
    let m = c.args.m in
    let first = c.args.first.now in
    let high : m / 256 % 256 ≡ m / 256 = omega arith in
    let four : length (take 4 (drop 3 first)) ≡ 4 = length-take-le 4 (drop 3 first) (simp length-drop (omega (arith, c.requires.header_size_in_bounds))) in
    rw (c.copy_from_slice-2.ensures.after, c.copy_from_slice.ensures.after, c.to_be_bytes-count.ensures, high)
    (header_stores c.args.joined.now (take 4 (drop 3 first)) (get_or first 0 0) (m / 256) (m % 256) c.requires.header_size_in_bounds_2 four)
