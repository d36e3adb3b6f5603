use mathlib.Core.Path.{◌≡◌, ap, ◌∙◌}
use native.Mathlib.Omega.{arith}
use lib.Seq.{sets}
use Rattle.model.specs.Sheet.{header_size, agents_of}
use Rattle.model.specs.Strands.{joined_rows}
use Rattle.strands.proofs.Joining.{write_zero, Turn, turn_first, turn_second, turn_few, turn_lent, write_next}
use Rattle.strands.proofs.write_rows.Goals as goal
use Rattle.strands.proofs.write_rows.Goals.{In-loop-i}

-- one turn: the agent is there, and the list holds the rows before it
turn : (c : In-loop-i) → Turn c.args.first.now c.args.second.now c.args.joined.now c.loop-i.joined c.loop-i.i c.chores-m1.result c.chores-m2.result
turn c =
    record {
      lent = c.requires;
      written = c.loop-i.invariant;
      agent = omega (arith, c.loop-i-test.true, c.agents-n.ensures.is);
      chores₁ = c.chores-m1.ensures.is;
      chores₂ = c.chores-m2.ensures.is;
    }

pub agents-n-requires : goal.agents-n-requires
agents-n-requires c = c.requires.joinable.valid_first.header

pub chores-m1-requires : goal.chores-m1-requires
chores-m1-requires c = c.requires.joinable.valid_first.header

pub chores-m2-requires : goal.chores-m2-requires
chores-m2-requires c = c.requires.joinable.valid_second.header

pub loop-i-init : goal.loop-i-init
loop-i-init c = write_zero _ _ _

pub row-row1-requires : goal.row-row1-requires
row-row1-requires c = turn_first (turn (goal.at.row-row1-requires c).In-loop-i)

pub row-row2-requires : goal.row-row2-requires
row-row2-requires c = turn_second (turn (goal.at.row-row2-requires c).In-loop-i)

pub overflow_add-m1 : goal.overflow_add-m1
overflow_add-m1 c =
    let few = (turn_few (turn (goal.at.overflow_add-m1 c).In-loop-i)).1 in omega arith

pub row_start-requires : goal.row_start-requires
row_start-requires c =
    let few = turn_few (turn (goal.at.row_start-requires c).In-loop-i) in record { m_bound = omega (arith, few.1); i_bound = few.0 }

pub write_row-requires : goal.write_row-requires
write_row-requires c = turn_lent (turn (goal.at.write_row-requires c).In-loop-i) c.row-row1.ensures c.row-row2.ensures c.row_start.ensures

pub loop-i-preserved : goal.loop-i-preserved
loop-i-preserved c = write_next (turn (goal.at.loop-i-preserved c).In-loop-i) c.row-row1.ensures c.row-row2.ensures c.row_start.ensures c.write_row.ensures

pub returns : goal.returns
returns c =
    let all : c.loop-i.i ≡ agents_of c.args.first.now = omega (arith, c.loop-i.invariant.within, c.loop-i-test.false, c.agents-n.ensures.is) in
    c.loop-i.invariant.made ∙ ap (λ k. sets c.args.joined.now header_size (joined_rows c.args.first.now c.args.second.now k)) all
