use Rattle.std.proofs.Common.{◌/◌, ◌≡◌, refl, arith}
use Rattle.model.specs.Sheet.{easy_weight, as_marked}
use Rattle.quotas.specs.Quotas.{Bears}
use Rattle.placing.specs.Queueing.{NextAgent}
use Rattle.model.specs.Sheet.{agents_of}
use Rattle.placing.specs.Sheets.{units_on, units_of}
use Rattle.placing.proofs.Queueing.{queue_start, fewer_wait, queue_next, queue_end}
use Rattle.placing.proofs.Units.{bears}
use Rattle.placing.proofs.serve_all.Goals as goal
use Rattle.placing.proofs.serve_all.Goals.{After-agents-n, In-Some}

able : (c : After-agents-n) → Bears (units_on c.args.sheet.now) (units_of (easy_weight c.args.sheet.now) c.args.measures.now)
able c = bears c.agents-n.ensures.valid c.requires.measured_sheet

-- the agents are those of the sheet
next : (c : In-Some) → NextAgent (agents_of c.args.sheet.now) c.easy_counts-counts.result c.loop-j.waiting c.in-Some.j
next c = rw c.agents-n.ensures.is at c.in-Some.ensures

pub loop-j-init : goal.loop-j-init
unfolding as_marked
loop-j-init c = queue_start (able (goal.at.loop-j-init c).After-agents-n) c.agents-n.ensures.valid.agents_fit c.places_in_all-left.ensures refl c.requires.places_value c.requires.owners_value

pub serve-left-requires : goal.serve-left-requires
unfolding as_marked
serve-left-requires c =
    let here = goal.at.serve-left-requires c in
    let agent = (next here.In-Some).agent in
    let weight : c.difficult_weight.result / c.easy_weight-a.result ≡ (units_on c.args.sheet.now).b = rw (c.difficult_weight.ensures, c.easy_weight-a.ensures) in
    record {
      taking = record { agent = agent; slot = omega (arith, agent, c.agents-n.ensures.valid.agents_fit); filling = c.loop-j.invariant.filling };
      q_nonzero = (rw weight (able here.After-agents-n).heavy, weight);
    }

pub loop-j-smaller : goal.loop-j-smaller
unfolding as_marked
loop-j-smaller c =
    let here = goal.at.loop-j-smaller c in
    rw c.agents-n.ensures.is (fewer_wait (able here.After-agents-n) c.agents-n.ensures.valid.agents_fit c.loop-j.invariant c.easy_counts-counts.ensures (next here.In-Some))

pub loop-j-preserved : goal.loop-j-preserved
unfolding as_marked
loop-j-preserved c =
    let here = goal.at.loop-j-preserved c in
    queue_next (able here.After-agents-n) c.agents-n.ensures.valid.agents_fit c.loop-j.invariant c.easy_counts-counts.ensures (next here.In-Some) (rw c.easy_weight-a.ensures at c.serve-left.ensures)

pub returns-clause-served : goal.returns-clause-served
unfolding as_marked
returns-clause-served c =
    let told = c.agents-n.ensures in
    queue_end (able (goal.at.returns-clause-served c).After-agents-n) told.valid.agents_fit c.loop-j.invariant told.valid.chores_fit (rw told.is at c.in_default.ensures)
