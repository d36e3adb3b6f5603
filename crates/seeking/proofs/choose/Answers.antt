-- `seeking::choose` meets its contract.
use mathlib.Core.Path.{refl}
use native.Mathlib.Omega.{arith}
use Rattle.finite.proofs.Found.{found_is, found_none}
use Rattle.seeking.proofs.Choosing.{Chose, chosen_agent, chosen_few, chosen_due, none_gives, none_takes, none_above}
use Rattle.seeking.proofs.choose.Goals as goal
use Rattle.seeking.proofs.choose.Goals.{In_ok-receiver}

pub returns-in_err-giver : goal.returns-in_err-giver
returns-in_err-giver c =
    rw c.from_residual.ensures
    (none_gives (record { ready = c.requires.ready; summed = c.weigh.ensures; giver = refl; receiver = refl }) (omega (arith, found_none c.in_err-giver.ensures, c.requires.ready.groups_sized)))

pub returns-in_err-receiver : goal.returns-in_err-receiver
returns-in_err-receiver c =
    rw c.from_residual-in_err-receiver.ensures
    (none_takes (record { ready = c.requires.ready; summed = c.weigh.ensures; giver = refl; receiver = refl }) (omega (arith, found_none c.in_err-receiver.ensures, c.requires.ready.groups_sized)))

pub offset_bounds-ups-giver : goal.offset_bounds-ups-giver
offset_bounds-ups-giver c = record { fits = omega (arith, chosen_few c.requires.ready _ c.in_ok-giver.ensures) }

pub bounds-ups-giver : goal.bounds-ups-giver
bounds-ups-giver c = chosen_few c.requires.ready _ c.in_ok-giver.ensures

pub offset_bounds-sums-receiver : goal.offset_bounds-sums-receiver
offset_bounds-sums-receiver c = record { fits = omega (arith, chosen_few c.requires.ready _ c.in_ok-receiver.ensures) }

pub bounds-sums-receiver : goal.bounds-sums-receiver
bounds-sums-receiver c = chosen_few c.requires.ready _ c.in_ok-receiver.ensures

-- both are chosen
both : (c : In_ok-receiver) → Chose c.args.sheet.now c.args.owners.now c.args.prices.now c.args.groups.now c.requires.entitled c.requires.likes c.args.stage c.weigh.new.sums c.weigh.new.ups c.in_ok-giver.giver c.in_ok-receiver.receiver
both c =
    record {
      ready = c.requires.ready;
      summed = c.weigh.ensures;
      giver = (found_is c.in_ok-giver.ensures).0;
      receiver = (found_is c.in_ok-receiver.ensures).0;
    }

pub returns-then-ups-giver : goal.returns-then-ups-giver
returns-then-ups-giver c =
    let i = chosen_agent c.requires.ready _ c.in_ok-giver.ensures in
    (i, chosen_due (both (goal.at.returns-then-ups-giver c).In_ok-receiver) i (chosen_agent c.requires.ready _ c.in_ok-receiver.ensures) c.if-ups-giver.true)

pub returns-else-ups-giver : goal.returns-else-ups-giver
returns-else-ups-giver c =
    none_above (both (goal.at.returns-else-ups-giver c).In_ok-receiver) (chosen_agent c.requires.ready _ c.in_ok-giver.ensures) (chosen_agent c.requires.ready _ c.in_ok-receiver.ensures) c.if-ups-giver.false
