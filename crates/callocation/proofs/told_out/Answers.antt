use Rattle.std.proofs.Common.{refl, sym, arith}
use borrow.Author.Tests.{ne_eqb}
use Rattle.finite.proofs.Tests.{cond_false}
use Rattle.model.proofs.Refusing.{numbered}
use Rattle.callocation.proofs.told_out.Goals as goal

pub chores-requires : goal.chores-requires
chores-requires c = c.requires.header (rw c.in-Ok.is refl)

pub write_prices-requires : goal.write_prices-requires
write_prices-requires c = rw c.chores.ensures.is (c.requires.room (rw c.in-Ok.is refl))

pub returns-in-Ok : goal.returns-in-Ok
returns-in-Ok c =
    rw c.in-Ok.is
    (record { told = record { returned = refl; moves_at_exit = refl; cuts_at_exit = refl }; bytes = rw (← c.chores.ensures.is) c.write_prices.ensures })

pub returns-in-Err : goal.returns-in-Err
returns-in-Err c =
    let p = numbered c.in-Err.refusal in
    rw c.in-Err.is
    (record {
      told = record { returned = c.from.ensures; moves_at_exit = refl; cuts_at_exit = refl };
      bytes = sym (cond_false _ _ (ne_eqb c.from.result 0 (λ z. omega (arith, z, p, c.from.ensures))));
    })
