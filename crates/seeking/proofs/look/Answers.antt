-- `seeking::look` meets its contract.
use Prim.Native.Nat.{ℕ, ◌<◌}
use mathlib.Core.Bool.{Bool}
use mathlib.Core.List.{List}
use mathlib.Core.Path.{◌≡◌, refl, sym, ap, ◌∙◌}
use native.Mathlib.Omega.{arith}
use borrow.Author.Rules.{rules}
use Rattle.finite.specs.Bits.{bit}
use Rattle.finite.specs.Search.{first_below}
use Rattle.finite.proofs.Found.{below_some, found_is}
use Rattle.model.specs.Instance.{owner_of, price_of}
use Rattle.model.specs.Sheet.{agents_of, as_read}
use Rattle.rings.specs.Search.{Searched}
use Rattle.seeking.specs.Looks.{Look, Sought}
use Rattle.seeking.proofs.Ready.{taker_some, looked, looked_none, any_is_lem}
use Rattle.seeking.proofs.Looking.{searched}
use Rattle.seeking.proofs.look.Goals as goal
use Rattle.seeking.proofs.look.Goals.{In-Some, After-any_above}

at2b : {s owners prices groups : List ℕ} {giver receiver sought : ℕ} {any : Bool} {lent scratch : List ℕ} → Look s owners prices giver receiver sought any lent scratch → Sought s owners prices groups 0 giver receiver sought any lent scratch
at2b L = record { size = L.size; in2b = λ _. L; in2a = λ l. absurd (omega arith) }

-- whom the search found
found : (c : In-Some) → (c.in-Some.found.giver < agents_of c.args.sheet.now) × Searched (as_read c.args.sheet.now) (owner_of c.args.owners.now) (price_of c.args.prices.now) c.in-Some.found.giver c.in-Some.found.takers c.args.scratch.now c.search.new.scratch
found c =
    let s = c.in-Some.ensures in
    (omega (arith, s.0, c.agents-n.ensures.is), searched c.requires.seeing.looking c.agents-n.ensures.is c.weigh.ensures c.least_of-least.ensures s.1)

pub unwrap-receiver-requires : goal.unwrap-receiver-requires
unwrap-receiver-requires c =
    let f = found (goal.at.unwrap-receiver-requires c).In-Some in
    let some = taker_some c.requires.seeing.looking.ready f.1 f.0 in
    rw (c.lowest.ensures, c.agents-n.ensures.is, below_some some) refl

pub returns-in-Some : goal.returns-in-Some
returns-in-Some c groups =
    let f = found (goal.at.returns-in-Some c).In-Some in
    let at = found_is (sym c.unwrap-receiver.ensures ∙ c.lowest.ensures) in
    let looked = looked c.requires.seeing.looking.ready f.1 f.0 (search rules) (at.0 ∙ ap (λ n. first_below n (bit c.in-Some.found.takers)) c.agents-n.ensures.is) in
    (f.0, at2b looked)

-- or nobody
nobody : (c : After-any_above) → {any : Bool} → any ≡ c.any_above.result → Look c.args.sheet.now c.args.owners.now c.args.prices.now (agents_of c.args.sheet.now) (agents_of c.args.sheet.now) (agents_of c.args.sheet.now) any c.args.scratch.now c.search.new.scratch
nobody c e =
    let looking = c.requires.seeing.looking in
    let agents = c.agents-n.ensures.is in
    let s = searched looking agents c.weigh.ensures c.least_of-least.ensures c.in-None.ensures in
    looked_none looking.ready (search rules) (rw agents at s) (any_is_lem looking.ready c.weigh.ensures agents c.least_of-least.ensures (e ∙ c.any_above.ensures))

pub returns-in-None : goal.returns-in-None
returns-in-None c groups =
    (refl, at2b (nobody (goal.at.returns-in-None c).After-any_above (sym c.if-any_above.true)))

pub returns-in-None-2 : goal.returns-in-None-2
returns-in-None-2 c groups =
    (refl, at2b (nobody (goal.at.returns-in-None-2 c).After-any_above (sym c.if-any_above.false)))
