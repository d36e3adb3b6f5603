-- The promise of `allocate`, from its parts: what a refusal number of 0 gives, and either way out.
-- Assumes nothing.
use Prim.Native.Nat.{ℕ, ◌-◌, ◌≤◌}
use mathlib.Core.List.{List, ◌++◌}
use mathlib.Core.Path.{◌≡◌, refl, sym, ap, ◌∙◌}
use native.Mathlib.Omega.{arith}
use lib.ListN.{length, drop, replicate}
use lib.Seq.{take_at, drop_at}
use Rattle.finite.proofs.Below.{by_same}
use Rattle.std.specs.Prelude.{Result}
use Rattle.model.specs.declared.Refusal.{Refusal}
use Rattle.model.specs.declared.ShareOut.{ShareOut}
use Rattle.model.specs.Limits.{max_chores, scratch_size}
use Rattle.model.specs.Sheet.{chores_of, as_read}
use Rattle.model.specs.Refusals.{◌or_else◌, sheet_refusal, lent_refusal, allocate_refusal}
use Rattle.model.specs.Replies.{refused}
use Rattle.model.specs.Promises.{Allocated}
use Rattle.model.proofs.Refusing.{Left}
use Rattle.sheet.specs.Valid.{Valid}
use Rattle.sheet.proofs.OrElse.{or_else_next, or_else_first, or_else_none, or_else_zero}
use Rattle.sheet.proofs.Refusal.{valid, lent_ok, lent_room}
use Rattle.algorithm.proofs.Theorem.{demand3_of, few_of}
use Rattle.steps.specs.Turns.{state_of}
use Rattle.allocation.specs.Shared.{Shared, SharedWith}
use Rattle.runs.proofs.Running.{ended_shaped}

-- nothing is turned down: the sheet breaks no rule, and what is lent has room
pub record Fine (s : List ℕ) (owners prices scratch : ℕ) : Type 0 where
  pub unbroken : sheet_refusal s ≡ 0
  pub valid : Valid s
  pub owners_room : chores_of s ≤ owners
  pub prices_room : chores_of s ≤ prices
  pub scratch_room : scratch_size ≤ scratch

pub is_fine : (s : List ℕ) (owners prices scratch : ℕ) → allocate_refusal s owners prices scratch ≡ 0 → Fine s owners prices scratch
unfolding allocate_refusal
is_fine s owners prices scratch e =
    let one = or_else_zero (sheet_refusal s) (lent_refusal (chores_of s) owners or_else lent_refusal (chores_of s) prices or_else lent_refusal scratch_size scratch) e in
    let two = or_else_zero (lent_refusal (chores_of s) owners) (lent_refusal (chores_of s) prices or_else lent_refusal scratch_size scratch) one.1 in
    let three = or_else_zero (lent_refusal (chores_of s) prices) (lent_refusal scratch_size scratch) two.1 in
    record {
      unbroken = one.0;
      valid = valid s one.0;
      owners_room = lent_room two.0;
      prices_room = lent_room three.0;
      scratch_room = lent_room three.1;
    }

-- the sheet alone decides, where there is room for any sheet
pub sheet_decides : (s : List ℕ) (owners prices scratch : ℕ) → max_chores ≤ owners → max_chores ≤ prices → scratch_size ≤ scratch → allocate_refusal s owners prices scratch ≡ sheet_refusal s
unfolding allocate_refusal
sheet_decides s owners prices scratch o p c =
    by_same (sheet_refusal s) 0
    (λ z.
    let few = (valid s z).chores_fit in
    or_else_next _ z ∙ or_else_none (lent_ok (omega (arith, few))) (or_else_none (lent_ok (omega (arith, few))) (lent_ok c)) ∙ sym z)
    (λ h. or_else_first _ h)

module _ {s owners prices scratch : List ℕ} where
  pub refused_kept : {r : Result ShareOut Refusal} → Left r (allocate_refusal s (length owners) (length prices) (length scratch)) → Allocated s owners prices scratch owners prices scratch r
  refused_kept L =
      record {
        not_refused = λ z. let p = L.positive in absurd (omega (arith, z, p));
        turned_down = λ n. record { answer = rw L.is (ap refused L.number); owners_kept = refl; prices_kept = refl; scratch_kept = refl };
      }

  -- the first m entries are those of the state in which the run ends, the rest are kept
  pub shared_out : {x p lent bytes scratch' : List ℕ} {k : ℕ} {out : ShareOut} → allocate_refusal s (length owners) (length prices) (length scratch) ≡ 0 → Shared s x p lent bytes out.moves out.cuts → k ≡ chores_of s → scratch' ≡ replicate (length scratch) 0 → SharedWith s owners prices scratch lent (x ++ drop (k - 0) owners) (p ++ drop (k - 0) prices) scratch' bytes out
  unfolding as_read
  shared_out {x} {p} {k = k} e R q zeros =
      let fine = is_fine s (length owners) (length prices) (length scratch) e in
      let from : k - 0 ≡ chores_of s = omega arith in
      let shape = ended_shaped fine.valid R.ended.ends in
      record {
        allocated = record {
          not_refused = λ _.
              record {
                final = state_of x p R.groups R.entitled _ _ R.ended.stage;
                demand3 = demand3_of s fine.unbroken _ R.ended.ends;
                few = few_of s fine.unbroken _ R.ended.ends;
                answer = refl;
                owners_written = take_at x _ _ shape.owners;
                owners_kept = drop_at x _ _ shape.owners ∙ ap (λ i. drop i owners) from;
                prices_written = take_at p _ _ shape.prices;
                prices_kept = drop_at p _ _ shape.prices ∙ ap (λ i. drop i prices) from;
                zeros = zeros;
              };
          turned_down = λ n. absurd (n e);
        };
        final = state_of x p R.groups R.entitled _ _ R.ended.stage;
        ends = R.ended.ends;
        noted = R.ended.noted;
      }
