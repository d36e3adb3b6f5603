-- `allocation::share_out` meets its contract.
use Rattle.std.proofs.Common.{◌≡◌, ◌-◌, ◌++◌, length, drop, replicate, refl, ap, ◌∙◌, rules}
use Rattle.finite.proofs.Lists.{first_sized_lem}
use Rattle.model.specs.Limits.{scratch_size}
use Rattle.allocation.proofs.Accepting.{is_fine, shared_out}
use Rattle.allocation.proofs.share_out.Goals as goal

pub slice_bounds-share-end : goal.slice_bounds-share-end
slice_bounds-share-end c = search (rules, c.chores-m.ensures.is, (is_fine _ _ _ _ c.requires).owners_room)

pub slice_bounds-share-end-2 : goal.slice_bounds-share-end-2
slice_bounds-share-end-2 c = search (rules, c.chores-m.ensures.is, (is_fine _ _ _ _ c.requires).prices_room)

pub slice_bounds-share-end-3 : goal.slice_bounds-share-end-3
slice_bounds-share-end-3 c = search (rules, (is_fine _ _ _ _ c.requires).scratch_room)

pub share-counts-requires-clause-sharing : goal.share-counts-requires-clause-sharing
share-counts-requires-clause-sharing c =
    let fine = is_fine _ _ _ _ c.requires in
    record {
      valid = fine.valid;
      owners_sized = first_sized_lem c.args.owners.now refl c.chores-m.ensures.is fine.owners_room;
      prices_sized = first_sized_lem c.args.prices.now refl c.chores-m.ensures.is fine.prices_room;
    }

pub returns : goal.returns
returns c =
    let scratch = c.args.scratch.now in
    let same : length (c.share-counts.new.scratch ++ drop (scratch_size - 0) scratch) ≡ length scratch = search rules in
    shared_out c.requires c.share-counts.ensures c.chores-m.ensures.is (c.clear.ensures ∙ ap (λ k. replicate k 0) same)
