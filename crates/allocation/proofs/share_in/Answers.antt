-- `allocation::share_in` meets its contract: the first entries of the long lists are the working lists.
use Rattle.std.proofs.Common.{refl}
use Rattle.finite.proofs.Lists.{first_of}
use Rattle.allocation.proofs.share_in.Goals as goal

pub share_with-requires-clause-sharing : goal.share_with-requires-clause-sharing
share_with-requires-clause-sharing c =
    let S = c.requires.sharing.0 in
    let L = c.requires.sharing.1 in
    let m-is = c.chores-m.ensures.is in (
      S,
      record {
        no_groups = first_of refl c.agents-n.ensures.is S.valid.agents_fit;
        none_entitled = first_of L.none_entitled m-is L.entitled_fit;
        no_likes = first_of L.no_likes m-is L.likes_fit;
      },
    )
