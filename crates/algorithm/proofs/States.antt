-- What a move and a cut do to a state of lists, in the terms of owners, prices, groups and entitled chores.
-- Assumes nothing.
use Prim.Native.Nat.{ℕ, ◌+◌, ◌<◌}
use mathlib.Core.Bool.{Bool, true, false, cond, ◌||◌}
use mathlib.Core.Path.{◌≡◌, refl, ap, ◌∙◌}
use native.Mathlib.Omega.{arith}
use lib.Dec.{eqb}
use lib.ListN.{get_or, length-set}
use lib.Seq.{get_or-set_same, get_or-set_other}
use Rattle.finite.specs.Moves.{Moves}
use Rattle.finite.proofs.Below.{by_same}
use Rattle.finite.proofs.Lists.{tab_length, tab_at}
use Rattle.model.specs.Instance.{Instance, price_of}
use Rattle.model.specs.Algorithm.{State, owner, price, group, is_entitled, handed, in_new_group, after_cut}
use Rattle.model.specs.Record.{Hands}
use Rattle.welfare.proofs.Moves.{set_moves}
use Rattle.algorithm.specs.Reached.{Shaped}
use Rattle.algorithm.specs.Cuts.{Cuts}

module _ {I : Instance} {s : State} (L : Shaped I s) where
  -- chore k goes from w to u
  pub handed_moves : {k w u : ℕ} → Hands I (owner I s) k w u → Moves I.m (owner I s) (owner I (handed I s k u)) k w u
  unfolding handed
  handed_moves {k} {u = u} h = set_moves s.owners k u (omega (arith, L.owners)) h.chore h.owns h.apart

  pub handed_shaped : (k u : ℕ) → k < I.m → Shaped I (handed I s k u)
  unfolding handed
  handed_shaped k u h =
      record {
        owners = simp length-set L.owners;
        prices = L.prices;
        groups = L.groups;
        entitled = L.entitled;
        numbered = λ c l. by_same c k (λ e. rw e (omega (arith, get_or-set_same s.owners k (u + 1) 0 (omega (arith, L.owners))))) (λ d. omega (arith, get_or-set_other s.owners k c (u + 1) 0 d, L.numbered c l));
      }

  pub cut_shaped : Shaped I (after_cut I s)
  unfolding after_cut
  cut_shaped =
      record {
        owners = L.owners;
        prices = tab_length I.m _;
        groups = tab_length I.n _;
        entitled = tab_length I.m _;
        numbered = L.numbered;
      }

mark_or : (r : Bool) (e : ℕ) → eqb (cond r 1 e) 1 ≡ (r || eqb e 1)
mark_or true e = refl
mark_or false e = refl

pub cut_cuts : (I : Instance) (s : State) → Cuts I (owner I s) (price I s) (group I s) (is_entitled I s) s.cuts (price I (after_cut I s)) (group I (after_cut I s)) (is_entitled I (after_cut I s))
unfolding after_cut in_new_group price_of group is_entitled
cut_cuts I s =
    record {
      price = λ c h. tab_at _ c 0 h;
      mark = λ c h. ap (λ v. eqb v 1) (tab_at _ c 0 h) ∙ mark_or (in_new_group I s (owner I s c)) (get_or s.entitled c 0);
      member = λ i h. tab_at _ i 0 h;
    }
