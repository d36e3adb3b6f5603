-- The table of a state: for whichever words the agents' groups are, and as the code sees it.
-- Assumes nothing.
use Prim.Native.Nat.{ℕ}
use mathlib.Core.List.{List}
use mathlib.Core.Path.{◌≡◌, ap, ◌∙◌}
use lib.ListN.{length}
use Rattle.finite.proofs.Bits.{set_unique}
use Rattle.finite.proofs.Lists.{tab_length}
use Rattle.model.specs.Instance.{owner_of}
use Rattle.model.specs.Sheet.{agents_of, chores_of}
use Rattle.market.specs.Cutting.{CutPrices}
use Rattle.firsts.specs.Traits.{has_trait}
use Rattle.firsts.specs.Table.{Firsts}
use Rattle.seeking.specs.Looks.{Ready}
use Rattle.steps.specs.Turns.{Filling, Tabled}
use Rattle.seeking.specs.Looks.{Views, Looking}

module _ {s groups : List ℕ} {free grouped low mid top : ℕ} (seen : Views s groups free grouped low mid top) where
  -- the words are the groups' only ones
  pub tabled_by : {owners prices entitled likes first sets : List ℕ} → Firsts (agents_of s) (chores_of s) (owner_of owners) (has_trait prices entitled likes free grouped mid top) first sets → Tabled s owners prices groups entitled likes first sets
  tabled_by F =
      record {
        sized = F.sized;
        rows = λ f g B. rw (set_unique B.free_are seen.sides.free_are, set_unique B.grouped_are seen.sides.grouped_are, ← seen.mid_is, ← seen.top_is) F;
      }

  pub rows_of : {owners prices entitled likes first sets : List ℕ} → Tabled s owners prices groups entitled likes first sets → Firsts (agents_of s) (chores_of s) (owner_of owners) (has_trait prices entitled likes free grouped mid top) first sets
  rows_of B = rw (seen.mid_is, seen.top_is) (B.rows free grouped seen.sides)

  pub looking : {owners prices entitled likes first sets : List ℕ} → Ready s owners prices groups entitled likes → Tabled s owners prices groups entitled likes first sets → Looking s owners prices groups sets free grouped low mid top
  looking R B = record { entitled = _; likes = _; first = _; ready = R; views = seen; rows = rows_of B }

-- the lists of chores and groups after a cut
pub refilling : {s owners prices groups entitled likes first sets prices' groups' entitled' : List ℕ} {reached a b : ℕ} → Filling s owners prices groups entitled likes first sets → CutPrices owners prices entitled prices' entitled' reached a b → length groups' ≡ length groups → Filling s owners prices' groups' entitled' likes first sets
refilling {owners = owners} F C g =
    let L = F.listed in
    record {
      valid = F.valid;
      owners_sized = F.owners_sized;
      groups_sized = g ∙ F.groups_sized;
      listed =
          record {
            agents = L.agents;
            chores = L.chores;
            prices_sized = ap length C.new_prices ∙ tab_length (length owners) _;
            entitled_sized = ap length C.new_entitled ∙ tab_length (length owners) _;
            likes_sized = L.likes_sized;
            numbered = L.numbered;
            known = L.known;
          };
      sized = F.sized;
    }
