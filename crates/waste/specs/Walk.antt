-- The walk that makes a dominating list: what each of its functions is given and what it leaves.
use Rattle.std.specs.Prelude.{ℕ, ◌+◌, ◌≤◌, ◌<◌, true, false, List, ◌≡◌, length, get_or, set, drop}
use Rattle.finite.specs.Search.{first_below}
use Rattle.model.specs.Instance.{owner_of}
use Rattle.model.specs.Sheet.{agents_of, chores_of, marks_easy, as_marked}
use Rattle.welfare.specs.Walk.{Walking}
use Rattle.given.specs.Given.{Given}
use Rattle.given.specs.Burdens.{burdens}
use Rattle.waste.specs.Rings.{no_distance, Rings}

-- a sheet, an owner list, all distances, and room for a list
pub record Walkable (s owners distances list : List ℕ) : Type 0 where
  pub given : Given s owners
  pub rings : Rings (as_marked s) (owner_of owners) (agents_of s) distances
  pub long : chores_of s ≤ length list

-- chore c is difficult for its owner, and easy for agent j, who has a distance
pub record Wasting (s owners distances : List ℕ) (c j : ℕ) : Type 0 where
  pub chore : c < chores_of s
  pub hard : marks_easy s (owner_of owners c) c ≡ false
  pub taker : j < agents_of s
  pub has : get_or distances j 0 < no_distance
  pub easy : marks_easy s j c ≡ true

-- agent h has a distance above 0
pub record Away (s distances : List ℕ) (h : ℕ) : Type 0 where
  pub here : h < agents_of s
  pub has : get_or distances h 0 < no_distance
  pub away : 0 < get_or distances h 0

-- agent h has handed a chore that is easy for both to agent r, who is nearer
pub record HandedOn (s owners distances old new : List ℕ) (h r : ℕ) : Type 0 where
  pub chore : ℕ
  pub below : chore < chores_of s
  pub mine : owner_of owners chore ≡ h
  pub easy_here : marks_easy s h chore ≡ true
  pub easy_there : marks_easy s r chore ≡ true
  pub taker : r < agents_of s
  pub nearer : get_or distances r 0 < get_or distances h 0
  pub written : new ≡ set old chore (r + 1)

-- agent h owns a chore that is difficult for it, and agent i is to take one
pub record Burdened (s owners list : List ℕ) (i h : ℕ) : Type 0 where
  pub given : Given s owners
  pub taker : i < agents_of s
  pub here : h < agents_of s
  pub burden : first_below (chores_of s) (burdens s owners h) < chores_of s
  pub long : chores_of s ≤ length list

-- agent h has handed its first difficult chore to agent i, unless it is i itself
pub record Relieved (s owners old new : List ℕ) (i h : ℕ) : Type 0 where
  pub back : h ≡ i → new ≡ old
  pub handed : (h ≡ i → ⊥) → new ≡ set old (first_below (chores_of s) (burdens s owners h)) (i + 1)

-- the list on the way, at agent h: what the walk goes by, each entry an agent's number, and the rest as it was
pub record OnTheWay (s owners distances old list : List ℕ) (c h : ℕ) : Type 0 where
  pub walking : Walking (as_marked s) (owner_of owners) c (owner_of list) h (get_or distances h 0)
  pub size : length list ≡ length old
  pub long : chores_of s ≤ length list
  pub positive : (d : ℕ) → d < chores_of s → 0 < get_or list d 0
  pub kept : drop (chores_of s) list ≡ drop (chores_of s) old
