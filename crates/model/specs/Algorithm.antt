-- Document 01, "The share-out, step by step", from the opening of document 02, request 2: Algorithm 1 as a machine that takes one small step
-- at a time. A run ends when some number of steps ends it; no limit is set on that number.
use Rattle.std.specs.Prelude.{ℕ, zero, suc, ◌+◌, ◌*◌, ◌/◌, ◌-◌, Bool, true, cond, ◌&&◌, List, [], ◌∷◌, ◌++◌, ◌≡◌, eqb, ltb, get_or, set, replicate}
use Rattle.finite.specs.Search.{any_below, first_below, chosen}
use Rattle.finite.specs.Lists.{tabulate}
use Rattle.model.specs.Instance.{Instance, owner_of, price_of}
use Rattle.model.specs.Fairness.{bundle_size}
use Rattle.model.specs.Step2a.{giver2a, receiver2a, due2a, chore2a}
use Rattle.model.specs.Step2b.{above, reachable, due2b, giver2b, receiver2b, chore2b}

pub record State : Type 0 where
  -- m owners, by number
  pub owners : List ℕ
  -- m prices
  pub prices : List ℕ
  -- n cut groups: an agent's group, 0 for none yet
  pub groups : List ℕ
  -- m marks: 1 for an entitled chore
  pub entitled : List ℕ
  pub moves : ℕ
  pub cuts : ℕ
  -- the place in the round: the group at work in 2a, or 0 for 2b
  pub stage : ℕ

-- What is done next.
pub data Action : Type 0 where
  -- chore, giver, receiver
  hand : ℕ → ℕ → ℕ → Action
  -- 2a has no move due at its group: on to the group before it, or to 2b
  pass : Action
  -- step 3
  cut : Action
  -- the stop in 2b
  stop : Action
  -- a move is due and no chore of the giver may go
  lack : Action

pub data Outcome : Type 0 where
  busy : State → Outcome
  done : State → Outcome
  lacking : State → Outcome

module _ (I : Instance) where
  -- The agent with whom chore c opens, where x gives the owners of the chores before it.
  module _ (x : ℕ → ℕ) (c : ℕ) where
    -- document 02, request 2: "whoever holds the fewest reels at that point [...]; a tie goes to the lowest number."
    unfoldable pub fewest : ℕ
    fewest = chosen I.n (λ i. true) (λ j i. ltb (bundle_size c x j) (bundle_size c x i))

    -- "reels that somebody finds easy in that reading open as before": "Each reel goes to the lowest-numbered person who finds it easy"
    unfoldable pub opens_with : ℕ
    opens_with =
        cond (any_below I.n (λ i. I.easy i c)) (first_below I.n (λ i. I.easy i c)) fewest

  -- "going through the reels by number": the owners of the chores before c, in the opening
  unfoldable pub opened_before : ℕ → List ℕ
  opened_before zero = []
  opened_before (suc c) = opened_before c ++ (opens_with (λ d. get_or (opened_before c) d 0) c ∷ [])

  -- the agent with whom chore c opens
  unfoldable pub opening_owner : ℕ → ℕ
  opening_owner c = opens_with (λ d. get_or (opened_before c) d 0) c

  -- "Its price is a × b if somebody finds it easy, else b × b."
  unfoldable pub opening_price : ℕ → ℕ
  opening_price c = cond (any_below I.n (λ i. I.easy i c)) (I.a * I.b) (I.b * I.b)

  -- "Round 1 begins; there are no cut groups yet."
  unfoldable pub opening : State
  opening =
      record {
        owners = tabulate I.m (λ c. opening_owner c + 1);
        prices = tabulate I.m opening_price;
        groups = replicate I.n 0;
        entitled = replicate I.m 0;
        moves = 0;
        cuts = 0;
        stage = 0;
      }

  module _ (s : State) where
    -- each chore's owner and price, each agent's group, and whether a chore is entitled, in this state
    abbrev pub owner : ℕ → ℕ
    owner = owner_of s.owners

    abbrev pub price : ℕ → ℕ
    price = price_of s.prices

    unfoldable pub group : ℕ → ℕ
    group i = get_or s.groups i 0

    unfoldable pub is_entitled : ℕ → Bool
    is_entitled c = eqb (get_or s.entitled c 0) 1

    -- 2a at the group at work: a move, or none due
    unfoldable pub action2a : Action
    action2a =
        cond (due2a I owner price group is_entitled s.stage)
        (cond (ltb (chore2a I owner price group is_entitled s.stage) I.m)
        (hand (chore2a I owner price group is_entitled s.stage) (giver2a I owner price group is_entitled s.stage) (receiver2a I owner price group is_entitled s.stage))
        lack)
        pass

    -- 2b: a move; "Repeat until no such giver exists. Then, if no price-one in the sheet is above the least sum, stop."
    unfoldable pub action2b : Action
    action2b =
        cond (due2b I owner price)
        (cond (ltb (receiver2b I owner price) I.n && ltb (chore2b I owner price) I.m)
        (hand (chore2b I owner price) (giver2b I owner price) (receiver2b I owner price))
        lack)
        (cond (any_below I.n (above I owner price)) cut stop)

    unfoldable pub action : Action
    action = cond (eqb s.stage 0) action2b action2a

    -- "A move is one reel handed over": chore c goes to agent u
    unfoldable pub handed : ℕ → ℕ → State
    handed c u =
        record {
          owners = set s.owners c (u + 1);
          prices = s.prices;
          groups = s.groups;
          entitled = s.entitled;
          moves = s.moves + 1;
          cuts = s.cuts;
          stage = s.stage;
        }

    -- 2a: "for each cut group from number k−2 down to 1"
    unfoldable pub passed : State
    passed =
        record {
          owners = s.owners;
          prices = s.prices;
          groups = s.groups;
          entitled = s.entitled;
          moves = s.moves;
          cuts = s.cuts;
          stage = s.stage - 1;
        }

    -- 3: "The new group is everyone reachable from any person of least sum.": agent i is in it
    unfoldable pub in_new_group : ℕ → Bool
    in_new_group i = reachable I owner price i

    -- 3: "Each reel they hold becomes entitled and its price is multiplied by a and divided by b, which is exact. This is one cut. The next
    -- round begins." After the cut that makes group g, round g + 1 begins, and 2a starts at group g - 1.
    unfoldable pub after_cut : State
    after_cut =
        record {
          owners = s.owners;
          prices = tabulate I.m (λ c. cond (in_new_group (owner c)) (price c * I.a / I.b) (price c));
          groups = tabulate I.n (λ i. cond (in_new_group i) (s.cuts + 1) (group i));
          entitled = tabulate I.m (λ c. cond (in_new_group (owner c)) 1 (get_or s.entitled c 0));
          moves = s.moves;
          cuts = s.cuts + 1;
          stage = s.cuts;
        }

    unfoldable pub result : Action → Outcome
    result (hand c w u) = busy (handed c u)
    result pass = busy passed
    result cut = busy after_cut
    result stop = done s
    result lack = lacking s

  unfoldable pub step : State → Outcome
  step s = result s (action s)

  -- one step more; an outcome that is not busy stays
  unfoldable pub next : Outcome → Outcome
  next (busy s) = step s
  next (done s) = done s
  next (lacking s) = lacking s

  -- the outcome after k steps from the opening
  unfoldable pub after : ℕ → Outcome
  after zero = busy opening
  after (suc k) = next (after k)

  -- "The run ends at the stop in 2b": Algorithm 1 ends in the state s
  pub record Ends (s : State) : Type 0 where
    pub steps : ℕ
    pub ends : after steps ≡ done s
