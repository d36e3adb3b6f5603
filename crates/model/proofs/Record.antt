-- Laws of a list of moves with more behind it, and of the bytes of a record.
-- Assumes nothing.
use Prim.Native.Nat.{ℕ, zero, suc, ◌+◌, ◌*◌, ◌-◌, ◌/◌, ◌%◌, ◌<◌}
use mathlib.Core.List.{List, [], ◌∷◌, ◌++◌}
use mathlib.Core.Path.{◌≡◌, refl, ap, ◌∙◌}
use native.Mathlib.Omega.{arith}
use lib.ListN.{length, get_or, set, get_or-append}
use lib.Seq.{get_or_at, get_or-append-add}
use Rattle.finite.specs.Lists.{word_at}
use Rattle.model.specs.Record.{Move, move_size, move_bytes, record_of, move_in, played, move_at}

pub played-append : (ts us : List Move) (owners : List ℕ) → played (ts ++ us) owners ≡ played us (played ts owners)
unfolding played
played-append [] us owners = refl
played-append (t ∷ ts) us owners = played-append ts us (set owners t.chore (t.receiver + 1))

pub move_before : (ts us : List Move) (k : ℕ) → k < length ts → move_at (ts ++ us) k ≡ move_at ts k
unfolding move_at
move_before ts us k l = get_or-append ts us _ k l

pub move_next : (ts us : List Move) (t : Move) (k : ℕ) → length ts ≡ k → move_at (ts ++ t ∷ us) k ≡ t
unfolding move_at
move_next ts us t k e = get_or_at ts t us _ k e

-- behind a move's bytes those of the others lie six places further on, whatever is read of them
module _ {ℓ} {A : Type ℓ} (f : ℕ → ℕ → ℕ → ℕ → ℕ → ℕ → A) where
  abbrev six_at : List ℕ → ℕ → A
  six_at bytes k =
      f (get_or bytes (move_size * k) 0) (get_or bytes (move_size * k + 1) 0) (get_or bytes (move_size * k + 2) 0) (get_or bytes (move_size * k + 3) 0) (get_or bytes (move_size * k + 4) 0) (get_or bytes (move_size * k + 5) 0)

  module _ (t : Move) (rest : List ℕ) where
    byte_after : (n m : ℕ) → m ≡ move_size + n → get_or (move_bytes t ++ rest) m 0 ≡ get_or rest n 0
    unfolding move_bytes
    byte_after n m e = ap (λ i. get_or (move_bytes t ++ rest) i 0) e ∙ get_or-append-add (move_bytes t) rest n 0

    pub six_after : (k : ℕ) → six_at (move_bytes t ++ rest) (suc k) ≡ six_at rest k
    six_after k =
        let high = byte_after (move_size * k) (move_size * suc k) (omega arith) in
        let low = byte_after (move_size * k + 1) (move_size * suc k + 1) (omega arith) in
        let giver = byte_after (move_size * k + 2) (move_size * suc k + 2) (omega arith) in
        let receiver = byte_after (move_size * k + 3) (move_size * suc k + 3) (omega arith) in
        let round = byte_after (move_size * k + 4) (move_size * suc k + 4) (omega arith) in
        let step = byte_after (move_size * k + 5) (move_size * suc k + 5) (omega arith) in
        cc (high, low, giver, receiver, round, step)

-- what a record's bytes say is its moves
module _ (t : Move) (rest : List ℕ) where
  abbrev made : ℕ → ℕ → ℕ → Move
  made c g r = record { chore = c; giver = g; receiver = r; round = t.round; step = t.step }

  move_first : move_in (move_bytes t ++ rest) 0 ≡ t
  unfolding move_in word_at move_bytes
  move_first =
      let whole : 256 * ((t.chore + 1) / 256) + (t.chore + 1) % 256 - 1 ≡ t.chore = omega arith in
      let giver : t.giver + 1 - 1 ≡ t.giver = omega arith in
      let receiver : t.receiver + 1 - 1 ≡ t.receiver = omega arith in
      ap (λ c. made c (t.giver + 1 - 1) (t.receiver + 1 - 1)) whole
      ∙ ap (λ g. made t.chore g (t.receiver + 1 - 1)) giver
      ∙ ap (made t.chore t.giver) receiver

  move_after : (k : ℕ) → move_in (move_bytes t ++ rest) (suc k) ≡ move_in rest k
  unfolding move_in word_at
  move_after k = six_after (λ h l g r o s. record { chore = 256 * h + l - 1; giver = g - 1; receiver = r - 1; round = o; step = s }) t rest k

pub read_back : (ts : List Move) (rest : List ℕ) (k : ℕ) → k < length ts → move_in (record_of ts ++ rest) k ≡ move_at ts k
unfolding record_of move_at move_bytes
read_back [] rest k l = absurd (omega arith)
read_back (t ∷ ts) rest zero l = move_first t (record_of ts ++ rest)
read_back (t ∷ ts) rest (suc k) l = move_after t (record_of ts ++ rest) k ∙ read_back ts rest k (omega arith)
