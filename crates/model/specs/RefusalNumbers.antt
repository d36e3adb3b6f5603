-- The documents' number of each refusal.
use Rattle.std.specs.Prelude.{ℕ, Result, Ok, Err}
use Rattle.model.specs.declared.Refusal.{Refusal}

abbrev pub refusal_number : Refusal → ℕ
-- "n is 0 or above 32"
refusal_number Refusal.Agents = 1
-- "Number 2 now means more than 4,000 reels"
refusal_number Refusal.Chores = 2
-- "a is 0, b ≤ a, or b above 1,000"
refusal_number Refusal.Weights = 3
-- "4 a set bit after the last reel"
refusal_number Refusal.Marks = 4
-- "and 5 the new lengths"
refusal_number Refusal.Length = 5
-- "owner list not of length m"
refusal_number Refusal.OwnerCount = 6
-- "an owner of 0 or above n"
refusal_number Refusal.Owner = 7
-- something lent has fewer than the entries needed
refusal_number Refusal.Lent = 8
-- "a book of no bytes or over 65,535, k out of range, or contents against the book's rule", "a lookup of sheet 0 or above k", and marks "for a
-- person or reel that isn't there"
refusal_number Refusal.NotThere = 9
-- "price list not of length m, or a price of 0 or above 1,000,000"
refusal_number Refusal.Prices = 10
-- "A record buffer that the run's moves don't fit"
refusal_number Refusal.Record = 11
-- "sheets whose people or weights differ"
refusal_number Refusal.Strands = 12
-- "A slack above 8"
refusal_number Refusal.Slack = 13
-- "A sheet whose b isn't a multiple of a"
refusal_number Refusal.Multiple = 14

-- the number of an answer's refusal, 0 where it is none
abbrev pub number_of : {A : Type 0} → Result A Refusal → ℕ
number_of (Ok x) = 0
number_of (Err refusal) = refusal_number refusal
