-- The cases of document 01 with a star, and more where no starred one notices a wrong definition. The theorem `starred` (proofs/Starred.antt)
-- says that the definitions meet each of them.
use Rattle.std.specs.Prelude.{ℕ, zero, suc, ◌/◌, ◌%◌, true, false, List, [], ◌∷◌, ◌++◌, replicate}
use Rattle.finite.specs.Packed.{bytes_for}
use Rattle.model.specs.Record.{move_bytes}
use Rattle.model.specs.Strands.{joined_sheet}
use Rattle.model.specs.Replies.{refused, holds, unfair, wasteful, off_price, price_envy, accepted}
use Rattle.model.specs.Cases.{header, sheet, row, Case, shared_out, opens, lacks, judged, spelled, lent, lent_book, recorded, lent_record, joins, lent_join, marked, asked, listed, even_to_one, shown, measured, unmeasured, dealt_into, keeps_within, respects, lent_measured, priced}

unfoldable pub sheet_c : List ℕ
sheet_c = sheet 1 3 ("eeeee" ∷ "dddde" ∷ [])

-- a book that holds only sheet C
unfoldable pub book_c : List ℕ
book_c = 1 ∷ 0 ∷ 5 ∷ 0 ∷ 9 ∷ sheet_c

-- the contents and bodies of a book of two sheets of no chores, the second of which starts at `start` and has `size` bytes
unfoldable pub book_of_two : ℕ → ℕ → List ℕ
book_of_two start size = 2 ∷ 0 ∷ 9 ∷ 0 ∷ 7 ∷ 0 ∷ start ∷ 0 ∷ size ∷ header 1 0 1 2 ++ header 1 0 1 2

-- k entries of a start and no bytes
unfoldable pub entries : ℕ → ℕ → List ℕ
entries start zero = []
entries start (suc k) = 0 ∷ start ∷ 0 ∷ 0 ∷ entries start k

unfoldable pub sheet_d : List ℕ
sheet_d = sheet 1 2 ("eee" ∷ "eee" ∷ [])

unfoldable pub sheet_e : List ℕ
sheet_e = sheet 1 2 ("ed" ∷ "de" ∷ [])

-- a sheet with a list whose answer differs at slacks of 0, 1 and 2
unfoldable pub sheet_s : List ℕ
sheet_s = sheet 1 3 ("edede" ∷ "ddded" ∷ "dddde" ∷ [])

-- a sheet with a move in 2a
unfoldable pub sheet2a : List ℕ
sheet2a = sheet 1 3 ("deddddddd" ∷ "ddddddddd" ∷ "ddeddddde" ∷ [])

-- two strands: agent 1's row is all difficult in the first, and not on the sheet that they make
unfoldable pub strand1 : List ℕ
strand1 = sheet 1 3 ("dd" ∷ "ed" ∷ [])

unfoldable pub strand2 : List ℕ
strand2 = sheet 1 3 ("ede" ∷ "dee" ∷ [])

-- a strand whose rows fill a byte each
unfoldable pub eight : List ℕ
eight = sheet 1 3 ("edededed" ∷ "ddddeeee" ∷ [])

-- two chores that both agents find easy
unfoldable pub two_easy : List ℕ
two_easy = sheet 1 2 ("ee" ∷ "ee" ∷ [])

-- n agents and one chore, easy for each; one agent and m chores, easy for it
unfoldable pub agents : ℕ → List ℕ
agents n = header n 1 1 2 ++ replicate n 0

unfoldable pub chores : ℕ → List ℕ
chores m = header 1 m 1 2 ++ replicate (bytes_for m) 0

-- the header of a sheet with 33 agents and 4,001 chores: two rules broken
unfoldable pub too_many : List ℕ
too_many = header 33 4001 1 2

-- a book whose only sheet has k bytes
unfoldable pub book_of : ℕ → List ℕ
book_of k = 1 ∷ 0 ∷ 5 ∷ k / 256 ∷ k % 256 ∷ replicate k 0

-- two agents and m chores, with these bytes for their rows
unfoldable pub bytes : ℕ → List ℕ → List ℕ
bytes m rows = header 2 m 1 2 ++ rows

unfoldable pub table : List Case
table =
    -- A to G
    shared_out (sheet 1 2 ("" ∷ [])) [] [] 0 0
    ∷ shared_out (sheet 1 3 ("eeee" ∷ "dddd" ∷ [])) (2 ∷ 2 ∷ 1 ∷ 1 ∷ []) (3 ∷ 3 ∷ 3 ∷ 3 ∷ []) 2 0
    ∷ shared_out sheet_c (2 ∷ 2 ∷ 1 ∷ 1 ∷ 2 ∷ []) (3 ∷ 3 ∷ 3 ∷ 3 ∷ 1 ∷ []) 3 1
    ∷ shared_out sheet_d (2 ∷ 1 ∷ 1 ∷ []) (2 ∷ 2 ∷ 2 ∷ []) 1 0
    ∷ shared_out sheet_e (1 ∷ 2 ∷ []) (2 ∷ 2 ∷ []) 0 0
    ∷ shared_out (sheet 1 2 ("de" ∷ "de" ∷ [])) (2 ∷ 1 ∷ []) (4 ∷ 2 ∷ []) 1 0
    ∷ shared_out (sheet 1 3 ("eeedd" ∷ "ddded" ∷ "eeede" ∷ [])) (3 ∷ 1 ∷ 1 ∷ 2 ∷ 3 ∷ []) (3 ∷ 3 ∷ 3 ∷ 3 ∷ 3 ∷ []) 1 0
    ∷ shared_out sheet2a (3 ∷ 1 ∷ 3 ∷ 1 ∷ 1 ∷ 3 ∷ 2 ∷ 2 ∷ 3 ∷ []) (3 ∷ 1 ∷ 1 ∷ 3 ∷ 3 ∷ 3 ∷ 3 ∷ 3 ∷ 1 ∷ []) 7 2
    -- several agents of least sum when a group is cut
    ∷ shared_out (sheet 1 2 ("ddded" ∷ "ddddd" ∷ "ddedd" ∷ [])) (1 ∷ 3 ∷ 3 ∷ 1 ∷ 2 ∷ []) (2 ∷ 2 ∷ 1 ∷ 1 ∷ 2 ∷ []) 3 1
    -- the giver's lowest chore in 2a is entitled
    ∷ shared_out (sheet 2 3 ("ddddddddd" ∷ "edededddd" ∷ "edddddddd" ∷ [])) (3 ∷ 2 ∷ 2 ∷ 3 ∷ 2 ∷ 3 ∷ 1 ∷ 1 ∷ 1 ∷ []) (4 ∷ 6 ∷ 4 ∷ 6 ∷ 4 ∷ 6 ∷ 6 ∷ 6 ∷ 6 ∷ []) 8 2
    -- equal sums in 2a
    ∷ shared_out (sheet 1 3 ("ddedddddd" ∷ "ddddddddd" ∷ "dddddeddd" ∷ "edddddddd" ∷ "edddddddd" ∷ [])) (4 ∷ 1 ∷ 1 ∷ 4 ∷ 5 ∷ 3 ∷ 3 ∷ 2 ∷ 2 ∷ []) (1 ∷ 3 ∷ 1 ∷ 3 ∷ 3 ∷ 1 ∷ 3 ∷ 3 ∷ 3 ∷ []) 7 2
    -- three cuts: group 2 has its turn in 2a before group 1, and an agent of least sum receives
    ∷ shared_out (sheet 3 4 ("ddddddeeeeeeeeee" ∷ "dddeeedddddddddd" ∷ "deeddddddddddddd" ∷ "eddddddddddddddd" ∷ [])) (4 ∷ 3 ∷ 3 ∷ 2 ∷ 2 ∷ 2 ∷ 2 ∷ 3 ∷ 4 ∷ 3 ∷ 4 ∷ 4 ∷ 1 ∷ 1 ∷ 1 ∷ 1 ∷ []) (9 ∷ 9 ∷ 9 ∷ 9 ∷ 9 ∷ 9 ∷ 12 ∷ 12 ∷ 12 ∷ 12 ∷ 12 ∷ 12 ∷ 12 ∷ 12 ∷ 12 ∷ 12 ∷ []) 9 3
    -- three cuts: of the later groups the last has the agent of least sum
    ∷ shared_out (sheet 2 3 ("dddddddddeeeeeeeeee" ∷ "edddddddddddddddddd" ∷ "deedddddddddddddddd" ∷ "dddeeeddddddddddddd" ∷ "ddddddeeedddddddddd" ∷ [])) (2 ∷ 3 ∷ 3 ∷ 4 ∷ 4 ∷ 4 ∷ 5 ∷ 5 ∷ 5 ∷ 4 ∷ 5 ∷ 2 ∷ 3 ∷ 2 ∷ 3 ∷ 2 ∷ 1 ∷ 1 ∷ 1 ∷ []) (4 ∷ 4 ∷ 4 ∷ 4 ∷ 4 ∷ 4 ∷ 4 ∷ 4 ∷ 4 ∷ 6 ∷ 6 ∷ 6 ∷ 6 ∷ 6 ∷ 6 ∷ 6 ∷ 6 ∷ 6 ∷ 6 ∷ []) 10 3
    -- two givers of equal price-one in 2a
    ∷ shared_out (sheet 3 4 ("ddddddeeeeeeeee" ∷ "deddddddddddddd" ∷ "ddddeeddddddddd" ∷ "ddeeddddddddddd" ∷ "edddddddddddddd" ∷ [])) (5 ∷ 2 ∷ 4 ∷ 4 ∷ 3 ∷ 3 ∷ 3 ∷ 4 ∷ 2 ∷ 5 ∷ 2 ∷ 5 ∷ 1 ∷ 1 ∷ 1 ∷ []) (9 ∷ 9 ∷ 9 ∷ 9 ∷ 9 ∷ 9 ∷ 12 ∷ 12 ∷ 12 ∷ 12 ∷ 12 ∷ 12 ∷ 12 ∷ 12 ∷ 12 ∷ []) 8 2
    -- givers in two rings, several in one, and several who may receive
    ∷ shared_out (sheet 2 3 ("eddeeded" ∷ "dddddddd" ∷ "deddedee" ∷ "ddeddddd" ∷ [])) (4 ∷ 3 ∷ 4 ∷ 1 ∷ 1 ∷ 2 ∷ 3 ∷ 2 ∷ []) (6 ∷ 6 ∷ 4 ∷ 6 ∷ 6 ∷ 6 ∷ 6 ∷ 6 ∷ []) 6 1
    -- document 02, request 2: three chores that all find difficult, so that counts decide; one after a chore that opened as easy and counts too;
    -- two where the agent of fewest chores is not that of least sum
    ∷ shared_out (sheet 1 3 ("ddded" ∷ "dddde" ∷ "dddee" ∷ [])) (1 ∷ 2 ∷ 3 ∷ 1 ∷ 2 ∷ []) (9 ∷ 9 ∷ 9 ∷ 3 ∷ 3 ∷ []) 0 0
    ∷ shared_out (sheet 1 3 ("edd" ∷ "dde" ∷ [])) (1 ∷ 2 ∷ 2 ∷ []) (3 ∷ 9 ∷ 3 ∷ []) 0 0
    ∷ shared_out (sheet 1 3 ("eedd" ∷ "eddd" ∷ [])) (1 ∷ 1 ∷ 1 ∷ 2 ∷ []) (3 ∷ 3 ∷ 9 ∷ 9 ∷ []) 1 0
    -- all chores of the giver in 2a are entitled, which no run comes to
    ∷ lacks sheet_d (record { owners = 1 ∷ 1 ∷ 1 ∷ []; prices = 2 ∷ 2 ∷ 2 ∷ []; groups = 1 ∷ 2 ∷ []; entitled = 1 ∷ 1 ∷ 1 ∷ []; moves = 0; cuts = 2; stage = 1 })
    -- the list check, with the slack of one chore that document 01 has
    ∷ listed sheet_d (1 ∷ 1 ∷ 1 ∷ []) 1 3 (unfair 1 2)
    ∷ listed sheet_d (1 ∷ 1 ∷ 2 ∷ []) 1 3 holds
    ∷ listed sheet_e (2 ∷ 1 ∷ []) 1 2 wasteful
    ∷ shown sheet_e (2 ∷ 1 ∷ []) (1 ∷ 2 ∷ [])
    -- of several pairs the first by i and then by j
    ∷ listed (sheet 1 2 ("eeeeee" ∷ "eeeeee" ∷ "eeeeee" ∷ [])) (1 ∷ 1 ∷ 2 ∷ 2 ∷ 2 ∷ 2 ∷ []) 1 6 (unfair 1 3)
    -- EF1 itself: even, for the dearest chore taken off and not for the cheapest; nobody envies without chores; one chore too many
    ∷ even_to_one (sheet 1 3 ("ede" ∷ "dde" ∷ [])) (1 ∷ 1 ∷ 2 ∷ []) true
    ∷ even_to_one (sheet 1 2 ("e" ∷ "e" ∷ "e" ∷ [])) (3 ∷ []) true
    ∷ even_to_one sheet_d (1 ∷ 1 ∷ 1 ∷ []) false
    -- document 02, request 8: agent 1 with nothing taken off envies agent 2, without its difficult chore agent 3, and without an easy one too
    -- nobody
    ∷ listed sheet_s (1 ∷ 1 ∷ 1 ∷ 2 ∷ 3 ∷ []) 0 5 (unfair 1 2)
    ∷ listed sheet_s (1 ∷ 1 ∷ 1 ∷ 2 ∷ 3 ∷ []) 1 5 (unfair 1 3)
    ∷ listed sheet_s (1 ∷ 1 ∷ 1 ∷ 2 ∷ 3 ∷ []) 2 5 holds
    -- agent 2 goes by its own costs: what it holds, and which of it is the costliest
    ∷ listed sheet_c (2 ∷ 2 ∷ 1 ∷ 1 ∷ 2 ∷ []) 0 5 (unfair 2 1)
    ∷ listed (sheet 1 3 ("eee" ∷ "ede" ∷ [])) (2 ∷ 2 ∷ 1 ∷ []) 1 3 wasteful
    -- "plain envy-freeness": a list that has it, and one that is wasteful at a slack of 1
    ∷ listed sheet_e (1 ∷ 2 ∷ []) 0 2 holds
    ∷ listed sheet_e (2 ∷ 1 ∷ []) 0 2 (unfair 1 2)
    -- slacks of 8, which leaves one chore of 9, and of 9
    ∷ listed (sheet 1 3 ("eeeeeeeee" ∷ "eeeeeeeee" ∷ [])) (1 ∷ 1 ∷ 1 ∷ 1 ∷ 1 ∷ 1 ∷ 1 ∷ 1 ∷ 1 ∷ []) 8 9 (unfair 1 2)
    ∷ listed sheet_e (1 ∷ 2 ∷ []) 9 2 (refused 13)
    -- "after all the others"
    ∷ listed sheet_e (1 ∷ 2 ∷ []) 9 1 (refused 8)
    ∷ listed sheet_e (1 ∷ 3 ∷ []) 9 1 (refused 7)
    -- an owner too few, which comes before a short lent list, and one too many; an owner of 0 and of 3
    ∷ listed sheet_e (1 ∷ []) 1 1 (refused 6)
    ∷ listed sheet_e (1 ∷ 2 ∷ 1 ∷ []) 1 3 (refused 6)
    ∷ listed sheet_e (0 ∷ 2 ∷ []) 1 2 (refused 7)
    ∷ listed sheet_e (1 ∷ 3 ∷ []) 1 2 (refused 7)
    -- the price check
    ∷ priced sheet_c (2 ∷ 2 ∷ 1 ∷ 1 ∷ 2 ∷ []) (3 ∷ 3 ∷ 3 ∷ 3 ∷ 1 ∷ []) accepted
    ∷ priced sheet_c (2 ∷ 2 ∷ 1 ∷ 1 ∷ 2 ∷ []) (3 ∷ 3 ∷ 3 ∷ 3 ∷ 3 ∷ []) (off_price 1)
    -- price envy, which comes after a chore off its price; equal sums are no envy
    ∷ priced sheet_c (1 ∷ 1 ∷ 1 ∷ 1 ∷ 1 ∷ []) (3 ∷ 3 ∷ 3 ∷ 3 ∷ 3 ∷ []) (price_envy 1 2)
    ∷ priced sheet_c (1 ∷ 1 ∷ 1 ∷ 1 ∷ 1 ∷ []) (3 ∷ 3 ∷ 3 ∷ 3 ∷ 1 ∷ []) (off_price 5)
    ∷ priced sheet_d (1 ∷ 1 ∷ 2 ∷ []) (2 ∷ 2 ∷ 2 ∷ []) accepted
    -- prices of 0, of 1,000,000 and of one more, and a price too few
    ∷ priced sheet_e (1 ∷ 2 ∷ []) (0 ∷ 2 ∷ []) (refused 10)
    ∷ priced sheet_e (1 ∷ 2 ∷ []) (1000000 ∷ 1000000 ∷ []) accepted
    ∷ priced sheet_e (1 ∷ 2 ∷ []) (2 ∷ 1000001 ∷ []) (refused 10)
    ∷ priced sheet_e (1 ∷ 2 ∷ []) (2 ∷ []) (refused 10)
    -- 7 comes before 10
    ∷ priced sheet_e (1 ∷ 3 ∷ []) (0 ∷ 2 ∷ []) (refused 7)
    -- weights 2, 2
    ∷ judged (sheet 2 2 ("e" ∷ [])) 3
    -- n 32 and 33, m 4,000 and 4,001, b 1,000 and 1,001
    ∷ judged (agents 32) 0
    ∷ judged (agents 33) 1
    ∷ judged (chores 4000) 0
    ∷ judged (chores 4001) 2
    ∷ judged (sheet 1 1000 ("e" ∷ [])) 0
    ∷ judged (sheet 1 1001 ("e" ∷ [])) 3
    -- no agents; an easy weight of 0, and one above the difficult weight
    ∷ judged (header 0 0 1 2) 1
    ∷ judged (sheet 0 2 ("e" ∷ [])) 3
    ∷ judged (sheet 3 2 ("e" ∷ [])) 3
    -- 2 comes before 3, and 3 before 5
    ∷ judged (header 1 4001 2 2) 2
    ∷ judged (header 1 1 2 2) 3
    -- two rules broken: 1 comes before 2
    ∷ judged too_many 1
    -- document 02, request 5: sheet C's bytes
    ∷ spelled sheet_c (2 ∷ 0 ∷ 5 ∷ 0 ∷ 1 ∷ 0 ∷ 3 ∷ 0b00000000 ∷ 0b11110000 ∷ [])
    -- a set bit after the last reel: of 7 reels the last bit, of 9 the second of another byte, in either row; of 8 there is none
    ∷ judged (bytes 7 (0b11111110 ∷ 0b00000000 ∷ [])) 0
    ∷ judged (bytes 7 (0b11111111 ∷ 0b00000000 ∷ [])) 4
    ∷ judged (bytes 7 (0b11111110 ∷ 0b00000001 ∷ [])) 4
    ∷ judged (bytes 8 (0b11111111 ∷ 0b00000001 ∷ [])) 0
    ∷ judged (bytes 9 (255 ∷ 0b10000000 ∷ 255 ∷ 0b10000000 ∷ [])) 0
    ∷ judged (bytes 9 (255 ∷ 0b10000000 ∷ 255 ∷ 0b01000000 ∷ [])) 4
    -- a row of 9 reels on one byte, a byte too many, no byte of the weights; 5 comes before 4, and for fewer than 7 bytes before 1
    ∷ judged (bytes 9 (255 ∷ 255 ∷ [])) 5
    ∷ judged (bytes 7 (255 ∷ 255 ∷ 0 ∷ [])) 5
    ∷ judged (0 ∷ 0 ∷ 0 ∷ 0 ∷ 1 ∷ 0 ∷ []) 5
    -- a row of 9 difficult marks only is read as easy, and one whose ninth mark, in another byte, is easy is not
    ∷ shared_out (sheet 1 3 ("ddddddddd" ∷ "dddddddde" ∷ [])) (2 ∷ 2 ∷ 2 ∷ 2 ∷ 1 ∷ 1 ∷ 1 ∷ 1 ∷ 2 ∷ []) (3 ∷ 3 ∷ 3 ∷ 3 ∷ 3 ∷ 3 ∷ 3 ∷ 3 ∷ 1 ∷ []) 5 1
    -- document 02, request 7: "the scratch cases to try become 64 and 63"; an entry for each chore, and one fewer
    ∷ lent sheet_c 5 5 64 0
    ∷ lent sheet_c 5 5 63 8
    ∷ lent sheet_c 4 5 64 8
    ∷ lent sheet_c 5 4 64 8
    ∷ lent_book book_c 64000 64000 64 0
    ∷ lent_book book_c 64000 64000 63 8
    ∷ lent_book book_c 63999 64000 64 8
    ∷ lent_book book_c 64000 63999 64 8
    -- two sheets; a gap before the second, one byte left over; no sheets; 16 sheets and 17
    ∷ lent_book (book_of_two 16 7) 64000 64000 64 0
    ∷ lent_book (book_of_two 17 6) 64000 64000 64 9
    ∷ lent_book (book_of_two 16 6) 64000 64000 64 9
    ∷ lent_book (0 ∷ 0 ∷ 5 ∷ 0 ∷ 0 ∷ []) 64000 64000 64 9
    ∷ lent_book (16 ∷ entries 65 16) 64000 64000 64 0
    ∷ lent_book (17 ∷ entries 69 17) 64000 64000 64 9
    -- 65,535 bytes and 65,536
    ∷ lent_book (book_of 65530) 64000 64000 64 0
    ∷ lent_book (book_of 65531) 64000 64000 64 9
    -- a book's 9 comes before its 8
    ∷ lent_book [] 64000 64000 63 9
    -- the record of sheet C, and of a sheet with a move in 2a
    ∷ recorded sheet_c (0 ∷ 5 ∷ 1 ∷ 2 ∷ 1 ∷ 2 ∷ 0 ∷ 1 ∷ 1 ∷ 2 ∷ 2 ∷ 2 ∷ 0 ∷ 2 ∷ 1 ∷ 2 ∷ 2 ∷ 2 ∷ [])
    ∷ recorded sheet2a (0 ∷ 3 ∷ 2 ∷ 3 ∷ 1 ∷ 2 ∷ 0 ∷ 9 ∷ 2 ∷ 3 ∷ 1 ∷ 2 ∷ 0 ∷ 1 ∷ 2 ∷ 1 ∷ 2 ∷ 2 ∷ 0 ∷ 4 ∷ 2 ∷ 1 ∷ 2 ∷ 2 ∷ 0 ∷ 1 ∷ 1 ∷ 3 ∷ 3 ∷ 1 ∷ 0 ∷ 5 ∷ 2 ∷ 1 ∷ 3 ∷ 2 ∷ 0 ∷ 6 ∷ 2 ∷ 3 ∷ 3 ∷ 2 ∷ [])
    -- a record of 18 bytes and of 17 for three moves; 11 comes after 8
    ∷ lent_record sheet_c 5 5 64 3 18 0
    ∷ lent_record sheet_c 5 5 64 3 17 11
    ∷ lent_record sheet_c 5 5 63 3 17 8
    -- document 02, request 4: two strands, of 2 and 3 chores; a strand of no chores
    ∷ joins strand1 strand2 (sheet 1 3 ("ddede" ∷ "eddee" ∷ []))
    ∷ joins (sheet 1 3 ("" ∷ "" ∷ [])) strand2 strand2
    -- "Rows of difficult marks only are judged on the joined sheet.": on the first alone agent 1's row is read as easy
    ∷ shared_out strand1 (2 ∷ 1 ∷ []) (3 ∷ 3 ∷ []) 1 0
    ∷ shared_out (joined_sheet strand1 strand2) (2 ∷ 1 ∷ 1 ∷ 2 ∷ 1 ∷ []) (3 ∷ 9 ∷ 3 ∷ 3 ∷ 3 ∷ []) 0 0
    -- "Evenness isn't claimed for the parts.": the whole list is even, its first part is not
    ∷ listed (joined_sheet two_easy two_easy) (1 ∷ 1 ∷ 2 ∷ 2 ∷ []) 1 4 holds
    ∷ listed two_easy (1 ∷ 1 ∷ []) 1 2 (unfair 1 2)
    -- the seam in a byte: 7 chores and 3, of which the second and third lie in the next byte; 8 chores and 3; 3 chores and 8
    ∷ joins (sheet 1 3 ("eedddde" ∷ "ddeeeed" ∷ [])) strand2 (sheet 1 3 ("eeddddeede" ∷ "ddeeeeddee" ∷ []))
    ∷ joins eight strand2 (sheet 1 3 ("ededededede" ∷ "ddddeeeedee" ∷ []))
    ∷ joins strand2 eight (sheet 1 3 ("edeedededed" ∷ "deeddddeeee" ∷ []))
    -- a list of 9 bytes and of 8; 4,000 chores and 4,001
    ∷ lent_join strand1 strand2 9 0
    ∷ lent_join strand1 strand2 8 8
    ∷ lent_join (chores 3999) (chores 1) 507 0
    ∷ lent_join (chores 4000) (chores 1) 508 2
    -- people, the easy weight, the difficult weight differ
    ∷ lent_join (agents 2) (agents 3) 9 12
    ∷ lent_join strand1 (sheet 2 3 ("e" ∷ "e" ∷ [])) 9 12
    ∷ lent_join two_easy (sheet 1 3 ("e" ∷ "e" ∷ [])) 9 12
    -- several at once: the first sheet's own number, the second's own, 12, 2, 8
    ∷ lent_join too_many [] 0 1
    ∷ lent_join (agents 2) too_many 0 1
    ∷ lent_join (chores 4000) (agents 2) 0 12
    ∷ lent_join (chores 4000) (chores 1) 0 2
    -- the chores on both sides of the seam, and the first and last
    ∷ marked strand1 strand2 1 1 (row "dd")
    ∷ marked strand1 strand2 2 2 (row "ed")
    ∷ marked strand1 strand2 1 3 (row "ede")
    ∷ marked strand1 strand2 2 5 (row "dee")
    -- a person or chore that isn't there; 2 comes before 9
    ∷ asked strand1 strand2 0 1 9
    ∷ asked strand1 strand2 3 1 9
    ∷ asked strand1 strand2 1 0 9
    ∷ asked strand1 strand2 1 6 9
    ∷ asked (chores 4000) (chores 1) 2 1 2
    -- a joined count above 255; no chores at all
    ∷ joins (chores 200) (chores 100) (chores 300)
    ∷ lent_join (sheet 1 3 ("" ∷ "" ∷ [])) (sheet 1 3 ("" ∷ "" ∷ [])) 7 0
    -- a move of reel 300
    ∷ spelled (move_bytes (record { chore = 299; giver = 0; receiver = 1; round = 1; step = 2 })) (1 ∷ 44 ∷ 1 ∷ 2 ∷ 1 ∷ 2 ∷ [])
    -- the opening costs least in total: three chores that cost everybody 3, and two that cost their owners 1
    ∷ opens (sheet 1 3 ("ddded" ∷ "dddde" ∷ "dddee" ∷ [])) (1 ∷ 2 ∷ 3 ∷ 1 ∷ 2 ∷ []) 11
    -- document 02, request 9: one agent's pile is the whole sheet; no chores; fewer chores than agents
    ∷ measured (sheet 1 3 ("ede" ∷ [])) (5 ∷ [])
    ∷ measured (sheet 1 3 ("" ∷ "" ∷ [])) (0 ∷ 0 ∷ [])
    ∷ measured (sheet 1 2 ("e" ∷ "d" ∷ "e" ∷ [])) (1 ∷ 2 ∷ 1 ∷ [])
    -- each agent by its own marks; "Here rows are taken as marked.": a row of difficult marks only too
    ∷ measured sheet_c (3 ∷ 7 ∷ [])
    ∷ measured (sheet 1 3 ("eee" ∷ "ddd" ∷ [])) (2 ∷ 6 ∷ [])
    -- weights of 2 and 6: an easy chore beside a difficult one, and two easy ones beside each other
    ∷ measured (sheet 2 6 ("edd" ∷ "eed" ∷ [])) (8 ∷ 6 ∷ [])
    -- dealing: "difficult ones first", so that two easy ones lie together; each kind by number, and of several cheapest piles to the first
    ∷ dealt_into (sheet 1 2 ("eed" ∷ "eee" ∷ [])) 1 (2 ∷ 2 ∷ 1 ∷ [])
    ∷ dealt_into (sheet 1 2 ("eed" ∷ "eee" ∷ [])) 2 (1 ∷ 2 ∷ 1 ∷ [])
    ∷ dealt_into (sheet 1 3 ("edede" ∷ "eeeee" ∷ "eeeee" ∷ [])) 1 (3 ∷ 1 ∷ 3 ∷ 2 ∷ 3 ∷ [])
    -- b is a multiple of a, and is not
    ∷ unmeasured (sheet 2 6 ("e" ∷ [])) 0
    ∷ unmeasured (sheet 2 3 ("e" ∷ [])) 14
    ∷ unmeasured (sheet 400 1000 ("e" ∷ [])) 14
    -- "after the sheet's own checks": weights of 2 and 3 with 33 agents, 4,001 chores, no row, a set bit after the last chore
    ∷ unmeasured (header 33 1 2 3) 1
    ∷ unmeasured (header 1 4001 2 3) 2
    ∷ unmeasured (header 1 1 2 3) 5
    ∷ unmeasured (header 1 7 2 3 ++ (1 ∷ [])) 4
    -- request 10: "nobody's reels cost more than that person's measure": as much, and more
    ∷ keeps_within (sheet 1 3 ("eeee" ∷ "deee" ∷ [])) (1 ∷ 1 ∷ 2 ∷ 2 ∷ []) true
    ∷ keeps_within (sheet 1 3 ("eeee" ∷ "deee" ∷ [])) (1 ∷ 1 ∷ 1 ∷ 2 ∷ []) false
    -- each by its own measure: the second's is greater than what the first may have
    ∷ keeps_within (sheet 1 3 ("eee" ∷ "ddd" ∷ [])) (2 ∷ 2 ∷ 1 ∷ []) true
    ∷ keeps_within (sheet 1 3 ("eee" ∷ "ddd" ∷ [])) (1 ∷ 1 ∷ 1 ∷ []) false
    -- the share-out's list is even, and not within the measures
    ∷ shared_out (sheet 1 2 ("edd" ∷ "ede" ∷ [])) (1 ∷ 2 ∷ 2 ∷ []) (2 ∷ 4 ∷ 2 ∷ []) 0 0
    ∷ keeps_within (sheet 1 2 ("edd" ∷ "ede" ∷ [])) (1 ∷ 2 ∷ 2 ∷ []) false
    -- "Evenness isn't promised": one within the measures that is not even
    ∷ keeps_within (sheet 1 2 ("eee" ∷ "eee" ∷ "eed" ∷ [])) (3 ∷ 3 ∷ 1 ∷ []) true
    ∷ even_to_one (sheet 1 2 ("eee" ∷ "eee" ∷ "eed" ∷ [])) (3 ∷ 3 ∷ 1 ∷ []) false
    -- both properties are needed: one within the measures that is wasteful; and sheets with one list that has both
    ∷ keeps_within (sheet 1 2 ("ed" ∷ "de" ∷ [])) (2 ∷ 1 ∷ []) true
    ∷ shown (sheet 1 2 ("ed" ∷ "de" ∷ [])) (2 ∷ 1 ∷ []) (1 ∷ 2 ∷ [])
    ∷ respects (sheet 1 2 ("ed" ∷ "de" ∷ [])) (1 ∷ 2 ∷ [])
    ∷ respects (sheet 2 4 ("deed" ∷ "eeee" ∷ [])) (2 ∷ 1 ∷ 1 ∷ 2 ∷ [])
    -- fewer entries than chores, as many, and none needed; "8 is tested after 14", and 14 after the sheet's own
    ∷ lent_measured (sheet 2 6 ("ede" ∷ [])) 2 8
    ∷ lent_measured (sheet 2 6 ("ede" ∷ [])) 3 0
    ∷ lent_measured (sheet 2 6 ("" ∷ [])) 0 0
    ∷ lent_measured (sheet 2 3 ("ede" ∷ [])) 2 14
    ∷ lent_measured (sheet 2 3 ("ede" ∷ [])) 3 14
    ∷ lent_measured (header 33 1 2 3) 0 1
    ∷ lent_measured (header 1 7 2 3 ++ (1 ∷ [])) 0 4
    ∷ []
