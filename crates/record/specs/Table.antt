-- THE TABLE OF NUMBERS: 01's ("Where an order stops"), and in it each row that a request of 02 adds, at the place that the request
-- names. The rows are tested from the top. What a row asks stands in `Rows` and with the calls; here are the places and the order.
use Rattle.std.specs.Prelude.{ℕ, Bool, false, true, ◌||◌, List, [], ◌∷◌, eqb}

-- What a row's place names (01's first column): things that are lent, for every order that is lent such a thing, or orders.
pub data Place : Type 0 where
  buffers : Place
  header : Place
  records : Place
  store : Place
  counting : Place
  weighing : Place
  reducer : Place
  result : Place
  read_back : Place
  translator : Place
  writing_out : Place
  batch : Place
  read_store : Place
  conversion : Place
  conversion_back : Place

-- A row of the table: the places that it names, and its number.
pub record Entry : Type 0 where
  pub places : List Place
  pub number : ℕ

-- A row of the table from its places and its number.
abbrev pub entry : List Place → ℕ → Entry
entry ps n = record { places = ps; number = n }

-- THE TABLE. Row 11 is C-11's; 12 and 13 are C-14's, of the counting stepper and of the writing out alone; 14 is C-16's; 15 and 16 are
-- C-17's: a record's literals or numerals, and a store that is read, with what a state holds; 17 is C-18's, of moving back alone.
abbrev pub table : List Entry
table =
    entry (buffers ∷ []) 1
    ∷ entry (batch ∷ []) 14
    ∷ entry (header ∷ []) 2
    ∷ entry (header ∷ []) 3
    ∷ entry (records ∷ []) 4
    ∷ entry (records ∷ []) 5
    ∷ entry (counting ∷ []) 12
    ∷ entry (records ∷ []) 15
    ∷ entry (conversion_back ∷ []) 17
    ∷ entry (store ∷ []) 6
    ∷ entry (weighing ∷ []) 11
    ∷ entry (counting ∷ []) 13
    ∷ entry (read_store ∷ []) 16
    ∷ entry (reducer ∷ result ∷ []) 7
    ∷ entry (result ∷ []) 8
    ∷ entry (read_back ∷ []) 9
    ∷ entry (translator ∷ read_back ∷ writing_out ∷ batch ∷ conversion ∷ []) 10
    ∷ []

-- Some element of the list passes the test.
abbrev pub any : {A : Type 0} → (A → Bool) → List A → Bool
any f [] = false
any f (a ∷ l) = f a || any f l

-- The number stands in the table.
abbrev pub in_table : ℕ → Bool
in_table n = any (λ (e : Entry). eqb n e.number) table

-- THE NUMBERS OF AN ORDER, from what it is lent and its own name

-- Each place by a number, so that two can be compared.
abbrev pub place_number : Place → ℕ
place_number buffers = 0
place_number header = 1
place_number records = 2
place_number store = 3
place_number counting = 4
place_number weighing = 5
place_number reducer = 6
place_number result = 7
place_number read_back = 8
place_number translator = 9
place_number writing_out = 10
place_number batch = 11
place_number read_store = 12
place_number conversion = 13
place_number conversion_back = 14

-- The two places are the same.
abbrev pub same_place : Place → Place → Bool
same_place p q = eqb (place_number p) (place_number q)

-- The row names one of these places.
abbrev pub names : Entry → List Place → Bool
names e ps = any (λ (p : Place). any (same_place p) e.places) ps

-- A number in front of others, where the test holds.
abbrev pub number_if : Bool → ℕ → List ℕ → List ℕ
number_if true n ns = n ∷ ns
number_if false n ns = ns

-- The numbers of the rows that name one of the places, in their order.
abbrev pub numbers_in : List Place → List Entry → List ℕ
numbers_in ps [] = []
numbers_in ps (e ∷ es) = number_if (names e ps) e.number (numbers_in ps es)

-- The numbers that the table has for an order that has these places, from the top.
abbrev pub numbers_at : List Place → List ℕ
numbers_at ps = numbers_in ps table
