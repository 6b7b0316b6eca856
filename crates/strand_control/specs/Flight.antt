-- The requests in flight, in the order of sending, and what the write of one of them does.
use Rattle.std.specs.Prelude.{◌≡◌, ℕ, ◌<◌, Bool, true, false, ◌==◌, List, remove, slice_get, Some, None, Ok, Err}
use Rattle.std.specs.declared.option.Option.{Option}
use Rattle.strand_base.specs.Counting.{any_below}
use Rattle.strand_modules.specs.Bank.{BankSeen, Stores, store_refused}
use Rattle.strand_base.specs.Places.{persistent_place, address_of}
use Rattle.strand_control.specs.declared.request.Request.{Request}
use Rattle.strand_control.specs.declared.request.WriteTurn.{WriteTurn}
use Rattle.strand_control.specs.declared.request.WriteTurn.TheVariants.{Written, NoEntry, OlderWaits, Fault}

pub record Flight : Type 0 where
  pub requests : List Request
  -- how many there may be
  pub limit : ℕ

abbrev pub has_word : ℕ → Option Request → Bool
has_word word None = false
has_word word (Some r) = r.word == word

-- a request before place j has this word
abbrev pub older_waits : List Request → ℕ → ℕ → Bool
older_waits requests j word = any_below j (λ i. has_word word (slice_get requests i))

-- the request at place j, which no older one of its word precedes
pub record IsFree (requests : List Request) (j : ℕ) (r : Request) : Type 0 where
  pub there : slice_get requests j ≡ Some r
  pub free : older_waits requests j r.word ≡ false

-- the request at place j, which an older one of its word precedes
pub record IsKeptBack (requests : List Request) (j : ℕ) (r : Request) : Type 0 where
  pub there : slice_get requests j ≡ Some r
  pub older : older_waits requests j r.word ≡ true

-- one store of a request in the bank, accepted or refused by a module
abbrev pub StoresOk : BankSeen → BankSeen → Request → Type 0
StoresOk bank bank' r = Stores {T = Unit {0}} store_refused bank bank' (persistent_place r.word) r.value (Ok tt)

abbrev pub StoresErr : BankSeen → BankSeen → Request → ℕ → Type 0
StoresErr bank bank' r m = Stores {T = Unit {0}} store_refused bank bank' (persistent_place r.word) r.value (Err (record { «module» = m }))

-- what a write of the request at place j leaves of the list and of the bank, by its answer
abbrev pub Writes : Flight → Flight → BankSeen → BankSeen → ℕ → WriteTurn → Type 0
Writes old new bank bank' j NoEntry = (slice_get old.requests j ≡ None) × (new ≡ old) × (bank' ≡ bank)
Writes old new bank bank' j OlderWaits = (r : Request) × IsKeptBack old.requests j r × (new ≡ old) × (bank' ≡ bank)
Writes old new bank bank' j (Written r) = IsFree old.requests j r × (new ≡ record old { requests = remove old.requests j }) × StoresOk bank bank' r
Writes old new bank bank' j (Fault m) = (r : Request) × IsFree old.requests j r × (new ≡ old) × StoresErr bank bank' r m

-- each request's word is the one at a place of the bank
abbrev pub LieInBank : List Request → ℕ → Type 0
LieInBank requests size = (i : ℕ) (r : Request) → slice_get requests i ≡ Some r → (r.word ≡ address_of (persistent_place r.word)) × (persistent_place r.word < size)
