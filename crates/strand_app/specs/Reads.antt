-- What files say that are fetched and read one after the other.
use Rattle.std.specs.Prelude.{ℕ, ◌+◌, ◌-◌, List, [], Ok, Err, slice_index_or}
use Rattle.std.specs.declared.result.Result.{Result}
use Rattle.strand_report.specs.declared.refusal.ContentFault.{ContentFault}
use Rattle.strand_report.specs.declared.refusal.Refusal.{Refusal}
use Rattle.strand_report.specs.declared.refusal.Refusal.TheVariants as refusal

-- the contents of a command's files, in their order
abbrev pub Contents : Type 0
Contents = List (List ℕ)

pub record Reads (V : Type 0) : Type 0 where
  -- how many files are fetched
  pub fetches : ℕ
  -- what they say, or why what was given is refused
  pub result : Result V Refusal

abbrev pub in_file : {V : Type 0} → ℕ → Result V ContentFault → Result V Refusal
in_file k (Ok value) = Ok value
in_file k (Err fault) = Err (refusal.File k fault)

-- File k, counted from 1, is fetched and says this by its rule.
abbrev pub file : {V : Type 0} → ℕ → (List ℕ → Result V ContentFault) → Contents → Reads V
file k rule contents = record { fetches = 1; result = in_file k (rule (slice_index_or contents (k - 1) [])) }

-- No file is fetched for this.
abbrev pub decided : {V : Type 0} → Result V Refusal → Reads V
decided result = record { fetches = 0; result = result }

abbrev pub given : {V : Type 0} → V → Reads V
given value = decided (Ok value)

abbrev pub then_reads : {V W : Type 0} → ℕ → Result V Refusal → (V → Reads W) → Reads W
then_reads n (Ok value) next = record { fetches = n + (next value).fetches; result = (next value).result }
then_reads n (Err refused) next = record { fetches = n; result = Err refused }

-- the one, and then the other, where the first was not refused
infixl 1 ◌>>=◌
abbrev pub ◌>>=◌ : {V W : Type 0} → Reads V → (V → Reads W) → Reads W
reads >>= next = then_reads reads.fetches reads.result next
