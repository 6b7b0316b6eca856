-- Serves clause sent of StrandBuffers::sent, and release.
-- What the conditions of sends and releases give: the buffer is there, and what is sent may be released.
use Rattle.std.proofs.Common.{◌≡◌, ℕ, ◌<◌, Bool, true, ◌&&◌, inl, inr, [], List, length, map, refl, sym, ap, ◌∙◌}
use Rattle.std.specs.Prelude.{not, ◌==◌, slice_get, Some, None}
use Rattle.std.specs.Option.{option_map}
use Rattle.std.specs.declared.option.Option.{Option}
use Rattle.std.proofs.lemmas.Bool.{cases_lt, and_parts, eq-eqb, false≢true}
use Rattle.std.proofs.lemmas.List.{get_or_past, get_or-set_same}
use Rattle.std.proofs.lemmas.Option.{slice_get-map}
use Rattle.strand_buffer.specs.declared.entry.Entry.{Entry}
use Rattle.strand_buffer.specs.declared.entry.Stage.TheVariants.{Sent}
use Rattle.strand_buffer.specs.Entries.{passes, entry_is, is_buffered, is_sent, is_met_by, is_eligible, epoch_waits, word_waits, number_in}
use Rattle.strand_buffer.specs.Buffers.{Buffers, IsEligible, IsSent, list_in, sent, with_stage}

-- a buffer that has an entry is there
has_entry : (bs : Buffers) (b i : ℕ) (test : Entry → Bool) → entry_is test (list_in bs b) i ≡ true → b < length bs.lists
has_entry bs b i test is = elim (cases_lt b (length bs.lists)) [
  | inl lt ↦ lt
  | inr le ↦ absurd (false≢true (sym (ap (λ (es : List Entry). entry_is test es i) (get_or_past bs.lists b [] le)) ∙ is))
]

waits_to_be_sent : (durable : List ℕ) (es : List Entry) (i : ℕ) → is_eligible durable es i ≡ true → entry_is is_buffered es i ≡ true
waits_to_be_sent durable es i is =
    let in_order = (and_parts (entry_is is_buffered es i && not (epoch_waits es i) && not (word_waits es i)) (entry_is (is_met_by durable) es i) is).0 in
    (and_parts (entry_is is_buffered es i) (not (epoch_waits es i)) (and_parts (entry_is is_buffered es i && not (epoch_waits es i)) (not (word_waits es i)) in_order).0).0

pub eligible_there : (bs : Buffers) (b number : ℕ) (durable : List ℕ) → IsEligible bs b number durable → b < length bs.lists
eligible_there bs b number durable found = has_entry bs b found.0 is_buffered (waits_to_be_sent durable (list_in bs b) found.0 found.1)

pub sent_there : (bs : Buffers) (b number : ℕ) → IsSent bs b number → b < length bs.lists
sent_there bs b number found = has_entry bs b found.0 is_sent found.1

comes_to_sent : (number : ℕ) (o : Option Entry) → passes is_buffered o ≡ true → number_in o ≡ number
    → (passes is_sent (option_map (with_stage Sent number) o) ≡ true) × (number_in (option_map (with_stage Sent number) o) ≡ number)
comes_to_sent number None waits is = absurd (false≢true waits)
comes_to_sent number (Some e) waits is = let same : (e.number == number) ≡ true = eq-eqb e.number number is in rw same (refl, is)

-- an eligible persist that is sent may be released
pub sent_is : (bs : Buffers) (b number : ℕ) (durable : List ℕ) → IsEligible bs b number durable → IsSent (sent bs b number) b number
sent_is bs b number durable found =
    let es = list_in bs b in
    let i = found.0 in
    let list : list_in (sent bs b number) b ≡ map (with_stage Sent number) es = get_or-set_same bs.lists b (map (with_stage Sent number) es) [] (eligible_there bs b number durable found) in
    let entry : slice_get (list_in (sent bs b number) b) i ≡ option_map (with_stage Sent number) (slice_get es i) = ap (λ (xs : List Entry). slice_get xs i) list ∙ slice_get-map (with_stage Sent number) es i in
    let come = comes_to_sent number (slice_get es i) (waits_to_be_sent durable es i found.1) found.2 in
    (i, ap (passes is_sent) entry ∙ come.0, ap number_in entry ∙ come.1)
