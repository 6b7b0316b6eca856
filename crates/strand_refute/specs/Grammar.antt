-- What a certificate's text says: the certificate, or the first fault; and its printed form.
use Rattle.std.specs.Prelude.{ℕ, ◌+◌, ◌^◌, List, [], ◌∷◌, ◌++◌, map, length, Option, Some, None, Result, Ok, Err, nat_lt, if◌then◌else◌}
use Rattle.std.specs.Option.{option_map, option_and_then}
use Rattle.std.specs.Str.{bytes_eq}
use Rattle.std.specs.Fmt.{decimal}
use lib.Chars.{codes}
use Rattle.strand_base.specs.Hexadecimal.{hex16, hex16_in}
use Rattle.strand_base.specs.Text.{text_lines, text_of}
use Rattle.strand_inputs.specs.Machine.{decimal_in}
use Rattle.strand_inputs.specs.Reading.{◌>>=◌, each_line}
use Rattle.strand_inputs.specs.declared.fault.InputFault.{InputFault}
use Rattle.strand_inputs.specs.declared.fault.InputFault.TheVariants.{BadLine, Limit}
use Rattle.strand_refute.specs.CertificateSeen.{CertificateSeen}
use Rattle.strand_refute.specs.declared.certificate.Reason.{Reason}
use Rattle.strand_refute.specs.declared.certificate.Reason.TheVariants as reasons
use Rattle.strand_refute.specs.declared.certificate.Forced.{Forced}
use Rattle.strand_refute.specs.declared.certificate.Ending.{Ending}
use Rattle.strand_refute.specs.declared.reading.RawLine.{RawLine}
use Rattle.strand_refute.specs.declared.reading.RawLine.TheVariants.{Joined, Order, Match, No}
use Rattle.strand_refute.specs.declared.reading.Line.{Line}
use Rattle.strand_refute.specs.declared.reading.Line.TheVariants as lines
use Rattle.strand_refute.specs.declared.limits.TheConstants.{MOST_CERTIFICATE_LINES}

-- an event, or 'first' where there is none
unfoldable pub event_or_first : List ℕ → Option (Option ℕ)
event_or_first w = if bytes_eq w (codes "first") then Some None else option_map (λ n. Some n) (decimal_in w)

abbrev pub order_of : List ℕ → List ℕ → Option RawLine
order_of a b = option_and_then (λ e. option_map (λ f. Order e f) (decimal_in b)) (decimal_in a)

abbrev pub match_of : List ℕ → List ℕ → Option RawLine
match_of a b = option_and_then (λ e. option_map (λ f. Match e f) (event_or_first b)) (decimal_in a)

abbrev pub no_of : List ℕ → List ℕ → Option RawLine
no_of a b = option_and_then (λ h. option_map (λ f. No h f) (event_or_first b)) (hex16_in a)

unfoldable pub pair_of : List ℕ → List ℕ → List ℕ → Option RawLine
pair_of form a b = if bytes_eq form (codes "order") then order_of a b else (if bytes_eq form (codes "match") then match_of a b else (if bytes_eq form (codes "no") then no_of a b else None))

unfoldable pub single_of : List ℕ → List ℕ → Option RawLine
single_of form a = if bytes_eq form (codes "joined") then option_map (λ e. Joined e) (decimal_in a) else None

-- what the words of a line say
abbrev pub raw_line_of : List (List ℕ) → Option RawLine
raw_line_of [] = None
raw_line_of (form ∷ []) = None
raw_line_of (form ∷ a ∷ []) = single_of form a
raw_line_of (form ∷ a ∷ b ∷ []) = pair_of form a b
raw_line_of (form ∷ a ∷ b ∷ more ∷ words) = None

-- the number of an event has 32 bits
abbrev pub event_number : ℕ → ℕ → Result ℕ InputFault
event_number line n = if nat_lt n (2 ^ 32) then Ok n else Err (Limit line n)

abbrev pub event_number_or_none : ℕ → Option ℕ → Result (Option ℕ) InputFault
event_number_or_none line None = Ok None
event_number_or_none line (Some n) = do
  event ← event_number line n
  Ok (Some event)

abbrev pub forced_line : ℕ → Reason → Line
forced_line event reason = lines.Forced (record { event = event; reason = reason })

-- its numbers, in the order of the line
abbrev pub line_of : ℕ → RawLine → Result Line InputFault
line_of line (Joined e) = do
  event ← event_number line e
  Ok (forced_line event reasons.Joined)
line_of line (Order e f) = do
  event ← event_number line e
  after ← event_number line f
  Ok (forced_line event (reasons.Order after))
line_of line (Match e f) = do
  event ← event_number line e
  after ← event_number_or_none line f
  Ok (forced_line event (reasons.Match after))
line_of line (No h f) = do
  last ← event_number_or_none line f
  Ok (lines.Ending (record { word = h; last = last }))

-- nothing stands behind the last line
abbrev pub raw_line_behind : ℕ → Option Ending → Option RawLine → Result RawLine InputFault
raw_line_behind line None (Some raw) = Ok raw
raw_line_behind line None None = Err (BadLine line)
raw_line_behind line (Some e) raw = Err (BadLine line)

abbrev pub with_line : CertificateSeen → Line → CertificateSeen
with_line so_far (lines.Forced f) = record { forced = so_far.forced ++ f ∷ []; ending = so_far.ending }
with_line so_far (lines.Ending e) = record { forced = so_far.forced; ending = Some e }

-- no more than 200,001 lines with words
abbrev pub within_lines : CertificateSeen → ℕ → Line → Result CertificateSeen InputFault
within_lines so_far line l = if nat_lt (length so_far.forced) MOST_CERTIFICATE_LINES then Ok (with_line so_far l) else Err (Limit line (MOST_CERTIFICATE_LINES + 1))

unfoldable pub line_added : CertificateSeen → ℕ → List (List ℕ) → Result CertificateSeen InputFault
line_added so_far line words = do
  raw ← raw_line_behind line so_far.ending (raw_line_of words)
  l ← line_of line raw
  within_lines so_far line l

abbrev pub no_lines : CertificateSeen
no_lines = record { forced = []; ending = None }

-- the certificate of a text
unfoldable pub certificate_of : List ℕ → Result CertificateSeen InputFault
certificate_of text = each_line line_added no_lines (text_lines text)

abbrev pub event_words : Option ℕ → List (List ℕ)
event_words None = codes "first" ∷ []
event_words (Some e) = decimal e ∷ []

abbrev pub reason_words : ℕ → Reason → List (List ℕ)
reason_words e reasons.Joined = codes "joined" ∷ decimal e ∷ []
reason_words e (reasons.Order after) = codes "order" ∷ decimal e ∷ decimal after ∷ []
reason_words e (reasons.Match after) = codes "match" ∷ decimal e ∷ event_words after

abbrev pub forced_words : Forced → List (List ℕ)
forced_words f = reason_words f.event f.reason

abbrev pub ending_words : Option Ending → List (List (List ℕ))
ending_words None = []
ending_words (Some e) = (codes "no" ∷ hex16 e.word ∷ event_words e.last) ∷ []

-- the printed form: a line for each event that is needed, and the last line
unfoldable pub certificate_text : CertificateSeen → List ℕ
certificate_text c = text_of (map forced_words c.forced) ++ text_of (ending_words c.ending)
