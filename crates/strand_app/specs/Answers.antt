-- How a call answers: what it was given is refused, or this is what it puts.
use Rattle.std.specs.Prelude.{◌≡◌, ℕ, Bool, true, false, List}
use Rattle.strand_report.specs.FaultLines.{file_fault}
use Rattle.strand_report.specs.Refusals.{content_is_limit, refusal_line}
use Rattle.strand_report.specs.declared.refusal.Refusal.{Refusal}
use Rattle.strand_report.specs.declared.refusal.Refusal.TheVariants.{File, Stop, Bank, Size}
use Rattle.strand_app.specs.declared.fetching.OpenFault.{OpenFault}
use Rattle.strand_app.specs.declared.fetching.OpenFault.TheVariants.{Fetch, Refused, OutOfMemory}
use Rattle.strand_app.specs.declared.status.Made.{Made}
use Rattle.strand_app.specs.declared.status.Status.{Status}
use Rattle.strand_app.specs.declared.status.Status.TheVariants as status

abbrev pub content_status : (is_limit : Bool) → Status
content_status true = status.Limit
content_status false = status.Input

abbrev pub refusal_status : Refusal → Status
refusal_status (File k fault) = content_status (content_is_limit fault)
refusal_status (Stop past) = status.StopPast
refusal_status (Bank need have) = status.Limit
refusal_status (Size size) = status.Limit

-- The status and the text are those of files that didn't come or are refused; no text is made for want of memory.
abbrev pub AnswersFault : OpenFault → Made → Type 0
AnswersFault (Fetch k) made = (made.status ≡ status.FileFault) × (made.text.items ≡ file_fault k)
AnswersFault (Refused refused) made = (made.status ≡ refusal_status refused) × (made.text.items ≡ refusal_line refused)
AnswersFault OutOfMemory made = ⊥

-- the answer of a command that puts this
abbrev pub PutsOk : List ℕ → Made → Type 0
PutsOk text made = (made.status ≡ status.Ok) × (made.text.items ≡ text)
