-- The first pass over a text: its sections' sizes, and the place of each label.
use Rattle.std.specs.Prelude.{◌≡◌, ℕ, ◌+◌, ◌≤◌, Bool, true, false, List, [], ◌∷◌, ◌++◌, Option, Some, None, Result, Ok, Err, if◌then◌else◌}
use Rattle.std.specs.Map.{lookup}
use Rattle.std.specs.Str.{bytes_eq}
use Rattle.strand_isa.specs.Faults.{is_in_range}
use Rattle.strand_base.specs.Text.{lines_of}
use Rattle.strand_asm_lines.specs.Line.{line_of}
use Rattle.strand_asm_lines.specs.declared.fault.LineKind.{LineKind}
use Rattle.strand_asm_lines.specs.declared.fault.LineKind.TheVariants.{UnknownName}
use Rattle.strand_asm_lines.specs.declared.line.Section.{Section}
use Rattle.strand_asm_lines.specs.declared.line.Section.TheVariants.{Code, Volatile, Persist}
use Rattle.strand_asm_lines.specs.declared.line.Body.{Body}
use Rattle.strand_asm_lines.specs.declared.line.Body.TheVariants as bodies
use Rattle.strand_asm_lines.specs.declared.line.Line.{Line}
use Rattle.strand_asm_lines.specs.declared.line.Pattern.{Pattern}
use Rattle.strand_asm_lines.specs.declared.mnemonic.Mnemonic.{Mnemonic}
use Rattle.strand_asm_lines.specs.declared.mnemonic.Mnemonic.TheVariants.{Li, La}
use Rattle.strand_asm.specs.Operands.{number}
use Rattle.strand_asm.specs.declared.place.Place.{Place}
use Rattle.strand_asm.specs.declared.layout.Layout.{Layout}
use Rattle.strand_asm.specs.declared.fault.AsmFault.{AsmFault}
use Rattle.strand_asm.specs.declared.fault.AsmFault.TheVariants.{Line as LineAt, Duplicate, OutOfMemory}

infixl 10 ◌>>=◌
abbrev pub ◌>>=◌ : {A B : Type 0} → Result A AsmFault → (A → Result B AsmFault) → Result B AsmFault
(Ok x) >>= f = f x
(Err e) >>= f = Err e

-- what the line with number n says, or its fault
abbrev pub at_line : {X : Type 0} → ℕ → Result X LineKind → Result X AsmFault
at_line n (Ok x) = Ok x
at_line n (Err kind) = Err (LineAt (record { line = n; kind = kind }))

-- a step at the line with number n
abbrev pub on_line : {S : Type 0} → (ℕ → S → Line → Result S AsmFault) → ℕ → S → List ℕ → Result S AsmFault
on_line step n s text = do
  line ← at_line n (line_of text)
  step n s line

-- a step at each line, the first of which has number n, up to the first fault
unfoldable pub over_lines : {S : Type 0} → (ℕ → S → Line → Result S AsmFault) → ℕ → S → List (List ℕ) → Result S AsmFault
over_lines step n s [] = Ok s
over_lines step n s (text ∷ texts) = do
  next ← on_line step n s text
  over_lines step (n + 1) next texts

-- where a label stands
unfoldable pub label_place : List (List ℕ × Place) → List ℕ → Option Place
label_place labels name = lookup (bytes_eq name) labels

-- how many words an instruction takes
abbrev pub size_by : Mnemonic → Pattern → ℕ
size_by Li p = if is_in_range 2048 (number p.second) then 1 else 2
size_by La p = 2
size_by _ p = 1

abbrev pub size_of : Pattern → ℕ
size_of p = size_by p.op p

-- how many words a section has, and so many more
abbrev pub count_in : Section → Layout → ℕ
count_in Code l = l.code
count_in Volatile l = l.volatile
count_in Persist l = l.persistent

abbrev pub with_more_words : Section → ℕ → Layout → Layout
with_more_words Code n l = record l { code = l.code + n }
with_more_words Volatile n l = record l { volatile = l.volatile + n }
with_more_words Persist n l = record l { persistent = l.persistent + n }

abbrev pub layout_after : Layout → Body → Layout
layout_after l bodies.Empty = l
layout_after l (bodies.Section s) = record l { section = s }
layout_after l (bodies.Entry target) = record l { cores = l.cores + 1 }
layout_after l (bodies.Word z) = with_more_words l.section 1 l
layout_after l (bodies.Space n) = with_more_words l.section n l
layout_after l (bodies.Code p) = with_more_words Code (size_of p) l

-- Instructions stand in the code, and '.space' does not.
abbrev pub is_code : Section → Bool
is_code Code = true
is_code Volatile = false
is_code Persist = false

abbrev pub is_placed : Section → Body → Bool
is_placed s (bodies.Code p) = is_code s
is_placed Code (bodies.Space n) = false
is_placed s body = true

-- A label stands at the next word of its section. Its name has no other label.
abbrev pub unless_duplicate : ℕ → Option Place → Layout → Result Layout AsmFault
unless_duplicate n (Some place) l = Err (Duplicate n place.line)
unless_duplicate n None l = Ok l

abbrev pub with_label : ℕ → Option (List ℕ) → Layout → Result Layout AsmFault
with_label n None l = Ok l
with_label n (Some name) l =
    unless_duplicate n (label_place l.labels name) (record l { labels = l.labels ++ (name, record { line = n; section = l.section; index = count_in l.section l }) ∷ [] })

-- the layout behind a line
unfoldable pub laid : ℕ → Layout → Line → Result Layout AsmFault
laid n l line = if is_placed l.section line.body then (do
  named ← with_label n line.label l
  Ok (layout_after named line.body)) else Err (LineAt (record { line = n; kind = UnknownName }))

unfoldable pub empty_layout : Layout
empty_layout = record { section = Code; cores = 0; code = 0; volatile = 0; persistent = 0; labels = [] }

unfoldable pub layout_of : List ℕ → Result Layout AsmFault
layout_of text = over_lines laid 1 empty_layout (lines_of text)

-- no number of a layout is past a bound
pub record IsAtMost (bound : ℕ) (l : Layout) : Type 0 where
  pub cores_bound : l.cores ≤ bound
  pub code_bound : l.code ≤ bound
  pub volatile_bound : l.volatile ≤ bound
  pub persistent_bound : l.persistent ≤ bound

-- A fault that was returned is the one that was read; want of memory says nothing.
abbrev pub FailsAssembly : {X : Type 0} → AsmFault → Result X AsmFault → Type 0
FailsAssembly OutOfMemory read = Unit {0}
FailsAssembly f read = read ≡ Err f

abbrev pub GivesAssembly : {X : Type 0} → Result X AsmFault → Result X AsmFault → Type 0
GivesAssembly (Ok x) read = read ≡ Ok x
GivesAssembly (Err f) read = FailsAssembly f read

-- the same of a call that leaves its value in a new state
abbrev pub GivesState : {U S : Type 0} → Result U AsmFault → S → Result S AsmFault → Type 0
GivesState (Ok u) new read = read ≡ Ok new
GivesState (Err f) new read = FailsAssembly f read
