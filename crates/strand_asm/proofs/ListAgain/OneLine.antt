-- Serves clause again of list: a line in each of the two passes: one without a label, and one of a label alone.
use Rattle.std.proofs.Common.{◌≡◌, ℕ, ◌+◌, true, List, [], ◌∷◌, ◌++◌, length, Some, None, Result, Ok, refl}
use Rattle.strand_asm_lines.specs.Line.{line_of}
use Rattle.strand_asm_lines.specs.declared.line.Body.{Body}
use Rattle.strand_asm_lines.specs.declared.line.Body.TheVariants as bodies
use Rattle.strand_asm_lines.specs.declared.line.Line.{Line}
use Rattle.strand_asm.specs.declared.fault.AsmFault.{AsmFault}
use Rattle.strand_asm.specs.declared.layout.Layout.{Layout}
use Rattle.strand_asm.specs.declared.place.Place.{Place}
use Rattle.strand_asm.specs.declared.addition.Addition.{Addition}
use Rattle.strand_asm.specs.Layout.{count_in, is_placed, label_place, laid, layout_after, on_line, over_lines}
use Rattle.strand_asm.specs.DraftSeen.{DraftSeen}
use Rattle.strand_asm.specs.Draft.{added, addition, drafted}

-- a line without a label that says this
abbrev pub Says : List ℕ → Body → Type 0
Says text body = line_of text ≡ Ok (record { label = None; body = body })

pub over_more : {S : Type 0} (step : ℕ → S → Line → Result S AsmFault) (n : ℕ) (s t : S) (text : List ℕ) (texts : List (List ℕ)) → on_line step n s text ≡ Ok t → over_lines step n s (text ∷ texts) ≡ over_lines step (n + 1) t texts
unfolding over_lines
over_more step n s t text texts e = rw e refl

pub laid_line : (n : ℕ) (l : Layout) (text : List ℕ) (body : Body) → Says text body → is_placed l.section body ≡ true → on_line laid n l text ≡ Ok (layout_after l body)
unfolding laid
laid_line n l text body e placed = rw (e, placed) refl

-- what a line adds, wherever it stands
pub drafted_line : (whole : Layout) (n : ℕ) (d : DraftSeen) (text : List ℕ) (body : Body) (more : Addition) → Says text body
    → addition whole (record { line = n; at = length d.parts.code }) d.section body ≡ Ok more → on_line (drafted whole) n d text ≡ Ok (added d more)
unfolding drafted
drafted_line whole n d text body more e f = rw (e, f) refl

-- a line of a label alone
abbrev pub Marks : List ℕ → List ℕ → Type 0
Marks text name = line_of text ≡ Ok (record { label = Some name; body = bodies.Empty })

-- where a label on a line stands
abbrev pub place_on : ℕ → Layout → Place
place_on n l = record { line = n; section = l.section; index = count_in l.section l }

pub laid_label : (n : ℕ) (l : Layout) (text name : List ℕ) → Marks text name → label_place l.labels name ≡ None
    → on_line laid n l text ≡ Ok (record l { labels = l.labels ++ (name, place_on n l) ∷ [] })
unfolding laid
laid_label n l text name e new = rw (e, new) refl

-- It adds nothing.
pub drafted_label : (whole : Layout) (n : ℕ) (d : DraftSeen) (text name : List ℕ) → Marks text name → on_line (drafted whole) n d text ≡ Ok d
unfolding drafted addition added
drafted_label whole n d text name e = rw e refl
