-- Serves clause module_fault of strand_main: a report that a module's refusal ended has that as its last line.
use Rattle.std.proofs.Common.{◌≡◌, ℕ, List, [], ◌∷◌, ◌++◌, take, ◌∙◌, ap}
use Rattle.std.proofs.lemmas.List.{append-nil}
use Rattle.std.proofs.lemmas.List.Folds.{concat-append}
use Rattle.std.specs.List.{concat}
use Rattle.std.specs.declared.option.Option.{Option}
use Rattle.std.specs.declared.option.Option.TheVariants.{Some}
use Rattle.strand_report.specs.declared.module_fault.ModuleFault.{ModuleFault}
use Rattle.strand_report.specs.FaultLines.{module_fault_line}
use Rattle.strand_report.specs.Report.{View, fault_lines, report_parts, report_text}

-- the lines before
abbrev lines_before : View → List ℕ → List ℕ
lines_before view chain = concat (take 9 (report_parts view chain))

pub last_line : (view : View) (chain : List ℕ) (fault : ModuleFault) → view.fault ≡ Some fault
    → (front : List ℕ) × (report_text view chain ≡ front ++ module_fault_line fault)
unfolding report_text
last_line view chain fault e = (
  lines_before view chain,
  concat-append (take 9 (report_parts view chain)) (fault_lines view.fault ∷ [])
      ∙ ap (λ (s : List ℕ). lines_before view chain ++ s) (append-nil (fault_lines view.fault))
      ∙ ap (λ (f : Option ModuleFault). lines_before view chain ++ fault_lines f) e,
)
