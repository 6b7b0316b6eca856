-- Serves clause gives of assemble, by layout_of and draft_of: one line more in a pass over a text.
use Rattle.std.proofs.Common.{◌≡◌, ℕ, ◌+◌, List, [], ◌∷◌, Result, Ok, refl, sym, ap, ◌∙◌}
use Rattle.strand_base.specs.Text.{lines_of}
use Rattle.strand_asm_lines.specs.declared.line.Line.{Line}
use Rattle.strand_asm.specs.declared.fault.AsmFault.{AsmFault}
use Rattle.strand_asm.specs.declared.fault.AsmFault.TheVariants as faults
use Rattle.strand_asm.specs.Layout.{◌>>=◌, over_lines, on_line, FailsAssembly}

module _ {S : Type 0} (step : ℕ → S → Line → Result S AsmFault) where
  -- the lines from a first line on
  pub first_line : (n : ℕ) (s : S) (l : List ℕ) (here rest : List (List ℕ)) → here ≡ l ∷ rest → over_lines step n s here ≡ (on_line step n s l >>= λ t. over_lines step (n + 1) t rest)
  unfolding over_lines
  first_line n s l here rest e = rw e refl

  -- no line is left
  pub no_line : (n : ℕ) (s : S) → over_lines step n s (lines_of []) ≡ Ok s
  unfolding over_lines lines_of
  no_line n s = refl

  -- after a line that was read, and at its fault
  pub goes_on : (n : ℕ) (s t : S) (l : List ℕ) (here rest : List (List ℕ)) (total : Result S AsmFault) → here ≡ l ∷ rest → on_line step n s l ≡ Ok t → over_lines step n s here ≡ total → over_lines step (n + 1) t rest ≡ total
  goes_on n s t l here rest total e read so_far = sym (first_line n s l here rest e ∙ ap (λ r. r >>= λ u. over_lines step (n + 1) u rest) read) ∙ so_far

  fails_first : (f : AsmFault) (r : Result S AsmFault) (k : S → Result S AsmFault) (total : Result S AsmFault) → (r >>= k) ≡ total → FailsAssembly f r → FailsAssembly f total
  fails_first faults.OutOfMemory r k total e h = tt
  fails_first (faults.Line l) r k total e h = sym e ∙ ap (λ x. x >>= k) h
  fails_first (faults.Duplicate l m) r k total e h = sym e ∙ ap (λ x. x >>= k) h
  fails_first (faults.Undefined l) r k total e h = sym e ∙ ap (λ x. x >>= k) h
  fails_first (faults.Range l z) r k total e h = sym e ∙ ap (λ x. x >>= k) h
  fails_first (faults.Limit q m) r k total e h = sym e ∙ ap (λ x. x >>= k) h

  pub stops : (n : ℕ) (s : S) (f : AsmFault) (l : List ℕ) (here rest : List (List ℕ)) (total : Result S AsmFault) → here ≡ l ∷ rest → FailsAssembly f (on_line step n s l) → over_lines step n s here ≡ total → FailsAssembly f total
  stops n s f l here rest total e h so_far = fails_first f (on_line step n s l) (λ u. over_lines step (n + 1) u rest) total (sym (first_line n s l here rest e) ∙ so_far) h
