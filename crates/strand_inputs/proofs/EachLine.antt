-- Serves read_machine, and clause gives of read_schedule: one line more of a text, or its first fault.
use Rattle.std.proofs.Common.{◌≡◌, ℕ, ◌+◌, List, [], ◌∷◌, Result, Ok, Err, refl, sym, ap, ◌∙◌}
use Rattle.strand_base.specs.Text.{lines_of, content_of, words_of, with_words, numbered_lines}
use Rattle.strand_inputs.specs.declared.fault.InputFault.{InputFault}
use Rattle.strand_inputs.specs.declared.fault.InputFault.TheVariants as faults
use Rattle.strand_inputs.specs.Reading.{◌>>=◌, each_line, on_words, FailsInput}

with_line : {S : Type 0} (step : S → ℕ → List (List ℕ) → Result S InputFault) (s : S) (n : ℕ) (ws : List (List ℕ)) (rest : List (ℕ × List (List ℕ)))
    → each_line step s (with_words n ws rest) ≡ (on_words step s n ws >>= λ t. each_line step t rest)
unfolding each_line
with_line step s n [] rest = refl
with_line step s n (w ∷ ws) rest = refl

-- the lines from a first line on
pub first_line : {S : Type 0} (step : S → ℕ → List (List ℕ) → Result S InputFault) (s : S) (n : ℕ) (l : List ℕ) (here rest : List (List ℕ))
    → here ≡ l ∷ rest → each_line step s (numbered_lines n here) ≡ (on_words step s n (words_of (content_of l)) >>= λ t. each_line step t (numbered_lines (n + 1) rest))
unfolding numbered_lines
first_line step s n l here rest e = rw e (with_line step s n (words_of (content_of l)) (numbered_lines (n + 1) rest))

-- no line is left
pub no_line : {S : Type 0} (step : S → ℕ → List (List ℕ) → Result S InputFault) (s : S) (n : ℕ) → each_line step s (numbered_lines n (lines_of [])) ≡ Ok s
unfolding each_line numbered_lines lines_of
no_line step s n = refl

-- after a line that was read, and at its fault
pub goes_on : {S : Type 0} (step : S → ℕ → List (List ℕ) → Result S InputFault) (s t : S) (n : ℕ) (l : List ℕ) (here rest : List (List ℕ)) (total : Result S InputFault)
    → here ≡ l ∷ rest → Ok t ≡ on_words step s n (words_of (content_of l)) → each_line step s (numbered_lines n here) ≡ total → each_line step t (numbered_lines (n + 1) rest) ≡ total
goes_on step s t n l here rest total e read so_far =
    sym (first_line step s n l here rest e ∙ ap (λ r. r >>= λ u. each_line step u (numbered_lines (n + 1) rest)) (sym read)) ∙ so_far

pub stops : {S : Type 0} (step : S → ℕ → List (List ℕ) → Result S InputFault) (s : S) (f : InputFault) (n : ℕ) (l : List ℕ) (here rest : List (List ℕ)) (total : Result S InputFault)
    → here ≡ l ∷ rest → Err f ≡ on_words step s n (words_of (content_of l)) → each_line step s (numbered_lines n here) ≡ total → total ≡ Err f
stops step s f n l here rest total e read so_far =
    sym so_far ∙ first_line step s n l here rest e ∙ ap (λ r. r >>= λ u. each_line step u (numbered_lines (n + 1) rest)) (sym read)

-- a fault of one step is the fault of all
fails_first : {S : Type 0} (f : InputFault) (r : Result S InputFault) (k : S → Result S InputFault) (total : Result S InputFault) → (r >>= k) ≡ total → FailsInput f r → FailsInput f total
fails_first faults.OutOfMemory r k total e h = tt
fails_first (faults.BadLine l) r k total e h = sym e ∙ ap (λ x. x >>= k) h
fails_first (faults.Limit l v) r k total e h = sym e ∙ ap (λ x. x >>= k) h
fails_first (faults.Repeated l n) r k total e h = sym e ∙ ap (λ x. x >>= k) h
fails_first (faults.Missing y) r k total e h = sym e ∙ ap (λ x. x >>= k) h
fails_first (faults.CrashLength n m) r k total e h = sym e ∙ ap (λ x. x >>= k) h

pub stops_or_memory : {S : Type 0} (step : S → ℕ → List (List ℕ) → Result S InputFault) (s : S) (f : InputFault) (n : ℕ) (l : List ℕ) (here rest : List (List ℕ)) (total : Result S InputFault)
    → here ≡ l ∷ rest → FailsInput f (on_words step s n (words_of (content_of l))) → each_line step s (numbered_lines n here) ≡ total → FailsInput f total
stops_or_memory step s f n l here rest total e h so_far =
    fails_first f (on_words step s n (words_of (content_of l))) (λ u. each_line step u (numbered_lines (n + 1) rest)) total (sym (first_line step s n l here rest e) ∙ so_far) h
