-- Serves write_run, write_summary and each line of fields or members: a text in parts.
-- A text in parts that are appended one after the other: before the first, after a further one, at one that stopped, and
-- after the last one.
use Rattle.std.proofs.Common.{◌≡◌, ℕ, List, [], ◌++◌, Result, refl, sym}
use Rattle.std.proofs.lemmas.List.{append-nil}
use Rattle.strand_base.specs.Puts.{AppendsFront, Puts}
use Rattle.strand_base.proofs.AppendsFront.{SoFar, so_far_more, so_far_stops, puts_after}

pub in_parts : {text parts old : List ℕ} → text ≡ parts → SoFar text parts old old
in_parts {old = old} e = record { done = []; appended = sym (append-nil old); parts = e }

pub further : {text old mid new : List ℕ} (a rest : List ℕ) → new ≡ mid ++ a → SoFar text (a ++ rest) old mid → SoFar text rest old new
further a rest more h = so_far_more _ (a ++ rest) a rest _ _ _ h refl more

pub stopped : {text old mid new : List ℕ} (a rest : List ℕ) → AppendsFront a mid new → SoFar text (a ++ rest) old mid → AppendsFront text old new
stopped a rest front h = so_far_stops _ (a ++ rest) a rest _ _ _ h refl front

pub last : {T E : Type 0} (r : Result T E) {text old mid : List ℕ} (a new : List ℕ) → Puts r a mid new → SoFar text a old mid → Puts r text old new
last r a new put h = rw h.parts (puts_after r h.done a _ _ new h.appended put)

-- the last one of a list
pub last_of_all : {T E : Type 0} (r : Result T E) {text old mid : List ℕ} (a new : List ℕ) → Puts r a mid new → SoFar text (a ++ []) old mid → Puts r text old new
last_of_all r a new put h = last r a new put (rw (append-nil a) at h)
