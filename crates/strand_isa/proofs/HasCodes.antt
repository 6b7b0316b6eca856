-- Serves clause word of decode, by clause found of upper_with and its like.
-- What is found by its codes has them.
use Rattle.std.proofs.Common.{◌≡◌, ℕ, Bool, true, false, cond, List, [], ◌∷◌, Option, Some, refl, arith}
use Rattle.std.specs.Prelude.{IfSome}
use Rattle.std.proofs.lemmas.Bool.Decides.{nat_tests}
use Rattle.strand_isa.specs.Ops.{HasCodes, Row, has_codes, op_at}
use Rattle.strand_isa.specs.declared.ops.Codes.{Codes}

has : (c : Codes) (o f t : ℕ) → has_codes c o f t ≡ true → HasCodes c o f t
has c o f t e = grind (arith, nat_tests)

first : {Op : Type 0} (P : Op → Type 0) (b : Bool) (x : Op) (rest : Option Op) → (b ≡ true → P x) → IfSome rest P → IfSome (cond b (Some x) rest) P
first P true x rest here there = here refl
first P false x rest here there = there

pub found : {Op : Type 0} (row_of : Op → Row) (ops : List Op) (o f t : ℕ) → IfSome (op_at row_of ops o f t) (λ op. HasCodes (row_of op).codes o f t)
unfolding op_at
found row_of [] o f t = tt
found row_of (x ∷ xs) o f t =
    first (λ op. HasCodes (row_of op).codes o f t) (has_codes (row_of x).codes o f t) x (op_at row_of xs o f t)
    (λ e. has (row_of x).codes o f t e) (found row_of xs o f t)
