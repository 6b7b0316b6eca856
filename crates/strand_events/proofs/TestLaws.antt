-- Serves Trace::push, clauses next, own and others of waits_are_kept_by_vectors, and edges of Graph::edges: laws of tests.
use Rattle.std.proofs.Common.{◌≡◌, Bool, true, false, ◌&&◌, refl, sym}

pub and_true : (x : Bool) → (x && true) ≡ x
and_true true = refl
and_true false = refl

-- two tests that imply each other are the same
pub same_from : (x y : Bool) → (x ≡ true → y ≡ true) → (y ≡ true → x ≡ true) → x ≡ y
same_from true y to from = sym (to refl)
same_from false true to from = from refl
same_from false false to from = refl
