use Rattle.std.proofs.Common.{◌≡◌, ℕ, ◌<◌, IsTrue, get_or, true}
use Rattle.strand_base.specs.Name.{is_label}
use Rattle.strand_image.specs.Checking.{stands_in_turn}
use Rattle.strand_image.specs.declared.symbol.Symbol.{Symbol}
use Rattle.strand_image.proofs.checking.first_misplaced.Given as goal

abbrev pub invariant-loop-k : goal.invariant-loop-k
invariant-loop-k l = record {
  placed : (j : ℕ) (d : Symbol) → j < l.k → stands_in_turn l.sizes l.symbols j d ≡ true;
  labels : (j : ℕ) (d : Symbol) → j < l.k → IsTrue (is_label (get_or l.symbols j d).name);
}
