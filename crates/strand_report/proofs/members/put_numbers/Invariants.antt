use Rattle.std.proofs.Common.{◌≡◌, ◌∷◌, ◌++◌, take, decimal}
use Rattle.std.specs.List.{flat_map}
use Rattle.strand_report.proofs.members.put_numbers.Given as goal

abbrev pub invariant-loop-member : goal.invariant-loop-member
invariant-loop-member l = l.into.items ≡ l.fn.into.items ++ flat_map (λ n. 32 ∷ decimal n) (take l.member-index l.members)
