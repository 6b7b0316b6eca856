use Rattle.std.proofs.Common.{rules, arith}
use Rattle.std.specs.Ordering.{is_lt}
use Rattle.std.proofs.lemmas.List.{length-map}
use Rattle.std.proofs.lemmas.Fn.{always_returns_same}
use Rattle.strand_image.specs.Checking.{by_name, names_of}
use Rattle.strand_image.proofs.ByName.{by_name_weak, in_order}
use Rattle.strand_image.proofs.checking.sort_by_name.Goals as goal

pub returns : goal.returns
returns c =
    let names = names_of c.args.symbols.now in
    in_order names c.number.new.order c.sort_unstable_by.new.self (simp length-map (omega arith)) c.number.ensures c.sort_unstable_by.ensures.permutation
    (c.sort_unstable_by.ensures.sorted (λ x y. is_lt (by_name names x y)) (by_name_weak names) (always_returns_same _ _ _ (λ a r q k. search rules)))
