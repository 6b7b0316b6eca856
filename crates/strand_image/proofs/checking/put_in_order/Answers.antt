use Rattle.std.proofs.Common.{rules}
use Rattle.std.specs.Ordering.{is_lt}
use Rattle.std.proofs.lemmas.Fn.{always_returns_same}
use Rattle.std.proofs.lemmas.List.Sorted.{ranks_by}
use Rattle.strand_image.specs.Symbols.{symbol_cmp}
use Rattle.strand_image.proofs.Rules.{symbol_order}
use Rattle.strand_image.proofs.Order.{no_ties, sorted_is}
use Rattle.strand_image.proofs.checking.put_in_order.Goals as goal

pub returns : goal.returns
returns c =
    sorted_is c.args.symbols.now c.sort_unstable_by.new.self (no_ties c.args.symbols.now c.requires) c.sort_unstable_by.ensures.permutation
    (c.sort_unstable_by.ensures.sorted (λ x y. is_lt (symbol_cmp x y)) (ranks_by symbol_order (λ x. x)) (always_returns_same _ _ _ (λ a r q k. search rules)))
