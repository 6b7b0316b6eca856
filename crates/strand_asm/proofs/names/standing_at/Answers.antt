use Rattle.std.proofs.Common.{get_or, ◌≤◌, length, drop, rules, arith}
use Rattle.std.proofs.lemmas.List.Sorted.{IsPartitionPoint-from_clause}
use Rattle.strand_asm.specs.Listing.{is_before, stands_at}
use Rattle.strand_asm.proofs.Standing.{before_parted, stands_parted, run_is, stands_late}
use Rattle.strand_asm.proofs.names.standing_at.Goals as goal

pub returns : goal.returns
returns c =
    let ss = c.args.symbols.now in
    let region = c.args.region in
    let at = c.args.place in
    let from = c.partition_point-from.result in
    let count = c.partition_point-count.result in
    let few = c.partition_point-from.ensures.bound in
    let parted = IsPartitionPoint-from_clause (is_before region at) ss from c.partition_point-from.ensures.partitioned (before_parted ss region at c.requires) (λ a r q k. search rules) in
    let rest_is = c.split_at.ensures.back in
    let clause = rw rest_is at c.partition_point-count.ensures.partitioned in
    let there = IsPartitionPoint-from_clause (stands_at region at) (drop from ss) count clause (stands_parted ss region at from c.requires (λ k d le lt. parted.1 k d le lt)) (λ a r q k. search rules) in
    let few_there : count ≤ length (drop from ss) = rw rest_is at c.partition_point-count.ensures.bound in
    rw (c.split_at-2.ensures.front, rest_is)
    (run_is (stands_at region at) ss from count few few_there (λ k d lt. stands_late (get_or ss k d) region at (parted.0 k d (omega arith) lt)) (λ k d lt. there.0 k d (omega arith) lt) (λ k d le lt. there.1 k d le lt))
