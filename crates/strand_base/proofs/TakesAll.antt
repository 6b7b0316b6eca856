-- Serves clauses ok and err of put_all: what a sink has taken, over several calls.
use Rattle.std.proofs.Common.{ℕ, ◌+◌, ◌≤◌, ◌<◌, List, ◌++◌, length, take, drop, append_assoc, ◌∙◌, ap, arith, length-drop}
use Rattle.std.proofs.lemmas.List.{length-take}
use Rattle.std.proofs.Math.Seq.{take-add}
use Rattle.std.specs.Prelude.{None, Some, Ok}
use Rattle.std.specs.declared.option.Option.{Option}
use Rattle.strand_base.proofs.Counts.{counted_again}
use Rattle.strand_base.specs.Counts.{next}
use Rattle.strand_base.specs.SinkSeen.{SinkSeen, Takes, TakesAll, TakesFront}

-- one piece after another
pub Takes-append : (first second third : Option (List ℕ)) (xs ys : List ℕ) → Takes first second xs → Takes second third ys → Takes first third (xs ++ ys)
Takes-append first second None xs ys before after = tt
Takes-append first None (Some zs) xs ys before after = absurd after
Takes-append None (Some zs) (Some ws) xs ys before after = absurd before
Takes-append (Some vs) (Some zs) (Some ws) xs ys before after = after ∙ ap (λ l. l ++ ys) before ∙ append_assoc vs xs ys

-- one put more, of the rest of the text
pub takes_more : {E : Type 0} (before middle now : SinkSeen) (text : List ℕ) (at count : ℕ) → at < length text
    → TakesAll before middle (take at text) → TakesFront {E = E} middle now (drop at text) (Ok count) → TakesAll before now (take (at + count) text)
takes_more before middle now text at count inside front more =
    let rest : 0 < length (drop at text) = omega (arith, inside, length-drop at text) in
    let bound : count ≤ length (drop at text) = more.bound in
    let some : 0 < count = more.some rest in
    record {
      taken = rw (take-add at count text) (Takes-append _ _ _ _ _ front.taken more.ok);
      quiet = more.cause.kept ∙ front.quiet;
      puts = front.puts + 1;
      made = more.made ∙ ap next front.made ∙ counted_again front.puts 1 before.puts;
      few = omega (arith, front.few, some, bound, length-take at text, length-take (at + count) text, length-drop at text);
      some = λ h. omega arith;
    }
