use Rattle.std.proofs.Common.{◌≡◌, ◌∙◌, ap, false}
use Rattle.std.specs.Option.{is_none}
use Rattle.std.specs.Prelude.{not, string_bytes}
use Rattle.strand_inputs.specs.Stop.{stop_of}
use Rattle.strand_app.proofs.AgainWords.{behind_pair, last_pair}
use Rattle.strand_app.proofs.command.are_pairs.Goals as goal

pub loop-words-preserved : goal.loop-words-preserved
loop-words-preserved c =
    let some = rw (c.read_stop.ensures, c.as_str.ensures.value) at c.if-is_none.ensures in
    let none : is_none (stop_of (string_bytes c.stop-item.result)) ≡ false = ap not some in
    behind_pair c.loop-words.words.now c.stop-item.result c.stop-item.is c.in-len2-up.len_at_least none ∙ c.loop-words.invariant

pub returns : goal.returns
returns c = c.is_empty.ensures ∙ last_pair c.loop-words.words.now c.in_default.len_below ∙ c.loop-words.invariant
