-- The words so far are read.
use Rattle.std.proofs.Common.{◌≡◌, ℕ, ◌<◌}
use Rattle.std.specs.Prelude.{length, slice_index}
use Rattle.strand_cache.specs.Backing.{line_word, word_or_zero}
use Rattle.strand_cache.proofs.backing.line_words.Given as goal

abbrev pub invariant-loop-k : goal.invariant-loop-k
invariant-loop-k l = record {
  eight : length l.words ≡ 8;
  read : (k : ℕ) → k < l.k → slice_index l.words k ≡ word_or_zero l.memory (line_word l.line k);
}
