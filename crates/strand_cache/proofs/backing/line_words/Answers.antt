-- One more word is read.
use Rattle.std.proofs.Common.{◌≡◌, ℕ, ◌+◌, ◌<◌, List, inl, inr, ap, sym, ◌∙◌, arith}
use Rattle.std.specs.Prelude.{slice_index, slice_set, length}
use Rattle.std.proofs.lemmas.Bool.{cases_eq}
use Rattle.std.proofs.lemmas.List.{get_or-set_same, get_or-set_other, length-set}
use Rattle.strand_cache.specs.Backing.{word_or_zero, line_word}
use Rattle.strand_cache.proofs.backing.line_words.Goals as goal

more : (words : List ℕ) (at value : ℕ) (f : ℕ → ℕ) → length words ≡ 8 → at < 8 → value ≡ f at → ((k : ℕ) → k < at → slice_index words k ≡ f k) → (k : ℕ) → k < at + 1 → slice_index (slice_set words at value) k ≡ f k
more words at value f eight within is before k lt = elim (cases_eq k at) [
  | inl same ↦
      let inside : at < length words = omega arith in
      ap (λ j. slice_index (slice_set words at value) j) same ∙ get_or-set_same words at value 0 inside ∙ is ∙ ap f (sym same)
  | inr ne ↦ let below : k < at = grind arith in get_or-set_other words at k value 0 ne ∙ before k below
]

pub loop-k-preserved : goal.loop-k-preserved
loop-k-preserved c = record {
  eight = length-set c.loop-k.words c.loop-k.k c.word_or_zero.result ∙ c.loop-k.invariant.eight;
  read = more c.loop-k.words c.loop-k.k c.word_or_zero.result (λ k. word_or_zero c.args.memory.now (line_word c.args.line k)) c.loop-k.invariant.eight (omega arith) c.word_or_zero.ensures c.loop-k.invariant.read;
}
