-- Serves clauses again of print_crash and spelling of read_crash.
use Rattle.std.proofs.Common.{◌≡◌, ℕ, ◌*◌, ◌^◌, arith, length, List, [], refl, sym}
use Rattle.std.specs.Prelude.{Ok}
use Rattle.std.proofs.lemmas.List.{append-nil, drop_all}
use Rattle.std.proofs.lemmas.Bool.{eq-eqb}
use Rattle.strand_base.specs.LittleEndian.{u64_of, u64s, bytes_of_u64, AreBelow}
use Rattle.strand_base.proofs.LittleEndian.{AreBytes, u64_spells, length-spelt, list_again, list_spelt}
use Rattle.strand_inputs.specs.Crash.{crash_words_of, crash_bytes}

-- words that were written are read back
pub crash_again : (words : List ℕ) → AreBelow (2 ^ 64) words → crash_words_of (length words) (crash_bytes words) ≡ Ok words
unfolding crash_words_of
crash_again words below =
    let read : u64s (length words) (crash_bytes words) ≡ words = rw (append-nil (crash_bytes words)) at (list_again u64_of bytes_of_u64 8 (2 ^ 64) words [] u64_spells below) in
    rw (length-spelt u64_of bytes_of_u64 8 (2 ^ 64) words u64_spells, eq-eqb (8 * length words) (8 * length words) refl, read) refl

-- words that were read spell the bytes that they were read from
pub words_spelt : (count : ℕ) (bytes : List ℕ) → AreBytes bytes → length bytes ≡ 8 * count → bytes ≡ crash_bytes (u64s count bytes)
words_spelt count bytes all long =
    let spelt = list_spelt u64_of bytes_of_u64 8 (2 ^ 64) count bytes u64_spells all (omega (arith, long)) in
    sym (rw (drop_all (8 * count) bytes (omega (arith, long)), append-nil (crash_bytes (u64s count bytes))) at spelt)
