-- Serves clause again of print_machine: a printed machine file is read again.
use Rattle.std.proofs.Common.{◌≡◌, ℕ, ◌^◌, ◌<◌, ◌≤◌, true, false, ◌&&◌, List, [], ◌∷◌, Some, None, Ok, refl, arith, rules}
use Rattle.std.specs.Prelude.{nat_le}
use Rattle.std.specs.List.{enumerate_from, AllByRecursion}
use Rattle.std.specs.Fmt.{decimal}
use Rattle.std.proofs.lemmas.Bool.Decides.{nat_tests}
use Rattle.std.specs.Str.{bytes_eq}
use lib.Chars.{codes}
use Rattle.strand_base.specs.Text.{IsPlainWord, IsPlainLine}
use Rattle.strand_base.proofs.TextAgain.{text_again, decimal_again, decimal_plain}
use Rattle.strand_inputs.specs.declared.conflict.Conflict.{Conflict}
use Rattle.strand_inputs.specs.declared.conflict.Conflict.TheVariants as conflicts
use Rattle.strand_inputs.specs.declared.mode.Mode.{Mode}
use Rattle.strand_inputs.specs.declared.mode.Mode.TheVariants as modes
use Rattle.strand_inputs.specs.declared.machine.Size.{Size}
use Rattle.strand_inputs.specs.declared.machine.Size.TheVariants as sizes
use Rattle.strand_inputs.specs.declared.machine.Setting.TheVariants as settings
use Rattle.strand_inputs.specs.declared.machine.Given.{Given}
use Rattle.strand_inputs.specs.Settings.{Settings}
use Rattle.strand_inputs.specs.Limits.{IsFrom1To, IsWithinLimits, fields_of_settings}
use Rattle.strand_inputs.specs.Reading.{◌>>=◌, each_line}
use Rattle.strand_inputs.specs.Machine.{setting_at, mode_word, conflict_words, machine_words, machine_text, machine, most_at, place, line_given, nothing_given, config_of, put, earlier, size_named}

mode_again : (m : Mode) → setting_at (codes "mode") (mode_word m) ≡ Some (settings.Mode m)
unfolding setting_at
mode_again modes.Strict = refl
mode_again modes.Epoch = refl
mode_again modes.Strand = refl

mode_plain : (m : Mode) → IsPlainWord (mode_word m)
mode_plain modes.Strict = search rules
mode_plain modes.Epoch = search rules
mode_plain modes.Strand = search rules

-- the word names the size, and no other key
abbrev Names : List ℕ → Size → Type 0
Names key z = (bytes_eq key (codes "mode") ≡ false) × (bytes_eq key (codes "conflict") ≡ false) × (size_named key ≡ Some z)

size_again : (key : List ℕ) (z : Size) (n : ℕ) → n < 2 ^ 64 → Names key z → setting_at key (decimal n) ≡ Some (settings.Size z n)
unfolding setting_at
size_again key z n fits named = rw (named.0, named.1, named.2, decimal_again n fits) refl

within_test : (most n : ℕ) → IsFrom1To most n → (nat_le 1 n && nat_le n most) ≡ true
within_test most n h = grind (arith, nat_tests)

size_line : (g : Given) (line : ℕ) (key : List ℕ) (z : Size) (n : ℕ) → Names key z → n < 2 ^ 64 → IsFrom1To (most_at (place z)) n → earlier g (settings.Size z n) ≡ None → line_given g line (key ∷ decimal n ∷ []) ≡ Ok (put g line (settings.Size z n))
size_line g line key z n named fits within fresh = rw (size_again key z n fits named, within_test (most_at (place z)) n within, fresh) refl

conflict_plain : (c : Conflict) → AllByRecursion IsPlainLine (conflict_words c)
conflict_plain conflicts.Stall = tt
conflict_plain conflicts.Tag = search rules

plain : (s : Settings) → IsWithinLimits (fields_of_settings s) → AllByRecursion IsPlainLine (machine_words s)
plain s h =
    let small : (n : ℕ) → n ≤ 64 → IsPlainWord (decimal n) = λ n le. decimal_plain n (omega arith) in (
      (search rules, (mode_plain s.mode, tt)),
      (
        (search rules, (small s.queue (omega arith), tt)),
        (
          (search rules, (small s.buffers (omega arith), tt)),
          (
            (search rules, (small s.ring (omega arith), tt)),
            ((search rules, (small s.flight (omega arith), tt)), ((search rules, (small s.sets (omega arith), tt)), ((search rules, (small s.ways (omega arith), tt)), conflict_plain s.conflict))),
          ),
        ),
      ),
    )

by_conflict : (P : Conflict → Type 0) → P conflicts.Stall → P conflicts.Tag → (c : Conflict) → P c
by_conflict P stall tag conflicts.Stall = stall
by_conflict P stall tag conflicts.Tag = tag

pub machine_again : (s : Settings) → IsWithinLimits (fields_of_settings s) → machine (machine_text s) ≡ Ok s
unfolding machine machine_text config_of each_line setting_at
machine_again s h =
    let mode_line : line_given nothing_given 1 (codes "mode" ∷ mode_word s.mode ∷ []) ≡ Ok (put nothing_given 1 (settings.Mode s.mode)) = rw (mode_again s.mode) refl in
    let g1 = put nothing_given 1 (settings.Mode s.mode) in
    let g2 = put g1 2 (settings.Size sizes.Queue s.queue) in
    let g3 = put g2 3 (settings.Size sizes.Buffers s.buffers) in
    let g4 = put g3 4 (settings.Size sizes.Ring s.ring) in
    let g5 = put g4 5 (settings.Size sizes.Flight s.flight) in
    let g6 = put g5 6 (settings.Size sizes.Sets s.sets) in
    let l2 = size_line g1 2 (codes "queue") sizes.Queue s.queue (refl, refl, refl) (omega arith) h.0 refl in
    let l3 = size_line g2 3 (codes "buffers") sizes.Buffers s.buffers (refl, refl, refl) (omega arith) h.1 refl in
    let l4 = size_line g3 4 (codes "ring") sizes.Ring s.ring (refl, refl, refl) (omega arith) h.2 refl in
    let l5 = size_line g4 5 (codes "flight") sizes.Flight s.flight (refl, refl, refl) (omega arith) h.3 refl in
    let l6 = size_line g5 6 (codes "sets") sizes.Sets s.sets (refl, refl, refl) (omega arith) h.4 refl in
    let l7 = size_line g6 7 (codes "ways") sizes.Ways s.ways (refl, refl, refl) (omega arith) h.5 refl in
    let g7 = put g6 7 (settings.Size sizes.Ways s.ways) in
    let last_line = by_conflict (λ c. (each_line line_given g7 (enumerate_from 8 (conflict_words c)) >>= config_of) ≡ Ok (record s { conflict = c })) refl refl s.conflict in
    rw (text_again (machine_words s) (plain s h)) (rw (mode_line, l2, l3, l4, l5, l6, l7) last_line)
