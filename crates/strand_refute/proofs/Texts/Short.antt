-- Serves clause short of printed_certificates_are_read_again.
use Rattle.std.proofs.Common.{◌≡◌, ℕ, ◌+◌, ◌-◌, ◌*◌, ◌/◌, ◌%◌, ◌^◌, ◌<◌, ◌≤◌, List, [], ◌∷◌, ◌++◌, length, length-append, map, Option, Some, None, ap, arith}
use Rattle.std.specs.List.{AllByRecursion}
use Rattle.std.specs.Fmt.{decimal}
use Rattle.std.proofs.lemmas.Fmt.{length-decimal-le}
use Rattle.std.proofs.lemmas.List.FromFn.{length-map-range_with_len}
use lib.Chars.{codes}
use Rattle.strand_base.specs.Hexadecimal.{hex_digit, hex16}
use Rattle.strand_base.specs.Text.{line_text, text_of}
use Rattle.strand_refute.specs.CertificateSeen.{CertificateSeen}
use Rattle.strand_refute.specs.declared.certificate.Reason.{Reason}
use Rattle.strand_refute.specs.declared.certificate.Reason.TheVariants.{Joined, Order, Match}
use Rattle.strand_refute.specs.declared.certificate.Forced.{Forced}
use Rattle.strand_refute.specs.declared.certificate.Ending.{Ending}
use Rattle.strand_refute.specs.declared.limits.TheConstants.{MOST_CERTIFICATE_BYTES}
use Rattle.strand_refute.specs.Grammar.{event_words, reason_words, forced_words, ending_words, certificate_text}
use Rattle.strand_refute.specs.Fits.{OptionFits, ReasonFits, ForcedFits, EndingFits, CertificateFits}
use Rattle.strand_refute.proofs.Texts.Again.{text_append}

two_words : (a b : List ℕ) → length (line_text (a ∷ b ∷ [])) ≡ length a + length b + 2
two_words a b =
    let whole : length (line_text (a ∷ b ∷ [])) ≡ length (a ++ 32 ∷ (b ++ [])) + 1 = length-append (a ++ 32 ∷ (b ++ [])) (10 ∷ []) in
    omega (arith, whole, length-append a (32 ∷ (b ++ [])), length-append b [])

three_words : (a b c : List ℕ) → length (line_text (a ∷ b ∷ c ∷ [])) ≡ length a + length b + length c + 3
three_words a b c =
    let whole : length (line_text (a ∷ b ∷ c ∷ [])) ≡ length (a ++ 32 ∷ (b ++ 32 ∷ (c ++ []))) + 1 = length-append (a ++ 32 ∷ (b ++ 32 ∷ (c ++ []))) (10 ∷ []) in
    omega (arith, whole, length-append a (32 ∷ (b ++ 32 ∷ (c ++ []))), length-append b (32 ∷ (c ++ [])), length-append c [])

event_short : (n : ℕ) → n < 2 ^ 32 → length (decimal n) ≤ 10
event_short n lt = length-decimal-le 10 n (omega arith) (omega (arith, lt)) (omega (arith, lt))

hex_long : (n : ℕ) → length (hex16 n) ≡ 16
unfolding hex16
hex_long n = length-map-range_with_len (λ k. hex_digit (n / 2 ^ (60 - 4 * k) % 16)) 0 16

reason_short : (e : ℕ) (r : Reason) → e < 2 ^ 32 → ReasonFits r → length (line_text (reason_words e r)) ≤ 31
reason_short e Joined fits more = omega (arith, two_words (codes "joined") (decimal e), event_short e fits)
reason_short e (Order after) fits more = omega (arith, three_words (codes "order") (decimal e) (decimal after), event_short e fits, event_short after more)
reason_short e (Match None) fits more = omega (arith, three_words (codes "match") (decimal e) (codes "first"), event_short e fits)
reason_short e (Match (Some after)) fits more = omega (arith, three_words (codes "match") (decimal e) (decimal after), event_short e fits, event_short after more)

no_short : (word : ℕ) (last : Option ℕ) → OptionFits last → length (line_text (codes "no" ∷ hex16 word ∷ event_words last)) ≤ 31
no_short word None fits = omega (arith, three_words (codes "no") (hex16 word) (codes "first"), hex_long word)
no_short word (Some e) fits = omega (arith, three_words (codes "no") (hex16 word) (decimal e), hex_long word, event_short e fits)

lines_short : (fs : List Forced) (ending : Option Ending) → AllByRecursion ForcedFits fs → EndingFits ending
    → length (text_of (map forced_words fs ++ ending_words ending)) ≤ 31 * (length fs + length (ending_words ending))
lines_short [] None fits more = omega arith
lines_short [] (Some e) fits more = omega (arith, length-append (line_text (codes "no" ∷ hex16 e.word ∷ event_words e.last)) [], no_short e.word e.last more.1)
lines_short (f ∷ fs) ending fits more =
    omega (arith, length-append (line_text (forced_words f)) (text_of (map forced_words fs ++ ending_words ending)), reason_short f.event f.reason fits.0.0 fits.0.1, lines_short fs ending fits.1 more)

pub certificate_short : (c : CertificateSeen) → CertificateFits c → length (certificate_text c) ≤ MOST_CERTIFICATE_BYTES
unfolding certificate_text
certificate_short c fits =
    omega (arith, ap length (text_append (map forced_words c.forced) (ending_words c.ending)), lines_short c.forced c.ending fits.forced fits.ending, fits.few)
